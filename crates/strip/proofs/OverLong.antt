-- Over 16,384 bytes only `strip fault 16384` is printed.
-- Assumes nothing.
use mathlib.Core.Path.{refl}
use mathlib.Core.Bool.{false}
use Rattle.strip.specs.Printed.{records_from, records_of, printed_from, printed}
use Rattle.strip.specs.Demands.{OverLong}
use Rattle.strip.proofs.records.RecordLaws.{record_long}

pub over_long : OverLong
unfolding printed records_of records_from printed_from
over_long s h = rw (record_long s 0 false h) refl
