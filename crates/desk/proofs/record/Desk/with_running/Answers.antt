-- `desk::record::Desk::with_running` meets its contract.
-- Assumes nothing.
use mathlib.Core.Path.{◌≡◌, refl}
use native.Mathlib.Omega.{arith}
use lib.ListN.{length}
use Rattle.std.proofs.Math.Seq.{set_out}
use Rattle.desk.specs.Record.{watched, with_running}
use Rattle.desk.specs.Watch.{place}
use Rattle.desk.proofs.record.Desk.with_running.Goals as goal

pub returns-then-i-lt-PLACES : goal.returns-then-i-lt-PLACES
unfolding with_running
returns-then-i-lt-PLACES c = rw (c.place_of-i.ensures, c.watched.ensures)

pub returns-else-i-lt-PLACES : goal.returns-else-i-lt-PLACES
unfolding with_running
returns-else-i-lt-PLACES c =
    let d = c.args.self in
    let i : place c.args.id (watched d) ≡ c.place_of-i.result = rw (c.place_of-i.ensures, c.watched.ensures) refl in
    let long : length d.watch ≡ 32 = omega arith in
    rw (i, set_out d.watch c.place_of-i.result (record { id = c.args.id; running = c.args.running }) (omega (arith, long, c.if-i-lt-PLACES.false))) refl
