-- The sorter's limit is the frame's.
-- Assumes nothing.
use mathlib.Core.Path.{refl}
use Rattle.c_api.specs.Sort.{LimitsAgree}

pub limits_agree : LimitsAgree
limits_agree = refl
