-- To be believed. The walk of a payload, as numbers.
-- Assumes nothing.
use Rattle.std.specs.Prelude.{ℕ, Bool, true, false, Ok, Err}
use Rattle.bencode.specs.declared.profile.Profile.{Profile}
use Rattle.bencode.specs.Fault.{code_of, Walk}
use Rattle.c_api.specs.declared.walk.WalkAnswer.{WalkAnswer}

-- strict or loose
abbrev pub profile_of : Bool → Profile
profile_of true = Profile.Strict
profile_of false = Profile.Loose

-- where a walk stops: at its fault, or after the value, which is the payload's length
abbrev pub stop_of : Walk → ℕ
stop_of (Ok end) = end
stop_of (Err f) = f.offset

abbrev pub walk_numbers : Walk → WalkAnswer
walk_numbers w = record { code = code_of w; offset = stop_of w }
