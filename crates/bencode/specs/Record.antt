-- `noted_of` and `noted_at` are to be believed; `found_after` is pinned by the promise of `dictionary`, and nothing public
-- cites it. A dictionary walked, and the value of a key noted on the way.
-- Assumes nothing.
use Rattle.std.specs.Prelude.{ℕ, Bool, cond, List, Ok, Err, Option, Some, None, Result}
use Rattle.bencode.specs.declared.fault.Fault.{Fault}
use Rattle.bencode.specs.declared.profile.Profile.{Profile}
use Rattle.bencode.specs.declared.records.Noted.{Noted}
use Rattle.bencode.specs.Depth.{record_levels}
use Rattle.bencode.specs.Entry.{entry_at}
use Rattle.bencode.specs.Walk.{dictionary_at}
use Rattle.bencode.specs.Fault.{Walk}

-- what a walk of a dictionary and the search for a key in it come to
abbrev pub noted_of : Walk → Option ℕ → Result Noted Fault
noted_of (Ok end) e = Ok (record { end = end; value = e })
noted_of (Err f) e = Err f

-- the dictionary whose entries start at an offset, as a value of a list in a payload that is a list
unfoldable pub noted_at : Profile → List ℕ → List ℕ → ℕ → Result Noted Fault
noted_at p s key from = noted_of (dictionary_at p record_levels s from) (entry_at s key from)

-- where the value of a key was found, after one entry more: has it the key, and where its value is
abbrev pub found_after : Option ℕ → Bool → ℕ → Option ℕ
found_after None is value = cond is (Some value) None
found_after (Some found) is value = Some found
