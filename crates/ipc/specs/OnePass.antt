-- Pinned by the promise of `message`, which is `payload_reading`; nothing public cites it. A message by one walk: what the
-- functions of message.rt promise each other.
-- Assumes nothing.
use Rattle.std.specs.Prelude.{ℕ, ◌≡◌, List, Result, Ok, Err, Some}
use Rattle.bencode.specs.declared.fault.Fault.{Fault}
use Rattle.bencode.specs.declared.profile.Profile.{Profile}
use Rattle.bencode.specs.Depth.{list_levels, sublist_levels}
use Rattle.bencode.specs.Walk.{value_at, list_at, whole}
use Rattle.ipc.specs.declared.keys.Class.{Class}
use Rattle.ipc.specs.declared.lists.ListCheck.{ListCheck}
use Rattle.ipc.specs.declared.message.ValueCheck.{ValueCheck}
use Rattle.ipc.specs.declared.reading.Frame.{Frame}
use Rattle.ipc.specs.declared.reading.Refusal.{Refusal}
use Rattle.ipc.specs.Format.{part_value, formatted}
use Rattle.ipc.specs.Message.{tail_at, from_tag}
use Rattle.bencode.specs.Fault.{Walk}

-- the offset after a value
abbrev pub value_end : ValueCheck → ℕ
value_end (ValueCheck.Fits end) = end
value_end (ValueCheck.Other end) = end

-- a value that was walked only
abbrev pub walked_only : Walk → Result ValueCheck Fault
walked_only (Ok end) = Ok (ValueCheck.Other end)
walked_only (Err f) = Err f

-- a value that is a list: where an item is off its format, the rest is walked only
abbrev pub list_value : Profile → List ℕ → ListCheck → Result ValueCheck Fault
list_value profile p (ListCheck.Fits end) = Ok (ValueCheck.Fits end)
list_value profile p (ListCheck.Off at) = walked_only (list_at profile sublist_levels p at)

-- a value is in a format
abbrev pub InFormat : Class → List ℕ → ℕ → ℕ → Type 0
InFormat class p at end = formatted class p at end ≡ Some (part_value at end)

-- a value is in its format, where it is said to be
abbrev pub Held : Class → List ℕ → ℕ → ValueCheck → Type 0
Held class p at (ValueCheck.Fits end) = InFormat class p at end
Held class p at (ValueCheck.Other end) = Unit {0}

-- the value at an offset of a message: it ends, and may be in its format; or it has a fault
abbrev pub Valuing : Profile → Class → List ℕ → ℕ → Result ValueCheck Fault → Type 0
Valuing profile class p at (Ok c) = (value_at profile list_levels p at ≡ Ok (value_end c)) × Held class p at c
Valuing profile class p at (Err f) = value_at profile list_levels p at ≡ Err f

-- what is read of the key with a number and the value from an offset up to another, by the walk of what follows
abbrev pub rest_reading : List ℕ → ℕ → ℕ → ℕ → Walk → Result Frame Refusal
rest_reading p k at end (Ok last) = from_tag p k at end (tail_at p end)
rest_reading p k at end (Err f) = Err (Refusal.Payload f)

-- the same by the walk of the value
abbrev pub value_reading : Profile → List ℕ → ℕ → ℕ → Walk → Result Frame Refusal
value_reading profile p k at (Ok end) = rest_reading p k at end (whole p (list_at profile list_levels p end))
value_reading profile p k at (Err f) = Err (Refusal.Payload f)

-- what is read of the key with a number and the value at an offset
unfoldable pub keyed_reading : Profile → List ℕ → ℕ → ℕ → Result Frame Refusal
keyed_reading profile p k at = value_reading profile p k at (value_at profile list_levels p at)
