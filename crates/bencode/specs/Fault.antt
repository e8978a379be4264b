-- 8, 10 and 11 are pinned as Key.antt says, and that no two causes have one number by `FaultNumbersTell`; the rest is to be believed.
-- Faults of a payload, and their codes and offsets (document 01, 'What the reader says', 5 to 9; document 02, 10 by request 03, and
-- 11, the strict profile's).
-- Assumes nothing.
use Rattle.std.specs.Prelude.{ℕ, Result, Ok, Err, Option, Some, None}
use Rattle.bencode.specs.declared.fault.Fault.{Fault}
use Rattle.bencode.specs.declared.fault.Cause.{Cause}

-- the number of a cause
abbrev pub cause_code : Cause → ℕ
cause_code Cause.Syntax = 5
cause_code Cause.Range = 6
cause_code Cause.Depth = 7
cause_code Cause.RepeatedKey = 8
cause_code Cause.Trailing = 9
cause_code Cause.IllFormedKey = 10
cause_code Cause.UnsortedKey = 11

-- the number of a cause, and 0 where there is none
abbrev pub fault_number : Option Cause → ℕ
fault_number None = 0
fault_number (Some c) = cause_code c

-- the fault with a cause at an offset
abbrev pub fault : Cause → ℕ → Fault
fault c at = record { cause = c; offset = at }

-- what a walk finds: the offset after the value, or the first fault
abbrev pub Walk : Type 0
Walk = Result ℕ Fault

-- the code of a walk: its fault's, and 0 where it is accepted
abbrev pub code_of : Walk → ℕ
code_of (Ok end) = 0
code_of (Err f) = cause_code f.cause

-- the offset of a walk: its fault's, and 0 where it is accepted
abbrev pub offset_of : Walk → ℕ
offset_of (Ok end) = 0
offset_of (Err f) = f.offset

-- the offset after what a walk found, and none for a fault
abbrev pub after_of : Walk → Option ℕ
after_of (Ok end) = Some end
after_of (Err f) = None
