-- To be believed; `RefusalHasNoKind` says what a kind is worth. The reader's answer as numbers. What an answer does not name is
-- 0.
-- Assumes nothing.
use Rattle.std.specs.Prelude.{ℕ, ◌≡◌, cond, eqb, ℤ, pos}
use Rattle.ipc.specs.declared.numbers.Numbers.{Numbers}
use Rattle.ipc.specs.declared.numbers.ValueNumbers.{ValueNumbers}
use Rattle.ipc.specs.Answer.{Kind, no_kind, message, handshake, Content, nothing, integer, text, part, versions, Answer}

-- the number of what is read
abbrev pub kind_number : Kind → ℕ
kind_number no_kind = 0
kind_number message = 1
kind_number handshake = 2

-- a part of the frame from an offset on, or nothing
abbrev pub placed : ℕ → ℕ → ℕ → ValueNumbers
placed k at n = record { kind = k; min = 0; max = 0; start = at; length = n; integer = pos 0 }

-- an integer
abbrev pub numbered : ℤ → ValueNumbers
numbered z = record { kind = 1; min = 0; max = 0; start = 0; length = 0; integer = z }

-- the value of an answer: 0 nothing, 1 an integer, 2 a text, 3 a list or an unlisted value, 4 versions
abbrev pub value_numbers : Content → ValueNumbers
value_numbers nothing = placed 0 0 0
value_numbers (integer z) = numbered z
value_numbers (text at n) = placed 2 at n
value_numbers (part at n) = placed 3 at n
value_numbers (versions low high) = record { kind = 4; min = low; max = high; start = 0; length = 0; integer = pos 0 }

-- the answer: its kind is 0 unless it is accepted, for code 22 too, which has the key and the tag
abbrev pub numbers_of : Answer → Numbers
numbers_of a =
    record {
      code = a.code;
      kind = cond (eqb a.code 0) (kind_number a.kind) 0;
      key = a.key;
      tag = a.tag;
      offset = a.offset;
      consumed = a.consumed;
      value = value_numbers a.value;
    }

-- an answer that has a kind is accepted: a 22 is never taken for a message
abbrev pub RefusalHasNoKind : Type 0
RefusalHasNoKind = (a : Answer) → (a.code ≡ 0 → ⊥) → (numbers_of a).kind ≡ 0
