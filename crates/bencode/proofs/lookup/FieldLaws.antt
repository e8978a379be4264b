-- Laws of fields, one for each way through their code.
-- Assumes nothing.
use Prim.Native.Nat.{ℕ, ◌+◌}
use mathlib.Core.Path.{◌≡◌, refl, ap, ◌∙◌}
use mathlib.Core.Bool.{Bool, true, false, cond}
use mathlib.Core.List.{List}
use native.Mathlib.Omega.{arith}
use borrow.Author.Tests.{eq-eqb, ne_eqb}
use lib.Dec.{eqb}
use lib.IntN.{ℤ}
use mir.Syntax.{w64}
use mir.Val.{SFits}
use Rattle.bencode.specs.declared.field.Field.{Field}
use Rattle.bencode.specs.declared.integers.Number.{Number}
use Rattle.bencode.specs.declared.strings.Text.{Text}
use Rattle.octets.specs.Bytes.{byte_at}
use Rattle.bencode.specs.Strings.{string_at}
use Rattle.bencode.specs.Integers.{integer_at, number_of}
use Rattle.bencode.specs.Entry.{entry_at}
use Rattle.bencode.specs.Field.{number_field, text_field, field_at, entry_field, field_of, integer_in, if_integer}
use Rattle.bencode.proofs.walking.Ends.{integer_fits_lem, integer_ends}
use Rattle.bencode.specs.Loop.{Past}
use Rattle.bencode.proofs.lookup.EntryLaws.{find_past}
use Rattle.bencode.proofs.scalars.Ranges.{machine, same}
use Rattle.std.specs.Prelude.{Result, Ok, Err, Option, Some, None}
use Rattle.bencode.specs.declared.fault.Fault.{Fault}

module _ (s : List ℕ) (at : ℕ) where
  pub field_list : byte_at s at ≡ 108 → field_at s at ≡ Some (Field.List (at + 1))
  unfolding field_at
  field_list e = rw (eq-eqb (byte_at s at) 108 e) refl

  pub field_dictionary : byte_at s at ≡ 100 → field_at s at ≡ Some (Field.Dictionary (at + 1))
  unfolding field_at
  field_dictionary e = rw (ne_eqb (byte_at s at) 108 (λ q. omega arith), eq-eqb (byte_at s at) 100 e) refl

  pub field_integer : byte_at s at ≡ 105 → field_at s at ≡ number_field (integer_at s at)
  unfolding field_at
  field_integer e = rw (ne_eqb (byte_at s at) 108 (λ q. omega arith), ne_eqb (byte_at s at) 100 (λ q. omega arith), eq-eqb (byte_at s at) 105 e) refl

  pub field_text : (byte_at s at ≡ 108 → ⊥) → (byte_at s at ≡ 100 → ⊥) → (byte_at s at ≡ 105 → ⊥) → field_at s at ≡ text_field (string_at s at)
  unfolding field_at
  field_text l d i = rw (ne_eqb (byte_at s at) 108 l, ne_eqb (byte_at s at) 100 d, ne_eqb (byte_at s at) 105 i) refl

-- an integer that is read, as the machine has it
pub field_number : (s : List ℕ) (at : ℕ) (z : ℤ) (end : ℕ) → integer_at s at ≡ Ok (number_of z end) → Some (Field.Integer (machine z) end) ≡ number_field (integer_at s at)
field_number s at z end e = rw (same z (integer_fits_lem s at z end e), e) refl

pub field_entry : (s key : List ℕ) (from : ℕ) (e : Option ℕ) → entry_at s key from ≡ e → field_of s key from ≡ entry_field s e
unfolding field_of
field_entry s key from e q = ap (entry_field s) q

-- a field whose integer is told, and one that is none
abbrev integer_back : Field → Option Number → Field
integer_back f (Some n) = Field.Integer n.value n.end
integer_back f None = f

pub field_is : (f : Field) (n : Number) → integer_in f ≡ Some n → f ≡ Field.Integer n.value n.end
field_is (Field.Integer z end) n e = ap (integer_back (Field.Integer z end)) e
field_is (Field.Text start end) n e = ap (integer_back (Field.Text start end)) e
field_is (Field.List at) n e = ap (integer_back (Field.List at)) e
field_is (Field.Dictionary at) n e = ap (integer_back (Field.Dictionary at)) e

-- a key's integer is read where the key's value is
abbrev number_back : Option Field → Result Number Fault → Result Number Fault
number_back (Some (Field.Integer z end)) other = Ok (number_of z end)
number_back (Some (Field.Text start end)) other = other
number_back (Some (Field.List at)) other = other
number_back (Some (Field.Dictionary at)) other = other
number_back None other = other

pub field_read : (s key : List ℕ) (from : ℕ) (z : ℤ) (end : ℕ) → field_of s key from ≡ Some (Field.Integer z end) → (to : ℕ) × (Past s from to) × (integer_at s to ≡ Ok (number_of z end))
unfolding field_of field_at
field_read s key from z end e = go (entry_at s key from) refl e
  where
    number : (to : ℕ) (n : Result Number Fault) → integer_at s to ≡ n → number_field n ≡ Some (Field.Integer z end) → integer_at s to ≡ Ok (number_of z end)
    number to (Ok n) q e = q ∙ ap (λ (x : Option Field). number_back x (Ok n)) e
    number to (Err f) q e = let n : ◌≡◌ {A = ℕ} 0 1 = cc in absurd (omega arith)

    text : (t : Result Text Fault) → text_field t ≡ Some (Field.Integer z end) → ⊥
    text (Ok t) e = let n : ◌≡◌ {A = ℕ} 0 1 = cc in omega arith
    text (Err f) e = let n : ◌≡◌ {A = ℕ} 0 1 = cc in omega arith

    kinds : (to : ℕ) (t u v : Bool) → cond t (Some (Field.List (to + 1))) (cond u (Some (Field.Dictionary (to + 1))) (cond v (number_field (integer_at s to)) (text_field (string_at s to)))) ≡ Some (Field.Integer z end) → integer_at s to ≡ Ok (number_of z end)
    kinds to true u v e = let n : ◌≡◌ {A = ℕ} 0 1 = cc in absurd (omega arith)
    kinds to false true v e = let n : ◌≡◌ {A = ℕ} 0 1 = cc in absurd (omega arith)
    kinds to false false true e = number to (integer_at s to) refl e
    kinds to false false false e = absurd (text (string_at s to) e)

    go : (x : Option ℕ) → entry_at s key from ≡ x → entry_field s x ≡ Some (Field.Integer z end) → (to : ℕ) × (Past s from to) × (integer_at s to ≡ Ok (number_of z end))
    go None q e = let n : ◌≡◌ {A = ℕ} 0 1 = cc in absurd (omega arith)
    go (Some to) q e = (to, find_past s key from to q, kinds to (eqb (byte_at s to) 108) (eqb (byte_at s to) 100) (eqb (byte_at s to) 105) e)

-- so it ends after the search's start, in the payload, and is in the machine's range
pub field_ends : (s key : List ℕ) (from : ℕ) (z : ℤ) (end : ℕ) → field_of s key from ≡ Some (Field.Integer z end) → Past s from end
field_ends s key from z end e =
    let r = field_read s key from z end e in
    let a = r.1 in
    let b = integer_ends s r.0 z end r.2 in
    omega arith

pub field_fits : (s key : List ℕ) (from : ℕ) (f : Field) (n : Number) → field_of s key from ≡ Some f → integer_in f ≡ Some n → SFits w64 n.value
field_fits s key from f n e i =
    let r = field_read s key from n.value n.end (e ∙ ap Some (field_is f n i)) in
    integer_fits_lem s r.0 n.value n.end r.2

pub integer_other : {A : Type 0} (other : A) (make : ℤ → ℕ → A) (f : Field) → integer_in f ≡ None → if_integer other make (Some f) ≡ other
integer_other other make (Field.Integer z end) e = let n : ◌≡◌ {A = ℕ} 0 1 = cc in absurd (omega arith)
integer_other other make (Field.Text start end) e = refl
integer_other other make (Field.List at) e = refl
integer_other other make (Field.Dictionary at) e = refl
