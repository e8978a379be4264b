-- What is stored, as the parts that it is stored in.
-- Assumes nothing.
use Prim.Native.Nat.{ℕ, ◌+◌}
use mathlib.Core.Path.{◌≡◌, refl, sym, ap, ◌∙◌}
use mathlib.Core.List.{List, [], ◌∷◌, ◌++◌, flatten, append-nil}
use native.Mathlib.Omega.{arith}
use lib.IntN.{ℤ, pos, negsuc, nat_abs}
use lib.ListN.{length, length-append}
use Rattle.octets.specs.Numerals.{decimal}
use Rattle.bencode.specs.Value.{integer, sign, encode_string, encode}

abbrev pub integer_parts : ℤ → List (List ℕ)
integer_parts z = (105 ∷ []) ∷ sign z ∷ decimal (nat_abs z) ∷ (101 ∷ []) ∷ []

pub integer_parts_lem : (z : ℤ) → flatten (integer_parts z) ≡ encode (integer z)
unfolding encode flatten
integer_parts_lem (pos n) = refl
integer_parts_lem (negsuc n) = refl

abbrev pub string_parts : List ℕ → List (List ℕ)
string_parts text = decimal (length text) ∷ (58 ∷ []) ∷ text ∷ []

pub string_parts_lem : (text : List ℕ) → flatten (string_parts text) ≡ encode_string text
unfolding flatten
string_parts_lem text = ap (λ (l : List ℕ). decimal (length text) ++ (58 ∷ l)) (append-nil text)

pub integer_size : (z : ℤ) → length (encode (integer z)) ≡ length (sign z) + length (decimal (nat_abs z)) + 2
unfolding flatten
integer_size z = ap length (sym (integer_parts_lem z)) ∙ omega (arith, length-append (sign z) (decimal (nat_abs z) ++ (101 ∷ [])), length-append (decimal (nat_abs z)) (101 ∷ []))

pub string_size : (text : List ℕ) → length (encode_string text) ≡ length (decimal (length text)) + 1 + length text
string_size text = omega (arith, length-append (decimal (length text)) (58 ∷ text))
