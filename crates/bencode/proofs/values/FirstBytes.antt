-- The first byte of a value's encoding tells its kind, and so what cannot be read there.
-- Assumes nothing.
use Prim.Native.Nat.{ℕ, ◌+◌, ◌≤◌, ◌<◌}
use mathlib.Core.Path.{◌≡◌, refl}
use mathlib.Core.List.{List, [], ◌∷◌, ◌++◌}
use native.Mathlib.Omega.{arith}
use lib.ListN.{length}
use Rattle.bencode.specs.declared.fault.Fault.{Fault}
use Rattle.bencode.specs.declared.strings.Text.{Text}
use Rattle.octets.specs.Bytes.{byte_at, Begins}
use Rattle.octets.specs.Numerals.{decimal}
use Rattle.bencode.specs.Strings.{string_at}
use Rattle.bencode.specs.Value.{Value, integer, string, list, dictionary, signed_decimal, encode_string, encode, encode_all, encode_entries}
use Rattle.bencode.proofs.walking.Ends.{string_whole_inv}
use Rattle.octets.proofs.sequences.BeginsLaws.{begins_left, begins_head}
use Rattle.bencode.proofs.values.ScalarReads.{first_digit}
use Rattle.std.specs.Prelude.{Result, Ok, Err}

abbrev pub FirstByte : Value → ℕ → Type 0
FirstByte (integer z) b = b ≡ 105
FirstByte (string text) b = (48 ≤ b) × (b ≤ 57)
FirstByte (list vs) b = b ≡ 108
FirstByte (dictionary es) b = b ≡ 100

module _ (s : List ℕ) where
  pub string_first : (at e : ℕ) (text rest : List ℕ) → Begins s at (encode_string text ++ rest) e → (48 ≤ byte_at s at) × (byte_at s at ≤ 57)
  string_first at e text rest b =
      let l = begins_left s at (at + length (encode_string text)) (decimal (length text)) (58 ∷ text) (begins_left s at e (encode_string text) rest b) in
      let f = first_digit s at (length text) (at + length (decimal (length text))) l in
      (f.low, f.high)

  pub first_byte : (v : Value) (at e : ℕ) (rest : List ℕ) → Begins s at (encode v ++ rest) e → FirstByte v (byte_at s at)
  unfolding encode
  first_byte (integer z) at e rest b = begins_head s at 105 e ((signed_decimal z ++ (101 ∷ [])) ++ rest) b
  first_byte (string text) at e rest b = string_first at e text rest b
  first_byte (list vs) at e rest b = begins_head s at 108 e ((encode_all vs ++ (101 ∷ [])) ++ rest) b
  first_byte (dictionary es) at e rest b = begins_head s at 100 e ((encode_entries es ++ (101 ∷ [])) ++ rest) b

  pub no_end : (v : Value) (b : ℕ) → FirstByte v b → b ≡ 101 → ⊥
  no_end (integer z) b h q = omega arith
  no_end (string text) b h q = omega arith
  no_end (list vs) b h q = omega arith
  no_end (dictionary es) b h q = omega arith

  -- no string begins with a byte above the digits
  pub no_string : (at : ℕ) → 57 < byte_at s at → (f : Fault) × (string_at s at ≡ Err f)
  no_string at h = go (string_at s at) refl
    where
      go : (t : Result Text Fault) → string_at s at ≡ t → (f : Fault) × (string_at s at ≡ Err f)
      go (Err f) e = (f, e)
      go (Ok t) e = absurd (omega (arith, (string_whole_inv s at t.start t.end e).high))
