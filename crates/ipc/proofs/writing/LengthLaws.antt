-- Laws of the lengths of what is written, cut one over the largest payload.
-- Assumes nothing.
use Prim.Native.Nat.{ℕ, ◌+◌, ◌^◌, ◌≤◌, ◌<◌, min}
use mathlib.Core.Path.{◌≡◌, refl, sym, ap, ◌∙◌}
use mathlib.Core.List.{List}
use mathlib.Core.Logic.{⊎_elim}
use native.Mathlib.Omega.{arith}
use borrow.Author.Tests.{eq-eqb, ne_eqb}
use lib.IntN.{ℤ, pos}
use lib.ListN.{length}
use mir.Syntax.{w64}
use mir.Val.{SFits}
use Rattle.octets.specs.Numerals.{decimal_before, decimal}
use Rattle.bencode.specs.Value.{integer, encode_string, encode}
use Rattle.octets.proofs.digits.DigitLaws.{lt_or_le}
use Rattle.bencode.proofs.writing.PutParts.{string_size}
use Rattle.bencode.proofs.scalars.Ranges.{machine, same}
use Rattle.ipc.specs.declared.keys.Class.{Class}
use Rattle.ipc.specs.declared.writer.Given.{Given}
use Rattle.ipc.specs.Header.{largest_payload}
use Rattle.ipc.specs.Writer.{encode_given, encode_tag}
use Rattle.ipc.proofs.frames.VersionLaws.{from_machine}

-- a length that a number gives, added to the number: over the largest payload it does not matter which number gives it
cut_sum : (more : ℕ → ℕ) (n m : ℕ) → m ≡ min n (largest_payload + 1) → min (m + more m) (largest_payload + 1) ≡ min (more n + n) (largest_payload + 1)
cut_sum more n m e =
    ⊎_elim
    (λ (l : largest_payload < n). let b : largest_payload < m = omega (arith, l, e) in omega (arith, l, b))
    (λ (l : n ≤ largest_payload). let i : m ≡ n = omega (arith, l, e) in omega (arith, i, ap more i))
    (lt_or_le largest_payload n)

module _ (text : List ℕ) (n head : ℕ) (h : head ≡ length (decimal n) + 1) where
  -- a string, where n is its text's length
  pub string_sum : n ≡ length text → n + head ≡ length (encode_string text)
  string_sum e = omega (arith, e, h, ap (λ (k : ℕ). length (decimal k)) e, string_size text)

  -- a string, where n is its text's length cut
  pub string_cut : n ≡ min (length text) (largest_payload + 1) → min (n + head) (largest_payload + 1) ≡ min (length (encode_string text)) (largest_payload + 1)
  string_cut e =
      ap (λ (k : ℕ). min (n + k) (largest_payload + 1)) h
      ∙ cut_sum (λ (k : ℕ). length (decimal k) + 1) (length text) n e
      ∙ ap (λ (k : ℕ). min k (largest_payload + 1)) (sym (string_size text))

-- ---- a value that is handed in
module _ (class : Class) (given : Given) (s : List ℕ) where
  pub nothing_length : given ≡ Given.Nothing → 2 ≡ min (length (encode_given class given s)) (largest_payload + 1)
  unfolding encode_given decimal decimal_before
  nothing_length e = rw e refl

  pub integer_length_lem : (z : ℤ) (r : ℕ) → SFits w64 z → given ≡ Given.Integer z → (r ≡ length (encode (integer (machine z)))) × (r ≤ 23) → r ≡ min (length (encode_given class given s)) (largest_payload + 1)
  unfolding encode_given
  integer_length_lem z r f e h =
      let i : r ≡ length (encode (integer z)) = h.0 ∙ ap (λ (x : ℤ). length (encode (integer x))) (same z f) in
      rw e (omega (arith, i, h.1))

-- ---- a tag
module _ (tag : ℕ) where
  pub no_tag_length : tag ≡ 0 → 0 ≡ length (encode_tag tag)
  unfolding encode_tag
  no_tag_length e = rw (eq-eqb tag 0 e) refl

  pub tag_length_lem : (z : ℤ) → (tag ≡ 0 → ⊥) → tag < 2 ^ 63 → z ≡ pos tag → length (encode (integer (machine z))) ≡ length (encode_tag tag)
  unfolding encode_tag
  tag_length_lem z e h p = rw (ne_eqb tag 0 e, from_machine tag z h p) refl
