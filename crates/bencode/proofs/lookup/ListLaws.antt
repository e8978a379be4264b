-- Laws of a payload that is a list, taken value by value: which values were read, and what the rest comes to after them.
-- Assumes nothing.
use Prim.Native.Nat.{ℕ}
use mathlib.Core.Path.{◌≡◌, refl, sym, ap, ◌∙◌}
use mathlib.Core.Bool.{true}
use mathlib.Core.List.{List}
use native.Mathlib.Omega.{arith}
use lib.IntN.{ℤ}
use Rattle.std.proofs.lemmas.Option.{cond_some, none-some}
use Rattle.bencode.specs.declared.fault.Fault.{Fault}
use Rattle.bencode.specs.declared.integers.Number.{Number}
use Rattle.bencode.specs.declared.profile.Profile.{Profile}
use Rattle.octets.specs.Bytes.{byte_at}
use Rattle.bencode.specs.Depth.{list_levels}
use Rattle.bencode.specs.Integers.{within, integer_at, after_positive, number_of}
use Rattle.bencode.specs.Item.{item_at}
use Rattle.bencode.specs.Strings.{string_at, text_of}
use Rattle.bencode.specs.Walk.{value_at, list_at, whole, payload_at}
use Rattle.bencode.proofs.walking.Ends.{SignedInteger, plus, minus, string_whole_inv, integer_inv, integer_scalar}
use Rattle.bencode.proofs.walking.WalkLaws.{value_ends, value_list, scalar_value, list_fault_lem, list_more}
use Rattle.bencode.proofs.lookup.SkipLaws.{value_skips, string_scalar}
use Rattle.bencode.proofs.lookup.ItemLaws.{item_value}
use Rattle.std.specs.Prelude.{Ok, Err, Result, Some}

-- ---- an integer in a range, by the offset after it
module _ (s : List ℕ) (at r : ℕ) where
  pub after_number : (high : ℕ) → after_positive high (integer_at s at) ≡ Some r → (z : ℤ) × (integer_at s at ≡ Ok (number_of z r)) × (within 1 high z ≡ true)
  after_number high e = go (integer_at s at) refl e
    where
      go : (n : Result Number Fault) → integer_at s at ≡ n → after_positive high n ≡ Some r → (z : ℤ) × (integer_at s at ≡ Ok (number_of z r)) × (within 1 high z ≡ true)
      go (Ok n) q e =
          let c = cond_some (within 1 high n.value) n.end r e in (n.value, q ∙ ap (λ (j : ℕ). Ok (number_of n.value j)) c.1, c.0)
      go (Err f) q e = absurd (none-some r e)

-- ---- an integer, a string and a value that were read
pub integer_first : (s : List ℕ) (at : ℕ) (z : ℤ) (end : ℕ) → integer_at s at ≡ Ok (number_of z end) → byte_at s at ≡ 105
integer_first s at z end e = go (integer_inv s at z end e)
  where
    go : SignedInteger s at z end → byte_at s at ≡ 105
    go (plus b w) = b
    go (minus b c d w) = b

module _ (p : Profile) (levels : ℕ) (s : List ℕ) (at : ℕ) where
  pub integer_value_lem : (z : ℤ) (end : ℕ) → integer_at s at ≡ Ok (number_of z end) → value_at p levels s at ≡ Ok end
  integer_value_lem z end e = scalar_value p levels s at end (integer_scalar s at z end e)

  pub string_value : (start end : ℕ) → string_at s at ≡ Ok (text_of start end) → value_at p levels s at ≡ Ok end
  string_value start end e = scalar_value p levels s at end (string_scalar s at start end e)

  -- a value that was walked is the item there
  pub value_item : (end : ℕ) → (byte_at s at ≡ 101 → ⊥) → value_at p levels s at ≡ Ok end → Some end ≡ item_at s at
  value_item end b e = item_value s at b end (sym (value_skips s p levels at end e 0)) (value_ends p levels s at end e).0

-- ---- a payload that is a list and opens with a string
module _ (p : Profile) (s : List ℕ) (l : byte_at s 0 ≡ 108) (start at : ℕ) (text : string_at s 1 ≡ Ok (text_of start at)) (b : byte_at s at ≡ 101 → ⊥) where
  from_second : payload_at p s ≡ whole s (list_at p list_levels s at)
  unfolding payload_at
  from_second =
      let w = string_whole_inv s 1 start at text in
      ap (whole s) (sym (value_list p 16 15 s 0 refl l) ∙ sym (list_more p 15 s 1 (λ e. omega (arith, w.low, w.high, e)) at (string_value p 15 s 1 start at text)))

  pub second_walked : (end : ℕ) → value_at p list_levels s at ≡ Ok end → payload_at p s ≡ whole s (list_at p list_levels s end)
  second_walked end e = from_second ∙ ap (whole s) (sym (list_more p 15 s at b end e))

  pub second_fault : (f : Fault) → value_at p list_levels s at ≡ Err f → payload_at p s ≡ Err f
  second_fault f e = from_second ∙ ap (whole s) (sym (list_fault_lem p 15 s at b f e))
