-- Laws of ASCII in a text: bytes 1 to 7F are characters of one byte, so a text goes on after them.
-- Assumes nothing.
use Prim.Native.Nat.{ℕ, zero, suc, ◌+◌, ◌-◌, ◌≤◌, ◌<◌}
use mathlib.Core.Path.{◌≡◌, refl, sym, ap, subst, ◌∙◌}
use mathlib.Core.Logic.{◌⊎◌, inl, inr}
use mathlib.Core.Bool.{true}
use mathlib.Core.List.{List}
use native.Mathlib.Omega.{arith}
use lib.ListN.{length, drop, take, length-drop}
use lib.Seq.{get_or-take, get_or-drop, length-take-le}
use Rattle.octets.specs.Bytes.{byte_at, slice}
use Rattle.octets.proofs.digits.DigitLaws.{lt_or_le}
use Rattle.bencode.specs.Utf8.{following, lowest, highest, text_from, is_text, Plain, PlainAt, PlainBytes}
use Rattle.bencode.proofs.utf8.TextLaws.{one_byte, between, text_first, text_end_lem}

-- eight bytes one by one
pub plain_eight : (s : List ℕ) (at : ℕ) → PlainBytes (byte_at s at) (byte_at s (at + 1)) (byte_at s (at + 2)) (byte_at s (at + 3)) (byte_at s (at + 4)) (byte_at s (at + 5)) (byte_at s (at + 6)) (byte_at s (at + 7)) → PlainAt s at 8
plain_eight s at b zero h = let e : at + 0 ≡ at = omega arith in rw e b.0
plain_eight s at b (suc zero) h = b.1
plain_eight s at b (suc (suc zero)) h = b.2
plain_eight s at b (suc (suc (suc zero))) h = b.3
plain_eight s at b (suc (suc (suc (suc zero)))) h = b.4
plain_eight s at b (suc (suc (suc (suc (suc zero))))) h = b.5
plain_eight s at b (suc (suc (suc (suc (suc (suc zero)))))) h = b.6
plain_eight s at b (suc (suc (suc (suc (suc (suc (suc zero))))))) h = b.7
plain_eight s at b (suc (suc (suc (suc (suc (suc (suc (suc k)))))))) h = absurd (omega (arith, h))

-- the first eight bytes of what is left from an offset on
pub plain_chunk : (s : List ℕ) (at : ℕ) (ys : List ℕ) → ys ≡ take 8 (drop at s) → PlainAt ys 0 8 → PlainAt s at 8
plain_chunk s at ys e p k h =
    let z : 0 + k ≡ k = omega arith in
    let same : byte_at ys (0 + k) ≡ byte_at s (at + k) = ap (byte_at ys) z ∙ ap (λ (x : List ℕ). byte_at x k) e ∙ get_or-take 8 (drop at s) k 0 h ∙ get_or-drop at s k 0 in
    subst Plain same (p k h)

-- no bytes, and fewer
pub plain_none : (s : List ℕ) (at : ℕ) → PlainAt s at 0
plain_none s at k h = absurd (omega (arith, h))

pub plain_fewer : (s : List ℕ) (at n m : ℕ) → m ≤ n → PlainAt s at n → PlainAt s at m
plain_fewer s at n m l p k h = p k (omega (arith, h, l))

module _ (x : List ℕ) (low high : ℕ) where
  plain_step : (i : ℕ) → i < length x → 0 < byte_at x i → byte_at x i ≤ 0x7F → text_from 0 low high (drop (i + 1) x) ≡ text_from 0 low high (drop i x)
  plain_step i p l h =
      let b = byte_at x i in
      let one : following b ≡ 0 = one_byte b l h in
      between low high (lowest b) (highest b) (drop (i + 1) x)
      ∙ ap (λ (n : ℕ). text_from n (lowest b) (highest b) (drop (i + 1) x)) (sym one)
      ∙ text_first x i low high p 0 refl (omega (arith, one))

  pub plain_steps : (n i : ℕ) → i + n ≤ length x → PlainAt x i n → text_from 0 low high (drop (i + n) x) ≡ text_from 0 low high (drop i x)
  plain_steps zero i l p = let e : i + 0 ≡ i = omega arith in ap (λ (j : ℕ). text_from 0 low high (drop j x)) e
  plain_steps (suc n) i l p =
      let e : i + suc n ≡ i + 1 + n = omega arith in
      let here = p 0 (omega arith) in
      let at : i + 0 ≡ i = omega arith in
      ap (λ (j : ℕ). text_from 0 low high (drop j x)) e
      ∙ plain_steps n (i + 1) (omega (arith, l)) later
      ∙ plain_step i (omega (arith, l)) (subst (λ (j : ℕ). 0 < byte_at x j) at here.0) (subst (λ (j : ℕ). byte_at x j ≤ 0x7F) at here.1)
    where
      later : PlainAt x (i + 1) n
      later k h = let e : i + suc k ≡ i + 1 + k = omega arith in subst (λ (j : ℕ). Plain (byte_at x j)) e (p (suc k) (omega (arith, h)))

-- a part of a payload in ASCII is a text
pub plain_text_lem : (s : List ℕ) (start end : ℕ) → start ≤ end → end ≤ length s → PlainAt s start (end - start) → is_text (slice s start end) ≡ true
plain_text_lem s start end o w p =
    sym (plain_steps x 0x80 0xBF n 0 (omega (arith, size)) plain) ∙ text_end_lem x (0 + n) 0 0x80 0xBF (omega (arith, size))
  where
    n : ℕ
    n = end - start

    x : List ℕ
    x = slice s start end

    size : length x ≡ n
    size = length-take-le n (drop start s) (omega (arith, length-drop start s))

    plain : PlainAt x 0 n
    plain k h =
        let z : 0 + k ≡ k = omega arith in
        let e : byte_at x (0 + k) ≡ byte_at s (start + k) = ap (byte_at x) z ∙ get_or-take n (drop start s) k 0 h ∙ get_or-drop start s k 0 in
        subst Plain (sym e) (p k h)

-- eight bytes further what is left decides as it did
pub eight_further : (x : List ℕ) (i left : ℕ) → left ≡ 0 → i + 8 ≤ length x → PlainAt x i 8 → (low high : ℕ) → text_from left low high (drop (i + 8) x) ≡ text_from left low high (drop i x)
eight_further x i left z l p low high = rw z (plain_steps x low high 8 i l p)

-- eight bytes more
pub plain_more : (s : List ℕ) (from i : ℕ) → from ≤ i → PlainAt s from (i - from) → PlainAt s i 8 → PlainAt s from (i + 8 - from)
plain_more s from i o p q k h = go (lt_or_le k (i - from))
  where
    go : (k < i - from) ⊎ (i - from ≤ k) → Plain (byte_at s (from + k))
    go (inl l) = p k l
    go (inr l) = let e : i + (k - (i - from)) ≡ from + k = omega (arith, l, o) in subst (λ (j : ℕ). Plain (byte_at s j)) e (q (k - (i - from)) (omega (arith, l, h, o)))
