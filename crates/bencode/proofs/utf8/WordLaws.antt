-- Eight bytes tested as one number: where the two tests of `are_plain` pass, each byte is 1 to 7F.
-- Assumes nothing.
use Prim.Native.Nat.{ℕ, ◌+◌, ◌*◌, ◌-◌, ◌^◌, ◌≤◌, ◌<◌}
use mathlib.Core.Path.{◌≡◌, refl, sym, ap, ◌∙◌}
use mathlib.Core.Logic.{⊎_elim}
use native.Mathlib.Omega.{arith}
use lib.Bits.{bit_and, and_block, and_le_l, and_le_r}
use Rattle.octets.proofs.digits.DigitLaws.{lt_or_le}
use Rattle.bencode.specs.Utf8.{PlainAt, PlainBytes, word_of}
use Rattle.octets.specs.Bytes.{byte_at}
use Rattle.bencode.proofs.utf8.PlainLaws.{plain_eight}
use Rattle.std.specs.Int.{w64, from_le_bytes}
use mathlib.Core.List.{List}

-- a byte without its highest bit
low_byte : (r : ℕ) → r < 256 → bit_and r 128 ≡ 0 → r ≤ 127
low_byte r h e = ⊎_elim (λ (l : r < 128). omega arith) high (lt_or_le r 128)
  where
    high : 128 ≤ r → r ≤ 127
    high l =
        let split : 1 * 2 ^ 7 + (r - 128) ≡ r = omega arith in
        let both : bit_and r 128 ≡ bit_and 1 1 * 2 ^ 7 + bit_and (r - 128) 0 = ap (λ (x : ℕ). bit_and x 128) (sym split) ∙ and_block 7 1 1 (r - 128) 0 (omega arith) (omega arith) in
        let one : bit_and 1 1 ≡ 1 = refl in
        absurd (omega (arith, both, one, e))

-- ---- the test of one byte, and of those above it
module _ (q r m : ℕ) (h : r < 256) where
  parts : bit_and (q * 256 + r) (m * 256 + 128) ≡ bit_and q m * 256 + bit_and r 128
  parts = and_block 8 q m r 128 h (omega arith)

  clear : bit_and (q * 256 + r) (m * 256 + 128) ≡ 0 → (bit_and q m ≡ 0) × (r ≤ 127)
  clear e =
      let p = parts in
      let z : bit_and r 128 ≡ 0 = omega (arith, p, e) in
      (omega (arith, p, e), low_byte r h z)

  set : bit_and (q * 256 + r) (m * 256 + 128) ≡ m * 256 + 128 → (bit_and q m ≡ m) × (128 ≤ r)
  set e =
      let p = parts in
      let l = and_le_r r 128 in
      let b : bit_and r 128 ≡ 128 = omega (arith, p, e, l) in
      let u = and_le_l r 128 in
      (omega (arith, p, e, l), omega (arith, b, u))

-- ---- eight bytes
-- the number by its bytes, the last one outermost
abbrev nested : ℕ → ℕ → ℕ → ℕ → ℕ → ℕ → ℕ → ℕ → ℕ
nested a b c d e f g h = ((((((h * 256 + g) * 256 + f) * 256 + e) * 256 + d) * 256 + c) * 256 + b) * 256 + a

pub record Bytes (a b c d e f g h : ℕ) (low high : ℕ) : Type 0 where
  pub first : (low ≤ a) × (a ≤ high)
  pub second : (low ≤ b) × (b ≤ high)
  pub third : (low ≤ c) × (c ≤ high)
  pub fourth : (low ≤ d) × (d ≤ high)
  pub fifth : (low ≤ e) × (e ≤ high)
  pub sixth : (low ≤ f) × (f ≤ high)
  pub seventh : (low ≤ g) × (g ≤ high)
  pub eighth : (low ≤ h) × (h ≤ high)

module _ (a b c d e f g h : ℕ) (ha : a < 256) (hb : b < 256) (hc : c < 256) (hd : d < 256) (he : e < 256) (hf : f < 256) (hg : g < 256) (hh : h < 256) where
  abbrev word : ℕ
  word = word_of a b c d e f g h

  below : bit_and word 0x8080808080808080 ≡ 0 → Bytes a b c d e f g h 0 127
  below z =
      let n : word ≡ nested a b c d e f g h = omega arith in
      let s0 = ap (λ (x : ℕ). bit_and x 0x8080808080808080) (sym n) ∙ z in
      let s1 = clear ((((((h * 256 + g) * 256 + f) * 256 + e) * 256 + d) * 256 + c) * 256 + b) a 0x80808080808080 ha s0 in
      let s2 = clear (((((h * 256 + g) * 256 + f) * 256 + e) * 256 + d) * 256 + c) b 0x808080808080 hb s1.0 in
      let s3 = clear ((((h * 256 + g) * 256 + f) * 256 + e) * 256 + d) c 0x8080808080 hc s2.0 in
      let s4 = clear (((h * 256 + g) * 256 + f) * 256 + e) d 0x80808080 hd s3.0 in
      let s5 = clear ((h * 256 + g) * 256 + f) e 0x808080 he s4.0 in
      let s6 = clear (h * 256 + g) f 0x8080 hf s5.0 in
      let s7 = clear h g 0x80 hg s6.0 in
      record {
        first = (omega arith, s1.1);
        second = (omega arith, s2.1);
        third = (omega arith, s3.1);
        fourth = (omega arith, s4.1);
        fifth = (omega arith, s5.1);
        sixth = (omega arith, s6.1);
        seventh = (omega arith, s7.1);
        eighth = (omega arith, low_byte h hh s7.0);
      }

  above : Bytes a b c d e f g h 0 127 → bit_and (word + 0x7F7F7F7F7F7F7F7F) 0x8080808080808080 ≡ 0x8080808080808080 → Bytes a b c d e f g h 1 127
  above l z =
      let n : word + 0x7F7F7F7F7F7F7F7F ≡ nested (a + 127) (b + 127) (c + 127) (d + 127) (e + 127) (f + 127) (g + 127) (h + 127) = omega arith in
      let s0 = ap (λ (x : ℕ). bit_and x 0x8080808080808080) (sym n) ∙ z in
      let s1 = set (((((((h + 127) * 256 + (g + 127)) * 256 + (f + 127)) * 256 + (e + 127)) * 256 + (d + 127)) * 256 + (c + 127)) * 256 + (b + 127)) (a + 127) 0x80808080808080 (omega (arith, l.first.1)) s0 in
      let s2 = set ((((((h + 127) * 256 + (g + 127)) * 256 + (f + 127)) * 256 + (e + 127)) * 256 + (d + 127)) * 256 + (c + 127)) (b + 127) 0x808080808080 (omega (arith, l.second.1)) s1.0 in
      let s3 = set (((((h + 127) * 256 + (g + 127)) * 256 + (f + 127)) * 256 + (e + 127)) * 256 + (d + 127)) (c + 127) 0x8080808080 (omega (arith, l.third.1)) s2.0 in
      let s4 = set ((((h + 127) * 256 + (g + 127)) * 256 + (f + 127)) * 256 + (e + 127)) (d + 127) 0x80808080 (omega (arith, l.fourth.1)) s3.0 in
      let s5 = set (((h + 127) * 256 + (g + 127)) * 256 + (f + 127)) (e + 127) 0x808080 (omega (arith, l.fifth.1)) s4.0 in
      let s6 = set ((h + 127) * 256 + (g + 127)) (f + 127) 0x8080 (omega (arith, l.sixth.1)) s5.0 in
      let s7 = set (h + 127) (g + 127) 0x80 (omega (arith, l.seventh.1)) s6.0 in
      record {
        first = (omega (arith, s1.1), l.first.1);
        second = (omega (arith, s2.1), l.second.1);
        third = (omega (arith, s3.1), l.third.1);
        fourth = (omega (arith, s4.1), l.fourth.1);
        fifth = (omega (arith, s5.1), l.fifth.1);
        sixth = (omega (arith, s6.1), l.sixth.1);
        seventh = (omega (arith, s7.1), l.seventh.1);
        eighth = (omega (arith, s7.0, and_le_l (h + 127) 128), l.eighth.1);
      }

  -- a number of eight bytes below 80 has room for the sum of the second test
  pub low_sum : bit_and word 0x8080808080808080 ≡ 0 → word + 0x7F7F7F7F7F7F7F7F < 2 ^ 64
  low_sum z =
      let l = below z in
      omega (arith, l.first.1, l.second.1, l.third.1, l.fourth.1, l.fifth.1, l.sixth.1, l.seventh.1, l.eighth.1)

  pub plain_word : bit_and word 0x8080808080808080 ≡ 0 → bit_and (word + 0x7F7F7F7F7F7F7F7F) 0x8080808080808080 ≡ 0x8080808080808080 → PlainBytes a b c d e f g h
  plain_word z y =
      let p = above (below z) y in
      (p.first, p.second, p.third, p.fourth, p.fifth, p.sixth, p.seventh, p.eighth)

-- ---- eight bytes of a list
module _ (b : List ℕ) (fits : (k : ℕ) → k < 8 → byte_at b k < 256) where
  abbrev whole_word : ℕ
  whole_word = word_of (byte_at b 0) (byte_at b 1) (byte_at b 2) (byte_at b 3) (byte_at b 4) (byte_at b 5) (byte_at b 6) (byte_at b 7)

  read_word : from_le_bytes w64 b ≡ whole_word
  read_word = omega arith

  pub read_room : bit_and (from_le_bytes w64 b) 0x8080808080808080 ≡ 0 → from_le_bytes w64 b + 0x7F7F7F7F7F7F7F7F < 2 ^ 64
  read_room z =
      let l = low_sum (byte_at b 0) (byte_at b 1) (byte_at b 2) (byte_at b 3) (byte_at b 4) (byte_at b 5) (byte_at b 6) (byte_at b 7)
      (fits 0 (omega arith)) (fits 1 (omega arith)) (fits 2 (omega arith)) (fits 3 (omega arith)) (fits 4 (omega arith)) (fits 5 (omega arith)) (fits 6 (omega arith)) (fits 7 (omega arith))
      (ap (λ (x : ℕ). bit_and x 0x8080808080808080) (sym read_word) ∙ z) in
      rw read_word l

  pub read_plain : bit_and (from_le_bytes w64 b) 0x8080808080808080 ≡ 0 → bit_and (from_le_bytes w64 b + 0x7F7F7F7F7F7F7F7F) 0x8080808080808080 ≡ 0x8080808080808080 → PlainAt b 0 8
  read_plain z y =
      plain_eight b 0
      (plain_word (byte_at b 0) (byte_at b 1) (byte_at b 2) (byte_at b 3) (byte_at b 4) (byte_at b 5) (byte_at b 6) (byte_at b 7)
      (fits 0 (omega arith)) (fits 1 (omega arith)) (fits 2 (omega arith)) (fits 3 (omega arith)) (fits 4 (omega arith)) (fits 5 (omega arith)) (fits 6 (omega arith)) (fits 7 (omega arith))
      (ap (λ (x : ℕ). bit_and x 0x8080808080808080) (sym read_word) ∙ z)
      (ap (λ (x : ℕ). bit_and (x + 0x7F7F7F7F7F7F7F7F) 0x8080808080808080) (sym read_word) ∙ y))
