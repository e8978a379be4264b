-- `KeyText`: bytes are recognised as a text exactly where they are the joined encodings of characters.
-- Assumes nothing.
use Prim.Native.Nat.{ℕ, zero, suc, ◌+◌, ◌*◌, ◌-◌, ◌/◌, ◌%◌, ◌≤◌, ◌<◌}
use mathlib.Core.Path.{◌≡◌, refl, sym, ap, ap₂, subst, ◌∙◌}
use mathlib.Core.Logic.{◌⊎◌, inl, inr, ⊎_elim}
use mathlib.Core.Bool.{Bool, true, false, cond}
use mathlib.Core.List.{List, [], ◌∷◌, ◌++◌}
use native.Mathlib.Omega.{arith}
use native.Mathlib.Nat.{div-add-mod', mod-lt}
use borrow.Author.Tests.{le-leb, lt-ltb, le-ltb, leb-true, eqb-true, eqb-false}
use Rattle.octets.proofs.sequences.Order.{clash}
use Rattle.octets.proofs.digits.DigitLaws.{lt_or_le}
use lib.Arith.{digits_div, digits_mod}
use lib.Dec.{leb, eqb}
use Rattle.bencode.specs.Utf8.{Character, utf8, utf8_all, Characters, Utf8Text, following, lowest, highest, text_from, is_text}
use Rattle.bencode.specs.Demands.{KeyText}
use Rattle.bencode.proofs.utf8.TextLaws.{none_zero, one_byte, none_low, two_bytes, three_bytes, four_bytes, none_high, between}

-- ---- the range of the second byte
module _ (b x : ℕ) where
  low_enough : 0x80 ≤ x → (b ≡ 0xE0 → 0xA0 ≤ x) → (b ≡ 0xF0 → 0x90 ≤ x) → lowest b ≤ x
  low_enough h e f = go (eqb b 0xE0) refl (eqb b 0xF0) refl
    where
      go : (t : Bool) → eqb b 0xE0 ≡ t → (u : Bool) → eqb b 0xF0 ≡ u → cond {A = ℕ} t 0xA0 (cond u 0x90 0x80) ≤ x
      go true p u q = e (eqb-true b 0xE0 p)
      go false p true q = f (eqb-true b 0xF0 q)
      go false p false q = h

  high_enough : x ≤ 0xBF → (b ≡ 0xED → x ≤ 0x9F) → (b ≡ 0xF4 → x ≤ 0x8F) → x ≤ highest b
  high_enough h e f = go (eqb b 0xED) refl (eqb b 0xF4) refl
    where
      go : (t : Bool) → eqb b 0xED ≡ t → (u : Bool) → eqb b 0xF4 ≡ u → x ≤ cond {A = ℕ} t 0x9F (cond u 0x8F 0xBF)
      go true p u q = e (eqb-true b 0xED p)
      go false p true q = f (eqb-true b 0xF4 q)
      go false p false q = h

  from_lowest : lowest b ≤ x → (0x80 ≤ x) × (b ≡ 0xE0 → 0xA0 ≤ x) × (b ≡ 0xF0 → 0x90 ≤ x)
  from_lowest h = go (eqb b 0xE0) refl (eqb b 0xF0) refl h
    where
      go : (t : Bool) → eqb b 0xE0 ≡ t → (u : Bool) → eqb b 0xF0 ≡ u → cond {A = ℕ} t 0xA0 (cond u 0x90 0x80) ≤ x → (0x80 ≤ x) × (b ≡ 0xE0 → 0xA0 ≤ x) × (b ≡ 0xF0 → 0x90 ≤ x)
      go true p u q h = (omega arith, λ e. h, λ e. absurd (omega (arith, eqb-true b 0xE0 p)))
      go false p true q h = (omega arith, λ e. absurd (omega (arith, eqb-true b 0xF0 q)), λ e. h)
      go false p false q h = (h, λ e. absurd (eqb-false b 0xE0 p e), λ e. absurd (eqb-false b 0xF0 q e))

  from_highest : x ≤ highest b → (x ≤ 0xBF) × (b ≡ 0xED → x ≤ 0x9F) × (b ≡ 0xF4 → x ≤ 0x8F)
  from_highest h = go (eqb b 0xED) refl (eqb b 0xF4) refl h
    where
      go : (t : Bool) → eqb b 0xED ≡ t → (u : Bool) → eqb b 0xF4 ≡ u → x ≤ cond {A = ℕ} t 0x9F (cond u 0x8F 0xBF) → (x ≤ 0xBF) × (b ≡ 0xED → x ≤ 0x9F) × (b ≡ 0xF4 → x ≤ 0x8F)
      go true p u q h = (omega arith, λ e. h, λ e. absurd (omega (arith, eqb-true b 0xED p)))
      go false p true q h = (omega arith, λ e. absurd (omega (arith, eqb-true b 0xF4 q)), λ e. h)
      go false p false q h = (h, λ e. absurd (eqb-false b 0xED p e), λ e. absurd (eqb-false b 0xF4 q e))

-- ---- steps of the recogniser
first_step : (n l h b : ℕ) (s : List ℕ) → following b ≡ n → n ≤ 3 → text_from 0 l h (b ∷ s) ≡ text_from n (lowest b) (highest b) s
unfolding text_from
first_step n l h b s e g = rw (e, le-leb n 3 g) refl

next_step_lem : (n l h b : ℕ) (s : List ℕ) → l ≤ b → b ≤ h → text_from (suc n) l h (b ∷ s) ≡ text_from n 0x80 0xBF s
unfolding text_from
next_step_lem n l h b s p q = rw (le-leb l b p, le-leb b h q) refl

-- a byte 10xxxxxx
last_step : (n r : ℕ) (s : List ℕ) → r < 64 → text_from (suc n) 0x80 0xBF ((0x80 + r) ∷ s) ≡ text_from n 0x80 0xBF s
last_step n r s h = next_step_lem n 0x80 0xBF (0x80 + r) s (omega arith) (omega arith)

-- ---- the encodings, by the number's parts
module _ (q r : ℕ) (h : r < 64) where
  utf8_two : 2 ≤ q → q < 32 → utf8 (q * 64 + r) ≡ (0xC0 + q) ∷ (0x80 + r) ∷ []
  unfolding utf8
  utf8_two l u = rw (le-ltb (q * 64 + r) 0x80 (omega arith), lt-ltb (q * 64 + r) 0x800 (omega arith), digits_div q {m = 64} {r = r} h, digits_mod q {m = 64} {r = r} h) refl

  module _ (p : ℕ) (g : q < 64) where
    utf8_three : 0x800 ≤ (p * 64 + q) * 64 + r → p < 16 → utf8 ((p * 64 + q) * 64 + r) ≡ (0xE0 + p) ∷ (0x80 + q) ∷ (0x80 + r) ∷ []
    unfolding utf8
    utf8_three l u =
        rw (
          le-ltb ((p * 64 + q) * 64 + r) 0x80 (omega arith),
          le-ltb ((p * 64 + q) * 64 + r) 0x800 l,
          lt-ltb ((p * 64 + q) * 64 + r) 0x10000 (omega arith),
          digits_div (p * 64 + q) {m = 64} {r = r} h,
          digits_mod (p * 64 + q) {m = 64} {r = r} h,
          digits_div p {m = 64} {r = q} g,
          digits_mod p {m = 64} {r = q} g,
        ) refl

    module _ (o : ℕ) (f : p < 64) where
      utf8_four : 0x10000 ≤ ((o * 64 + p) * 64 + q) * 64 + r → utf8 (((o * 64 + p) * 64 + q) * 64 + r) ≡ (0xF0 + o) ∷ (0x80 + p) ∷ (0x80 + q) ∷ (0x80 + r) ∷ []
      unfolding utf8
      utf8_four l =
          rw (
            le-ltb (((o * 64 + p) * 64 + q) * 64 + r) 0x80 (omega arith),
            le-ltb (((o * 64 + p) * 64 + q) * 64 + r) 0x800 (omega arith),
            le-ltb (((o * 64 + p) * 64 + q) * 64 + r) 0x10000 l,
            digits_div ((o * 64 + p) * 64 + q) {m = 64} {r = r} h,
            digits_mod ((o * 64 + p) * 64 + q) {m = 64} {r = r} h,
            digits_div (o * 64 + p) {m = 64} {r = q} g,
            digits_mod (o * 64 + p) {m = 64} {r = q} g,
            digits_div o {m = 64} {r = p} f,
            digits_mod o {m = 64} {r = p} f,
          ) refl

-- ---- an encoding is recognised
-- the last six bits
six : (c : ℕ) → c % 64 < 64
six c = mod-lt c (omega arith)

-- the parts of a number, six bits each
parts : (c : ℕ) → c ≡ c / 64 * 64 + c % 64
parts c = sym (div-add-mod' c 64)

module _ (s : List ℕ) (l h : ℕ) where
  reads_one : (c : ℕ) → 0 < c → c < 0x80 → text_from 0 l h (utf8 c ++ s) ≡ is_text s
  unfolding utf8
  reads_one c p q =
      rw (lt-ltb c 0x80 q)
      (first_step 0 l h c s (one_byte c p (omega arith)) (omega arith) ∙ between (lowest c) (highest c) 0x80 0xBF s)

  reads_two : (q r : ℕ) → r < 64 → 2 ≤ q → q < 32 → text_from 0 l h ((0xC0 + q) ∷ (0x80 + r) ∷ s) ≡ is_text s
  reads_two q r g a z =
      first_step 1 l h (0xC0 + q) ((0x80 + r) ∷ s) (two_bytes (0xC0 + q) (omega arith) (omega arith)) (omega arith)
      ∙ next_step_lem 0 (lowest (0xC0 + q)) (highest (0xC0 + q)) (0x80 + r) s
      (low_enough (0xC0 + q) (0x80 + r) (omega arith) (λ e. absurd (omega arith)) (λ e. absurd (omega arith)))
      (high_enough (0xC0 + q) (0x80 + r) (omega arith) (λ e. absurd (omega arith)) (λ e. absurd (omega arith)))

  reads_three : (p q r : ℕ) → r < 64 → q < 64 → p < 16 → (p ≡ 0 → 32 ≤ q) → (p ≡ 13 → q < 32) → text_from 0 l h ((0xE0 + p) ∷ (0x80 + q) ∷ (0x80 + r) ∷ s) ≡ is_text s
  reads_three p q r g f z a b =
      first_step 2 l h (0xE0 + p) ((0x80 + q) ∷ (0x80 + r) ∷ s) (three_bytes (0xE0 + p) (omega arith) (omega arith)) (omega arith)
      ∙ next_step_lem 1 (lowest (0xE0 + p)) (highest (0xE0 + p)) (0x80 + q) ((0x80 + r) ∷ s)
      (low_enough (0xE0 + p) (0x80 + q) (omega arith) (λ e. let k = a (omega arith) in omega arith) (λ e. absurd (omega arith)))
      (high_enough (0xE0 + p) (0x80 + q) (omega arith) (λ e. let k = b (omega arith) in omega arith) (λ e. absurd (omega arith)))
      ∙ last_step 0 r s g

  reads_four : (o p q r : ℕ) → r < 64 → q < 64 → p < 64 → o ≤ 4 → (o ≡ 0 → 16 ≤ p) → (o ≡ 4 → p < 16) → text_from 0 l h ((0xF0 + o) ∷ (0x80 + p) ∷ (0x80 + q) ∷ (0x80 + r) ∷ s) ≡ is_text s
  reads_four o p q r g f d z a b =
      first_step 3 l h (0xF0 + o) ((0x80 + p) ∷ (0x80 + q) ∷ (0x80 + r) ∷ s) (four_bytes (0xF0 + o) (omega arith) (omega arith)) (omega arith)
      ∙ next_step_lem 2 (lowest (0xF0 + o)) (highest (0xF0 + o)) (0x80 + p) ((0x80 + q) ∷ (0x80 + r) ∷ s)
      (low_enough (0xF0 + o) (0x80 + p) (omega arith) (λ e. absurd (omega arith)) (λ e. let k = a (omega arith) in omega arith))
      (high_enough (0xF0 + o) (0x80 + p) (omega arith) (λ e. absurd (omega arith)) (λ e. let k = b (omega arith) in omega arith))
      ∙ last_step 1 q ((0x80 + r) ∷ s) f
      ∙ last_step 0 r s g

  reads_character : (c : ℕ) → Character c → text_from 0 l h (utf8 c ++ s) ≡ is_text s
  reads_character c k = ⊎_elim (λ p. reads_one c k.0 p) (λ p. ⊎_elim (two p) (λ q. ⊎_elim (three q) four (lt_or_le c 0x10000)) (lt_or_le c 0x800)) (lt_or_le c 0x80)
    where
      two : 0x80 ≤ c → c < 0x800 → text_from 0 l h (utf8 c ++ s) ≡ is_text s
      two a b =
          let e = parts c in
          let g = six c in
          let i : utf8 c ≡ (0xC0 + c / 64) ∷ (0x80 + c % 64) ∷ [] = ap utf8 e ∙ utf8_two (c / 64) (c % 64) g (omega arith) (omega arith) in
          ap (λ (x : List ℕ). text_from 0 l h (x ++ s)) i ∙ reads_two (c / 64) (c % 64) g (omega arith) (omega arith)

      three : 0x800 ≤ c → c < 0x10000 → text_from 0 l h (utf8 c ++ s) ≡ is_text s
      three a b =
          let g = six c in
          let f = six (c / 64) in
          let e : c ≡ (c / 64 / 64 * 64 + c / 64 % 64) * 64 + c % 64 = parts c ∙ ap (λ (x : ℕ). x * 64 + c % 64) (parts (c / 64)) in
          let i : utf8 c ≡ (0xE0 + c / 64 / 64) ∷ (0x80 + c / 64 % 64) ∷ (0x80 + c % 64) ∷ [] = ap utf8 e ∙ utf8_three (c / 64 % 64) (c % 64) g (c / 64 / 64) f (subst (λ (x : ℕ). 0x800 ≤ x) e a) (omega arith) in
          ap (λ (x : List ℕ). text_from 0 l h (x ++ s)) i
          ∙ reads_three (c / 64 / 64) (c / 64 % 64) (c % 64) g f (omega arith) (λ z. omega arith) (λ z. ⊎_elim (λ (u : c < 0xD800). omega arith) (λ (u : 0xE000 ≤ c). absurd (omega arith)) k.1)

      four : 0x10000 ≤ c → text_from 0 l h (utf8 c ++ s) ≡ is_text s
      four a =
          let g = six c in
          let f = six (c / 64) in
          let d = six (c / 64 / 64) in
          let u = k.2 in
          let e : c ≡ ((c / 64 / 64 / 64 * 64 + c / 64 / 64 % 64) * 64 + c / 64 % 64) * 64 + c % 64 =
          parts c ∙ ap (λ (x : ℕ). x * 64 + c % 64) (parts (c / 64) ∙ ap (λ (x : ℕ). x * 64 + c / 64 % 64) (parts (c / 64 / 64))) in
          let i : utf8 c ≡ (0xF0 + c / 64 / 64 / 64) ∷ (0x80 + c / 64 / 64 % 64) ∷ (0x80 + c / 64 % 64) ∷ (0x80 + c % 64) ∷ [] =
          ap utf8 e ∙ utf8_four (c / 64 % 64) (c % 64) g (c / 64 / 64 % 64) f (c / 64 / 64 / 64) d (subst (λ (x : ℕ). 0x10000 ≤ x) e a) in
          ap (λ (x : List ℕ). text_from 0 l h (x ++ s)) i
          ∙ reads_four (c / 64 / 64 / 64) (c / 64 / 64 % 64) (c / 64 % 64) (c % 64) g f d (omega arith) (λ z. omega arith) (λ z. omega arith)

recognised : (cs : List ℕ) → Characters cs → is_text (utf8_all cs) ≡ true
unfolding utf8_all text_from
recognised [] k = refl
recognised (c ∷ cs) k = reads_character (utf8_all cs) 0x80 0xBF c k.0 ∙ recognised cs k.1

-- ---- what is recognised is an encoding
-- bytes after which n more of a character are to come: those bytes, and then a text
abbrev Left : ℕ → ℕ → ℕ → List ℕ → Type 0
Left zero l h s = Utf8Text s
Left (suc n) l h [] = ⊥
Left (suc n) l h (b ∷ s) = (l ≤ b) × (b ≤ h) × Left n 0x80 0xBF s

-- a character before a text
before : (c : ℕ) → Character c → (bytes s : List ℕ) → utf8 c ≡ bytes → Utf8Text s → Utf8Text (bytes ++ s)
unfolding utf8_all
before c k bytes s e t = (c ∷ t.0, (k, t.1), ap₂ (λ (x y : List ℕ). x ++ y) (sym e) t.2)

-- a byte from its lowest value on
from : (b k : ℕ) → k ≤ b → k + (b - k) ≡ b
from b k h = omega arith

text_one : (b : ℕ) (s : List ℕ) → 0 < b → b ≤ 0x7F → Utf8Text s → Utf8Text (b ∷ s)
unfolding utf8
text_one b s l h t = before b (l, inl (omega arith), omega arith) (b ∷ []) s (rw (lt-ltb b 0x80 (omega arith)) refl) t

text_two : (b : ℕ) (s : List ℕ) → 0xC1 < b → b ≤ 0xDF → Left 1 (lowest b) (highest b) s → Utf8Text (b ∷ s)
text_two b [] l h t = absurd t
text_two b (x ∷ s) l h t =
    let u = from_lowest b x t.0 in
    let v = from_highest b x t.1 in
    let q = b - 0xC0 in
    let r = x - 0x80 in
    let e : utf8 (q * 64 + r) ≡ b ∷ x ∷ [] = utf8_two q r (omega arith) (omega arith) (omega arith) ∙ ap₂ (λ (i j : ℕ). i ∷ j ∷ []) (from b 0xC0 (omega arith)) (from x 0x80 u.0) in
    before (q * 64 + r) (omega arith, inl (omega arith), omega arith) (b ∷ x ∷ []) s e t.2

text_three : (b : ℕ) (s : List ℕ) → 0xDF < b → b ≤ 0xEF → Left 2 (lowest b) (highest b) s → Utf8Text (b ∷ s)
text_three b [] l h t = absurd t
text_three b (x ∷ []) l h t = absurd t.2
text_three b (x ∷ y ∷ s) l h t =
    let u = from_lowest b x t.0 in
    let v = from_highest b x t.1 in
    let w = t.2 in
    let p = b - 0xE0 in
    let q = x - 0x80 in
    let r = y - 0x80 in
    let long : 0x800 ≤ (p * 64 + q) * 64 + r = ⊎_elim (λ (z : p < 1). let k = u.1 (omega arith) in omega arith) (λ (z : 1 ≤ p). omega arith) (lt_or_le p 1) in
    let apart : ((p * 64 + q) * 64 + r < 0xD800) ⊎ (0xE000 ≤ (p * 64 + q) * 64 + r) =
    ⊎_elim (λ (z : p < 13). inl (omega arith)) (λ (z : 13 ≤ p). ⊎_elim (λ (m : p < 14). let k = v.1 (omega arith) in inl (omega arith)) (λ (m : 14 ≤ p). inr (omega arith)) (lt_or_le p 14)) (lt_or_le p 13) in
    let e : utf8 ((p * 64 + q) * 64 + r) ≡ b ∷ x ∷ y ∷ [] =
    utf8_three q r (omega arith) p (omega arith) long (omega arith) ∙ ap₂ (λ (i j : ℕ). i ∷ j ∷ (0x80 + r) ∷ []) (from b 0xE0 (omega arith)) (from x 0x80 u.0) ∙ ap (λ (i : ℕ). b ∷ x ∷ i ∷ []) (from y 0x80 w.0) in
    before ((p * 64 + q) * 64 + r) (omega arith, apart, omega arith) (b ∷ x ∷ y ∷ []) s e w.2

text_four : (b : ℕ) (s : List ℕ) → 0xEF < b → b ≤ 0xF4 → Left 3 (lowest b) (highest b) s → Utf8Text (b ∷ s)
text_four b [] l h t = absurd t
text_four b (x ∷ []) l h t = absurd t.2
text_four b (x ∷ y ∷ []) l h t = absurd t.2.2
text_four b (x ∷ y ∷ a ∷ s) l h t =
    let u = from_lowest b x t.0 in
    let v = from_highest b x t.1 in
    let w = t.2 in
    let n = w.2 in
    let o = b - 0xF0 in
    let p = x - 0x80 in
    let q = y - 0x80 in
    let r = a - 0x80 in
    let long : 0x10000 ≤ ((o * 64 + p) * 64 + q) * 64 + r = ⊎_elim (λ (z : o < 1). let k = u.2 (omega arith) in omega arith) (λ (z : 1 ≤ o). omega arith) (lt_or_le o 1) in
    let short : ((o * 64 + p) * 64 + q) * 64 + r ≤ 0x10FFFF = ⊎_elim (λ (z : o < 4). omega arith) (λ (z : 4 ≤ o). let k = v.2 (omega arith) in omega arith) (lt_or_le o 4) in
    let e : utf8 (((o * 64 + p) * 64 + q) * 64 + r) ≡ b ∷ x ∷ y ∷ a ∷ [] =
    utf8_four q r (omega arith) p (omega arith) o (omega arith) long ∙ ap₂ (λ (i j : ℕ). i ∷ j ∷ (0x80 + q) ∷ (0x80 + r) ∷ []) (from b 0xF0 (omega arith)) (from x 0x80 u.0) ∙ ap₂ (λ (i j : ℕ). b ∷ x ∷ i ∷ j ∷ []) (from y 0x80 w.0) (from a 0x80 n.0) in
    before (((o * 64 + p) * 64 + q) * 64 + r) (omega arith, inr (omega arith), short) (b ∷ x ∷ y ∷ a ∷ []) s e n.2

-- a first byte and what follows it
text_first : (b : ℕ) (s : List ℕ) → following b ≤ 3 → Left (following b) (lowest b) (highest b) s → Utf8Text (b ∷ s)
text_first b s f t =
    ⊎_elim (λ (h : b < 1). none (none_zero b (omega arith)))
    (λ l. ⊎_elim (λ (h : b < 0x80). text_one b s l (omega arith) (at 0 (one_byte b l (omega arith))))
    (λ l. ⊎_elim (λ (h : b < 0xC2). none (none_low b (omega arith) (omega arith)))
    (λ l. ⊎_elim (λ (h : b < 0xE0). text_two b s l (omega arith) (at 1 (two_bytes b l (omega arith))))
    (λ l. ⊎_elim (λ (h : b < 0xF0). text_three b s l (omega arith) (at 2 (three_bytes b l (omega arith))))
    (λ l. ⊎_elim (λ (h : b < 0xF5). text_four b s l (omega arith) (at 3 (four_bytes b l (omega arith))))
    (λ l. none (none_high b l))
    (lt_or_le b 0xF5)) (lt_or_le b 0xF0)) (lt_or_le b 0xE0)) (lt_or_le b 0xC2)) (lt_or_le b 0x80)) (lt_or_le b 1)
  where
    none : following b ≡ 4 → Utf8Text (b ∷ s)
    none e = absurd (omega (arith, f, e))

    at : (n : ℕ) → following b ≡ n → Left n (lowest b) (highest b) s
    at n e = subst (λ (k : ℕ). Left k (lowest b) (highest b) s) e t

decoded : (n l h : ℕ) (s : List ℕ) → text_from n l h s ≡ true → Left n l h s
unfolding text_from utf8_all
decoded zero l h [] e = ([], tt, refl)
decoded (suc n) l h [] e = clash false e refl
decoded zero l h (b ∷ s) e = go (leb (following b) 3) refl e (λ q. decoded (following b) (lowest b) (highest b) s q)
  where
    go : (t : Bool) → leb (following b) 3 ≡ t → cond t (text_from (following b) (lowest b) (highest b) s) false ≡ true
        → (text_from (following b) (lowest b) (highest b) s ≡ true → Left (following b) (lowest b) (highest b) s) → Utf8Text (b ∷ s)
    go true p e rec = text_first b s (leb-true (following b) 3 p) (rec e)
    go false p e rec = clash false e refl
decoded (suc n) l h (b ∷ s) e = go (leb l b) refl (leb b h) refl e (λ q. decoded n 0x80 0xBF s q)
  where
    go : (t : Bool) → leb l b ≡ t → (u : Bool) → leb b h ≡ u → cond t (cond u (text_from n 0x80 0xBF s) false) false ≡ true
        → (text_from n 0x80 0xBF s ≡ true → Left n 0x80 0xBF s) → (l ≤ b) × (b ≤ h) × Left n 0x80 0xBF s
    go true p true q e rec = (leb-true l b p, leb-true b h q, rec e)
    go true p false q e rec = clash false e refl
    go false p u q e rec = clash false e refl

pub key_text_lem : KeyText
key_text_lem key = (λ e. decoded 0 0x80 0xBF key e, λ t. ap is_text t.2 ∙ recognised t.0 t.1)
