-- The key rule, said of the keys themselves: of texts the loose profile allows what comes once, the strict one what is above all
-- earlier keys; what is no text is 10.
-- Assumes nothing.
use Prim.Native.Nat.{ℕ}
use mathlib.Core.Path.{◌≡◌, refl, sym, ap, subst, ◌∙◌}
use mathlib.Core.Bool.{Bool, true, false, cond, ◌&&◌, ◌||◌}
use mathlib.Core.Logic.{⊎_elim}
use mathlib.Core.List.Memᴰ
use mathlib.Core.List.{List, [], ◌∷◌, Memᴰ}
use native.Mathlib.Omega.{arith}
use Rattle.octets.specs.Bytes.{same, less}
use Rattle.bencode.specs.declared.profile.Profile.{Profile}
use Rattle.bencode.specs.Utf8.{Utf8Text, is_text}
use Rattle.bencode.specs.Fault.{fault_number}
use Rattle.bencode.specs.Key.{is_used, is_above, order_fault, compared_fault, key_fault}
use Rattle.bencode.specs.Demands.{KeysOnce, KeysRise, TenForNoText, EightForRepeated, ElevenForUnsorted}
use Rattle.bencode.proofs.KeyText.{key_text_lem}
use Rattle.octets.proofs.sequences.Order.{clash, same_eq}
use Rattle.bencode.proofs.walking.KeyOrder.{above_unused, used_head, used_tail}
use Rattle.bencode.specs.declared.fault.Cause.{Cause}
use Rattle.std.specs.Prelude.{Option, Some, None}

used_member : (key : List ℕ) (keys : List (List ℕ)) → is_used key keys ≡ true → Memᴰ key keys
unfolding is_used
used_member key [] e = clash false e refl
used_member key (k ∷ keys) e = go (same k key) refl e (λ q. used_member key keys q)
  where
    go : (t : Bool) → same k key ≡ t → t || is_used key keys ≡ true → (is_used key keys ≡ true → Memᴰ key keys) → Memᴰ key (k ∷ keys)
    go true q e rec = Memᴰ.head (sym (same_eq k key q))
    go false q e rec = Memᴰ.tail (rec e)

member_used : (key : List ℕ) (keys : List (List ℕ)) → Memᴰ key keys → is_used key keys ≡ true
member_used key [] m = absurd (Memᴰ.not-nil m)
member_used key (k ∷ keys) m = ⊎_elim (λ e. subst (λ (l : List ℕ). is_used key (l ∷ keys) ≡ true) e (used_head key keys)) (λ n. used_tail key k keys (member_used key keys n)) (Memᴰ.cases_cons m)

above_every : (key : List ℕ) (keys : List (List ℕ)) → is_above key keys ≡ true → (k : List ℕ) → Memᴰ k keys → less k key ≡ true
unfolding is_above
above_every key [] e k m = absurd (Memᴰ.not-nil m)
above_every key (j ∷ keys) e k m = go (less j key) refl e (λ q n. above_every key keys q k n)
  where
    go : (t : Bool) → less j key ≡ t → t && is_above key keys ≡ true → (is_above key keys ≡ true → Memᴰ k keys → less k key ≡ true) → less k key ≡ true
    go true q e rec = ⊎_elim (λ (i : k ≡ j). ap (λ (l : List ℕ). less l key) i ∙ q) (λ n. rec e n) (Memᴰ.cases_cons m)
    go false q e rec = clash false e refl

every_above : (key : List ℕ) (keys : List (List ℕ)) → ((k : List ℕ) → Memᴰ k keys → less k key ≡ true) → is_above key keys ≡ true
unfolding is_above
every_above key [] h = refl
every_above key (j ∷ keys) h = rw (h j (Memᴰ.head refl)) (every_above key keys (λ k m. h k (Memᴰ.tail m)))

pub keys_once : KeysOnce
unfolding key_fault
keys_once keys key = (λ e. there (is_text key) refl (is_used key keys) refl e, λ h. rw ((key_text_lem key).1 h.0) (back (is_used key keys) refl h.1))
  where
    there : (w : Bool) → is_text key ≡ w → (t : Bool) → is_used key keys ≡ t → ◌≡◌ {A = Option Cause} (cond w (cond t (Some Cause.RepeatedKey) None) (Some Cause.IllFormedKey)) None → Utf8Text key × (Memᴰ key keys → ⊥)
    there true x true q e = let z : ◌≡◌ {A = ℕ} 0 1 = cc in absurd (omega arith)
    there true x false q e = ((key_text_lem key).0 x, λ m. clash (is_used key keys) (member_used key keys m) q)
    there false x t q e = let z : ◌≡◌ {A = ℕ} 0 1 = cc in absurd (omega arith)

    back : (t : Bool) → is_used key keys ≡ t → (Memᴰ key keys → ⊥) → ◌≡◌ {A = Option Cause} (cond t (Some Cause.RepeatedKey) None) None
    back true q h = absurd (h (used_member key keys q))
    back false q h = refl

pub keys_rise : KeysRise
unfolding key_fault
keys_rise keys key = (λ e. there (is_text key) refl (is_used key keys) (is_above key keys) refl e, λ h. rw ((key_text_lem key).1 h.0, above_unused key keys (every_above key keys h.1), every_above key keys h.1) refl)
  where
    there : (w : Bool) → is_text key ≡ w → (t u : Bool) → is_above key keys ≡ u → ◌≡◌ {A = Option Cause} (cond w (cond t (Some Cause.RepeatedKey) (cond u None (Some Cause.UnsortedKey))) (Some Cause.IllFormedKey)) None → Utf8Text key × ((k : List ℕ) → Memᴰ k keys → less k key ≡ true)
    there true x true u q e = let z : ◌≡◌ {A = ℕ} 0 1 = cc in absurd (omega arith)
    there true x false true q e = ((key_text_lem key).0 x, above_every key keys q)
    there true x false false q e = let z : ◌≡◌ {A = ℕ} 0 1 = cc in absurd (omega arith)
    there false x t u q e = let z : ◌≡◌ {A = ℕ} 0 1 = cc in absurd (omega arith)

pub ten_for_no_text : TenForNoText
unfolding key_fault
ten_for_no_text p keys key = (λ e t. there (is_text key) ((key_text_lem key).1 t) (is_used key keys) (is_above key keys) p e, λ h. back (is_text key) refl h)
  where
    there : (w : Bool) → w ≡ true → (t u : Bool) (q : Profile) → fault_number (cond w (cond t (Some Cause.RepeatedKey) (order_fault q u)) (Some Cause.IllFormedKey)) ≡ 10 → ⊥
    there true x true u q e = omega arith
    there true x false u Profile.Loose e = omega arith
    there true x false true Profile.Strict e = omega arith
    there true x false false Profile.Strict e = omega arith
    there false x t u q e = clash false x refl

    back : (w : Bool) → is_text key ≡ w → (Utf8Text key → ⊥) → fault_number (cond w (compared_fault p keys key) (Some Cause.IllFormedKey)) ≡ 10
    back true x h = absurd (h ((key_text_lem key).0 x))
    back false x h = refl

pub eight_for_repeated : EightForRepeated
unfolding key_fault
eight_for_repeated p keys key = (λ e. there (is_text key) refl (is_used key keys) refl (is_above key keys) p e, λ h. rw ((key_text_lem key).1 h.0, member_used key keys h.1) refl)
  where
    there : (w : Bool) → is_text key ≡ w → (t : Bool) → is_used key keys ≡ t → (u : Bool) (q : Profile) → fault_number (cond w (cond t (Some Cause.RepeatedKey) (order_fault q u)) (Some Cause.IllFormedKey)) ≡ 8 → Utf8Text key × Memᴰ key keys
    there true x true y u q e = ((key_text_lem key).0 x, used_member key keys y)
    there true x false y u Profile.Loose e = absurd (omega arith)
    there true x false y true Profile.Strict e = absurd (omega arith)
    there true x false y false Profile.Strict e = absurd (omega arith)
    there false x t y u q e = absurd (omega arith)

pub eleven_for_unsorted : ElevenForUnsorted
unfolding key_fault
eleven_for_unsorted p keys key = (λ e. there (is_text key) refl (is_used key keys) refl (is_above key keys) refl p e, λ h. back p h.0 (is_text key) ((key_text_lem key).1 h.1) (is_used key keys) refl h.2 (is_above key keys) refl h.3)
  where
    there : (w : Bool) → is_text key ≡ w → (t : Bool) → is_used key keys ≡ t → (u : Bool) → is_above key keys ≡ u → (q : Profile) → fault_number (cond w (cond t (Some Cause.RepeatedKey) (order_fault q u)) (Some Cause.IllFormedKey)) ≡ 11
        → (q ≡ Profile.Strict) × Utf8Text key × (Memᴰ key keys → ⊥) × (((k : List ℕ) → Memᴰ k keys → less k key ≡ true) → ⊥)
    there true x true y u z q e = absurd (omega arith)
    there true x false y u z Profile.Loose e = absurd (omega arith)
    there true x false y true z Profile.Strict e = absurd (omega arith)
    there true x false y false z Profile.Strict e =
        (refl, (key_text_lem key).0 x, λ m. clash (is_used key keys) (member_used key keys m) y, λ h. clash (is_above key keys) (every_above key keys h) z)
    there false x t y u z q e = absurd (omega arith)

    back : (q : Profile) → q ≡ Profile.Strict → (w : Bool) → w ≡ true → (t : Bool) → is_used key keys ≡ t → (Memᴰ key keys → ⊥) → (u : Bool) → is_above key keys ≡ u → (((k : List ℕ) → Memᴰ k keys → less k key ≡ true) → ⊥)
        → fault_number (cond w (cond t (Some Cause.RepeatedKey) (order_fault q u)) (Some Cause.IllFormedKey)) ≡ 11
    back q i false x t y a u z b = clash false x refl
    back q i true x true y a u z b = absurd (a (used_member key keys y))
    back q i true x false y a true z b = absurd (b (above_every key keys z))
    back q i true x false y a false z b = ap (λ (r : Profile). fault_number (order_fault r false)) i
