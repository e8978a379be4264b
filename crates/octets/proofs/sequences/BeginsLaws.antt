-- What bytes hold from an offset on.
-- Assumes nothing.
use Prim.Native.Nat.{ℕ, suc, ◌+◌, ◌-◌, ◌≤◌, ◌<◌}
use mathlib.Core.Path.{◌≡◌, refl, sym, ap, ◌∙◌}
use mathlib.Core.List.{List, [], ◌∷◌, ◌++◌, append_assoc}
use native.Mathlib.Omega.{arith}
use native.Mathlib.Nat.{add-zero}
use lib.ListN.{length, get_or, take, drop, length-append, length-drop, take-append-drop}
use lib.Seq.{drop-cons, drop-drop, get_or-drop, drop-append_seam, take-append_seam, length-take-le}
use Rattle.octets.specs.Bytes.{byte_at, slice, Begins}
use Rattle.octets.proofs.digits.NumeralLaws.{inside}

module _ (s : List ℕ) where
  pub begins_none : (at : ℕ) → Begins s at [] at
  begins_none at = record { rest = drop at s; is = refl; ends = sym (add-zero at) }

  pub begins_byte : (at b : ℕ) → byte_at s at ≡ b → 0 < b → Begins s at (b ∷ []) (at + 1)
  begins_byte at b e h = record { rest = drop (suc at) s; is = drop-cons s at 0 (inside s at (omega arith)) ∙ ap (λ (k : ℕ). k ∷ drop (suc at) s) e; ends = refl }

  pub begins_rest : (at : ℕ) (x : List ℕ) (e : ℕ) → (b : Begins s at x e) → drop e s ≡ b.rest
  begins_rest at x e b = ap (λ (k : ℕ). drop k s) b.ends ∙ sym (drop-drop (length x) at s) ∙ ap (λ (l : List ℕ). drop (length x) l) b.is ∙ drop-append_seam x b.rest

  pub begins_join : (at m e : ℕ) (x y : List ℕ) → Begins s at x m → Begins s m y e → Begins s at (x ++ y) e
  begins_join at m e x y a b = record {
    rest = b.rest;
    is = a.is ∙ ap (λ (l : List ℕ). x ++ l) (sym (begins_rest at x m a) ∙ b.is) ∙ sym (append_assoc x y b.rest);
    ends = omega (arith, a.ends, b.ends, length-append x y);
  }

  pub begins_left : (at e : ℕ) (x y : List ℕ) → Begins s at (x ++ y) e → Begins s at x (at + length x)
  begins_left at e x y b = record { rest = y ++ b.rest; is = b.is ∙ append_assoc x y b.rest; ends = refl }

  pub begins_right : (at e : ℕ) (x y : List ℕ) → Begins s at (x ++ y) e → Begins s (at + length x) y e
  unfolding begins_left
  begins_right at e x y b = record {
    rest = b.rest;
    is = begins_rest at x (at + length x) (begins_left at e x y b);
    ends = omega (arith, b.ends, length-append x y);
  }

  pub begins_head : (at b e : ℕ) (bs : List ℕ) → Begins s at (b ∷ bs) e → byte_at s at ≡ b
  begins_head at b e bs h = ap (λ (k : ℕ). get_or s k 0) (sym (add-zero at)) ∙ sym (get_or-drop at s 0 0) ∙ ap (λ (l : List ℕ). get_or l 0 0) h.is

  pub begins_slice : (at e : ℕ) → at ≤ e → e ≤ length s → Begins s at (slice s at e) e
  begins_slice at e p q = record {
    rest = drop (e - at) (drop at s);
    is = sym (take-append-drop (e - at) (drop at s));
    ends = omega (arith, length-take-le (e - at) (drop at s) (omega (arith, length-drop at s)));
  }

  pub slice_begins : (at e : ℕ) (x : List ℕ) → Begins s at x e → slice s at e ≡ x
  slice_begins at e x b =
      let n : e - at ≡ length x = omega (arith, b.ends) in
      ap (λ (k : ℕ). take k (drop at s)) n ∙ ap (λ (l : List ℕ). take (length x) l) b.is ∙ take-append_seam x b.rest

  -- the end is within the bytes
  pub begins_within : (at e : ℕ) (x : List ℕ) → at ≤ length s → Begins s at x e → e ≤ length s
  begins_within at e x h b = omega (arith, b.ends, length-drop at s, ap length b.is ∙ length-append x b.rest)
