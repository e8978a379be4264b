-- What it is to mean the same: an equivalence, in which entries may be exchanged and items may not.
-- Assumes nothing.
use Prim.Native.Nat.{ℕ}
use mathlib.Core.Path.{◌≡◌, refl, sym, ap, ◌∙◌}
use mathlib.Core.Bool.{Bool, true, false, cond}
use mathlib.Core.List.{List}
use Rattle.octets.specs.Bytes.{same}
use Rattle.bencode.specs.Value.{Found, found, missing, lookup}
use Rattle.octets.proofs.sequences.Order.{clash, same_eq, same_refl}
use Rattle.canonical.specs.Same.{same_list, same_dictionary, more, SameFound, neither, both}
use Rattle.canonical.specs.Demands.{SameIsEquivalence, EntriesExchange, ItemsStay}
use Rattle.canonical.proofs.values.SameLaws.{alike_same, same_alike}

pub same_is_equivalence : SameIsEquivalence
same_is_equivalence =
    record {
      self = λ v. alike_same v v refl;
      turned = λ levels v w a b h. alike_same w v (sym (same_alike levels v w a b h));
      joined = λ levels u v w a b c g h. alike_same u w (same_alike levels u v a b g ∙ same_alike levels v w b c h);
    }

pub entries_exchange : EntriesExchange
entries_exchange j k v w es d = same_dictionary (λ key. go key (same j key) refl (same k key) refl)
  where
    found_self : (f : Found) → SameFound f f
    found_self (found x) = both (alike_same x x refl)
    found_self missing = neither

    go : (key : List ℕ) (t : Bool) → same j key ≡ t → (u : Bool) → same k key ≡ u → SameFound (cond t (found v) (cond u (found w) (lookup key es))) (cond u (found w) (cond t (found v) (lookup key es)))
    go key true p true q = clash (same j k) (ap (λ (l : List ℕ). same j l) (same_eq k key q ∙ sym (same_eq j key p)) ∙ same_refl j) d
    go key true p false q = found_self (found v)
    go key false p u q = found_self (cond u (found w) (lookup key es))

pub items_stay : ItemsStay
items_stay v w (same_list (more h t)) = h
