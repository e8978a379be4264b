-- The walk by one loop: what is open, and that what is left of it decides what the payload's value comes to.
-- Assumes nothing.
use Prim.Native.Nat.{ℕ, suc, ◌+◌, ◌<◌, ◌≤◌}
use mathlib.Core.Path.{◌≡◌, refl, sym, ap, subst, ◌∙◌}
use mathlib.Core.Bool.{Bool, true, false}
use mathlib.Core.List.{List}
use native.Mathlib.Omega.{arith}
use lib.ListN.{length, get_or, set}
use lib.Seq.{get_or-set_same, get_or-set_other}
use Rattle.bencode.specs.declared.fault.Fault.{Fault}
use Rattle.bencode.specs.declared.tokens.Bracket.{Bracket}
use Rattle.bencode.specs.declared.tokens.Level.{Level}
use Rattle.bencode.specs.declared.profile.Profile.{Profile}
use Rattle.bencode.specs.Depth.{largest_depth}
use Rattle.bencode.specs.Flat.{outside}
use Rattle.bencode.specs.KeySearch.{Sound}
use Rattle.bencode.specs.Walk.{list_at, dictionary_from, value_at}
use Rattle.bencode.proofs.walking.KeyLaws.{Kept}
use Rattle.bencode.specs.Fault.{Walk}
use Rattle.std.specs.Prelude.{Ok, Err}

-- goes on after a value, or ends with its fault
abbrev pub and_then : Walk → (ℕ → Walk) → Walk
and_then (Ok e) rest = rest e
and_then (Err f) rest = Err f

module _ (p : Profile) (s : List ℕ) where
  -- what the payload's value comes to
  abbrev pub FirstValue : Walk
  FirstValue = value_at p largest_depth s 0

  -- a value is under way at an offset, in a level that is at a depth, with some levels left, and what it comes to decides what the
  -- payload's value comes to
  pub data Under (row : List Level) : Level → ℕ → ℕ → ℕ → Type 0 where
    outermost : {x : Level} → Sound s x.seen → Under row x 0 largest_depth 0
    in_list : {x : Level} {d l u v : ℕ} → Sound s x.seen → Under row (get_or row d outside) d (suc l) u → x.bracket ≡ Bracket.List
        → value_at p (suc l) s u ≡ and_then (value_at p l s v) (list_at p l s) → Under row x (suc d) l v
    in_dictionary : {x : Level} {d l u v : ℕ} (keys : List (List ℕ)) → Sound s x.seen → Under row (get_or row d outside) d (suc l) u → x.bracket ≡ Bracket.Dictionary
        → value_at p (suc l) s u ≡ and_then (value_at p l s v) (λ e. dictionary_from p (value_at p l s) s e keys)
        → ((to : ℕ) → value_at p l s v ≡ Ok to → Kept (value_at p l s) s x.seen to keys) → Under row x (suc d) l v

  -- a value has ended or a level has opened, and the rest of the level goes on at an offset
  pub data Rest (row : List Level) : Level → ℕ → ℕ → Type 0 where
    over : {x : Level} {at : ℕ} → Sound s x.seen → FirstValue ≡ Ok at → Rest row x 0 at
    rest_list : {x : Level} {d l u at : ℕ} → Sound s x.seen → Under row (get_or row d outside) d (suc l) u → x.bracket ≡ Bracket.List
        → value_at p (suc l) s u ≡ list_at p l s at → Rest row x (suc d) at
    rest_dictionary : {x : Level} {d l u at : ℕ} (keys : List (List ℕ)) → Under row (get_or row d outside) d (suc l) u → x.bracket ≡ Bracket.Dictionary
        → value_at p (suc l) s u ≡ dictionary_from p (value_at p l s) s at keys → Kept (value_at p l s) s x.seen at keys → Rest row x (suc d) at

  abbrev Next : List Level → ℕ → Level → Bool → ℕ → Type 0
  Next row d x true at = (l : ℕ) × Under row x d l at
  Next row d x false at = Rest row x d at

  -- where the loop stands: a value has to stand next, or the rest of the level goes on
  abbrev pub Stand : List Level → ℕ → Level → Bool → ℕ → Type 0
  Stand row d x valued at = (length row ≡ largest_depth) × Next row d x valued at

  pub under_left : (row : List Level) (x : Level) (d l v : ℕ) → Under row x d l v → l + d ≡ largest_depth
  under_left row x d l v (outermost w) = refl
  under_left row x d l v (in_list {d = c} {u = u} w o m e) = omega (arith, under_left row (get_or row c outside) c (suc l) u o)
  under_left row x d l v (in_dictionary {d = c} {u = u} keys w o m e k) = omega (arith, under_left row (get_or row c outside) c (suc l) u o)

  rest_depth : (row : List Level) (x : Level) (d at : ℕ) → Rest row x d at → d ≤ largest_depth
  rest_depth row x d at (over w e) = omega arith
  rest_depth row x d at (rest_list {d = c} {l = l} {u = u} w o m e) = omega (arith, under_left row (get_or row c outside) c (suc l) u o)
  rest_depth row x d at (rest_dictionary {d = c} {l = l} {u = u} keys o m e k) = omega (arith, under_left row (get_or row c outside) c (suc l) u o)

  pub stand_depth : (row : List Level) (d : ℕ) (x : Level) (valued : Bool) (at : ℕ) → Stand row d x valued at → d ≤ largest_depth
  stand_depth row d x true at st = omega (arith, under_left row x d st.1.0 at st.1.1)
  stand_depth row d x false at st = rest_depth row x d at st.1

  under_sound : (row : List Level) (x : Level) (d l v : ℕ) → Under row x d l v → Sound s x.seen
  under_sound row x d l v (outermost w) = w
  under_sound row x d l v (in_list w o m e) = w
  under_sound row x d l v (in_dictionary keys w o m e k) = w

  rest_sound : (row : List Level) (x : Level) (d at : ℕ) → Rest row x d at → Sound s x.seen
  rest_sound row x d at (over w e) = w
  rest_sound row x d at (rest_list w o m e) = w
  rest_sound row x d at (rest_dictionary keys o m e k) = (k.ordered, k.within)

  pub stand_sound : (row : List Level) (d : ℕ) (x : Level) (valued : Bool) (at : ℕ) → Stand row d x valued at → Sound s x.seen
  stand_sound row d x true at st = under_sound row x d st.1.0 at st.1.1
  stand_sound row d x false at st = rest_sound row x d at st.1

  -- a place of the row from the depth on may be written
  under_set : (row : List Level) (x : Level) (d l v i : ℕ) (y : Level) → d ≤ i → Under row x d l v → Under (set row i y) x d l v
  under_set row x d l v i y h (outermost w) = outermost w
  under_set row x d l v i y h (in_list {d = c} {u = u} w o m e) =
      in_list w (subst (λ (z : Level). Under (set row i y) z c (suc l) u) (sym (get_or-set_other row i c y outside (omega arith))) (under_set row (get_or row c outside) c (suc l) u i y (omega arith) o)) m e
  under_set row x d l v i y h (in_dictionary {d = c} {u = u} keys w o m e k) =
      in_dictionary keys w (subst (λ (z : Level). Under (set row i y) z c (suc l) u) (sym (get_or-set_other row i c y outside (omega arith))) (under_set row (get_or row c outside) c (suc l) u i y (omega arith) o)) m e k

  -- a value is under way as before, once its level is kept in the row
  pub under_kept : (row : List Level) (x : Level) (d l v : ℕ) → d < length row → Under row x d l v → Under (set row d x) (get_or (set row d x) d outside) d l v
  under_kept row x d l v h o = subst (λ (z : Level). Under (set row d x) z d l v) (sym (get_or-set_same row d x outside h)) (under_set row x d l v d x (omega arith) o)

  -- a fault of the value under way is that of the payload's value
  pub under_fault : (row : List Level) (x : Level) (d l v : ℕ) (f : Fault) → Under row x d l v → value_at p l s v ≡ Err f → Err f ≡ FirstValue
  under_fault row x d l v f (outermost w) q = sym q
  under_fault row x d l v f (in_list {d = c} {u = u} w o m e) q = under_fault row (get_or row c outside) c (suc l) u f o (e ∙ ap (λ (w : Walk). and_then w (list_at p l s)) q)
  under_fault row x d l v f (in_dictionary {d = c} {u = u} keys w o m e k) q = under_fault row (get_or row c outside) c (suc l) u f o (e ∙ ap (λ (w : Walk). and_then w (λ t. dictionary_from p (value_at p l s) s t keys)) q)

  -- the end of the value under way leaves the rest of its level
  pub under_end : (row : List Level) (x : Level) (d l v end : ℕ) → Under row x d l v → value_at p l s v ≡ Ok end → Rest row x d end
  under_end row x d l v end (outermost w) q = over w q
  under_end row x d l v end (in_list {d = c} {u = u} w o m e) q = rest_list w o m (e ∙ ap (λ (w : Walk). and_then w (list_at p l s)) q)
  under_end row x d l v end (in_dictionary {d = c} {u = u} keys w o m e k) q = rest_dictionary keys o m (e ∙ ap (λ (w : Walk). and_then w (λ t. dictionary_from p (value_at p l s) s t keys)) q) (k end q)

  -- before the payload's value
  pub starts : (row : List Level) (x : Level) → length row ≡ largest_depth → x ≡ outside → Stand row 0 x true 0
  starts row x long e = (long, (largest_depth, outermost (subst (λ (y : Level). Sound s y.seen) (sym e) (omega arith))))
