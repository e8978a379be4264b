-- The search for the next entry, a step at a time: each step ends further right.
-- Assumes nothing.
use Prim.Native.Nat.{ℕ}
use mathlib.Core.Path.{◌≡◌, refl, sym, ap, subst, ◌∙◌}
use mathlib.Core.Bool.{Bool, true, false, cond}
use mathlib.Core.List.{List}
use native.Mathlib.Omega.{arith}
use Rattle.std.specs.Prelude.{Option, None, Some, Result, Ok, Err}
use Rattle.octets.specs.Bytes.{slice}
use Rattle.bencode.specs.declared.strings.Text.{Text}
use Rattle.bencode.specs.Loop.{after_step, Past, Onward}
use Rattle.bencode.specs.Loop as Loop
use Rattle.bencode.specs.Strings.{string_at, text_of}
use Rattle.bencode.specs.Skip.{skip_value}
use Rattle.bencode.proofs.loops.LoopLaws.{repeat_step}
use Rattle.bencode.proofs.walking.Ends.{string_whole_inv}
use Rattle.bencode.proofs.lookup.SkipLaws.{skip_range}
use Rattle.canonical.specs.declared.select.Pick.{Pick}
use Rattle.canonical.specs.declared.select.Place.{Place}
use Rattle.canonical.specs.SortWalk.{Bound, up_to, is_past, entry_at, key_of, entry_from, EntryStep, rise_text, rise_step, rises_at, preferred_at, least_text, least_step, least_at}
use Rattle.bencode.specs.declared.fault.Fault.{Fault}

pub entry_past : (s : List ℕ) (at begin stop to : ℕ) → string_at s at ≡ Ok (text_of begin stop) → skip_value s stop ≡ to → Past s at to
entry_past s at begin stop to e i =
    let w = string_whole_inv s at begin stop e in
    let r = skip_range s stop 0 w.within in
    omega arith

rise_onward : (s : List ℕ) → Onward s (rise_step s)
rise_onward s at x to y e = go (string_at s at) refl e
  where
    past' : (begin stop : ℕ) → string_at s at ≡ Ok (text_of begin stop) → (t : Bool) → cond t (Loop.next (skip_value s stop) (up_to (slice s begin stop))) (Loop.done false) ≡ Loop.next to y → Past s at to
    past' begin stop q true e = let i : skip_value s stop ≡ to = cc in entry_past s at begin stop to q i
    past' begin stop q false e = let z : ◌≡◌ {A = ℕ} 0 1 = cc in absurd (omega arith)

    go : (w : Result Text Fault) → string_at s at ≡ w → rise_text s x w ≡ Loop.next to y → Past s at to
    go (Ok t) q e = past' t.start t.end q (is_past x (slice s t.start t.end)) e
    go (Err f) q e = let z : ◌≡◌ {A = ℕ} 0 1 = cc in absurd (omega arith)

pub rise_step_lem : (s : List ℕ) (at : ℕ) (b : Bound) → rises_at s at b ≡ after_step (rise_step s at b) (λ to y. rises_at s to y)
unfolding rises_at
rise_step_lem s at b = repeat_step s (rise_step s) (rise_onward s) (λ (k : ℕ). true) at b

least_onward : (s : List ℕ) (b : Bound) → Onward s (least_step s b)
least_onward s b at x to y e = go (string_at s at) refl e
  where
    go : (w : Result Text Fault) → string_at s at ≡ w → least_text s b at x w ≡ Loop.next to y → Past s at to
    go (Ok t) q e = let i : skip_value s t.end ≡ to = cc in entry_past s at t.start t.end to q i
    go (Err f) q e = let z : ◌≡◌ {A = ℕ} 0 1 = cc in absurd (omega arith)

pub least_step_lem : (s : List ℕ) (b : Bound) (at : ℕ) (best : Option Pick) → least_at s b at best ≡ after_step (least_step s b at best) (λ to y. least_at s b to y)
unfolding least_at
least_step_lem s b at best = repeat_step s (least_step s b) (least_onward s b) (λ (k : ℕ). None) at best

-- ---- one law for each step of the walk over the entries
-- the step of a walk over the payload itself, by places, and by offsets
pub step_at : {s t : List ℕ} (at after : Place) (o : Option Pick) → t ≡ s → EntryStep t (entry_from t at) o (entry_from t after) → EntryStep s (entry_from s at) o (entry_from s after)
step_at at after o e h = subst (λ (l : List ℕ). EntryStep l (entry_from l at) o (entry_from l after)) e h

pub step_of : {s t : List ℕ} (at after : ℕ) (o : Option Pick) → t ≡ s → EntryStep t at o after → EntryStep s at o after
step_of at after o e h = step_at (Place.Entry at) (Place.Entry after) o e h

module _ (s : List ℕ) (at : ℕ) (b : Bound) (after : ℕ) where
  pub rise_end : EntryStep s at None after → true ≡ rises_at s at b
  rise_end h = rw (rise_step_lem s at b, h.1) refl

  module _ (p : Pick) (h : EntryStep s at (Some p) after) where
    pub rise_falls : is_past b (key_of s p) ≡ false → false ≡ rises_at s at b
    rise_falls f = rw (rise_step_lem s at b, h.0, f) refl

    pub rise_more : is_past b (key_of s p) ≡ true → rises_at s after (up_to (key_of s p)) ≡ rises_at s at b
    rise_more t = rw h.2 (sym (rise_step_lem s at b ∙ rw (h.0, t) refl))

  module _ (best : Option Pick) where
    pub least_end : EntryStep s at None after → best ≡ least_at s b at best
    least_end h = rw (least_step_lem s b at best, h.1) refl

    pub least_more : (p : Pick) → EntryStep s at (Some p) after → least_at s b after (preferred_at s b best p) ≡ least_at s b at best
    least_more p h =
        let e : entry_at at p.start p.end ≡ p = ap (λ (k : ℕ). entry_at k p.start p.end) (sym h.1) in
        rw (h.2, ← e) (sym (least_step_lem s b at best ∙ ap (λ (t : Result Text Fault). after_step (least_text s b at best t) (λ k y. least_at s b k y)) h.0))
