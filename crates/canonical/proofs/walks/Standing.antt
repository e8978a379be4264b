-- What the search finds where the entries of a dictionary stand: whether their keys rise, and the next entry.
-- Assumes nothing.
use Prim.Native.Nat.{ℕ, ◌+◌}
use mathlib.Core.Path.{◌≡◌, refl, sym, ap, ap₂, subst, ◌∙◌}
use mathlib.Core.Bool.{Bool, true, false, cond}
use mathlib.Core.List.{List, [], ◌∷◌, ◌++◌}
use native.Mathlib.Omega.{arith}
use lib.ListN.{length}
use Rattle.std.specs.Prelude.{Option, None, Some, Result, Ok, Err}
use Rattle.octets.specs.Bytes.{slice, less, Begins}
use Rattle.bencode.specs.declared.fault.Fault.{Fault}
use Rattle.bencode.specs.declared.profile.Profile.{Profile}
use Rattle.bencode.specs.declared.strings.Text.{Text}
use Rattle.bencode.specs.Loop.{after_step}
use Rattle.bencode.specs.Loop as Loop
use Rattle.bencode.specs.Strings.{string_at, text_of}
use Rattle.bencode.specs.Skip.{skip_value}
use Rattle.bencode.specs.Value.{Value, Entries, no_entry, entry, encode_string, encode, encode_entries, AllEntries, WellFormed}
use Rattle.octets.proofs.sequences.Order.{clash}
use Rattle.octets.proofs.sequences.BeginsLaws.{begins_left, begins_right, begins_head}
use Rattle.bencode.proofs.values.Encodings.{entries_text}
use Rattle.bencode.proofs.values.FirstBytes.{no_string}
use Rattle.bencode.proofs.values.ScalarReads.{string_reads}
use Rattle.bencode.proofs.Lookups.{skips_value}
use Rattle.canonical.specs.declared.select.Pick.{Pick}
use Rattle.canonical.specs.SortWalk.{Bound, nothing, up_to, is_past, entry_at, key_of, rise_text, rises_at, better_at, least_text, least_at}
use Rattle.canonical.proofs.values.Inserts.{Above, Rising, above_trans}
use Rattle.canonical.proofs.walks.Selecting.{Next, none, next, better, least}
use Rattle.canonical.proofs.walks.Steps.{rise_step_lem, least_step_lem}

-- ---- an entry where it stands
record Opened (s : List ℕ) (at : ℕ) (k : List ℕ) (v : Value) (es : Entries) (end : ℕ) : Type 0 where
  begin : ℕ
  stop : ℕ
  text : string_at s at ≡ Ok (text_of begin stop)
  key : slice s begin stop ≡ k
  head : Begins s at (encode_string k) stop
  stands : Begins s stop (encode v) (stop + length (encode v))
  skipped : skip_value s stop ≡ stop + length (encode v)
  rest : Begins s (stop + length (encode v)) (encode_entries es ++ (101 ∷ [])) end

opened : (levels : ℕ) (s : List ℕ) (at : ℕ) (k : List ℕ) (v : Value) (es : Entries) (end : ℕ) → WellFormed Profile.Loose levels v → Begins s at (encode_entries (entry k v es) ++ (101 ∷ [])) end → Opened s at k v es end
opened levels s at k v es end formed b =
    let c = subst (λ (l : List ℕ). Begins s at l end) (entries_text k v es) b in
    let m = at + length (encode_string k) in
    let l = begins_left s at end (encode_string k) (encode v ++ (encode_entries es ++ (101 ∷ []))) c in
    let r = string_reads s at m k l in
    let d = begins_right s at end (encode_string k) (encode v ++ (encode_entries es ++ (101 ∷ []))) c in
    let stands = begins_left s m end (encode v) (encode_entries es ++ (101 ∷ [])) d in
    record {
      begin = r.0;
      stop = m;
      text = r.1;
      key = r.2;
      head = l;
      stands = stands;
      skipped = skips_value Profile.Loose levels v s m (m + length (encode v)) formed stands;
      rest = begins_right s m end (encode v) (encode_entries es ++ (101 ∷ [])) d;
    }

closed : (s : List ℕ) (at end : ℕ) → Begins s at (encode_entries no_entry ++ (101 ∷ [])) end → (f : Fault) × (string_at s at ≡ Err f)
unfolding encode
closed s at end b = no_string s at (omega (arith, begins_head s at 101 end [] b))

-- ---- do the keys rise
rises_in : Bound → Entries → Bool
rises_in b no_entry = true
rises_in b (entry k v es) = cond (is_past b k) (rises_in (up_to k) es) false

module _ (levels : ℕ) (s : List ℕ) (end : ℕ) where
  rises_is : (es : Entries) (keys : List (List ℕ)) (at : ℕ) (b : Bound) → AllEntries Profile.Loose (WellFormed Profile.Loose levels) keys es → Begins s at (encode_entries es ++ (101 ∷ [])) end → rises_at s at b ≡ rises_in b es
  unfolding rises_in
  rises_is no_entry keys at b a h = let c = closed s at end h in rw (rise_step_lem s at b, c.1) refl
  rises_is (entry k v es) keys at b a h =
      let o = opened levels s at k v es end a.1 h in
      rise_step_lem s at b ∙ ap (λ (t : Result Text Fault). after_step (rise_text s b t) (λ to y. rises_at s to y)) o.text
      ∙ go o.begin o.stop o.key o.skipped (rises_is es (k ∷ keys) (o.stop + length (encode v)) (up_to k) a.2 o.rest)
    where
      each : (stop : ℕ) (u : Bool) → rises_at s (stop + length (encode v)) (up_to k) ≡ rises_in (up_to k) es → after_step (cond u (Loop.next (stop + length (encode v)) (up_to k)) (Loop.done false)) (λ to y. rises_at s to y) ≡ cond u (rises_in (up_to k) es) false
      each stop true rec = rec
      each stop false rec = refl

      go : (begin stop : ℕ) → slice s begin stop ≡ k → skip_value s stop ≡ stop + length (encode v) → rises_at s (stop + length (encode v)) (up_to k) ≡ rises_in (up_to k) es
          → after_step (rise_text s b (Ok (text_of begin stop))) (λ to y. rises_at s to y) ≡ cond (is_past b k) (rises_in (up_to k) es) false
      go begin stop i j rec = rw (i, j) (each stop (is_past b k) rec)

rises_above : (k : List ℕ) (es : Entries) → rises_in (up_to k) es ≡ true → Above k es × Rising es
unfolding rises_in
rises_above k no_entry e = (tt, tt)
rises_above k (entry j w es) e = go (less k j) refl e (λ q. rises_above j es q)
  where
    go : (t : Bool) → less k j ≡ t → cond t (rises_in (up_to j) es) false ≡ true → (rises_in (up_to j) es ≡ true → Above j es × Rising es) → Above k (entry j w es) × Rising (entry j w es)
    go true p e rec = let r = rec e in ((p, above_trans k j es p r.0), (r.0, r.1))
    go false p e rec = clash false e refl

rises_rising : (es : Entries) → rises_in nothing es ≡ true → Rising es
unfolding rises_in
rises_rising no_entry e = tt
rises_rising (entry k v es) e = rises_above k es e

-- where the code finds that the keys rise, they do
pub found_rising : (levels : ℕ) (s : List ℕ) (es : Entries) (at end : ℕ) → AllEntries Profile.Loose (WellFormed Profile.Loose levels) [] es → Begins s at (encode_entries es ++ (101 ∷ [])) end → rises_at s at nothing ≡ true → Rising es
found_rising levels s es at end a h e = rises_rising es (sym (rises_is levels s end es [] at nothing a h) ∙ e)

-- ---- the next entry, where it stands
unfoldable pub Picked : ℕ → List ℕ → Option Pick → Next → Type 0
Picked levels s None none = Unit {0}
Picked levels s None (next k v) = ⊥
Picked levels s (Some p) none = ⊥
Picked levels s (Some p) (next k v) = (key_of s p ≡ k) × Begins s p.at (encode_string k) p.end × Begins s p.end (encode v) (p.end + length (encode v)) × WellFormed Profile.Loose levels v

picked_better : (levels : ℕ) (s : List ℕ) (best : Option Pick) (r : Next) (o : Pick) (k : List ℕ) (v : Value) → Picked levels s best r → Picked levels s (Some o) (next k v) → Picked levels s (better_at s best o) (better r k v)
unfolding Picked
picked_better levels s None none o k v p q = q
picked_better levels s None (next j w) o k v p q = absurd p
picked_better levels s (Some b) none o k v p q = absurd p
picked_better levels s (Some b) (next j w) o k v p q = rw (q.0, p.0) (go (less k j))
  where
    go : (t : Bool) → Picked levels s (cond t (Some o) (Some b)) (cond t (next k v) (next j w))
    go true = q
    go false = p

module _ (levels : ℕ) (s : List ℕ) (end : ℕ) (b : Bound) where
  pub least_picked : (es : Entries) (keys : List (List ℕ)) (at : ℕ) (best : Option Pick) (r : Next) → AllEntries Profile.Loose (WellFormed Profile.Loose levels) keys es → Begins s at (encode_entries es ++ (101 ∷ [])) end → Picked levels s best r → Picked levels s (least_at s b at best) (least b r es)
  unfolding least Picked
  least_picked no_entry keys at best r a h p = let c = closed s at end h in subst (λ (e : Option Pick). Picked levels s e r) (sym (least_step_lem s b at best ∙ ap (λ (t : Result Text Fault). after_step (least_text s b at best t) (λ to y. least_at s b to y)) c.1)) p
  least_picked (entry k v es) keys at best r a h p =
      let o = opened levels s at k v es end a.1 h in
      let m = o.begin in
      let n = o.stop in
      let q : Picked levels s (Some (entry_at at m n)) (next k v) = (o.key, o.head, o.stands, a.1) in
      let e : least_at s b at best ≡ least_at s b (n + length (encode v)) (cond (is_past b k) (better_at s best (entry_at at m n)) best) =
      least_step_lem s b at best ∙ ap (λ (t : Result Text Fault). after_step (least_text s b at best t) (λ to y. least_at s b to y)) o.text
      ∙ ap₂ (λ (to : ℕ) (l : List ℕ). least_at s b to (cond (is_past b l) (better_at s best (entry_at at m n)) best)) o.skipped o.key in
      subst (λ (x : Option Pick). Picked levels s x (least b (cond (is_past b k) (better r k v) r) es)) (sym e)
      (least_picked es (k ∷ keys) (n + length (encode v)) (cond (is_past b k) (better_at s best (entry_at at m n)) best) (cond (is_past b k) (better r k v) r) a.2 o.rest (go m n (is_past b k) q))
    where
      go : (m n : ℕ) (t : Bool) → Picked levels s (Some (entry_at at m n)) (next k v) → Picked levels s (cond t (better_at s best (entry_at at m n)) best) (cond t (better r k v) r)
      go m n true q = picked_better levels s best r (entry_at at m n) k v p q
      go m n false q = p
