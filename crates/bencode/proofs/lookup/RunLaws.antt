-- Laws of items of one kind that stand one after another in a list: where they end, and that a list comes to the same from
-- after them on.
-- Assumes nothing.
use Prim.Native.Nat.{ℕ, ◌<◌, ◌≤◌}
use mathlib.Core.Path.{◌≡◌, refl, ap, ◌∙◌}
use mathlib.Core.List.{List}
use native.Mathlib.Omega.{arith}
use lib.ListN.{length}
use Rattle.bencode.specs.declared.integers.Number.{Number}
use Rattle.bencode.specs.declared.profile.Profile.{Profile}
use Rattle.bencode.specs.declared.strings.Text.{Text}
use Rattle.octets.specs.Bytes.{byte_at}
use Rattle.bencode.specs.Fault.{after_of}
use Rattle.bencode.specs.Integers.{integer_at, number_end}
use Rattle.bencode.specs.Loop.{Past}
use Rattle.bencode.specs.Runs.{Run, none, more, TextAt, PositiveAt, ListOn}
use Rattle.bencode.specs.Strings.{string_at, text_end, text_of}
use Rattle.bencode.specs.Walk.{value_at, list_at}
use Rattle.bencode.proofs.walking.Ends.{string_whole_inv, integer_ends, after_end}
use Rattle.bencode.proofs.walking.WalkLaws.{list_more}
use Rattle.bencode.proofs.lookup.ListLaws.{after_number, integer_first, integer_value_lem, string_value}
use Rattle.std.specs.Prelude.{Ok, Result, Err, Option, Some, IfSome}
use Rattle.bencode.specs.declared.fault.Fault.{Fault}

-- ---- a run, over any items
module _ (item : ℕ → ℕ → Type 0) where
  pub run_append : (from mid to : ℕ) → Run item from mid → Run item mid to → Run item from to
  run_append from mid to r none = r
  run_append from mid to r (more at end q i) = more at end (run_append from mid at r q) i

-- a run of items is one of others that they are
pub run_map : (item other : ℕ → ℕ → Type 0) → ((at end : ℕ) → item at end → other at end) → (from to : ℕ) → Run item from to → Run other from to
run_map item other is from to none = none
run_map item other is from to (more at end r i) = more at end (run_map item other is from at r) (is at end i)

-- a run of runs is one
pub run_join : (part item : ℕ → ℕ → Type 0) → ((at end : ℕ) → part at end → Run item at end) → (from to : ℕ) → Run part from to → Run item from to
run_join part item is from to none = none
run_join part item is from to (more at end r i) = run_append item from at end (run_join part item is from at r) (is at end i)

-- a run of items that end past their start does not come back
pub run_up : (item : ℕ → ℕ → Type 0) → ((at end : ℕ) → item at end → at < end) → (from to : ℕ) → Run item from to → from ≤ to
run_up item up from to none = omega arith
run_up item up from to (more at end r i) = omega (arith, run_up item up from at r, up at end i)

-- where a run comes to
data Reach (s : List ℕ) (from to : ℕ) : Type 0 where
  same : to ≡ from → Reach s from to
  past : Past s from to → Reach s from to

module _ (s : List ℕ) (item : ℕ → ℕ → Type 0) (ends : (at end : ℕ) → item at end → Past s at end) where
  run_past : (from to : ℕ) → Run item from to → Reach s from to
  run_past from to none = same refl
  run_past from to (more at end r i) = go (run_past from at r) (ends at end i)
    where
      go : Reach s from at → Past s at end → Reach s from end
      go (same e) q = past (omega (arith, q, e))
      go (past p) q = past (omega (arith, p, q))

  -- a run that comes further right stays in the bytes
  run_within : (from to : ℕ) → Run item from to → from < to → to ≤ length s
  run_within from to r l = go (run_past from to r)
    where
      go : Reach s from to → to ≤ length s
      go (same e) = absurd (omega (arith, e, l))
      go (past p) = omega (arith, p)

  -- a run and one item more
  pub run_item_past : (from at end : ℕ) → Run item from at → item at end → Past s from end
  run_item_past from at end r i = omega (arith, run_up item (λ (a e : ℕ) (q : item a e). omega (arith, ends a e q)) from at r, ends at end i)

-- ---- a run of values in a list
module _ (s : List ℕ) (item : ℕ → ℕ → Type 0) (ends : (at end : ℕ) → item at end → Past s at end) (on : (p : Profile) (levels at end : ℕ) → item at end → list_at p levels s end ≡ list_at p levels s at) where
  run_on : (p : Profile) (levels from to : ℕ) → Run item from to → list_at p levels s to ≡ list_at p levels s from
  run_on p levels from to none = refl
  run_on p levels from to (more at end r i) = on p levels at end i ∙ run_on p levels from at r

  run_list : (from to : ℕ) → Run item from to → from < to → ListOn s from to
  run_list from to r l = (run_within s item ends from to r l, λ p levels. run_on p levels from to r)

-- ---- a string
pub text_more : (s : List ℕ) (at start end : ℕ) → string_at s at ≡ Ok (text_of start end) → TextAt s at end
text_more s at start end e = ap text_end e

pub text_bytes : (s : List ℕ) (at end : ℕ) → TextAt s at end → (start : ℕ) × (string_at s at ≡ Ok (text_of start end))
text_bytes s at end e = go (string_at s at) refl e
  where
    go : (t : Result Text Fault) → string_at s at ≡ t → text_end t ≡ Ok end → (start : ℕ) × (string_at s at ≡ Ok (text_of start end))
    go (Ok t) q e = let i : t.end ≡ end = cc in (t.start, q ∙ ap (λ (j : ℕ). Ok (text_of t.start j)) i)
    go (Err f) q e = let z : ◌≡◌ {A = ℕ} 0 1 = cc in absurd (omega arith)

-- the offset after a string
pub text_after : (s : List ℕ) (at r : ℕ) → after_of (text_end (string_at s at)) ≡ Some r → TextAt s at r
text_after s at r e = after_end (text_end (string_at s at)) r e

pub text_past : (s : List ℕ) (at end : ℕ) → TextAt s at end → Past s at end
text_past s at end e =
    let t = text_bytes s at end e in
    let w = string_whole_inv s at t.0 end t.1 in
    omega (arith, w.starts, w.ordered, w.within)

pub text_no_end : (s : List ℕ) (at end : ℕ) → TextAt s at end → byte_at s at ≡ 101 → ⊥
text_no_end s at end e b =
    let t = text_bytes s at end e in
    let w = string_whole_inv s at t.0 end t.1 in
    omega (arith, w.low, w.high, b)

pub text_value_lem : (s : List ℕ) (p : Profile) (levels at end : ℕ) → TextAt s at end → value_at p levels s at ≡ Ok end
text_value_lem s p levels at end e = let t = text_bytes s at end e in string_value p levels s at t.0 end t.1

text_list_lem : (s : List ℕ) (p : Profile) (levels at end : ℕ) → TextAt s at end → list_at p levels s end ≡ list_at p levels s at
text_list_lem s p levels at end e = list_more p levels s at (text_no_end s at end e) end (text_value_lem s p levels at end e)

pub text_run_list : (s : List ℕ) (from to : ℕ) → Run (TextAt s) from to → from < to → ListOn s from to
text_run_list s from to r l = run_list s (TextAt s) (text_past s) (text_list_lem s) from to r l

-- what is told of an item that any list goes on after
abbrev pub Onward : List ℕ → ℕ → Option ℕ → Type 0
Onward s at r = IfSome r (λ (end : ℕ). (at < end) × ListOn s at end)

-- any string, by the offset after it
pub string_list : (s : List ℕ) (at : ℕ) → Onward s at (after_of (text_end (string_at s at)))
string_list s at = go (string_at s at) refl
  where
    go : (t : Result Text Fault) → string_at s at ≡ t → Onward s at (after_of (text_end t))
    go (Ok t) q =
        let e = text_more s at t.start t.end q in
        let past = text_past s at t.end e in
        (omega (arith, past), (omega (arith, past), λ p levels. text_list_lem s p levels at t.end e))
    go (Err f) q = tt

-- ---- an integer from 1 to another
module _ (high : ℕ) (s : List ℕ) where
  pub positive_past : (at end : ℕ) → PositiveAt high s at end → Past s at end
  positive_past at end e =
      let n = after_number s at end high e in
      integer_ends s at n.0 end n.1

  pub positive_no_end : (at end : ℕ) → PositiveAt high s at end → byte_at s at ≡ 101 → ⊥
  positive_no_end at end e b =
      let n = after_number s at end high e in
      omega (arith, integer_first s at n.0 end n.1, b)

  pub positive_value : (p : Profile) (levels at end : ℕ) → PositiveAt high s at end → value_at p levels s at ≡ Ok end
  positive_value p levels at end e =
      let n = after_number s at end high e in
      integer_value_lem p levels s at n.0 end n.1

  positive_list : (p : Profile) (levels at end : ℕ) → PositiveAt high s at end → list_at p levels s end ≡ list_at p levels s at
  positive_list p levels at end e = list_more p levels s at (positive_no_end at end e) end (positive_value p levels at end e)

  pub positive_run_list : (from to : ℕ) → Run (PositiveAt high s) from to → from < to → ListOn s from to
  positive_run_list from to r l = run_list s (PositiveAt high s) positive_past positive_list from to r l

-- ---- any integer, by the offset after it
pub integer_list : (s : List ℕ) (at : ℕ) → Onward s at (after_of (number_end (integer_at s at)))
integer_list s at = go (integer_at s at) refl
  where
    go : (n : Result Number Fault) → integer_at s at ≡ n → Onward s at (after_of (number_end n))
    go (Ok n) q =
        let past = integer_ends s at n.value n.end q in
        let no_end : byte_at s at ≡ 101 → ⊥ = λ b. omega (arith, integer_first s at n.value n.end q, b) in
        (omega (arith, past), (omega (arith, past), λ p levels. list_more p levels s at no_end n.end (integer_value_lem p levels s at n.value n.end q)))
    go (Err f) q = tt
