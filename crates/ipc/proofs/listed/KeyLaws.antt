-- Laws of the listed keys. The table of the source is the list of the document: one computation, at `row_at` and at `key_of`.
-- Assumes nothing.
use Prim.Native.Nat.{ℕ, zero, suc, ◌-◌, ◌≤◌, ◌<◌, max}
use mathlib.Core.Path.{◌≡◌, refl, sym, ap, subst, ◌∙◌}
use mathlib.Core.Bool.{Bool, true, false, cond}
use mathlib.Core.List.{List, [], ◌∷◌, map}
use native.Mathlib.Nat.{le_of_suc-le-suc, not-suc-le-zero}
use native.Mathlib.Omega.{arith}
use lib.ListN.{length, get_or, drop, take, replicate, get_or-map, get_or-eq_default, length-append, drop_of_length-le}
use lib.Seq.{drop-cons, take_at}
use Rattle.octets.specs.Bytes.{same}
use Rattle.octets.specs.Put.{Put}
use Rattle.bencode.specs.Value.{encode_string}
use Rattle.octets.specs.Ascii.{ascii}
use Rattle.octets.proofs.sequences.Equality.{same_lengths}
use Rattle.ipc.specs.declared.keys.Class.{Class}
use Rattle.ipc.specs.declared.keys.KeyRow.{KeyRow}
use Rattle.ipc.specs.Keys.{Listed, listed, unlisted, row_of, row_at, name_at, number_from, key_number, listed_at, class_of, key_text}

-- what stands past the end does not matter inside
inside_any : {A : Type 0} (l : List A) (k : ℕ) (d e : A) → k < length l → get_or l k d ≡ get_or l k e
inside_any [] k d e h = absurd (not-suc-le-zero h)
inside_any (x ∷ l) zero d e h = refl
inside_any (x ∷ l) (suc k) d e h = inside_any l k d e (le_of_suc-le-suc h)

pub row_right : (d : KeyRow) (k : ℕ) → k < 20 → get_or (map row_of listed) k d ≡ row_at k
unfolding listed row_at
row_right d k h = inside_any (map row_of listed) k d (row_of unlisted) h ∙ get_or-map row_of listed k unlisted

-- the bytes of a row
module _ (x : Listed) (row : KeyRow) (e : row ≡ row_of x) where
  pub row_text : take row.length row.text ≡ ascii x.name
  row_text =
      let n = ascii x.name in
      ap (λ (r : KeyRow). take r.length r.text) e ∙ take_at n (replicate (14 - length n) 0) (length n) refl

  pub row_fits : row.length ≤ length row.text
  row_fits = let n = ascii x.name in rw e (omega (arith, length-append n (replicate (14 - length n) 0)))

module _ (k : ℕ) (row : KeyRow) (e : row ≡ row_at k) where
  table_name : take row.length row.text ≡ name_at k
  unfolding row_at name_at
  table_name = row_text (get_or listed k unlisted) row e

  pub table_same : (text : List ℕ) (t : Bool) → same (take row.length row.text) text ≡ t → same (name_at k) text ≡ t
  table_same text t h = ap (λ (x : List ℕ). same x text) (sym table_name) ∙ h

  -- a text of another length is not the row's
  pub table_other : (text : List ℕ) → (row.length ≡ length text → ⊥) → same (name_at k) text ≡ false
  unfolding row_at name_at
  table_other text h = same_lengths (name_at k) text (λ q. h (ap (λ (r : KeyRow). r.length) e ∙ q))

  pub table_class : row.class ≡ class_of (suc k)
  unfolding row_at class_of
  table_class = ap (λ (r : KeyRow). r.class) e

module _ (text : List ℕ) (k : ℕ) where
  number_step : k < 20 → number_from (suc k) (drop k listed) text ≡ cond (same (name_at k) text) (suc k) (number_from (suc (suc k)) (drop (suc k) listed) text)
  unfolding listed number_from name_at
  number_step h = rw (drop-cons listed k unlisted h) refl

  pub number_here : k < 20 → same (name_at k) text ≡ true → suc k ≡ number_from (suc k) (drop k listed) text
  number_here h e = rw (number_step h, e) refl

  pub number_next : k < 20 → same (name_at k) text ≡ false → number_from (suc (suc k)) (drop (suc k) listed) text ≡ number_from (suc k) (drop k listed) text
  number_next h e = rw (number_step h, e) refl

  pub number_none : 20 ≤ k → 0 ≡ number_from (suc k) (drop k listed) text
  unfolding listed number_from
  number_none h = rw (drop_of_length-le listed {i = k} h) refl

pub number_all : (text : List ℕ) → number_from 1 (drop 0 listed) text ≡ key_number text
unfolding key_number
number_all text = refl

pub class_none : Class.Unlisted ≡ class_of 0
unfolding class_of
class_none = refl

-- the key of a number that is not 0
pub listed_at_lem : (n : ℕ) → (n ≡ 0 → ⊥) → listed_at n ≡ get_or listed (n - 1) unlisted
listed_at_lem zero h = absurd (h refl)
listed_at_lem (suc k) h = ap (λ (i : ℕ). get_or listed i unlisted) (let e : k ≡ suc k - 1 = omega arith in e)

pub listed_past : (n : ℕ) → (n ≡ 0 → ⊥) → 20 ≤ n - 1 → listed_at n ≡ unlisted
unfolding listed
listed_past n h l = listed_at_lem n h ∙ get_or-eq_default listed unlisted {n = n - 1} l

-- ---- the row of a number
module _ (n : ℕ) where
  pub row_none : n ≡ 0 → row_of unlisted ≡ row_of (listed_at n)
  row_none e = rw e refl

  module _ (h : n ≡ 0 → ⊥) where
    pub row_past : 20 ≤ n - 1 → row_of unlisted ≡ row_of (listed_at n)
    row_past l = ap row_of (sym (listed_past n h l))

    pub row_here : row_at (n - 1) ≡ row_of (listed_at n)
    unfolding row_at
    row_here = ap row_of (sym (listed_at_lem n h))

  module _ (row : KeyRow) (e : row ≡ row_of (listed_at n)) where
    pub row_length : row.length ≡ length (key_text n)
    unfolding key_text
    row_length = ap (λ (r : KeyRow). r.length) e

    pub row_key : take row.length row.text ≡ key_text n
    unfolding key_text
    row_key = row_text (listed_at n) row e

-- ---- the text of a key
-- how long the longest text is: one computation over the list
longest : List Listed → ℕ
longest [] = 0
longest (x ∷ xs) = max (length (ascii x.name)) (longest xs)

below_longest : (l : List Listed) (k : ℕ) → length (ascii (get_or l k unlisted).name) ≤ longest l
unfolding longest ascii
below_longest [] k = omega arith
below_longest (x ∷ l) zero = omega arith
below_longest (x ∷ l) (suc k) = omega (arith, below_longest l k)

longest_listed : longest listed ≡ 14
unfolding longest listed ascii
longest_listed = refl

pub key_short : (n : ℕ) → length (key_text n) ≤ 14
unfolding key_text ascii
key_short zero = omega arith
key_short (suc k) = omega (arith, below_longest listed k, longest_listed)

-- a string that is put is put for an equal text
pub put_text : {before after t u : List ℕ} {at end : ℕ} → t ≡ u → Put before at (encode_string t) after end → Put before at (encode_string u) after end
put_text {before} {after} {t} {u} {at} {end} e p = subst (λ (x : List ℕ). Put before at (encode_string x) after end) e p
