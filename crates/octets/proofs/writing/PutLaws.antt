-- Laws of storing into a buffer: parts stored one after the other, by what is left of them.
-- Assumes nothing.
use mathlib.Core.Path.{◌≡◌, refl, ap, sym, ◌∙◌}
use mathlib.Core.List.{List, [], ◌∷◌, ◌++◌, flatten}
use Prim.Native.Nat.{ℕ, suc, ◌+◌, ◌≤◌, ◌<◌}
use native.Mathlib.Nat.{add-zero, zero-add}
use native.Mathlib.Numerals.{add-one}
use native.Mathlib.Omega.{arith}
use borrow.Author.Tests.{le-leb, lt-leb}
use lib.ListN.{length, length-append, drop, get_or, set}
use lib.Seq.{sets, sets-eq, length-sets, drop-cons}
use Rattle.octets.specs.Put.{Wrote, Put}

-- two runs of stores, one after the other, are one run
pub sets_append : (l : List ℕ) (i : ℕ) (xs ys : List ℕ) → sets (sets l i xs) (i + length xs) ys ≡ sets l i (xs ++ ys)
sets_append l i [] ys = rw add-zero
sets_append l i (x ∷ xs) ys =
    let e : i + suc (length xs) ≡ suc i + length xs = omega arith in
    rw e (sets_append (set l i x) (suc i) xs ys)

-- nothing written, and one byte stored
pub wrote_none : (l : List ℕ) (i : ℕ) → Wrote l i [] l i
wrote_none l i = record { stored = refl; ended = sym (add-zero i) }

pub wrote_byte : (l : List ℕ) (i b : ℕ) → Wrote l i (b ∷ []) (set l i b) (i + 1)
wrote_byte l i b = record { stored = refl; ended = refl }

-- a write keeps the buffer's length
pub wrote_length : {a b xs : List ℕ} {i j : ℕ} → Wrote a i xs b j → length b ≡ length a
wrote_length {a} {b} {xs} {i} p = ap length p.stored ∙ length-sets a i xs

-- parts are being written one after the other from an offset of a buffer: so far it is `b`, and from the offset `j` on the
-- parts `rest` are left
pub record Writing (a : List ℕ) (i : ℕ) (parts : List (List ℕ)) (b : List ℕ) (j : ℕ) (rest : List (List ℕ)) : Type 0 where
  pub stores : sets b j (flatten rest) ≡ sets a i (flatten parts)
  pub ends : j + length (flatten rest) ≡ i + length (flatten parts)
  pub room : j + length (flatten rest) ≤ length b
  pub kept : length b ≡ length a

-- nothing is written yet
pub start : (a : List ℕ) (i : ℕ) (parts : List (List ℕ)) → i + length (flatten parts) ≤ length a → Writing a i parts a i parts
start a i parts h = record { stores = refl; ends = refl; room = h; kept = refl }

-- there is room for the first of what is left
pub room_next : {a b x : List ℕ} {parts rest : List (List ℕ)} {i j : ℕ} → Writing a i parts b j (x ∷ rest) → j + length x ≤ length b
unfolding flatten
room_next {x = x} {rest = rest} p = omega (arith, length-append x (flatten rest), p.room)

-- the first of what is left is written
pub next : {a b b' x : List ℕ} {parts rest : List (List ℕ)} {i j j' : ℕ} → Writing a i parts b j (x ∷ rest) → Wrote b j x b' j' → Writing a i parts b' j' rest
unfolding flatten
next {b = b} {x = x} {rest = rest} {j = j} p w =
    record {
      stores = rw (w.stored, w.ended) (sets_append b j x (flatten rest) ∙ p.stores);
      ends = omega (arith, length-append x (flatten rest), p.ends, w.ended);
      room = omega (arith, length-append x (flatten rest), p.room, w.ended, wrote_length w);
      kept = wrote_length w ∙ p.kept;
    }

-- nothing is left
pub finish : {a b : List ℕ} {parts : List (List ℕ)} {i j : ℕ} → Writing a i parts b j [] → Wrote a i (flatten parts) b j
unfolding flatten
finish p = record { stored = p.stores; ended = omega (arith, p.ends) }

-- a write at the front
pub wrote_front : {a b xs : List ℕ} {j : ℕ} → length xs ≤ length a → Wrote a 0 xs b j → b ≡ xs ++ drop (length xs) a
wrote_front {a} {b} {xs} h p = p.stored ∙ sets-eq xs a 0 (rw (zero-add (length xs)) h) ∙ rw (zero-add (length xs))

-- a byte copied, of those that are left
pub put_byte : (out : List ℕ) (o : ℕ) (s : List ℕ) (j : ℕ) → j < length s
    → sets (set out o (get_or s j 0)) (o + 1) (drop (j + 1) s) ≡ sets out o (drop j s)
put_byte out o s j h = rw (add-one o, add-one j, drop-cons s j 0)

-- one write after another, joined
pub wrote_then : {a b c xs ys : List ℕ} {i j k : ℕ} → Wrote a i xs b j → Wrote b j ys c k → Wrote a i (xs ++ ys) c k
wrote_then {a} {b} {c} {xs} {ys} {i} {j} {k} p q =
    record {
      stored = q.stored ∙ rw (p.stored, p.ended) (sets_append a i xs ys);
      ended = omega (arith, length-append xs ys, p.ended, q.ended);
    }

-- ---- putting where there is room, and where there is none
pub put_wrote : {a x b : List ℕ} {i j : ℕ} → i + length x ≤ length a → Put a i x b j → Wrote a i x b j
put_wrote {a} {x} {i = i} h p =
    let t = le-leb (i + length x) (length a) h in
    record { stored = p.stored ∙ rw t refl; ended = p.ended ∙ rw t refl }

pub wrote_put : {a x b : List ℕ} {i j : ℕ} → i + length x ≤ length a → Wrote a i x b j → Put a i x b j
wrote_put {a} {x} {i = i} h p =
    let t = le-leb (i + length x) (length a) h in
    record { stored = p.stored ∙ sym (rw t refl); ended = p.ended ∙ sym (rw t refl) }

pub put_none : {a x : List ℕ} {i : ℕ} → length a < i + length x → Put a i x a i
put_none {a} {x} {i} h =
    let t = lt-leb (i + length x) (length a) h in
    record { stored = sym (rw t refl); ended = sym (rw t refl) }

-- the first of what is left is put: there is room for it
pub next_put : {a b b' x : List ℕ} {parts rest : List (List ℕ)} {i j j' : ℕ} → Writing a i parts b j (x ∷ rest) → Put b j x b' j' → Writing a i parts b' j' rest
next_put p w = next p (put_wrote (room_next p) w)
