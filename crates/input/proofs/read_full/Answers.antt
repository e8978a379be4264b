-- `input::read_full` meets its contract: each read puts what it took behind what stands there.
-- Assumes nothing.
use Rattle.std.proofs.Common.{rules, ◌≡◌, ℕ, List, ◌-◌, ◌++◌, ◌+◌, ◌≤◌, arith, length, take, drop, drop_at, length-take-le, le_refl, ap, sym, ◌∙◌, subst}
use Rattle.std.proofs.KnownBytes.{Consumes-trans}
use Rattle.std.proofs.lemmas.Slice.{take-put_mid_below}
use Rattle.std.specs.Io.KnownBytes.{Consumes}
use borrow.Rule.Slice.PartMut.{put_mid, post_of}
use lib.Seq.{take-add, take-append-le}
use Rattle.input.proofs.read_full.Goals as goal

-- the front of a buffer after a read into its rest
read_behind : (from room n : ℕ) (old part : List ℕ) → from ≤ length old → n ≤ length part → take from old ++ take n part ≡ take (from + n) (put_mid from room old part)
read_behind from room n old part within fits =
    let new = put_mid from room old part in
    let after = post_of from room old in
    let front : take from new ≡ take from old = take-put_mid_below _ _ _ _ _ (le_refl _) within in
    let rest : take n (drop from new) ≡ take n part = ap (take n) (drop_at (take from old) (part ++ after) from (length-take-le from old within)) ∙ take-append-le n part after fits in
    ap (λ l. l ++ take n part) (sym front) ∙ ap (λ l. take from new ++ l) (sym rest) ∙ sym (take-add from n new)

pub loop-done-preserved : goal.loop-done-preserved
loop-done-preserved g c =
    let from = c.loop-done.done in
    let old = c.loop-done.buffer in
    let fits = c.in_ok-n.ensures.bound.0 in
    let behind = read_behind from (length old - from) c.in_ok-n.n old c.read.new.buf c.loop-done.invariant.0 fits in
    (search rules, subst (Consumes _ _) behind (Consumes-trans _ _ _ _ _ c.loop-done.invariant.1 c.in_ok-n.ensures.bytes.0))
