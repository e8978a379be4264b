-- `ipc::keys::key_of` meets its contract: the keys from the present one on decide, and its table is the document's list.
-- Assumes nothing.
use mathlib.Core.Bool.{true, false}
use Rattle.octets.specs.Bytes.{same}
use Rattle.ipc.specs.Keys.{name_at, listed, key_number, class_of}
use Rattle.ipc.proofs.listed.KeyLaws.{table_same, table_other, table_class, class_none, row_right, number_here, number_next, number_none, number_all}
use native.Mathlib.Numerals.{add-one}
use native.Mathlib.Omega.{arith}
use Rattle.octets.specs.Ascii.{ascii}
use Prim.Native.Nat.{suc}
use mathlib.Core.Path.{◌≡◌, sym, ap, ◌∙◌}
use Rattle.ipc.proofs.keys.key_of.Goals.{else-row-text-via-then-row-text+else-same, else-row-text-via-else-row-text}
use Rattle.ipc.proofs.keys.key_of.Goals as goal

pub loop-k-init : goal.loop-k-init
loop-k-init c = (omega arith, number_all c.args.text.now)

pub returns-then-same : goal.returns-then-same
unfolding listed ascii
returns-then-same c =
    let text = c.args.text.now in
    let l = c.loop-k in
    let r = row_right _ l.k (omega arith) in
    let here : same (name_at l.k) text ≡ true = table_same l.k _ r text true (sym c.same.ensures ∙ c.if-same.true) in
    let number : suc l.k ≡ key_number text = number_here text l.k (omega arith) here ∙ l.invariant.1 in
    (rw (add-one l.k) number, table_class l.k _ r ∙ ap class_of number)

pub loop-k-preserved : goal.loop-k-preserved
unfolding listed ascii
loop-k-preserved c =
    let text = c.args.text.now in
    let l = c.loop-k in
    let r = row_right _ l.k (omega arith) in
    let other : same (name_at l.k) text ≡ false = elim c.else-row-text.branch [
      | else-row-text-via-then-row-text+else-same w ↦ table_same l.k _ r text false (sym w.same.ensures ∙ w.if-same.false)
      | else-row-text-via-else-row-text w ↦ table_other l.k _ r text w.if-row-text.false
    ] in
    (omega arith, rw (add-one l.k) (number_next text l.k (omega arith) other ∙ l.invariant.1))

pub returns : goal.returns
returns c =
    let text = c.args.text.now in
    let l = c.loop-k in
    let number : 0 ≡ key_number text = number_none text l.k (omega arith) ∙ l.invariant.1 in
    (number, class_none ∙ ap class_of number)
