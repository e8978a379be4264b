-- `canonical::write::put_copy` meets its contract.
-- Assumes nothing.
use Prim.Native.Nat.{ℕ}
use mathlib.Core.Path.{sym, ap, subst}
use mathlib.Core.List.{List}
use native.Mathlib.Omega.{arith}
use Rattle.octets.specs.Bytes.{slice}
use Rattle.octets.specs.Put.{Wrote, Put}
use Rattle.octets.proofs.writing.PutLaws.{wrote_none, put_wrote}
use Rattle.bencode.proofs.lookup.SkipLaws.{skip_range}
use Rattle.canonical.proofs.walks.WriteLaws.{copied_none}
use Rattle.canonical.proofs.write.put_copy.Goals as goal

pub returns-then-s-at : goal.returns-then-s-at
returns-then-s-at c =
    let a = c.args in
    subst (λ (x : List ℕ). Wrote a.out.now a.to x a.out.now a.to) (sym (copied_none a.s.now a.at c.if-s-at.true)) (wrote_none a.out.now a.to)

pub slice_bounds-put_bytes-count : goal.slice_bounds-put_bytes-count
slice_bounds-put_bytes-count c =
    let a = c.args in
    omega (arith, c.skip_value-end.ensures, skip_range a.s.now a.at 0 (omega (arith, c.if-s-at.false)))

pub slice_bounds-put_bytes-start : goal.slice_bounds-put_bytes-start
slice_bounds-put_bytes-start c =
    let a = c.args in
    omega (arith, c.skip_value-end.ensures, skip_range a.s.now a.at 0 (omega (arith, c.if-s-at.false)))

pub slice_bounds-put_bytes-end : goal.slice_bounds-put_bytes-end
slice_bounds-put_bytes-end c =
    let a = c.args in
    omega (arith, c.skip_value-end.ensures, skip_range a.s.now a.at 0 (omega (arith, c.if-s-at.false)))

pub returns : goal.returns
returns c =
    let a = c.args in
    put_wrote c.requires (subst (λ (x : List ℕ). Put a.out.now a.to x c.put_bytes.new.out c.put_bytes.result) (ap (slice a.s.now a.at) c.skip_value-end.ensures) c.put_bytes.ensures)
