-- `bencode::flat::first_value` meets its contract: where the loop stands is a `Stand` of `OpenLevels`, and each way of a turn lands.
-- Assumes nothing.
use Rattle.std.specs.Prelude.{Ok, Err}
use Prim.Native.Nat.{◌+◌}
use mathlib.Core.Path.{refl, sym, ap, subst, ◌∙◌}
use Rattle.std.proofs.lemmas.Result.{err_from_is_err_and}
use mathlib.Core.Bool.{false}
use native.Mathlib.Omega.{arith}
use lib.ListN.{set}
use Rattle.bencode.specs.declared.tokens.Level.{Level}
use Rattle.bencode.specs.declared.tokens.Token.{Token}
use Rattle.bencode.specs.Flat.{opened}
use Rattle.bencode.proofs.walking.TokenLaws.{close_deep}
use Rattle.bencode.proofs.walking.OpenLevels.{Stand, stand_depth, stand_sound, starts}
use Rattle.bencode.proofs.walking.FlatLaws.{lands_told}
use Rattle.bencode.proofs.flat.first_value.Goals as goal

pub loop-token-init : goal.loop-token-init
loop-token-init c = starts c.args.profile c.args.s.now _ c.opened-level.result refl c.opened-level.ensures

pub token_at-requires : goal.token_at-requires
token_at-requires c =
    let a = c.args in
    let s = a.s.now in
    let l = c.loop-token in
    stand_sound a.profile s l.row l.depth l.level l.valued l.at l.invariant

pub returns-in_err-token : goal.returns-in_err-token
returns-in_err-token c =
    let a = c.args in
    let s = a.s.now in
    let l = c.loop-token in
    let p = err_from_is_err_and c.from_residual.result c.from_residual.ensures.1 in
    rw (p.1, p.2) (lands_told a.profile s l.row l.depth l.level l.valued l.at l.invariant (Err c.in_err-token.field-0.0) (sym c.token_at.ensures ∙ c.in_err-token.was))

pub returns-in-Done : goal.returns-in-Done
returns-in-Done c =
    let a = c.args in
    let s = a.s.now in
    let l = c.loop-token in
    lands_told a.profile s l.row l.depth l.level l.valued l.at l.invariant (Ok (Token.Done c.in-Done.end)) (sym c.token_at.ensures ∙ c.in_ok-token.was ∙ ap Ok c.in-Done.is)

pub overflow_sub-depth : goal.overflow_sub-depth
overflow_sub-depth c =
    let a = c.args in
    let s = a.s.now in
    let l = c.loop-token in
    let deep = close_deep a.profile s l.depth l.level l.valued l.at (sym c.token_at.ensures ∙ c.in_ok-token.was ∙ ap Ok c.in-Close.is) in
    omega arith

pub offset_bounds-row-depth : goal.offset_bounds-row-depth
offset_bounds-row-depth c =
    let a = c.args in
    let s = a.s.now in
    let l = c.loop-token in
    let deep = close_deep a.profile s l.depth l.level l.valued l.at (sym c.token_at.ensures ∙ c.in_ok-token.was ∙ ap Ok c.in-Close.is) in
    let most = stand_depth a.profile s l.row l.depth l.level l.valued l.at l.invariant in
    omega arith

pub bounds-row-depth : goal.bounds-row-depth
bounds-row-depth c =
    let a = c.args in
    let s = a.s.now in
    let l = c.loop-token in
    let deep = close_deep a.profile s l.depth l.level l.valued l.at (sym c.token_at.ensures ∙ c.in_ok-token.was ∙ ap Ok c.in-Close.is) in
    let most = stand_depth a.profile s l.row l.depth l.level l.valued l.at l.invariant in
    omega arith

pub overflow_add-at : goal.overflow_add-at
overflow_add-at c =
    let a = c.args in
    let s = a.s.now in
    let l = c.loop-token in
    let h = lands_told a.profile s l.row l.depth l.level l.valued l.at l.invariant (Ok Token.Close) (sym c.token_at.ensures ∙ c.in_ok-token.was ∙ ap Ok c.in-Close.is) in
    omega (arith, h.0)

pub loop-token-smaller-in-Close : goal.loop-token-smaller-in-Close
loop-token-smaller-in-Close c =
    let a = c.args in
    let s = a.s.now in
    let l = c.loop-token in
    let h = lands_told a.profile s l.row l.depth l.level l.valued l.at l.invariant (Ok Token.Close) (sym c.token_at.ensures ∙ c.in_ok-token.was ∙ ap Ok c.in-Close.is) in
    omega (arith, h.0)

pub loop-token-preserved-in-Close : goal.loop-token-preserved-in-Close
loop-token-preserved-in-Close c =
    let a = c.args in
    let s = a.s.now in
    let l = c.loop-token in
    let h = lands_told a.profile s l.row l.depth l.level l.valued l.at l.invariant (Ok Token.Close) (sym c.token_at.ensures ∙ c.in_ok-token.was ∙ ap Ok c.in-Close.is) in
    h.1

pub loop-token-smaller-in-Key : goal.loop-token-smaller-in-Key
loop-token-smaller-in-Key c =
    let a = c.args in
    let s = a.s.now in
    let l = c.loop-token in
    let h = lands_told a.profile s l.row l.depth l.level l.valued l.at l.invariant (Ok (Token.Key c.in-Key.seen c.in-Key.end)) (sym c.token_at.ensures ∙ c.in_ok-token.was ∙ ap Ok c.in-Key.is) in
    omega (arith, h.0)

pub loop-token-preserved-in-Key : goal.loop-token-preserved-in-Key
loop-token-preserved-in-Key c =
    let a = c.args in
    let s = a.s.now in
    let l = c.loop-token in
    let h = lands_told a.profile s l.row l.depth l.level l.valued l.at l.invariant (Ok (Token.Key c.in-Key.seen c.in-Key.end)) (sym c.token_at.ensures ∙ c.in_ok-token.was ∙ ap Ok c.in-Key.is) in
    h.1

pub overflow_add-at-in-Open : goal.overflow_add-at-in-Open
overflow_add-at-in-Open c =
    let a = c.args in
    let s = a.s.now in
    let l = c.loop-token in
    let h = lands_told a.profile s l.row l.depth l.level l.valued l.at l.invariant (Ok (Token.Open c.in-Open.bracket)) (sym c.token_at.ensures ∙ c.in_ok-token.was ∙ ap Ok c.in-Open.is) in
    omega (arith, h.0)

pub offset_bounds-row-depth-in-Open : goal.offset_bounds-row-depth-in-Open
offset_bounds-row-depth-in-Open c =
    let a = c.args in
    let s = a.s.now in
    let l = c.loop-token in
    let h = lands_told a.profile s l.row l.depth l.level l.valued l.at l.invariant (Ok (Token.Open c.in-Open.bracket)) (sym c.token_at.ensures ∙ c.in_ok-token.was ∙ ap Ok c.in-Open.is) in
    let most = stand_depth a.profile s (set l.row l.depth l.level) (l.depth + 1) (opened c.in-Open.bracket (l.at + 1)) false (l.at + 1) h.1 in
    omega arith

pub bounds-row-depth-in-Open : goal.bounds-row-depth-in-Open
bounds-row-depth-in-Open c =
    let a = c.args in
    let s = a.s.now in
    let l = c.loop-token in
    let h = lands_told a.profile s l.row l.depth l.level l.valued l.at l.invariant (Ok (Token.Open c.in-Open.bracket)) (sym c.token_at.ensures ∙ c.in_ok-token.was ∙ ap Ok c.in-Open.is) in
    let most = stand_depth a.profile s (set l.row l.depth l.level) (l.depth + 1) (opened c.in-Open.bracket (l.at + 1)) false (l.at + 1) h.1 in
    omega arith

pub overflow_add-depth : goal.overflow_add-depth
overflow_add-depth c =
    let a = c.args in
    let s = a.s.now in
    let l = c.loop-token in
    let h = lands_told a.profile s l.row l.depth l.level l.valued l.at l.invariant (Ok (Token.Open c.in-Open.bracket)) (sym c.token_at.ensures ∙ c.in_ok-token.was ∙ ap Ok c.in-Open.is) in
    let most = stand_depth a.profile s (set l.row l.depth l.level) (l.depth + 1) (opened c.in-Open.bracket (l.at + 1)) false (l.at + 1) h.1 in
    omega arith

pub loop-token-smaller-in-Open : goal.loop-token-smaller-in-Open
loop-token-smaller-in-Open c =
    let a = c.args in
    let s = a.s.now in
    let l = c.loop-token in
    let h = lands_told a.profile s l.row l.depth l.level l.valued l.at l.invariant (Ok (Token.Open c.in-Open.bracket)) (sym c.token_at.ensures ∙ c.in_ok-token.was ∙ ap Ok c.in-Open.is) in
    omega (arith, h.0)

pub loop-token-preserved-in-Open : goal.loop-token-preserved-in-Open
loop-token-preserved-in-Open c =
    let a = c.args in
    let s = a.s.now in
    let l = c.loop-token in
    let h = lands_told a.profile s l.row l.depth l.level l.valued l.at l.invariant (Ok (Token.Open c.in-Open.bracket)) (sym c.token_at.ensures ∙ c.in_ok-token.was ∙ ap Ok c.in-Open.is) in
    subst (λ (x : Level). Stand a.profile s (set l.row l.depth l.level) (l.depth + 1) x false (l.at + 1)) (sym c.opened-inner.ensures) h.1

pub loop-token-smaller : goal.loop-token-smaller
loop-token-smaller c =
    let a = c.args in
    let s = a.s.now in
    let l = c.loop-token in
    let h = lands_told a.profile s l.row l.depth l.level l.valued l.at l.invariant (Ok (Token.Scalar c.in-Scalar.end)) (sym c.token_at.ensures ∙ c.in_ok-token.was ∙ ap Ok c.in-Scalar.is) in
    omega (arith, h.0)

pub loop-token-preserved : goal.loop-token-preserved
loop-token-preserved c =
    let a = c.args in
    let s = a.s.now in
    let l = c.loop-token in
    let h = lands_told a.profile s l.row l.depth l.level l.valued l.at l.invariant (Ok (Token.Scalar c.in-Scalar.end)) (sym c.token_at.ensures ∙ c.in_ok-token.was ∙ ap Ok c.in-Scalar.is) in
    h.1
