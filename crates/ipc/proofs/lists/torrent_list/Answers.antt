-- `ipc::lists::torrent_list` meets its contract.
-- Assumes nothing.
use mathlib.Core.Path.{refl, sym, ◌∙◌}
use native.Mathlib.Omega.{arith}
use Rattle.std.proofs.lemmas.Result.{err_from_is_err_and}
use Rattle.octets.specs.Ascii.{ascii}
use Rattle.octets.proofs.digits.NumeralLaws.{inside}
use Rattle.ipc.specs.declared.format.Items.{Items}
use Rattle.ipc.proofs.formats.ListingLaws.{item_past, listing_end, listing_on, listing_off, listing_fault, torrent_fault, torrent_found, torrent_fits}
use Rattle.ipc.proofs.lists.torrent_list.Goals as goal

pub loop-profile-init : goal.loop-profile-init
loop-profile-init c = (refl, refl)

pub returns-then-b-eq101 : goal.returns-then-b-eq101
returns-then-b-eq101 c = listing_end c.args.profile Items.Torrents c.args.p.now c.args.from c.loop-profile.at c.loop-profile.invariant (sym c.byte_at-b.ensures ∙ c.if-b-eq101.true)

pub returns-then-b-ne100 : goal.returns-then-b-ne100
returns-then-b-ne100 c = c.loop-profile.invariant.0

pub overflow_add-at : goal.overflow_add-at
overflow_add-at c = omega (arith, inside c.args.p.now c.loop-profile.at (omega (arith, c.byte_at-b.ensures)))

pub returns-in_err-noted : goal.returns-in_err-noted
unfolding ascii
returns-in_err-noted c =
    let p = c.args.p.now in
    let profile = c.args.profile in
    let at = c.loop-profile.at in
    let r = err_from_is_err_and c.from_residual.result c.from_residual.ensures.1 in
    rw (r.1, r.2) (listing_fault profile Items.Torrents p c.args.from at c.loop-profile.invariant (λ e. c.if-b-eq101.false (c.byte_at-b.ensures ∙ e)) c.in_err-noted.field-0.0 (torrent_fault profile p at (sym c.byte_at-b.ensures ∙ c.if-b-ne100.false) c.in_err-noted.field-0.0 (sym c.record.ensures ∙ c.in_err-noted.was)))

pub returns-in_default : goal.returns-in_default
unfolding ascii
returns-in_default c =
    let p = c.args.p.now in
    let profile = c.args.profile in
    let at = c.loop-profile.at in
    listing_off profile Items.Torrents p c.args.from at c.loop-profile.invariant (λ e. c.if-b-eq101.false (c.byte_at-b.ensures ∙ e)) c.in_ok-noted.noted.end (torrent_found profile p at (sym c.byte_at-b.ensures ∙ c.if-b-ne100.false) c.in_ok-noted.noted (sym c.record.ensures ∙ c.in_ok-noted.was))

pub returns-then-not-is_id : goal.returns-then-not-is_id
unfolding ascii
returns-then-not-is_id c =
    let p = c.args.p.now in
    let profile = c.args.profile in
    let at = c.loop-profile.at in
    listing_off profile Items.Torrents p c.args.from at c.loop-profile.invariant (λ e. c.if-b-eq101.false (c.byte_at-b.ensures ∙ e)) c.in_ok-noted.noted.end (torrent_found profile p at (sym c.byte_at-b.ensures ∙ c.if-b-ne100.false) c.in_ok-noted.noted (sym c.record.ensures ∙ c.in_ok-noted.was))

pub loop-profile-smaller : goal.loop-profile-smaller
unfolding ascii
loop-profile-smaller c =
    let p = c.args.p.now in
    let profile = c.args.profile in
    let at = c.loop-profile.at in
    omega (arith, item_past profile p at c.in_ok-noted.noted.end (torrent_found profile p at (sym c.byte_at-b.ensures ∙ c.if-b-ne100.false) c.in_ok-noted.noted (sym c.record.ensures ∙ c.in_ok-noted.was)))

pub loop-profile-preserved : goal.loop-profile-preserved
unfolding ascii
loop-profile-preserved c =
    let p = c.args.p.now in
    let profile = c.args.profile in
    let at = c.loop-profile.at in
    listing_on profile Items.Torrents p c.args.from at c.loop-profile.invariant (λ e. c.if-b-eq101.false (c.byte_at-b.ensures ∙ e)) c.in_ok-noted.noted.end (torrent_fits profile p at (sym c.byte_at-b.ensures ∙ c.if-b-ne100.false) c.in_ok-noted.noted (sym c.record.ensures ∙ c.in_ok-noted.was) c.in-Some.id c.in-Some.is (sym c.is_id.ensures ∙ c.if-not-is_id.false))
