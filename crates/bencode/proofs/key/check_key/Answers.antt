-- `bencode::key::check_key` meets its contract.
-- Assumes nothing.
use mathlib.Core.Path.{sym, ap, ◌∙◌}
use Rattle.bencode.specs.declared.profile.Profile.{Profile}
use Rattle.bencode.specs.Marks.{with_mark}
use Rattle.bencode.proofs.walking.KeyLaws.{key_above_all, key_again, key_unsorted}
use Rattle.bencode.proofs.key.check_key.Goals as goal

pub returns-then-key_above : goal.returns-then-key_above
returns-then-key_above c = rw (c.with_mark-marks.ensures ∙ ap (with_mark c.args.seen.marks) c.place-place.ensures.0) (key_above_all c.args.s.now c.args.seen c.args.at c.args.key.start c.args.key.end c.args.profile (sym c.key_above.ensures ∙ c.if-key_above.true))

pub returns-then-key_repeated : goal.returns-then-key_repeated
returns-then-key_repeated c = key_again c.args.s.now c.args.seen c.args.at c.args.key.start c.args.key.end c.args.profile (sym c.key_above.ensures ∙ c.if-key_above.false) (sym c.key_repeated.ensures ∙ c.if-key_repeated.true)

pub returns-in-Loose : goal.returns-in-Loose
returns-in-Loose c = rw (c.with_mark-marks.ensures ∙ ap (with_mark c.args.seen.marks) c.place-place.ensures.0) (key_unsorted c.args.s.now c.args.seen c.args.at c.args.key.start c.args.key.end c.args.profile Profile.Loose c.in-Loose.is (sym c.key_above.ensures ∙ c.if-key_above.false) (sym c.key_repeated.ensures ∙ c.if-key_repeated.false))

pub returns-in-Strict : goal.returns-in-Strict
returns-in-Strict c = key_unsorted c.args.s.now c.args.seen c.args.at c.args.key.start c.args.key.end c.args.profile Profile.Strict c.in-Strict.is (sym c.key_above.ensures ∙ c.if-key_above.false) (sym c.key_repeated.ensures ∙ c.if-key_repeated.false)
