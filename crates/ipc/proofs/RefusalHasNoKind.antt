-- As numbers, a refusal is of no kind.
-- Assumes nothing.
use mathlib.Core.Path.{refl}
use borrow.Author.Tests.{ne_eqb}
use Rattle.ipc.specs.Numbers.{RefusalHasNoKind}

pub refusal_has_no_kind : RefusalHasNoKind
refusal_has_no_kind a h = rw (ne_eqb a.code 0 h) refl
