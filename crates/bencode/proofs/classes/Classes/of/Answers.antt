-- `bencode::classes::Classes::of` meets its contract, by the law of the table.
-- Assumes nothing.
use mathlib.Core.Path.{subst, sym}
use mathlib.Core.Path.{◌≡◌}
use Prim.Native.Nat.{ℕ}
use lib.ListN.{get_or}
use Rattle.bencode.specs.Classes.{class_of}
use Rattle.bencode.proofs.walking.ClassLaws.{class_right}
use borrow.Author.Rules.{rules}
use Rattle.bencode.proofs.classes.Classes.of.Goals as goal

pub returns : goal.returns
returns c =
    let t = c.args.self.now.table in
    subst (λ (i : ℕ). get_or t i 0 ≡ class_of c.args.b) (sym c.from.ensures) (class_right t (search rules) c.args.b (search rules))
