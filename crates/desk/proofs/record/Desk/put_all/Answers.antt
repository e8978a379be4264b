-- `desk::record::Desk::put_all` meets its contract.
-- Assumes nothing.
use Prim.Native.Nat.{ℕ}
use mathlib.Core.List.{List, [], ◌∷◌}
use native.Mathlib.Omega.{arith}
use mir.Syntax.{w32}
use mir.ValLaws.{to_z-of_z}
use Rattle.octets.proofs.writing.PutLaws.{Writing, start, next_put, finish}
use Rattle.desk.specs.Watch.{pick_ids}
use Rattle.desk.specs.Record.{watched}
use Rattle.desk.specs.Command.{no_tag, start_key, stop_key, uplimit_key, limit_frame, listed_frame}
use Rattle.desk.proofs.writing.FrameParts.{four_parts, four_parts_lem}
use Rattle.desk.proofs.record.Desk.put_all.Goals as goal

pub returns : goal.returns
returns c =
    let stops : List ℕ = pick_ids c.args.stops (watched c.args.self.now) in
    let starts : List ℕ = pick_ids c.args.starts (watched c.args.self.now) in
    let parts : List (List ℕ) = four_parts c.args.down c.args.up stops starts in
    let Left : List ℕ → ℕ → List (List ℕ) → Type 0 = λ out o rest. Writing c.args.out.now 0 parts out o rest in
    let none_put : Left c.args.out.now 0 parts = start c.args.out.now 0 parts (rw (four_parts_lem c.args.down c.args.up stops starts) (omega (arith, c.requires.3))) in
    let down_put : Left c.put_limit-o.new.out c.put_limit-o.result (limit_frame no_tag uplimit_key c.args.up ∷ listed_frame no_tag stop_key stops ∷ listed_frame no_tag start_key starts ∷ []) = next_put none_put (rw (to_z-of_z w32 c.args.down c.ranges.down) at c.put_limit-o.ensures) in
    let up_put : Left c.put_limit-o-2.new.out c.put_limit-o-2.result (listed_frame no_tag stop_key stops ∷ listed_frame no_tag start_key starts ∷ []) = next_put down_put (rw (to_z-of_z w32 c.args.up c.ranges.up) at c.put_limit-o-2.ensures) in
    let stops_put : Left c.put_listed-o.new.out c.put_listed-o.result (listed_frame no_tag start_key starts ∷ []) = next_put up_put c.put_listed-o.ensures in
    let all_put : Left c.put_listed.new.out c.put_listed.result [] = next_put stops_put c.put_listed.ensures in
    rw (four_parts_lem c.args.down c.args.up stops starts) at (finish all_put)
