-- `strip::run::Run::open_desk` meets its contract.
-- Assumes nothing.
use mir.Syntax.{w32}
use mir.ValLaws.{to_z-of_z}
use Rattle.desk.specs.Opening.{opened_numbers}
use Rattle.octets.specs.Ascii.{ascii}
use Rattle.strip.proofs.running.RunLaws.{opened_is}
use Rattle.strip.proofs.run.Run.open_desk.Goals as goal

pub returns : goal.returns
unfolding ascii
returns c =
    let run = c.args.self in
    let down = to_z-of_z w32 run.down (record { sfits = c.struct_told-1.given.1.1.1.0.1 }) in
    let up = to_z-of_z w32 run.up (record { sfits = c.struct_told-2-1.given.1.1.1.1.0.1 }) in
    rw (c.with_desk.ensures, c.word_text.ensures, c.from.ensures, c.code-code.ensures) (opened_is run (opened_numbers c.open_records-answer.result) (rw (down, up) at c.open_records-answer.ensures))
