-- `c_api::handshake::bogsilver_write_handshake` meets its contract.
-- Assumes nothing.
use Rattle.c_api.proofs.answers.AnswerLaws.{leaves_numbers}
use Rattle.c_api.proofs.handshake.bogsilver_write_handshake.Goals as goal

pub returns : goal.returns
returns c = leaves_numbers c.write_handshake.ensures c.write_answer_of.ensures
