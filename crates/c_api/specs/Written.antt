-- To be believed. What a writer did, as numbers.
-- Assumes nothing.
use Rattle.std.specs.Prelude.{ℕ, ◌≡◌, List, Result}
use Rattle.ipc.specs.Writer.{written_code, written_count, buffer_after, frame_of}
use Rattle.c_api.specs.declared.written.WriteAnswer.{WriteAnswer}
use Rattle.ipc.specs.declared.writer.WriteRefusal.{WriteRefusal}

-- a writer's answer
abbrev pub written_numbers : Result ℕ WriteRefusal → WriteAnswer
written_numbers w = record { code = written_code w; count = written_count w }

-- its answer, and the whole buffer
pub record WrittenAs (answer : Result ℕ WriteRefusal) (payload before : List ℕ) (r : WriteAnswer) (after : List ℕ) : Type 0 where
  pub answered : r ≡ written_numbers answer
  pub buffer : after ≡ buffer_after answer (frame_of payload) before
