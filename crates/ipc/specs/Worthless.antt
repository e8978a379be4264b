-- Statements: worthless builds fall by the demands themselves (document 01, 'What each result must determine').
-- Assumes nothing.
use Rattle.std.specs.Prelude.{ℕ, ◌+◌, ◌≤◌, ◌≡◌, List, length, Result, Ok, Err}
use Rattle.bencode.specs.declared.profile.Profile.{Profile}
use Rattle.ipc.specs.declared.writer.Given.{Given}
use Rattle.ipc.specs.Answer.{Answer}
use Rattle.ipc.specs.Header.{largest_payload}
use Rattle.ipc.specs.Reader.{read_frame}
use Rattle.ipc.specs.Writer.{frame_of}
use Rattle.ipc.specs.HandshakeWriter.{handshake_written}
use Rattle.ipc.specs.Demands.{AcceptsExactlyFor, AcceptsExactlyByFor, AnswersByRowFor, GivenFits, Writer, writer, ReadsBackFor, handshake_writer, HandshakeReadsBackFor, WritesBackFor}

-- a reader that refuses always, with whatever numbers, falls by demand 1, and by demand 2
abbrev pub RefusingReaderFalls : Type 0
RefusingReaderFalls = (read : List ℕ → Answer) → ((s : List ℕ) → (read s).code ≡ 0 → ⊥) → (AnswersByRowFor read → ⊥) × (AcceptsExactlyFor read → ⊥)

-- a reader with one constant answer, whatever it is, falls by demand 2
abbrev pub ConstantReaderFalls : Type 0
ConstantReaderFalls = (a : Answer) → AcceptsExactlyFor (λ s. a) → ⊥

-- a reader that answers in the strict profile as in the loose one falls by demand 2 in every profile
abbrev pub LooseReaderFalls : Type 0
LooseReaderFalls = (read : Profile → List ℕ → Answer) → ((s : List ℕ) → read Profile.Strict s ≡ read_frame s) → AcceptsExactlyByFor read → ⊥

-- a writer that leaves a frame and counts another number of bytes than it has, be it for one message only, falls by demand 2
abbrev pub InventedCountFalls : Type 1
InventedCountFalls = (E : Type 0) (w : Writer E) (key tag room n : ℕ) (given : Given) (s payload : List ℕ) → GivenFits given → length payload ≤ largest_payload
    → w.frame key given s tag ≡ frame_of payload → w.answer key given s tag room ≡ Ok n → (n ≡ length (frame_of payload) → ⊥) → ReadsBackFor w → ⊥

-- an answer with one byte more in its count
abbrev pub one_more : {E : Type 0} → Result ℕ E → Result ℕ E
one_more (Ok n) = Ok (n + 1)
one_more (Err c) = Err c

-- so do our writers with one byte more in each count
abbrev pub OneMoreFalls : Type 0
OneMoreFalls = ReadsBackFor (record { answer = λ key given s tag room. one_more (writer.answer key given s tag room); frame = writer.frame }) → ⊥

abbrev pub HandshakeOneMoreFalls : Type 0
HandshakeOneMoreFalls =
    HandshakeReadsBackFor (record { answer = λ low high room. one_more (handshake_written low high room); frame = handshake_writer.frame }) → ⊥

-- a writer that refuses always, by whatever refusals, falls by demand 2: what is read is not written again
abbrev pub RefusingWriterFalls : Type 1
RefusingWriterFalls = (E : Type 0) (w : Writer E) → ((key tag room n : ℕ) (given : Given) (s : List ℕ) → w.answer key given s tag room ≡ Ok n → ⊥) → WritesBackFor w → ⊥
