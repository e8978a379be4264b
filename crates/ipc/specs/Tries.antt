-- Statements that antt computes: document 01's frames to try that are marked P, in one table; frames of the strict profile, in
-- another; and three frames as they are written.
-- Assumes nothing.
use Prim.Native.String.{String}
use Rattle.std.specs.Prelude.{pos, ◌≡◌, List, [], ◌∷◌, map}
use Rattle.bencode.specs.declared.profile.Profile.{Profile}
use Rattle.ipc.specs.declared.writer.Given.{Given}
use Rattle.ipc.specs.Answer.{Answer, integer, part, refused, accepted, accepted_handshake, off_format}
use Rattle.octets.specs.Ascii.{ascii}
use Rattle.ipc.specs.Reader.{read_frame_by, read_frame}
use Rattle.ipc.specs.HandshakeWriter.{handshake_payload}
use Rattle.ipc.specs.Writer.{payload_of, frame_of}

-- a frame and its answer
pub record Try : Type 0 where
  pub frame : String
  pub answer : Answer

abbrev try : String → Answer → Try
try f a = record { frame = f; answer = a }

unfoldable pub tries : List Try
tries =
    try "" (refused 1 0) ∷
    try "00000000" (refused 5 0) ∷
    try "7FFFFFF8" (refused 4 0) ∷
    try "7FFFFFF9" (refused 3 0) ∷
    try "0000001dd7:versiond3:mini1e3:maxi2eee" (accepted_handshake 37 1 2) ∷
    try "00000010l5:startli8eei15ee" (refused 5 16) ∷
    try "00000012l5:startli8eei15ee" (accepted 26 16 15 (part 16 5)) ∷
    try "00000004i-0e" (refused 5 2) ∷
    try "00000003i7e" (refused 20 0) ∷
    try "00000015i9223372036854775808e" (refused 6 0) ∷
    try "0000000Ed1:ai1e1:ai2ee" (refused 8 7) ∷
    try "0000000Fl4:porti65536ee" (off_format 14 0) ∷
    try "0000000Fl4:porti65535ee" (accepted 23 14 0 (integer (pos 65535))) ∷
    []

-- the statement of the proved set: each frame has its answer
abbrev pub FramesTried : Type 0
FramesTried = map (λ t. read_frame (ascii t.frame)) tries ≡ map (λ t. t.answer) tries

-- frames of the strict profile (document 02, request 06): a key that comes again is 8, though it does not rise; one that comes
-- once and does not rise is 11, in a dictionary of a message too; a handshake is accepted with `max` before `min`, and not as it
-- is written
unfoldable pub strict_tries : List Try
strict_tries =
    try "00000014d1:ai1e1:bi2e1:ai3ee" (refused 8 13) ∷
    try "0000000Ed1:bi1e1:ai2ee" (refused 11 7) ∷
    try "00000019l4:infold2:idi8e1:ai1eeee" (refused 11 16) ∷
    try "0000001dd7:versiond3:mini1e3:maxi2eee" (refused 11 19) ∷
    try "0000001dd7:versiond3:maxi2e3:mini1eee" (accepted_handshake 37 1 2) ∷
    []

abbrev pub StrictTried : Type 0
StrictTried = map (λ t. read_frame_by Profile.Strict (ascii t.frame)) strict_tries ≡ map (λ t. t.answer) strict_tries

-- frames as they are written: the length in upper case, `0:` for an ignored value and no tag for 0; a tag; a handshake with
-- `min` before `max`
abbrev pub FramesWritten : Type 0
FramesWritten = (frame_of (payload_of 11 Given.Nothing [] 0) ≡ ascii "0000000Al4:noop0:e")
    × (frame_of (payload_of 16 Given.Bytes (ascii "li8ee") 15) ≡ ascii "00000012l5:startli8eei15ee")
    × (frame_of (handshake_payload 1 2) ≡ ascii "0000001Dd7:versiond3:mini1e3:maxi2eee")
