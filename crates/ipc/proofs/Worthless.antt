-- Worthless builds fall: a reader that refuses always, answers one thing or has one profile only, a writer that invents a
-- count or refuses always.
-- Assumes nothing.
use Prim.Native.Nat.{ℕ, ◌+◌, ◌≤◌}
use mathlib.Core.Path.{◌≡◌, refl, sym, ap, ◌∙◌}
use mathlib.Core.Logic.{inl, inr}
use mathlib.Core.List.{List, [], ◌++◌}
use native.Mathlib.Omega.{arith}
use lib.IntN.{pos}
use lib.ListN.{length, get_or}
use Rattle.octets.specs.Numerals.{decimal, decimal_before}
use Rattle.bencode.specs.Value.{encode}
use Rattle.bencode.specs.declared.profile.Profile.{Profile}
use Rattle.ipc.specs.declared.writer.Given.{Given}
use Rattle.ipc.specs.Answer.{Answer, message, integer, refused, accepted, accepted_handshake}
use Rattle.octets.specs.Ascii.{ascii}
use Rattle.ipc.specs.Reader.{read_frame_by, read_frame}
use Rattle.ipc.specs.HandshakeWriter.{handshake_payload, handshake_written}
use Rattle.ipc.specs.Header.{header_length, largest_payload}
use Rattle.ipc.specs.Hex.{hex_in, hex_header}
use Rattle.ipc.specs.Keys.{listed, class_of, is_written}
use Rattle.ipc.specs.Tries.{tries, strict_tries}
use Rattle.ipc.specs.Writer.{frame_of, fitted}
use Rattle.ipc.specs.Demands.{AcceptsExactlyFor, GivenFits, Writer, writer, WritesBackFor}
use Rattle.ipc.specs.Versions.{range_of}
use Rattle.ipc.specs.Worthless.{RefusingReaderFalls, ConstantReaderFalls, LooseReaderFalls, InventedCountFalls, one_more, OneMoreFalls, HandshakeOneMoreFalls, RefusingWriterFalls}
use Rattle.ipc.proofs.Accepts.{answers_meaning_by, accepts_exactly, answers_by_row}
use Rattle.ipc.proofs.meaning.Inverts.{inverts}
use Rattle.ipc.proofs.writing.WriterLaws.{frame_length}
use Rattle.ipc.proofs.ReadsBack.{front_payload, reads_back, handshake_reads_back}
use Rattle.ipc.proofs.Tried.{frames_tried, strict_tried}
use Rattle.ipc.proofs.WritesBack.{writes_back}
use Rattle.std.specs.Prelude.{Ok}

-- ---- two frames of the proved set: one that is accepted, and one that is not
abbrev port_frame : List ℕ
port_frame = ascii "0000000Fl4:porti65535ee"

abbrev port_answer : Answer
port_answer = accepted 23 14 0 (integer (pos 65535))

port_read : read_frame port_frame ≡ port_answer
unfolding tries
port_read = ap (λ (l : List Answer). get_or l 12 (refused 0 0)) frames_tried

integer_read : read_frame (ascii "00000003i7e") ≡ refused 20 0
unfolding tries
integer_read = ap (λ (l : List Answer). get_or l 8 (refused 0 0)) frames_tried

-- ---- readers
port_accepted : (read : List ℕ → Answer) → AcceptsExactlyFor read → read port_frame ≡ port_answer
port_accepted read exact = (exact port_frame port_answer (inl refl)).1 ((accepts_exactly port_frame port_answer (inl refl)).0 port_read)

pub refusing_reader_falls : RefusingReaderFalls
refusing_reader_falls read refuses = (
  λ rows. refuses port_frame (ap (λ (x : Answer). x.code) ((rows port_frame port_answer).1 ((answers_by_row port_frame port_answer).0 port_read))),
  λ exact. refuses port_frame (ap (λ (x : Answer). x.code) (port_accepted read exact)),
)

pub constant_reader_falls : ConstantReaderFalls
constant_reader_falls a exact =
    let twenty : (20 ≤ 20) = omega arith in
    let other : a ≡ refused 20 0 = (exact (ascii "00000003i7e") (refused 20 0) (inr twenty)).1 ((accepts_exactly (ascii "00000003i7e") (refused 20 0) (inr twenty)).0 integer_read) in
    omega (arith, ap (λ (x : Answer). x.code) (sym (port_accepted (λ s. a) exact) ∙ other))

-- a handshake of the proved set, in each profile
abbrev handshake_frame : List ℕ
handshake_frame = ascii "0000001dd7:versiond3:mini1e3:maxi2eee"

loosely_read : read_frame handshake_frame ≡ accepted_handshake 37 1 2
unfolding tries
loosely_read = ap (λ (l : List Answer). get_or l 4 (refused 0 0)) frames_tried

strictly_read : read_frame_by Profile.Strict handshake_frame ≡ refused 11 19
unfolding strict_tries
strictly_read = ap (λ (l : List Answer). get_or l 3 (refused 0 0)) strict_tried

pub loose_reader_falls : LooseReaderFalls
loose_reader_falls read loosely exact =
    let answer = accepted_handshake 37 1 2 in
    let framed = (exact Profile.Strict handshake_frame answer (inl refl)).0 (loosely handshake_frame ∙ loosely_read) in
    omega (arith, ap (λ (x : Answer). x.code) (sym (answers_meaning_by Profile.Strict handshake_frame answer framed) ∙ strictly_read))

-- ---- writers
-- a frame at the front of bytes is accepted with its own length
front_consumed : (p rest : List ℕ) (a : Answer) → length p ≤ largest_payload → a.code ≡ 0 → a.kind ≡ message → read_frame (frame_of p ++ rest) ≡ a → a.consumed ≡ length (frame_of p)
front_consumed p rest a small code kind e =
    let f = (accepts_exactly (frame_of p ++ rest) a (inl code)).0 e in
    let n = header_length + length (encode f.payload) in
    let used : a.consumed ≡ n = ap (λ (x : Answer). x.consumed) (sym (inverts n a code kind f.payload f.means).is) in
    let size : length (encode f.payload) ≡ length p = ap length (front_payload Profile.Loose p rest a small f) in
    omega (arith, frame_length p)

pub invented_count_falls : InventedCountFalls
invented_count_falls E w key tag room n given s payload fits small left counted wrong reads =
    let r = reads key tag room n given s [] fits counted in
    wrong (front_consumed payload [] (accepted n key tag r.0) small refl refl (ap (λ (f : List ℕ). read_frame (f ++ [])) (sym left) ∙ r.1))

-- the accepted frame is written again, with the count that it was read with
port_written : {E : Type 0} (w : Writer E) → WritesBackFor w → w.answer 14 (Given.Integer (pos 65535)) [] 0 23 ≡ Ok 23
unfolding is_written class_of listed
port_written w back = (back port_frame port_answer 23 port_read refl refl refl (λ e. let z : ◌≡◌ {A = ℕ} 0 1 = cc in omega arith) (omega arith)).0

pub refusing_writer_falls : RefusingWriterFalls
refusing_writer_falls E w refuses back = refuses 14 0 23 23 (Given.Integer (pos 65535)) [] (port_written w back)

pub one_more_falls : OneMoreFalls
one_more_falls reads =
    let fits : GivenFits (Given.Integer (pos 65535)) = omega arith in
    let ours = reads_back 14 0 23 23 (Given.Integer (pos 65535)) [] [] fits (port_written writer writes_back) in
    let theirs = reads 14 0 23 24 (Given.Integer (pos 65535)) [] [] fits (ap one_more (port_written writer writes_back)) in
    omega (arith, ap (λ (x : Answer). x.consumed) (sym ours.1 ∙ theirs.1))

handshake_counted : handshake_written 1 2 37 ≡ Ok 37
unfolding handshake_written range_of fitted handshake_payload encode decimal decimal_before ascii frame_of hex_header hex_in
handshake_counted = refl

pub handshake_one_more_falls : HandshakeOneMoreFalls
handshake_one_more_falls reads =
    let ours = handshake_reads_back 1 2 37 37 [] handshake_counted in
    let theirs = reads 1 2 37 38 [] (ap one_more handshake_counted) in
    omega (arith, ap (λ (x : Answer). x.consumed) (sym ours ∙ theirs))
