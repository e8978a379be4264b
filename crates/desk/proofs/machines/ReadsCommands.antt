-- The daemon takes the frames of sendable commands, and obeys those commands.
-- Assumes nothing.
use Prim.Native.Nat.{ℕ, zero, suc, ◌+◌, ◌-◌, ◌≤◌}
use native.Mathlib.Omega.{arith}
use mathlib.Core.Path.{◌≡◌, refl, sym, ap, ap₂, ◌∙◌}
use mathlib.Core.Logic.{inl, inr}
use mathlib.Core.Bool.{true, false, cond}
use mathlib.Core.List.{List, [], ◌∷◌, ◌++◌}
use mathlib.Core.Option.{Option, some}
use lib.Dec.{leb, eqb}
use lib.IntN.{ℤ, pos, negsuc}
use lib.ListN.{length, take, drop, length-append, length-take, length-drop}
use lib.Seq.{take-append_seam, drop-append_seam, take-append-le, drop-append-le}
use borrow.Author.Tests.{leb-true, ne_eqb}
use Rattle.octets.specs.Bytes.{slice}
use Rattle.bencode.specs.Integers.{InRange}
use Rattle.bencode.specs.Value.{encode}
use Rattle.ipc.specs.declared.keys.Class.{Class}
use Rattle.ipc.specs.declared.writer.Given.{Given}
use Rattle.ipc.specs.Answer.{Answer, Content, part, accepted}
use Rattle.ipc.specs.Reader.{read_frame}
use Rattle.ipc.specs.Ids.{largest_tag}
use Rattle.ipc.specs.Demands.{bytes_named}
use Rattle.ipc.specs.Keys.{listed as keys, class_of}
use Rattle.ipc.specs.Writer.{payload_of}
use Rattle.ipc.proofs.writing.WriterLaws.{frame_length}
use Rattle.ipc.proofs.ReadsBack.{reads_back}
use Rattle.desk.specs.Limit.{is_limit}
use Rattle.desk.specs.Command.{Command, no_tag, downlimit_key, start_key, stop_key, uplimit_key, id_list, message_frame, limit_frame, ids_frame, command_frame, frames_of, longest_frames, LimitKey, ListKey}
use Rattle.desk.specs.Machine.{Machine, obey, ids_in, limit_command, ids_command, content_command, command_in, obeying, takes, handed}
use Rattle.desk.proofs.general.Cases.{both}
use Rattle.desk.proofs.machines.CommandLaws.{FewIds, Sendable, AllSendable, obey_all}
use Rattle.desk.proofs.ReadsIds.{ids_read}
use Rattle.desk.proofs.writing.Writes.{writable_answer, limit_writable, ids_writable}
use Rattle.desk.proofs.writing.FrameLengths.{limit_room, ids_room}

limit_range : (n : ℤ) → is_limit n ≡ true → InRange n
unfolding is_limit
limit_range (pos n) h = omega (arith, leb-true n 1000000 h)
limit_range (negsuc n) h = omega (arith, leb-true n 0 (both (leb n 0) _ h).0)

-- ---- bytes of a frame are the same bytes of what begins with it
slice_append : (frame rest s : List ℕ) (at : ℕ) → 1 ≤ length s → slice frame at (at + length s) ≡ s
    → slice (frame ++ rest) at (at + length s) ≡ s
slice_append frame rest s at some_bytes e =
    let n : at + length s - at ≡ length s = omega arith in
    let whole : take (length s) (drop at frame) ≡ s = ap (λ (k : ℕ). take k (drop at frame)) (sym n) ∙ e in
    let size : length s ≤ length (drop at frame) = omega (arith, length-take (length s) (drop at frame), ap length whole) in
    let inside : at ≤ length frame = omega (arith, length-drop at frame) in
    ap (λ (k : ℕ). take k (drop at (frame ++ rest))) n
    ∙ ap (take (length s)) (drop-append-le at frame rest inside)
    ∙ take-append-le (length s) (drop at frame) rest size
    ∙ whole

list_bytes : (ids : List ℕ) → 1 ≤ length (id_list ids)
unfolding id_list encode
list_bytes ids = omega arith

-- ---- one frame: it is accepted, all of it is used, and its command is read
pub record Reads (tag : ℕ) (frame rest : List ℕ) (c : Command) : Type 0 where
  pub content : Content
  pub key : ℕ
  pub answer : read_frame (frame ++ rest) ≡ accepted (length frame) key tag content
  pub command : content_command (frame ++ rest) key content ≡ some c

module _ (tag : ℕ) (small : tag ≤ largest_tag) where
  limit_reads : (key : ℕ) (n : ℤ) (rest : List ℕ) (c : Command) → LimitKey key → is_limit n ≡ true → limit_command key n ≡ some c
      → Reads tag (limit_frame tag key n) rest c
  unfolding message_frame content_command
  limit_reads key n rest c k h e =
      let r = reads_back key tag longest_frames (length (limit_frame tag key n)) (Given.Integer n) [] rest (limit_range n h) (writable_answer tag key (Given.Integer n) [] longest_frames (limit_writable tag small key n k h) (limit_room tag small key n k h)) in
      record {
        content = r.0;
        key = key;
        answer = r.1;
        command = ap (content_command (limit_frame tag key n ++ rest) key) r.2 ∙ e;
      }

  ids_reads : (key : ℕ) (ids rest : List ℕ) (c : Command) → ListKey key → class_of key ≡ Class.IdList → FewIds ids → ids_command key ids ≡ some c
      → Reads tag (ids_frame tag key ids) rest c
  unfolding message_frame content_command
  ids_reads key ids rest c k class h e =
      let r = reads_back key tag longest_frames (length (ids_frame tag key ids)) Given.Bytes (id_list ids) rest tt (writable_answer tag key Given.Bytes (id_list ids) longest_frames (ids_writable tag small key ids k h.0 h.1) (ids_room tag small key ids k h.0 h.1)) in
      let at = r.2.0 in
      let named : r.0 ≡ part at (length (id_list ids)) = r.2.1 ∙ ap (λ (f : Class). bytes_named f at (length (id_list ids))) class in
      record {
        content = r.0;
        key = key;
        answer = r.1;
        command =
            ap (content_command (ids_frame tag key ids ++ rest) key) named
            ∙ ap (λ (l : List ℕ). ids_command key (ids_in l)) (slice_append (ids_frame tag key ids) rest (id_list ids) at (list_bytes ids) r.2.2)
            ∙ ap (ids_command key) (ids_read ids h.0)
            ∙ e;
      }

  pub command_reads : (c : Command) (rest : List ℕ) → Sendable c → Reads tag (command_frame tag c) rest c
  unfolding command_frame limit_command ids_command class_of keys
  command_reads (Command.set_down n) rest h = limit_reads downlimit_key n rest (Command.set_down n) (inl refl) h refl
  command_reads (Command.set_up n) rest h = limit_reads uplimit_key n rest (Command.set_up n) (inr refl) h refl
  command_reads (Command.start ids) rest h = ids_reads start_key ids rest (Command.start ids) (inl refl) refl h refl
  command_reads (Command.stop ids) rest h = ids_reads stop_key ids rest (Command.stop ids) (inr refl) refl h refl

-- a frame has its header at least
pub command_length : (tag : ℕ) (c : Command) → 8 ≤ length (command_frame tag c)
unfolding command_frame message_frame
command_length tag (Command.set_down n) = omega (arith, frame_length (payload_of downlimit_key (Given.Integer n) [] tag))
command_length tag (Command.set_up n) = omega (arith, frame_length (payload_of uplimit_key (Given.Integer n) [] tag))
command_length tag (Command.start ids) = omega (arith, frame_length (payload_of start_key Given.Bytes (id_list ids) tag))
command_length tag (Command.stop ids) = omega (arith, frame_length (payload_of stop_key Given.Bytes (id_list ids) tag))

-- ---- all frames
-- the first frame is taken, and then the rest
takes_one : (k : ℕ) (c : Command) (rest : List ℕ) (m : Machine) → Sendable c
    → takes (suc k) (command_frame no_tag c ++ rest) m ≡ takes k rest (obey c m)
unfolding takes command_in obeying
takes_one k c rest m h =
    let s = command_frame no_tag c ++ rest in
    let r = command_reads no_tag (omega arith) c rest h in
    let more : eqb (length s) 0 ≡ false = ne_eqb (length s) 0 (λ e. omega (arith, command_length no_tag c, length-append (command_frame no_tag c) rest)) in
    let read : command_in s (read_frame s) ≡ some c = ap (command_in s) r.answer ∙ r.command in
    let used : (read_frame s).consumed ≡ length (command_frame no_tag c) = ap (λ (a : Answer). a.consumed) r.answer in
    let left : drop (read_frame s).consumed s ≡ rest = ap (λ (n : ℕ). drop n s) used ∙ drop-append_seam (command_frame no_tag c) rest in
    ap (λ b. cond b (some m) (obeying (command_in s (read_frame s)) m (takes k (drop (read_frame s).consumed s)))) more
    ∙ ap₂ (λ (o : Option Command) (l : List ℕ). obeying o m (takes k l)) read left

pub takes_all : (cs : List Command) (k : ℕ) (m : Machine) → AllSendable cs → length (frames_of cs) ≤ k
    → takes (suc k) (frames_of cs) m ≡ some (obey_all cs m)
unfolding takes frames_of obey_all
takes_all [] k m h few = refl
takes_all (c ∷ cs) zero m h few =
    let impossible : ⊥ = omega (arith, command_length no_tag c, length-append (command_frame no_tag c) (frames_of cs)) in
    absurd impossible
takes_all (c ∷ cs) (suc k) m h few =
    takes_one (suc k) c (frames_of cs) m h.0
    ∙ takes_all cs k (obey c m) h.1 (omega (arith, command_length no_tag c, length-append (command_frame no_tag c) (frames_of cs)))

-- the daemon is handed the first bytes of a buffer that begins with the frames
pub frames_handed : (cs : List Command) (rest : List ℕ) (o : Option Machine) (m : Machine) → AllSendable cs → o ≡ some m
    → handed (take (length (frames_of cs)) (frames_of cs ++ rest)) o ≡ some (obey_all cs m)
unfolding handed
frames_handed cs rest o m h e =
    ap₂ handed (take-append_seam (frames_of cs) rest) e
    ∙ takes_all cs (length (frames_of cs)) m h (omega arith)
