-- `ipc::writer::write` answers as its definition says, and writes the frame or nothing.
-- Assumes nothing.
use Prim.Native.Nat.{ℕ, ◌+◌, ◌≤◌, ◌<◌, min}
use mathlib.Core.List.{List}
use mathlib.Core.Path.{◌≡◌, refl, subst}
use native.Mathlib.Omega.{arith}
use lib.ListN.{length}
use Rattle.std.proofs.lemmas.Result.{err_from_is_err_and}
use Rattle.bencode.specs.Value.{encode_string}
use Rattle.ipc.specs.declared.writer.WriteRefusal.{WriteRefusal}
use Rattle.ipc.specs.declared.keys.Class.{Class}
use Rattle.ipc.specs.declared.writer.Given.{Given}
use Rattle.ipc.specs.Header.{largest_payload}
use Rattle.ipc.specs.Keys.{key_text, class_of}
use Rattle.ipc.specs.Writer.{encode_given, encode_tag, payload_of, fitted, message_fault, write_answer}
use Rattle.ipc.proofs.writing.WriterLaws.{payload_length, frame_length, leaves_refused, leaves_same, leaves_count, SizeOf, length_refused, length_small, length_room}
use Rattle.ipc.proofs.writer.write.Goals.{After-tag_length}
use Rattle.ipc.proofs.writer.write.Goals as goal
use Rattle.std.specs.Prelude.{Err, Result, Ok}

-- ---- the first refusal, whatever the length
module _ (key : ℕ) (given : Given) (s : List ℕ) (tag room : ℕ) (r : Result (Unit {0}) WriteRefusal) (e : r ≡ message_fault key given s tag) where
  refused : (w : WriteRefusal) → r ≡ Err w → write_answer key given s tag room ≡ Err w
  unfolding write_answer
  refused w h = rw (← e, h) refl

  passed : r ≡ Ok tt → write_answer key given s tag room ≡ fitted (payload_of key given s tag) room
  unfolding write_answer
  passed h = rw (← e, h) refl

-- ---- the length of a payload
-- the sum of the parts' lengths, the value's cut one over the largest payload
module _ (key : ℕ) (given : Given) (s : List ℕ) (tag k v t : ℕ) (class : Class) (kind : class ≡ class_of key)
    (k-is : k ≡ length (encode_string (key_text key))) (v-is : v ≡ min (length (encode_given class given s)) (largest_payload + 1)) (t-is : t ≡ length (encode_tag tag)) where
  value_is : v ≡ min (length (encode_given (class_of key) given s)) (largest_payload + 1)
  value_is = subst (λ (c : Class). v ≡ min (length (encode_given c given s)) (largest_payload + 1)) kind v-is

  sized : SizeOf (k + v + t + 2) (payload_of key given s tag)
  sized = record {
    over = λ (h : largest_payload < k + v + t + 2). omega (arith, h, k-is, value_is, t-is, payload_length key given s tag);
    is = λ (h : k + v + t + 2 ≤ largest_payload). omega (arith, h, k-is, value_is, t-is, payload_length key given s tag);
  }

-- ---- the code at its places
sized_at : (c : After-tag_length) →
    let a = c.args in
    SizeOf (c.key_length.result + c.value_length.result + c.tag_length.result + 2) (payload_of a.key a.given a.s.now a.tag)
sized_at c =
    let a = c.args in
    sized a.key a.given a.s.now a.tag c.key_length.result c.value_length.result c.tag_length.result c.class_of.result c.class_of.ensures c.key_length.ensures.0 c.value_length.ensures c.tag_length.ensures.0

-- the sum is far below the largest number
bound : (c : After-tag_length) → c.key_length.result + c.value_length.result + c.tag_length.result + 2 < 100000
bound c = omega (arith, c.key_length.ensures.1, c.value_length.ensures, c.tag_length.ensures.1)

answer_is : (c : After-tag_length) →
    let a = c.args in
    write_answer a.key a.given a.s.now a.tag (length a.out.now) ≡ fitted (payload_of a.key a.given a.s.now a.tag) (length a.out.now)
answer_is c =
    let a = c.args in
    passed a.key a.given a.s.now a.tag (length a.out.now) c.message_fault.result c.message_fault.ensures c.in_ok-message_fault.was

pub returns-in_err-message_fault : goal.returns-in_err-message_fault
returns-in_err-message_fault c =
    let a = c.args in
    let e = err_from_is_err_and c.from_residual.result c.from_residual.ensures.1 in
    rw (e.1, e.2) (leaves_refused _ _ _ _ (refused a.key a.given a.s.now a.tag (length a.out.now) c.message_fault.result c.message_fault.ensures c.in_err-message_fault.field-0.0 c.in_err-message_fault.was))

pub overflow_add-size : goal.overflow_add-size
overflow_add-size c = record { fits = omega (arith, c.value_length.ensures, c.key_length.ensures.1) }

pub overflow_add-size-2 : goal.overflow_add-size-2
overflow_add-size-2 c = record { fits = omega (arith, bound c) }

pub overflow_add-size-3 : goal.overflow_add-size-3
overflow_add-size-3 c = record { fits = omega (arith, bound c) }

pub overflow_cast-size : goal.overflow_cast-size
overflow_cast-size c = record { fits = omega (arith, bound c) }

pub returns-in_err-length_fault : goal.returns-in_err-length_fault
returns-in_err-length_fault c =
    let at = (goal.at.returns-in_err-length_fault c).After-tag_length in
    let e = err_from_is_err_and c.from_residual-in_err-length_fault.result c.from_residual-in_err-length_fault.ensures.1 in
    rw (e.1, e.2) (leaves_same (answer_is at) (length_refused _ _ _ (sized_at at) c.length_fault.result c.length_fault.ensures c.in_err-length_fault.field-0.0 c.in_err-length_fault.was))

pub put_message-requires : goal.put_message-requires
put_message-requires c =
    let a = c.args in
    let p = payload_of a.key a.given a.s.now a.tag in
    let z = sized_at (goal.at.put_message-requires c).After-tag_length in
    let small = length_small p a.out.now _ z c.length_fault.result c.length_fault.ensures c.in_ok-length_fault.was in
    let room = length_room p a.out.now _ z c.length_fault.result c.length_fault.ensures c.in_ok-length_fault.was in
    (z.is small, omega (arith, z.is small, room, frame_length p))

pub returns : goal.returns
returns c =
    let a = c.args in
    let p = payload_of a.key a.given a.s.now a.tag in
    let at = (goal.at.returns c).After-tag_length in
    let z = sized_at at in
    let small = length_small p a.out.now _ z c.length_fault.result c.length_fault.ensures c.in_ok-length_fault.was in
    let room = length_room p a.out.now _ z c.length_fault.result c.length_fault.ensures c.in_ok-length_fault.was in
    leaves_same (answer_is at) (leaves_count _ _ (omega (arith, small, z.is small)) (omega (arith, room, z.is small)) c.put_message.ensures)
