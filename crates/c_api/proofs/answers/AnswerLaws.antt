-- Laws of answers as numbers.
-- Assumes nothing.
use Prim.Native.Nat.{ℕ, ◌<◌, ◌≤◌, ◌-◌}
use mathlib.Core.Bool.{false}
use mathlib.Core.Path.{◌≡◌, refl, sym, ap, subst, ◌∙◌}
use mathlib.Core.List.{List}
use native.Mathlib.Omega.{arith}
use lib.ListN.{length}
use Rattle.ipc.specs.Keys.{Listed, is_written}
use Rattle.ipc.specs.Writer.{written_code, buffer_after, frame_of, message_fault, write_answer, Leaves}
use Rattle.ipc.proofs.listed.KeyLaws.{listed_past}
use Rattle.c_api.specs.declared.written.WriteAnswer.{WriteAnswer}
use Rattle.c_api.specs.Written.{written_numbers, WrittenAs}
use Rattle.c_api.specs.Offered.{Offered, unknown_refusal, offered_answer, offered_payload}
use Rattle.ipc.specs.declared.writer.WriteRefusal.{WriteRefusal}
use Rattle.std.specs.Prelude.{Result, Err, None, Some}

-- what a writer did, by numbers
pub leaves_numbers : {answer w : Result ℕ WriteRefusal} {payload before after : List ℕ} {r : WriteAnswer} → Leaves answer payload before w after → r ≡ written_numbers w → WrittenAs answer payload before r after
leaves_numbers {payload = payload} {before = before} o e = record {
  answered = e ∙ ap written_numbers o.answered;
  buffer = o.buffer ∙ ap (λ (x : Result ℕ WriteRefusal). buffer_after x (frame_of payload) before) o.answered;
}

-- a refusal, by numbers
pub refused_numbers : (answer : Result ℕ WriteRefusal) (payload before : List ℕ) (refusal : WriteRefusal) {r : WriteAnswer} → answer ≡ Err refusal → r ≡ written_numbers (Err refusal) → WrittenAs answer payload before r before
refused_numbers answer payload before refusal h e = record {
  answered = e ∙ ap written_numbers (sym h);
  buffer = ap (λ (x : Result ℕ WriteRefusal). buffer_after x (frame_of payload) before) (sym h);
}

-- a number over that of every key is not written
unwritten : (n : ℕ) → 255 < n → is_written n ≡ false
unfolding is_written
unwritten n h =
    let some : (n ≡ 0 → ⊥) = λ e. omega (arith, h, e) in
    let past : 20 ≤ n - 1 = omega (arith, h) in
    ap (λ (x : Listed). x.written) (listed_past n some past)

-- so it is refused, by 40
pub key_refused : (n : ℕ) → 255 < n → (value : Offered) (s : List ℕ) (tag room : ℕ) → (offered_answer n value s tag room ≡ Err WriteRefusal.Key) × (written_code (offered_answer n value s tag room) ≡ 40)
unfolding write_answer message_fault unknown_refusal
key_refused n h (Some given) s tag room = (rw (unwritten n h) refl, rw (unwritten n h) refl)
key_refused n h None s tag room = (rw (unwritten n h) refl, rw (unwritten n h) refl)

-- what is done with a value is done with what is equal to it
pub leaves_as : (key tag : ℕ) (s before after : List ℕ) (w : Result ℕ WriteRefusal) (other : Offered) {value : Offered} → value ≡ other
    → Leaves (offered_answer key other s tag (length before)) (offered_payload key other s tag) before w after
    → Leaves (offered_answer key value s tag (length before)) (offered_payload key value s tag) before w after
leaves_as key tag s before after w other e o = subst (λ (x : Offered). Leaves (offered_answer key x s tag (length before)) (offered_payload key x s tag) before w after) (sym e) o
