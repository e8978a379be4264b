-- Laws of the sorter's answer, one for each way through `sort`, and its answer by the grammar.
-- Assumes nothing.
use Prim.Native.Nat.{ℕ, ◌≤◌, ◌<◌}
use mathlib.Core.Path.{◌≡◌, refl, sym, ap, ap₂, ◌∙◌}
use mathlib.Core.Logic.{◌⊎◌, inl, inr, ⊎_elim}
use mathlib.Core.List.{List}
use borrow.Author.Tests.{le-leb, lt-leb}
use native.Mathlib.Omega.{arith}
use lib.ListN.{length}
use Rattle.octets.specs.Put.{Wrote}
use Rattle.octets.proofs.writing.PutLaws.{wrote_front}
use Rattle.bencode.specs.declared.fault.Fault.{Fault}
use Rattle.bencode.specs.declared.profile.Profile.{Profile}
use Rattle.bencode.specs.Judge.{Means, Walked}
use Rattle.bencode.specs.Value.{Value, encode}
use Rattle.bencode.specs.Walk.{payload_at}
use Rattle.octets.proofs.digits.DigitLaws.{lt_or_le}
use Rattle.bencode.proofs.Judgement.{walked_whole}
use Rattle.std.specs.Prelude.{Result, Ok, Err}
use Rattle.canonical.specs.declared.sorter.SortRefusal.{SortRefusal}
use Rattle.canonical.specs.Answer.{largest_payload, sort_answer, lent_after, sort_code, sort_offset, sort_count, SortLeaves}
use Rattle.canonical.specs.SortWalk.{sorted_payload}
use Rattle.canonical.specs.Demands.{written, refused, sorted_into, outcome_of, SortsJudged}
use Rattle.canonical.proofs.Sorting.{sorts_payload, sorted_length, accepted_means}
use Rattle.bencode.specs.Fault.{Walk}

leaves : (bytes before : List ℕ) (r answer : Result ℕ SortRefusal) (after : List ℕ) → r ≡ answer → after ≡ lent_after bytes before answer → SortLeaves answer bytes before r after
leaves bytes before r answer after e b = record { answered = e; code = ap sort_code e; offset = ap sort_offset e; count = ap sort_count e; buffer = b }

-- a refusal is the answer, and leaves the lent bytes as they were
pub refusal_leaves : (bytes before : List ℕ) (r answer : Result ℕ SortRefusal) (f : SortRefusal) → r ≡ Err f → Err f ≡ answer → SortLeaves answer bytes before r before
refusal_leaves bytes before r answer f e h = leaves bytes before r answer before (e ∙ h) (ap (lent_after bytes before) h)

module _ (room : ℕ) (s : List ℕ) where
  pub answer_long : largest_payload < length s → Err SortRefusal.OverLimit ≡ sort_answer room s
  unfolding sort_answer
  answer_long h = rw (lt-leb (length s) largest_payload h) refl

  module _ (h : length s ≤ largest_payload) where
    pub answer_fault : (f : Fault) → payload_at Profile.Loose s ≡ Err f → Err (SortRefusal.Payload f) ≡ sort_answer room s
    unfolding sort_answer
    answer_fault f e = rw (le-leb (length s) largest_payload h, e) refl

    module _ (end : ℕ) (e : payload_at Profile.Loose s ≡ Ok end) where
      pub answer_no_room : room < length s → Err SortRefusal.NoRoom ≡ sort_answer room s
      unfolding sort_answer
      answer_no_room l = rw (le-leb (length s) largest_payload h, e, lt-leb (length s) room l) refl

      pub answer_count : length s ≤ room → Ok (length s) ≡ sort_answer room s
      unfolding sort_answer
      answer_count l = rw (le-leb (length s) largest_payload h, e, le-leb (length s) room l) refl

      -- what is to be written is as long as the payload
      pub as_long : length (sorted_payload s) ≡ length s
      as_long = sorted_length s (walked_whole Profile.Loose s end e)

      -- it is written
      pub written_leaves : (before after : List ℕ) (count : ℕ) → length before ≡ room → length s ≤ room → Wrote before 0 (sorted_payload s) after count → SortLeaves (sort_answer room s) (sorted_payload s) before (Ok count) after
      written_leaves before after count k l w =
          let n : count ≡ length s = omega (arith, w.ended, as_long) in
          leaves (sorted_payload s) before (Ok count) (sort_answer room s) after (ap {B = Result ℕ SortRefusal} (λ (k : ℕ). Ok k) n ∙ answer_count l)
          (wrote_front (omega (arith, as_long)) w ∙ ap (lent_after (sorted_payload s) before) (answer_count l))

-- ---- one law for each way through `sort`
module _ (before : List ℕ) (s : List ℕ) where
  pub long_leaves : 32768 < length s → SortLeaves (sort_answer (length before) s) (sorted_payload s) before (Err SortRefusal.OverLimit) before
  long_leaves h = refusal_leaves (sorted_payload s) before (Err SortRefusal.OverLimit) (sort_answer (length before) s) SortRefusal.OverLimit refl (answer_long (length before) s h)

  module _ (h : length s ≤ 32768) where
    pub fault_leaves : (f : Fault) → Err f ≡ payload_at Profile.Loose s → SortLeaves (sort_answer (length before) s) (sorted_payload s) before (Err (SortRefusal.Payload f)) before
    fault_leaves f e = refusal_leaves (sorted_payload s) before (Err (SortRefusal.Payload f)) (sort_answer (length before) s) (SortRefusal.Payload f) refl (answer_fault (length before) s h f (sym e))

    module _ (end : ℕ) (e : Ok end ≡ payload_at Profile.Loose s) where
      pub no_room_leaves : length before < length s → SortLeaves (sort_answer (length before) s) (sorted_payload s) before (Err SortRefusal.NoRoom) before
      no_room_leaves l = refusal_leaves (sorted_payload s) before (Err SortRefusal.NoRoom) (sort_answer (length before) s) SortRefusal.NoRoom refl (answer_no_room (length before) s h end (sym e) l)

      pub sorted_leaves : length s ≤ length before → (after : List ℕ) (count : ℕ) → Wrote before 0 (sorted_payload s) after count → SortLeaves (sort_answer (length before) s) (sorted_payload s) before (Ok count) after
      sorted_leaves l after count w = written_leaves (length before) s h end (sym e) before after count refl l w

-- the whole answer by the grammar
pub sorts_judged : SortsJudged
sorts_judged room s =
    record {
      long = λ h. sym (ap (outcome_of (sorted_payload s)) (answer_long room s h));
      short = λ h. walked (payload_at Profile.Loose s) refl h;
    }
  where
    counted : (v : Value) → Means Profile.Loose s v → length s ≤ largest_payload → (end : ℕ) → payload_at Profile.Loose s ≡ Ok end → (length s ≤ room) ⊎ (room < length s) → outcome_of (sorted_payload s) (sort_answer room s) ≡ sorted_into room v
    counted v m h end e (inl l) =
        sym (ap (outcome_of (sorted_payload s)) (answer_count room s h end e l))
        ∙ ap₂ written (sym (as_long room s h end e) ∙ ap length (sorts_payload s v m)) (sorts_payload s v m)
        ∙ sym (rw (le-leb (length (encode v)) room (omega (arith, ap length m.1, l))) refl)
    counted v m h end e (inr l) =
        sym (ap (outcome_of (sorted_payload s)) (answer_no_room room s h end e l))
        ∙ sym (rw (lt-leb (length (encode v)) room (omega (arith, ap length m.1, l))) refl)

    walked : (w : Walk) → payload_at Profile.Loose s ≡ w → length s ≤ largest_payload → Walked Profile.Loose largest_payload 4 refused (sorted_into room) s w (outcome_of (sorted_payload s) (sort_answer room s))
    walked (Err f) e h = sym (ap (outcome_of (sorted_payload s)) (answer_fault room s h f e))
    walked (Ok end) e h =
        let m = accepted_means Profile.Loose s (walked_whole Profile.Loose s end e) in
        (m.0, m.1, counted m.0 m.1 h end e (⊎_elim inr inl (lt_or_le room (length s))))
