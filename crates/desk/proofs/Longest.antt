-- No call writes more than 479 bytes, and one writes as many.
-- Assumes nothing.
use Prim.Native.Nat.{ℕ, zero, suc, ◌+◌, ◌≤◌}
use mathlib.Core.Path.{◌≡◌, refl, ap, ◌∙◌}
use mathlib.Core.Bool.{true, false, not}
use mathlib.Core.List.{List, [], ◌∷◌, flatten}
use native.Mathlib.Omega.{arith}
use lib.Dec.{eqb}
use lib.ListN.{length}
use Rattle.octets.specs.Numerals.{decimal, decimal_before}
use Rattle.bencode.specs.Value.{encode}
use Rattle.octets.specs.Ascii.{ascii}
use Rattle.ipc.specs.Hex.{hex_header, hex_in}
use Rattle.ipc.specs.Keys.{key_text, class_of, listed}
use Rattle.ipc.specs.Writer.{encode_given, encode_tag, payload_of, frame_of}
use Rattle.desk.specs.declared.record.Desk.{Desk}
use Rattle.desk.specs.declared.watch.Watch.{Watch}
use Rattle.desk.specs.Limit.{is_limit, largest_limit}
use Rattle.desk.specs.Watch.{is_id, has, list_fault, places, unused, filtered}
use Rattle.desk.specs.Record.{watched, limits_sound, list_sound, sound, opened_with, with_override}
use Rattle.desk.specs.Opening.{open_code, opening}
use Rattle.desk.specs.Command.{Command, values, id_list, message_frame, command_frame, frames_of, listing, longest_frames}
use Rattle.desk.specs.declared.call.Call.{Call}
use Rattle.desk.specs.Plan.{Outcome, deferred, desk_after, raise_commands, clear_commands, commands_of, plan}
use Rattle.desk.specs.Calls.{accepted, framed, outcome}
use Rattle.desk.specs.Demands.{NoLonger, LongestReached}
use Rattle.desk.proofs.general.Cases.{cond_cases}
use Rattle.desk.proofs.acting.RefusalLaws.{Accepted, fault_none}
use Rattle.desk.proofs.acting.CallLaws.{outcome_sends, delivered_whole, outcome_cases}
use Rattle.desk.proofs.acting.PlanLaws.{commands_length}
use Rattle.desk.proofs.openings.AcceptedOpening.{opened_sound}

-- ---- every call
abbrev Short : Outcome (List Command) → Type 0
Short o = length (frames_of o.sent) ≤ longest_frames

pub no_longer : NoLonger
unfolding plan framed frames_of
no_longer c room d =
    let k = outcome_cases Short c room d (λ _ _. omega arith)
    (λ ok. cond_cases Short (deferred c d) (λ _. omega arith) (λ _. commands_length c d ok)) in
    omega (arith, k.holds, ap (λ (o : Outcome (List ℕ)). length o.sent) k.is)

-- ---- a run whose clear is the longest: an opening with 32 of the largest IDs, of both marks, and both limits the largest,
-- then a raise
unfoldable countdown : ℕ → ℕ → List Watch
countdown zero x = []
countdown (suc n) x = record { id = x + n; running = eqb n 0 } ∷ countdown n x

unfoldable records : List Watch
records = countdown 32 2147483616

-- the record after the opening
abbrev first : Desk
first = (opening 32 records largest_limit largest_limit).desk

-- the ID raised, and the record after the raise
abbrev chosen : ℕ
chosen = 2147483647

abbrev raised : Desk
raised = with_override chosen first

records_opened : (opening 32 records largest_limit largest_limit).code ≡ 0
unfolding records countdown opening open_code is_limit list_fault is_id has
records_opened = refl

first_sound : sound first ≡ true
unfolding records countdown
first_sound = opened_sound records largest_limit largest_limit records_opened

chosen_watched : (has chosen (watched first) ≡ true) × (first.override_id ≡ 0)
unfolding records countdown opening open_code opened_with places is_limit list_fault is_id has
chosen_watched = (refl, refl)

raised_sound : sound raised ≡ true
unfolding records countdown opening open_code opened_with with_override places sound limits_sound list_sound is_limit list_fault is_id has unused
raised_sound = refl

raised_clear : length (frames_of (clear_commands raised)) ≡ longest_frames
unfolding records countdown opening open_code opened_with with_override places is_limit list_fault is_id has clear_commands filtered listing frames_of command_frame message_frame frame_of payload_of flatten hex_header hex_in key_text class_of listed ascii encode_given encode_tag id_list values encode decimal decimal_before
raised_clear = refl

-- an accepted call that has room for the longest
whole_outcome : (c : Call) (room : ℕ) (d : Desk) → Accepted c d → deferred c d ≡ false → longest_frames ≤ room → outcome c room d ≡ accepted (desk_after c d) (frames_of (commands_of c d))
whole_outcome c room d ok h fits =
    outcome_sends c room d (fault_none c d ok) h
    ∙ delivered_whole room d (desk_after c d) (frames_of (commands_of c d)) (omega (arith, fits, commands_length c d ok))

raise_accepted : (room : ℕ) → longest_frames ≤ room → outcome (Call.Raise chosen) room first ≡ accepted raised (frames_of (raise_commands chosen first))
unfolding desk_after commands_of
raise_accepted room h =
    whole_outcome (Call.Raise chosen) room first
    (record { is_sound = first_sound; first = ap (λ (x : ℕ). not (eqb x 0)) chosen_watched.1; some_stands = refl; limit = refl; id = chosen_watched.0 })
    refl h

clear_accepted : (room : ℕ) → longest_frames ≤ room → outcome Call.Clear room raised ≡ accepted (with_override 0 raised) (frames_of (clear_commands raised))
unfolding desk_after commands_of
clear_accepted room h =
    whole_outcome Call.Clear room raised
    (record { is_sound = raised_sound; first = refl; some_stands = unfold with_override in refl; limit = refl; id = refl })
    refl h

pub longest_reached : LongestReached
unfolding records countdown
longest_reached = (
  records,
  largest_limit,
  largest_limit,
  chosen,
  refl,
  records_opened,
  λ room h. (
    ap (λ (o : Outcome (List ℕ)). o.code) (raise_accepted room h),
    ap (λ (o : Outcome (List ℕ)). length (outcome Call.Clear room o.desk).sent) (raise_accepted room h)
        ∙ ap (λ (o : Outcome (List ℕ)). length o.sent) (clear_accepted room h)
        ∙ raised_clear,
  ),
)
