-- Wrong desks fall by a demand itself: each is run on a short list of calls, by computing, and the daemon is not as demanded.
-- Assumes nothing.
use Prim.Native.Nat.{ℕ}
use native.Mathlib.Omega.{arith}
use mathlib.Core.Path.{◌≡◌, refl, sym, ap}
use mathlib.Core.Bool.{Bool, true, false, false≢true}
use mathlib.Core.List.{List, [], ◌∷◌, flatten}
use mathlib.Core.Option.{Option, some, none}
use lib.IntN.{pos, nat_abs}
use lib.ListN.{replicate}
use Rattle.octets.specs.Numerals.{digits, numeral_at, decimal, decimal_before}
use Rattle.bencode.specs.Value.{encode}
use Rattle.bencode.specs.Strings.{string_at}
use Rattle.bencode.specs.Integers.{integer_at, integer_from}
use Rattle.octets.specs.Bytes.{same}
use Rattle.bencode.specs.Scalar.{scalar_at}
use Rattle.bencode.specs.Loop.{repeat}
use Rattle.bencode.specs.Skip.{skip_from}
use Rattle.bencode.specs.Item.{item_at}
use Rattle.bencode.specs.Walk.{list_from, value_at, payload_at}
use Rattle.octets.specs.Ascii.{ascii}
use Rattle.ipc.specs.Hex.{hex_digit, hex_header, hex_in}
use Rattle.ipc.specs.Header.{hex_value, header_in, read_header, sized}
use Rattle.ipc.specs.Ids.{tag_of, torrent_id_of}
use Rattle.ipc.specs.Keys.{listed as keys, number_from, key_number, key_text, class_of}
use Rattle.ipc.specs.Format.{id_end, item_end, items_end, list_part, formatted}
use Rattle.ipc.specs.Message.{tail_at, message_reading}
use Rattle.ipc.specs.Reader.{payload_reading, length_reading, frame_reading, read_frame}
use Rattle.ipc.specs.Writer.{encode_given, encode_tag, payload_of, frame_of}
use Rattle.desk.specs.Machine.{Machine, request, alone_after, is_among, obey, ids_from, ids_in, limit_command, ids_command, content_command, command_in, obeying, takes, handed}
use Rattle.desk.specs.declared.call.Call.{Call}
use Rattle.desk.specs.declared.watch.Watch.{Watch}
use Rattle.desk.specs.Limit.{is_limit}
use Rattle.desk.specs.Watch.{is_id, has, place, marked, list_fault, places, unused, filtered}
use Rattle.desk.specs.Record.{limits_sound, list_sound, sound, opened_with, with_down, with_override}
use Rattle.desk.specs.Opening.{open_code, opening}
use Rattle.desk.specs.Command.{values, id_list, message_frame, command_frame, frames_of, listing}
use Rattle.desk.specs.Refusal.{call_fault}
use Rattle.desk.specs.Plan.{desk_after, raise_commands, clear_commands, commands_of, plan}
use Rattle.desk.specs.Calls.{decided, framed, delivered, outcome, returned, buffer_after}
use Rattle.desk.specs.Demands.{Turn, after, turn, turns, at_opening, after_opening, standing_after, overridden}
use Rattle.desk.specs.Worthless.{AlwaysRefusesFalls, NeverOpensFalls, never_writes, NeverWritesFalls, deferred_writes, DeferredWritesFalls, second_raise, SecondRaiseFalls, restores_once, RestoresOnceFalls, restores_copy, RestoresCopyFalls}

-- ---- the runs: two watched IDs, of which 3 runs, limits of 1 and 2, and no other ID
abbrev list : List Watch
list = record { id = 3; running = true } ∷ record { id = 8; running = false } ∷ []

abbrev lent : Call → Turn
lent c = record { call = c; buffer = replicate 96 0 }

list_opened : (opening 2 list (pos 1) (pos 2)).code ≡ 0
unfolding opening open_code is_limit list_fault is_id has
list_opened = refl

-- ---- what is seen of a daemon
down_of : Option Machine → ℕ
down_of none = 0
down_of (some m) = nat_abs m.down

runs_of : ℕ → Option Machine → Bool
runs_of x none = false
runs_of x (some m) = m.runs x

pub never_writes_falls : NeverWritesFalls
unfolding down_of never_writes turns turn after after_opening at_opening standing_after overridden alone_after request obey is_among returned buffer_after outcome decided framed delivered plan desk_after commands_of call_fault sound limits_sound list_sound with_down with_override opening open_code opened_with places list_fault unused has place marked filtered is_id is_limit frames_of command_frame message_frame frame_of payload_of flatten hex_header hex_in keys key_text class_of ascii hex_digit encode_given encode_tag encode decimal decimal_before takes handed
never_writes_falls demand =
    let z : ◌≡◌ {A = ℕ} 1 5 = ap down_of ((demand list (pos 1) (pos 2) (λ x. false) (lent (Call.Down (pos 5)) ∷ []) list_opened).0 refl) in
    omega arith

pub deferred_writes_falls : DeferredWritesFalls
unfolding down_of deferred_writes turns turn after after_opening at_opening standing_after overridden alone_after request returned buffer_after outcome decided framed delivered plan desk_after commands_of raise_commands clear_commands call_fault sound limits_sound list_sound with_down with_override opening open_code opened_with places list_fault unused has place marked filtered is_id is_limit frames_of command_frame listing message_frame frame_of payload_of flatten hex_header hex_in key_text encode_given encode_tag id_list values encode decimal decimal_before handed takes obeying command_in content_command ids_command limit_command ids_in ids_from obey is_among frame_reading skip_from item_at read_frame length_reading payload_reading ascii hex_value header_in read_header sized hex_digit tag_of torrent_id_of keys number_from key_number class_of id_end item_end items_end list_part formatted tail_at message_reading payload_at value_at scalar_at integer_at integer_from numeral_at digits string_at list_from repeat same
deferred_writes_falls demand =
    let z : ◌≡◌ {A = ℕ} 0 1 = ap down_of ((demand list (pos 1) (pos 2) (λ x. false) (lent (Call.Raise 3) ∷ lent (Call.Down (pos 5)) ∷ []) list_opened).1 3 refl) in
    omega arith

pub second_raise_falls : SecondRaiseFalls
unfolding runs_of second_raise turns turn after after_opening at_opening standing_after overridden alone_after request returned buffer_after outcome decided framed delivered plan desk_after commands_of raise_commands clear_commands call_fault sound limits_sound list_sound with_down with_override opening open_code opened_with places list_fault unused has place marked filtered is_id is_limit frames_of command_frame listing message_frame frame_of payload_of flatten hex_header hex_in key_text encode_given encode_tag id_list values encode decimal decimal_before handed takes obeying command_in content_command ids_command limit_command ids_in ids_from obey is_among frame_reading skip_from item_at read_frame length_reading payload_reading ascii hex_value header_in read_header sized hex_digit tag_of torrent_id_of keys number_from key_number class_of id_end item_end items_end list_part formatted tail_at message_reading payload_at value_at scalar_at integer_at integer_from numeral_at digits string_at list_from repeat same
second_raise_falls demand =
    false≢true (sym (ap (runs_of 8) ((demand list (pos 1) (pos 2) (λ x. false) (lent (Call.Raise 3) ∷ lent (Call.Raise 8) ∷ []) list_opened).1 3 refl)))

pub restores_once_falls : RestoresOnceFalls
unfolding down_of restores_once turns turn after after_opening at_opening standing_after overridden alone_after request returned buffer_after outcome decided framed delivered plan desk_after commands_of raise_commands clear_commands call_fault sound limits_sound list_sound with_down with_override opening open_code opened_with places list_fault unused has place marked filtered is_id is_limit frames_of command_frame listing message_frame frame_of payload_of flatten hex_header hex_in key_text encode_given encode_tag id_list values encode decimal decimal_before handed takes obeying command_in content_command ids_command limit_command ids_in ids_from obey is_among frame_reading skip_from item_at read_frame length_reading payload_reading ascii hex_value header_in read_header sized hex_digit tag_of torrent_id_of keys number_from key_number class_of id_end item_end items_end list_part formatted tail_at message_reading payload_at value_at scalar_at integer_at integer_from numeral_at digits string_at list_from repeat same
restores_once_falls demand =
    let raise = lent (Call.Raise 3) in
    let clear = lent Call.Clear in
    let limit = lent (Call.Down (pos 5)) in
    let z : ◌≡◌ {A = ℕ} 1 5 = ap down_of ((demand list (pos 1) (pos 2) (λ x. false) (limit ∷ raise ∷ clear ∷ raise ∷ clear ∷ []) list_opened).0 refl) in
    omega arith

pub restores_copy_falls : RestoresCopyFalls
unfolding down_of restores_copy turns turn after after_opening at_opening standing_after overridden alone_after request returned buffer_after outcome decided framed delivered plan desk_after commands_of raise_commands clear_commands call_fault sound limits_sound list_sound with_down with_override opening open_code opened_with places list_fault unused has place marked filtered is_id is_limit frames_of command_frame listing message_frame frame_of payload_of flatten hex_header hex_in key_text encode_given encode_tag id_list values encode decimal decimal_before handed takes obeying command_in content_command ids_command limit_command ids_in ids_from obey is_among frame_reading skip_from item_at read_frame length_reading payload_reading ascii hex_value header_in read_header sized hex_digit tag_of torrent_id_of keys number_from key_number class_of id_end item_end items_end list_part formatted tail_at message_reading payload_at value_at scalar_at integer_at integer_from numeral_at digits string_at list_from repeat same
restores_copy_falls demand =
    let z : ◌≡◌ {A = ℕ} 1 5 = ap down_of ((demand list (pos 1) (pos 2) (λ x. false) (lent (Call.Raise 3) ∷ lent (Call.Down (pos 5)) ∷ lent Call.Clear ∷ []) list_opened).0 refl) in
    omega arith

pub always_refuses_falls : AlwaysRefusesFalls
unfolding opening open_code opened_with places list_fault unused has is_id is_limit sound limits_sound list_sound call_fault plan commands_of frames_of command_frame message_frame frame_of payload_of flatten hex_header hex_in keys key_text class_of ascii hex_digit encode_given encode_tag encode decimal decimal_before
always_refuses_falls code refuses given =
    let d = (opening 2 list (pos 1) (pos 2)).desk in
    let accepted : code (Call.Down (pos 5)) 96 d ≡ 0 = (given (Call.Down (pos 5)) 96 d).2 refl (omega arith) in
    omega (arith, accepted, refuses (Call.Down (pos 5)) 96 d)

pub never_opens_falls : NeverOpensFalls
unfolding open_code is_limit list_fault
never_opens_falls code refuses given = refuses [] (pos 0) (pos 0) (given [] (pos 0) (pos 0))
