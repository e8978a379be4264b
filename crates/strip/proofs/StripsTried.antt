-- The strips of the table print the table's lines: antt computes it.
-- Assumes nothing.
use mathlib.Core.Path.{refl}
use mathlib.Core.List.{flatten}
use Rattle.octets.specs.Numerals.{decimal, decimal_before}
use Rattle.bencode.specs.Value.{encode}
use Rattle.octets.specs.Ascii.{ascii}
use Rattle.ipc.specs.Header.{hex_value}
use Rattle.ipc.specs.Hex.{hex_in, hex_header, hex_digit}
use Rattle.ipc.specs.Keys.{listed, class_of, key_text}
use Rattle.ipc.specs.Writer.{encode_given, encode_tag, payload_of, frame_of}
use Rattle.desk.specs.Limit.{is_limit}
use Rattle.desk.specs.Watch.{is_id, places, unused, has, place, list_fault, filtered}
use Rattle.desk.specs.Record.{limits_sound, list_sound, sound, opened_with, with_down, with_override}
use Rattle.desk.specs.Opening.{open_code, refused_opening, opening}
use Rattle.desk.specs.Command.{values, id_list, message_frame, command_frame, frames_of, listing}
use Rattle.desk.specs.Refusal.{call_fault}
use Rattle.desk.specs.Plan.{desk_after, raise_commands, clear_commands, commands_of, plan}
use Rattle.desk.specs.Calls.{decided, framed, delivered, outcome}
use Rattle.strip.specs.Number.{number_at, twos_complement}
use Rattle.strip.specs.Record.{body_length, may_stand, call_of, watch_of, body_at, whole_record_at, end_at, record_at}
use Rattle.strip.specs.Answer.{answer}
use Rattle.strip.specs.Line.{word_text, call_line, frames_text, call_text}
use Rattle.strip.specs.Printed.{records_from, records_of, printed_open, printed_opening, printed_from, printed}
use Rattle.strip.specs.Tries.{hex_bytes, lines, tries, StripsTried}

pub strips_tried : StripsTried
unfolding tries hex_bytes hex_value lines printed records_of records_from printed_from printed_opening printed_open call_text frames_text call_line word_text answer record_at end_at whole_record_at body_at watch_of call_of may_stand body_length twos_complement number_at outcome delivered framed decided plan desk_after commands_of call_fault clear_commands raise_commands listing frames_of command_frame message_frame id_list values opening open_code refused_opening with_override with_down opened_with sound list_sound limits_sound filtered list_fault place has unused places is_id is_limit frame_of payload_of encode_tag encode_given key_text class_of listed hex_digit hex_header hex_in ascii encode decimal_before decimal flatten
strips_tried = refl
