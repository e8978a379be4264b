-- The daemon makes of the bytes to try what the table says: antt computes them.
-- Assumes nothing.
use mathlib.Core.Path.{refl}
use Rattle.octets.specs.Numerals.{digits, numeral_at}
use Rattle.bencode.specs.Strings.{string_at}
use Rattle.bencode.specs.Integers.{integer_at, integer_from}
use Rattle.octets.specs.Bytes.{same, less}
use Rattle.bencode.specs.Utf8.{text_from}
use Rattle.bencode.specs.Key.{is_used, is_above, key_fault}
use Rattle.bencode.specs.Scalar.{scalar_at}
use Rattle.bencode.specs.Loop.{repeat}
use Rattle.bencode.specs.Skip.{skip_from}
use Rattle.bencode.specs.Item.{item_at}
use Rattle.bencode.specs.Walk.{list_from, dictionary_from, value_at, payload_at}
use Rattle.bencode.specs.Entry.{entry_at}
use Rattle.bencode.specs.Field.{field_at, field_of}
use Rattle.octets.specs.Ascii.{ascii}
use Rattle.ipc.specs.Hex.{hex_digit}
use Rattle.ipc.specs.Header.{hex_value, header_in, read_header, sized}
use Rattle.ipc.specs.Ids.{tag_of, torrent_id_of}
use Rattle.ipc.specs.Keys.{listed as keys, number_from, key_number, class_of}
use Rattle.ipc.specs.Format.{id_end, torrent_end, item_end, items_end, list_part, formatted}
use Rattle.ipc.specs.Message.{tail_at, message_reading}
use Rattle.ipc.specs.Versions.{range_of}
use Rattle.ipc.specs.Handshake.{range_at, dictionary_versions, handshake_reading}
use Rattle.ipc.specs.Reader.{payload_reading, length_reading, frame_reading, read_frame}
use Rattle.desk.specs.Machine.{is_among, obey, ids_from, ids_in, limit_command, ids_command, content_command, command_in, obeying, takes, handed}
use Rattle.desk.specs.Tries.{running_of, shown, before, tries, DaemonTried}

pub daemon_tried : DaemonTried
unfolding tries before shown running_of handed takes obeying command_in content_command ids_command limit_command ids_in ids_from obey is_among frame_reading skip_from item_at read_frame length_reading payload_reading ascii hex_value header_in read_header sized hex_digit tag_of torrent_id_of keys number_from key_number class_of entry_at field_at field_of id_end torrent_end item_end items_end list_part formatted tail_at message_reading range_of range_at dictionary_versions handshake_reading payload_at value_at scalar_at integer_at integer_from numeral_at digits string_at list_from dictionary_from repeat key_fault text_from is_used is_above same less
daemon_tried = refl
