-- The frames of the proved set are answered as the document has it, and frames are written so: antt computes them.
-- Assumes nothing.
use mathlib.Core.Path.{refl}
use mathlib.Core.List.{flatten}
use Rattle.octets.specs.Numerals.{digits, numeral_at, decimal, decimal_before}
use Rattle.bencode.specs.Value.{encode}
use Rattle.bencode.specs.Strings.{string_at}
use Rattle.bencode.specs.Integers.{integer_at, integer_from}
use Rattle.octets.specs.Bytes.{same, less}
use Rattle.bencode.specs.Utf8.{text_from}
use Rattle.bencode.specs.Key.{is_used, is_above, key_fault}
use Rattle.bencode.specs.Scalar.{scalar_at}
use Rattle.bencode.specs.Loop.{repeat}
use Rattle.bencode.specs.Skip.{skip_from}
use Rattle.bencode.specs.Item.{item_at}
use Rattle.bencode.specs.Walk.{list_from, dictionary_from, value_at, payload_at}
use Rattle.octets.specs.Ascii.{ascii}
use Rattle.bencode.specs.Field.{field_at, field_of}
use Rattle.ipc.specs.Header.{hex_value, header_in, read_header, sized}
use Rattle.ipc.specs.Ids.{tag_of, torrent_id_of}
use Rattle.ipc.specs.Keys.{listed, number_from, key_number, key_text, class_of}
use Rattle.bencode.specs.Entry.{entry_at}
use Rattle.ipc.specs.Format.{id_end, torrent_end, item_end, items_end, list_part, formatted}
use Rattle.ipc.specs.Message.{tail_at, message_reading}
use Rattle.ipc.specs.Versions.{range_of}
use Rattle.ipc.specs.Handshake.{range_at, dictionary_versions, handshake_reading}
use Rattle.ipc.specs.Reader.{payload_reading, length_reading, read_frame}
use Rattle.ipc.specs.HandshakeWriter.{handshake_payload}
use Rattle.ipc.specs.Hex.{hex_digit, hex_in, hex_header}
use Rattle.ipc.specs.Writer.{encode_given, encode_tag, payload_of, frame_of}
use Rattle.ipc.specs.Tries.{tries, FramesTried, strict_tries, StrictTried, FramesWritten}

pub frames_tried : FramesTried
unfolding tries skip_from item_at read_frame length_reading payload_reading ascii hex_value header_in read_header sized tag_of torrent_id_of listed number_from key_number class_of entry_at field_at field_of id_end torrent_end item_end items_end list_part formatted tail_at message_reading range_of range_at dictionary_versions handshake_reading payload_at value_at scalar_at integer_at integer_from numeral_at digits string_at list_from dictionary_from repeat key_fault text_from is_used is_above same less
frames_tried = refl

pub strict_tried : StrictTried
unfolding strict_tries skip_from item_at length_reading payload_reading ascii hex_value header_in read_header sized tag_of torrent_id_of listed number_from key_number class_of entry_at field_at field_of id_end torrent_end item_end items_end list_part formatted tail_at message_reading range_of range_at dictionary_versions handshake_reading payload_at value_at scalar_at integer_at integer_from numeral_at digits string_at list_from dictionary_from repeat key_fault text_from is_used is_above same less
strict_tried = refl

pub frames_written : FramesWritten
unfolding frame_of payload_of flatten encode_given encode_tag key_text class_of listed handshake_payload hex_header hex_in hex_digit ascii encode decimal decimal_before
frames_written = (refl, refl, refl)
