-- The table of texts, RFC 3629's examples, and where and when 10 is given, by computing.
-- Assumes nothing.
use mathlib.Core.Path.{refl}
use Rattle.octets.specs.Ascii.{ascii}
use Rattle.octets.specs.Bytes.{same, less}
use Rattle.octets.specs.Numerals.{numeral_at, digits}
use Rattle.bencode.specs.Strings.{string_at}
use Rattle.bencode.specs.Scalar.{scalar_at}
use Rattle.bencode.specs.Loop.{repeat}
use Rattle.bencode.specs.Utf8.{utf8, utf8_all, text_from}
use Rattle.bencode.specs.Key.{is_used, is_above, key_fault}
use Rattle.bencode.specs.Walk.{list_from, dictionary_from, value_at, payload_at, payload_code, payload_offset}
use Rattle.bencode.specs.Tries.{tries, TextsTried, TextsEncoded, PlacesTried}

pub texts_tried : TextsTried
unfolding tries text_from
texts_tried = refl

pub texts_encoded : TextsEncoded
unfolding utf8 utf8_all
texts_encoded = (refl, refl, refl, refl)

pub places_tried : PlacesTried
unfolding ascii same less numeral_at digits string_at scalar_at repeat text_from is_used is_above key_fault list_from dictionary_from value_at payload_at payload_code payload_offset
places_tried = ((refl, refl), (refl, refl), (refl, refl))
