-- Payloads that are sorted, and answers, by computing.
-- Assumes nothing.
use mathlib.Core.Path.{refl}
use Rattle.octets.specs.Ascii.{ascii}
use Rattle.octets.specs.Bytes.{same, less}
use Rattle.octets.specs.Numerals.{numeral_at, digits}
use Rattle.bencode.specs.Strings.{string_at}
use Rattle.bencode.specs.Integers.{integer_at, integer_from}
use Rattle.bencode.specs.Scalar.{scalar_at}
use Rattle.bencode.specs.Loop.{repeat}
use Rattle.bencode.specs.Utf8.{text_from}
use Rattle.bencode.specs.Key.{is_used, is_above, key_fault}
use Rattle.bencode.specs.Skip.{skip_from}
use Rattle.bencode.specs.Walk.{list_from, dictionary_from, value_at, payload_at}
use Rattle.canonical.specs.Answer.{sort_answer}
use Rattle.canonical.specs.SortWalk.{rises_at, least_at, values_from, selected, entries_at, sorted_at}
use Rattle.canonical.specs.Tries.{tries, SortsTried, AnswersTried}

pub sorts_tried : SortsTried
unfolding tries ascii less numeral_at digits string_at scalar_at integer_at integer_from repeat skip_from rises_at least_at values_from selected entries_at sorted_at
sorts_tried = refl

pub answers_tried : AnswersTried
unfolding ascii same less numeral_at digits string_at scalar_at repeat text_from is_used is_above key_fault list_from dictionary_from value_at payload_at sort_answer
answers_tried = (refl, (refl, refl, refl), (refl, refl, refl))
