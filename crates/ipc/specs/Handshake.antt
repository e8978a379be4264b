-- Pinned by `AnswersMeaning`. Handshakes: a dictionary with a range of versions (document 01, 'The message').
-- Assumes nothing.
use Rattle.std.specs.Prelude.{ℕ, ◌+◌, List, length, Option, Some, None, Result, Ok, Err}
use Rattle.bencode.specs.declared.field.Field.{Field}
use Rattle.bencode.specs.Field.{field_of, if_integer}
use Rattle.octets.specs.Ascii.{ascii}
use Rattle.ipc.specs.declared.reading.Frame.{Frame}
use Rattle.ipc.specs.declared.reading.Refusal.{Refusal}
use Rattle.ipc.specs.Header.{header_length}
use Rattle.ipc.specs.Versions.{range_of}
use Rattle.ipc.specs.declared.versions.Versions.{Versions}

-- the versions from `min` to `max` of the dictionary whose entries start at an offset
unfoldable pub range_at : List ℕ → ℕ → Option Versions
range_at p at =
    if_integer None (λ low x. if_integer None (λ high y. range_of low high) (field_of p (ascii "max") at)) (field_of p (ascii "min") at)

-- the versions that `version` names: an integer, or a dictionary with `min` and `max`
abbrev pub versions_in : List ℕ → Option Field → Option Versions
versions_in p (Some (Field.Integer z end)) = range_of z z
versions_in p (Some (Field.Text start end)) = None
versions_in p (Some (Field.List at)) = None
versions_in p (Some (Field.Dictionary at)) = range_at p at
versions_in p None = None

-- the versions of the dictionary that a payload is
unfoldable pub dictionary_versions : List ℕ → Option Versions
dictionary_versions p = versions_in p (field_of p (ascii "version") 1)

abbrev pub handshake_of : List ℕ → Option Versions → Result Frame Refusal
handshake_of p (Some v) = Ok (Frame.Handshake v (header_length + length p))
handshake_of p None = Err Refusal.NoHandshake

-- what is read of a payload that is a dictionary
unfoldable pub handshake_reading : List ℕ → Result Frame Refusal
handshake_reading p = handshake_of p (dictionary_versions p)
