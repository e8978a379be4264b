-- To be believed: refusals, `version` alone, `min` before `max`; the range and the count are pinned by `HandshakeReadsBack`. The
-- writer of handshakes (document 01, 'What the writer says').
-- Assumes nothing.
use Rattle.std.specs.Prelude.{ℕ, List, pos, Option, Some, None, Result, Err}
use Rattle.bencode.specs.Value.{Value, integer, dictionary, no_entry, entry, encode}
use Rattle.octets.specs.Ascii.{ascii}
use Rattle.ipc.specs.Versions.{range_of}
use Rattle.ipc.specs.Writer.{fitted}
use Rattle.ipc.specs.declared.versions.Versions.{Versions}
use Rattle.ipc.specs.declared.writer.WriteRefusal.{WriteRefusal}

-- a handshake: `version` alone, `min` before `max`
abbrev pub handshake_value : ℕ → ℕ → Value
handshake_value low high =
    dictionary
    (entry (ascii "version") (dictionary (entry (ascii "min") (integer (pos low)) (entry (ascii "max") (integer (pos high)) no_entry))) no_entry)

unfoldable pub handshake_payload : ℕ → ℕ → List ℕ
handshake_payload low high = encode (handshake_value low high)

abbrev pub range_written : List ℕ → ℕ → Option Versions → Result ℕ WriteRefusal
range_written payload room (Some v) = fitted payload room
range_written payload room None = Err WriteRefusal.Value

-- the answer to a handshake: 41 for a range that is none, then 44
unfoldable pub handshake_written : ℕ → ℕ → ℕ → Result ℕ WriteRefusal
handshake_written low high room = range_written (handshake_payload low high) room (range_of (pos low) (pos high))
