-- Laws of handshakes that are written: the parts of one, and how many bytes it has.
-- Assumes nothing.
use Prim.Native.Nat.{ℕ, ◌+◌}
use mathlib.Core.Path.{◌≡◌, sym, ap, ◌∙◌}
use mathlib.Core.List.{List, [], ◌∷◌, flatten, append_assoc, append-nil}
use native.Mathlib.Omega.{arith}
use lib.IntN.{pos}
use lib.ListN.{length, length-append}
use Rattle.octets.specs.Numerals.{decimal_before, decimal}
use Rattle.bencode.specs.Value.{integer, encode}
use Rattle.octets.specs.Ascii.{ascii}
use Rattle.ipc.specs.declared.versions.Versions.{Versions}
use Rattle.ipc.specs.HandshakeWriter.{handshake_payload, range_written, handshake_written}
use Rattle.ipc.specs.Versions.{range_of}
use Rattle.ipc.specs.Writer.{fitted}
use Rattle.std.specs.Prelude.{Some, None, Err}
use Rattle.ipc.specs.declared.writer.WriteRefusal.{WriteRefusal}

-- the parts of a handshake's payload, around two numbers as they are written
abbrev around : List ℕ → List ℕ → List (List ℕ)
around low high = ascii "d7:versiond3:min" ∷ low ∷ ascii "3:max" ∷ high ∷ ascii "ee" ∷ []

abbrev pub handshake_parts : ℕ → ℕ → List (List ℕ)
handshake_parts low high = around (encode (integer (pos low))) (encode (integer (pos high)))

around_length : (low high : List ℕ) → length (flatten (around low high)) ≡ length low + length high + 23
unfolding flatten ascii
around_length low high = simp length-append (omega arith)

module _ (low high : ℕ) where
  pub handshake_parts_lem : flatten (handshake_parts low high) ≡ handshake_payload low high
  unfolding handshake_payload encode flatten ascii decimal decimal_before
  handshake_parts_lem = simp (append_assoc, append-nil)

  pub handshake_length : length (handshake_payload low high) ≡ length (encode (integer (pos low))) + length (encode (integer (pos high))) + 23
  handshake_length = ap length (sym handshake_parts_lem) ∙ around_length (encode (integer (pos low))) (encode (integer (pos high)))

  -- the answer to a handshake
  pub written_range : (room : ℕ) (v : Versions) → range_of (pos low) (pos high) ≡ Some v → handshake_written low high room ≡ fitted (handshake_payload low high) room
  unfolding handshake_written
  written_range room v e = ap (range_written (handshake_payload low high) room) e

  pub written_none : (room : ℕ) → range_of (pos low) (pos high) ≡ None → handshake_written low high room ≡ Err WriteRefusal.Value
  unfolding handshake_written
  written_none room e = ap (range_written (handshake_payload low high) room) e
