-- The reader on the encoding of a dictionary: the answer is what the value means.
-- Assumes nothing.
use Prim.Native.Nat.{ℕ, ◌+◌}
use mathlib.Core.Path.{◌≡◌, refl, ap, ◌∙◌}
use mathlib.Core.List.{List, [], ◌∷◌, ◌++◌}
use lib.ListN.{length}
use Rattle.bencode.specs.declared.field.Field.{Field}
use Rattle.bencode.specs.declared.profile.Profile.{Profile}
use Rattle.octets.specs.Ascii.{ascii}
use Rattle.octets.specs.Bytes.{Begins}
use Rattle.bencode.specs.Field.{field_of, if_integer}
use Rattle.bencode.specs.Value.{integer, string, list, dictionary, Entries, encode_entries, AllEntries, WellFormed, Found, found, missing, lookup, lookup_at, found_integer}
use Rattle.bencode.specs.Demands.{ShowsFound}
use Rattle.bencode.proofs.Fields.{finds_field, finds_integer}
use Rattle.ipc.specs.Answer.{answer_of}
use Rattle.ipc.specs.Handshake.{range_at, versions_in, dictionary_versions, handshake_of, handshake_reading}
use Rattle.ipc.specs.Header.{header_length}
use Rattle.ipc.specs.Meaning.{versions_of, versions_answer}
use Rattle.ipc.specs.Versions.{range_of}
use Rattle.ipc.specs.declared.versions.Versions.{Versions}
use Rattle.std.specs.Prelude.{Option, Some, None}

module _ (profile : Profile) (p : List ℕ) where
  range_means : (levels : ℕ) (es : Entries) (at e : ℕ) → AllEntries profile (WellFormed profile levels) [] es → Begins p at (encode_entries es ++ (101 ∷ [])) e → range_at p at ≡ versions_of (found (dictionary es))
  unfolding range_at
  range_means levels es at e h b =
      finds_integer None (λ low x. if_integer None (λ high y. range_of low high) (field_of p (ascii "max") at)) (λ low. found_integer None (range_of low) (lookup (ascii "max") es)) p e
      (λ low x q. finds_integer None (λ high y. range_of low high) (range_of low) p e (λ high y r. refl) profile levels es at (ascii "max") h b)
      profile levels es at (ascii "min") h b

  versions_mean : (x : Found) (to : Option ℕ) (e : ℕ) (f : Option Field) → ShowsFound profile p e x to f → versions_in p f ≡ versions_of x
  versions_mean (found (integer z)) (Some at) e f h = rw h.0 refl
  versions_mean (found (string text)) (Some at) e f h = rw h.0.0 refl
  versions_mean (found (list vs)) (Some at) e f h = rw h.0.0 refl
  versions_mean (found (dictionary es)) (Some at) e f h = rw h.0.0 (range_means h.0.1 es (at + 1) _ h.0.2 h.0.3)
  versions_mean (found v) None e f h = absurd h
  versions_mean missing (Some at) e f h = absurd h
  versions_mean missing None e f h = rw h refl

  handshake_of_same : (v : Option Versions) → answer_of (handshake_of p v) ≡ versions_answer (header_length + length p) v
  handshake_of_same (Some v) = refl
  handshake_of_same None = refl

  -- the answer to a dictionary
  pub handshake_means : (levels : ℕ) (es : Entries) (e : ℕ) → AllEntries profile (WellFormed profile levels) [] es → Begins p 1 (encode_entries es ++ (101 ∷ [])) e → answer_of (handshake_reading p) ≡ versions_answer (header_length + length p) (versions_of (lookup (ascii "version") es))
  unfolding handshake_reading dictionary_versions
  handshake_means levels es e h b =
      handshake_of_same (dictionary_versions p)
      ∙ ap (λ (v : Option Versions). versions_answer (header_length + length p) v) (versions_mean (lookup (ascii "version") es) (lookup_at (ascii "version") es 1) e (field_of p (ascii "version") 1) (finds_field profile levels es p 1 e (ascii "version") h b))
