-- To be believed. The twenty listed keys, with their numbers, the formats of their values and whether they are written (document
-- 01, 'The message').
-- Assumes nothing.
use Rattle.std.specs.Prelude.{ℕ, zero, suc, ◌-◌, Bool, true, false, cond, List, [], ◌∷◌, ◌++◌, length, get_or, replicate}
use Prim.Native.String.{String}
use Rattle.octets.specs.Bytes.{same}
use Rattle.octets.specs.Ascii.{ascii}
use Rattle.ipc.specs.declared.keys.Class.{Class}
use Rattle.ipc.specs.declared.keys.KeyRow.{KeyRow}

-- a key: its text, the format of its value, and whether it is written here
pub record Listed : Type 0 where
  pub name : String
  pub class : Class
  pub written : Bool

abbrev key : String → Class → Bool → Listed
key n c w = record { name = n; class = c; written = w }

-- the listed keys by number, from 1 on
unfoldable pub listed : List Listed
listed =
    key "automap" Class.Boolean true ∷
    key "autostart" Class.Boolean true ∷
    key "bad-format" Class.Ignored true ∷
    key "directory" Class.Text true ∷
    key "downlimit" Class.Integer true ∷
    key "failed" Class.Text true ∷
    key "get-downlimit" Class.Ignored true ∷
    key "get-status-all" Class.TextList false ∷
    key "get-uplimit" Class.Ignored true ∷
    key "info" Class.TorrentList false ∷
    key "noop" Class.Ignored true ∷
    key "not-supported" Class.Ignored true ∷
    key "pex" Class.Boolean true ∷
    key "port" Class.Port true ∷
    key "remove" Class.IdList true ∷
    key "start" Class.IdList true ∷
    key "status" Class.TorrentList false ∷
    key "stop" Class.IdList true ∷
    key "succeeded" Class.Ignored true ∷
    key "uplimit" Class.Integer true ∷
    []

-- how many keys are listed
abbrev pub key_count : ℕ
key_count = 20

-- what stands for a key that is not listed
abbrev pub unlisted : Listed
unlisted = key "" Class.Unlisted false

-- the row of a key: its bytes with zeros up to 14, and how many they are
abbrev pub row_of : Listed → KeyRow
row_of x =
    record {
      text = ascii x.name ++ replicate (14 - length (ascii x.name)) 0;
      length = length (ascii x.name);
      class = x.class;
      written = x.written;
    }

-- the row of the list by index
unfoldable pub row_at : ℕ → KeyRow
row_at k = row_of (get_or listed k unlisted)

-- the bytes of the key of the list by index
unfoldable pub name_at : ℕ → List ℕ
name_at k = ascii (get_or listed k unlisted).name

-- the number of a text among keys that are counted from k on, and 0 where it is none of them
unfoldable pub number_from : ℕ → List Listed → List ℕ → ℕ
number_from k [] text = 0
number_from k (x ∷ xs) text =
    let rest = number_from (suc k) xs text in
    cond (same (ascii x.name) text) k rest

-- the number of a key, and 0 for one that is not listed
unfoldable pub key_number : List ℕ → ℕ
key_number text = number_from 1 listed text

-- the key of a number, of which 0 is none
abbrev pub listed_at : ℕ → Listed
listed_at zero = unlisted
listed_at (suc k) = get_or listed k unlisted

-- the format of a key's values
unfoldable pub class_of : ℕ → Class
class_of number = (listed_at number).class

-- is a key written here
unfoldable pub is_written : ℕ → Bool
is_written number = (listed_at number).written

-- the text of the key with a number
unfoldable pub key_text : ℕ → List ℕ
key_text key = ascii (listed_at key).name
