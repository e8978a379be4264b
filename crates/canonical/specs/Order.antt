-- Pinned, for the values of accepted payloads, by `SortsPayload` and `OneSorter`: no other bytes meet `SortedIsStrict`. Putting
-- in order: a value with its dictionaries sorted by key at every level (document 02, request 06).
-- Assumes nothing.
use Rattle.std.specs.Prelude.{ℕ, cond, List}
use Rattle.octets.specs.Bytes.{less}
use Rattle.bencode.specs.Value.{Value, integer, string, list, dictionary, Values, no_value, value, Entries, no_entry, entry}

-- an entry put in front of the first one whose key is not below its own, as raw bytes
unfoldable pub insert : List ℕ → Value → Entries → Entries
insert key v no_entry = entry key v no_entry
insert key v (entry k w es) = let rest = insert key v es in cond (less k key) (entry k w rest) (entry key v (entry k w es))

-- a value with its dictionaries sorted, at every level
unfoldable mutual
  pub sorted : Value → Value
  sorted (integer z) = integer z
  sorted (string text) = string text
  sorted (list vs) = list (sorted_all vs)
  sorted (dictionary es) = dictionary (sorted_entries es)

  pub sorted_all : Values → Values
  sorted_all no_value = no_value
  sorted_all (value v vs) = value (sorted v) (sorted_all vs)

  pub sorted_entries : Entries → Entries
  sorted_entries no_entry = no_entry
  sorted_entries (entry key v es) = insert key (sorted v) (sorted_entries es)
