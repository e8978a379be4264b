-- Statements: wrong builds fall by the demand itself (document 02, request 06).
-- Assumes nothing.
use Prim.Native.String.{String}
use Rattle.std.specs.Prelude.{ℕ, ◌≡◌, List}
use Rattle.octets.specs.Ascii.{ascii}
use Rattle.bencode.specs.declared.profile.Profile.{Profile}
use Rattle.canonical.specs.SortWalk.{sorted_payload}
use Rattle.canonical.specs.Demands.{Accepted, SortsToOneFor, SortedIsStrictFor}

-- a sorter that writes other bytes than ours, be it for one accepted payload only
abbrev pub DifferentFalls : Type 0
DifferentFalls = (sort : List ℕ → List ℕ) (s : List ℕ) → Accepted Profile.Loose s → (sort s ≡ sorted_payload s → ⊥) → SortedIsStrictFor sort → ⊥

-- one that writes some bytes for a payload
abbrev pub Falls : String → String → Type 0
Falls payload written = (sort : List ℕ → List ℕ) → sort (ascii payload) ≡ ascii written → SortedIsStrictFor sort → ⊥

-- keys by their lengths first; inner dictionaries left as they are; the items of a list sorted too; falling keys
abbrev pub WrongOrdersFall : Type 0
WrongOrdersFall = Falls "d2:aa0:1:b0:e" "d1:b0:2:aa0:e"
    × Falls "d1:ad1:c0:1:b0:ee" "d1:ad1:c0:1:b0:ee"
    × Falls "l1:b1:ae" "l1:a1:be"
    × Falls "d1:a0:1:b0:e" "d1:b0:1:a0:e"

-- one that writes each payload as it stands, and one that writes the same for all
abbrev pub CopyFalls : Type 0
CopyFalls = SortsToOneFor (λ s. s) → ⊥

abbrev pub ConstantFalls : Type 0
ConstantFalls = (bytes : List ℕ) → SortsToOneFor (λ s. bytes) → ⊥
