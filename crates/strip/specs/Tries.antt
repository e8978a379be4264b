-- A statement that antt computes: strips to try, in one table (document 01, 'The strip and its program': its sample and its
-- faults).
-- Assumes nothing.
use Rattle.std.specs.Prelude.{ℕ, ◌+◌, ◌*◌, ◌≡◌, cond, List, [], ◌∷◌, ◌++◌, map, eqb}
use Prim.Native.String.{String}
use Rattle.octets.specs.Ascii.{ascii}
use Rattle.ipc.specs.Header.{hex_value}
use Rattle.strip.specs.Line.{newline}
use Rattle.strip.specs.Printed.{printed}

-- a strip in hex digits, and the lines that it prints
pub record Try : Type 0 where
  pub strip : String
  pub prints : List String

-- the bytes of hex digits, with spaces between bytes
unfoldable pub hex_bytes : List ℕ → List ℕ
hex_bytes [] = []
hex_bytes (a ∷ []) = []
hex_bytes (a ∷ b ∷ rest) = cond (eqb a 32) (hex_bytes (b ∷ rest)) ((hex_value a * 16 + hex_value b) ∷ hex_bytes rest)

unfoldable pub lines : List String → List ℕ
lines [] = []
lines (l ∷ ls) = ascii l ++ newline ++ lines ls

abbrev try : String → List String → Try
try s ls = record { strip = s; prints = ls }

unfoldable pub tries : List Try
tries =
    -- the document's sample
    try "00 64000000 32000000 07 03000000 01 07 08000000 00 05 08000000 01 C8000000 06" (
    "open 0" ∷
    "5 0 91" ∷
    "00000011l9:downlimiti-1ee0000000Fl7:uplimiti-1ee0000000Dl4:stopli3eee0000000El5:startli8eee" ∷
    "1 1 0" ∷
    "6 0 92" ∷
    "00000012l9:downlimiti200ee0000000Fl7:uplimiti50ee0000000Dl4:stopli8eee0000000El5:startli3eee" ∷
    []) ∷
    -- an empty strip; limits not first, cut, and twice
    try "" ("strip fault 0" ∷ []) ∷
    try "06" ("strip fault 0" ∷ []) ∷
    try "00 64000000 320000" ("strip fault 0" ∷ []) ∷
    try "00 64000000 32000000 00 64000000 32000000" ("strip fault 9" ∷ []) ∷
    -- a kind over 7, a mark over 1, and a body cut
    try "00 64000000 32000000 08" ("strip fault 9" ∷ []) ∷
    try "00 64000000 32000000 07 03000000 02" ("strip fault 9" ∷ []) ∷
    try "00 64000000 32000000 07 03000000 01 01 C80000" ("strip fault 15" ∷ []) ∷
    -- a watch record after a call
    try "00 64000000 32000000 06 07 03000000 01" ("open 0" ∷ "6 33 0" ∷ "strip fault 10" ∷ []) ∷
    -- no call; limits of -1, one of them by a call; a refused opening, whatever follows
    try "00 64000000 32000000" ("open 0" ∷ []) ∷
    try "00 64000000 FFFFFFFF 01 FFFFFFFF" ("open 0" ∷ "1 0 25" ∷ "00000011l9:downlimiti-1ee" ∷ []) ∷
    try "00 FEFFFFFF 32000000 06 08" ("open 30" ∷ []) ∷
    []

-- the statement: each prints what the table says
abbrev pub StripsTried : Type 0
StripsTried = map (λ (t : Try). printed (hex_bytes (ascii t.strip))) tries ≡ map (λ (t : Try). lines t.prints) tries
