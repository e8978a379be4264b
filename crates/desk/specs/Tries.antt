-- A statement that antt computes: bytes to try on the daemon of demand 3, in one table (document 01, 'The desk': whole accepted
-- frames, each of key 5, 16, 18 or 20, and nothing else).
-- Assumes nothing.
use Rattle.std.specs.Prelude.{ℕ, ◌≡◌, cond, ◌||◌, List, [], ◌∷◌, map, eqb, ℤ, pos, negsuc}
use Prim.Native.String.{String}
use Rattle.std.proofs.Math.Option.{Option, some, none}
use Rattle.octets.specs.Ascii.{ascii}
use Rattle.desk.specs.Machine.{Machine, handed}

-- what is shown of a machine: both limits, and which of the IDs 0 to 9 run
pub record Shown : Type 0 where
  pub down : ℤ
  pub up : ℤ
  pub running : List ℕ

unfoldable pub running_of : Machine → List ℕ → List ℕ
running_of m [] = []
running_of m (x ∷ xs) = cond (m.runs x) (x ∷ running_of m xs) (running_of m xs)

unfoldable pub shown : Option Machine → Option Shown
shown none = none
shown (some m) = some (record { down = m.down; up = m.up; running = running_of m (0 ∷ 1 ∷ 2 ∷ 3 ∷ 4 ∷ 5 ∷ 6 ∷ 7 ∷ 8 ∷ 9 ∷ []) })

-- the machine before the bytes: limits 1 and 2, and IDs 3 and 5 run
unfoldable pub before : Machine
before = record { down = pos 1; up = pos 2; runs = λ x. eqb x 3 || eqb x 5 }

-- bytes, and what is shown of the machine after them: none where they are not to be sent
pub record Try : Type 0 where
  pub bytes : String
  pub after : Option Shown

abbrev taken : String → ℤ → ℤ → List ℕ → Try
taken b down up running = record { bytes = b; after = some (record { down = down; up = up; running = running }) }

abbrev refused : String → Try
refused b = record { bytes = b; after = none }

unfoldable pub tries : List Try
tries =
    -- no bytes, and a frame of each key: downlimit, start, stop, uplimit
    taken "" (pos 1) (pos 2) (3 ∷ 5 ∷ []) ∷
    taken "00000012l9:downlimiti200ee" (pos 200) (pos 2) (3 ∷ 5 ∷ []) ∷
    taken "0000000El5:startli8eee" (pos 1) (pos 2) (3 ∷ 5 ∷ 8 ∷ []) ∷
    taken "0000000Dl4:stopli3eee" (pos 1) (pos 2) (5 ∷ []) ∷
    taken "0000000Fl7:uplimiti-1ee" (pos 1) (negsuc 0) (3 ∷ 5 ∷ []) ∷
    -- what already is so stays
    taken "0000000El5:startli3eee" (pos 1) (pos 2) (3 ∷ 5 ∷ []) ∷
    taken "0000000Dl4:stopli8eee" (pos 1) (pos 2) (3 ∷ 5 ∷ []) ∷
    -- two IDs, and two frames joined, obeyed in order
    taken "00000010l4:stopli3ei5eee" (pos 1) (pos 2) [] ∷
    taken "0000000Dl4:stopli3eee0000000El5:startli8eee" (pos 1) (pos 2) (5 ∷ 8 ∷ []) ∷
    taken "0000000El5:startli8eee0000000Dl4:stopli8eee" (pos 1) (pos 2) (3 ∷ 5 ∷ []) ∷
    -- a frame with a tag
    taken "00000012l5:startli8eei15ee" (pos 1) (pos 2) (3 ∷ 5 ∷ 8 ∷ []) ∷
    -- a byte after a frame, and a frame cut
    refused "0000000Dl4:stopli3eeeX" ∷
    refused "0000000Dl4:stopli3ee" ∷
    refused "0000000" ∷
    -- frames of other keys, and a handshake
    refused "0000000Fl6:removeli3eee" ∷
    refused "0000000Fl4:porti65535ee" ∷
    refused "0000000Al4:noop0:e" ∷
    refused "0000000Cl6:failed0:e" ∷
    refused "0000001dd7:versiond3:mini1e3:maxi2eee" ∷
    -- IDs out of range
    refused "0000000Dl4:stopli0eee" ∷
    refused "0000000El4:stopli-3eee" ∷
    -- a good frame before a bad one, and after it
    refused "0000000Dl4:stopli3eee0000000Fl6:removeli3eee" ∷
    refused "0000000Fl6:removeli3eee0000000Dl4:stopli3eee" ∷
    []

-- the statement: the daemon makes of each what the table says
abbrev pub DaemonTried : Type 0
DaemonTried = map (λ t. shown (handed (ascii t.bytes) (some before))) tries ≡ map (λ t. t.after) tries
