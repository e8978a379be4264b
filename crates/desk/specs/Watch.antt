-- To be believed. The watch list (document 01, 'The desk': records of an ID and a running mark, at most 32, unused places zero).
-- Assumes nothing.
use Rattle.std.specs.Prelude.{ℕ, zero, suc, Bool, true, false, cond, not, ◌&&◌, ◌||◌, List, [], ◌∷◌, ◌++◌, eqb, pos}
use Rattle.bencode.specs.Integers.{within}
use Rattle.ipc.specs.Ids.{largest_id}
use Rattle.desk.specs.declared.watch.Watch.{Watch}
use Rattle.desk.specs.declared.lists.Pick.{Pick}

-- the most records
abbrev pub most_watched : ℕ
most_watched = 32

-- is a number a torrent ID, by the frame reader's range
unfoldable pub is_id : ℕ → Bool
is_id id = within 1 largest_id (pos id)

-- is every number of a list a torrent ID
unfoldable pub all_ids : List ℕ → Bool
all_ids [] = true
all_ids (x ∷ xs) = is_id x && all_ids xs

-- what an unused place holds
abbrev pub empty : Watch
empty = record { id = 0; running = false }

-- n places: the first n of the records, and empty places after them
unfoldable pub places : ℕ → List Watch → List Watch
places zero ws = []
places (suc n) [] = empty ∷ places n []
places (suc n) (w ∷ ws) = w ∷ places n ws

-- the desk's places
abbrev pub padded : List Watch → List Watch
padded ws = places most_watched ws

-- is every place empty
unfoldable pub unused : List Watch → Bool
unused [] = true
unused (w ∷ ws) = (eqb w.id 0 && not w.running) && unused ws

-- is an ID among the records
unfoldable pub has : ℕ → List Watch → Bool
has x [] = false
has x (w ∷ ws) = eqb w.id x || has x ws

-- the place of the first record with an ID; how many records there are where none has it
unfoldable pub place : ℕ → List Watch → ℕ
place x [] = 0
place x (w ∷ ws) = cond (eqb w.id x) 0 (suc (place x ws))

-- the running mark of an ID
unfoldable pub marked : ℕ → List Watch → Bool
marked x [] = false
marked x (w ∷ ws) = cond (eqb w.id x) w.running (marked x ws)

-- the first fault, record by record after those seen: 36 an ID out of range, 37 an ID again, 0 none
unfoldable pub list_fault : List Watch → List Watch → ℕ
list_fault seen [] = 0
list_fault seen (w ∷ ws) = cond (is_id w.id) (cond (has w.id seen) 37 (list_fault (seen ++ (w ∷ [])) ws)) 36

-- the records that a start or stop lists: all but an ID, that ID alone, those marked running, or those marked stopped
abbrev pub picked : Pick → Watch → Bool
picked (Pick.But x) w = not (eqb w.id x)
picked (Pick.Only x) w = eqb w.id x
picked Pick.Running w = w.running
picked Pick.Stopped w = not w.running

-- the IDs of the records that pass a test, in list order
unfoldable pub filtered : (Watch → Bool) → List Watch → List ℕ
filtered p [] = []
filtered p (w ∷ ws) = cond (p w) (w.id ∷ filtered p ws) (filtered p ws)

-- the IDs that a start or stop lists
abbrev pub pick_ids : Pick → List Watch → List ℕ
pick_ids pick ws = filtered (picked pick) ws
