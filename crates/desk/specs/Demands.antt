-- Statements of the desk as a whole. Each is a type; its proof stands in proofs/ under the same name in lower case.
-- Assumes nothing.
use Rattle.std.specs.Prelude.{ℕ, ◌≤◌, ◌<◌, ◌≡◌, Bool, true, cond, not, ◌&&◌, ◌||◌, List, [], ◌∷◌, map, eqb, ℤ, length, take}
use Rattle.std.proofs.Math.Option.{Option, some, none}
use Rattle.desk.specs.declared.call.Call.{Call}
use Rattle.desk.specs.declared.watch.Watch.{Watch}
use Rattle.desk.specs.declared.record.Desk.{Desk}
use Rattle.desk.specs.Limit.{unlimited}
use Rattle.desk.specs.Watch.{most_watched, all_ids, has, marked}
use Rattle.desk.specs.Record.{closed}
use Rattle.desk.specs.Opening.{open_code, opening}
use Rattle.desk.specs.Command.{id_list, frames_of, longest_frames}
use Rattle.desk.specs.Refusal.{call_fault}
use Rattle.desk.specs.Plan.{Outcome, plan}
use Rattle.desk.specs.Calls.{outcome, returned, buffer_after}
use Rattle.desk.specs.Machine.{Machine, is_among, handed, ids_in, alone_after}

-- ---- demand 3: the builds that it judges
-- what a call of a build answers: its code, how many bytes it wrote, the build's record and the lent buffer after it
pub record Answered (Record : Type 0) : Type 0 where
  pub code : ℕ
  pub count : ℕ
  pub record_after : Record
  pub buffer : List ℕ

-- a desk: its record, how it opens, and what a call does with the buffer that it is lent
pub record Build : Type 1 where
  pub Record : Type 0
  pub opened : List Watch → ℤ → ℤ → Record
  pub called : Call → List ℕ → Record → Answered Record

-- the build whose calls have such outcomes
abbrev pub build_of : (Call → ℕ → Desk → Outcome (List ℕ)) → Build
build_of outcomes = record {
  Record = Desk;
  opened = λ watch down up. (opening (length watch) watch down up).desk;
  called = λ c before d.
      let o = outcomes c (length before) d in
      record { code = (returned o).code; count = (returned o).count; record_after = (returned o).desk; buffer = buffer_after o before };
}

-- ours
abbrev pub desk : Build
desk = build_of outcome

-- ---- the overrides that stand: one stands on x from a raise on x with answer 0 to the next clear with answer 0
unfoldable pub standing_after : Call → ℕ → List ℕ → List ℕ
standing_after (Call.Down n) code standing = standing
standing_after (Call.Up n) code standing = standing
standing_after (Call.Start x) code standing = standing
standing_after (Call.Stop x) code standing = standing
standing_after (Call.Raise x) code standing = cond (eqb code 0) (x ∷ standing) standing
standing_after Call.Clear code standing = cond (eqb code 0) [] standing

-- ---- the world of demand 3
-- a call with the buffer that it is lent
pub record Turn : Type 0 where
  pub call : Call
  pub buffer : List ℕ

-- the build's record, both machines, and the IDs on which an override stands
pub record World (Record : Type 0) : Type 0 where
  pub record_now : Record
  pub daemon : Option Machine
  pub alone : Machine
  pub standing : List ℕ

-- a call: the daemon takes the lent buffer's first bytes as the call left them, as many as its count. A refused or held call
-- gives it nothing: one with bytes is as bad as bytes that are no frames
unfoldable pub after : {R : Type 0} → Turn → World R → Answered R → World R
after t w a =
    record {
      record_now = a.record_after;
      daemon = cond (eqb a.code 0 || eqb a.count 0) (handed (take a.count a.buffer) w.daemon) none;
      alone = alone_after t.call a.code w.alone;
      standing = standing_after t.call a.code w.standing;
    }

unfoldable pub turn : (b : Build) → Turn → World b.Record → World b.Record
turn b t w = after t w (b.called t.call t.buffer w.record_now)

-- a list of calls, each handed the record just returned
unfoldable pub turns : (b : Build) → List Turn → World b.Record → World b.Record
turns b [] w = w
turns b (t ∷ ts) w = turns b ts (turn b t w)

-- both machines at opening: the limits opened with, the watched IDs marked running, any unwatched IDs
unfoldable pub at_opening : List Watch → ℤ → ℤ → (ℕ → Bool) → Machine
at_opening watch down up others = record { down = down; up = up; runs = λ x. cond (has x watch) (marked x watch) (others x) }

unfoldable pub after_opening : (b : Build) → List Watch → ℤ → ℤ → (ℕ → Bool) → World b.Record
after_opening b watch down up others =
    let m = at_opening watch down up others in
    record { record_now = b.opened watch down up; daemon = some m; alone = m; standing = [] }

-- the daemon under an override on x: both limits are off, and x and the unwatched IDs that ran at opening run, no more
unfoldable pub overridden : List Watch → (ℕ → Bool) → ℕ → Machine
overridden watch others x = record { down = unlimited; up = unlimited; runs = λ y. eqb x y || (not (has y watch) && others y) }

-- demand 3, of a build: after an accepted opening and any list of calls, with no override the daemon is as the routine requests
-- alone leave it; with one on x, it is as above
abbrev pub Demand3For : Build → Type 0
Demand3For b =
    (watch : List Watch) (down up : ℤ) (others : ℕ → Bool) (calls : List Turn) → (opening (length watch) watch down up).code ≡ 0
    → let w = turns b calls (after_opening b watch down up others) in
    (w.standing ≡ [] → w.daemon ≡ some w.alone)
    × ((x : ℕ) → is_among x w.standing ≡ true → w.daemon ≡ some (overridden watch others x))

abbrev pub Demand3 : Type 0
Demand3 = Demand3For desk

-- ---- demand 1, beside the promises of the functions
-- each number is given when its row holds and never otherwise: the first row before the room gives its code, 34 is given where
-- only the room is short, and else the call is accepted, with 0 or held with 1
abbrev pub NumbersGivenFor : (Call → ℕ → Desk → ℕ) → Type 0
NumbersGivenFor code = (c : Call) (room : ℕ) (d : Desk) → let bytes = length (frames_of (plan c d).sent) in
    ((call_fault c d ≡ 0 → ⊥) → code c room d ≡ call_fault c d)
    × (call_fault c d ≡ 0 → room < bytes → code c room d ≡ 34)
    × (call_fault c d ≡ 0 → bytes ≤ room → code c room d ≡ (plan c d).code)

abbrev pub NumbersGiven : Type 0
NumbersGiven = NumbersGivenFor (λ c room d. (outcome c room d).code)

-- the same of an opening: 35, 30, then record by record 36, 37, and else 0
abbrev pub OpeningGivenFor : (List Watch → ℤ → ℤ → ℕ) → Type 0
OpeningGivenFor code = (watch : List Watch) (down up : ℤ) → code watch down up ≡ open_code (length watch) watch down up

abbrev pub OpeningGiven : Type 0
OpeningGiven = OpeningGivenFor (λ watch down up. (opening (length watch) watch down up).code)

-- a refused call returns the record as it was handed in and count 0, and leaves the lent buffer as it was
abbrev pub RefusalKeeps : Type 0
RefusalKeeps = (c : Call) (before : List ℕ) (d : Desk) → let o = outcome c (length before) d in
    2 ≤ o.code → ((returned o).desk ≡ d) × ((returned o).count ≡ 0) × (buffer_after o before ≡ before)

-- a refused opening returns a closed desk
abbrev pub RefusalCloses : Type 0
RefusalCloses = (n : ℕ) (watch : List Watch) (down up : ℤ) → ((opening n watch down up).code ≡ 0 → ⊥) → (opening n watch down up).desk ≡ closed

-- ---- what else document 01 says of every call
-- the list is fixed from opening on: every call keeps the number of records and the ID at each place
abbrev pub ListFixed : Type 0
ListFixed = (c : Call) (room : ℕ) (d : Desk) → let next = (outcome c room d).desk in
    (next.count ≡ d.count) × (map (λ w. w.id) next.watch ≡ map (λ w. w.id) d.watch)

-- no call writes more than 479 bytes
abbrev pub NoLonger : Type 0
NoLonger = (c : Call) (room : ℕ) (d : Desk) → length (outcome c room d).sent ≤ longest_frames

-- and one writes as many: after some accepted opening with 32 records and an accepted raise, the clear, whatever room from 479
-- on is lent
abbrev pub LongestReached : Type 0
LongestReached = (watch : List Watch) × (down : ℤ) × (up : ℤ) × (x : ℕ) × (length watch ≡ most_watched) × ((opening (length watch) watch down up).code ≡ 0)
    × ((room : ℕ) → longest_frames ≤ room → let raised = outcome (Call.Raise x) room (opening (length watch) watch down up).desk in
    (raised.code ≡ 0) × (length (outcome Call.Clear room raised.desk).sent ≡ longest_frames))

-- after an accepted opening no call answers 38
abbrev pub NeverBadRecord : Type 0
NeverBadRecord = (watch : List Watch) (down up : ℤ) (others : ℕ → Bool) (calls : List Turn) (c : Call) (room : ℕ) → (opening (length watch) watch down up).code ≡ 0
    → (outcome c room (turns desk calls (after_opening desk watch down up others)).record_now).code ≡ 38 → ⊥

-- an accepted raise sets the override, an accepted clear makes it 0, and nothing else moves it
unfoldable pub override_after : Call → ℕ → ℕ → ℕ
override_after (Call.Down n) code id = id
override_after (Call.Up n) code id = id
override_after (Call.Start x) code id = id
override_after (Call.Stop x) code id = id
override_after (Call.Raise x) code id = cond (eqb code 0) x id
override_after Call.Clear code id = cond (eqb code 0) 0 id

abbrev pub OverrideMoves : Type 0
OverrideMoves = (c : Call) (room : ℕ) (d : Desk) → let o = outcome c room d in o.desk.override_id ≡ override_after c o.code d.override_id

-- ---- that a definition says what its name says
-- the daemon reads a list of torrent IDs as the IDs that the desk listed
abbrev pub IdsRead : Type 0
IdsRead = (ids : List ℕ) → all_ids ids ≡ true → ids_in (id_list ids) ≡ ids

-- opening with the first `count` of some places is opening with that list
abbrev pub CountedOpening : Type 0
CountedOpening = (places : List Watch) (count : ℕ) (down up : ℤ) → count ≤ length places
    → let list = take count places in opening count list down up ≡ opening (length list) list down up
