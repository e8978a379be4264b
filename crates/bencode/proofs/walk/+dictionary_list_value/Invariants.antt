use Prim.Native.Nat.{ℕ, ◌+◌, ◌-◌, ◌*◌}
use mathlib.Core.Path.{◌≡◌}
use mathlib.Core.List.{List}
use lib.ListN.{length}
use Rattle.bencode.specs.Depth.{levels_left}
use Rattle.bencode.specs.Walk.{value_at, list_at, dictionary_at, dictionary_from}
use Rattle.bencode.proofs.lookup.RecordLaws.{Looked}
use Rattle.bencode.proofs.walking.KeyLaws.{Kept}
use Rattle.bencode.proofs.walk.+dictionary_list_value.Given as goal

abbrev pub decreases-dictionary : goal.decreases-dictionary
decreases-dictionary l = 2 * levels_left l.depth + 1

abbrev pub decreases-list : goal.decreases-list
decreases-list l = 2 * levels_left l.depth + 1

abbrev pub decreases-value : goal.decreases-value
decreases-value l = 2 * levels_left l.depth

abbrev pub invariant-dictionary-loop-at : goal.invariant-dictionary-loop-at
invariant-dictionary-loop-at l =
    (keys : List (List ℕ))
    × Kept (value_at l.profile (levels_left l.depth) l.s) l.s l.seen l.at keys
    × (dictionary_from l.profile (value_at l.profile (levels_left l.depth) l.s) l.s l.at keys ≡ dictionary_at l.profile (levels_left l.depth) l.s l.from)
    × Looked l.s l.key l.from l.at l.found

abbrev pub decreases-dictionary-loop-at : goal.decreases-dictionary-loop-at
decreases-dictionary-loop-at l = length l.s - l.at

abbrev pub invariant-list-loop-depth : goal.invariant-list-loop-depth
invariant-list-loop-depth l = list_at l.profile (levels_left l.depth) l.s l.at ≡ list_at l.profile (levels_left l.depth) l.s l.from

abbrev pub decreases-list-loop-depth : goal.decreases-list-loop-depth
decreases-list-loop-depth l = length l.s - l.at
