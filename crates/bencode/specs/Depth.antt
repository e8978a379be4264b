-- To be believed. How deep lists and dictionaries may stand in each other (document 01, 'The frame': at most 16, the outermost
-- counts as 1).
-- Assumes nothing.
use Rattle.std.specs.Prelude.{ℕ, ◌+◌, ◌-◌, cond, leb, Option, Some, None}
use Rattle.bencode.specs.declared.depth.Depth.{Depth}

abbrev pub largest_depth : ℕ
largest_depth = 16

-- how many more lists and dictionaries may open inside each other at a depth
abbrev pub levels_left : Depth → ℕ
levels_left depth = largest_depth - depth.0

-- the depth inside one more list or dictionary; none where that is too deep
abbrev pub nested : Depth → Option Depth
nested depth = cond (leb largest_depth depth.0) None (Some (record { 0 = depth.0 + 1 }))

-- how many are left in the list that is a payload, in a list that is a value of it, and in a dictionary that is a value of that
abbrev pub list_levels : ℕ
list_levels = largest_depth - 1

abbrev pub sublist_levels : ℕ
sublist_levels = largest_depth - 2

abbrev pub record_levels : ℕ
record_levels = largest_depth - 3
