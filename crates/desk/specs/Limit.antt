-- To be believed. Limits (document 01, 'The desk': -1 for none, to 1,000,000 kilobytes a second).
-- Assumes nothing.
use Rattle.std.specs.Prelude.{Bool, cond, ◌&&◌, ℤ, pos, negsuc, Option, Some, None}
use Rattle.std.specs.Int.Signed.{le_z}
use Rattle.desk.specs.declared.limit.Limit.{Limit}

-- -1: no limit
abbrev pub unlimited : ℤ
unlimited = negsuc 0

abbrev pub largest_limit : ℤ
largest_limit = pos 1000000

-- is a number a limit
unfoldable pub is_limit : ℤ → Bool
is_limit n = le_z unlimited n && le_z n largest_limit

-- the limit of a number
unfoldable pub limit_of : ℤ → Option Limit
limit_of n = cond (is_limit n) (Some (record { 0 = n })) None
