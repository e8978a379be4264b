-- Ranges are to be believed; the agreed version is pinned by `AgreesOnLargest`. Ranges of versions (document 01, 'The message').
-- Assumes nothing.
use Rattle.std.specs.Prelude.{ℕ, ◌≤◌, min, max, ◌≡◌, ◌↔◌, cond, ◌&&◌, leb, ℤ, pos, nat_abs, Option, Some, None}
use Rattle.std.specs.Option.{unwrap_or}
use Rattle.std.specs.Int.Signed.{le_z}
use Rattle.ipc.specs.declared.versions.Versions.{Versions}

abbrev pub largest_version : ℕ
largest_version = 2147483647

-- the versions from one number to another: 1 ≤ low ≤ high ≤ the largest
unfoldable pub range_of : ℤ → ℤ → Option Versions
range_of low high =
    cond (le_z (pos 1) low && (le_z low high && le_z high (pos largest_version)))
    (Some (record { min = nat_abs low; max = nat_abs high }))
    None

-- the largest number in two ranges, or none
abbrev pub largest_common : Versions → Versions → Option ℕ
largest_common v w = cond (leb (max v.min w.min) (min v.max w.max)) (Some (min v.max w.max)) None

-- the same, and none where either is no range
abbrev pub agreed : Option Versions → Option Versions → Option ℕ
agreed (Some v) (Some w) = largest_common v w
agreed (Some v) None = None
agreed None x = None

-- the agreed version: 0 if there is none or if either is no range
unfoldable pub agreed_version : ℕ → ℕ → ℕ → ℕ → ℕ
agreed_version low high low2 high2 = unwrap_or (agreed (range_of (pos low) (pos high)) (range_of (pos low2) (pos high2))) 0

-- ---- the statement
-- there is a range from one number to another
pub record IsRange (low high : ℕ) : Type 0 where
  pub positive : 1 ≤ low
  pub ordered : low ≤ high
  pub small : high ≤ largest_version

-- a number is in a range: the range has the version
pub record HasVersion (low high n : ℕ) : Type 0 where
  pub range : IsRange low high
  pub above : low ≤ n
  pub below : n ≤ high

abbrev pub InBoth : ℕ → ℕ → ℕ → ℕ → ℕ → Type 0
InBoth low high low2 high2 n = HasVersion low high n × HasVersion low2 high2 n

-- the agreed version is in both ranges and no larger number is; it is 0 exactly where no number is, or either is no range
abbrev pub AgreesOnLargest : Type 0
AgreesOnLargest = (low high low2 high2 : ℕ)
    → ((agreed_version low high low2 high2 ≡ 0 → ⊥) → InBoth low high low2 high2 (agreed_version low high low2 high2))
    × ((n : ℕ) → InBoth low high low2 high2 n → n ≤ agreed_version low high low2 high2)
    × ((agreed_version low high low2 high2 ≡ 0) ↔ ((n : ℕ) → InBoth low high low2 high2 n → ⊥))
