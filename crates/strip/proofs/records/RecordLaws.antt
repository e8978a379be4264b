-- The records of a strip: laws of the two ways through them that the statements name.
-- Assumes nothing.
use Prim.Native.Nat.{ℕ, ◌<◌}
use mathlib.Core.Path.{◌≡◌, refl}
use mathlib.Core.Bool.{Bool}
use mathlib.Core.List.{List}
use borrow.Author.Tests.{eq-eqb, ne_eqb, lt-leb}
use lib.ListN.{length}
use Rattle.strip.specs.Record.{watch_of, body_at, fault_at, longest_strip, record_at}

pub at_watch : (kind : ℕ) (s : List ℕ) (at : ℕ) → (kind ≡ 0 → ⊥) → (kind ≡ 6 → ⊥) → kind ≡ 7 → body_at kind s at ≡ watch_of s at
unfolding body_at
at_watch kind s at a b e = rw (ne_eqb kind 0 a, ne_eqb kind 6 b, eq-eqb kind 7 e) refl

pub record_long : (s : List ℕ) (at : ℕ) (called : Bool) → longest_strip < length s → record_at s at called ≡ fault_at longest_strip
unfolding record_at
record_long s at called h = rw (lt-leb (length s) longest_strip h) refl
