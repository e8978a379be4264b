-- Statements of strips as a whole. Each is a type; its proof stands in proofs/ under the same name in lower case.
-- Assumes nothing.
use Rattle.std.specs.Prelude.{ℕ, ◌+◌, ◌<◌, ◌≡◌, Bool, true, List, length}
use Rattle.octets.specs.Bytes.{byte_at}
use Rattle.strip.specs.declared.record.Record.{Record}
use Rattle.strip.specs.Record.{FoundBy, call_kind, longest_strip, record_at}
use Rattle.strip.specs.Line.{fault_text}
use Rattle.strip.specs.Printed.{printed}
use Rattle.strip.specs.Run.{begun, run_after, printed_by}

-- document 01's number of a record
abbrev pub HasKind : Record → ℕ → Type 0
HasKind (Record.Limits d u) k = k ≡ 0
HasKind (Record.Watch w) k = k ≡ 7
HasKind (Record.Call c) k = k ≡ call_kind c

-- a record is of the kind that its first byte says
abbrev pub KindNamed : Type 0
KindNamed = (s : List ℕ) (at : ℕ) (called : Bool) → FoundBy (λ d. HasKind d.found (byte_at s at)) (record_at s at called)

-- a run of `next_step`s prints what the strip prints: it is over after so many, and their texts joined are `printed`
abbrev pub PrintsWhole : Type 0
PrintsWhole = (s : List ℕ) → let n = length s + 2 in ((run_after n s begun).over ≡ true) × (printed_by n s begun ≡ printed s)

-- over 16,384 bytes only `strip fault 16384` is printed
abbrev pub OverLong : Type 0
OverLong = (s : List ℕ) → longest_strip < length s → printed s ≡ fault_text longest_strip
