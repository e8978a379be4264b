-- Pinned by `FindsEntry`. The value of a key in a dictionary that has been walked.
-- Assumes nothing.
use Rattle.std.specs.Prelude.{ℕ, cond, List, Result, Ok, Err, Option, Some, None}
use Rattle.bencode.specs.declared.strings.Text.{Text}
use Rattle.octets.specs.Bytes.{slice, same}
use Rattle.bencode.specs.Loop.{LoopStep, next, done, repeat_from}
use Rattle.bencode.specs.Strings.{string_at}
use Rattle.bencode.specs.Skip.{skip_value}
use Rattle.bencode.specs.declared.fault.Fault.{Fault}

-- the entry with a key text: the one that is looked for, or another
abbrev pub matched : List ℕ → List ℕ → Unit {0} → Result Text Fault → LoopStep (Unit {0}) (Option ℕ)
matched s key x (Ok t) = cond (same (slice s t.start t.end) key) (done (Some t.end)) (next (skip_value s t.end) x)
matched s key x (Err f) = done None

-- a step over the entries: where no key stands, they are at their end
abbrev pub find_step : List ℕ → List ℕ → ℕ → Unit {0} → LoopStep (Unit {0}) (Option ℕ)
find_step s key at x = matched s key x (string_at s at)

-- where the value of a key is in the dictionary whose entries go on at an offset
unfoldable pub entry_at : List ℕ → List ℕ → ℕ → Option ℕ
entry_at s key at = repeat_from s (find_step s key) None at tt
