-- Pinned by `SamePayload`; no promise of a public function cites it. The walk of a payload by one loop over its tokens, with a
-- row of the levels that are open (document 02, request 09).
-- Assumes nothing.
use Rattle.std.specs.Prelude.{ℕ, ◌+◌, ◌-◌, Bool, true, false, List, get_or, set, replicate, Result, Ok, Err}
use Rattle.bencode.specs.declared.fault.Fault.{Fault}
use Rattle.bencode.specs.declared.profile.Profile.{Profile}
use Rattle.bencode.specs.declared.tokens.Bracket.{Bracket}
use Rattle.bencode.specs.declared.tokens.Level.{Level}
use Rattle.bencode.specs.declared.tokens.Token.{Token}
use Rattle.bencode.specs.Depth.{largest_depth}
use Rattle.bencode.specs.Fault.{Walk}
use Rattle.bencode.specs.KeySearch.{none_seen}
use Rattle.bencode.specs.Loop.{LoopStep, next, done, repeat_from}
use Rattle.bencode.specs.Tokens.{token_at}
use Rattle.bencode.specs.Walk.{whole}

-- the level that a list or a dictionary opens, whose values or entries start at an offset
abbrev pub opened : Bracket → ℕ → Level
opened bracket first = record { bracket = bracket; seen = none_seen first }

-- the level outside of all, whose bracket is not asked for
abbrev pub outside : Level
outside = opened Bracket.List 0

-- the levels that are open: the row of those around the innermost, how many there are, the innermost, and whether a value has to
-- stand next
pub record Levels : Type 0 where
  pub row : List Level
  pub depth : ℕ
  pub level : Level
  pub valued : Bool

-- before the payload's value
abbrev pub at_start : Levels
at_start = record { row = replicate largest_depth outside; depth = 0; level = outside; valued = true }

-- what follows a token, or a fault, at an offset
abbrev pub advance : ℕ → Levels → Result Token Fault → LoopStep Levels Walk
advance at x (Err f) = done (Err f)
advance at x (Ok (Token.Done end)) = done (Ok end)
advance at x (Ok Token.Close) = next (at + 1) (record { row = x.row; depth = x.depth - 1; level = get_or x.row (x.depth - 1) outside; valued = x.valued })
advance at x (Ok (Token.Key seen end)) = next end (record { row = x.row; depth = x.depth; level = record { bracket = Bracket.Dictionary; seen = seen }; valued = true })
advance at x (Ok (Token.Open bracket)) = next (at + 1) (record { row = set x.row x.depth x.level; depth = x.depth + 1; level = opened bracket (at + 1); valued = false })
advance at x (Ok (Token.Scalar end)) = next end (record { row = x.row; depth = x.depth; level = x.level; valued = false })

-- a turn of the loop: one token
unfoldable pub turn : Profile → List ℕ → ℕ → Levels → LoopStep Levels Walk
turn p s at x = advance at x (token_at p s x.depth x.level x.valued at)

-- what a loop of turns finds in a payload, given what it answers where they do not end in as many as there are bytes and one
unfoldable pub loop_at : (Profile → List ℕ → ℕ → Levels → LoopStep Levels Walk) → Walk → Profile → List ℕ → Walk
loop_at step endless p s = whole s (repeat_from s (step p s) endless 0 at_start)
