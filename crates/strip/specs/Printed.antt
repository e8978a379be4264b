-- To be believed. What override-desk prints for a strip (document 01, 'The strip and its program').
-- Assumes nothing.
use Rattle.std.specs.Prelude.{ℕ, zero, suc, Bool, true, false, cond, List, [], ◌∷◌, ◌++◌, eqb, ℤ, pos, length}
use Rattle.std.specs.declared.option.Option.TheVariants.{None, Some}
use Rattle.std.specs.declared.result.Result.TheVariants.{Ok, Err}
use Rattle.desk.specs.declared.watch.Watch.{Watch}
use Rattle.desk.specs.declared.call.Call.{Call}
use Rattle.desk.specs.declared.record.Desk.{Desk}
use Rattle.desk.specs.Opening.{opening}
use Rattle.strip.specs.declared.record.Record.{Record}
use Rattle.strip.specs.Record.{Found, call_kind, record_at}
use Rattle.strip.specs.Answer.{answer}
use Rattle.strip.specs.Line.{open_text, fault_text, call_text}

-- ---- a strip record by record, up to its end or to its first fault
pub data Records : Type 0 where
  limits : ℤ → ℤ → Records → Records
  watch : Watch → Records → Records
  call : Call → Records → Records
  fault : ℕ → Records
  end : Records

-- a record, and the records from the offset after it on, after a call or before any
abbrev pub followed_by : Record → ℕ → Bool → (ℕ → Bool → Records) → Records
followed_by (Record.Limits down up) next called rest = limits down up (rest next called)
followed_by (Record.Watch w) next called rest = watch w (rest next called)
followed_by (Record.Call c) next called rest = call c (rest next true)

-- what stands at an offset, and the records from there on
abbrev pub followed : Found → Bool → (ℕ → Bool → Records) → Records
followed (Ok (Some d)) called rest = followed_by d.found d.offset called rest
followed (Ok None) called rest = end
followed (Err at) called rest = fault at

-- the records from an offset on, at most so many
unfoldable pub records_from : ℕ → List ℕ → ℕ → Bool → Records
records_from zero s at called = end
records_from (suc n) s at called = followed (record_at s at called) called (λ next after. records_from n s next after)

-- a record has a byte at least: there are no more than the strip has bytes, and then its end (that they suffice,
-- `PrintsWhole` says too)
unfoldable pub records_of : List ℕ → Records
records_of s = records_from (suc (length s)) s 0 false

-- ---- what is printed
-- from the opening on: each call is handed the record just returned (limits and watch records cannot stand here)
unfoldable pub printed_open : Desk → Records → List ℕ
printed_open d (limits down up rest) = printed_open d rest
printed_open d (watch w rest) = printed_open d rest
printed_open d (call c rest) =
    let a = answer c d in
    call_text (call_kind c) a.code a.sent ++ printed_open a.desk rest
printed_open d (fault at) = fault_text at
printed_open d end = []

-- `open A`, and what follows unless it is a refusal
unfoldable pub printed_opening : ℤ → ℤ → List Watch → Records → List ℕ
printed_opening down up ws rest =
    let o = opening (length ws) ws down up in
    open_text o.code ++ cond (eqb o.code 0) (printed_open o.desk rest) []

-- before it, with the limits and the watch list so far: the desk is opened at the first call, or at the end of a sound strip
unfoldable pub printed_from : ℤ → ℤ → List Watch → Records → List ℕ
printed_from down up ws (limits d u rest) = printed_from d u ws rest
printed_from down up ws (watch w rest) = printed_from down up (ws ++ (w ∷ [])) rest
printed_from down up ws (call c rest) = printed_opening down up ws (call c rest)
printed_from down up ws (fault at) = fault_text at
printed_from down up ws end = printed_opening down up ws end

-- the first record is the limits: the zeros are never opened with
unfoldable pub printed : List ℕ → List ℕ
printed s = printed_from (pos 0) (pos 0) [] (records_of s)
