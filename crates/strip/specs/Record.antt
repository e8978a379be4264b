-- To be believed. The records of a strip (document 01, 'The strip and its program'): one byte of kind, then a body whose length
-- the kind fixes.
-- Assumes nothing.
use Rattle.std.specs.Prelude.{ℕ, ◌+◌, Bool, false, cond, not, List, eqb, leb, ltb, length, IfOk, IfSome}
use Rattle.std.specs.declared.option.Option.{Option}
use Rattle.std.specs.declared.option.Option.TheVariants.{None, Some}
use Rattle.std.specs.declared.result.Result.{Result}
use Rattle.std.specs.declared.result.Result.TheVariants.{Ok, Err}
use Rattle.octets.specs.Bytes.{byte_at}
use Rattle.desk.specs.declared.call.Call.{Call}
use Rattle.strip.specs.declared.record.Record.{Record}
use Rattle.strip.specs.declared.record.Decoded.{Decoded}
use Rattle.strip.specs.declared.record.Kind.{Kind}
use Rattle.strip.specs.Number.{number_at, limit_at}

-- the number of a kind
abbrev pub kind_number : Kind → ℕ
kind_number Kind.Limits = 0
kind_number Kind.Down = 1
kind_number Kind.Up = 2
kind_number Kind.Start = 3
kind_number Kind.Stop = 4
kind_number Kind.Raise = 5
kind_number Kind.Clear = 6
kind_number Kind.Watch = 7

-- the body of a kind: 0, two limits; 6, none; 7, an ID and a mark; 1 to 5, a limit or an ID
unfoldable pub body_length : ℕ → ℕ
body_length kind = cond (eqb kind 0) 8 (cond (eqb kind 6) 0 (cond (eqb kind 7) 5 4))

-- kind 0 first and only once, kind 7 before any call, and no kind over 7
unfoldable pub may_stand : Bool → Bool → ℕ → Bool
may_stand first called kind = cond first (eqb kind 0) (cond (eqb kind 0) false (cond (eqb kind 7) (not called) (ltb kind 7)))

-- the call of a kind from 1 to 5
unfoldable pub call_of : ℕ → List ℕ → ℕ → Call
call_of kind s at =
    cond (eqb kind 1) (Call.Down (limit_at s at))
    (cond (eqb kind 2) (Call.Up (limit_at s at))
    (cond (eqb kind 3) (Call.Start (number_at s at))
    (cond (eqb kind 4) (Call.Stop (number_at s at))
    (Call.Raise (number_at s at)))))

-- the kind of a call
abbrev pub call_kind : Call → ℕ
call_kind (Call.Down n) = 1
call_kind (Call.Up n) = 2
call_kind (Call.Start x) = 3
call_kind (Call.Stop x) = 4
call_kind (Call.Raise x) = 5
call_kind Call.Clear = 6

-- a watch record, whose mark is 0 or 1
unfoldable pub watch_of : List ℕ → ℕ → Option Record
watch_of s at = cond (ltb 1 (byte_at s (at + 4))) None (Some (Record.Watch (record { id = number_at s at; running = eqb (byte_at s (at + 4)) 1 })))

-- the record of a kind, by its body
unfoldable pub body_at : ℕ → List ℕ → ℕ → Option Record
body_at kind s at =
    cond (eqb kind 0) (Some (Record.Limits (limit_at s at) (limit_at s (at + 4))))
    (cond (eqb kind 6) (Some (Record.Call Call.Clear))
    (cond (eqb kind 7) (watch_of s at)
    (Some (Record.Call (call_of kind s at)))))

-- what stands at an offset: a record with the offset after it, the strip's end, or a fault, which is named by an offset
abbrev pub Found : Type 0
Found = Result (Option Decoded) ℕ

-- what holds of a record that stands there; a fault and the end have none
abbrev pub FoundBy : (Decoded → Type 0) → Found → Type 0
FoundBy P found = IfOk found (λ o. IfSome o P)

-- a fault is named by the start of its record
abbrev pub fault_at : ℕ → Found
fault_at at = Err at

-- a record with the offset after it
abbrev pub placed_at : Option Record → ℕ → ℕ → Found
placed_at None at next = fault_at at
placed_at (Some r) at next = Ok (Some (record { found = r; offset = next }))

-- past the last record; an empty strip faults at 0
unfoldable pub end_at : ℕ → Found
end_at at = cond (eqb at 0) (fault_at 0) (Ok None)

-- the record at an offset: it may stand there, and its body is all there
unfoldable pub whole_record_at : List ℕ → ℕ → Bool → Found
whole_record_at s at called =
    let kind = byte_at s at in
    cond (may_stand (eqb at 0) called kind)
    (cond (leb (at + 1 + body_length kind) (length s)) (placed_at (body_at kind s (at + 1)) at (at + 1 + body_length kind)) (fault_at at))
    (fault_at at)

-- the most bytes of a strip
abbrev pub longest_strip : ℕ
longest_strip = 16384

-- what stands at an offset of a strip, after a call or before any
unfoldable pub record_at : List ℕ → ℕ → Bool → Found
record_at s at called = cond (leb (length s) longest_strip) (cond (leb (length s) at) (end_at at) (whole_record_at s at called)) (fault_at longest_strip)
