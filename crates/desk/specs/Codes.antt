-- To be believed. Document 01's number of each answer ('The desk': 0 for an accepted call or opening, 1 for a held request,
-- 30 to 38 for refusals).
-- Assumes nothing.
use Rattle.std.specs.Prelude.{ℕ, ◌≡◌, Result, Ok, Err}
use Rattle.desk.specs.declared.done.Accepted.{Accepted}
use Rattle.desk.specs.declared.done.Refusal.{Refusal}
use Rattle.desk.specs.declared.done.Done.{Done}
use Rattle.desk.specs.declared.done.OpeningRefusal.{OpeningRefusal}
use Rattle.desk.specs.declared.done.Opened.{Opened}

-- why a call is refused
abbrev pub refusal_code : Refusal → ℕ
refusal_code Refusal.Limit = 30
refusal_code Refusal.Unwatched = 31
refusal_code Refusal.Stands = 32
refusal_code Refusal.NoneStands = 33
refusal_code Refusal.Room = 34
refusal_code Refusal.Record = 38

-- why an opening is refused
abbrev pub opening_refusal_code : OpeningRefusal → ℕ
opening_refusal_code OpeningRefusal.Limit = 30
opening_refusal_code OpeningRefusal.List = 35
opening_refusal_code OpeningRefusal.IdRange = 36
opening_refusal_code OpeningRefusal.IdAgain = 37

-- tests: 0 where none refuses
abbrev pub tested : {E : Type 0} → (E → ℕ) → Result (Unit {0}) E → ℕ
tested code (Ok u) = 0
tested code (Err e) = code e

abbrev pub check_code : Result (Unit {0}) Refusal → ℕ
check_code r = tested refusal_code r

abbrev pub opening_check_code : Result (Unit {0}) OpeningRefusal → ℕ
opening_check_code r = tested opening_refusal_code r

-- a call's answer: its number, and how many bytes it wrote
abbrev pub answer_code : Result Accepted Refusal → ℕ
answer_code (Ok (Accepted.Sent n)) = 0
answer_code (Ok Accepted.Deferred) = 1
answer_code (Err e) = refusal_code e

abbrev pub answer_count : Result Accepted Refusal → ℕ
answer_count (Ok (Accepted.Sent n)) = n
answer_count (Ok Accepted.Deferred) = 0
answer_count (Err e) = 0

abbrev pub done_code : Done → ℕ
done_code r = answer_code r.answer

abbrev pub done_count : Done → ℕ
done_count r = answer_count r.answer

abbrev pub opened_code : Opened → ℕ
opened_code r = opening_check_code r.answer

-- ---- statements: the numbers leave no choice of the answer
abbrev pub NumbersTell : Type 0
NumbersTell = (a b : Result Accepted Refusal) → answer_code a ≡ answer_code b → answer_count a ≡ answer_count b → a ≡ b

abbrev pub OpeningNumbersTell : Type 0
OpeningNumbersTell = (a b : Result (Unit {0}) OpeningRefusal) → opening_check_code a ≡ opening_check_code b → a ≡ b
