-- The numbers of an answer leave no choice of it: the answer is found again from them.
-- Assumes nothing.
use Rattle.std.specs.Prelude.{Result, Ok, Err}
use Prim.Native.Nat.{ℕ}
use mathlib.Core.Path.{◌≡◌, refl, sym, ap, ap₂, ◌∙◌}
use mathlib.Core.Bool.{cond}
use lib.Dec.{eqb}
use Rattle.desk.specs.declared.done.Accepted.{Accepted}
use Rattle.desk.specs.declared.done.Refusal.{Refusal}
use Rattle.desk.specs.declared.done.OpeningRefusal.{OpeningRefusal}
use Rattle.desk.specs.Codes.{answer_code, answer_count, opening_check_code, NumbersTell, OpeningNumbersTell}

answer_of : ℕ → ℕ → Result Accepted Refusal
answer_of code count =
    cond (eqb code 0) (Ok (Accepted.Sent count))
    (cond (eqb code 1) (Ok Accepted.Deferred)
    (cond (eqb code 30) (Err Refusal.Limit)
    (cond (eqb code 31) (Err Refusal.Unwatched)
    (cond (eqb code 32) (Err Refusal.Stands)
    (cond (eqb code 33) (Err Refusal.NoneStands)
    (cond (eqb code 34) (Err Refusal.Room) (Err Refusal.Record)))))))

found : (a : Result Accepted Refusal) → answer_of (answer_code a) (answer_count a) ≡ a
unfolding answer_of
found (Ok (Accepted.Sent n)) = refl
found (Ok Accepted.Deferred) = refl
found (Err Refusal.Limit) = refl
found (Err Refusal.Unwatched) = refl
found (Err Refusal.Stands) = refl
found (Err Refusal.NoneStands) = refl
found (Err Refusal.Room) = refl
found (Err Refusal.Record) = refl

pub numbers_tell : NumbersTell
numbers_tell a b code count = sym (found a) ∙ ap₂ answer_of code count ∙ found b

check_of : ℕ → Result (Unit {0}) OpeningRefusal
check_of code =
    cond (eqb code 0) (Ok tt)
    (cond (eqb code 30) (Err OpeningRefusal.Limit)
    (cond (eqb code 35) (Err OpeningRefusal.List)
    (cond (eqb code 36) (Err OpeningRefusal.IdRange) (Err OpeningRefusal.IdAgain))))

check_found : (r : Result (Unit {0}) OpeningRefusal) → check_of (opening_check_code r) ≡ r
unfolding check_of
check_found (Ok u) = refl
check_found (Err OpeningRefusal.Limit) = refl
check_found (Err OpeningRefusal.List) = refl
check_found (Err OpeningRefusal.IdRange) = refl
check_found (Err OpeningRefusal.IdAgain) = refl

pub opening_numbers_tell : OpeningNumbersTell
opening_numbers_tell a b code = sym (check_found a) ∙ ap check_of code ∙ check_found b
