-- `ipc::header::read_header` meets its contract.
-- Assumes nothing.
use Rattle.std.proofs.Common.{◌≡◌, ℕ, ◌<◌, List, length, get_or, ap, ◌∙◌, arith, Result, Some, None}
use Rattle.std.proofs.lemmas.Result.{err_from_is_err_and}
use Rattle.ipc.specs.declared.reading.Refusal.{Refusal}
use Rattle.ipc.specs.Header.{hex_value, read_header, HeaderFound, header_code, header_offset}
use Rattle.ipc.proofs.headers.HeaderLaws.{digit_same, digit_none, head_start, head_fits, head_more, head_short, head_none, head_done, header_found}
use Rattle.ipc.proofs.header.read_header.Goals.{In_ok-digit}
use Rattle.ipc.proofs.header.read_header.Goals as goal

-- document 01's numbers follow from what is read
numbered : {r h : Result ℕ Refusal} → r ≡ h → (header_code r ≡ header_code h) × (header_offset r ≡ header_offset h)
numbered e = (ap header_code e, ap header_offset e)

-- and nothing else is found
found : (s : List ℕ) {r : Result ℕ Refusal} → r ≡ read_header s → HeaderFound r
found s e = rw e (header_found s)

-- the digit that is read
digit : (c : In_ok-digit) → (c.loop-i.i < length c.args.s.now) × (c.in_ok-digit.digit < 16) × (c.in_ok-digit.digit ≡ hex_value (get_or c.args.s.now c.loop-i.i 0))
digit c =
    let byte : c.get.result ≡ Some c.in_ok-byte.field-0 = grind (arith, c.in_ok-byte.was) in
    let there = rw byte at c.get.ensures.lookup.3 in
    let read = c.from.ensures ∙ rw byte at (c.get.ensures.lookup.4 (omega arith) 0) in
    let some : c.to_digit.result ≡ Some c.in_ok-digit.digit = grind (arith, c.in_ok-digit.was) in
    let d = rw some at c.to_digit.ensures.value in
    let same = digit_same c.from.result d.0 in
    (there.0, omega (arith, d.0, d.1), d.1 ∙ same ∙ ap hex_value read)

pub loop-i-init : goal.loop-i-init
loop-i-init c = head_start c.args.s.now

pub returns-in_err-byte : goal.returns-in_err-byte
returns-in_err-byte c =
    let none : c.get.result ≡ None = grind (arith, c.in_err-byte.was) in
    let short = rw none at c.get.ensures.lookup.3 in
    let error = rw none at c.ok_or.ensures.value in
    let e = err_from_is_err_and c.from_residual.result c.from_residual.ensures.1 in
    let head = head_short c.loop-i.invariant c.loop-i-test.true short in
    let w = c.in_err-byte.was in
    let r : c.from_residual.result ≡ _ = cc (head, e.1, e.2) in
    record { answer = r; numbers = numbered r; found = found c.args.s.now r }

pub returns-in_err-digit : goal.returns-in_err-digit
returns-in_err-digit c =
    let none : c.to_digit.result ≡ None = grind (arith, c.in_err-digit.was) in
    let error = rw none at c.ok_or-in-loop-i.ensures.value in
    let e = err_from_is_err_and c.from_residual-in_err-digit.result c.from_residual-in_err-digit.ensures.1 in
    let byte : c.get.result ≡ Some c.in_ok-byte.field-0 = grind (arith, c.in_ok-byte.was) in
    let there = rw byte at c.get.ensures.lookup.3 in
    let read = c.from.ensures ∙ rw byte at (c.get.ensures.lookup.4 (omega arith) 0) in
    let large = digit_none c.from.result (omega (arith, rw none at c.to_digit.ensures.value)) in
    let head = head_none c.loop-i.invariant c.loop-i-test.true there.0 (rw read at large) in
    let w = c.in_err-digit.was in
    let r : c.from_residual-in_err-digit.result ≡ _ = cc (head, e.1, e.2) in
    record { answer = r; numbers = numbered r; found = found c.args.s.now r }

pub overflow_mul-value : goal.overflow_mul-value
overflow_mul-value c =
    let d = digit c in
    omega (arith, head_fits c.loop-i.invariant c.loop-i-test.true d.1)

pub overflow_add-value : goal.overflow_add-value
overflow_add-value c =
    let d = digit (goal.at.overflow_add-value c).In_ok-digit in
    record { fits = head_fits c.loop-i.invariant c.loop-i-test.true d.1 }

pub loop-i-preserved : goal.loop-i-preserved
loop-i-preserved c =
    let d = digit (goal.at.loop-i-preserved c).In_ok-digit in
    head_more c.loop-i.invariant c.loop-i-test.true d.0 d.2 d.1

pub returns : goal.returns
returns c =
    let e = head_done c.loop-i.invariant c.loop-i-test.false in
    record { answer = e; numbers = numbered e; found = found c.args.s.now e }
