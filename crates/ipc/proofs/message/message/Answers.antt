-- `ipc::message::message` meets its contract.
-- Assumes nothing.
use Prim.Native.Nat.{ℕ}
use mathlib.Core.Path.{◌≡◌, sym, ap, subst, ◌∙◌}
use native.Mathlib.Omega.{arith}
use Rattle.std.proofs.lemmas.Result.{err_from_is_err_and}
use Rattle.bencode.proofs.lookup.ItemLaws.{item_last}
use Rattle.bencode.proofs.walking.Ends.{Whole, string_whole_inv}
use Rattle.ipc.specs.declared.keys.Class.{Class}
use Rattle.ipc.specs.Keys.{class_of}
use Rattle.ipc.specs.OnePass.{Held, Valuing, keyed_reading}
use Rattle.ipc.specs.Reader.{payload_reading}
use Rattle.ipc.proofs.frames.MessageLaws.{message_no_key, message_no_value}
use Rattle.ipc.proofs.frames.OnePassLaws.{keyed_fault, keyed_listed}
use Rattle.ipc.proofs.message.message.Goals.{In-Ok, After-key_of-found}
use Rattle.ipc.proofs.message.message.Goals as goal

-- the key's text lies in the payload
whole : (c : In-Ok) → Whole c.args.p.bytes.now 1 c.in-Ok.text.start c.in-Ok.text.end
whole c = string_whole_inv c.args.p.bytes.now 1 c.in-Ok.text.start c.in-Ok.text.end (sym c.string.ensures ∙ c.in-Ok.is)

-- the reading of the message after its key
keyed : (c : After-key_of-found) → keyed_reading c.args.p.profile c.args.p.bytes.now c.key_of-found.result.number c.in-Ok.text.end ≡ payload_reading c.args.p.profile c.args.p.bytes.now
keyed c =
    let p = c.args.p.bytes.now in
    let profile = c.args.p.profile in
    ap (λ (n : ℕ). keyed_reading profile p n c.in-Ok.text.end) c.key_of-found.ensures.0
    ∙ keyed_listed profile p c.requires c.in-Ok.text.start c.in-Ok.text.end (sym c.string.ensures ∙ c.in-Ok.is) (λ e. c.if-byte_at-eq101.false (c.byte_at.ensures ∙ e))

pub unkeyed-requires : goal.unkeyed-requires
unkeyed-requires c =
    let p = c.args.p.bytes.now in
    (c.requires, sym (message_no_value p c.in-Ok.text.start c.in-Ok.text.end (sym c.string.ensures ∙ c.in-Ok.is) (sym (item_last p c.in-Ok.text.end (sym c.byte_at.ensures ∙ c.if-byte_at-eq101.true)))))

pub returns-then-byte_at-eq101 : goal.returns-then-byte_at-eq101
returns-then-byte_at-eq101 c = c.unkeyed.ensures

pub slice_bounds-key_of-count : goal.slice_bounds-key_of-count
slice_bounds-key_of-count c = let w = whole (goal.at.slice_bounds-key_of-count c).In-Ok in omega arith

pub slice_bounds-key_of-start : goal.slice_bounds-key_of-start
slice_bounds-key_of-start c = let w = whole (goal.at.slice_bounds-key_of-start c).In-Ok in omega arith

pub slice_bounds-key_of-end : goal.slice_bounds-key_of-end
slice_bounds-key_of-end c = let w = whole (goal.at.slice_bounds-key_of-end c).In-Ok in omega arith

pub rest-requires : goal.rest-requires
rest-requires c =
    let a = c.args in
    let p = a.p.bytes.now in
    let at = c.in-Ok.text.end in
    let v = subst (Valuing a.p.profile c.key_of-found.result.class p at) c.in_ok-check-in-Ok.was c.value_of.ensures in
    let class = c.key_of-found.ensures.1 ∙ sym (ap class_of c.key_of-found.ensures.0) in
    (v.0, subst (λ (k : Class). Held k p at c.in_ok-check-in-Ok.check) class v.1)

pub unkeyed-requires-in-Err : goal.unkeyed-requires-in-Err
unkeyed-requires-in-Err c = (c.requires, sym (message_no_key c.args.p.bytes.now c.in-Err.field-0 (sym c.string.ensures ∙ c.in-Err.is)))

pub returns-in_ok-check-in-Ok : goal.returns-in_ok-check-in-Ok
returns-in_ok-check-in-Ok c = c.rest.ensures ∙ keyed (goal.at.returns-in_ok-check-in-Ok c).After-key_of-found

pub returns-in_err-check-in-Ok : goal.returns-in_err-check-in-Ok
returns-in_err-check-in-Ok c =
    let e = err_from_is_err_and c.from_residual.result c.from_residual.ensures.1 in
    let whole = keyed (goal.at.returns-in_err-check-in-Ok c).After-key_of-found in
    rw (e.1, e.2) (keyed_fault c.args.p.profile c.args.p.bytes.now c.key_of-found.result.number c.in-Ok.text.end c.in_err-check-in-Ok.field-0.0 c.in_err-check-in-Ok.ensures ∙ whole)

pub returns-in-Err : goal.returns-in-Err
returns-in-Err c = c.unkeyed-in-Err.ensures
