-- `ipc::writer::put_message` puts its parts one after the other.
-- Assumes nothing.
use Prim.Native.Nat.{ℕ, ◌+◌, ◌≤◌}
use mathlib.Core.List.{List, [], ◌∷◌, flatten}
use mathlib.Core.Path.{◌≡◌, refl, sym, subst, ap, ◌∙◌}
use native.Mathlib.Omega.{arith}
use lib.ListN.{length}
use Rattle.octets.specs.Put.{Put, Wrote}
use Rattle.bencode.specs.Value.{encode_string}
use Rattle.octets.proofs.writing.PutLaws.{Writing, start, next_put, finish}
use Rattle.ipc.specs.declared.keys.Class.{Class}
use Rattle.ipc.specs.declared.writer.Given.{Given}
use Rattle.ipc.specs.Hex.{hex_header}
use Rattle.ipc.specs.Keys.{key_text, class_of}
use Rattle.ipc.specs.Writer.{encode_given, encode_tag, payload_parts, payload_of, frame_of}
use Rattle.ipc.proofs.writer.put_message.Goals as goal

-- the parts of a frame
abbrev frame_parts : ℕ → Given → List ℕ → ℕ → List (List ℕ)
frame_parts key given s tag = hex_header (length (payload_of key given s tag)) ∷ payload_parts key given s tag

frame_parts_lem : (key : ℕ) (given : Given) (s : List ℕ) (tag : ℕ) → flatten (frame_parts key given s tag) ≡ frame_of (payload_of key given s tag)
unfolding frame_of payload_of flatten
frame_parts_lem key given s tag = refl

-- a part under another name of it
put_as : {a x y b : List ℕ} {i j : ℕ} → x ≡ y → Put a i x b j → Put a i y b j
put_as {a} {b = b} {i} {j} e p = subst (λ (l : List ℕ). Put a i l b j) e p

room : {n m : ℕ} → n ≤ m → 0 + n ≤ m
room h = omega arith

pub returns : goal.returns
returns c =
    let w0 : let g = c.args in
    let parts = frame_parts g.key g.given g.s.now g.tag in
    Writing g.out.now 0 parts g.out.now 0 parts = (let g = c.args in
    start _ _ _ (subst (λ (l : List ℕ). 0 + length l ≤ length g.out.now) (sym (frame_parts_lem g.key g.given g.s.now g.tag)) (room c.requires.1))) in
    let w1 : let g = c.args in
    Writing g.out.now 0 (frame_parts g.key g.given g.s.now g.tag) c.put_bytes-o.new.out c.put_bytes-o.result ((108 ∷ []) ∷ encode_string (key_text g.key) ∷ encode_given (class_of g.key) g.given g.s.now ∷ encode_tag g.tag ∷ (101 ∷ []) ∷ []) = (let g = c.args in
    next_put w0 (put_as (c.hex_header-header.ensures ∙ ap hex_header c.requires.0) c.put_bytes-o.ensures)) in
    let w2 : let g = c.args in
    Writing g.out.now 0 (frame_parts g.key g.given g.s.now g.tag) c.put_bytes-o-2.new.out c.put_bytes-o-2.result (encode_string (key_text g.key) ∷ encode_given (class_of g.key) g.given g.s.now ∷ encode_tag g.tag ∷ (101 ∷ []) ∷ []) = (let g = c.args in
    next_put w1 c.put_bytes-o-2.ensures) in
    let w3 : let g = c.args in
    Writing g.out.now 0 (frame_parts g.key g.given g.s.now g.tag) c.put_key-o.new.out c.put_key-o.result (encode_given (class_of g.key) g.given g.s.now ∷ encode_tag g.tag ∷ (101 ∷ []) ∷ []) = (let g = c.args in
    next_put w2 c.put_key-o.ensures) in
    let w4 : let g = c.args in
    Writing g.out.now 0 (frame_parts g.key g.given g.s.now g.tag) c.put_value-o.new.out c.put_value-o.result (encode_tag g.tag ∷ (101 ∷ []) ∷ []) = (let g = c.args in
    next_put w3 (put_as (ap (λ (k : Class). encode_given k g.given g.s.now) c.class_of.ensures) c.put_value-o.ensures)) in
    let w5 : let g = c.args in
    Writing g.out.now 0 (frame_parts g.key g.given g.s.now g.tag) c.put_tag-o.new.out c.put_tag-o.result ((101 ∷ []) ∷ []) = (let g = c.args in
    next_put w4 c.put_tag-o.ensures) in
    let g = c.args in
    subst (λ (l : List ℕ). Wrote g.out.now 0 l c.put_bytes.new.out c.put_bytes.result) (frame_parts_lem g.key g.given g.s.now g.tag) (finish (next_put w5 c.put_bytes.ensures))
