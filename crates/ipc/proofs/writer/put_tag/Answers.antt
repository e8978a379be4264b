-- `ipc::writer::put_tag` meets its contract.
-- Assumes nothing.
use Prim.Native.Nat.{ℕ, ◌<◌, ◌^◌}
use mathlib.Core.List.{List, []}
use mathlib.Core.Path.{◌≡◌, refl, subst}
use native.Mathlib.Omega.{arith}
use borrow.Author.Tests.{eq-eqb, ne_eqb}
use lib.IntN.{ℤ, pos}
use Rattle.octets.specs.Put.{Put}
use Rattle.bencode.specs.Value.{integer, encode}
use Rattle.bencode.proofs.scalars.Ranges.{machine}
use Rattle.ipc.specs.Writer.{encode_tag}
use Rattle.ipc.proofs.frames.VersionLaws.{from_machine}
use Rattle.ipc.proofs.writer.put_tag.Goals as goal

tag_none : (tag : ℕ) → tag ≡ 0 → [] ≡ encode_tag tag
unfolding encode_tag
tag_none tag e = rw (eq-eqb tag 0 e) refl

tag_some : (tag : ℕ) → (tag ≡ 0 → ⊥) → encode (integer (pos tag)) ≡ encode_tag tag
unfolding encode_tag
tag_some tag h = rw (ne_eqb tag 0 h) refl

-- a tag, as the machine has it
tag_put : (a b : List ℕ) (i j tag : ℕ) (x : ℤ) → tag < 2 ^ 63 → x ≡ pos tag → Put a i (encode (integer (machine x))) b j → Put a i (encode (integer (pos tag))) b j
tag_put a b i j tag x h e p =
    subst (λ (z : ℤ). Put a i (encode (integer z)) b j) (from_machine tag x h e) p

pub returns-then-tag-eq0 : goal.returns-then-tag-eq0
returns-then-tag-eq0 c = subst (λ (l : List ℕ). Put c.args.out.now c.args.at l c.put_bytes.new.out c.put_bytes.result) (tag_none c.args.tag c.if-tag-eq0.true) c.put_bytes.ensures

pub returns : goal.returns
returns c =
    let a = c.args in
    let h : a.tag < 2 ^ 63 = omega arith in
    subst (λ (l : List ℕ). Put a.out.now a.at l c.put_integer.new.out c.put_integer.result) (tag_some a.tag c.if-tag-eq0.false) (tag_put a.out.now c.put_integer.new.out a.at c.put_integer.result a.tag c.from.result h c.from.ensures c.put_integer.ensures)
