-- Laws of the formats: one for each way through their checks. `machine z` is the integer z as the machine has it.
-- Assumes nothing.
use Prim.Native.Nat.{ℕ, ◌+◌, ◌-◌}
use mathlib.Core.Path.{◌≡◌, refl, sym, ap, ◌∙◌}
use mathlib.Core.Bool.{Bool, true, false, cond}
use mathlib.Core.List.{List}
use native.Mathlib.Omega.{arith}
use borrow.Author.Tests.{eq-eqb, ne_eqb}
use lib.Dec.{eqb}
use mir.Syntax.{w64}
use mir.Val.{SFits}
use Rattle.bencode.specs.declared.fault.Fault.{Fault}
use Rattle.bencode.specs.declared.field.Field.{Field}
use Rattle.bencode.specs.declared.integers.Number.{Number}
use Rattle.bencode.specs.declared.strings.Text.{Text}
use Rattle.octets.specs.Ascii.{ascii}
use Rattle.octets.specs.Bytes.{byte_at}
use Rattle.bencode.specs.Field.{field_of, if_integer, integer_in}
use Rattle.bencode.specs.Integers.{integer_at}
use Rattle.bencode.specs.Loop.{next, Past, Onward}
use Rattle.bencode.specs.Skip.{skip_rest}
use Rattle.bencode.specs.Strings.{string_at, text_of}
use Rattle.bencode.proofs.walking.Ends.{integer_ends, string_whole_inv}
use Rattle.bencode.proofs.lookup.FieldLaws.{field_is, integer_other, field_ends}
use Rattle.bencode.proofs.loops.LoopLaws.{items_end_lem, items_done, items_next}
use Rattle.bencode.proofs.scalars.Ranges.{machine, same}
use Rattle.bencode.proofs.lookup.SkipLaws.{skip_range}
use Rattle.ipc.specs.declared.format.Items.{Items}
use Rattle.ipc.specs.declared.reading.Value.{Value}
use Rattle.ipc.specs.Format.{text_value, part_value, end_of_text, end_by_id, end_of_id, id_end, torrent_end, item_end, past_item, items_end, list_part}
use Rattle.ipc.specs.Ids.{torrent_id_of}
use Rattle.ipc.specs.declared.ids.TorrentId.{TorrentId}
use Rattle.std.specs.Prelude.{Option, Some, None, Result, Ok, Err}

module _ (p : List ℕ) (at : ℕ) where
  pub text_good : (start end : ℕ) → string_at p at ≡ Ok (text_of start end) → Some (Value.Text (8 + start) (end - start)) ≡ text_value (string_at p at)
  text_good start end e = rw e refl

  pub text_off : (f : Fault) → string_at p at ≡ Err f → None ≡ text_value (string_at p at)
  text_off f e = rw e refl

  pub torrent_other : (byte_at p at ≡ 100 → ⊥) → None ≡ torrent_end p at
  unfolding torrent_end
  torrent_other b = rw (ne_eqb (byte_at p at) 100 b) refl

  module _ (b : byte_at p at ≡ 100) where
    pub torrent_field : if_integer None (λ z end. end_by_id (skip_rest p end) (torrent_id_of z)) (field_of p (ascii "id") (at + 1)) ≡ torrent_end p at
    unfolding torrent_end
    torrent_field = rw (eq-eqb (byte_at p at) 100 b) refl

    pub torrent_missing_id : field_of p (ascii "id") (at + 1) ≡ None → torrent_end p at ≡ None
    torrent_missing_id e = sym torrent_field ∙ ap (if_integer None (λ z end. end_by_id (skip_rest p end) (torrent_id_of z))) e

    module _ (f : Field) (e : field_of p (ascii "id") (at + 1) ≡ Some f) where
      pub torrent_no_id : integer_in f ≡ None → torrent_end p at ≡ None
      torrent_no_id h = sym torrent_field ∙ ap (if_integer None (λ z end. end_by_id (skip_rest p end) (torrent_id_of z))) e ∙ integer_other None (λ z end. end_by_id (skip_rest p end) (torrent_id_of z)) f h

      pub torrent_id : (n : Number) (k : ℕ) → integer_in f ≡ Some n → SFits w64 n.value → k ≡ skip_rest p n.end → end_by_id k (torrent_id_of (machine n.value)) ≡ torrent_end p at
      torrent_id n k i h q = rw (q, same n.value h, ← torrent_field, e, field_is f n i) refl

-- ---- items end further right
-- what ends, ends after where it starts
abbrev Ends : List ℕ → (ℕ → Option ℕ) → Type 0
Ends p item = (at end : ℕ) → item at ≡ Some end → Past p at end

by_id : (k end : ℕ) (i : Option TorrentId) → end_by_id k i ≡ Some end → k ≡ end
by_id k end (Some id) e = cc
by_id k end None e = let n : ◌≡◌ {A = ℕ} 0 1 = cc in absurd (omega arith)

id_ends : (p : List ℕ) → Ends p (id_end p)
unfolding id_end
id_ends p at end e = go (integer_at p at) refl e
  where
    go : (n : Result Number Fault) → integer_at p at ≡ n → end_of_id n ≡ Some end → Past p at end
    go (Ok n) q e = omega (arith, by_id n.end end (torrent_id_of n.value) e, integer_ends p at n.value n.end q)
    go (Err f) q e = let z : ◌≡◌ {A = ℕ} 0 1 = cc in absurd (omega arith)

torrent_ends : (p : List ℕ) → Ends p (torrent_end p)
unfolding torrent_end
torrent_ends p at end e = go (eqb (byte_at p at) 100) (field_of p (ascii "id") (at + 1)) refl e
  where
    go : (t : Bool) (f : Option Field) → field_of p (ascii "id") (at + 1) ≡ f → cond t (if_integer None (λ z k. end_by_id (skip_rest p k) (torrent_id_of z)) f) None ≡ Some end → Past p at end
    go false f q e = let z : ◌≡◌ {A = ℕ} 0 1 = cc in absurd (omega arith)
    go true (Some (Field.Integer z k)) q e =
        let a = field_ends p (ascii "id") (at + 1) z k q in
        omega (arith, by_id (skip_rest p k) end (torrent_id_of z) e, skip_range p k 1 a.1)
    go true (Some (Field.Text start k)) q e = let z : ◌≡◌ {A = ℕ} 0 1 = cc in absurd (omega arith)
    go true (Some (Field.List k)) q e = let z : ◌≡◌ {A = ℕ} 0 1 = cc in absurd (omega arith)
    go true (Some (Field.Dictionary k)) q e = let z : ◌≡◌ {A = ℕ} 0 1 = cc in absurd (omega arith)
    go true None q e = let z : ◌≡◌ {A = ℕ} 0 1 = cc in absurd (omega arith)

text_ends : (p : List ℕ) → Ends p (λ at. end_of_text (string_at p at))
text_ends p at end e = go (string_at p at) refl e
  where
    go : (t : Result Text Fault) → string_at p at ≡ t → end_of_text t ≡ Some end → Past p at end
    go (Ok t) q e = let i : t.end ≡ end = cc in let w = string_whole_inv p at t.start t.end q in omega arith
    go (Err f) q e = let z : ◌≡◌ {A = ℕ} 0 1 = cc in absurd (omega arith)

pub item_ends : (items : Items) (p : List ℕ) → Ends p (item_end items p)
unfolding item_end
item_ends Items.Texts p at end e = text_ends p at end e
item_ends Items.Ids p at end e = id_ends p at end e
item_ends Items.Torrents p at end e = torrent_ends p at end e

-- ---- the items of a list
module _ (items : Items) (p : List ℕ) (at : ℕ) where
  items_onward : Onward p (λ to x. past_item (item_end items p to) x)
  items_onward from x to y e = go (item_end items p from) refl e
    where
      go : (i : Option ℕ) → item_end items p from ≡ i → past_item i x ≡ next to y → Past p from to
      go (Some k) q e = let i : k ≡ to = cc in omega (arith, item_ends items p from k q)
      go None q e = let z : ◌≡◌ {A = ℕ} 0 1 = cc in absurd (omega arith)

  pub items_last : byte_at p at ≡ 101 → Some (at + 1) ≡ items_end items p at
  unfolding items_end
  items_last b = items_end_lem p (λ end x. Some end) (λ to x. past_item (item_end items p to) x) items_onward (λ to. None) at tt b

  module _ (b : byte_at p at ≡ 101 → ⊥) where
    pub items_off : item_end items p at ≡ None → None ≡ items_end items p at
    unfolding items_end
    items_off e = items_done p (λ end x. Some end) (λ to x. past_item (item_end items p to) x) items_onward (λ to. None) at tt b None (ap (λ (i : Option ℕ). past_item i tt) e)

    pub items_more : (end : ℕ) → item_end items p at ≡ Some end → items_end items p end ≡ items_end items p at
    unfolding items_end
    items_more end e = items_next p (λ end x. Some end) (λ to x. past_item (item_end items p to) x) items_onward (λ to. None) at tt b end tt (ap (λ (i : Option ℕ). past_item i tt) e)

-- ---- lists
module _ (items : Items) (p : List ℕ) (at end : ℕ) where
  pub list_other : (byte_at p at ≡ 108 → ⊥) → None ≡ list_part items p at end
  unfolding list_part
  list_other b = rw (ne_eqb (byte_at p at) 108 b) refl

  module _ (b : byte_at p at ≡ 108) where
    pub list_good : (e : ℕ) → items_end items p (at + 1) ≡ Some e → Some (part_value at end) ≡ list_part items p at end
    unfolding list_part
    list_good e h = rw (eq-eqb (byte_at p at) 108 b, h) refl

    pub list_off : items_end items p (at + 1) ≡ None → None ≡ list_part items p at end
    unfolding list_part
    list_off h = rw (eq-eqb (byte_at p at) 108 b, h) refl
