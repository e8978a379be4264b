-- Laws of messages: one for each way through their reading.
-- Assumes nothing.
use Prim.Native.Nat.{ℕ}
use mathlib.Core.Path.{◌≡◌, refl}
use mathlib.Core.List.{List}
use borrow.Author.Tests.{eq-eqb, ne_eqb}
use Rattle.bencode.specs.declared.fault.Fault.{Fault}
use Rattle.octets.specs.Bytes.{byte_at, slice}
use Rattle.bencode.specs.Strings.{string_at, text_of}
use Rattle.bencode.specs.Integers.{integer_at}
use Rattle.bencode.specs.Item.{item_at}
use Rattle.bencode.proofs.scalars.Ranges.{machine, same}
use Rattle.bencode.proofs.walking.Ends.{integer_fits_lem}
use Rattle.ipc.specs.declared.ids.Tag.{Tag}
use Rattle.ipc.specs.declared.reading.Refusal.{Refusal}
use Rattle.ipc.specs.Ids.{tag_of}
use Rattle.ipc.specs.Keys.{key_number}
use Rattle.ipc.specs.Message.{tail_at, from_tag, message_reading}
use Rattle.std.specs.Prelude.{Ok, Err, Some, None}
use Rattle.bencode.specs.declared.integers.Number.{Number}

module _ (p : List ℕ) (at : ℕ) where
  pub third_end : byte_at p at ≡ 101 → Ok None ≡ tail_at p at
  unfolding tail_at
  third_end b = rw (eq-eqb (byte_at p at) 101 b) refl

  module _ (b : byte_at p at ≡ 101 → ⊥) where
    pub third_no_integer : (f : Fault) → integer_at p at ≡ Err f → Err Refusal.NoMessage ≡ tail_at p at
    unfolding tail_at
    third_no_integer f e = rw (ne_eqb (byte_at p at) 101 b, e) refl

    module _ (n : Number) (e : integer_at p at ≡ Ok n) where
      pub third_no_tag : tag_of (machine n.value) ≡ None → Err Refusal.NoMessage ≡ tail_at p at
      unfolding tail_at
      third_no_tag h = rw (ne_eqb (byte_at p at) 101 b, e, ← same n.value (integer_fits_lem p at n.value n.end e), h) refl

      module _ (t : Tag) (h : tag_of (machine n.value) ≡ Some t) where
        pub third_tag : byte_at p n.end ≡ 101 → Ok (Some t) ≡ tail_at p at
        unfolding tail_at
        third_tag l = rw (ne_eqb (byte_at p at) 101 b, e, ← same n.value (integer_fits_lem p at n.value n.end e), h, eq-eqb (byte_at p n.end) 101 l) refl

        pub third_more : (byte_at p n.end ≡ 101 → ⊥) → Err Refusal.NoMessage ≡ tail_at p at
        unfolding tail_at
        third_more l = rw (ne_eqb (byte_at p at) 101 b, e, ← same n.value (integer_fits_lem p at n.value n.end e), h, ne_eqb (byte_at p n.end) 101 l) refl

pub ruleset tails = (third_end, third_no_integer, third_no_tag, third_tag, third_more)

module _ (p : List ℕ) where
  pub message_no_key : (f : Fault) → string_at p 1 ≡ Err f → Err Refusal.NoMessage ≡ message_reading p
  unfolding message_reading
  message_no_key f e = rw e refl

  module _ (start end : ℕ) (e : string_at p 1 ≡ Ok (text_of start end)) where
    pub message_no_value : item_at p end ≡ None → Err Refusal.NoMessage ≡ message_reading p
    unfolding message_reading
    message_no_value v = rw (e, v) refl

    pub message_keyed : (to : ℕ) → item_at p end ≡ Some to → from_tag p (key_number (slice p start end)) end to (tail_at p to) ≡ message_reading p
    unfolding message_reading
    message_keyed to v = rw (e, v) refl
