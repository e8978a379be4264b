-- Laws of messages by one walk: one for each way through it, and that it comes to the same.
-- Assumes nothing.
use Prim.Native.Nat.{ℕ, ◌+◌}
use mathlib.Core.Path.{◌≡◌, refl, sym, subst, ◌∙◌}
use mathlib.Core.List.{List}
use native.Mathlib.Omega.{arith}
use Rattle.std.specs.Prelude.{Result, Err, Ok}
use Rattle.bencode.specs.declared.fault.Fault.{Fault}
use Rattle.bencode.specs.declared.profile.Profile.{Profile}
use Rattle.octets.specs.Bytes.{byte_at, slice}
use Rattle.bencode.specs.Depth.{list_levels, sublist_levels}
use Rattle.bencode.specs.Strings.{string_at, text_of}
use Rattle.bencode.specs.Walk.{value_at, list_at, whole}
use Rattle.bencode.proofs.lookup.ListLaws.{value_item, second_walked, second_fault}
use Rattle.bencode.proofs.walking.WalkLaws.{value_list}
use Rattle.ipc.specs.declared.format.Items.{Items}
use Rattle.ipc.specs.declared.keys.Class.{Class}
use Rattle.ipc.specs.declared.lists.ListCheck.{ListCheck}
use Rattle.ipc.specs.declared.message.ValueCheck.{ValueCheck}
use Rattle.ipc.specs.declared.reading.Refusal.{Refusal}
use Rattle.ipc.specs.Format.{list_part, formatted}
use Rattle.ipc.specs.Keys.{key_number}
use Rattle.ipc.specs.Lists.{Listing}
use Rattle.ipc.specs.OnePass.{walked_only, list_value, Valuing, rest_reading, value_reading, keyed_reading}
use Rattle.ipc.specs.Reader.{payload_reading}
use Rattle.ipc.proofs.formats.FormatLaws.{list_good}
use Rattle.ipc.proofs.frames.MessageLaws.{message_keyed}
use Rattle.ipc.proofs.frames.ReaderLaws.{payload_fault, payload_list}
use Rattle.bencode.specs.Fault.{Walk}

-- ---- the value
module _ (profile : Profile) (class : Class) (p : List ℕ) (at : ℕ) where
  walked_valuing : (w : Walk) → value_at profile list_levels p at ≡ w → Valuing profile class p at (walked_only w)
  walked_valuing (Ok end) e = (e, tt)
  walked_valuing (Err f) e = e

  pub only_walked : (r : Result ValueCheck Fault) → r ≡ walked_only (value_at profile list_levels p at) → Valuing profile class p at r
  only_walked r e = subst (Valuing profile class p at) (sym e) (walked_valuing (value_at profile list_levels p at) refl)

  -- a list that is held to its format
  module _ (items : Items) (by : (end : ℕ) → formatted class p at end ≡ list_part items p at end) (b : byte_at p at ≡ 108) where
    list_here : (w : Walk) → list_at profile sublist_levels p (at + 1) ≡ w → value_at profile list_levels p at ≡ w
    list_here w e = sym (value_list profile list_levels sublist_levels p at refl b) ∙ e

    list_valuing : (l : ListCheck) → Listing profile items p (at + 1) l → Valuing profile class p at (list_value profile p l)
    list_valuing (ListCheck.Fits end) h = (list_here (Ok end) h.0, by end ∙ sym (list_good items p at end b end h.1))
    list_valuing (ListCheck.Off to) h = walked_valuing (list_at profile sublist_levels p to) (list_here (list_at profile sublist_levels p to) (sym h))

    held : (l : ListCheck) → Listing profile items p (at + 1) l → (r : Result ValueCheck Fault) → r ≡ list_value profile p l → Valuing profile class p at r
    held l h r e = subst (Valuing profile class p at) (sym e) (list_valuing l h)

pub held_fault : (profile : Profile) (p : List ℕ) (at : ℕ) → byte_at p at ≡ 108 → (f : Fault) → list_at profile sublist_levels p (at + 1) ≡ Err f → value_at profile list_levels p at ≡ Err f
held_fault profile p at b f e = sym (value_list profile list_levels sublist_levels p at refl b) ∙ e

module _ (profile : Profile) (class : Class) (p : List ℕ) (at : ℕ) (b : byte_at p at ≡ 108) (l : ListCheck) (r : Result ValueCheck Fault) (e : r ≡ list_value profile p l) where
  pub held_texts : class ≡ Class.TextList → Listing profile Items.Texts p (at + 1) l → Valuing profile class p at r
  unfolding formatted
  held_texts k h = held profile class p at Items.Texts (λ end. rw k refl) b l h r e

  pub held_ids : class ≡ Class.IdList → Listing profile Items.Ids p (at + 1) l → Valuing profile class p at r
  unfolding formatted
  held_ids k h = held profile class p at Items.Ids (λ end. rw k refl) b l h r e

  pub held_torrents : class ≡ Class.TorrentList → Listing profile Items.Torrents p (at + 1) l → Valuing profile class p at r
  unfolding formatted
  held_torrents k h = held profile class p at Items.Torrents (λ end. rw k refl) b l h r e

-- ---- the ways through
module _ (profile : Profile) (p : List ℕ) (k at : ℕ) where
  pub keyed_fault : (f : Fault) → value_at profile list_levels p at ≡ Err f → Err (Refusal.Payload f) ≡ keyed_reading profile p k at
  unfolding keyed_reading
  keyed_fault f e = rw e refl

  pub keyed_value : (end : ℕ) → value_at profile list_levels p at ≡ Ok end → (w : Walk) → whole p (list_at profile list_levels p end) ≡ w → rest_reading p k at end w ≡ keyed_reading profile p k at
  unfolding keyed_reading
  keyed_value end e w r = rw (e, r) refl

-- ---- and it comes to the same
module _ (profile : Profile) (p : List ℕ) (l : byte_at p 0 ≡ 108) (start at : ℕ) (text : string_at p 1 ≡ Ok (text_of start at)) (b : byte_at p at ≡ 101 → ⊥) where
  pub keyed_listed : keyed_reading profile p (key_number (slice p start at)) at ≡ payload_reading profile p
  unfolding keyed_reading
  keyed_listed = go (value_at profile list_levels p at) refl
    where
      rest : (end : ℕ) → value_at profile list_levels p at ≡ Ok end → (w : Walk) → whole p (list_at profile list_levels p end) ≡ w → rest_reading p (key_number (slice p start at)) at end w ≡ payload_reading profile p
      rest end e (Ok last) r =
          message_keyed p start at text end (sym (value_item profile list_levels p at end b e))
          ∙ payload_list profile p last (second_walked profile p l start at text b end e ∙ r) (λ d. omega (arith, l, d)) l
      rest end e (Err f) r = payload_fault profile p f (second_walked profile p l start at text b end e ∙ r)

      go : (w : Walk) → value_at profile list_levels p at ≡ w → value_reading profile p (key_number (slice p start at)) at w ≡ payload_reading profile p
      go (Ok end) e = rest end e (whole p (list_at profile list_levels p end)) refl
      go (Err f) e = payload_fault profile p f (second_fault profile p l start at text b f e)
