-- Laws of lists that are walked and held to their format in one pass: one for each way through the loops.
-- Assumes nothing.
use Prim.Native.Nat.{ℕ, ◌+◌}
use mathlib.Core.Path.{◌≡◌, refl, sym, ap, ◌∙◌}
use mathlib.Core.Bool.{true}
use mathlib.Core.List.{List}
use native.Mathlib.Omega.{arith}
use native.Mathlib.Decide.{ℕ_discrete}
use Prim.{Dec, yes, no}
use borrow.Author.Tests.{eq-eqb, ne_eqb}
use lib.IntN.{ℤ}
use Rattle.std.specs.Prelude.{Err, Result, Ok}
use Rattle.bencode.specs.declared.fault.Fault.{Fault}
use Rattle.bencode.specs.declared.field.Field.{Field}
use Rattle.bencode.specs.declared.integers.Number.{Number}
use Rattle.bencode.specs.declared.profile.Profile.{Profile}
use Rattle.bencode.specs.declared.records.Noted.{Noted}
use Rattle.octets.specs.Ascii.{ascii}
use Rattle.octets.specs.Bytes.{byte_at}
use Rattle.bencode.specs.Depth.{sublist_levels, record_levels}
use Rattle.bencode.specs.Field.{field_of}
use Rattle.bencode.specs.Integers.{within, integer_at, number_of}
use Rattle.bencode.specs.Loop.{Past}
use Rattle.bencode.specs.Record.{noted_at}
use Rattle.bencode.specs.Runs.{Run, none, more, TextAt, PositiveAt}
use Rattle.bencode.specs.Skip.{skip_rest}
use Rattle.bencode.specs.Walk.{value_at, list_at, dictionary_at}
use Rattle.bencode.proofs.lookup.ListLaws.{after_number}
use Rattle.bencode.proofs.lookup.RunLaws.{text_bytes, text_value_lem, text_no_end, positive_value, positive_no_end}
use Rattle.bencode.proofs.lookup.NotedLaws.{noted_found, noted_fault, entry_integer, entry_rest}
use Rattle.bencode.proofs.scalars.Ranges.{machine, same}
use Rattle.bencode.proofs.walking.Ends.{integer_fits_lem}
use Rattle.bencode.proofs.walking.WalkLaws.{value_ends, value_dictionary, list_end, list_fault_lem, list_more}
use Rattle.ipc.specs.declared.format.Items.{Items}
use Rattle.ipc.specs.declared.lists.ListCheck.{ListCheck}
use Rattle.ipc.specs.Format.{end_of_text, end_by_id, end_of_id, id_end, torrent_end, item_end, items_end}
use Rattle.ipc.specs.Ids.{largest_id, torrent_id_of}
use Rattle.ipc.specs.Lists.{has_id, is_id, closed_at, Listing, ListingOrFault}
use Rattle.ipc.proofs.formats.FormatLaws.{items_last, items_more, torrent_field}
use Rattle.ipc.specs.declared.ids.TorrentId.{TorrentId}
use Rattle.std.specs.Prelude.{Option, Some, None}
use Rattle.bencode.specs.Fault.{Walk}

-- the list from an offset on comes to the same as from another: as it is walked, and as it is held to its format
abbrev pub Goes : Profile → Items → List ℕ → ℕ → ℕ → Type 0
Goes profile items p from at = (list_at profile sublist_levels p at ≡ list_at profile sublist_levels p from) × (items_end items p at ≡ items_end items p from)

-- an item that is sound and in its format
abbrev pub Fits : Profile → Items → List ℕ → ℕ → ℕ → Type 0
Fits profile items p at end = (value_at profile sublist_levels p at ≡ Ok end) × (item_end items p at ≡ Some end)

pub item_past : (profile : Profile) (p : List ℕ) (at end : ℕ) → value_at profile sublist_levels p at ≡ Ok end → Past p at end
item_past profile p at end e = value_ends profile sublist_levels p at end e

-- ---- the ways of a loop, which has come from one offset to another
module _ (profile : Profile) (items : Items) (p : List ℕ) (from at : ℕ) (goes : Goes profile items p from at) where
  pub listing_end : byte_at p at ≡ 101 → Listing profile items p from (ListCheck.Fits (at + 1))
  listing_end b = (sym goes.0 ∙ sym (list_end profile sublist_levels p at b), sym goes.1 ∙ sym (items_last items p at b))

  module _ (b : byte_at p at ≡ 101 → ⊥) where
    pub listing_on : (end : ℕ) → Fits profile items p at end → Goes profile items p from end
    listing_on end f = (list_more profile sublist_levels p at b end f.0 ∙ goes.0, items_more items p at b end f.1 ∙ goes.1)

    pub listing_off : (end : ℕ) → value_at profile sublist_levels p at ≡ Ok end → Listing profile items p from (ListCheck.Off end)
    listing_off end v = list_more profile sublist_levels p at b end v ∙ goes.0

    pub listing_fault : (f : Fault) → value_at profile sublist_levels p at ≡ Err f → ListingOrFault profile items p from (Err f)
    listing_fault f v = sym goes.0 ∙ sym (list_fault_lem profile sublist_levels p at b f v)

-- ---- strings and torrent IDs, by the offset after them
-- a number in the range is a torrent ID
id_end_lem : (z : ℤ) (end : ℕ) → within 1 largest_id z ≡ true → end_by_id end (torrent_id_of z) ≡ Some end
unfolding torrent_id_of
id_end_lem z end w = rw w refl

module _ (profile : Profile) (p : List ℕ) (at end : ℕ) where
  text_fits : TextAt p at end → Fits profile Items.Texts p at end
  unfolding item_end
  text_fits e = (text_value_lem p profile sublist_levels at end e, ap end_of_text (text_bytes p at end e).1)

  id_fits_lem : PositiveAt largest_id p at end → Fits profile Items.Ids p at end
  unfolding item_end id_end
  id_fits_lem e =
      let n = after_number p at end largest_id e in
      (positive_value largest_id p profile sublist_levels at end e, ap end_of_id n.1 ∙ id_end_lem n.0 end n.2)

-- items that stand one after another are passed one by one, and what stands after them decides
module _ (profile : Profile) (items : Items) (p : List ℕ) (item : ℕ → ℕ → Type 0) (no_end : (at end : ℕ) → item at end → byte_at p at ≡ 101 → ⊥) (fits : (at end : ℕ) → item at end → Fits profile items p at end) (from : ℕ) where
  run_goes : (at : ℕ) → Run item from at → Goes profile items p from at
  run_goes at none = (refl, refl)
  run_goes end (more at _ run e) = listing_on profile items p from at (run_goes at run) (no_end at end e) end (fits at end e)

  run_listing : (at : ℕ) → Run item from at → Listing profile items p from (closed_at p at)
  run_listing at run = go (ℕ_discrete (byte_at p at) 101)
    where
      go : Dec (byte_at p at ≡ 101) → Listing profile items p from (closed_at p at)
      go (yes b) = rw (eq-eqb (byte_at p at) 101 b) (listing_end profile items p from at (run_goes at run) b)
      go (no b) = rw (ne_eqb (byte_at p at) 101 b) (run_goes at run).0

module _ (profile : Profile) (p : List ℕ) (from at : ℕ) where
  pub text_listing : Run (TextAt p) from at → Listing profile Items.Texts p from (closed_at p at)
  text_listing run = run_listing profile Items.Texts p (TextAt p) (text_no_end p) (text_fits profile p) from at run

  pub id_listing : Run (PositiveAt largest_id p) from at → Listing profile Items.Ids p from (closed_at p at)
  id_listing run = run_listing profile Items.Ids p (PositiveAt largest_id p) (positive_no_end largest_id p) (id_fits_lem profile p) from at run

-- ---- torrents
-- whether a number is a torrent ID, as the machine has it
pub id_number : (p : List ℕ) (at : ℕ) (z : ℤ) (end : ℕ) → integer_at p at ≡ Ok (number_of z end) → (i : Option TorrentId) → i ≡ torrent_id_of (machine z) → has_id i ≡ is_id (integer_at p at)
id_number p at z end e i q = rw (q, same z (integer_fits_lem p at z end e), e) refl

module _ (profile : Profile) (p : List ℕ) (at : ℕ) (b : byte_at p at ≡ 100) where
  record_value : (w : Walk) → dictionary_at profile record_levels p (at + 1) ≡ w → value_at profile sublist_levels p at ≡ w
  record_value w e = sym (value_dictionary profile sublist_levels record_levels p at refl b) ∙ e

  pub torrent_fault : (f : Fault) → noted_at profile p (ascii "id") (at + 1) ≡ Err f → value_at profile sublist_levels p at ≡ Err f
  torrent_fault f e = record_value (Err f) (noted_fault profile p (ascii "id") (at + 1) f e)

  module _ (n : Noted) (e : noted_at profile p (ascii "id") (at + 1) ≡ Ok n) where
    pub torrent_found : value_at profile sublist_levels p at ≡ Ok n.end
    torrent_found = record_value (Ok n.end) (noted_found profile p (ascii "id") (at + 1) n e).0

    -- a dictionary whose `id` is a torrent ID is a torrent
    pub torrent_fits : (v : ℕ) → n.value ≡ Some v → is_id (integer_at p v) ≡ true → Fits profile Items.Torrents p at n.end
    unfolding item_end
    torrent_fits v held h = (torrent_found, number (integer_at p v) refl h)
      where
        by_id : (z : ℤ) (k : ℕ) → integer_at p v ≡ Ok (number_of z k) → (i : Option TorrentId) → torrent_id_of z ≡ i → has_id i ≡ true → torrent_end p at ≡ Some n.end
        by_id z k q (Some id) r h =
            let noted = noted_found profile p (ascii "id") (at + 1) n e in
            let field : field_of p (ascii "id") (at + 1) ≡ Some (Field.Integer z k) = entry_integer profile record_levels p (ascii "id") (at + 1) n.end v noted.0 (noted.1 ∙ held) z k q in
            let rest : skip_rest p k ≡ n.end = entry_rest profile record_levels p (ascii "id") (at + 1) n.end v noted.0 (noted.1 ∙ held) z k q in
            sym (torrent_field p at b) ∙ rw (field, r, rest) refl
        by_id z k q None r h = let n : ◌≡◌ {A = ℕ} 0 1 = cc in absurd (omega arith)

        number : (m : Result Number Fault) → integer_at p v ≡ m → is_id m ≡ true → torrent_end p at ≡ Some n.end
        number (Ok m) q h = by_id m.value m.end q (torrent_id_of m.value) refl h
        number (Err f) q h = let n : ◌≡◌ {A = ℕ} 0 1 = cc in absurd (omega arith)
