-- The reader on the encoding of a value: IDs, texts, torrents and lists say what the value means.
-- Assumes nothing.
use Prim.Native.Nat.{ℕ, zero, suc, ◌+◌}
use mathlib.Core.Path.{◌≡◌, refl, sym, ap, subst, ◌∙◌}
use mathlib.Core.Bool.{Bool, true, false, cond, ◌&&◌}
use mathlib.Core.List.{List, [], ◌∷◌, ◌++◌}
use native.Mathlib.Omega.{arith}
use lib.IntN.{ℤ, nat_abs}
use lib.ListN.{length}
use Rattle.bencode.specs.declared.profile.Profile.{Profile}
use Rattle.octets.specs.Ascii.{ascii}
use Rattle.octets.specs.Bytes.{byte_at, Begins}
use Rattle.bencode.specs.Integers.{within}
use Rattle.bencode.specs.Skip.{skip_rest}
use Rattle.bencode.specs.Strings.{string_at}
use Rattle.bencode.specs.Value.{Value, integer, string, list, dictionary, Values, no_value, value, encode, encode_all, All, WellFormed, Found, found, missing, lookup, found_integer}
use Rattle.octets.proofs.sequences.BeginsLaws.{begins_left, begins_right, begins_head}
use Rattle.bencode.proofs.values.Encodings.{values_text}
use Rattle.bencode.proofs.Fields.{finds_integer}
use Rattle.bencode.proofs.Lookups.{starts, value_first, entries_begin, reads_integer, reads_string}
use Rattle.ipc.specs.declared.format.Items.{Items}
use Rattle.ipc.specs.Format.{end_of_text, end_by_id, id_end, torrent_end, item_end, items_end}
use Rattle.ipc.specs.Ids.{largest_id, torrent_id_of}
use Rattle.ipc.specs.Meaning.{is_id_value, is_text, is_torrent, every}
use Rattle.ipc.proofs.formats.FormatLaws.{torrent_other, torrent_field, items_last, items_off, items_more}
use Rattle.std.specs.Prelude.{Some, None, Option}

-- the end of what passes a test, and none where it does not
abbrev pub end_if : Bool → ℕ → Option ℕ
end_if t e = cond t (Some e) None

-- which values are items of a list
abbrev pub ok_item : Items → Value → Bool
ok_item Items.Texts v = is_text v
ok_item Items.Ids v = is_id_value v
ok_item Items.Torrents v = is_torrent v

-- ---- torrent IDs
id_meant : (z : ℤ) (e : ℕ) → end_by_id e (torrent_id_of z) ≡ end_if (within 1 largest_id z) e
unfolding torrent_id_of
id_meant z e = go (within 1 largest_id z)
  where
    go : (t : Bool) → end_by_id e (cond t (Some (record { 0 = nat_abs z })) None) ≡ end_if t e
    go true = refl
    go false = refl

found_meant : (e : ℕ) (x : Found) → found_integer None (λ z. end_if (within 1 largest_id z) e) x ≡ end_if (found_integer false (within 1 largest_id) x) e
found_meant e (found (integer z)) = refl
found_meant e (found (string text)) = refl
found_meant e (found (list vs)) = refl
found_meant e (found (dictionary es)) = refl
found_meant e missing = refl

module _ (profile : Profile) (p : List ℕ) where
  -- ---- items
  module _ (at e : ℕ) where
    id_means : (levels : ℕ) (v : Value) → WellFormed profile levels v → Begins p at (encode v) e → id_end p at ≡ end_if (is_id_value v) e
    unfolding id_end
    id_means levels (integer z) h b = rw (reads_integer profile levels (integer z) p at e h b) (id_meant z e)
    id_means levels (string text) h b = rw (reads_integer profile levels (string text) p at e h b).1 refl
    id_means levels (list vs) h b = rw (reads_integer profile levels (list vs) p at e h b).1 refl
    id_means levels (dictionary es) h b = rw (reads_integer profile levels (dictionary es) p at e h b).1 refl

    text_means : (v : Value) → Begins p at (encode v) e → end_of_text (string_at p at) ≡ end_if (is_text v) e
    text_means (integer z) b = rw (reads_string (integer z) p at e b).1 refl
    text_means (string text) b = rw (reads_string (string text) p at e b).0 refl
    text_means (list vs) b = rw (reads_string (list vs) p at e b).1 refl
    text_means (dictionary es) b = rw (reads_string (dictionary es) p at e b).1 refl

  torrent_means : (levels at e : ℕ) (v : Value) → WellFormed profile levels v → Begins p at (encode v) e → torrent_end p at ≡ end_if (is_torrent v) e
  torrent_means levels at e (integer z) h b = sym (torrent_other p at (λ q. omega (arith, starts (integer z) p at e b)))
  torrent_means levels at e (string text) h b = sym (torrent_other p at (λ q. omega (arith, starts (string text) p at e b)))
  torrent_means levels at e (list vs) h b = sym (torrent_other p at (λ q. omega (arith, starts (list vs) p at e b)))
  torrent_means zero at e (dictionary es) h b = absurd h
  torrent_means (suc levels) at e (dictionary es) h b =
      sym (torrent_field p at (starts (dictionary es) p at e b))
      ∙ finds_integer None (λ z end. end_by_id (skip_rest p end) (torrent_id_of z)) (λ z. end_if (within 1 largest_id z) e) p e (λ z to q. rw q (id_meant z e)) profile levels es (at + 1) (ascii "id") h (entries_begin p at e es b)
      ∙ found_meant e (lookup (ascii "id") es)

  item_means : (levels at e : ℕ) (items : Items) (v : Value) → WellFormed profile levels v → Begins p at (encode v) e → item_end items p at ≡ end_if (ok_item items v) e
  unfolding item_end
  item_means levels at e Items.Texts v h b = text_means at e v b
  item_means levels at e Items.Ids v h b = id_means at e levels v h b
  item_means levels at e Items.Torrents v h b = torrent_means levels at e v h b

  -- ---- lists
  pub items_mean : (levels : ℕ) (items : Items) (vs : Values) (at e : ℕ) → All (WellFormed profile levels) vs → Begins p at (encode_all vs ++ (101 ∷ [])) e → items_end items p at ≡ end_if (every (ok_item items) vs) e
  unfolding encode
  items_mean levels items no_value at e h b =
      let last : at + 1 ≡ e = omega (arith, b.ends) in
      sym (items_last items p at (begins_head p at 101 e [] b)) ∙ ap (λ (k : ℕ). Some k) last
  items_mean levels items (value v vs) at e h b =
      let c = subst (λ (l : List ℕ). Begins p at l e) (values_text v vs) b in
      let x = begins_left p at e (encode v) (encode_all vs ++ (101 ∷ [])) c in
      go (ok_item items v) (item_means levels at (at + length (encode v)) items v h.0 x) (value_first p at (at + length (encode v)) v x)
      (items_mean levels items vs (at + length (encode v)) e h.1 (begins_right p at e (encode v) (encode_all vs ++ (101 ∷ [])) c))
    where
      go : (t : Bool) → item_end items p at ≡ end_if t (at + length (encode v)) → (byte_at p at ≡ 101 → ⊥) → items_end items p (at + length (encode v)) ≡ end_if (every (ok_item items) vs) e → items_end items p at ≡ end_if (t && every (ok_item items) vs) e
      go true j no_e rest = sym (items_more items p at no_e (at + length (encode v)) j) ∙ rest
      go false j no_e rest = sym (items_off items p at no_e j)
