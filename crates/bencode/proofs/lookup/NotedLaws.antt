-- Laws of a dictionary that was walked while a key was looked for: its walk, and what stands at the key.
-- Assumes nothing.
use Prim.Native.Nat.{ℕ, zero, suc, ◌+◌, ◌-◌}
use mathlib.Core.Path.{◌≡◌, refl, sym, ap, ◌∙◌}
use mathlib.Core.Bool.{Bool, true, false, cond}
use mathlib.Core.List.{List, [], ◌∷◌}
use native.Mathlib.Omega.{arith}
use borrow.Author.Tests.{eqb-true}
use lib.Dec.{eqb}
use lib.IntN.{ℤ}
use lib.ListN.{length}
use Rattle.bencode.specs.declared.fault.Fault.{Fault}
use Rattle.bencode.specs.declared.field.Field.{Field}
use Rattle.bencode.specs.declared.profile.Profile.{Profile}
use Rattle.bencode.specs.declared.records.Noted.{Noted}
use Rattle.bencode.specs.declared.strings.Text.{Text}
use Rattle.octets.specs.Bytes.{byte_at, slice, same}
use Rattle.bencode.specs.Depth.{record_levels}
use Rattle.bencode.specs.Entry.{entry_at}
use Rattle.bencode.specs.Fault.{fault, Walk}
use Rattle.bencode.specs.Field.{number_field, field_of}
use Rattle.bencode.specs.Integers.{integer_at, number_of}
use Rattle.bencode.specs.Key.{key_fault}
use Rattle.bencode.specs.Loop.{done, after_step, repeat}
use Rattle.bencode.specs.Record.{noted_of, noted_at}
use Rattle.bencode.specs.Skip.{skip_value, skip_rest}
use Rattle.bencode.specs.Strings.{string_at, text_of}
use Rattle.bencode.specs.Walk.{entry_step, dictionary_step, dictionary_from, dictionary_at, value_at, keyed}
use Rattle.bencode.proofs.values.FirstBytes.{no_string}
use Rattle.bencode.proofs.lookup.EntryLaws.{find_none, find_here, find_more}
use Rattle.bencode.proofs.lookup.FieldLaws.{field_integer, field_entry}
use Rattle.bencode.proofs.lookup.ListLaws.{integer_first, integer_value_lem}
use Rattle.bencode.proofs.lookup.SkipLaws.{Skips, dictionary_skips, value_skips}
use Rattle.std.specs.Prelude.{Ok, Err, Result, Option, Some, None}
use Rattle.bencode.specs.declared.fault.Cause.{Cause}

-- ---- what was noted
module _ (p : Profile) (s key : List ℕ) (from : ℕ) where
  pub noted_found : (n : Noted) → noted_at p s key from ≡ Ok n → (dictionary_at p record_levels s from ≡ Ok n.end) × (entry_at s key from ≡ n.value)
  unfolding noted_at
  noted_found n e = go (dictionary_at p record_levels s from) refl e
    where
      go : (w : Walk) → dictionary_at p record_levels s from ≡ w → noted_of w (entry_at s key from) ≡ Ok n → (dictionary_at p record_levels s from ≡ Ok n.end) × (entry_at s key from ≡ n.value)
      go (Ok k) q e =
          let i : record { end = k; value = entry_at s key from } ≡ n = cc in
          (q ∙ ap (λ (m : Noted). Ok m.end) i, ap (λ (m : Noted). m.value) i)
      go (Err f) q e = cc

  pub noted_fault : (f : Fault) → noted_at p s key from ≡ Err f → dictionary_at p record_levels s from ≡ Err f
  unfolding noted_at
  noted_fault f e = go (dictionary_at p record_levels s from) refl e
    where
      go : (w : Walk) → dictionary_at p record_levels s from ≡ w → noted_of w (entry_at s key from) ≡ Err f → dictionary_at p record_levels s from ≡ Err f
      go (Ok k) q e = cc
      go (Err g) q e = cc

-- ---- the value of a key in a walked dictionary was walked, and the rest of the dictionary is skipped to its end
abbrev Stands : List ℕ → (ℕ → Walk) → ℕ → ℕ → Type 0
Stands s value end v = (e : ℕ) × (value v ≡ Ok e) × (skip_rest s e ≡ end)

module _ (s : List ℕ) (value : ℕ → Walk) (skips : Skips s value) (p : Profile) (f : Fault) (key : List ℕ) (end v : ℕ) where
  entry_stands : (n at : ℕ) (keys : List (List ℕ)) → repeat (dictionary_step p value s) (Err f) n at keys ≡ Ok end → entry_at s key at ≡ Some v → Stands s value end v
  unfolding repeat
  entry_stands zero at keys e x = let z : ◌≡◌ {A = ℕ} 0 1 = cc in absurd (omega arith)
  entry_stands (suc n) at keys e x = go (eqb (byte_at s at) 101) refl (string_at s at) refl e (λ to ks q y. entry_stands n to ks q y)
    where
      compared : (start k m : ℕ) (ks : List (List ℕ)) → string_at s at ≡ Ok (text_of start k) → value k ≡ Ok m → repeat (dictionary_step p value s) (Err f) n m ks ≡ Ok end
          → ((to : ℕ) (ks : List (List ℕ)) → repeat (dictionary_step p value s) (Err f) n to ks ≡ Ok end → entry_at s key to ≡ Some v → Stands s value end v)
          → (t : Bool) → same (slice s start k) key ≡ t → Stands s value end v
      compared start k m ks q y e rec true h =
          let here : Some k ≡ Some v = find_here s key at start k q h ∙ x in
          let i : k ≡ v = cc in
          (m, ap value (sym i) ∙ y, dictionary_skips s value skips f p n m ks end e 0)
      compared start k m ks q y e rec false h =
          let past : skip_value s k ≡ m = skips k m y 0 in
          rec m ks e (ap (entry_at s key) (sym past) ∙ find_more s key at start k q h ∙ x)

      keyed_stands : (r : Option Cause) (start k : ℕ) (ks : List (List ℕ)) → string_at s at ≡ Ok (text_of start k) → (w : Walk) → value k ≡ w → after_step (keyed r at w ks) (λ to y. repeat (dictionary_step p value s) (Err f) n to y) ≡ Ok end
          → ((to : ℕ) (ks : List (List ℕ)) → repeat (dictionary_step p value s) (Err f) n to ks ≡ Ok end → entry_at s key to ≡ Some v → Stands s value end v)
          → Stands s value end v
      keyed_stands (Some c) start k ks q w y e rec = let z : ◌≡◌ {A = ℕ} 0 1 = cc in absurd (omega arith)
      keyed_stands None start k ks q (Err g) y e rec = let z : ◌≡◌ {A = ℕ} 0 1 = cc in absurd (omega arith)
      keyed_stands None start k ks q (Ok m) y e rec = compared start k m ks q y e rec (same (slice s start k) key) refl

      go : (t : Bool) → eqb (byte_at s at) 101 ≡ t → (w : Result Text Fault) → string_at s at ≡ w → after_step (cond t (done (Ok (at + 1))) (entry_step p value s at keys w)) (λ to y. repeat (dictionary_step p value s) (Err f) n to y) ≡ Ok end
          → ((to : ℕ) (ks : List (List ℕ)) → repeat (dictionary_step p value s) (Err f) n to ks ≡ Ok end → entry_at s key to ≡ Some v → Stands s value end v)
          → Stands s value end v
      go true b w q e rec =
          let none = no_string s at (omega (arith, eqb-true (byte_at s at) 101 b)) in
          let missing : None ≡ Some v = find_none s key at none.0 none.1 ∙ x in
          let z : ◌≡◌ {A = ℕ} 0 1 = cc in
          absurd (omega arith)
      go false b (Err g) q e rec = let z : ◌≡◌ {A = ℕ} 0 1 = cc in absurd (omega arith)
      go false b (Ok t) q e rec = keyed_stands (key_fault p keys (slice s t.start t.end)) t.start t.end (slice s t.start t.end ∷ keys) q (value t.end) refl e rec

module _ (p : Profile) (levels : ℕ) (s key : List ℕ) (from end v : ℕ) (walked : dictionary_at p levels s from ≡ Ok end) (is : entry_at s key from ≡ Some v) where
  value_stands : Stands s (value_at p levels s) end v
  unfolding dictionary_from
  value_stands = entry_stands s (value_at p levels s) (value_skips s p levels) p (fault Cause.Syntax from) key end v (suc (length s - from)) from [] walked is

  -- an integer there is the field of the key, and the dictionary ends where skipping on from it does
  module _ (z : ℤ) (e : ℕ) (number : integer_at s v ≡ Ok (number_of z e)) where
    pub entry_integer : field_of s key from ≡ Some (Field.Integer z e)
    entry_integer = field_entry s key from (Some v) is ∙ field_integer s v (integer_first s v z e number) ∙ ap number_field number

    pub entry_rest : skip_rest s e ≡ end
    entry_rest =
        let stands = value_stands in
        let same_end : Ok stands.0 ≡ Ok e = sym stands.1 ∙ integer_value_lem p levels s v z e number in
        let i : stands.0 ≡ e = cc in
        ap (skip_rest s) (sym i) ∙ stands.2
