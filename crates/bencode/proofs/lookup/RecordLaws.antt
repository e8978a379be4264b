-- Laws of a dictionary that is walked while the value of a key is noted.
-- Assumes nothing.
use Prim.Native.Nat.{ℕ, ◌+◌}
use mathlib.Core.Path.{◌≡◌, refl, sym, ap, ◌∙◌}
use mathlib.Core.Bool.{Bool, true, false}
use mathlib.Core.List.{List}
use native.Mathlib.Omega.{arith}
use Rattle.bencode.specs.declared.fault.Fault.{Fault}
use Rattle.bencode.specs.declared.profile.Profile.{Profile}
use Rattle.bencode.specs.declared.records.Noted.{Noted}
use Rattle.octets.specs.Bytes.{byte_at, slice, same}
use Rattle.bencode.specs.Entry.{entry_at}
use Rattle.bencode.specs.Record.{found_after, noted_of}
use Rattle.bencode.specs.Strings.{string_at, text_of}
use Rattle.bencode.specs.Walk.{value_at, dictionary_at}
use Rattle.bencode.proofs.values.FirstBytes.{no_string}
use Rattle.bencode.proofs.lookup.EntryLaws.{find_none, find_here, find_more}
use Rattle.bencode.proofs.lookup.SkipLaws.{value_skips}
use Rattle.bencode.specs.Fault.{Walk}
use Rattle.std.specs.Prelude.{Ok, Err, Option, Some, None}

-- a search that has passed the entries up to an offset: it found the key's value, or goes on there
abbrev pub Looked : List ℕ → List ℕ → ℕ → ℕ → Option ℕ → Type 0
Looked s key from at None = entry_at s key from ≡ entry_at s key at
Looked s key from at (Some found) = entry_at s key from ≡ Some found

module _ (p : Profile) (levels : ℕ) (s key : List ℕ) (from at : ℕ) (found : Option ℕ) (looked : Looked s key from at found) where
  -- past one entry more
  pub looked_more : (start end to : ℕ) → string_at s at ≡ Ok (text_of start end) → value_at p levels s end ≡ Ok to → Looked s key from to (found_after found (same (slice s start end) key) end)
  looked_more start end to text v = go found looked (same (slice s start end) key) refl
    where
      go : (found : Option ℕ) → Looked s key from at found → (t : Bool) → same (slice s start end) key ≡ t → Looked s key from to (found_after found t end)
      go None looked true q = looked ∙ sym (find_here s key at start end text q)
      go None looked false q = looked ∙ sym (find_more s key at start end text q) ∙ ap (entry_at s key) (value_skips s p levels end to v 0)
      go (Some found) looked t q = looked

  -- at the dictionary's end
  pub noted_end : byte_at s at ≡ 101 → Ok (at + 1) ≡ dictionary_at p levels s from → Ok (record { end = at + 1; value = found }) ≡ noted_of (dictionary_at p levels s from) (entry_at s key from)
  noted_end b e = ap (noted_of (Ok (at + 1))) (go found looked) ∙ ap (λ (w : Walk). noted_of w (entry_at s key from)) e
    where
      go : (found : Option ℕ) → Looked s key from at found → found ≡ entry_at s key from
      go None looked = let none = no_string s at (omega (arith, b)) in find_none s key at none.0 none.1 ∙ sym looked
      go (Some found) looked = sym looked

pub noted_fault : (w : Walk) (x : Option ℕ) (f : Fault) → Err f ≡ w → Err f ≡ noted_of w x
noted_fault w x f e = ap (λ (v : Walk). noted_of v x) e

-- what was noted takes nothing from the walk
pub noted_ok : (w : Walk) (x : Option ℕ) (n : Noted) → noted_of w x ≡ Ok n → w ≡ Ok n.end
noted_ok (Ok end) x n e = let i : record { end = end; value = x } ≡ n = cc in ap (λ (m : Noted). Ok m.end) i
noted_ok (Err f) x n e = cc

pub noted_err : (w : Walk) (x : Option ℕ) (f : Fault) → noted_of w x ≡ Err f → w ≡ Err f
noted_err (Ok end) x f e = cc
noted_err (Err g) x f e = cc
