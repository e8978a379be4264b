-- Laws of the fields of a handshake: one for each way through their reading.
-- Assumes nothing.
use Prim.Native.Nat.{ℕ}
use mathlib.Core.Path.{◌≡◌, refl}
use mathlib.Core.List.{List}
use lib.IntN.{ℤ}
use mir.Syntax.{w64}
use mir.Val.{SFits}
use Rattle.bencode.specs.declared.field.Field.{Field}
use Rattle.bencode.specs.Field.{field_of, if_integer, integer_in}
use Rattle.bencode.proofs.lookup.FieldLaws.{field_is, integer_other}
use Rattle.bencode.specs.declared.integers.Number.{Number}
use Rattle.octets.specs.Ascii.{ascii}
use Rattle.bencode.proofs.scalars.Ranges.{machine, same}
use Rattle.ipc.specs.Handshake.{range_at, dictionary_versions}
use Rattle.ipc.specs.Versions.{range_of}
use Rattle.std.specs.Prelude.{Some, None}

module _ (p : List ℕ) (at : ℕ) where
  pub range_missing_min : field_of p (ascii "min") at ≡ None → range_at p at ≡ None
  unfolding range_at
  range_missing_min e = rw e refl

  module _ (f : Field) (e : field_of p (ascii "min") at ≡ Some f) where
    pub range_no_min : integer_in f ≡ None → range_at p at ≡ None
    unfolding range_at
    range_no_min h = rw e (integer_other None (λ low x. if_integer None (λ high y. range_of low high) (field_of p (ascii "max") at)) f h)

    module _ (a : Number) (i : integer_in f ≡ Some a) where
      pub range_missing_max : field_of p (ascii "max") at ≡ None → range_at p at ≡ None
      unfolding range_at
      range_missing_max q = rw (e, field_is f a i, q) refl

      module _ (g : Field) (q : field_of p (ascii "max") at ≡ Some g) where
        pub range_no_max : integer_in g ≡ None → range_at p at ≡ None
        unfolding range_at
        range_no_max h = rw (e, field_is f a i, q) (integer_other None (λ high y. range_of a.value high) g h)

        pub range_integers : (b : Number) → integer_in g ≡ Some b → SFits w64 a.value → SFits w64 b.value → range_of (machine a.value) (machine b.value) ≡ range_at p at
        unfolding range_at
        range_integers b j fa fb = rw (same a.value fa, same b.value fb, e, field_is f a i, q, field_is g b j) refl

module _ (p : List ℕ) where
  pub versions_integer : (z : ℤ) (end : ℕ) → field_of p (ascii "version") 1 ≡ Some (Field.Integer z end) → SFits w64 z → range_of (machine z) (machine z) ≡ dictionary_versions p
  unfolding dictionary_versions
  versions_integer z end e f = rw (same z f, e) refl

  pub versions_dictionary : (at : ℕ) → field_of p (ascii "version") 1 ≡ Some (Field.Dictionary at) → range_at p at ≡ dictionary_versions p
  unfolding dictionary_versions
  versions_dictionary at e = rw e refl

  pub versions_text : (start end : ℕ) → field_of p (ascii "version") 1 ≡ Some (Field.Text start end) → None ≡ dictionary_versions p
  unfolding dictionary_versions
  versions_text start end e = rw e refl

  pub versions_list : (at : ℕ) → field_of p (ascii "version") 1 ≡ Some (Field.List at) → None ≡ dictionary_versions p
  unfolding dictionary_versions
  versions_list at e = rw e refl

  pub versions_missing : field_of p (ascii "version") 1 ≡ None → dictionary_versions p ≡ None
  unfolding dictionary_versions
  versions_missing e = rw e refl
