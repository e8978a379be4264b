-- Laws of keys as they are read: a string that is a text, or the fault of the one or the other.
-- Assumes nothing.
use Prim.Native.Nat.{ℕ}
use mathlib.Core.Path.{◌≡◌, refl, sym, ◌∙◌}
use mathlib.Core.Bool.{Bool, true, false, cond}
use mathlib.Core.List.{List}
use native.Mathlib.Omega.{arith}
use Rattle.bencode.specs.declared.fault.Fault.{Fault}
use Rattle.bencode.specs.declared.profile.Profile.{Profile}
use Rattle.bencode.specs.declared.strings.Text.{Text}
use Rattle.octets.specs.Bytes.{slice}
use Rattle.bencode.specs.Fault.{fault}
use Rattle.bencode.specs.Strings.{string_at, text_of}
use Rattle.bencode.specs.Utf8.{is_text}
use Rattle.bencode.specs.Key.{compared_fault, key_fault}
use Rattle.bencode.specs.KeySearch.{as_key, key_text_at}
use Rattle.std.specs.Prelude.{Result, Ok, Err, Some}
use Rattle.bencode.proofs.scalars.StringLaws.{same_text}
use Rattle.bencode.specs.declared.fault.Cause.{Cause}

module _ (s : List ℕ) (at : ℕ) where
  -- ---- each way through the reading of a key
  pub key_is_text : (start end : ℕ) → string_at s at ≡ Ok (text_of start end) → is_text (slice s start end) ≡ true → Ok (text_of start end) ≡ key_text_at s at
  unfolding key_text_at
  key_is_text start end e t = rw (e, t) refl

  pub key_no_text : (start end : ℕ) → string_at s at ≡ Ok (text_of start end) → is_text (slice s start end) ≡ false → Err (fault Cause.IllFormedKey at) ≡ key_text_at s at
  unfolding key_text_at
  key_no_text start end e t = rw (e, t) refl

  pub key_no_string : (f : Fault) → string_at s at ≡ Err f → Err f ≡ key_text_at s at
  unfolding key_text_at
  key_no_string f e = rw e refl

  -- ---- what a key that was read says
  pub key_stands : (start end : ℕ) → key_text_at s at ≡ Ok (text_of start end) → (string_at s at ≡ Ok (text_of start end)) × (is_text (slice s start end) ≡ true)
  unfolding key_text_at
  key_stands start end e = go (string_at s at) refl e
    where
      text : (a b : ℕ) → string_at s at ≡ Ok (text_of a b) → (t : Bool) → is_text (slice s a b) ≡ t → cond t (Ok (text_of a b)) (Err (fault Cause.IllFormedKey at)) ≡ Ok (text_of start end) → (string_at s at ≡ Ok (text_of start end)) × (is_text (slice s start end) ≡ true)
      text a b q true h e =
          let both = same_text a b start end e in
          (q ∙ e, rw (sym both.0, sym both.1) h)
      text a b q false h e = let z : ◌≡◌ {A = ℕ} 0 1 = cc in absurd (omega arith)

      go : (w : Result Text Fault) → string_at s at ≡ w → as_key s at w ≡ Ok (text_of start end) → (string_at s at ≡ Ok (text_of start end)) × (is_text (slice s start end) ≡ true)
      go (Ok t) q e = text t.start t.end q (is_text (slice s t.start t.end)) refl e
      go (Err f) q e = let z : ◌≡◌ {A = ℕ} 0 1 = cc in absurd (omega arith)

-- ---- the fault of a key, by whether it is a text
module _ (p : Profile) (keys : List (List ℕ)) (key : List ℕ) where
  pub fault_of_text : is_text key ≡ true → key_fault p keys key ≡ compared_fault p keys key
  unfolding key_fault
  fault_of_text t = rw t refl

  pub fault_of_no_text : is_text key ≡ false → key_fault p keys key ≡ Some Cause.IllFormedKey
  unfolding key_fault
  fault_of_no_text t = rw t refl
