-- The walker accepts the encoding of every well-formed value.
-- Assumes nothing.
use Prim.Native.Nat.{ℕ, zero, suc, ◌+◌, ◌^◌, ◌<◌}
use mathlib.Core.Path.{◌≡◌, refl, sym, ap, subst, ◌∙◌}
use mathlib.Core.List.{List, [], ◌∷◌, ◌++◌}
use native.Mathlib.Omega.{arith}
use borrow.Author.Tests.{eq-eqb}
use lib.IntN.{ℤ}
use lib.Signed.{mag}
use lib.ListN.{length}
use Rattle.bencode.specs.declared.profile.Profile.{Profile}
use Rattle.octets.specs.Bytes.{byte_at, slice, Begins}
use Rattle.bencode.specs.Key.{key_fault}
use Rattle.bencode.specs.Scalar.{scalar_at}
use Rattle.bencode.specs.Walk.{list_from, dictionary_from, value_at}
use Rattle.bencode.specs.Value.{Value, integer, string, list, dictionary, Values, no_value, value, Entries, no_entry, entry, signed_decimal, encode_string, encode, encode_all, encode_entries, All, AllEntries, WellFormed}
use Rattle.bencode.proofs.walking.Ends.{string_whole_inv, scalar_ends}
use Rattle.bencode.proofs.walking.WalkLaws.{value_scalar, list_end, list_more, dictionary_end, dictionary_more}
use Rattle.bencode.proofs.lookup.SkipLaws.{string_scalar}
use Rattle.octets.proofs.sequences.BeginsLaws.{begins_left, begins_right, begins_head}
use Rattle.bencode.proofs.values.Encodings.{values_text, entries_text}
use Rattle.bencode.proofs.values.ScalarReads.{string_reads, integer_reads}
use Rattle.bencode.specs.Fault.{Walk}
use Rattle.std.specs.Prelude.{Ok, None}

module _ (s : List ℕ) where
  -- the encoding of a well-formed value is walked to its end
  abbrev Reads : (Value → Type 0) → (ℕ → Walk) → Type 0
  Reads formed walk = (v : Value) (at e : ℕ) → formed v → Begins s at (encode v) e → walk at ≡ Ok e

  -- no value begins with `e`
  pub value_no_e : (p : Profile) (levels at e : ℕ) → value_at p levels s at ≡ Ok e → byte_at s at ≡ 101 → ⊥
  value_no_e p levels at e v b = (scalar_ends s at e (value_scalar p levels s at (omega arith) (omega arith) ∙ v)).no_e b

  module _ (p : Profile) (levels : ℕ) (reads : Reads (WellFormed p levels) (value_at p levels s)) where
    pub list_reads : (vs : Values) (at e : ℕ) → All (WellFormed p levels) vs → Begins s at (encode_all vs ++ (101 ∷ [])) e → list_from (value_at p levels s) s at ≡ Ok e
    unfolding encode
    list_reads no_value at e formed b =
        let last : at + 1 ≡ e = omega (arith, b.ends) in
        sym (list_end p levels s at (begins_head s at 101 e [] b)) ∙ ap (λ (k : ℕ). Ok k) last
    list_reads (value v vs) at e formed b =
        let c = subst (λ (l : List ℕ). Begins s at l e) (values_text v vs) b in
        let w = reads v at (at + length (encode v)) formed.0 (begins_left s at e (encode v) (encode_all vs ++ (101 ∷ [])) c) in
        sym (list_more p levels s at (value_no_e p levels at (at + length (encode v)) w) (at + length (encode v)) w)
        ∙ list_reads vs (at + length (encode v)) e formed.1 (begins_right s at e (encode v) (encode_all vs ++ (101 ∷ [])) c)

    pub dictionary_reads : (es : Entries) (at e : ℕ) (keys : List (List ℕ)) → AllEntries p (WellFormed p levels) keys es → Begins s at (encode_entries es ++ (101 ∷ [])) e → dictionary_from p (value_at p levels s) s at keys ≡ Ok e
    unfolding encode
    dictionary_reads no_entry at e keys formed b =
        let last : at + 1 ≡ e = omega (arith, b.ends) in
        sym (dictionary_end p levels s at keys (begins_head s at 101 e [] b)) ∙ ap (λ (k : ℕ). Ok k) last
    dictionary_reads (entry key v es) at e keys formed b =
        let c = subst (λ (l : List ℕ). Begins s at l e) (entries_text key v es) b in
        let m = at + length (encode_string key) in
        let k = string_reads s at m key (begins_left s at e (encode_string key) (encode v ++ (encode_entries es ++ (101 ∷ []))) c) in
        let d = begins_right s at e (encode_string key) (encode v ++ (encode_entries es ++ (101 ∷ []))) c in
        let w = reads v m (m + length (encode v)) formed.1 (begins_left s m e (encode v) (encode_entries es ++ (101 ∷ [])) d) in
        let h = string_whole_inv s at k.0 m k.1 in
        let no_e : byte_at s at ≡ 101 → ⊥ = λ q. omega (arith, h.high) in
        let allowed : key_fault p keys (slice s k.0 m) ≡ None = ap (λ (l : List ℕ). key_fault p keys l) k.2 ∙ formed.0 in
        sym (dictionary_more p levels s at keys no_e k.0 m k.1 allowed (m + length (encode v)) w)
        ∙ ap (λ (l : List ℕ). dictionary_from p (value_at p levels s) s (m + length (encode v)) (l ∷ keys)) k.2
        ∙ dictionary_reads es (m + length (encode v)) e (key ∷ keys) formed.2 (begins_right s m e (encode v) (encode_entries es ++ (101 ∷ [])) d)

  -- strings and integers, whatever the levels
  string_value : (p : Profile) (levels at e : ℕ) (text : List ℕ) → Begins s at (encode_string text) e → value_at p levels s at ≡ Ok e
  string_value p levels at e text b =
      let k = string_reads s at e text b in
      let h = string_whole_inv s at k.0 e k.1 in
      sym (value_scalar p levels s at (λ q. omega (arith, h.high)) (λ q. omega (arith, h.high))) ∙ string_scalar s at k.0 e k.1

  integer_value_lem : (p : Profile) (levels at e : ℕ) (z : ℤ) → mag z < 2 ^ 63 → Begins s at (105 ∷ (signed_decimal z ++ (101 ∷ []))) e → value_at p levels s at ≡ Ok e
  unfolding scalar_at
  integer_value_lem p levels at e z fits b =
      let i : byte_at s at ≡ 105 = begins_head s at 105 e (signed_decimal z ++ (101 ∷ [])) b in
      sym (value_scalar p levels s at (omega arith) (omega arith)) ∙ rw (eq-eqb (byte_at s at) 105 i, integer_reads s at e z fits b) refl

  pub value_reads : (p : Profile) (levels : ℕ) → Reads (WellFormed p levels) (value_at p levels s)
  unfolding encode value_at
  value_reads p zero (integer z) at e formed b = integer_value_lem p zero at e z formed b
  value_reads p zero (string text) at e formed b = string_value p zero at e text b
  value_reads p zero (list vs) at e formed b = absurd formed
  value_reads p zero (dictionary es) at e formed b = absurd formed
  value_reads p (suc levels) (integer z) at e formed b = integer_value_lem p (suc levels) at e z formed b
  value_reads p (suc levels) (string text) at e formed b = string_value p (suc levels) at e text b
  value_reads p (suc levels) (list vs) at e formed b =
      rw (eq-eqb (byte_at s at) 108 (begins_head s at 108 e (encode_all vs ++ (101 ∷ [])) b))
      (list_reads p levels (value_reads p levels) vs (at + 1) e formed (begins_right s at e (108 ∷ []) (encode_all vs ++ (101 ∷ [])) b))
  value_reads p (suc levels) (dictionary es) at e formed b =
      rw (begins_head s at 100 e (encode_entries es ++ (101 ∷ [])) b)
      (dictionary_reads p levels (value_reads p levels) es (at + 1) e [] formed (begins_right s at e (100 ∷ []) (encode_entries es ++ (101 ∷ [])) b))
