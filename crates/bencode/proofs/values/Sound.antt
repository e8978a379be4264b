-- What the walker accepts is the encoding of a well-formed value.
-- Assumes nothing.
use Prim.Native.Nat.{ℕ, zero, suc, ◌+◌, ◌-◌, ◌*◌, ◌^◌, ◌<◌}
use mathlib.Core.Path.{◌≡◌, refl, sym, ap, subst, ◌∙◌}
use mathlib.Core.Bool.{Bool, true, false, cond}
use mathlib.Core.List.{List, [], ◌∷◌, ◌++◌, append_assoc}
use native.Mathlib.Omega.{arith}
use native.Mathlib.Decide.{ℕ_discrete}
use borrow.Author.Tests.{eqb-true, le-leb}
use lib.Dec.{eqb}
use lib.IntN.{ℤ, pos, neg_ℤ}
use lib.Signed.{mag}
use lib.ListN.{length, drop, length-drop}
use lib.Seq.{drop-cons, length-take-le}
use Rattle.bencode.specs.declared.fault.Fault.{Fault}
use Rattle.octets.specs.declared.numerals.Decimal.{Decimal}
use Rattle.bencode.specs.declared.strings.Text.{Text}
use Rattle.bencode.specs.declared.integers.Number.{Number}
use Rattle.bencode.specs.declared.profile.Profile.{Profile}
use Rattle.octets.specs.Bytes.{byte_at, slice, Begins}
use Rattle.octets.specs.Numerals.{is_digit, digits, numeral_at, decimal}
use Rattle.bencode.specs.Fault.{fault, Walk}
use Rattle.bencode.specs.Strings.{string_at, text_end, text_of}
use Rattle.bencode.specs.Integers.{integer_at, number_end, number_of}
use Rattle.bencode.specs.Loop.{done, after_step, repeat}
use Rattle.bencode.specs.Key.{key_fault}
use Rattle.bencode.specs.Scalar.{scalar_at}
use Rattle.bencode.specs.Walk.{onward, list_step, list_from, entry_step, dictionary_step, dictionary_from, value_at, keyed}
use Rattle.bencode.specs.Value.{Value, integer, string, list, dictionary, Values, no_value, value, Entries, no_entry, entry, signed_decimal, encode_string, encode, encode_all, encode_entries, All, AllEntries, WellFormed}
use Rattle.octets.proofs.digits.NumeralLaws.{inside, numeral_zero, numeral_digits}
use Rattle.bencode.proofs.walking.Ends.{string_whole_inv, numeral_low, numeral_high, WholeInteger, SignedInteger, plus, minus, integer_inv}
use Rattle.octets.proofs.digits.DecimalLaws.{decimal_small, spelt, digits_is}
use Rattle.octets.proofs.sequences.BeginsLaws.{begins_byte, begins_join, begins_slice, begins_head}
use Rattle.std.specs.Prelude.{Ok, Err, Result, Option, Some, None}
use Rattle.bencode.specs.declared.fault.Cause.{Cause}

-- the digits of a negative number
pub neg_text : (n : ℕ) → (n ≡ 0 → ⊥) → signed_decimal (neg_ℤ (pos n)) ≡ 45 ∷ decimal n
neg_text zero h = absurd (h refl)
neg_text (suc n) h = refl

module _ (s : List ℕ) where
  -- ---- numerals
  numeral_begins : (at : ℕ) → ((numeral_at s at).end ≡ at → ⊥) → Begins s at (decimal (numeral_at s at).number) (numeral_at s at).end
  numeral_begins at some = go (ℕ_discrete (byte_at s at) 48)
    where
      nonzero : (byte_at s at ≡ 48 → ⊥) → Begins s at (decimal (numeral_at s at).number) (numeral_at s at).end
      nonzero h =
          let low = numeral_low s at some in
          let high = numeral_high s at some in
          let split = drop-cons s at 0 (inside s at (omega arith)) in
          let acc : 0 * 10 + (byte_at s at - 48) ≡ byte_at s at - 48 = omega arith in
          let digit : is_digit (byte_at s at) ≡ true = rw (le-leb 48 (byte_at s at) low, le-leb (byte_at s at) 57 high) refl in
          let first : numeral_at s at ≡ digits (byte_at s at - 48) (at + 1) (drop (suc at) s) = numeral_digits s at h ∙ ap (digits 0 at) split ∙ digits_is 0 at (byte_at s at) (drop (suc at) s) digit ∙ ap (λ (k : ℕ). digits k (at + 1) (drop (suc at) s)) acc in
          let r = spelt (byte_at s at - 48) (at + 1) (drop (suc at) s) (omega arith) in
          let back : 48 + (byte_at s at - 48) ≡ byte_at s at = omega arith in
          let text : decimal (numeral_at s at).number ≡ byte_at s at ∷ r.shown = ap (λ (d : Decimal). decimal d.number) first ∙ r.spells ∙ ap (λ (l : List ℕ). l ++ r.shown) (decimal_small (byte_at s at - 48) (omega arith) ∙ ap (λ (k : ℕ). k ∷ []) back) in
          record {
            rest = r.rest;
            is = split ∙ ap (λ (l : List ℕ). byte_at s at ∷ l) r.splits ∙ ap (λ (l : List ℕ). l ++ r.rest) (sym text);
            ends = omega (arith, ap (λ (d : Decimal). d.end) first, r.ends, ap length text);
          }

      go : Dec (byte_at s at ≡ 48) → Begins s at (decimal (numeral_at s at).number) (numeral_at s at).end
      go (yes e) = rw (numeral_zero s at e, decimal_small 0 (omega arith)) (begins_byte s at 48 e (omega arith))
      go (no h) = nonzero h

  -- ---- strings and integers
  string_begins : (at start end : ℕ) → string_at s at ≡ Ok (text_of start end) → Begins s at (encode_string (slice s start end)) end
  string_begins at start end e =
      let w = string_whole_inv s at start end e in
      let n : (numeral_at s at).number ≡ length (slice s start end) = omega (arith, w.number, w.ordered, w.within, length-take-le (end - start) (drop start s) (omega (arith, length-drop start s, w.within))) in
      begins_join s at (numeral_at s at).end end (decimal (length (slice s start end))) (58 ∷ slice s start end)
      (subst (λ (k : ℕ). Begins s at (decimal k) (numeral_at s at).end) n (numeral_begins at w.some))
      (begins_join s (numeral_at s at).end start end (58 ∷ []) (slice s start end)
      (subst (λ (k : ℕ). Begins s (numeral_at s at).end (58 ∷ []) k) w.numeral_end (begins_byte s (numeral_at s at).end 58 w.colon (omega arith)))
      (begins_slice s start end w.ordered w.within))

  -- an integer's digits and its `e`
  digits_begin : (from : ℕ) (negative : Bool) (z : ℤ) (end : ℕ) → WholeInteger s from negative z end → Begins s from (decimal (numeral_at s from).number ++ (101 ∷ [])) end
  digits_begin from negative z end w =
      begins_join s from (numeral_at s from).end end (decimal (numeral_at s from).number) (101 ∷ [])
      (numeral_begins from w.some)
      (subst (λ (k : ℕ). Begins s (numeral_at s from).end (101 ∷ []) k) w.numeral_end (begins_byte s (numeral_at s from).end 101 w.letter (omega arith)))

  integer_begins : (at : ℕ) (z : ℤ) (end : ℕ) → integer_at s at ≡ Ok (number_of z end) → (mag z < 2 ^ 63) × Begins s at (105 ∷ (signed_decimal z ++ (101 ∷ []))) end
  integer_begins at z end e = go (integer_inv s at z end e)
    where
      go : SignedInteger s at z end → (mag z < 2 ^ 63) × Begins s at (105 ∷ (signed_decimal z ++ (101 ∷ []))) end
      go (plus b w) = (
        w.fits,
        subst (λ (k : ℤ). Begins s at (105 ∷ (signed_decimal k ++ (101 ∷ []))) end) w.value
            (begins_join s at (at + 1) end (105 ∷ []) (decimal (numeral_at s (at + 1)).number ++ (101 ∷ [])) (begins_byte s at 105 b (omega arith)) (digits_begin (at + 1) false z end w)),
      )
      go (minus b c d w) =
          let two : at + 1 + 1 ≡ at + 2 = omega arith in
          let n = (numeral_at s (at + 2)).number in
          let some : (numeral_at s (at + 2)).number ≡ 0 → ⊥ = λ q. d (begins_head s (at + 2) 48 (numeral_at s (at + 2)).end [] (subst (λ (l : List ℕ). Begins s (at + 2) l (numeral_at s (at + 2)).end) (ap decimal q ∙ decimal_small 0 (omega arith)) (numeral_begins (at + 2) w.some))) in (
            w.fits,
            subst (λ (k : ℤ). Begins s at (105 ∷ (signed_decimal k ++ (101 ∷ []))) end) w.value
                (rw (neg_text (numeral_at s (at + 2)).number some)
                (begins_join s at (at + 1) end (105 ∷ []) (45 ∷ (decimal (numeral_at s (at + 2)).number ++ (101 ∷ []))) (begins_byte s at 105 b (omega arith))
                (begins_join s (at + 1) (at + 2) end (45 ∷ []) (decimal (numeral_at s (at + 2)).number ++ (101 ∷ [])) (subst (λ (k : ℕ). Begins s (at + 1) (45 ∷ []) k) two (begins_byte s (at + 1) 45 c (omega arith))) (digits_begin (at + 2) true z end w)))),
          )

  -- ---- values, lists and dictionaries
  -- a well-formed value stands from an offset up to another
  abbrev Stands : (Value → Type 0) → ℕ → ℕ → Type 0
  Stands formed at end = (v : Value) × formed v × Begins s at (encode v) end

  module _ (formed : Value → Type 0) (walk : ℕ → Walk) (each : (at end : ℕ) → walk at ≡ Ok end → Stands formed at end) (f : Fault) where
    abbrev ListStands : ℕ → ℕ → Type 0
    ListStands at end = (vs : Values) × All formed vs × Begins s at (encode_all vs ++ (101 ∷ [])) end

    list_sound_lem : (n at end : ℕ) → repeat (list_step walk s) (Err f) n at tt ≡ Ok end → ListStands at end
    unfolding repeat encode
    list_sound_lem zero at end e = let z : ◌≡◌ {A = ℕ} 0 1 = cc in absurd (omega arith)
    list_sound_lem (suc n) at end e = go (eqb (byte_at s at) 101) refl (walk at) refl e (λ to q. list_sound_lem n to end q)
      where
        go : (t : Bool) → eqb (byte_at s at) 101 ≡ t → (w : Walk) → walk at ≡ w → after_step (cond t (done (Ok (at + 1))) (onward w tt)) (λ to y. repeat (list_step walk s) (Err f) n to y) ≡ Ok end → ((to : ℕ) → repeat (list_step walk s) (Err f) n to tt ≡ Ok end → ListStands to end) → ListStands at end
        go true p w x e rec = let i : at + 1 ≡ end = cc in (no_value, tt, subst (λ (k : ℕ). Begins s at (101 ∷ []) k) i (begins_byte s at 101 (eqb-true (byte_at s at) 101 p) (omega arith)))
        go false p (Err g) x e rec = let z : ◌≡◌ {A = ℕ} 0 1 = cc in absurd (omega arith)
        go false p (Ok k) x e rec =
            let v = each at k x in
            let vs = rec k e in
            (value v.0 vs.0, (v.1, vs.1), rw append_assoc (begins_join s at k end (encode v.0) (encode_all vs.0 ++ (101 ∷ [])) v.2 vs.2))

    module _ (p : Profile) where
      abbrev DictionaryStands : List (List ℕ) → ℕ → ℕ → Type 0
      DictionaryStands keys at end = (es : Entries) × AllEntries p formed keys es × Begins s at (encode_entries es ++ (101 ∷ [])) end

      dictionary_sound : (n at : ℕ) (keys : List (List ℕ)) (end : ℕ) → repeat (dictionary_step p walk s) (Err f) n at keys ≡ Ok end → DictionaryStands keys at end
      unfolding repeat encode
      dictionary_sound zero at keys end e = let z : ◌≡◌ {A = ℕ} 0 1 = cc in absurd (omega arith)
      dictionary_sound (suc n) at keys end e = go (eqb (byte_at s at) 101) refl (string_at s at) refl e (λ to ks q. dictionary_sound n to ks end q)
        where
          keyed_sound : (start k : ℕ) → string_at s at ≡ Ok (text_of start k) → (r : Option Cause) → key_fault p keys (slice s start k) ≡ r → (w : Walk) → walk k ≡ w → after_step (keyed r at w (slice s start k ∷ keys)) (λ to y. repeat (dictionary_step p walk s) (Err f) n to y) ≡ Ok end
              → ((to : ℕ) (ks : List (List ℕ)) → repeat (dictionary_step p walk s) (Err f) n to ks ≡ Ok end → DictionaryStands ks to end) → DictionaryStands keys at end
          keyed_sound start k x (Some c) q w y e rec = let z : ◌≡◌ {A = ℕ} 0 1 = cc in absurd (omega arith)
          keyed_sound start k x None q (Err g) y e rec = let z : ◌≡◌ {A = ℕ} 0 1 = cc in absurd (omega arith)
          keyed_sound start k x None q (Ok m) y e rec =
              let v = each k m y in
              let es = rec m (slice s start k ∷ keys) e in (
                entry (slice s start k) v.0 es.0,
                (q, v.1, es.1),
                rw (append_assoc (encode_string (slice s start k)) (encode v.0 ++ encode_entries es.0) (101 ∷ []), append_assoc (encode v.0) (encode_entries es.0) (101 ∷ []))
                    (begins_join s at k end (encode_string (slice s start k)) (encode v.0 ++ (encode_entries es.0 ++ (101 ∷ []))) (string_begins at start k x)
                    (begins_join s k m end (encode v.0) (encode_entries es.0 ++ (101 ∷ [])) v.2 es.2)),
              )

          go : (t : Bool) → eqb (byte_at s at) 101 ≡ t → (w : Result Text Fault) → string_at s at ≡ w → after_step (cond t (done (Ok (at + 1))) (entry_step p walk s at keys w)) (λ to y. repeat (dictionary_step p walk s) (Err f) n to y) ≡ Ok end
              → ((to : ℕ) (ks : List (List ℕ)) → repeat (dictionary_step p walk s) (Err f) n to ks ≡ Ok end → DictionaryStands ks to end) → DictionaryStands keys at end
          go true q w x e rec = let i : at + 1 ≡ end = cc in (no_entry, tt, subst (λ (k : ℕ). Begins s at (101 ∷ []) k) i (begins_byte s at 101 (eqb-true (byte_at s at) 101 q) (omega arith)))
          go false q (Err g) x e rec = let z : ◌≡◌ {A = ℕ} 0 1 = cc in absurd (omega arith)
          go false q (Ok t) x e rec = keyed_sound t.start t.end x (key_fault p keys (slice s t.start t.end)) refl (walk t.end) refl e rec

  scalar_sound : (formed : Value → Type 0) → ((z : ℤ) → mag z < 2 ^ 63 → formed (integer z)) → ((x : List ℕ) → formed (string x)) → (at end : ℕ) → scalar_at s at ≡ Ok end → Stands formed at end
  unfolding scalar_at encode
  scalar_sound formed i x at end e = go (eqb (byte_at s at) 105) (integer_at s at) refl (string_at s at) refl e
    where
      go : (t : Bool) (n : Result Number Fault) → integer_at s at ≡ n → (w : Result Text Fault) → string_at s at ≡ w → cond t (number_end n) (text_end w) ≡ Ok end → Stands formed at end
      go true (Err f) q w r e = let z : ◌≡◌ {A = ℕ} 0 1 = cc in absurd (omega arith)
      go true (Ok n) q w r e = let j : n.end ≡ end = cc in let h = integer_begins at n.value n.end q in (integer n.value, i n.value h.0, subst (λ (m : ℕ). Begins s at (105 ∷ (signed_decimal n.value ++ (101 ∷ []))) m) j h.1)
      go false n q (Err f) r e = let z : ◌≡◌ {A = ℕ} 0 1 = cc in absurd (omega arith)
      go false n q (Ok t) r e = let j : t.end ≡ end = cc in (string (slice s t.start t.end), x (slice s t.start t.end), subst (λ (m : ℕ). Begins s at (encode_string (slice s t.start t.end)) m) j (string_begins at t.start t.end r))

  pub value_sound : (p : Profile) (levels : ℕ) (at end : ℕ) → value_at p levels s at ≡ Ok end → Stands (WellFormed p levels) at end
  unfolding value_at list_from dictionary_from encode
  value_sound p zero at end e = go (eqb (byte_at s at) 108) (eqb (byte_at s at) 100) e
    where
      go : (t u : Bool) → cond t (Err (fault Cause.Depth at)) (cond u (Err (fault Cause.Depth at)) (scalar_at s at)) ≡ Ok end → Stands (WellFormed p zero) at end
      go true u e = let z : ◌≡◌ {A = ℕ} 0 1 = cc in absurd (omega arith)
      go false true e = let z : ◌≡◌ {A = ℕ} 0 1 = cc in absurd (omega arith)
      go false false e = scalar_sound (WellFormed p zero) (λ z h. h) (λ x. tt) at end e
  value_sound p (suc levels) at end e = go (eqb (byte_at s at) 108) refl (eqb (byte_at s at) 100) refl (value_sound p levels) e
    where
      go : (t : Bool) → eqb (byte_at s at) 108 ≡ t → (u : Bool) → eqb (byte_at s at) 100 ≡ u → ((at end : ℕ) → value_at p levels s at ≡ Ok end → Stands (WellFormed p levels) at end) → cond t (list_from (value_at p levels s) s (at + 1)) (cond u (dictionary_from p (value_at p levels s) s (at + 1) []) (scalar_at s at)) ≡ Ok end → Stands (WellFormed p (suc levels)) at end
      go true b u c each e =
          let vs = list_sound_lem (WellFormed p levels) (value_at p levels s) each (fault Cause.Syntax (at + 1)) (suc (length s - (at + 1))) (at + 1) end e in
          (list vs.0, vs.1, begins_join s at (at + 1) end (108 ∷ []) (encode_all vs.0 ++ (101 ∷ [])) (begins_byte s at 108 (eqb-true (byte_at s at) 108 b) (omega arith)) vs.2)
      go false b true c each e =
          let es = dictionary_sound (WellFormed p levels) (value_at p levels s) each (fault Cause.Syntax (at + 1)) p (suc (length s - (at + 1))) (at + 1) [] end e in
          (dictionary es.0, es.1, begins_join s at (at + 1) end (100 ∷ []) (encode_entries es.0 ++ (101 ∷ [])) (begins_byte s at 100 (eqb-true (byte_at s at) 100 c) (omega arith)) es.2)
      go false b false c each e = scalar_sound (WellFormed p (suc levels)) (λ z h. h) (λ x. tt) at end e
