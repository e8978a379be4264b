-- A payload is the encoding of one value only: what stands at an offset decides the value.
-- Assumes nothing.
use Prim.Native.Nat.{ℕ, suc, ◌+◌}
use mathlib.Core.Path.{◌≡◌, refl, sym, ap, subst, ◌∙◌}
use mathlib.Core.List.{List, [], ◌∷◌, ◌++◌, append-nil}
use native.Mathlib.Omega.{arith}
use lib.IntN.{ℤ, pos, negsuc}
use lib.ListN.{length}
use Rattle.octets.specs.declared.numerals.Decimal.{Decimal}
use Rattle.octets.specs.Bytes.{byte_at, slice, Begins}
use Rattle.octets.specs.Numerals.{numeral_at, decimal}
use Rattle.bencode.specs.Value.{Value, integer, string, list, dictionary, Values, no_value, value, Entries, no_entry, entry, signed_decimal, encode_string, encode, encode_all, encode_entries}
use Rattle.bencode.specs.Demands.{OneValue}
use Rattle.octets.proofs.sequences.BeginsLaws.{begins_left, begins_right, begins_head}
use Rattle.bencode.proofs.values.Encodings.{values_text, entries_text}
use Rattle.bencode.proofs.values.FirstBytes.{FirstByte, first_byte, string_first, no_end}
use Rattle.bencode.proofs.values.ScalarReads.{first_digit, numeral_reads, no_digit, string_reads}
use Rattle.bencode.proofs.scalars.StringLaws.{same_text}

module _ (s : List ℕ) where
  -- ---- integers
  number_of : (from e n : ℕ) → Begins s from (decimal n ++ (101 ∷ [])) e → (numeral_at s from).number ≡ n
  number_of from e n b =
      let letter = begins_head s (from + length (decimal n)) 101 e [] (begins_right s from e (decimal n) (101 ∷ []) b) in
      ap (λ (d : Decimal). d.number) (numeral_reads s from n (from + length (decimal n)) (begins_left s from e (decimal n) (101 ∷ []) b) (no_digit s (byte_at s (from + length (decimal n))) (omega arith)))

  one_number : (from e f n m : ℕ) → Begins s from (decimal n ++ (101 ∷ [])) e → Begins s from (decimal m ++ (101 ∷ [])) f → n ≡ m
  one_number from e f n m b c = sym (number_of from e n b) ∙ number_of from f m c

  no_sign : (from e f n : ℕ) (rest : List ℕ) → Begins s from (decimal n ++ (101 ∷ [])) e → Begins s from (45 ∷ rest) f → ⊥
  no_sign from e f n rest b c = omega (arith, (first_digit s from n (from + length (decimal n)) (begins_left s from e (decimal n) (101 ∷ []) b)).low, begins_head s from 45 f rest c)

  one_integer : (at e f : ℕ) (y z : ℤ) → Begins s at (signed_decimal y ++ (101 ∷ [])) e → Begins s at (signed_decimal z ++ (101 ∷ [])) f → y ≡ z
  one_integer at e f (pos n) (pos m) b c = ap pos (one_number at e f n m b c)
  one_integer at e f (pos n) (negsuc m) b c = absurd (no_sign at e f n (decimal (suc m) ++ (101 ∷ [])) b c)
  one_integer at e f (negsuc n) (pos m) b c = absurd (no_sign at f e m (decimal (suc n) ++ (101 ∷ [])) c b)
  one_integer at e f (negsuc n) (negsuc m) b c =
      let i : suc n ≡ suc m = one_number (at + 1) e f (suc n) (suc m) (begins_right s at e (45 ∷ []) (decimal (suc n) ++ (101 ∷ [])) b) (begins_right s at f (45 ∷ []) (decimal (suc m) ++ (101 ∷ [])) c) in
      let j : n ≡ m = omega arith in
      ap negsuc j

  -- ---- strings
  one_string : (at e f : ℕ) (x y : List ℕ) → Begins s at (encode_string x) e → Begins s at (encode_string y) f → x ≡ y
  one_string at e f x y b c =
      let p = string_reads s at e x b in
      let q = string_reads s at f y c in
      let both = same_text p.0 e q.0 f (sym p.1 ∙ q.1) in
      sym p.2 ∙ ap (λ (k : ℕ). slice s k e) both.0 ∙ ap (λ (k : ℕ). slice s q.0 k) both.1 ∙ q.2

  -- ---- values
  mutual
    unfolding encode

    same_value : (v w : Value) (at e f : ℕ) → FirstByte v (byte_at s at) → FirstByte w (byte_at s at) → Begins s at (encode v) e → Begins s at (encode w) f → v ≡ w
    same_value (integer y) (integer z) at e f g h b c =
        ap integer (one_integer (at + 1) e f y z (begins_right s at e (105 ∷ []) (signed_decimal y ++ (101 ∷ [])) b) (begins_right s at f (105 ∷ []) (signed_decimal z ++ (101 ∷ [])) c))
    same_value (string x) (string y) at e f g h b c = ap string (one_string at e f x y b c)
    same_value (list vs) (list ws) at e f g h b c =
        ap list (one_list vs ws (at + 1) e f (begins_right s at e (108 ∷ []) (encode_all vs ++ (101 ∷ [])) b) (begins_right s at f (108 ∷ []) (encode_all ws ++ (101 ∷ [])) c))
    same_value (dictionary es) (dictionary fs) at e f g h b c =
        ap dictionary (one_dictionary es fs (at + 1) e f (begins_right s at e (100 ∷ []) (encode_entries es ++ (101 ∷ [])) b) (begins_right s at f (100 ∷ []) (encode_entries fs ++ (101 ∷ [])) c))
    same_value (integer y) (string x) at e f g h b c = absurd (omega arith)
    same_value (integer y) (list vs) at e f g h b c = absurd (omega arith)
    same_value (integer y) (dictionary es) at e f g h b c = absurd (omega arith)
    same_value (string x) (integer y) at e f g h b c = absurd (omega arith)
    same_value (string x) (list vs) at e f g h b c = absurd (omega arith)
    same_value (string x) (dictionary es) at e f g h b c = absurd (omega arith)
    same_value (list vs) (integer y) at e f g h b c = absurd (omega arith)
    same_value (list vs) (string x) at e f g h b c = absurd (omega arith)
    same_value (list vs) (dictionary es) at e f g h b c = absurd (omega arith)
    same_value (dictionary es) (integer y) at e f g h b c = absurd (omega arith)
    same_value (dictionary es) (string x) at e f g h b c = absurd (omega arith)
    same_value (dictionary es) (list vs) at e f g h b c = absurd (omega arith)

    one_list : (vs ws : Values) (at e f : ℕ) → Begins s at (encode_all vs ++ (101 ∷ [])) e → Begins s at (encode_all ws ++ (101 ∷ [])) f → vs ≡ ws
    one_list no_value no_value at e f b c = refl
    one_list no_value (value w ws) at e f b c =
        absurd (no_end s w (byte_at s at) (first_byte s w at f (encode_all ws ++ (101 ∷ [])) (subst (λ (l : List ℕ). Begins s at l f) (values_text w ws) c)) (begins_head s at 101 e [] b))
    one_list (value v vs) no_value at e f b c =
        absurd (no_end s v (byte_at s at) (first_byte s v at e (encode_all vs ++ (101 ∷ [])) (subst (λ (l : List ℕ). Begins s at l e) (values_text v vs) b)) (begins_head s at 101 f [] c))
    one_list (value v vs) (value w ws) at e f b c =
        let x = subst (λ (l : List ℕ). Begins s at l e) (values_text v vs) b in
        let y = subst (λ (l : List ℕ). Begins s at l f) (values_text w ws) c in
        let i : v ≡ w = same_value v w at (at + length (encode v)) (at + length (encode w)) (first_byte s v at e (encode_all vs ++ (101 ∷ [])) x) (first_byte s w at f (encode_all ws ++ (101 ∷ [])) y) (begins_left s at e (encode v) (encode_all vs ++ (101 ∷ [])) x) (begins_left s at f (encode w) (encode_all ws ++ (101 ∷ [])) y) in
        let z = subst (λ (u : Value). Begins s (at + length (encode u)) (encode_all ws ++ (101 ∷ [])) f) (sym i) (begins_right s at f (encode w) (encode_all ws ++ (101 ∷ [])) y) in
        let j : vs ≡ ws = one_list vs ws (at + length (encode v)) e f (begins_right s at e (encode v) (encode_all vs ++ (101 ∷ [])) x) z in
        ap (λ (u : Value). value u vs) i ∙ ap (value w) j

    one_dictionary : (es fs : Entries) (at e f : ℕ) → Begins s at (encode_entries es ++ (101 ∷ [])) e → Begins s at (encode_entries fs ++ (101 ∷ [])) f → es ≡ fs
    one_dictionary no_entry no_entry at e f b c = refl
    one_dictionary no_entry (entry k w fs) at e f b c =
        let h = string_first s at f k (encode w ++ (encode_entries fs ++ (101 ∷ []))) (subst (λ (l : List ℕ). Begins s at l f) (entries_text k w fs) c) in
        absurd (omega (arith, begins_head s at 101 e [] b))
    one_dictionary (entry k v es) no_entry at e f b c =
        let h = string_first s at e k (encode v ++ (encode_entries es ++ (101 ∷ []))) (subst (λ (l : List ℕ). Begins s at l e) (entries_text k v es) b) in
        absurd (omega (arith, begins_head s at 101 f [] c))
    one_dictionary (entry k v es) (entry l w fs) at e f b c =
        let x = subst (λ (l : List ℕ). Begins s at l e) (entries_text k v es) b in
        let y = subst (λ (l : List ℕ). Begins s at l f) (entries_text l w fs) c in
        let i : k ≡ l = one_string at (at + length (encode_string k)) (at + length (encode_string l)) k l (begins_left s at e (encode_string k) (encode v ++ (encode_entries es ++ (101 ∷ []))) x) (begins_left s at f (encode_string l) (encode w ++ (encode_entries fs ++ (101 ∷ []))) y) in
        let m = at + length (encode_string k) in
        let x2 = begins_right s at e (encode_string k) (encode v ++ (encode_entries es ++ (101 ∷ []))) x in
        let y2 = subst (λ (u : List ℕ). Begins s (at + length (encode_string u)) (encode w ++ (encode_entries fs ++ (101 ∷ []))) f) (sym i) (begins_right s at f (encode_string l) (encode w ++ (encode_entries fs ++ (101 ∷ []))) y) in
        let j : v ≡ w = same_value v w m (m + length (encode v)) (m + length (encode w)) (first_byte s v m e (encode_entries es ++ (101 ∷ [])) x2) (first_byte s w m f (encode_entries fs ++ (101 ∷ [])) y2) (begins_left s m e (encode v) (encode_entries es ++ (101 ∷ [])) x2) (begins_left s m f (encode w) (encode_entries fs ++ (101 ∷ [])) y2) in
        let z = subst (λ (u : Value). Begins s (m + length (encode u)) (encode_entries fs ++ (101 ∷ [])) f) (sym j) (begins_right s m f (encode w) (encode_entries fs ++ (101 ∷ [])) y2) in
        let n : es ≡ fs = one_dictionary es fs (m + length (encode v)) e f (begins_right s m e (encode v) (encode_entries es ++ (101 ∷ [])) x2) z in
        ap (λ (u : List ℕ). entry u v es) i ∙ ap (λ (u : Value). entry l u es) j ∙ ap (entry l w) n

whole_begins : (s x : List ℕ) → s ≡ x → Begins s 0 x (length x)
whole_begins s x e = record { rest = []; is = e ∙ sym (append-nil x); ends = omega arith }

pub one_value : OneValue
one_value v w e =
    let b = whole_begins (encode v) (encode v) refl in
    let c = whole_begins (encode v) (encode w) e in
    same_value (encode v) v w 0 (length (encode v)) (length (encode w)) (first_byte (encode v) v 0 (length (encode v)) [] (rw append-nil b)) (first_byte (encode v) w 0 (length (encode w)) [] (rw append-nil c)) b c
