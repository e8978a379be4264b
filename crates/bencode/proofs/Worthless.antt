-- Wrong builds fall: a recogniser of texts that differs from ours, one that takes any bytes, one that takes ASCII alone; walks by
-- one loop, five by one payload each, and any whose turns do not end on some payload.
-- Assumes nothing.
use Prim.Native.Nat.{ℕ}
use mathlib.Core.Path.{◌≡◌, refl, sym, ap, subst, ◌∙◌}
use mathlib.Core.Bool.{Bool, true, false, cond}
use mathlib.Core.List.{List, [], ◌∷◌}
use native.Mathlib.Omega.{arith}
use borrow.Author.Tests.{eqb-false}
use lib.Dec.{eqb}
use lib.ListN.{length}
use Rattle.bencode.specs.declared.fault.Fault.{Fault}
use Rattle.bencode.specs.declared.profile.Profile.{Profile}
use Rattle.octets.specs.Ascii.{ascii}
use Rattle.octets.specs.Bytes.{same, less}
use Rattle.octets.specs.Numerals.{numeral_at, digits}
use Rattle.octets.proofs.sequences.Order.{clash}
use Rattle.bencode.specs.Entry.{entry_at}
use Rattle.bencode.specs.Depth.{largest_depth}
use Rattle.bencode.specs.Fault.{cause_code, fault, code_of, Walk}
use Rattle.bencode.specs.Flat.{turn, loop_at}
use Rattle.bencode.specs.Tokens.{value_token, token_at}
use Rattle.bencode.specs.Key.{is_used, is_above, is_fault_code, key_fault}
use Rattle.bencode.specs.KeySearch.{key_text_at, used_at, repeated_at, above_at, key_at}
use Rattle.bencode.specs.Loop.{Past, repeat}
use Rattle.bencode.specs.Marks.{place_of, is_marked, with_mark}
use Rattle.bencode.specs.Scalar.{scalar_at}
use Rattle.bencode.specs.Skip.{skip_from}
use Rattle.bencode.specs.Strings.{string_at}
use Rattle.bencode.specs.Utf8.{text_from, is_text}
use Rattle.bencode.specs.Walk.{list_from, dictionary_from, value_at, whole, payload_at}
use Rattle.bencode.specs.Worthless.{DifferentFalls, AnyBytesFalls, is_ascii, AsciiAloneFalls, RowForgottenFalls, DictionaryAsListFalls, InnerKeysKeptFalls, LevelUncountedFalls, NoneEndsAtZero, EndlessFalls, coded, coded_whole, EndlessCodesFall, EverythingFalls}
use Rattle.bencode.proofs.FaultCodes.{faults_coded, value_untrailed}
use Rattle.bencode.proofs.KeyText.{key_text_lem}
use Rattle.bencode.proofs.walking.WalkLaws.{value_ends}
use Rattle.std.specs.Prelude.{Err, Ok}
use Rattle.bencode.specs.declared.fault.Cause.{Cause}

pub different_falls : DifferentFalls
different_falls recognise key h demand = go (recognise key) refl (is_text key) refl
  where
    go : (t : Bool) → recognise key ≡ t → (u : Bool) → is_text key ≡ u → ⊥
    go true p true q = h (p ∙ sym q)
    go true p false q = clash (is_text key) ((key_text_lem key).1 ((demand key).0 p)) q
    go false p true q = clash (recognise key) ((demand key).1 ((key_text_lem key).0 q)) p
    go false p false q = h (p ∙ sym q)

pub any_bytes_falls : AnyBytesFalls
unfolding text_from
any_bytes_falls demand = different_falls (λ key. true) (0xFF ∷ []) (λ e. clash false (sym e) refl) demand

pub ascii_alone_falls : AsciiAloneFalls
unfolding text_from is_ascii
ascii_alone_falls demand = different_falls is_ascii (0xC2 ∷ 0x80 ∷ []) (λ e. clash false e refl) demand

-- ---- walks by one loop
-- two walks with different codes differ
codes_differ : {v w : Walk} → eqb (code_of v) (code_of w) ≡ false → v ≡ w → ⊥
codes_differ {v} {w} h e = eqb-false (code_of v) (code_of w) h (ap code_of e)

pub row_forgotten_falls : RowForgottenFalls
unfolding ascii same less numeral_at digits string_at scalar_at repeat text_from is_used is_above key_fault list_from dictionary_from value_at payload_at key_text_at used_at repeated_at above_at key_at entry_at skip_from is_marked with_mark place_of value_token token_at turn loop_at
row_forgotten_falls endless demand = codes_differ refl (demand Profile.Loose (ascii "d1:ale1:a0:e"))

pub dictionary_as_list_falls : DictionaryAsListFalls
unfolding ascii same less numeral_at digits string_at scalar_at repeat text_from is_used is_above key_fault list_from dictionary_from value_at payload_at key_text_at used_at repeated_at above_at key_at entry_at skip_from is_marked with_mark place_of value_token token_at turn loop_at
dictionary_as_list_falls endless demand = codes_differ refl (demand Profile.Loose (ascii "d1:ae"))

pub inner_keys_kept_falls : InnerKeysKeptFalls
unfolding ascii same less numeral_at digits string_at scalar_at repeat text_from is_used is_above key_fault list_from dictionary_from value_at payload_at key_text_at used_at repeated_at above_at key_at entry_at skip_from is_marked with_mark place_of value_token token_at turn loop_at
inner_keys_kept_falls endless demand = codes_differ refl (demand Profile.Loose (ascii "d1:ad1:b0:e1:b0:e"))

pub level_uncounted_falls : LevelUncountedFalls
unfolding ascii same less numeral_at digits string_at scalar_at repeat text_from is_used is_above key_fault list_from dictionary_from value_at payload_at key_text_at used_at repeated_at above_at key_at entry_at skip_from is_marked with_mark place_of value_token token_at turn loop_at
level_uncounted_falls endless demand = codes_differ refl (demand Profile.Loose (ascii "le"))

-- where a walk ends, or its fault stands
abbrev place : Walk → ℕ
place (Ok end) = end
place (Err f) = f.offset

whole_place : (s : List ℕ) (end : ℕ) → place (whole s (Ok end)) ≡ end
whole_place s end = go (eqb end (length s))
  where
    go : (t : Bool) → place (cond t (Ok end) (Err (fault Cause.Trailing end))) ≡ end
    go true = refl
    go false = refl

pub none_ends_at_zero : NoneEndsAtZero
unfolding payload_at
none_ends_at_zero p s e = go (value_at p largest_depth s 0) refl e
  where
    refused : (f : Fault) → value_at p largest_depth s 0 ≡ Err f → (t : Bool) → cond {A = Walk} t (Ok 0) (Err (fault Cause.Trailing 0)) ≡ Err f → ⊥
    refused f q true e = let z : ◌≡◌ {A = ℕ} 0 1 = cc in omega arith
    refused f q false e = let i : f ≡ fault Cause.Trailing 0 = cc in value_untrailed p largest_depth s 0 f q (ap (λ (g : Fault). g.cause) i)

    go : (w : Walk) → value_at p largest_depth s 0 ≡ w → whole s (Ok 0) ≡ whole s w → ⊥
    go (Ok end) q e =
        let past : Past s 0 end = value_ends p largest_depth s 0 end q in
        let i : 0 ≡ end = sym (whole_place s 0) ∙ ap place e ∙ whole_place s end in
        omega (arith, past.0, i)
    go (Err f) q e = refused f q (eqb 0 (length s)) e

pub endless_falls : EndlessFalls
unfolding loop_at
endless_falls step p s endless demand = none_ends_at_zero p s (sym (ap (whole s) (endless (Ok 0))) ∙ demand p s)

no_code_zero : (p : Profile) → is_fault_code p 0 ≡ true → ⊥
no_code_zero Profile.Loose e = clash false e refl
no_code_zero Profile.Strict e = clash false e refl

pub endless_codes_fall : EndlessCodesFall
endless_codes_fall X start step p s endless demand = go (payload_at p s) refl (sym (ap (coded_whole s) (endless (Err (0, 0)))) ∙ demand p s)
  where
    go : (w : Walk) → payload_at p s ≡ w → Err (0, 0) ≡ coded w → ⊥
    go (Ok end) q e = let z : ◌≡◌ {A = ℕ} 0 1 = cc in omega arith
    go (Err f) q e =
        let i : (0, 0) ≡ (cause_code f.cause, f.offset) = cc in
        no_code_zero p (subst (λ (c : ℕ). is_fault_code p c ≡ true) (sym (ap (λ (n : ℕ × ℕ). n.0) i)) (faults_coded p s f q))

pub everything_falls : EverythingFalls
unfolding ascii numeral_at digits string_at scalar_at repeat value_at payload_at loop_at
everything_falls endless demand = codes_differ refl (demand Profile.Loose (ascii "e"))
