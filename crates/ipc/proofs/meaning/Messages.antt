-- The reader on the encoding of a message or a handshake: the answer is what the value means.
-- Assumes nothing.
use Prim.Native.Nat.{ℕ, zero, suc, ◌+◌, ◌-◌, ◌≤◌, ◌<◌}
use mathlib.Core.Path.{◌≡◌, refl, sym, ap, subst, ◌∙◌}
use mathlib.Core.Bool.{Bool, true, false, cond}
use mathlib.Core.List.{List, [], ◌∷◌, ◌++◌}
use native.Mathlib.Omega.{arith}
use borrow.Author.Tests.{eq-eqb, ne_eqb}
use lib.IntN.{ℤ}
use lib.ListN.{length, length-append}
use Rattle.bencode.specs.declared.fault.Fault.{Fault}
use Rattle.bencode.specs.declared.profile.Profile.{Profile}
use Rattle.octets.specs.Bytes.{byte_at, slice, Begins}
use Rattle.bencode.specs.Strings.{string_at, text_of}
use Rattle.bencode.specs.Integers.{integer_at, within, number_of}
use Rattle.bencode.specs.Value.{Value, integer, string, list, dictionary, Values, no_value, value, encode_string, encode, encode_all, All, WellFormed}
use Rattle.bencode.proofs.values.Encodings.{values_text}
use Rattle.bencode.proofs.values.FirstBytes.{no_string}
use Rattle.bencode.proofs.Lookups.{starts, reads_integer, reads_string, finds_item, ends_items, items_begin, value_first}
use Rattle.octets.specs.Numerals.{decimal}
use Rattle.octets.proofs.sequences.BeginsLaws.{begins_left, begins_right, begins_head}
use Rattle.bencode.proofs.values.ScalarReads.{string_reads}
use Rattle.ipc.specs.declared.keys.Class.{Class}
use Rattle.ipc.specs.declared.reading.Refusal.{Refusal}
use Rattle.ipc.specs.declared.format.Items.{Items}
use Rattle.ipc.specs.declared.reading.Value.{Value as MessageValue}
use Rattle.ipc.specs.Answer.{refused, answer_of}
use Rattle.ipc.specs.Header.{header_length}
use Rattle.ipc.specs.Ids.{tag_of}
use Rattle.ipc.specs.Keys.{key_number, class_of}
use Rattle.ipc.specs.Format.{largest_port, integer_value, text_value, part_value, items_end, list_part, formatted}
use Rattle.ipc.specs.Message.{last_tag, tail_at, valued, from_tag, message_reading}
use Rattle.ipc.specs.Meaning.{every, whole_at, as_integer, as_text, as_list, judged, answered, message_of, last_of, third_of, second_of, list_of}
use Rattle.ipc.proofs.formats.FormatLaws.{list_other, list_good, list_off}
use Rattle.ipc.proofs.frames.MessageLaws.{third_end, message_no_key, message_no_value, message_keyed}
use Rattle.ipc.proofs.meaning.Means.{end_if, ok_item, items_mean}
use Rattle.ipc.specs.declared.ids.Tag.{Tag}
use Rattle.std.specs.Prelude.{Option, Some, None, Result, Err, Ok}

-- the values of a list are well formed with one level fewer
list_formed : (profile : Profile) (levels : ℕ) (vs : Values) → WellFormed profile levels (list vs) → (inner : ℕ) × All (WellFormed profile inner) vs
list_formed profile zero vs h = absurd h
list_formed profile (suc levels) vs h = (levels, h)

module _ (profile : Profile) (levels : ℕ) (p : List ℕ) where
  module _ (at e : ℕ) where
    -- ---- formats
    whole_means : (x : Value) → Begins p at (encode x) e → part_value at e ≡ whole_at at x
    whole_means x b = let n : e - at ≡ length (encode x) = omega (arith, b.ends) in rw n refl

    integer_means : (ok : ℤ → Bool) (x : Value) → WellFormed profile levels x → Begins p at (encode x) e → integer_value ok (integer_at p at) ≡ as_integer ok x
    integer_means ok (integer z) h b = rw (reads_integer profile levels (integer z) p at e h b) refl
    integer_means ok (string text) h b = rw (reads_integer profile levels (string text) p at e h b).1 refl
    integer_means ok (list vs) h b = rw (reads_integer profile levels (list vs) p at e h b).1 refl
    integer_means ok (dictionary es) h b = rw (reads_integer profile levels (dictionary es) p at e h b).1 refl

    -- where the text of a string stands
    text_ends : (text : List ℕ) → Begins p at (encode (string text)) e → (e ≡ at + length (encode_string text)) × (length text ≤ e)
    unfolding encode
    text_ends text b = (b.ends, omega (arith, b.ends, length-append (decimal (length text)) (58 ∷ text)))

    text_means : (x : Value) → Begins p at (encode x) e → text_value (string_at p at) ≡ as_text at x
    text_means (integer z) b = rw (reads_string (integer z) p at e b).1 refl
    text_means (string text) b =
        let t = text_ends text b in
        let start : header_length + (e - length text) ≡ header_length + ((at + length (encode_string text)) - length text) = omega arith in
        let n : e - (e - length text) ≡ length text = omega arith in
        rw ((reads_string (string text) p at e b).0, start, n) refl
    text_means (list vs) b = rw (reads_string (list vs) p at e b).1 refl
    text_means (dictionary es) b = rw (reads_string (dictionary es) p at e b).1 refl

    items_listed : (items : Items) (vs : Values) → WellFormed profile levels (list vs) → Begins p at (encode (list vs)) e → list_part items p at e ≡ cond (every (ok_item items) vs) (Some (whole_at at (list vs))) None
    items_listed items vs h b = let i = list_formed profile levels vs h in go (every (ok_item items) vs) (items_mean profile p i.0 items vs (at + 1) e i.1 (items_begin p at e vs b))
      where
        go : (t : Bool) → items_end items p (at + 1) ≡ end_if t e → list_part items p at e ≡ cond t (Some (whole_at at (list vs))) None
        go true j = sym (list_good items p at e (starts (list vs) p at e b) e j) ∙ ap (λ (v : MessageValue). Some v) (whole_means (list vs) b)
        go false j = sym (list_off items p at e (starts (list vs) p at e b) j)

    part_means : (items : Items) (x : Value) → WellFormed profile levels x → Begins p at (encode x) e → list_part items p at e ≡ as_list (ok_item items) at x
    part_means items (integer z) h b = sym (list_other items p at e (λ q. omega (arith, starts (integer z) p at e b)))
    part_means items (string text) h b = sym (list_other items p at e (λ q. omega (arith, starts (string text) p at e b)))
    part_means items (list vs) h b = items_listed items vs h b
    part_means items (dictionary es) h b = sym (list_other items p at e (λ q. omega (arith, starts (dictionary es) p at e b)))

    pub format_means : (class : Class) (x : Value) → WellFormed profile levels x → Begins p at (encode x) e → formatted class p at e ≡ judged class at x
    unfolding formatted
    format_means Class.Unlisted x h b = ap (λ (v : MessageValue). Some v) (whole_means x b)
    format_means Class.Boolean x h b = integer_means (within 0 1) x h b
    format_means Class.Ignored x h b = refl
    format_means Class.Text x h b = text_means x b
    format_means Class.Integer x h b = integer_means (λ z. true) x h b
    format_means Class.TextList x h b = part_means Items.Texts x h b
    format_means Class.TorrentList x h b = part_means Items.Torrents x h b
    format_means Class.Port x h b = integer_means (within 0 largest_port) x h b
    format_means Class.IdList x h b = part_means Items.Ids x h b

  -- ---- messages
  valued_same : (k : ℕ) (tag : Option Tag) (c : Option MessageValue) → answer_of (valued p k tag c) ≡ answered (header_length + length p) k tag c
  valued_same k tag (Some v) = refl
  valued_same k tag None = refl

  module _ (key : List ℕ) (x : Value) (e : ℕ) (h : WellFormed profile levels x) (b : Begins p (1 + length (encode_string key)) (encode x) e) where
    keyed_means : (tag : Option Tag) → answer_of (valued p (key_number key) tag (formatted (class_of (key_number key)) p (1 + length (encode_string key)) e)) ≡ message_of (header_length + length p) key x tag
    keyed_means tag =
        ap (λ (c : Option MessageValue). answer_of (valued p (key_number key) tag c)) (format_means (1 + length (encode_string key)) e (class_of (key_number key)) x h b)
        ∙ valued_same (key_number key) tag (judged (class_of (key_number key)) (1 + length (encode_string key)) x)

    other_means : (f : Fault) → (byte_at p e ≡ 101 → ⊥) → integer_at p e ≡ Err f → from_tag p (key_number key) (1 + length (encode_string key)) e (tail_at p e) ≡ Err Refusal.NoMessage
    unfolding tail_at
    other_means f no_e q = rw (ne_eqb (byte_at p e) 101 no_e, q) refl

    tagged_means : (z : ℤ) (to : ℕ) → (byte_at p e ≡ 101 → ⊥) → integer_at p e ≡ Ok (number_of z to) → from_tag p (key_number key) (1 + length (encode_string key)) e (tail_at p e) ≡ from_tag p (key_number key) (1 + length (encode_string key)) e (last_tag p to (tag_of z))
    unfolding tail_at
    tagged_means z to no_e q = rw (ne_eqb (byte_at p e) 101 no_e, q) refl

    last_means : (vs : Values) (to : ℕ) → All (WellFormed profile levels) vs → Begins p to (encode_all vs ++ (101 ∷ [])) (length p) → (z : ℤ) (o : Option Tag) → tag_of z ≡ o
        → answer_of (from_tag p (key_number key) (1 + length (encode_string key)) e (last_tag p to o)) ≡ last_of (header_length + length p) key x z vs
    unfolding encode
    last_means no_value to g c z None q = rw q refl
    last_means no_value to g c z (Some t) q = rw (q, eq-eqb (byte_at p to) 101 (begins_head p to 101 (length p) [] c)) (keyed_means (Some t))
    last_means (value y vs) to g c z None q = refl
    last_means (value y vs) to g c z (Some t) q =
        let d = subst (λ (l : List ℕ). Begins p to l (length p)) (values_text y vs) c in
        let l = begins_left p to (length p) (encode y) (encode_all vs ++ (101 ∷ [])) d in
        rw (ne_eqb (byte_at p to) 101 (value_first p to (to + length (encode y)) y l)) refl

    third_means : (vs : Values) → All (WellFormed profile levels) vs → Begins p e (encode_all vs ++ (101 ∷ [])) (length p) → answer_of (from_tag p (key_number key) (1 + length (encode_string key)) e (tail_at p e)) ≡ third_of (header_length + length p) key x vs
    unfolding encode
    third_means no_value g c = ap (λ (t : Result (Option Tag) Refusal). answer_of (from_tag p (key_number key) (1 + length (encode_string key)) e t)) (sym (third_end p e (begins_head p e 101 (length p) [] c))) ∙ keyed_means None
    third_means (value y vs) g c = kinds y g.0 (begins_left p e (length p) (encode y) (encode_all vs ++ (101 ∷ [])) d) (begins_right p e (length p) (encode y) (encode_all vs ++ (101 ∷ [])) d)
      where
        d : Begins p e (encode y ++ (encode_all vs ++ (101 ∷ []))) (length p)
        d = subst (λ (l : List ℕ). Begins p e l (length p)) (values_text y vs) c

        kinds : (y : Value) → WellFormed profile levels y → Begins p e (encode y) (e + length (encode y)) → Begins p (e + length (encode y)) (encode_all vs ++ (101 ∷ [])) (length p)
            → answer_of (from_tag p (key_number key) (1 + length (encode_string key)) e (tail_at p e)) ≡ third_of (header_length + length p) key x (value y vs)
        kinds (integer z) k l r =
            ap answer_of (tagged_means z (e + length (encode (integer z))) (value_first p e (e + length (encode (integer z))) (integer z) l) (reads_integer profile levels (integer z) p e (e + length (encode (integer z))) k l))
            ∙ last_means vs (e + length (encode (integer z))) g.1 r z (tag_of z) refl
        kinds (string text) k l r = let r = reads_integer profile levels (string text) p e (e + length (encode (string text))) k l in ap answer_of (other_means r.0 (value_first p e (e + length (encode (string text))) (string text) l) r.1)
        kinds (list us) k l r = let r = reads_integer profile levels (list us) p e (e + length (encode (list us))) k l in ap answer_of (other_means r.0 (value_first p e (e + length (encode (list us))) (list us) l) r.1)
        kinds (dictionary es) k l r = let r = reads_integer profile levels (dictionary es) p e (e + length (encode (dictionary es))) k l in ap answer_of (other_means r.0 (value_first p e (e + length (encode (dictionary es))) (dictionary es) l) r.1)

  no_key : 57 < byte_at p 1 → answer_of (message_reading p) ≡ refused 20 0
  no_key h = let k = no_string p 1 h in ap answer_of (sym (message_no_key p k.0 k.1))

  -- after a key
  second_means : (key : List ℕ) (start : ℕ) → string_at p 1 ≡ Ok (text_of start (1 + length (encode_string key))) → slice p start (1 + length (encode_string key)) ≡ key
      → (vs : Values) → All (WellFormed profile levels) vs → Begins p (1 + length (encode_string key)) (encode_all vs ++ (101 ∷ [])) (length p) → answer_of (message_reading p) ≡ second_of (header_length + length p) key vs
  unfolding encode
  second_means key start text is no_value g c =
      ap answer_of (sym (message_no_value p start (1 + length (encode_string key)) text (ends_items p (1 + length (encode_string key)) (begins_head p (1 + length (encode_string key)) 101 (length p) [] c))))
  second_means key start text is (value x vs) g c =
      let d = subst (λ (l : List ℕ). Begins p (1 + length (encode_string key)) l (length p)) (values_text x vs) c in
      let l = begins_left p (1 + length (encode_string key)) (length p) (encode x) (encode_all vs ++ (101 ∷ [])) d in
      let r = begins_right p (1 + length (encode_string key)) (length p) (encode x) (encode_all vs ++ (101 ∷ [])) d in
      ap answer_of (sym (message_keyed p start (1 + length (encode_string key)) text (1 + length (encode_string key) + length (encode x)) (finds_item profile levels x p (1 + length (encode_string key)) (1 + length (encode_string key) + length (encode x)) g.0 l)))
      ∙ ap (λ (k : List ℕ). answer_of (from_tag p (key_number k) (1 + length (encode_string key)) (1 + length (encode_string key) + length (encode x)) (tail_at p (1 + length (encode_string key) + length (encode x))))) is
      ∙ third_means key x (1 + length (encode_string key) + length (encode x)) g.0 l vs g.1 r

  -- the answer to a list
  pub message_means : (vs : Values) → All (WellFormed profile levels) vs → Begins p 1 (encode_all vs ++ (101 ∷ [])) (length p) → answer_of (message_reading p) ≡ list_of (header_length + length p) vs
  unfolding encode
  message_means no_value g c = no_key (omega (arith, begins_head p 1 101 (length p) [] c))
  message_means (value y vs) g c = kinds y g.0 (begins_left p 1 (length p) (encode y) (encode_all vs ++ (101 ∷ [])) d) (begins_right p 1 (length p) (encode y) (encode_all vs ++ (101 ∷ [])) d)
    where
      d : Begins p 1 (encode y ++ (encode_all vs ++ (101 ∷ []))) (length p)
      d = subst (λ (l : List ℕ). Begins p 1 l (length p)) (values_text y vs) c

      kinds : (y : Value) → WellFormed profile levels y → Begins p 1 (encode y) (1 + length (encode y)) → Begins p (1 + length (encode y)) (encode_all vs ++ (101 ∷ [])) (length p) → answer_of (message_reading p) ≡ list_of (header_length + length p) (value y vs)
      kinds (integer z) k l r = no_key (omega (arith, starts (integer z) p 1 (1 + length (encode (integer z))) l))
      kinds (string key) k l r = let t = string_reads p 1 (1 + length (encode_string key)) key l in second_means key t.0 t.1 t.2 vs g.1 r
      kinds (list us) k l r = no_key (omega (arith, starts (list us) p 1 (1 + length (encode (list us))) l))
      kinds (dictionary es) k l r = no_key (omega (arith, starts (dictionary es) p 1 (1 + length (encode (dictionary es))) l))
