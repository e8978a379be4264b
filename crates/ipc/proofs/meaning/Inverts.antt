-- What an accepted message is: a listed key's text, a value in the key's format and a tag.
-- Assumes nothing.
use Prim.Native.Nat.{ℕ, zero, suc, ◌+◌, ◌≤◌}
use mathlib.Core.Path.{◌≡◌, refl, sym, ap, ◌∙◌}
use mathlib.Core.Bool.{Bool, true, false, cond, ◌&&◌}
use mathlib.Core.List.{List, [], ◌∷◌, ◌++◌, append_assoc}
use native.Mathlib.Omega.{arith}
use borrow.Author.Tests.{leb-true, ne_eqb}
use lib.Dec.{leb}
use lib.IntN.{ℤ, pos, negsuc, nat_abs}
use lib.ListN.{length, get_or}
use Rattle.octets.specs.Bytes.{same}
use Rattle.bencode.specs.Letters.{letter_l, letter_e}
use Rattle.bencode.specs.Value.{Value, integer, string, list, dictionary, Values, no_value, value, encode_string, encode, encode_all, lookup}
use Rattle.bencode.proofs.values.Encodings.{values_text}
use Rattle.octets.proofs.sequences.Order.{clash, same_eq}
use Rattle.octets.specs.Ascii.{ascii}
use Rattle.bencode.specs.Integers.{within}
use Rattle.ipc.specs.declared.ids.Tag.{Tag}
use Rattle.ipc.specs.declared.reading.Value.{Value as MessageValue}
use Rattle.ipc.specs.Answer.{Answer, message, handshake, refused, accepted, tag_number, content_of}
use Rattle.ipc.specs.Ids.{largest_tag, tag_of}
use Rattle.ipc.specs.Keys.{key_text, Listed, listed, unlisted, number_from, key_number, class_of, is_written}
use Rattle.ipc.specs.Meaning.{judged, answered, tagged_of, third_of, list_of, versions_of, versions_answer, meaning}
use Rattle.ipc.specs.Writer.{encode_tag}
use Rattle.ipc.specs.declared.versions.Versions.{Versions}
use Rattle.std.specs.Prelude.{Option, Some, None}

-- ---- keys
-- a text that has a number among keys is the name of the key with that number
named : (xs : List Listed) (k : ℕ) (text : List ℕ) → (number_from (suc k) xs text ≡ 0 → ⊥) → (i : ℕ) × (number_from (suc k) xs text ≡ suc (k + i)) × (text ≡ ascii (get_or xs i unlisted).name)
unfolding number_from
named [] k text h = absurd (h refl)
named (x ∷ xs) k text h = go (same (ascii x.name) text) refl (λ e. named xs (suc k) text e) h
  where
    go : (t : Bool) → same (ascii x.name) text ≡ t
        → ((number_from (suc (suc k)) xs text ≡ 0 → ⊥) → (i : ℕ) × (number_from (suc (suc k)) xs text ≡ suc (suc k + i)) × (text ≡ ascii (get_or xs i unlisted).name))
        → (cond t (suc k) (number_from (suc (suc k)) xs text) ≡ 0 → ⊥)
        → (i : ℕ) × (cond t (suc k) (number_from (suc (suc k)) xs text) ≡ suc (k + i)) × (text ≡ ascii (get_or (x ∷ xs) i unlisted).name)
    go true q rec h = (0, omega arith, sym (same_eq (ascii x.name) text q))
    go false q rec h = let r = rec h in (suc r.0, omega (arith, r.1), r.2)

-- a listed key is the text of its number
pub key_named : (text : List ℕ) → (key_number text ≡ 0 → ⊥) → text ≡ key_text (key_number text)
unfolding key_number key_text
key_named text h =
    let r = named listed 0 text h in
    let n : number_from 1 listed text ≡ suc r.0 = omega (arith, r.1) in
    rw n r.2

pub written_listed : (k : ℕ) → is_written k ≡ true → k ≡ 0 → ⊥
unfolding is_written
written_listed zero w e = clash false w refl
written_listed (suc k) w e = omega arith

-- ---- tags
-- a tag is the number that it stands for
pub record Tagged (z : ℤ) (tag : ℕ) : Type 0 where
  pub is : z ≡ pos tag
  pub low : 1 ≤ tag
  pub high : tag ≤ largest_tag

pub and_left : (a b : Bool) → a && b ≡ true → a ≡ true
and_left true b e = refl
and_left false b e = e

pub and_right : (a b : Bool) → a && b ≡ true → b ≡ true
and_right true b e = e
and_right false b e = clash false e refl

within_tag : (z : ℤ) → within 1 largest_tag z ≡ true → Tagged z (nat_abs z)
within_tag (pos n) e = record { is = refl; low = leb-true 1 n (and_left (leb 1 n) (leb n largest_tag) e); high = leb-true n largest_tag (and_right (leb 1 n) (leb n largest_tag) e) }
within_tag (negsuc n) e = clash false e refl

tag_tells : (z : ℤ) (t : Tag) → tag_of z ≡ Some t → Tagged z t.0
unfolding tag_of
tag_tells z t e = go (within 1 largest_tag z) refl e
  where
    go : (b : Bool) → within 1 largest_tag z ≡ b → cond b (Some (record { 0 = nat_abs z })) None ≡ Some t → Tagged z t.0
    go true q e =
        let n : nat_abs z ≡ t.0 = ap tag_number e in
        rw n at (within_tag z q)
    go false q e = let n : ◌≡◌ {A = ℕ} 0 1 = cc in absurd (omega arith)

-- how the tag is written
tag_text : (z : ℤ) (tag : ℕ) → Tagged z tag → encode (integer z) ≡ encode_tag tag
unfolding encode_tag
tag_text z tag t = rw (t.is, ne_eqb tag 0 (λ e. omega (arith, t.low))) refl

-- ---- messages
-- how a message of a key, a value and a tag is written
abbrev pub spelling : List ℕ → Value → ℕ → List ℕ
spelling key x tag = letter_l ∷ (encode_string key ++ (encode x ++ (encode_tag tag ++ (letter_e ∷ []))))

-- a payload that is a message of the grammar, with its answer
pub record Meant (v : Value) (used : ℕ) (a : Answer) : Type 0 where
  pub key : List ℕ
  pub content : Value
  pub tag : ℕ
  pub held : MessageValue
  pub spelt : encode v ≡ spelling key content tag
  pub small : tag ≤ largest_tag
  pub fits : judged (class_of (key_number key)) (1 + length (encode_string key)) content ≡ Some held
  pub is : accepted used (key_number key) tag (content_of held) ≡ a

-- the encoding of such a list
list_text : (key : List ℕ) (x : Value) (vs : Values) → encode (list (value (string key) (value x vs))) ≡ letter_l ∷ (encode_string key ++ (encode x ++ (encode_all vs ++ (letter_e ∷ []))))
unfolding encode
list_text key x vs = ap (λ (l : List ℕ). letter_l ∷ l) (append_assoc (encode_string key) (encode x ++ encode_all vs) (letter_e ∷ []) ∙ ap (λ (l : List ℕ). encode_string key ++ l) (append_assoc (encode x) (encode_all vs) (letter_e ∷ [])))

pub untagged_text : (key : List ℕ) (x : Value) → encode (list (value (string key) (value x no_value))) ≡ spelling key x 0
unfolding encode encode_tag
untagged_text key x = list_text key x no_value

pub tagged_text : (key : List ℕ) (x : Value) (z : ℤ) (tag : ℕ) → Tagged z tag → encode (list (value (string key) (value x (value (integer z) no_value)))) ≡ spelling key x tag
unfolding encode
tagged_text key x z tag t =
    list_text key x (value (integer z) no_value)
    ∙ ap (λ (l : List ℕ). letter_l ∷ (encode_string key ++ (encode x ++ l))) (values_text (integer z) no_value ∙ ap (λ (l : List ℕ). l ++ (letter_e ∷ [])) (tag_text z tag t))

module _ (used : ℕ) (a : Answer) (code : a.code ≡ 0) (kind : a.kind ≡ message) where
  refusal : {P : Type 0} (c at : ℕ) → (c ≡ 0 → ⊥) → refused c at ≡ a → P
  refusal c at h e = absurd (h (ap (λ (x : Answer). x.code) e ∙ code))

  value_meant : (v : Value) (key : List ℕ) (x : Value) (tag : Option Tag) → encode v ≡ spelling key x (tag_number tag) → tag_number tag ≤ largest_tag
      → (c : Option MessageValue) → judged (class_of (key_number key)) (1 + length (encode_string key)) x ≡ c → answered used (key_number key) tag c ≡ a → Meant v used a
  value_meant v key x tag s l (Some h) q e = record { key = key; content = x; tag = tag_number tag; held = h; spelt = s; small = l; fits = q; is = e }
  value_meant v key x tag s l None q e = let n : ◌≡◌ {A = ℕ} 22 0 = ap (λ (y : Answer). y.code) e ∙ code in absurd (omega arith)

  tag_meant : (key : List ℕ) (x : Value) (z : ℤ) (o : Option Tag) → tag_of z ≡ o → tagged_of used key x o ≡ a → Meant (list (value (string key) (value x (value (integer z) no_value)))) used a
  tag_meant key x z None q e = refusal 20 0 (λ n. omega arith) e
  tag_meant key x z (Some t) q e =
      let d = tag_tells z t q in
      value_meant (list (value (string key) (value x (value (integer z) no_value)))) key x (Some t) (tagged_text key x z t.0 d) d.high (judged (class_of (key_number key)) (1 + length (encode_string key)) x) refl e

  third_meant : (key : List ℕ) (x : Value) (vs : Values) → third_of used key x vs ≡ a → Meant (list (value (string key) (value x vs))) used a
  third_meant key x no_value e =
      value_meant (list (value (string key) (value x no_value))) key x None (untagged_text key x) (omega arith) (judged (class_of (key_number key)) (1 + length (encode_string key)) x) refl e
  third_meant key x (value (integer z) no_value) e = tag_meant key x z (tag_of z) refl e
  third_meant key x (value (integer z) (value y vs)) e = refusal 20 0 (λ n. omega arith) e
  third_meant key x (value (string text) vs) e = refusal 20 0 (λ n. omega arith) e
  third_meant key x (value (list us) vs) e = refusal 20 0 (λ n. omega arith) e
  third_meant key x (value (dictionary es) vs) e = refusal 20 0 (λ n. omega arith) e

  list_meant : (vs : Values) → list_of used vs ≡ a → Meant (list vs) used a
  list_meant no_value e = refusal 20 0 (λ n. omega arith) e
  list_meant (value (integer z) vs) e = refusal 20 0 (λ n. omega arith) e
  list_meant (value (string key) no_value) e = refusal 20 0 (λ n. omega arith) e
  list_meant (value (string key) (value x vs)) e = third_meant key x vs e
  list_meant (value (list us) vs) e = refusal 20 0 (λ n. omega arith) e
  list_meant (value (dictionary es) vs) e = refusal 20 0 (λ n. omega arith) e

  handshake_none : {P : Type 0} (o : Option Versions) → versions_answer used o ≡ a → P
  handshake_none None e = refusal 21 0 (λ n. omega arith) e
  handshake_none (Some r) e =
      let k : handshake ≡ message = ap (λ (y : Answer). y.kind) e ∙ kind in
      let n : ◌≡◌ {A = ℕ} 0 1 = cc in
      absurd (omega arith)

  -- a value that means an accepted message is one of the grammar's
  pub inverts : (v : Value) → meaning used v ≡ a → Meant v used a
  inverts (integer z) e = refusal 20 0 (λ n. omega arith) e
  inverts (string text) e = refusal 20 0 (λ n. omega arith) e
  inverts (list vs) e = list_meant vs e
  inverts (dictionary es) e = handshake_none (versions_of (lookup (ascii "version") es)) e
