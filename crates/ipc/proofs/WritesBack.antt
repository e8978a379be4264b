-- An accepted frame of a key that is written is written again as the same bytes, but for the case of hex letters.
-- Assumes nothing.
use Prim.Native.Nat.{ℕ, zero, suc, ◌+◌, ◌-◌, ◌≤◌}
use mathlib.Core.Logic.{inl}
use mathlib.Core.Path.{◌≡◌, refl, sym, ap, subst, ◌∙◌}
use mathlib.Core.Bool.{Bool, true, false, cond, ◌&&◌}
use mathlib.Core.List.{List, [], ◌∷◌, ◌++◌, map, flatten, append_assoc}
use native.Mathlib.Omega.{arith}
use borrow.Author.Tests.{le-leb}
use lib.IntN.{ℤ}
use lib.ListN.{length, take, drop, get_or, length-append}
use lib.Seq.{take_at, drop_at}
use Rattle.octets.specs.Bytes.{Begins}
use Rattle.bencode.specs.Letters.{letter_e, letter_l}
use Rattle.octets.specs.Numerals.{decimal}
use Rattle.bencode.specs.Value.{Value, integer, string, list, dictionary, Values, encode_string, encode}
use Rattle.octets.proofs.sequences.BeginsLaws.{slice_begins}
use Rattle.bencode.proofs.Lookups.{reads_string}
use Rattle.octets.proofs.sequences.Order.{clash}
use Rattle.bencode.specs.Integers.{within}
use Rattle.ipc.specs.declared.keys.Class.{Class}
use Rattle.ipc.specs.declared.reading.Value.{Value as MessageValue}
use Rattle.ipc.specs.declared.writer.Given.{Given}
use Rattle.ipc.specs.Answer.{Answer, Content, accepted, content_of}
use Rattle.ipc.specs.Format.{largest_port}
use Rattle.ipc.specs.Header.{header_length, largest_payload}
use Rattle.ipc.specs.Hex.{hex_header, upper, upper_header}
use Rattle.ipc.specs.Ids.{largest_tag}
use Rattle.ipc.specs.Keys.{key_text, Listed, listed, unlisted, key_number, class_of, is_written}
use Rattle.ipc.specs.Meaning.{is_id_value, every, whole_at, as_integer, as_text, as_list, judged}
use Rattle.ipc.specs.Writer.{integer_fits, value_fits, encode_given, encode_tag, payload_of, frame_of, write_answer, message_fault}
use Rattle.ipc.specs.Demands.{HexDigits, hex_from, Framed, given_of, bytes_of, WritesBack}
use Rattle.ipc.proofs.Accepts.{accepts_exactly}
use Rattle.ipc.proofs.headers.HexLaws.{header_from}
use Rattle.ipc.proofs.writing.WriterLaws.{fitted_count}
use Rattle.ipc.proofs.meaning.Inverts.{key_named, written_listed, spelling, Meant, inverts}
use Rattle.ipc.proofs.IdLists.{id_list_exactly}
use Rattle.std.specs.Prelude.{Some, None, Ok}

-- ---- keys that are written have no format of a list but that of torrent IDs
abbrev allowed : Class → Bool
allowed Class.Unlisted = false
allowed Class.Boolean = true
allowed Class.Ignored = true
allowed Class.Text = true
allowed Class.Integer = true
allowed Class.TextList = false
allowed Class.TorrentList = false
allowed Class.Port = true
allowed Class.IdList = true

abbrev allows : Listed → Bool
allows x = cond x.written (allowed x.class) true

abbrev all_allow : List Listed → Bool
all_allow [] = true
all_allow (x ∷ xs) = allows x && all_allow xs

row_allows : (xs : List Listed) (k : ℕ) → all_allow xs ≡ true → allows (get_or xs k unlisted) ≡ true
row_allows [] k e = refl
row_allows (x ∷ xs) k e = go k (allows x) refl (all_allow xs) refl e (λ j q. row_allows xs j q)
  where
    go : (k : ℕ) (t : Bool) → allows x ≡ t → (u : Bool) → all_allow xs ≡ u → t && u ≡ true → ((j : ℕ) → all_allow xs ≡ true → allows (get_or xs j unlisted) ≡ true) → allows (get_or (x ∷ xs) k unlisted) ≡ true
    go k false p u q e rec = clash false e refl
    go k true p false q e rec = clash false e refl
    go zero true p true q e rec = p
    go (suc k) true p true q e rec = rec k q

-- the rule at every listed key: a computed test
written_allowed : (k : ℕ) → is_written k ≡ true → allowed (class_of k) ≡ true
unfolding is_written class_of
written_allowed zero w = clash false w refl
written_allowed (suc k) w = go (get_or listed k unlisted) w (row_allows listed k (unfold listed in refl))
  where
    go : (x : Listed) → x.written ≡ true → allows x ≡ true → allowed x.class ≡ true
    go x w e = rw w at e

-- ---- values that are in a format
as_integer_lem : (ok : ℤ → Bool) (x : Value) (h : MessageValue) → as_integer ok x ≡ Some h → (z : ℤ) × (x ≡ integer z) × (ok z ≡ true) × (h ≡ MessageValue.Integer z)
as_integer_lem ok (integer z) h e = go (ok z) refl e
  where
    go : (t : Bool) → ok z ≡ t → cond t (Some (MessageValue.Integer z)) None ≡ Some h → (y : ℤ) × (integer z ≡ integer y) × (ok y ≡ true) × (h ≡ MessageValue.Integer y)
    go true q e = (z, refl, q, (cc))
    go false q e = let n : ◌≡◌ {A = ℕ} 0 1 = cc in absurd (omega arith)
as_integer_lem ok (string text) h e = let n : ◌≡◌ {A = ℕ} 0 1 = cc in absurd (omega arith)
as_integer_lem ok (list vs) h e = let n : ◌≡◌ {A = ℕ} 0 1 = cc in absurd (omega arith)
as_integer_lem ok (dictionary es) h e = let n : ◌≡◌ {A = ℕ} 0 1 = cc in absurd (omega arith)

as_text_lem : (at : ℕ) (x : Value) (h : MessageValue) → as_text at x ≡ Some h → (text : List ℕ) × (x ≡ string text) × (h ≡ MessageValue.Text (header_length + ((at + length (encode_string text)) - length text)) (length text))
as_text_lem at (string text) h e = (text, refl, (cc))
as_text_lem at (integer z) h e = let n : ◌≡◌ {A = ℕ} 0 1 = cc in absurd (omega arith)
as_text_lem at (list vs) h e = let n : ◌≡◌ {A = ℕ} 0 1 = cc in absurd (omega arith)
as_text_lem at (dictionary es) h e = let n : ◌≡◌ {A = ℕ} 0 1 = cc in absurd (omega arith)

as_list_lem : (ok : Value → Bool) (at : ℕ) (x : Value) (h : MessageValue) → as_list ok at x ≡ Some h → (vs : Values) × (x ≡ list vs) × (every ok vs ≡ true) × (h ≡ whole_at at (list vs))
as_list_lem ok at (list vs) h e = go (every ok vs) refl e
  where
    go : (t : Bool) → every ok vs ≡ t → cond t (Some (whole_at at (list vs))) None ≡ Some h → (us : Values) × (list vs ≡ list us) × (every ok us ≡ true) × (h ≡ whole_at at (list us))
    go true q e = (vs, refl, q, (cc))
    go false q e = let n : ◌≡◌ {A = ℕ} 0 1 = cc in absurd (omega arith)
as_list_lem ok at (integer z) h e = let n : ◌≡◌ {A = ℕ} 0 1 = cc in absurd (omega arith)
as_list_lem ok at (string text) h e = let n : ◌≡◌ {A = ℕ} 0 1 = cc in absurd (omega arith)
as_list_lem ok at (dictionary es) h e = let n : ◌≡◌ {A = ℕ} 0 1 = cc in absurd (omega arith)

-- ---- a value, handed in as it was named, is in the format and written as it was
record Again (f : List ℕ) (class : Class) (x : Value) (c : Content) : Type 0 where
  fits : value_fits class (given_of c) (bytes_of f c) ≡ true
  same : encode_given class (given_of c) (bytes_of f c) ≡ encode x

-- a value stands in a frame, at an offset of the payload
abbrev pub Stands : List ℕ → ℕ → Value → Type 0
Stands f at x = Begins f (header_length + at) (encode x) (header_length + at + length (encode x))

-- where the text of a string stands
pub text_stands : (f : List ℕ) (at : ℕ) (text : List ℕ) → Stands f at (string text)
    → bytes_of f (content_of (MessageValue.Text (header_length + ((at + length (encode_string text)) - length text)) (length text))) ≡ text
unfolding encode
text_stands f at text b =
    let size : length (encode_string text) ≡ length (decimal (length text)) + suc (length text) = length-append (decimal (length text)) (58 ∷ text) in
    let end : ℕ = header_length + at + length (encode_string text) in
    let from : header_length + ((at + length (encode_string text)) - length text) ≡ end - length text = omega arith in
    let to : (end - length text) + length text ≡ end = omega arith in
    rw (from, to) (reads_string (string text) f (header_length + at) end b).1

module _ (f : List ℕ) (at : ℕ) (x : Value) (h : MessageValue) where
  integer_again : (class : Class) (z : ℤ) → integer_fits class z ≡ true → x ≡ integer z → h ≡ MessageValue.Integer z → Again f class x (content_of h)
  unfolding value_fits encode_given
  integer_again class z ok p q = rw (p, q) (record { fits = ok; same = refl })

  text_again : Stands f at x → (text : List ℕ) → x ≡ string text → h ≡ MessageValue.Text (header_length + ((at + length (encode_string text)) - length text)) (length text) → Again f Class.Text x (content_of h)
  unfolding value_fits encode_given encode
  text_again b text p q =
      let s = text_stands f at text (subst (λ (y : Value). Stands f at y) p b) in
      rw (p, q) (record { fits = refl; same = ap encode_string s })

  ids_again : Stands f at x → (vs : Values) → x ≡ list vs → every is_id_value vs ≡ true → h ≡ whole_at at (list vs) → Again f Class.IdList x (content_of h)
  unfolding value_fits encode_given
  ids_again b vs p ids q =
      let c : Stands f at (list vs) = subst (λ (y : Value). Stands f at y) p b in
      let s : bytes_of f (content_of (whole_at at (list vs))) ≡ encode (list vs) = slice_begins f (header_length + at) (header_length + at + length (encode (list vs))) (encode (list vs)) c in
      rw (p, q) (record { fits = (id_list_exactly (bytes_of f (content_of (whole_at at (list vs))))).1 (record { ids = vs; each = ids; is = s }); same = s })

  value_again : (class : Class) → allowed class ≡ true → (class ≡ Class.Ignored → ⊥) → Stands f at x → judged class at x ≡ Some h → Again f class x (content_of h)
  value_again Class.Unlisted w i b e = clash false w refl
  value_again Class.Boolean w i b e = let r = as_integer_lem (within 0 1) x h e in integer_again Class.Boolean r.0 r.2 r.1 r.3
  value_again Class.Ignored w i b e = absurd (i refl)
  value_again Class.Text w i b e = let r = as_text_lem at x h e in text_again b r.0 r.1 r.2
  value_again Class.Integer w i b e = let r = as_integer_lem (λ z. true) x h e in integer_again Class.Integer r.0 refl r.1 r.3
  value_again Class.TextList w i b e = clash false w refl
  value_again Class.TorrentList w i b e = clash false w refl
  value_again Class.Port w i b e = let r = as_integer_lem (within 0 largest_port) x h e in integer_again Class.Port r.0 r.2 r.1 r.3
  value_again Class.IdList w i b e = let r = as_list_lem is_id_value at x h e in ids_again b r.0 r.1 r.2 r.3

-- ---- where the value stands in the frame
pub stands_in : (f header whole key y tail rest : List ℕ) → length header ≡ header_length → f ≡ header ++ (whole ++ rest) → whole ≡ letter_l ∷ (key ++ (y ++ tail))
    → Begins f (header_length + (1 + length key)) y (header_length + (1 + length key) + length y)
stands_in f header whole key y tail rest eight is spelt =
    let front = header ++ (letter_l ∷ key) in
    let split : f ≡ front ++ (y ++ (tail ++ rest)) = is ∙ rw spelt (simp append_assoc) in
    let size : length front ≡ header_length + (1 + length key) = omega (arith, length-append header (letter_l ∷ key)) in
    record {
      rest = tail ++ rest;
      is = ap (drop (header_length + (1 + length key))) split ∙ drop_at front (y ++ (tail ++ rest)) (header_length + (1 + length key)) size;
      ends = refl;
    }

-- ---- the frame that is written
pub payload_again : (k : ℕ) (given : Given) (s : List ℕ) (tag : ℕ) (key : List ℕ) (x : Value) → key_text k ≡ key → encode_given (class_of k) given s ≡ encode x
    → payload_of k given s tag ≡ spelling key x tag
unfolding payload_of flatten
payload_again k given s tag key x p q = rw (p, q) refl

written_count_lem : (k : ℕ) (given : Given) (s : List ℕ) (tag room : ℕ) (p : List ℕ) → is_written k ≡ true → value_fits (class_of k) given s ≡ true → tag ≤ largest_tag → payload_of k given s tag ≡ p
    → length p ≤ largest_payload → header_length + length p ≤ room → write_answer k given s tag room ≡ Ok (header_length + length p)
unfolding write_answer message_fault
written_count_lem k given s tag room p w v t e small fits = rw (w, v, le-leb tag largest_tag t, e) (fitted_count p room small fits)

-- the frame of a payload is the one that was read, with the header's letters in upper case
frame_again : (f header p rest : List ℕ) → f ≡ header ++ (p ++ rest) → length header ≡ header_length → HexDigits header → hex_from 0 header ≡ length p
    → frame_of p ≡ upper_header (take (header_length + length p) f)
unfolding frame_of
frame_again f header p rest is eight hex number =
    let split : f ≡ (header ++ p) ++ rest = is ∙ sym (append_assoc header p rest) in
    let size : length (header ++ p) ≡ header_length + length p = omega (arith, length-append header p) in
    let front : take (header_length + length p) f ≡ header ++ p = ap (take (header_length + length p)) split ∙ take_at (header ++ p) rest (header_length + length p) size in
    let digits : hex_header (length p) ≡ map upper header = ap hex_header (sym number) ∙ header_from header eight hex in
    let whole : upper_header (header ++ p) ≡ map upper header ++ p = rw (take_at header p header_length eight, drop_at header p header_length eight) refl in
    rw digits (sym whole ∙ ap upper_header (sym front))

-- ---- the statement
-- a frame is written again, for its answer
abbrev Back : List ℕ → ℕ → Answer → Type 0
Back f room a = (write_answer a.key (given_of a.value) (bytes_of f a.value) a.tag room ≡ Ok a.consumed)
    × (frame_of (payload_of a.key (given_of a.value) (bytes_of f a.value) a.tag) ≡ upper_header (take a.consumed f))

module _ (f : List ℕ) (a : Answer) (room : ℕ) (framed : Framed f a) (m : Meant framed.payload (header_length + length (encode framed.payload)) a) where
  meant_back : is_written (key_number m.key) ≡ true → (class_of (key_number m.key) ≡ Class.Ignored → ⊥) → header_length + length (encode framed.payload) ≤ room
      → Back f room (accepted (header_length + length (encode framed.payload)) (key_number m.key) m.tag (content_of m.held))
  meant_back w i fits =
      let k = key_number m.key in
      let c = content_of m.held in
      let p = encode framed.payload in
      let stands = stands_in f framed.header p (encode_string m.key) (encode m.content) (encode_tag m.tag ++ (letter_e ∷ [])) framed.rest framed.eight framed.is m.spelt in
      let v = value_again f (1 + length (encode_string m.key)) m.content m.held (class_of k) (written_allowed k w) i stands m.fits in
      let payload : payload_of k (given_of c) (bytes_of f c) m.tag ≡ p = payload_again k (given_of c) (bytes_of f c) m.tag m.key m.content (sym (key_named m.key (written_listed k w))) v.same ∙ sym m.spelt in (
        written_count_lem k (given_of c) (bytes_of f c) m.tag room p w v.fits m.small payload framed.small fits,
        ap frame_of payload ∙ frame_again f framed.header p framed.rest framed.is framed.eight framed.hex framed.number,
      )

  framed_back : is_written a.key ≡ true → (class_of a.key ≡ Class.Ignored → ⊥) → a.consumed ≤ room → Back f room a
  framed_back w i fits =
      let key : a.key ≡ key_number m.key = ap (λ (x : Answer). x.key) (sym m.is) in
      let used : a.consumed ≡ header_length + length (encode framed.payload) = ap (λ (x : Answer). x.consumed) (sym m.is) in
      subst (λ (x : Answer). Back f room x) m.is (meant_back (rw key at w) (λ e. i (ap class_of key ∙ e)) (rw used at fits))

pub writes_back : WritesBack
writes_back f a room e code kind w i fits =
    let framed = (accepts_exactly f a (inl code)).0 e in
    framed_back f a room framed (inverts (header_length + length (encode framed.payload)) a code kind framed.payload framed.means) w i fits
