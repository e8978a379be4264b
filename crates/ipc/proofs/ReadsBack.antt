-- Each frame written reads back as its record, and each handshake as its range.
-- Assumes nothing.
use Prim.Native.Nat.{ℕ, zero, suc, ◌+◌, ◌-◌, ◌^◌, ◌≤◌, ◌<◌}
use mathlib.Core.Path.{◌≡◌, refl, sym, ap, subst, ◌∙◌}
use mathlib.Core.Logic.{inl}
use mathlib.Core.Bool.{Bool, true, false, cond}
use mathlib.Core.List.{List, [], ◌∷◌, ◌++◌, append-nil, append_assoc}
use native.Mathlib.Omega.{arith}
use native.Mathlib.Decide.{dec_lt, ℕ_discrete}
use borrow.Author.Tests.{leb-true, le-leb}
use lib.Dec.{eqb, eqb→eq, leb}
use lib.IntN.{ℤ, pos}
use lib.ListN.{length, get_or, replicate, get_or-eq_default, take, drop}
use lib.Seq.{take_at, drop_at}
use Rattle.bencode.specs.declared.profile.Profile.{Profile}
use Rattle.octets.specs.Bytes.{same, less, slice}
use Rattle.bencode.specs.Letters.{letter_e}
use Rattle.bencode.specs.Depth.{largest_depth}
use Rattle.bencode.specs.Integers.{InRange}
use Rattle.bencode.specs.Utf8.{text_from}
use Rattle.bencode.specs.Key.{is_used, is_above, key_fault}
use Rattle.bencode.specs.Value.{Value, integer, string, list, Values, no_value, value, encode_string, encode, WellFormed}
use Rattle.bencode.proofs.OneValue.{one_value}
use Rattle.octets.proofs.sequences.BeginsLaws.{slice_begins}
use Rattle.octets.proofs.sequences.Order.{clash}
use Rattle.octets.proofs.general.Table.{at}
use Rattle.octets.specs.Ascii.{ascii}
use Rattle.ipc.specs.declared.keys.Class.{Class}
use Rattle.ipc.specs.declared.reading.Value.{Value as MessageValue}
use Rattle.ipc.specs.declared.writer.Given.{Given}
use Rattle.ipc.specs.Answer.{Answer, part, accepted, accepted_handshake, content_of}
use Rattle.ipc.specs.Reader.{read_frame_by, read_frame}
use Rattle.ipc.specs.HandshakeWriter.{handshake_value, handshake_payload, range_written, handshake_written}
use Rattle.ipc.specs.Header.{header_length, largest_payload}
use Rattle.ipc.specs.Hex.{hex_header}
use Rattle.ipc.specs.Ids.{largest_tag, tag_of}
use Rattle.ipc.specs.Keys.{key_text, Listed, listed, unlisted, number_from, key_number, class_of, is_written}
use Rattle.ipc.specs.Meaning.{whole_at, judged, versions_answer, meaning}
use Rattle.ipc.specs.Versions.{range_of, IsRange}
use Rattle.ipc.specs.Writer.{nothing_fits, integer_fits, bytes_fit, value_fits, encode_given, encode_tag, payload_of, frame_of, fitted, write_answer, message_fault}
use Rattle.ipc.specs.Demands.{hex_from, FramedBy, IdList, GivenFits, Named, ReadsBackBy, ReadsBack, BufferReadsBack, HandshakeReadsBack, HandshakeNotStrict}
use Rattle.ipc.proofs.Accepts.{answers_meaning_by, accepts_exactly_by}
use Rattle.ipc.proofs.headers.HexLaws.{header_length_lem, header_digits, from_header}
use Rattle.ipc.proofs.IdLists.{id_list_formed, id_list_exactly}
use Rattle.ipc.proofs.meaning.Inverts.{spelling, untagged_text, tagged_text}
use Rattle.ipc.proofs.StrictIsLoose.{strict_is_loose}
use Rattle.ipc.proofs.WritesBack.{Stands, text_stands, stands_in, payload_again}
use Rattle.ipc.proofs.writing.WriterLaws.{frame_length}
use Rattle.ipc.proofs.frames.VersionLaws.{range_is, range_made}
use Rattle.ipc.specs.declared.versions.Versions.{Versions}
use Rattle.std.specs.Prelude.{Option, Some, None, Ok, Err, Result}
use Rattle.ipc.specs.declared.writer.WriteRefusal.{WriteRefusal}
use Rattle.std.specs.Result.{result_and}
use Rattle.bencode.specs.declared.fault.Cause.{Cause}

-- ---- what a count says
-- a payload that is written, in a frame of n bytes
record Counted (payload : List ℕ) (n : ℕ) : Type 0 where
  small : length payload ≤ largest_payload
  count : header_length + length payload ≡ n

fitted_counted : (p : List ℕ) (room n : ℕ) → fitted p room ≡ Ok n → Counted p n
unfolding fitted
fitted_counted p room n e = go (leb (length p) largest_payload) refl (leb (length (frame_of p)) room) e
  where
    go : (t : Bool) → leb (length p) largest_payload ≡ t → (u : Bool) → cond {A = Result ℕ WriteRefusal} t (cond u (Ok (length (frame_of p))) (Err WriteRefusal.Room)) (Err WriteRefusal.Length) ≡ Ok n → Counted p n
    go true q true e = let same : length (frame_of p) ≡ n = cc in record { small = leb-true (length p) largest_payload q; count = omega (arith, frame_length p) }
    go true q false e = let z : ◌≡◌ {A = ℕ} 0 1 = cc in absurd (omega arith)
    go false q u e = let z : ◌≡◌ {A = ℕ} 0 1 = cc in absurd (omega arith)

-- a message that is written passes each test
record Passed (key : ℕ) (given : Given) (s : List ℕ) (tag n : ℕ) : Type 0 where
  written : is_written key ≡ true
  fits : value_fits (class_of key) given s ≡ true
  tagged : tag ≤ largest_tag
  counted : Counted (payload_of key given s tag) n

passed : (key : ℕ) (given : Given) (s : List ℕ) (tag room n : ℕ) → write_answer key given s tag room ≡ Ok n → Passed key given s tag n
unfolding write_answer message_fault
passed key given s tag room n e = go (is_written key) refl (value_fits (class_of key) given s) refl (leb tag largest_tag) refl e
  where
    go : (t : Bool) → is_written key ≡ t → (u : Bool) → value_fits (class_of key) given s ≡ u → (v : Bool) → leb tag largest_tag ≡ v
        → result_and (cond {A = Result (Unit {0}) WriteRefusal} t (cond u (cond v (Ok tt) (Err WriteRefusal.Tag)) (Err WriteRefusal.Value)) (Err WriteRefusal.Key)) (fitted (payload_of key given s tag) room) ≡ Ok n → Passed key given s tag n
    go true p true q true r e = record { written = p; fits = q; tagged = leb-true tag largest_tag r; counted = fitted_counted (payload_of key given s tag) room n e }
    go true p true q false r e = let z : ◌≡◌ {A = ℕ} 0 1 = cc in absurd (omega arith)
    go true p false q v r e = let z : ◌≡◌ {A = ℕ} 0 1 = cc in absurd (omega arith)
    go false p u q v r e = let z : ◌≡◌ {A = ℕ} 0 1 = cc in absurd (omega arith)

-- ---- keys
-- the number of each listed key's text is the key's: a computed test
number_right : ℕ → ℕ → Bool
number_right k x = eqb (key_number (key_text (suc k))) (suc k)

number_again : (k : ℕ) → k < 20 → key_number (key_text (suc k)) ≡ suc k
unfolding number_right key_number key_text number_from listed ascii same
number_again k h = eqb→eq _ _ (at number_right (replicate 20 0) tt k h)

-- a key that is written is a listed one
key_again : (key : ℕ) → is_written key ≡ true → key_number (key_text key) ≡ key
unfolding is_written
key_again zero w = clash false w refl
key_again (suc k) w = go (dec_lt k 20)
  where
    go : Dec (k < 20) → key_number (key_text (suc k)) ≡ suc k
    go (yes h) = number_again k h
    go (no h) =
        let many : length listed ≡ 20 = unfold listed in refl in
        let none : get_or listed k unlisted ≡ unlisted = get_or-eq_default listed unlisted (omega arith) in
        clash (get_or listed k unlisted).written w (ap (λ (x : Listed). x.written) none)

-- ---- values
-- what a value that is handed in is, at an offset of the payload
record Handed (profile : Profile) (class : Class) (given : Given) (s : List ℕ) (at : ℕ) : Type 0 where
  value : Value
  held : MessageValue
  formed : WellFormed profile 15 value
  same : encode_given class given s ≡ encode value
  judges : judged class at value ≡ Some held
  names : (f : List ℕ) → Stands f at value → Named class f given s (content_of held)

module _ (profile : Profile) (s : List ℕ) (at : ℕ) where
  nothing_handed : (class : Class) → nothing_fits class ≡ true → Handed profile class Given.Nothing s at
  unfolding encode_given encode
  nothing_handed Class.Unlisted e = clash false e refl
  nothing_handed Class.Boolean e = clash false e refl
  nothing_handed Class.Ignored e = record { value = string []; held = MessageValue.Nothing; formed = tt; same = refl; judges = refl; names = λ f b. refl }
  nothing_handed Class.Text e = clash false e refl
  nothing_handed Class.Integer e = clash false e refl
  nothing_handed Class.TextList e = clash false e refl
  nothing_handed Class.TorrentList e = clash false e refl
  nothing_handed Class.Port e = clash false e refl
  nothing_handed Class.IdList e = clash false e refl

  integer_judged : (class : Class) (z : ℤ) → integer_fits class z ≡ true → judged class at (integer z) ≡ Some (MessageValue.Integer z)
  integer_judged Class.Unlisted z e = clash false e refl
  integer_judged Class.Boolean z e = rw e refl
  integer_judged Class.Ignored z e = clash false e refl
  integer_judged Class.Text z e = clash false e refl
  integer_judged Class.Integer z e = refl
  integer_judged Class.TextList z e = clash false e refl
  integer_judged Class.TorrentList z e = clash false e refl
  integer_judged Class.Port z e = rw e refl
  integer_judged Class.IdList z e = clash false e refl

  integer_handed : (class : Class) (z : ℤ) → InRange z → integer_fits class z ≡ true → Handed profile class (Given.Integer z) s at
  unfolding encode_given
  integer_handed class z fits e = record { value = integer z; held = MessageValue.Integer z; formed = fits; same = refl; judges = integer_judged class z e; names = λ f b. refl }

  text_handed : Handed profile Class.Text Given.Bytes s at
  unfolding encode_given encode
  text_handed = record {
    value = string s;
    held = MessageValue.Text (header_length + ((at + length (encode_string s)) - length s)) (length s);
    formed = tt;
    same = refl;
    judges = refl;
    names = λ f b. (header_length + ((at + length (encode_string s)) - length s), refl, text_stands f at s b);
  }

  -- where a list of torrent IDs stands
  ids_named : (f : List ℕ) (d : IdList s) → Stands f at (list d.ids) → Named Class.IdList f Given.Bytes s (content_of (whole_at at (list d.ids)))
  ids_named f d b =
      let size : length (encode (list d.ids)) ≡ length s = ap length (sym d.is) in
      let stands : slice f (header_length + at) (header_length + at + length (encode (list d.ids))) ≡ encode (list d.ids) =
      slice_begins f (header_length + at) (header_length + at + length (encode (list d.ids))) (encode (list d.ids)) b in
      (header_length + at, ap (λ (k : ℕ). part (header_length + at) k) size, ap (λ (k : ℕ). slice f (header_length + at) (header_length + at + k)) (sym size) ∙ stands ∙ sym d.is)

  ids_handed : IdList s → Handed profile Class.IdList Given.Bytes s at
  unfolding encode_given
  ids_handed d = record {
    value = list d.ids;
    held = whole_at at (list d.ids);
    formed = id_list_formed profile 14 d.ids d.each;
    same = d.is;
    judges = rw d.each refl;
    names = λ f b. ids_named f d b;
  }

  bytes_handed : (class : Class) → bytes_fit class s ≡ true → Handed profile class Given.Bytes s at
  bytes_handed Class.Unlisted e = clash false e refl
  bytes_handed Class.Boolean e = clash false e refl
  bytes_handed Class.Ignored e = clash false e refl
  bytes_handed Class.Text e = text_handed
  bytes_handed Class.Integer e = clash false e refl
  bytes_handed Class.TextList e = clash false e refl
  bytes_handed Class.TorrentList e = clash false e refl
  bytes_handed Class.Port e = clash false e refl
  bytes_handed Class.IdList e = ids_handed ((id_list_exactly s).0 e)

  handed : (class : Class) (given : Given) → GivenFits given → value_fits class given s ≡ true → Handed profile class given s at
  unfolding value_fits
  handed class Given.Nothing g e = nothing_handed class e
  handed class (Given.Integer z) g e = integer_handed class z g e
  handed class Given.Bytes g e = bytes_handed class e

-- ---- messages
-- a tag, as values of a list
abbrev tags : ℕ → Values
tags zero = no_value
tags (suc t) = value (integer (pos (suc t))) no_value

-- a message, as a value
abbrev message_value : List ℕ → Value → ℕ → Value
message_value key x tag = list (value (string key) (value x (tags tag)))

-- how it is written, that it is well formed, and what it means
message_text : (key : List ℕ) (x : Value) (tag : ℕ) → tag ≤ largest_tag → encode (message_value key x tag) ≡ spelling key x tag
message_text key x zero h = untagged_text key x
message_text key x (suc t) h = tagged_text key x (pos (suc t)) (suc t) (record { is = refl; low = omega arith; high = h })

-- a tag is in the range of integers
tag_fits : (n : ℕ) → n ≤ largest_tag → InRange (pos n)
tag_fits n h = let small : n < 2 ^ 63 = omega arith in small

-- strings and integers are well formed at any level
string_formed : (profile : Profile) (levels : ℕ) (text : List ℕ) → WellFormed profile levels (string text)
string_formed profile zero text = tt
string_formed profile (suc levels) text = tt

integer_formed : (profile : Profile) (levels : ℕ) (z : ℤ) → InRange z → WellFormed profile levels (integer z)
integer_formed profile zero z f = f
integer_formed profile (suc levels) z f = f

-- over any number of levels: with 16 antt writes all of them out
values_formed : (profile : Profile) (levels : ℕ) (key : List ℕ) (x : Value) → WellFormed profile levels x → WellFormed profile (suc levels) (list (value (string key) (value x no_value)))
values_formed profile levels key x g = (string_formed profile levels key, (g, tt))

tagged_formed : (profile : Profile) (levels : ℕ) (key : List ℕ) (x : Value) (z : ℤ) → InRange z → WellFormed profile levels x → WellFormed profile (suc levels) (list (value (string key) (value x (value (integer z) no_value))))
tagged_formed profile levels key x z f g = (string_formed profile levels key, (g, (integer_formed profile levels z f, tt)))

message_formed : (profile : Profile) (key : List ℕ) (x : Value) (tag : ℕ) → tag ≤ largest_tag → WellFormed profile 15 x → WellFormed profile largest_depth (message_value key x tag)
message_formed profile key x zero h g = values_formed profile 15 key x g
message_formed profile key x (suc t) h g = tagged_formed profile 15 key x (pos (suc t)) (tag_fits (suc t) h) g

-- a tag that is written is one
tag_again : (n : ℕ) → 1 ≤ n → n ≤ largest_tag → tag_of (pos n) ≡ Some (record { 0 = n })
unfolding tag_of
tag_again n l h = rw (le-leb 1 n l, le-leb n largest_tag h) refl

message_meant : (used : ℕ) (key : List ℕ) (x : Value) (tag : ℕ) (held : MessageValue) → tag ≤ largest_tag → judged (class_of (key_number key)) (1 + length (encode_string key)) x ≡ Some held
    → meaning used (message_value key x tag) ≡ accepted used (key_number key) tag (content_of held)
message_meant used key x zero held h e = rw e refl
message_meant used key x (suc t) held h e = rw (tag_again (suc t) (omega arith) h, e) refl

-- ---- frames
-- the frame of a well-formed value reads as what it means
frame_reads : (profile : Profile) (v : Value) (a : Answer) (rest : List ℕ) → WellFormed profile largest_depth v → length (encode v) ≤ largest_payload → meaning (header_length + length (encode v)) v ≡ a → read_frame_by profile (frame_of (encode v) ++ rest) ≡ a
unfolding frame_of
frame_reads profile v a rest g small e =
    answers_meaning_by profile (frame_of (encode v) ++ rest) a (record {
      header = hex_header (length (encode v));
      payload = v;
      rest = rest;
      is = append_assoc (hex_header (length (encode v))) (encode v) rest;
      eight = header_length_lem (length (encode v));
      hex = header_digits (length (encode v));
      number = from_header (length (encode v)) (omega arith);
      small = small;
      formed = g;
      means = e;
    })

-- a frame of the grammar at the front of bytes has the payload that was framed
pub front_payload : (profile : Profile) (p rest : List ℕ) (a : Answer) → length p ≤ largest_payload → (f : FramedBy profile (frame_of p ++ rest) a) → encode f.payload ≡ p
unfolding frame_of
front_payload profile p rest a small f =
    let q = encode f.payload in
    let header = hex_header (length p) in
    let split : f.header ++ (encode f.payload ++ f.rest) ≡ hex_header (length p) ++ (p ++ rest) = sym f.is ∙ append_assoc header p rest in
    let front : f.header ≡ hex_header (length p) = sym (take_at f.header (q ++ f.rest) 8 f.eight) ∙ ap (take 8) split ∙ take_at header (p ++ rest) 8 (header_length_lem (length p)) in
    let size : length (encode f.payload) ≡ length p = sym f.number ∙ ap (hex_from 0) front ∙ from_header (length p) (omega arith) in
    let after : encode f.payload ++ f.rest ≡ p ++ rest = sym (drop_at f.header (q ++ f.rest) 8 f.eight) ∙ ap (drop 8) split ∙ drop_at header (p ++ rest) 8 (header_length_lem (length p)) in
    sym (take_at q f.rest (length p) size) ∙ ap (take (length p)) after ∙ take_at p rest (length p) refl

-- where a message's value stands in the frame of a payload
frame_stands : (p : List ℕ) (key : List ℕ) (x : Value) (tag : ℕ) → p ≡ spelling key x tag → Stands (frame_of p) (1 + length (encode_string key)) x
unfolding frame_of
frame_stands p key x tag e =
    stands_in (frame_of p) (hex_header (length p)) p (encode_string key) (encode x) (encode_tag tag ++ (letter_e ∷ [])) [] (header_length_lem (length p)) (ap (λ (l : List ℕ). hex_header (length p) ++ l) (sym (append-nil p))) e

-- ---- the statements
module _ (profile : Profile) (key tag n : ℕ) (given : Given) (s rest : List ℕ) (w : Passed key given s tag n) (d : Handed profile (class_of key) given s (1 + length (encode_string (key_text key)))) where
  spelt : payload_of key given s tag ≡ spelling (key_text key) d.value tag
  spelt = payload_again key given s tag (key_text key) d.value refl d.same

  payload_value : payload_of key given s tag ≡ encode (message_value (key_text key) d.value tag)
  payload_value = spelt ∙ sym (message_text (key_text key) d.value tag w.tagged)

  -- the answer that the frame's value means
  meant : meaning n (message_value (key_text key) d.value tag) ≡ accepted n key tag (content_of d.held)
  meant =
      let k : key_number (key_text key) ≡ key = key_again key w.written in
      let j : judged (class_of (key_number (key_text key))) (1 + length (encode_string (key_text key))) d.value ≡ Some d.held =
      ap (λ (i : ℕ). judged (class_of i) (1 + length (encode_string (key_text key))) d.value) k ∙ d.judges in
      message_meant n (key_text key) d.value tag d.held w.tagged j ∙ ap (λ (i : ℕ). accepted n i tag (content_of d.held)) k

  message_reads : read_frame_by profile (frame_of (payload_of key given s tag) ++ rest) ≡ accepted n key tag (content_of d.held)
  message_reads =
      let v = message_value (key_text key) d.value tag in
      let size : length (payload_of key given s tag) ≡ length (encode v) = ap length payload_value in
      let used : header_length + length (encode v) ≡ n = omega (arith, w.counted.count) in
      ap (λ (p : List ℕ). read_frame_by profile (frame_of p ++ rest)) payload_value
      ∙ frame_reads profile v (accepted n key tag (content_of d.held)) rest (message_formed profile (key_text key) d.value tag w.tagged d.formed) (omega (arith, w.counted.small)) (ap (λ (m : ℕ). meaning m v) used ∙ meant)

pub reads_back_by : ReadsBackBy
reads_back_by profile key tag room n given s rest fits e =
    let w = passed key given s tag room n e in
    let d = handed profile s (1 + length (encode_string (key_text key))) (class_of key) given fits w.fits in (
      content_of d.held,
      message_reads profile key tag n given s rest w d,
      d.names (frame_of (payload_of key given s tag)) (frame_stands (payload_of key given s tag) (key_text key) d.value tag (spelt profile key tag n given s rest w d)),
    )

pub reads_back : ReadsBack
unfolding read_frame
reads_back = reads_back_by Profile.Loose

pub buffer_reads_back : BufferReadsBack
buffer_reads_back key tag n given s before after fits o =
    let r = reads_back key tag (length before) n given s (drop (length (frame_of (payload_of key given s tag))) before) fits (sym o.answered) in
    (r.0, ap read_frame o.buffer ∙ r.1, r.2)

-- ---- handshakes
-- a handshake that is written has a range
record Ranged (low high n : ℕ) : Type 0 where
  range : IsRange low high
  counted : Counted (encode (handshake_value low high)) n

ranged : (low high room n : ℕ) → handshake_written low high room ≡ Ok n → Ranged low high n
unfolding handshake_written handshake_payload
ranged low high room n e = go (range_of (pos low) (pos high)) refl e
  where
    go : (x : Option Versions) → range_of (pos low) (pos high) ≡ x → range_written (encode (handshake_value low high)) room x ≡ Ok n → Ranged low high n
    go (Some v) q e = record { range = (range_made low high v q).0; counted = fitted_counted (encode (handshake_value low high)) room n e }
    go None q e = let z : ◌≡◌ {A = ℕ} 0 1 = cc in absurd (omega arith)

handshake_formed : (low high : ℕ) → IsRange low high → WellFormed Profile.Loose largest_depth (handshake_value low high)
unfolding key_fault text_from is_used same ascii
handshake_formed low high r =
    let low_fits : low < 2 ^ 63 = omega (arith, r.ordered, r.small) in
    let high_fits : high < 2 ^ 63 = omega (arith, r.small) in
    (refl, (refl, low_fits, (refl, high_fits, tt)), tt)

handshake_meant : (used low high : ℕ) → IsRange low high → meaning used (handshake_value low high) ≡ accepted_handshake used low high
unfolding same ascii
handshake_meant used low high r = ap (versions_answer used) (range_is low high r)

pub handshake_reads_back : HandshakeReadsBack
unfolding handshake_payload read_frame
handshake_reads_back low high room n rest e =
    let w = ranged low high room n e in
    let v = handshake_value low high in
    frame_reads Profile.Loose v (accepted_handshake n low high) rest (handshake_formed low high w.range) w.counted.small
    (ap (λ (m : ℕ). meaning m v) w.counted.count ∙ handshake_meant n low high w.range)

-- its keys do not rise
handshake_unsorted : (low high : ℕ) → WellFormed Profile.Strict largest_depth (handshake_value low high) → ⊥
unfolding key_fault text_from is_used is_above same less ascii
handshake_unsorted low high g =
    let unsorted : Some Cause.UnsortedKey ≡ None = g.1.2.0 in
    let z : ◌≡◌ {A = ℕ} 0 1 = cc in
    omega arith

pub handshake_not_strict : HandshakeNotStrict
unfolding handshake_payload
handshake_not_strict low high room n rest e = go (ℕ_discrete (read_frame_by Profile.Strict (frame_of (encode v) ++ rest)).code 11)
  where
    v : Value
    v = handshake_value low high

    go : Dec ((read_frame_by Profile.Strict (frame_of (encode v) ++ rest)).code ≡ 11) → (read_frame_by Profile.Strict (frame_of (encode v) ++ rest)).code ≡ 11
    go (yes is) = is
    go (no other) =
        let s = frame_of (encode v) ++ rest in
        let a = accepted_handshake n low high in
        let f = (accepts_exactly_by Profile.Strict s a (inl refl)).0 (strict_is_loose s other ∙ handshake_reads_back low high room n rest e) in
        let payload : f.payload ≡ v = one_value f.payload v (front_payload Profile.Strict (encode v) rest a (ranged low high room n e).counted.small f) in
        absurd (handshake_unsorted low high (subst (λ (x : Value). WellFormed Profile.Strict largest_depth x) payload f.formed))
