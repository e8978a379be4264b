-- Frames are answered by the rows of document 01's table, and accepted exactly as the grammar has them.
-- Assumes nothing.
use Prim.Native.Nat.{ℕ, zero, suc, ◌+◌, ◌-◌, ◌*◌, ◌≤◌, ◌<◌}
use mathlib.Core.Path.{◌≡◌, refl, sym, ap, subst, ◌∙◌}
use mathlib.Core.Bool.{Bool, true, false, ◌&&◌, ◌||◌}
use mathlib.Core.Logic.{◌⊎◌, ⊎_elim}
use mathlib.Core.List.{List, [], ◌∷◌, ◌++◌, append-nil}
use native.Mathlib.Omega.{arith}
use native.Mathlib.Decide.{dec_lt}
use borrow.Author.Tests.{eqb-true, leb-true}
use lib.Dec.{leb}
use lib.ListN.{length, take, drop, length-append, take-append-drop}
use lib.Seq.{length-take-le, take-append_seam, drop_at}
use Rattle.bencode.specs.declared.profile.Profile.{Profile}
use Rattle.octets.specs.Bytes.{byte_at, slice, Begins}
use Rattle.bencode.specs.Depth.{largest_depth}
use Rattle.bencode.specs.Walk.{payload_at}
use Rattle.bencode.specs.Value.{Value, integer, string, list, dictionary, encode, WellFormed}
use Rattle.bencode.proofs.Grammar.{accepts_exactly as payload-accepts}
use Rattle.bencode.proofs.Judgement.{walked_whole}
use Rattle.bencode.proofs.Lookups.{starts, items_begin, entries_begin}
use Rattle.std.specs.Prelude.{Ok, Err}
use Rattle.ipc.specs.declared.reading.Refusal.{Refusal}
use Rattle.ipc.specs.Answer.{Answer, refused, answer_of}
use Rattle.ipc.specs.Header.{largest_payload, protocol_payload, hex_value, header_in, read_header}
use Rattle.ipc.specs.Reader.{payload_reading, reading_by, read_frame_by, read_frame}
use Rattle.ipc.specs.Meaning.{meaning}
use Rattle.ipc.specs.Demands.{HexDigits, none, more, hex_from, FramedBy, AnswersMeaningBy, AnswersMeaning, AcceptsExactlyBy, AcceptsExactly, Headed, AnswerRowBy, framed, short_header, short_payload, no_digit, over_protocol, over_limit, payload_fault, AnswersByRowBy, AnswersByRow}
use Rattle.ipc.proofs.headers.HeaderLaws.{in_some, in_none}
use Rattle.ipc.proofs.frames.ReaderLaws.{payload_fault as fault-payload, payload_dictionary, payload_list, payload_scalar, length_short, length_there, sized_fits, sized_over_limit, sized_over_protocol, frame_refused, frame_sized}
use Rattle.ipc.proofs.meaning.Messages.{message_means}
use Rattle.bencode.specs.Key.{is_order_code, is_fault_code}
use Rattle.octets.proofs.sequences.Order.{clash}
use Rattle.bencode.proofs.FaultCodes.{faults_coded}
use Rattle.ipc.proofs.meaning.Handshakes.{handshake_means}
use Rattle.bencode.specs.Fault.{Walk, cause_code}

-- ---- payloads
-- the answer to the encoding of a well-formed value is what it means. Over any number of levels: with 16 antt writes all of
-- them out
walked_means : (profile : Profile) (levels : ℕ) (v : Value) → WellFormed profile levels v → payload_at profile (encode v) ≡ Ok (length (encode v)) → Begins (encode v) 0 (encode v) (length (encode v))
    → answer_of (payload_reading profile (encode v)) ≡ meaning (8 + length (encode v)) v
walked_means profile levels (integer z) h e b =
    let p = encode (integer z) in
    let first : byte_at (encode (integer z)) 0 ≡ 105 = starts (integer z) p 0 (length p) b in
    ap answer_of (sym (payload_scalar profile p (length p) e (λ q. omega arith) (λ q. omega arith)))
walked_means profile levels (string text) h e b =
    let p = encode (string text) in
    let first : byte_at (encode (string text)) 0 ≤ 57 = (starts (string text) p 0 (length p) b).1 in
    ap answer_of (sym (payload_scalar profile p (length p) e (λ q. omega arith) (λ q. omega arith)))
walked_means profile zero (list vs) h e b = absurd h
walked_means profile (suc levels) (list vs) h e b =
    let p = encode (list vs) in
    let first : byte_at (encode (list vs)) 0 ≡ 108 = starts (list vs) p 0 (length p) b in
    ap answer_of (sym (payload_list profile p (length p) e (λ q. omega arith) first)) ∙ message_means profile levels p vs h (items_begin p 0 (length p) vs b)
walked_means profile zero (dictionary es) h e b = absurd h
walked_means profile (suc levels) (dictionary es) h e b =
    let p = encode (dictionary es) in
    ap answer_of (sym (payload_dictionary profile p (length p) e (starts (dictionary es) p 0 (length p) b))) ∙ handshake_means profile p levels es (length p) h (entries_begin p 0 (length p) es b)

pub payload_means : (profile : Profile) (v : Value) → WellFormed profile largest_depth v → answer_of (payload_reading profile (encode v)) ≡ meaning (8 + length (encode v)) v
payload_means profile v h = walked_means profile largest_depth v h ((payload-accepts profile (encode v)).1 (v, h, refl)) (record { rest = []; is = sym (append-nil (encode v)); ends = omega arith })

-- ---- headers
header_before : (ds rest : List ℕ) (k i v : ℕ) → length ds ≡ k → HexDigits ds → header_in k i v (ds ++ rest) ≡ Ok (hex_from v ds)
unfolding hex_from header_in
header_before [] rest zero i v e p = refl
header_before [] rest (suc k) i v e p = absurd (omega arith)
header_before (c ∷ cs) rest zero i v e p = absurd (omega arith)
header_before (c ∷ cs) rest (suc k) i v e (more h p) = in_some k i v c (cs ++ rest) h ∙ header_before cs rest k (i + 1) (16 * v + hex_value c) (omega arith) p

header_short : (ds : List ℕ) (k i v : ℕ) → length ds < k → HexDigits ds → header_in k i v ds ≡ Err Refusal.Incomplete
unfolding header_in
header_short ds zero i v e p = absurd (omega arith)
header_short [] (suc k) i v e p = refl
header_short (c ∷ cs) (suc k) i v e (more h p) = in_some k i v c cs h ∙ header_short cs k (i + 1) (16 * v + hex_value c) (omega arith) p

header_no_digit : (ds rest : List ℕ) (c k i v : ℕ) → length ds < k → HexDigits ds → 16 ≤ hex_value c → header_in k i v (ds ++ (c ∷ rest)) ≡ Err (Refusal.NoDigit (i + length ds))
header_no_digit ds rest c zero i v e p h = absurd (omega arith)
header_no_digit [] rest c (suc k) i v e p h = in_none k i v c rest h ∙ ap (λ (n : ℕ). Err (Refusal.NoDigit n)) (omega arith)
header_no_digit (d ∷ ds) rest c (suc k) i v e (more g p) h =
    in_some k i v d (ds ++ (c ∷ rest)) g ∙ header_no_digit ds rest c k (i + 1) (16 * v + hex_value d) (omega arith) p h ∙ ap (λ (n : ℕ). Err (Refusal.NoDigit n)) (omega arith)

-- what the first k bytes are: hex digits; fewer of them, and no other byte; or a byte that is none
data Digits (k : ℕ) (s : List ℕ) : Type 0 where
  all : (ds rest : List ℕ) → s ≡ ds ++ rest → length ds ≡ k → HexDigits ds → Digits k s
  fewer : HexDigits s → length s < k → Digits k s
  other : (ds rest : List ℕ) (c : ℕ) → s ≡ ds ++ (c ∷ rest) → HexDigits ds → length ds < k → 16 ≤ hex_value c → Digits k s

digits_after : (k c : ℕ) (cs : List ℕ) → hex_value c < 16 → Digits k cs → Digits (suc k) (c ∷ cs)
digits_after k c cs h (all ds rest is n p) = all (c ∷ ds) rest (ap (λ (l : List ℕ). c ∷ l) is) (ap suc n) (more h p)
digits_after k c cs h (fewer p n) = fewer (more h p) (omega arith)
digits_after k c cs h (other ds rest b is p n g) = other (c ∷ ds) rest b (ap (λ (l : List ℕ). c ∷ l) is) (more h p) (omega arith) g

digits_of : (k : ℕ) (s : List ℕ) → Digits k s
digits_of zero s = all [] s refl refl none
digits_of (suc k) [] = fewer none (omega arith)
digits_of (suc k) (c ∷ cs) = go (dec_lt (hex_value c) 16) (digits_of k cs)
  where
    go : Dec (hex_value c < 16) → Digits k cs → Digits (suc k) (c ∷ cs)
    go (yes h) d = digits_after k c cs h d
    go (no h) d = other [] cs c refl none (omega arith) (omega arith)

-- a fault's code is one from 5 to 11
fault_code : (profile : Profile) (c : ℕ) → is_fault_code profile c ≡ true → (5 ≤ c) × (c ≤ 11)
fault_code profile c e = go (leb 5 c) refl (leb c 10) refl profile e
  where
    order : (profile : Profile) → is_order_code profile c ≡ true → (5 ≤ c) × (c ≤ 11)
    order Profile.Loose e = clash false e refl
    order Profile.Strict e = let q : c ≡ 11 = eqb-true c 11 e in (omega arith, omega arith)

    go : (t : Bool) → leb 5 c ≡ t → (u : Bool) → leb c 10 ≡ u → (profile : Profile) → (t && u) || is_order_code profile c ≡ true → (5 ≤ c) × (c ≤ 11)
    go true p true q profile e = let l : c ≤ 10 = leb-true c 10 q in (leb-true 5 c p, omega arith)
    go true p false q profile e = order profile e
    go false p u q profile e = order profile e

-- a code between is neither 0 nor 20 or more
other_code : {X : Type 0} (c : ℕ) → 0 < c → c < 20 → (c ≡ 0) ⊎ (20 ≤ c) → X
other_code c l h judged = absurd (⊎_elim (λ (q : c ≡ 0). omega arith) (λ (q : 20 ≤ c). omega arith) judged)

-- ---- each row has its answer
module _ (profile : Profile) (s : List ℕ) where
  module _ (n : ℕ) (after : List ℕ) (h : Headed s n after) where
    headed_length : read_header s ≡ Ok n
    unfolding read_header
    headed_length = ap read_header h.is ∙ header_before h.header after 8 0 0 h.eight h.hex ∙ ap (λ (k : ℕ). Ok k) h.number

    headed_size : length s ≡ 8 + length after
    headed_size = ap length h.is ∙ length-append h.header after ∙ omega (arith, h.eight)

  -- the payload that a header counts
  headed_payload : (p after : List ℕ) → Headed s (length p) (p ++ after) → length p ≤ largest_payload → payload_reading profile p ≡ reading_by profile s
  headed_payload p after h small =
      let n = length p in
      let size : length s ≡ 8 + (n + length after) = headed_size n (p ++ after) h ∙ omega (arith, length-append p after) in
      let m : (8 + n) - 8 ≡ n = omega arith in
      let rest : drop 8 s ≡ p ++ after = ap (drop 8) h.is ∙ drop_at h.header (p ++ after) 8 h.eight in
      let payload : slice s 8 (8 + n) ≡ p = ap (λ (k : ℕ). take k (drop 8 s)) m ∙ ap (take n) rest ∙ take-append_seam p after in
      ap (payload_reading profile) (sym payload) ∙ length_there profile s n (omega arith) ∙ frame_sized profile s n (Ok (record { 0 = n })) (headed_length n (p ++ after) h) (sized_fits n small)

  row_answered : (a : Answer) → AnswerRowBy profile s a → a ≡ read_frame_by profile s
  unfolding read_header
  row_answered a (framed f) =
      let v = f.payload in
      let h : Headed s (length (encode v)) (encode v ++ f.rest) = record { header = f.header; is = f.is; eight = f.eight; hex = f.hex; number = f.number } in
      sym f.means ∙ sym (payload_means profile v f.formed) ∙ ap answer_of (headed_payload (encode v) f.rest h f.small)
  row_answered a (short_header p few) = ap answer_of (frame_refused profile s Refusal.Incomplete (header_short s 8 0 0 few p))
  row_answered a (short_payload n after h small few) =
      let size = headed_size n after h in
      ap answer_of (length_short profile s n (omega arith) ∙ frame_sized profile s n (Ok (record { 0 = n })) (headed_length n after h) (sized_fits n small))
  row_answered a (no_digit before after c is p few g) = ap answer_of (frame_refused profile s (Refusal.NoDigit (length before)) (ap read_header is ∙ header_no_digit before after c 8 0 0 few p g ∙ ap (λ (n : ℕ). Err (Refusal.NoDigit n)) (omega arith)))
  row_answered a (over_protocol n after h large) = ap answer_of (frame_sized profile s n (Err Refusal.OverProtocol) (headed_length n after h) (sized_over_protocol n large))
  row_answered a (over_limit n after h large small) = ap answer_of (frame_sized profile s n (Err Refusal.OverLimit) (headed_length n after h) (sized_over_limit n large small))
  row_answered a (payload_fault p after f h small e) = ap answer_of (fault-payload profile p f e ∙ headed_payload p after h small)

  -- ---- all bytes have a row
  payload_row : (p after : List ℕ) → Headed s (length p) (p ++ after) → length p ≤ largest_payload → (w : Walk) → payload_at profile p ≡ w → (a : Answer) × AnswerRowBy profile s a
  payload_row p after h small (Err f) e = (refused (cause_code f.cause) f.offset, payload_fault p after f h small e)
  payload_row p after h small (Ok end) e =
      let v = (payload-accepts profile p).0 (walked_whole profile p end e) in
      let size : length p ≡ length (encode v.0) = ap length v.2 in (
        meaning (8 + length (encode v.0)) v.0,
        framed (record {
          header = h.header;
          payload = v.0;
          rest = after;
          is = h.is ∙ ap (λ (l : List ℕ). h.header ++ (l ++ after)) v.2;
          eight = h.eight;
          hex = h.hex;
          number = h.number ∙ size;
          small = omega arith;
          formed = v.1;
          means = refl;
        }),
      )

  headed_row : (n : ℕ) (after : List ℕ) → Headed s n after → (a : Answer) × AnswerRowBy profile s a
  headed_row n after h = go (dec_lt protocol_payload n) (dec_lt largest_payload n) (dec_lt (length after) n)
    where
      go : Dec (protocol_payload < n) → Dec (largest_payload < n) → Dec (length after < n) → (a : Answer) × AnswerRowBy profile s a
      go (yes large) d e = (refused 3 0, over_protocol n after h large)
      go (no small) (yes large) e = (refused 4 0, over_limit n after h large (omega arith))
      go (no _) (no small) (yes few) = (refused 1 0, short_payload n after h (omega arith) few)
      go (no _) (no small) (no there) =
          let size : length (take n after) ≡ n = length-take-le n after (omega arith) in
          let parts : after ≡ take n after ++ drop n after = sym (take-append-drop n after) in
          payload_row (take n after) (drop n after)
          (record { header = h.header; is = h.is ∙ ap (λ (l : List ℕ). h.header ++ l) parts; eight = h.eight; hex = h.hex; number = h.number ∙ sym size })
          (omega arith) (payload_at profile (take n after)) refl

  row_of_lem : Digits 8 s → (a : Answer) × AnswerRowBy profile s a
  row_of_lem (all ds after is n p) = headed_row (hex_from 0 ds) after (record { header = ds; is = is; eight = n; hex = p; number = refl })
  row_of_lem (fewer p n) = (refused 1 0, short_header p n)
  row_of_lem (other ds after c is p n g) = (refused 2 (length ds), no_digit ds after c is p n g)

-- ---- the statements
pub answers_by_row_by : AnswersByRowBy
answers_by_row_by profile s a =
    let r = row_of_lem profile s (digits_of 8 s) in
    (λ e. subst (λ (b : Answer). AnswerRowBy profile s b) (row_answered profile s r.0 r.1 ∙ e) r.1, λ row. sym (row_answered profile s a row))

pub answers_meaning_by : AnswersMeaningBy
answers_meaning_by profile s a f = (answers_by_row_by profile s a).1 (framed f)

-- no other row has such an answer
accepted_framed : (profile : Profile) (s : List ℕ) (a : Answer) → (a.code ≡ 0) ⊎ (20 ≤ a.code) → AnswerRowBy profile s a → FramedBy profile s a
accepted_framed profile s a judged (framed f) = f
accepted_framed profile s a judged (short_header p few) = other_code 1 (omega arith) (omega arith) judged
accepted_framed profile s a judged (short_payload n after h small few) = other_code 1 (omega arith) (omega arith) judged
accepted_framed profile s a judged (no_digit before after c is p few g) = other_code 2 (omega arith) (omega arith) judged
accepted_framed profile s a judged (over_protocol n after h large) = other_code 3 (omega arith) (omega arith) judged
accepted_framed profile s a judged (over_limit n after h large small) = other_code 4 (omega arith) (omega arith) judged
accepted_framed profile s a judged (payload_fault p after f h small e) = let b = fault_code profile (cause_code f.cause) (faults_coded profile p f e) in other_code (cause_code f.cause) (omega arith) (omega arith) judged

pub accepts_exactly_by : AcceptsExactlyBy
accepts_exactly_by profile s a judged = (λ e. accepted_framed profile s a judged ((answers_by_row_by profile s a).0 e), answers_meaning_by profile s a)

-- ---- and in the loose profile
pub answers_by_row : AnswersByRow
unfolding read_frame
answers_by_row = answers_by_row_by Profile.Loose

pub answers_meaning : AnswersMeaning
unfolding read_frame
answers_meaning = answers_meaning_by Profile.Loose

pub accepts_exactly : AcceptsExactly
unfolding read_frame
accepts_exactly = accepts_exactly_by Profile.Loose
