-- How long the desk's frames are.
-- Assumes nothing.
use Prim.Native.Nat.{ℕ, suc, ◌+◌, ◌*◌, ◌≤◌}
use mathlib.Core.Path.{◌≡◌, refl}
use mathlib.Core.Logic.{⊎_elim}
use mathlib.Core.Bool.{true}
use mathlib.Core.List.{List, [], ◌∷◌}
use native.Mathlib.Omega.{arith}
use borrow.Author.Tests.{leb-true}
use lib.Dec.{leb, eqb}
use lib.IntN.{ℤ, pos, negsuc}
use lib.ListN.{length, length-append}
use Rattle.octets.specs.Numerals.{decimal, decimal_before}
use Rattle.bencode.specs.Value.{integer, encode_string, encode, encode_all}
use Rattle.octets.proofs.digits.DigitLaws.{length_pos, length_below}
use Rattle.bencode.proofs.writing.PutParts.{integer_size}
use Rattle.ipc.specs.declared.writer.Given.{Given}
use Rattle.octets.specs.Ascii.{ascii}
use Rattle.ipc.specs.Ids.{largest_id, largest_tag}
use Rattle.ipc.specs.Keys.{key_text, class_of, listed}
use Rattle.ipc.specs.Writer.{encode_given, encode_tag, payload_of}
use Rattle.ipc.proofs.meaning.Inverts.{and_left, and_right}
use Rattle.ipc.proofs.writing.WriterLaws.{payload_length, frame_length}
use Rattle.desk.specs.Limit.{is_limit}
use Rattle.desk.specs.Watch.{most_watched, is_id, all_ids}
use Rattle.desk.specs.Command.{downlimit_key, start_key, stop_key, uplimit_key, values, id_list, message_frame, limit_frame, ids_frame, no_tag, longest_frames, LimitKey, ListKey}
use Rattle.desk.proofs.general.Cases.{cond_cases}

-- ---- integers
pub limit_small : (n : ℤ) → is_limit n ≡ true → length (encode (integer n)) ≤ 9
unfolding is_limit
limit_small (pos n) h =
    let small : n ≤ 1000000 = leb-true n 1000000 h in
    let digits : length (decimal n) ≤ 7 = length_below 7 n (omega arith) (omega arith) in
    omega (arith, integer_size (pos n), digits)
limit_small (negsuc n) h =
    let zero : n ≤ 0 = leb-true n 0 (and_left (leb n 0) true h) in
    let digits : length (decimal (suc n)) ≤ 1 = length_below 1 (suc n) (omega arith) (omega arith) in
    omega (arith, integer_size (negsuc n), digits)

id_small : (x : ℕ) → is_id x ≡ true → length (encode (integer (pos x))) ≤ 12
unfolding is_id
id_small x h =
    let small : x ≤ largest_id = leb-true x largest_id (and_right (leb 1 x) (leb x largest_id) h) in
    let digits : length (decimal x) ≤ 10 = length_below 10 x (omega arith) (omega arith) in
    omega (arith, integer_size (pos x), digits)

id_some : (x : ℕ) → 3 ≤ length (encode (integer (pos x)))
id_some x = omega (arith, integer_size (pos x), length_pos x)

-- ---- lists
pub list_length : (ids : List ℕ) → length (id_list ids) ≡ length (encode_all (values ids)) + 2
unfolding id_list encode
list_length ids = omega (arith, length-append (encode_all (values ids)) (101 ∷ []))

pub items_small : (ids : List ℕ) → all_ids ids ≡ true → length (encode_all (values ids)) ≤ 12 * length ids
unfolding all_ids values encode_all
items_small [] h = omega arith
items_small (x ∷ xs) h =
    omega (arith, length-append (encode (integer (pos x))) (encode_all (values xs)), id_small x (and_left (is_id x) (all_ids xs) h), items_small xs (and_right (is_id x) (all_ids xs) h))

-- a list of an ID is longer than an empty one
pub items_some : (x : ℕ) (xs : List ℕ) → 3 ≤ length (encode_all (values (x ∷ xs)))
unfolding values encode_all
items_some x xs = omega (arith, length-append (encode (integer (pos x))) (encode_all (values xs)), id_some x)

-- ---- frames
-- a tag, where there is one
pub tag_small : (tag : ℕ) → tag ≤ largest_tag → length (encode_tag tag) ≤ 12
unfolding encode_tag
tag_small tag h =
    let digits : length (decimal tag) ≤ 10 = length_below 10 tag (omega arith) (omega arith) in
    cond_cases (λ (l : List ℕ). length l ≤ 12) (eqb tag 0) (λ _. omega arith) (λ _. omega (arith, integer_size (pos tag), digits))

pub no_tag_lem : length (encode_tag no_tag) ≡ 0
unfolding encode_tag
no_tag_lem = refl

message_length : (tag key : ℕ) (given : Given) (s : List ℕ) → length (message_frame tag key given s) ≡ 10 + length (encode_string (key_text key)) + length (encode_given (class_of key) given s) + length (encode_tag tag)
unfolding message_frame
message_length tag key given s = omega (arith, frame_length (payload_of key given s tag), payload_length key given s tag)

-- the four keys: their texts' lengths are computed
pub down_length : (tag : ℕ) (n : ℤ) → length (limit_frame tag downlimit_key n) ≡ 21 + length (encode (integer n)) + length (encode_tag tag)
unfolding key_text class_of listed ascii encode_given decimal decimal_before
down_length tag n = message_length tag downlimit_key (Given.Integer n) []

pub up_length : (tag : ℕ) (n : ℤ) → length (limit_frame tag uplimit_key n) ≡ 19 + length (encode (integer n)) + length (encode_tag tag)
unfolding key_text class_of listed ascii encode_given decimal decimal_before
up_length tag n = message_length tag uplimit_key (Given.Integer n) []

pub start_length : (tag : ℕ) (ids : List ℕ) → length (ids_frame tag start_key ids) ≡ 17 + length (id_list ids) + length (encode_tag tag)
unfolding key_text class_of listed ascii encode_given decimal decimal_before
start_length tag ids = message_length tag start_key Given.Bytes (id_list ids)

pub stop_length : (tag : ℕ) (ids : List ℕ) → length (ids_frame tag stop_key ids) ≡ 16 + length (id_list ids) + length (encode_tag tag)
unfolding key_text class_of listed ascii encode_given decimal decimal_before
stop_length tag ids = message_length tag stop_key Given.Bytes (id_list ids)

-- ---- a frame of a request has room in the most bytes that a call writes
module _ (tag : ℕ) (small : tag ≤ largest_tag) where
  pub limit_room : (key : ℕ) (n : ℤ) → LimitKey key → is_limit n ≡ true → length (limit_frame tag key n) ≤ longest_frames
  limit_room key n k h =
      ⊎_elim
      (λ (q : key ≡ downlimit_key). rw q (omega (arith, down_length tag n, limit_small n h, tag_small tag small)))
      (λ (q : key ≡ uplimit_key). rw q (omega (arith, up_length tag n, limit_small n h, tag_small tag small)))
      k

  pub ids_room : (key : ℕ) (ids : List ℕ) → ListKey key → all_ids ids ≡ true → length ids ≤ most_watched → length (ids_frame tag key ids) ≤ longest_frames
  ids_room key ids k h few =
      ⊎_elim
      (λ (q : key ≡ start_key). rw q (omega (arith, start_length tag ids, list_length ids, items_small ids h, tag_small tag small)))
      (λ (q : key ≡ stop_key). rw q (omega (arith, stop_length tag ids, list_length ids, items_small ids h, tag_small tag small)))
      k

  pub one_room : (key : ℕ) (x : ℕ) → ListKey key → is_id x ≡ true → length (ids_frame tag key (x ∷ [])) ≤ longest_frames
  unfolding all_ids
  one_room key x k h = ids_room key (x ∷ []) k (rw h refl) (omega arith)
