-- The daemon reads the IDs of a list as they were written.
-- Assumes nothing.
use Prim.Native.Nat.{ℕ, zero, suc, ◌+◌, ◌≤◌}
use native.Mathlib.Omega.{arith}
use mathlib.Core.Path.{◌≡◌, refl, sym, ap, subst, ◌∙◌}
use mathlib.Core.Bool.{true}
use mathlib.Core.List.{List, [], ◌∷◌, ◌++◌, append-nil}
use lib.IntN.{pos}
use lib.ListN.{length, length-append}
use lib.Dec.{leb}
use borrow.Author.Tests.{leb-true}
use Rattle.bencode.specs.declared.profile.Profile.{Profile}
use Rattle.octets.specs.Bytes.{byte_at, Begins}
use Rattle.bencode.specs.Integers.{InRange, integer_at}
use Rattle.bencode.specs.Value.{integer, encode, encode_all}
use Rattle.octets.proofs.sequences.BeginsLaws.{begins_left, begins_right, begins_head}
use Rattle.bencode.proofs.values.Encodings.{values_text}
use Rattle.bencode.proofs.scalars.IntegerLaws.{integer_other}
use Rattle.bencode.proofs.Lookups.{reads_integer}
use Rattle.ipc.specs.Ids.{largest_id}
use Rattle.desk.specs.Watch.{is_id, all_ids}
use Rattle.desk.specs.Command.{values, id_list}
use Rattle.desk.specs.Machine.{ids_from, ids_in}
use Rattle.desk.specs.Demands.{IdsRead}
use Rattle.desk.proofs.general.Cases.{both}

id_range : (x : ℕ) → is_id x ≡ true → InRange (pos x)
unfolding is_id
id_range x h = omega (arith, leb-true x largest_id (both (leb 1 x) _ h).1)

-- each ID is a byte at least
integer_length_lem : (x : ℕ) → 1 ≤ length (encode (integer (pos x)))
unfolding encode
integer_length_lem x = omega arith

values_length : (ids : List ℕ) → length ids ≤ length (encode_all (values ids))
unfolding encode values
values_length [] = omega arith
values_length (x ∷ xs) =
    omega (arith, values_length xs, integer_length_lem x, length-append (encode (integer (pos x))) (encode_all (values xs)))

list_length : (ids : List ℕ) → length ids ≤ length (id_list ids)
unfolding encode id_list
list_length ids = omega (arith, values_length ids, length-append (encode_all (values ids)) (101 ∷ []))

module _ (s : List ℕ) where
  -- at the end of the list no integer begins
  ids_end : (more at e : ℕ) → Begins s at (101 ∷ []) e → ids_from more s (integer_at s at) ≡ []
  unfolding ids_from
  ids_end zero at e b = refl
  ids_end (suc more) at e b =
      let byte : byte_at s at ≡ 101 = begins_head s at 101 e [] b in
      ap (ids_from (suc more) s) (sym (integer_other s at (λ q. omega arith)))

  items_read : (ids : List ℕ) (more at e : ℕ) → all_ids ids ≡ true → length ids ≤ more → Begins s at (encode_all (values ids) ++ (101 ∷ [])) e
      → ids_from more s (integer_at s at) ≡ ids
  unfolding ids_from all_ids values encode
  items_read [] more at e h few b = ids_end more at e b
  items_read (x ∷ xs) zero at e h few b = let impossible : ⊥ = omega arith in absurd impossible
  items_read (x ∷ xs) (suc more) at e h few b =
      let k = both (is_id x) _ h in
      let v = integer (pos x) in
      let c = subst (λ (l : List ℕ). Begins s at l e) (values_text v (values xs)) b in
      let first = begins_left s at e (encode v) (encode_all (values xs) ++ (101 ∷ [])) c in
      let rest = begins_right s at e (encode v) (encode_all (values xs) ++ (101 ∷ [])) c in
      ap (ids_from (suc more) s) (reads_integer Profile.Loose 0 v s at (at + length (encode v)) (id_range x k.0) first)
      ∙ ap (λ (l : List ℕ). x ∷ l) (items_read xs more (at + length (encode v)) e k.1 (omega arith) rest)

pub ids_read : IdsRead
unfolding ids_in id_list encode
ids_read ids h =
    items_read (id_list ids) ids (length (id_list ids)) 1 (length (id_list ids)) h (list_length ids)
    (record { rest = []; is = sym (append-nil (encode_all (values ids) ++ (101 ∷ []))); ends = omega arith })
