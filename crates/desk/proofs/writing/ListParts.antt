-- A list of torrent IDs, in the parts that it is put in.
-- Assumes nothing.
use Prim.Native.Nat.{ℕ, ◌+◌}
use mathlib.Core.Path.{◌≡◌, refl, ap}
use mathlib.Core.Bool.{true, false}
use mathlib.Core.List.{List, [], ◌∷◌, ◌++◌, flatten}
use lib.ListN.{drop}
use Rattle.octets.specs.Put.{Put}
use Rattle.bencode.specs.Value.{integer, encode, encode_all}
use Rattle.octets.proofs.writing.PutLaws.{Writing, next_put}
use lib.IntN.{pos}
use Rattle.desk.specs.declared.lists.Pick.{Pick}
use Rattle.desk.specs.declared.watch.Watch.{Watch}
use Rattle.desk.specs.Watch.{picked, filtered, pick_ids}
use Rattle.desk.specs.Command.{values, id_list}

-- a list: `l`, its items and `e`
abbrev pub list_parts : List ℕ → List (List ℕ)
list_parts ids = (108 ∷ []) ∷ encode_all (values ids) ∷ (101 ∷ []) ∷ []

pub list_parts_lem : (ids : List ℕ) → flatten (list_parts ids) ≡ id_list ids
unfolding flatten id_list encode
list_parts_lem ids = refl

-- items one by one
unfoldable pub item_parts : List ℕ → List (List ℕ)
item_parts [] = []
item_parts (x ∷ xs) = encode (integer (pos x)) ∷ item_parts xs

pub item_parts_lem : (ids : List ℕ) → flatten (item_parts ids) ≡ encode_all (values ids)
unfolding flatten item_parts values encode_all
item_parts_lem [] = refl
item_parts_lem (x ∷ xs) = ap (λ (l : List ℕ). encode (integer (pos x)) ++ l) (item_parts_lem xs)

-- ---- a loop over records that puts the IDs of those picked
module _ (pick : Pick) (ws : List Watch) (i : ℕ) (w : Watch) (next : drop i ws ≡ w ∷ drop (i + 1) ws) {a out : List ℕ} {at o : ℕ} {parts : List (List ℕ)}
    (left : Writing a at parts out o (item_parts (pick_ids pick (drop i ws)))) where
  pub item_put : {out' : List ℕ} {o' : ℕ} → picked pick w ≡ true → Put out o (encode (integer (pos w.id))) out' o' → Writing a at parts out' o' (item_parts (pick_ids pick (drop (i + 1) ws)))
  unfolding item_parts filtered
  item_put t p =
      let rest : item_parts (pick_ids pick (drop i ws)) ≡ encode (integer (pos w.id)) ∷ item_parts (pick_ids pick (drop (i + 1) ws)) = rw (next, t) refl in
      next_put (rw rest at left) p

  pub item_passed : picked pick w ≡ false → Writing a at parts out o (item_parts (pick_ids pick (drop (i + 1) ws)))
  unfolding filtered
  item_passed t =
      let rest : item_parts (pick_ids pick (drop i ws)) ≡ item_parts (pick_ids pick (drop (i + 1) ws)) = rw (next, t) refl in
      rw rest at left
