-- Bytes that are a list of torrent IDs are the encoding of a list of values that are torrent IDs.
-- Assumes nothing.
use Prim.Native.Nat.{ℕ, zero, suc, ◌+◌, ◌-◌, ◌≤◌}
use mathlib.Core.Path.{◌≡◌, refl, sym, ap, ◌∙◌}
use mathlib.Core.Bool.{Bool, true, false, cond, ◌&&◌}
use mathlib.Core.List.{List, [], append-nil}
use native.Mathlib.Omega.{arith}
use borrow.Author.Tests.{eqb-true, eq-eqb, leb-true}
use lib.Dec.{eqb, leb}
use lib.IntN.{ℤ, pos, negsuc}
use lib.ListN.{length}
use Rattle.bencode.specs.declared.fault.Fault.{Fault}
use Rattle.bencode.specs.declared.integers.Number.{Number}
use Rattle.bencode.specs.declared.profile.Profile.{Profile}
use Rattle.octets.specs.Bytes.{byte_at, Begins}
use Rattle.bencode.specs.Letters.{letter_l}
use Rattle.bencode.specs.Depth.{largest_depth}
use Rattle.bencode.specs.Fault.{fault, Walk}
use Rattle.bencode.specs.Integers.{InRange, integer_at, within, number_of}
use Rattle.bencode.specs.Loop.{LoopStep, done, after_step, repeat, item_step}
use Rattle.bencode.specs.Scalar.{scalar_at}
use Rattle.bencode.specs.Value.{Value, integer, string, list, dictionary, Values, no_value, value, encode, All, WellFormed}
use Rattle.bencode.specs.Walk.{onward, list_step, list_from, value_at, payload_at}
use Rattle.bencode.proofs.walking.Ends.{SignedInteger, plus, minus, integer_inv}
use Rattle.bencode.proofs.Grammar.{accepts_exactly}
use Rattle.bencode.proofs.Lookups.{starts, items_begin}
use Rattle.octets.proofs.sequences.Order.{clash}
use Rattle.bencode.proofs.walking.WalkLaws.{value_scalar, value_list}
use Rattle.ipc.specs.declared.format.Items.{Items}
use Rattle.ipc.specs.Format.{end_by_id, end_of_id, id_end, item_end, past_item, items_end}
use Rattle.ipc.specs.Demands.{IdList, IdListExactly}
use Rattle.ipc.specs.Ids.{largest_id, torrent_id_of}
use Rattle.ipc.specs.Meaning.{is_id_value, every}
use Rattle.ipc.specs.Writer.{ends_at, is_id_list}
use Rattle.ipc.proofs.meaning.Inverts.{and_left, and_right}
use Rattle.ipc.proofs.meaning.Means.{end_if, items_mean}
use Rattle.ipc.specs.declared.ids.TorrentId.{TorrentId}
use Rattle.std.specs.Prelude.{Option, Some, None, Result, Ok, Err}
use Rattle.bencode.specs.declared.fault.Cause.{Cause}

-- ---- a torrent ID is a value
-- an integer begins with `i`
integer_first : (p : List ℕ) (at : ℕ) (z : ℤ) (end : ℕ) → SignedInteger p at z end → byte_at p at ≡ 105
integer_first p at z end (plus b w) = b
integer_first p at z end (minus b c d w) = b

integer_value_lem : (levels : ℕ) (p : List ℕ) (at : ℕ) (z : ℤ) (end : ℕ) → integer_at p at ≡ Ok (number_of z end) → value_at Profile.Loose levels p at ≡ Ok end
unfolding scalar_at
integer_value_lem levels p at z end e =
    let first : byte_at p at ≡ 105 = integer_first p at z end (integer_inv p at z end e) in
    sym (value_scalar Profile.Loose levels p at (λ q. omega arith) (λ q. omega arith)) ∙ rw (eq-eqb (byte_at p at) 105 first, e) refl

id_value : (levels : ℕ) (p : List ℕ) (at end : ℕ) → item_end Items.Ids p at ≡ Some end → value_at Profile.Loose levels p at ≡ Ok end
unfolding item_end id_end
id_value levels p at end e = go (integer_at p at) refl e
  where
    known : (z : ℤ) (k : ℕ) → integer_at p at ≡ Ok (number_of z k) → (id : Option TorrentId) → end_by_id k id ≡ Some end → value_at Profile.Loose levels p at ≡ Ok end
    known z k q (Some id) e = let i : k ≡ end = cc in integer_value_lem levels p at z k q ∙ ap (λ (n : ℕ). Ok n) i
    known z k q None e = let n : ◌≡◌ {A = ℕ} 0 1 = cc in absurd (omega arith)

    go : (n : Result Number Fault) → integer_at p at ≡ n → end_of_id n ≡ Some end → value_at Profile.Loose levels p at ≡ Ok end
    go (Ok n) q e = known n.value n.end q (torrent_id_of n.value) e
    go (Err f) q e = let n : ◌≡◌ {A = ℕ} 0 1 = cc in absurd (omega arith)

-- ---- a list of them is a value
module _ (p : List ℕ) (item : ℕ → Option ℕ) (value : ℕ → Walk) (each : (at end : ℕ) → item at ≡ Some end → value at ≡ Ok end) (f : Fault) (end : ℕ) where
  -- a step over the items, as `items_end` takes it
  abbrev step : ℕ → Unit {0} → LoopStep (Unit {0}) (Option ℕ)
  step = item_step p (λ to x. Some to) (λ to x. past_item (item to) x)

  -- the same steps, where each item is a value up to its end
  steps_same : (n at : ℕ) → repeat step None n at tt ≡ Some end → repeat (list_step value p) (Err f) n at tt ≡ Ok end
  unfolding repeat
  steps_same zero at e = let z : ◌≡◌ {A = ℕ} 0 1 = cc in absurd (omega arith)
  steps_same (suc n) at e = go (eqb (byte_at p at) 101) (item at) refl e (λ to q. steps_same n to q)
    where
      go : (t : Bool) (i : Option ℕ) → item at ≡ i → after_step (cond t (done (Some (at + 1))) (past_item i tt)) (λ to y. repeat step None n to y) ≡ Some end
          → ((to : ℕ) → repeat step None n to tt ≡ Some end → repeat (list_step value p) (Err f) n to tt ≡ Ok end)
          → after_step (cond t (done (Ok (at + 1))) (onward (value at) tt)) (λ to y. repeat (list_step value p) (Err f) n to y) ≡ Ok end
      go true i q e rec = let k : at + 1 ≡ end = cc in ap (λ (n : ℕ). Ok n) k
      go false (Some k) q e rec = rw (each at k q) (rec k e)
      go false None q e rec = let z : ◌≡◌ {A = ℕ} 0 1 = cc in absurd (omega arith)

ids_value : (p : List ℕ) (end : ℕ) → byte_at p 0 ≡ letter_l → items_end Items.Ids p 1 ≡ Some end → value_at Profile.Loose largest_depth p 0 ≡ Ok end
unfolding list_from items_end
ids_value p end b e =
    sym (value_list Profile.Loose largest_depth 15 p 0 refl b)
    ∙ steps_same p (item_end Items.Ids p) (value_at Profile.Loose 15 p) (id_value 15 p) (fault Cause.Syntax 1) end (suc (length p - 1)) 1 e

ids_payload : (p : List ℕ) → byte_at p 0 ≡ letter_l → items_end Items.Ids p 1 ≡ Some (length p) → payload_at Profile.Loose p ≡ Ok (length p)
unfolding payload_at
ids_payload p b e = rw (ids_value p (length p) b e, eq-eqb (length p) (length p) refl) refl

-- ---- which values it holds
-- torrent IDs are well formed at any level
id_range : (z : ℤ) → within 1 largest_id z ≡ true → InRange z
id_range (pos n) e = let h : n ≤ largest_id = leb-true n largest_id (and_right (leb 1 n) (leb n largest_id) e) in omega arith
id_range (negsuc n) e = clash false e refl

id_formed : (profile : Profile) (levels : ℕ) (v : Value) → is_id_value v ≡ true → WellFormed profile levels v
id_formed profile zero (integer z) e = id_range z e
id_formed profile (suc levels) (integer z) e = id_range z e
id_formed profile levels (string text) e = clash false e refl
id_formed profile levels (list vs) e = clash false e refl
id_formed profile levels (dictionary es) e = clash false e refl

ids_formed : (profile : Profile) (levels : ℕ) (vs : Values) → every is_id_value vs ≡ true → All (WellFormed profile levels) vs
ids_formed profile levels no_value e = tt
ids_formed profile levels (value v vs) e = (id_formed profile levels v (and_left (is_id_value v) (every is_id_value vs) e), ids_formed profile levels vs (and_right (is_id_value v) (every is_id_value vs) e))

-- the level that a list takes is a variable here: a numeral would be written out
pub id_list_formed : (profile : Profile) (levels : ℕ) (vs : Values) → every is_id_value vs ≡ true → WellFormed profile (suc levels) (list vs)
id_list_formed profile levels vs e = ids_formed profile levels vs e

-- an end is one of items that pass the test
ended : (t : Bool) (e k : ℕ) → end_if t e ≡ Some k → t ≡ true
ended true e k q = refl
ended false e k q = let z : ◌≡◌ {A = ℕ} 0 1 = cc in absurd (omega arith)

all_begins : (s x : List ℕ) → s ≡ x → Begins s 0 x (length s)
all_begins s x e = record { rest = []; is = e ∙ sym (append-nil x); ends = omega (arith, ap length e) }

-- the level that a list takes is a variable again
each_id : (levels : ℕ) (s : List ℕ) (vs : Values) → WellFormed Profile.Loose (suc levels) (list vs) → Begins s 0 (encode (list vs)) (length s) → items_end Items.Ids s 1 ≡ Some (length s) → every is_id_value vs ≡ true
each_id levels s vs g b e = ended (every is_id_value vs) (length s) (length s) (sym (items_mean Profile.Loose s levels Items.Ids vs 1 (length s) g (items_begin s 0 (length s) vs b)) ∙ e)

ids_encoded : (s : List ℕ) → byte_at s 0 ≡ letter_l → items_end Items.Ids s 1 ≡ Some (length s) → IdList s
ids_encoded s first e =
    let r = (accepts_exactly Profile.Loose s).0 (ids_payload s first e) in
    kinds r.0 r.1 r.2 (all_begins s (encode r.0) r.2)
  where
    kinds : (v : Value) → WellFormed Profile.Loose largest_depth v → s ≡ encode v → Begins s 0 (encode v) (length s) → IdList s
    kinds (integer z) g q b = absurd (omega (arith, starts (integer z) s 0 (length s) b))
    kinds (string text) g q b = absurd (omega (arith, starts (string text) s 0 (length s) b))
    kinds (list vs) g q b = record { ids = vs; each = each_id 15 s vs g b e; is = q }
    kinds (dictionary es) g q b = absurd (omega (arith, starts (dictionary es) s 0 (length s) b))

-- an end at an offset
ends_there : (end : ℕ) (i : Option ℕ) → ends_at end i ≡ true → i ≡ Some end
ends_there end (Some e) q = ap (λ (k : ℕ). Some k) (eqb-true e end q)
ends_there end None q = clash false q refl

id_list_lem : (s : List ℕ) → is_id_list s ≡ true → IdList s
unfolding is_id_list
id_list_lem s e = go (eqb (byte_at s 0) letter_l) refl e
  where
    go : (t : Bool) → eqb (byte_at s 0) letter_l ≡ t → t && ends_at (length s) (items_end Items.Ids s 1) ≡ true → IdList s
    go true q e = ids_encoded s (eqb-true (byte_at s 0) letter_l q) (ends_there (length s) (items_end Items.Ids s 1) e)
    go false q e = clash false e refl

-- ---- and the other way round
list_first : (s : List ℕ) (vs : Values) → Begins s 0 (encode (list vs)) (length s) → byte_at s 0 ≡ letter_l
list_first s vs b = starts (list vs) s 0 (length s) b

list_id : (s : List ℕ) → IdList s → is_id_list s ≡ true
unfolding is_id_list
list_id s d =
    let b = all_begins s (encode (list d.ids)) d.is in
    let ends : items_end Items.Ids s 1 ≡ end_if (every is_id_value d.ids) (length s) = items_mean Profile.Loose s 0 Items.Ids d.ids 1 (length s) (ids_formed Profile.Loose 0 d.ids d.each) (items_begin s 0 (length s) d.ids b) in
    rw (eq-eqb (byte_at s 0) letter_l (list_first s d.ids b), ends, d.each, eq-eqb (length s) (length s) refl) refl

pub id_list_exactly : IdListExactly
id_list_exactly s = (id_list_lem s, list_id s)
