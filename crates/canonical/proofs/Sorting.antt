-- What the specs say of sorting payloads.
-- Assumes nothing.
use Prim.Native.Nat.{ℕ}
use mathlib.Core.Path.{◌≡◌, sym, ap, subst, ◌∙◌}
use mathlib.Core.List.{List, [], append-nil}
use native.Mathlib.Omega.{arith}
use lib.ListN.{length}
use Rattle.octets.specs.Bytes.{Begins}
use Rattle.bencode.specs.declared.profile.Profile.{Profile}
use Rattle.bencode.specs.Depth.{largest_depth}
use Rattle.bencode.specs.Fault.{code_of}
use Rattle.bencode.specs.Judge.{Means}
use Rattle.bencode.specs.Value.{Value, encode}
use Rattle.bencode.specs.Walk.{payload_code}
use Rattle.bencode.proofs.Grammar.{accepts_exactly}
use Rattle.bencode.proofs.OneValue.{one_value}
use Rattle.bencode.proofs.Judgement.{means_one, means_walked}
use Rattle.bencode.proofs.StrictIsLoose.{strict_is_loose}
use Rattle.canonical.specs.Order.{sorted}
use Rattle.canonical.specs.SortWalk.{sorted_payload}
use Rattle.canonical.specs.Demands.{Accepted, SortsPayload, SortsToOne, SortedIsStrict, SortedLength, StrictStays, SortsOnce, OneSorter}
use Rattle.canonical.proofs.values.SameLaws.{alike_same, same_alike}
use Rattle.canonical.proofs.values.Strictly.{strict_unchanged, sorted_strict, sorted_twice}
use Rattle.canonical.proofs.values.Lengths.{length_sorted}
use Rattle.canonical.proofs.walks.SortWalks.{sorts_at}

-- an encoding stands at its own front
at_front : (s x : List ℕ) → s ≡ x → Begins s 0 x (length x)
at_front s x e = record { rest = []; is = e ∙ sym (append-nil x); ends = omega arith }

pub sorts_payload : SortsPayload
sorts_payload s v m = sorts_at largest_depth v s 0 (length (encode v)) m.0 (at_front s (encode v) m.1)

-- what an accepted payload means
pub accepted_means : (p : Profile) (s : List ℕ) → Accepted p s → (v : Value) × Means p s v
accepted_means p s e = let r = (accepts_exactly p s).0 e in (r.0, (r.1, r.2))

pub sorted_length : SortedLength
sorted_length s e =
    let r = accepted_means Profile.Loose s e in
    let v = r.0 in
    ap length (sorts_payload s v r.1) ∙ length_sorted v ∙ sym (ap length r.1.1)

-- what the strict profile accepts, the loose one accepts
strict_loose : (s : List ℕ) → Accepted Profile.Strict s → Accepted Profile.Loose s
unfolding payload_code
strict_loose s e = sym (strict_is_loose s (λ q. let z : ◌≡◌ {A = ℕ} 0 11 = sym (ap code_of e) ∙ q in omega arith)) ∙ e

-- and means the same by it
strict_means : (s : List ℕ) (v : Value) → Means Profile.Strict s v → Means Profile.Loose s v
strict_means s v m =
    let r = accepted_means Profile.Loose s (strict_loose s (means_walked Profile.Strict s v m)) in
    subst (λ (w : Value). Means Profile.Loose s w) (means_one Profile.Loose Profile.Strict s r.0 v r.1 m) r.1

pub sorts_to_one : SortsToOne
sorts_to_one s t v w m n =
    let a = sorts_payload s v m in
    let b = sorts_payload t w n in (
      λ e. alike_same v w (one_value (sorted v) (sorted w) (sym a ∙ e ∙ b)),
      λ h. a ∙ ap encode (same_alike largest_depth v w m.0 n.0 h) ∙ sym b,
    )

pub sorted_is_strict : SortedIsStrict
sorted_is_strict s v m =
    let w : Means Profile.Strict (sorted_payload s) (sorted v) = (sorted_strict largest_depth v m.0, sorts_payload s v m) in
    (means_walked Profile.Strict (sorted_payload s) (sorted v) w, sorted v, w, alike_same v (sorted v) (sym (sorted_twice largest_depth v m.0)))

pub strict_stays : StrictStays
strict_stays s e =
    let r = accepted_means Profile.Strict s e in
    let v = r.0 in
    sorts_payload s v (strict_means s v r.1) ∙ ap encode (strict_unchanged largest_depth v r.1.0) ∙ sym r.1.1

pub sorts_once : SortsOnce
sorts_once s e =
    let r = accepted_means Profile.Loose s e in
    strict_stays (sorted_payload s) (sorted_is_strict s r.0 r.1).0

pub one_sorter : OneSorter
one_sorter sort h s e =
    let r = accepted_means Profile.Loose s e in
    let v = r.0 in
    let o = h s v r.1 in
    let w = o.1 in
    let strict = o.2.0 in
    o.2.1
    ∙ ap encode (sym (strict_unchanged largest_depth w strict) ∙ sym (same_alike largest_depth v w r.1.0 (strict_means (sort s) w o.2).0 o.3))
    ∙ sym (sorts_payload s v r.1)
