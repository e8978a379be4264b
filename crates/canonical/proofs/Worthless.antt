-- Wrong sorters fall by the demand itself.
-- Assumes nothing.
use Prim.Native.Nat.{ℕ}
use Prim.Native.String.{String}
use mathlib.Core.Path.{◌≡◌, refl, sym, ap, ◌∙◌}
use mathlib.Core.List.{List}
use native.Mathlib.Omega.{arith}
use Rattle.octets.specs.Ascii.{ascii}
use Rattle.octets.specs.Bytes.{byte_at, same, less}
use Rattle.octets.specs.Numerals.{numeral_at, digits}
use Rattle.bencode.specs.declared.profile.Profile.{Profile}
use Rattle.bencode.specs.Strings.{string_at}
use Rattle.bencode.specs.Scalar.{scalar_at}
use Rattle.bencode.specs.Loop.{repeat}
use Rattle.bencode.specs.Utf8.{text_from}
use Rattle.bencode.specs.Key.{is_used, is_above, key_fault}
use Rattle.bencode.specs.Skip.{skip_from}
use Rattle.bencode.specs.Walk.{list_from, dictionary_from, value_at, payload_at}
use Rattle.canonical.specs.SortWalk.{rises_at, least_at, values_from, selected, entries_at, sorted_at, sorted_payload}
use Rattle.canonical.specs.Demands.{Accepted}
use Rattle.canonical.specs.Worthless.{DifferentFalls, Falls, WrongOrdersFall, CopyFalls, ConstantFalls}
use Rattle.canonical.proofs.Sorting.{accepted_means, sorts_to_one, one_sorter}

pub different_falls : DifferentFalls
different_falls sort s a d h = d (one_sorter sort h s a)

-- by a byte that differs
at_byte : (payload written : String) (i : ℕ) → Accepted Profile.Loose (ascii payload) → (byte_at (ascii written) i ≡ byte_at (sorted_payload (ascii payload)) i → ⊥) → Falls payload written
at_byte payload written i a d sort e h = different_falls sort (ascii payload) a (λ q. d (ap (λ (l : List ℕ). byte_at l i) (sym e ∙ q))) h

pub wrong_orders_fall : WrongOrdersFall
unfolding ascii same less numeral_at digits string_at scalar_at repeat text_from is_used is_above key_fault list_from dictionary_from value_at payload_at skip_from rises_at least_at values_from selected entries_at sorted_at
wrong_orders_fall = (
  at_byte "d2:aa0:1:b0:e" "d1:b0:2:aa0:e" 1 refl (λ q. omega (arith, q)),
  at_byte "d1:ad1:c0:1:b0:ee" "d1:ad1:c0:1:b0:ee" 7 refl (λ q. omega (arith, q)),
  at_byte "l1:b1:ae" "l1:a1:be" 3 refl (λ q. omega (arith, q)),
  at_byte "d1:a0:1:b0:e" "d1:b0:1:a0:e" 3 refl (λ q. omega (arith, q)),
)

pub copy_falls : CopyFalls
unfolding ascii same less numeral_at digits string_at scalar_at repeat text_from is_used is_above key_fault list_from dictionary_from value_at payload_at skip_from rises_at least_at values_from selected entries_at sorted_at
copy_falls h =
    let s = ascii "d1:a0:1:b0:e" in
    let t = ascii "d1:b0:1:a0:e" in
    let m = accepted_means Profile.Loose s refl in
    let n = accepted_means Profile.Loose t refl in
    let e = (h s t m.0 n.0 m.1 n.1).1 ((sorts_to_one s t m.0 n.0 m.1 n.1).0 refl) in
    omega (arith, ap (λ (l : List ℕ). byte_at l 3) e)

pub constant_falls : ConstantFalls
unfolding ascii same less numeral_at digits string_at scalar_at repeat text_from is_used is_above key_fault list_from dictionary_from value_at payload_at skip_from rises_at least_at values_from selected entries_at sorted_at
constant_falls bytes h =
    let s = ascii "le" in
    let t = ascii "de" in
    let m = accepted_means Profile.Loose s refl in
    let n = accepted_means Profile.Loose t refl in
    let e = (sorts_to_one s t m.0 n.0 m.1 n.1).1 ((h s t m.0 n.0 m.1 n.1).0 refl) in
    omega (arith, ap (λ (l : List ℕ). byte_at l 0) e)
