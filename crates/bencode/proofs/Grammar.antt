-- The walker accepts exactly the grammar: a payload is walked to its end if and only if it is the encoding of a well-formed
-- value.
-- Assumes nothing.
use Prim.Native.Nat.{ℕ}
use mathlib.Core.Path.{◌≡◌, refl, sym, ap, ◌∙◌}
use mathlib.Core.Bool.{Bool, true, false, cond}
use mathlib.Core.List.{List, [], ◌∷◌, ◌++◌, append-nil}
use native.Mathlib.Omega.{arith}
use borrow.Author.Tests.{eq-eqb, eqb-true}
use lib.Dec.{eqb}
use lib.ListN.{length, length-append}
use Rattle.bencode.specs.declared.profile.Profile.{Profile}
use Rattle.bencode.specs.Fault.{fault, Walk}
use Rattle.bencode.specs.Walk.{value_at, whole, payload_at}
use Rattle.bencode.specs.Depth.{largest_depth}
use Rattle.bencode.specs.Value.{Value, encode, WellFormed}
use Rattle.octets.specs.Bytes.{Begins}
use Rattle.bencode.specs.Demands.{AcceptsExactly}
use Rattle.bencode.proofs.values.Sound.{value_sound}
use Rattle.bencode.proofs.values.Complete.{value_reads}
use Rattle.std.specs.Prelude.{Ok, Err}
use Rattle.bencode.specs.declared.fault.Cause.{Cause}

-- a list as long as its first part is that part
whole_list : (s x rest : List ℕ) → s ≡ x ++ rest → length s ≡ length x → s ≡ x
whole_list s x [] e n = e ∙ append-nil x
whole_list s x (b ∷ rest) e n = absurd (omega (arith, ap length e ∙ length-append x (b ∷ rest)))

accepted_is : (p : Profile) (s : List ℕ) → payload_at p s ≡ Ok (length s) → (v : Value) × WellFormed p largest_depth v × (s ≡ encode v)
unfolding payload_at
accepted_is p s e = go (value_at p largest_depth s 0) refl e
  where
    ended : (end : ℕ) → value_at p largest_depth s 0 ≡ Ok end → (t : Bool) → eqb end (length s) ≡ t → cond t (Ok end) (Err (fault Cause.Trailing end)) ≡ Ok (length s) → (v : Value) × WellFormed p largest_depth v × (s ≡ encode v)
    ended end q false r e = let z : ◌≡◌ {A = ℕ} 0 1 = cc in absurd (omega arith)
    ended end q true r e =
        let v = value_sound s p largest_depth 0 end q in
        (v.0, v.1, whole_list s (encode v.0) v.2.rest v.2.is (omega (arith, v.2.ends, eqb-true end (length s) r)))

    go : (w : Walk) → value_at p largest_depth s 0 ≡ w → whole s w ≡ Ok (length s) → (v : Value) × WellFormed p largest_depth v × (s ≡ encode v)
    go (Ok end) q e = ended end q (eqb end (length s)) refl e
    go (Err f) q e = let z : ◌≡◌ {A = ℕ} 0 1 = cc in absurd (omega arith)

encoding_accepted : (p : Profile) (s : List ℕ) (v : Value) → WellFormed p largest_depth v → s ≡ encode v → payload_at p s ≡ Ok (length s)
unfolding payload_at
encoding_accepted p s v formed e =
    let b : Begins s 0 (encode v) (length s) = record { rest = []; is = e ∙ sym (append-nil (encode v)); ends = omega (arith, ap length e) } in
    rw (value_reads s p largest_depth v 0 (length s) formed b, eq-eqb (length s) (length s) refl) refl

pub accepts_exactly : AcceptsExactly
accepts_exactly p s = (accepted_is p s, λ r. encoding_accepted p s r.0 r.1 r.2)
