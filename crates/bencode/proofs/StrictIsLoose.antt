-- But for 11 the strict profile finds what the loose one finds.
-- Assumes nothing.
use Prim.Native.Nat.{ℕ, zero, suc, ◌+◌, ◌-◌}
use mathlib.Core.Path.{◌≡◌, refl, ap, subst}
use mathlib.Core.Logic.{◌⊎◌, inl, inr, ⊎_elim}
use mathlib.Core.Bool.{Bool, true, false, cond}
use mathlib.Core.List.{List, [], ◌∷◌}
use native.Mathlib.Omega.{arith}
use lib.Dec.{eqb}
use lib.ListN.{length}
use Rattle.octets.specs.Bytes.{byte_at, slice}
use Rattle.bencode.specs.declared.profile.Profile.{Profile}
use Rattle.bencode.specs.declared.strings.Text.{Text}
use Rattle.bencode.specs.Depth.{largest_depth}
use Rattle.bencode.specs.Fault.{fault, code_of, Walk}
use Rattle.bencode.specs.Key.{is_used, is_above, order_fault, key_fault}
use Rattle.bencode.specs.Loop.{LoopStep, next, done, after_step, repeat}
use Rattle.bencode.specs.Scalar.{scalar_at}
use Rattle.bencode.specs.Strings.{string_at}
use Rattle.bencode.specs.Utf8.{is_text}
use Rattle.bencode.specs.Walk.{onward, keyed, list_step, list_from, entry_step, dictionary_step, dictionary_from, value_at, whole, payload_at, payload_code}
use Rattle.bencode.specs.Demands.{StrictIsLoose}
use Rattle.std.specs.Prelude.{Ok, Err, Result, Some}
use Rattle.bencode.specs.declared.fault.Fault.{Fault}
use Rattle.bencode.specs.declared.fault.Cause.{Cause}

-- a walk finds what another finds, or 11
abbrev Agree : Walk → Walk → Type 0
Agree strict loose = (strict ≡ loose) ⊎ (code_of strict ≡ 11)

-- a step that ends with 11
abbrev Eleven : {X : Type 0} → LoopStep X Walk → Type 0
Eleven (next to y) = ⊥
Eleven (done w) = code_of w ≡ 11

abbrev StepsAgree : {X : Type 0} → LoopStep X Walk → LoopStep X Walk → Type 0
StepsAgree strict loose = (strict ≡ loose) ⊎ Eleven strict

-- ---- loops
repeat_agrees : {X : Type 0} (strict loose : ℕ → X → LoopStep X Walk) → ((at : ℕ) (x : X) → StepsAgree (strict at x) (loose at x)) → (w : Walk) (n at : ℕ) (x : X) → Agree (repeat strict w n at x) (repeat loose w n at x)
unfolding repeat
repeat_agrees strict loose h w zero at x = inl refl
repeat_agrees {X} strict loose h w (suc n) at x = go (strict at x) (loose at x) (h at x) (λ to y. repeat_agrees strict loose h w n to y)
  where
    after : (t : LoopStep X Walk) → ((to : ℕ) (y : X) → Agree (repeat strict w n to y) (repeat loose w n to y)) → Agree (after_step t (λ to y. repeat strict w n to y)) (after_step t (λ to y. repeat loose w n to y))
    after (next to y) rec = rec to y
    after (done v) rec = inl refl

    stopped : (t : LoopStep X Walk) (v : Walk) → Eleven t → Agree (after_step t (λ to y. repeat strict w n to y)) v
    stopped (next to y) v e = absurd e
    stopped (done u) v e = inr e

    go : (t u : LoopStep X Walk) → StepsAgree t u → ((to : ℕ) (y : X) → Agree (repeat strict w n to y) (repeat loose w n to y)) → Agree (after_step t (λ to y. repeat strict w n to y)) (after_step u (λ to y. repeat loose w n to y))
    go t u (inl e) rec = subst (λ (v : LoopStep X Walk). Agree (after_step t (λ to y. repeat strict w n to y)) (after_step v (λ to y. repeat loose w n to y))) e (after t rec)
    go t u (inr e) rec = stopped t (after_step u (λ to y. repeat loose w n to y)) e

onward_agrees : {X : Type 0} (strict loose : Walk) (x : X) → Agree strict loose → StepsAgree (onward strict x) (onward loose x)
onward_agrees strict loose x (inl e) = inl (ap (λ (w : Walk). onward w x) e)
onward_agrees (Ok end) loose x (inr e) = absurd (omega arith)
onward_agrees (Err f) loose x (inr e) = inr e

-- ---- lists and dictionaries, whose values agree
module _ (s : List ℕ) (strict loose : ℕ → Walk) (agree : (at : ℕ) → Agree (strict at) (loose at)) where
  list_agrees : (at : ℕ) → Agree (list_from strict s at) (list_from loose s at)
  unfolding list_from
  list_agrees at = repeat_agrees (list_step strict s) (list_step loose s) steps (Err (fault Cause.Syntax at)) (suc (length s - at)) at tt
    where
      steps : (at : ℕ) (x : Unit {0}) → StepsAgree (list_step strict s at x) (list_step loose s at x)
      steps at x = go (eqb (byte_at s at) 101)
        where
          go : (t : Bool) → StepsAgree (cond t (done (Ok (at + 1))) (onward (strict at) x)) (cond t (done (Ok (at + 1))) (onward (loose at) x))
          go true = inl refl
          go false = onward_agrees (strict at) (loose at) x (agree at)

  -- a key that comes once and does not rise is where the profiles part
  entry_agrees : (at : ℕ) (keys : List (List ℕ)) (k : Result Text Fault) → StepsAgree (entry_step Profile.Strict strict s at keys k) (entry_step Profile.Loose loose s at keys k)
  unfolding key_fault
  entry_agrees at keys (Err f) = inl refl
  entry_agrees at keys (Ok t) = go (is_text (slice s t.start t.end)) (is_used (slice s t.start t.end) keys) (is_above (slice s t.start t.end) keys)
    where
      more : List (List ℕ)
      more = slice s t.start t.end ∷ keys

      go : (w v u : Bool) → StepsAgree (keyed (cond w (cond v (Some Cause.RepeatedKey) (order_fault Profile.Strict u)) (Some Cause.IllFormedKey)) at (strict t.end) more) (keyed (cond w (cond v (Some Cause.RepeatedKey) (order_fault Profile.Loose u)) (Some Cause.IllFormedKey)) at (loose t.end) more)
      go true true u = inl refl
      go true false true = onward_agrees (strict t.end) (loose t.end) more (agree t.end)
      go true false false = inr refl
      go false v u = inl refl

  dictionary_agrees : (at : ℕ) → Agree (dictionary_from Profile.Strict strict s at []) (dictionary_from Profile.Loose loose s at [])
  unfolding dictionary_from
  dictionary_agrees at = repeat_agrees (dictionary_step Profile.Strict strict s) (dictionary_step Profile.Loose loose s) steps (Err (fault Cause.Syntax at)) (suc (length s - at)) at []
    where
      steps : (at : ℕ) (keys : List (List ℕ)) → StepsAgree (dictionary_step Profile.Strict strict s at keys) (dictionary_step Profile.Loose loose s at keys)
      steps at keys = go (eqb (byte_at s at) 101)
        where
          go : (t : Bool) → StepsAgree (cond t (done (Ok (at + 1))) (entry_step Profile.Strict strict s at keys (string_at s at))) (cond t (done (Ok (at + 1))) (entry_step Profile.Loose loose s at keys (string_at s at)))
          go true = inl refl
          go false = entry_agrees at keys (string_at s at)

-- ---- values and payloads
value_agrees : (levels : ℕ) (s : List ℕ) (at : ℕ) → Agree (value_at Profile.Strict levels s at) (value_at Profile.Loose levels s at)
unfolding value_at
value_agrees zero s at = inl refl
value_agrees (suc levels) s at =
    let strict = value_at Profile.Strict levels s in
    let loose = value_at Profile.Loose levels s in
    go (eqb (byte_at s at) 108) (eqb (byte_at s at) 100) (list_agrees s strict loose (value_agrees levels s) (at + 1)) (dictionary_agrees s strict loose (value_agrees levels s) (at + 1))
  where
    go : (t u : Bool) {l m d e : Walk} → Agree l m → Agree d e → Agree (cond t l (cond u d (scalar_at s at))) (cond t m (cond u e (scalar_at s at)))
    go true u x y = x
    go false true x y = y
    go false false x y = inl refl

whole_agrees : (s : List ℕ) (strict loose : Walk) → Agree strict loose → Agree (whole s strict) (whole s loose)
whole_agrees s strict loose (inl e) = inl (ap (whole s) e)
whole_agrees s (Ok end) loose (inr e) = absurd (omega arith)
whole_agrees s (Err f) loose (inr e) = inr e

pub strict_is_loose : StrictIsLoose
unfolding payload_at payload_code
strict_is_loose s other =
    ⊎_elim (λ e. e) (λ e. absurd (other e)) (whole_agrees s (value_at Profile.Strict largest_depth s 0) (value_at Profile.Loose largest_depth s 0) (value_agrees largest_depth s 0))
