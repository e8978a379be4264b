-- The fault of a payload has a code of its profile, and that of a value is not of bytes after it; a number tells the cause.
-- Assumes nothing.
use Prim.Native.Nat.{ℕ, zero, suc, ◌+◌, ◌-◌, ◌^◌}
use mathlib.Core.Path.{◌≡◌, refl, sym, ap, subst, ◌∙◌}
use mathlib.Core.Bool.{Bool, true, false, cond, not, ◌&&◌}
use mathlib.Core.List.{List, [], ◌∷◌}
use lib.Dec.{eqb, leb, ltb}
use lib.Signed.{mag}
use lib.ListN.{length}
use Rattle.octets.specs.declared.numerals.Decimal.{Decimal}
use Rattle.bencode.specs.declared.strings.Text.{Text}
use Rattle.bencode.specs.declared.profile.Profile.{Profile}
use Rattle.octets.specs.Bytes.{byte_at, slice}
use Rattle.octets.specs.Numerals.{numeral_at}
use Rattle.octets.proofs.sequences.Order.{clash}
use Rattle.bencode.specs.Fault.{fault, Walk, cause_code, fault_number}
use Rattle.bencode.specs.Strings.{string_at, text_end, text_of}
use Rattle.bencode.specs.Integers.{signed, integer_from, integer_at, number_end, number_of}
use Rattle.bencode.specs.Loop.{LoopStep, next, done, after_step, repeat}
use Rattle.bencode.specs.Utf8.{is_text}
use Rattle.bencode.specs.Key.{is_used, is_above, order_fault, is_fault_code, key_fault}
use Rattle.bencode.specs.Scalar.{scalar_at}
use Rattle.bencode.specs.Walk.{onward, list_step, list_from, entry_step, dictionary_step, dictionary_from, value_at, whole, payload_at, keyed}
use Rattle.bencode.specs.Depth.{largest_depth}
use Rattle.bencode.specs.Demands.{FaultsCoded, FaultNumbersTell}
use Rattle.std.specs.Prelude.{Ok, Err, Result, Option, Some, None}
use Rattle.bencode.specs.declared.fault.Fault.{Fault}
use Rattle.bencode.specs.declared.fault.Cause.{Cause}
use native.Mathlib.Omega.{arith}

-- has a cause a code of a profile, and is it not that of bytes after a value
abbrev fits : Profile → Cause → Bool
fits p c = is_fault_code p (cause_code c) && not (eqb (cause_code c) 9)

module _ (p : Profile) where
  -- a walk of a value whose fault, if it is one, has such a cause
  abbrev Coded : Walk → Type 0
  Coded (Ok end) = Unit {0}
  Coded (Err f) = fits p f.cause ≡ true

  pick : (t : Bool) (v w : Walk) → Coded v → Coded w → Coded (cond t v w)
  pick true v w x y = x
  pick false v w x y = y

  text_coded : (s : List ℕ) (at : ℕ) → Coded (text_end (string_at s at))
  unfolding string_at
  text_coded s at = go (eqb n.end at) (eqb (byte_at s n.end) 58) (leb n.number (length s - (n.end + 1)))
    where
      n : Decimal
      n = numeral_at s at

      go : (t u v : Bool) → Coded (text_end (cond t (Err (fault Cause.Syntax at)) (cond u (cond v (Ok (text_of (n.end + 1) (n.end + 1 + n.number))) (Err (fault Cause.Syntax (length s)))) (Err (fault Cause.Syntax n.end)))))
      go true u v = refl
      go false true true = tt
      go false true false = refl
      go false false v = refl

  from_coded : (s : List ℕ) (at from : ℕ) (negative : Bool) → Coded (number_end (integer_from s at from negative))
  unfolding integer_from
  from_coded s at from negative = go (eqb n.end from) (eqb (byte_at s n.end) 101) (ltb (mag (signed negative n.number)) (2 ^ 63))
    where
      n : Decimal
      n = numeral_at s from

      go : (t u v : Bool) → Coded (number_end (cond t (Err (fault Cause.Syntax from)) (cond u (cond v (Ok (number_of (signed negative n.number) (n.end + 1))) (Err (fault Cause.Range at))) (Err (fault Cause.Syntax n.end)))))
      go true u v = refl
      go false true true = tt
      go false true false = refl
      go false false v = refl

  number_coded : (s : List ℕ) (at : ℕ) → Coded (number_end (integer_at s at))
  unfolding integer_at
  number_coded s at = go (eqb (byte_at s at) 105) (eqb (byte_at s (at + 1)) 45) (eqb (byte_at s (at + 2)) 48)
    where
      go : (t u v : Bool) → Coded (number_end (cond t (cond u (cond v (Err (fault Cause.Syntax (at + 2))) (integer_from s at (at + 2) true)) (integer_from s at (at + 1) false)) (Err (fault Cause.Syntax at))))
      go false u v = refl
      go true true true = refl
      go true true false = from_coded s at (at + 2) true
      go true false v = from_coded s at (at + 1) false

  scalar_coded : (s : List ℕ) (at : ℕ) → Coded (scalar_at s at)
  unfolding scalar_at
  scalar_coded s at = pick (eqb (byte_at s at) 105) (number_end (integer_at s at)) (text_end (string_at s at)) (number_coded s at) (text_coded s at)

  -- ---- keys
  key_coded : (keys : List (List ℕ)) (key : List ℕ) (c : Cause) → key_fault p keys key ≡ Some c → fits p c ≡ true
  unfolding key_fault
  key_coded keys key c e = go (is_text key) (is_used key keys) (is_above key keys) p e
    where
      coded : (q : Profile) (d : Cause) → d ≡ c → fits q d ≡ true → fits q c ≡ true
      coded q d i h = subst (λ (x : Cause). fits q x ≡ true) i h

      go : (w t u : Bool) (q : Profile) → cond w (cond t (Some Cause.RepeatedKey) (order_fault q u)) (Some Cause.IllFormedKey) ≡ Some c → fits q c ≡ true
      go true true u q e = coded q Cause.RepeatedKey (cc) refl
      go true false u Profile.Loose e = let z : ◌≡◌ {A = ℕ} 0 1 = cc in absurd (omega arith)
      go true false true Profile.Strict e = let z : ◌≡◌ {A = ℕ} 0 1 = cc in absurd (omega arith)
      go true false false Profile.Strict e = coded Profile.Strict Cause.UnsortedKey (cc) refl
      go false t u q e = coded q Cause.IllFormedKey (cc) refl

  -- ---- loops
  Stops : {X : Type 0} → LoopStep X Walk → Type 0
  Stops (next to y) = Unit {0}
  Stops (done w) = Coded w

  repeat_coded : {X : Type 0} (step : ℕ → X → LoopStep X Walk) → ((at : ℕ) (x : X) → Stops (step at x)) → (w : Walk) → Coded w → (n at : ℕ) (x : X) → Coded (repeat step w n at x)
  unfolding repeat Stops
  repeat_coded step h w c zero at x = c
  repeat_coded {X} step h w c (suc n) at x = go (step at x) (h at x) (λ to y. repeat_coded step h w c n to y)
    where
      go : (t : LoopStep X Walk) → Stops t → ((to : ℕ) (y : X) → Coded (repeat step w n to y)) → Coded (after_step t (λ to y. repeat step w n to y))
      go (next to y) s rec = rec to y
      go (done v) s rec = s

  onward_coded : {X : Type 0} (w : Walk) (x : X) → Coded w → Stops (onward w x)
  unfolding Stops
  onward_coded (Ok end) x c = tt
  onward_coded (Err f) x c = c

  module _ (s : List ℕ) (value : ℕ → Walk) (coded : (at : ℕ) → Coded (value at)) where
    list_coded : (at : ℕ) → Coded (list_from value s at)
    unfolding list_from Stops
    list_coded at = repeat_coded (list_step value s) stops (Err (fault Cause.Syntax at)) refl (suc (length s - at)) at tt
      where
        stops : (at : ℕ) (x : Unit {0}) → Stops (list_step value s at x)
        stops at x = go (eqb (byte_at s at) 101)
          where
            go : (t : Bool) → Stops (cond t (done (Ok (at + 1))) (onward (value at) x))
            go true = tt
            go false = onward_coded (value at) x (coded at)

    dictionary_coded : (at : ℕ) (keys : List (List ℕ)) → Coded (dictionary_from p value s at keys)
    unfolding dictionary_from Stops
    dictionary_coded at keys = repeat_coded (dictionary_step p value s) stops (Err (fault Cause.Syntax at)) refl (suc (length s - at)) at keys
      where
        stops : (at : ℕ) (x : List (List ℕ)) → Stops (dictionary_step p value s at x)
        stops at x = go (eqb (byte_at s at) 101) (string_at s at) (text_coded s at)
          where
            allowed : (key : List ℕ) (end : ℕ) (keys : List (List ℕ)) (r : Option Cause) → key_fault p x key ≡ r → Stops (keyed r at (value end) keys)
            allowed key end keys None q = onward_coded (value end) keys (coded end)
            allowed key end keys (Some c) q = key_coded x key c q

            go : (t : Bool) (k : Result Text Fault) → Coded (text_end k) → Stops (cond t (done (Ok (at + 1))) (entry_step p value s at x k))
            go true k c = tt
            go false (Err f) c = c
            go false (Ok t) c = allowed (slice s t.start t.end) t.end (slice s t.start t.end ∷ x) (key_fault p x (slice s t.start t.end)) refl

  value_coded : (levels : ℕ) (s : List ℕ) (at : ℕ) → Coded (value_at p levels s at)
  unfolding value_at
  value_coded zero s at = pick (eqb (byte_at s at) 108) (Err (fault Cause.Depth at)) (cond (eqb (byte_at s at) 100) (Err (fault Cause.Depth at)) (scalar_at s at)) refl (pick (eqb (byte_at s at) 100) (Err (fault Cause.Depth at)) (scalar_at s at) refl (scalar_coded s at))
  value_coded (suc levels) s at =
      let l = list_from (value_at p levels s) s (at + 1) in
      let d = dictionary_from p (value_at p levels s) s (at + 1) [] in
      pick (eqb (byte_at s at) 108) l (cond (eqb (byte_at s at) 100) d (scalar_at s at)) (list_coded s (value_at p levels s) (value_coded levels s) (at + 1))
      (pick (eqb (byte_at s at) 100) d (scalar_at s at) (dictionary_coded s (value_at p levels s) (value_coded levels s) (at + 1) []) (scalar_coded s at))

pub value_untrailed : (p : Profile) (levels : ℕ) (s : List ℕ) (at : ℕ) (f : Fault) → value_at p levels s at ≡ Err f → f.cause ≡ Cause.Trailing → ⊥
value_untrailed p levels s at f e t = clash false (subst (λ (c : Cause). fits p c ≡ true) t (subst (Coded p) e (value_coded p levels s at))) refl

pub faults_coded : FaultsCoded
unfolding payload_at
faults_coded p s f e = go (value_at p largest_depth s 0) (value_coded p largest_depth s 0) e
  where
    coded : (c : Cause) → fits p c ≡ true → is_fault_code p (cause_code c) ≡ true
    coded c h = go (is_fault_code p (cause_code c)) refl h
      where
        go : (t : Bool) → is_fault_code p (cause_code c) ≡ t → t && not (eqb (cause_code c) 9) ≡ true → is_fault_code p (cause_code c) ≡ true
        go true q h = q
        go false q h = clash false h refl

    trailing : (end : ℕ) (t : Bool) → cond t (Ok end) (Err (fault Cause.Trailing end)) ≡ Err f → is_fault_code p (cause_code f.cause) ≡ true
    trailing end true e = let z : ◌≡◌ {A = ℕ} 0 1 = cc in absurd (omega arith)
    trailing end false e = let i : fault Cause.Trailing end ≡ f = cc in subst (λ (g : Fault). is_fault_code p (cause_code g.cause) ≡ true) i refl

    go : (w : Walk) → Coded p w → whole s w ≡ Err f → is_fault_code p (cause_code f.cause) ≡ true
    go (Ok end) c e = trailing end (eqb end (length s)) e
    go (Err g) c e = let i : g ≡ f = cc in subst (λ (g : Fault). is_fault_code p (cause_code g.cause) ≡ true) i (coded g.cause c)

-- the cause with a number
abbrev told : ℕ → Option Cause
told n =
    cond (eqb n 5) (Some Cause.Syntax)
    (cond (eqb n 6) (Some Cause.Range)
    (cond (eqb n 7) (Some Cause.Depth)
    (cond (eqb n 8) (Some Cause.RepeatedKey)
    (cond (eqb n 9) (Some Cause.Trailing)
    (cond (eqb n 10) (Some Cause.IllFormedKey)
    (cond (eqb n 11) (Some Cause.UnsortedKey)
    None))))))

pub fault_numbers_tell : FaultNumbersTell
fault_numbers_tell c d e = sym (back c) ∙ ap told e ∙ back d
  where
    back : (c : Option Cause) → told (fault_number c) ≡ c
    back None = refl
    back (Some Cause.Syntax) = refl
    back (Some Cause.Range) = refl
    back (Some Cause.Depth) = refl
    back (Some Cause.RepeatedKey) = refl
    back (Some Cause.Trailing) = refl
    back (Some Cause.IllFormedKey) = refl
    back (Some Cause.UnsortedKey) = refl
