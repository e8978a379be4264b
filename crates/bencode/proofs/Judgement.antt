-- Every payload has one answer, whatever a value means.
-- Assumes nothing.
use Prim.Native.Nat.{ℕ, ◌≤◌, ◌<◌}
use mathlib.Core.Path.{◌≡◌, refl, sym, ap, subst, ◌∙◌}
use mathlib.Core.Bool.{Bool, true, false, cond}
use mathlib.Core.Logic.{◌⊎◌, inl, inr, ⊎_elim}
use mathlib.Core.List.{List}
use native.Mathlib.Omega.{arith}
use borrow.Author.Tests.{eqb-true}
use lib.Dec.{eqb}
use lib.ListN.{length}
use Rattle.bencode.specs.declared.profile.Profile.{Profile}
use Rattle.bencode.specs.Depth.{largest_depth}
use Rattle.bencode.specs.Fault.{fault, Walk, cause_code}
use Rattle.bencode.specs.Key.{is_fault_code}
use Rattle.bencode.specs.Walk.{value_at, whole, payload_at}
use Rattle.bencode.specs.Value.{Value}
use Rattle.bencode.specs.Judge.{Means, Walked, Judged, OneAnswer, JudgesMeaning}
use Rattle.octets.proofs.digits.DigitLaws.{lt_or_le}
use Rattle.bencode.proofs.Grammar.{accepts_exactly}
use Rattle.bencode.proofs.OneValue.{one_value}
use Rattle.bencode.proofs.FaultCodes.{faults_coded}
use Rattle.std.specs.Prelude.{Ok, Err}
use Rattle.bencode.specs.declared.fault.Cause.{Cause}

-- a walk to an end is one to the payload's end
pub walked_whole : (p : Profile) (s : List ℕ) (end : ℕ) → payload_at p s ≡ Ok end → payload_at p s ≡ Ok (length s)
unfolding payload_at
walked_whole p s end e = go (value_at p largest_depth s 0) e
  where
    ended : (k : ℕ) (t : Bool) → eqb k (length s) ≡ t → cond t (Ok k) (Err (fault Cause.Trailing k)) ≡ Ok end → cond t (Ok k) (Err (fault Cause.Trailing k)) ≡ Ok (length s)
    ended k true q e = ap (λ (n : ℕ). Ok n) (eqb-true k (length s) q)
    ended k false q e = let z : ◌≡◌ {A = ℕ} 0 1 = cc in absurd (omega arith)

    go : (w : Walk) → whole s w ≡ Ok end → whole s w ≡ Ok (length s)
    go (Ok k) e = ended k (eqb k (length s)) refl e
    go (Err f) e = let z : ◌≡◌ {A = ℕ} 0 1 = cc in absurd (omega arith)

-- a payload means one value
pub means_one : (p q : Profile) (s : List ℕ) (v w : Value) → Means p s v → Means q s w → v ≡ w
means_one p q s v w m n = one_value v w (sym m.1 ∙ n.1)

pub means_walked : (p : Profile) (s : List ℕ) (v : Value) → Means p s v → payload_at p s ≡ Ok (length s)
means_walked p s v m = (accepts_exactly p s).1 (v, m.0, m.1)

module _ {A : Type 0} (p : Profile) (longest tooLong : ℕ) (refused : ℕ → ℕ → A) (meaning : Value → A) where
  walked_one : (s : List ℕ) (w : Walk) (a b : A) → Walked p longest tooLong refused meaning s w a → Walked p longest tooLong refused meaning s w b → b ≡ a
  walked_one s (Err f) a b x y = y ∙ sym x
  walked_one s (Ok end) a b x y = y.2 ∙ ap meaning (means_one p p s y.0 x.0 y.1 x.1) ∙ sym x.2

  walked_some : (s : List ℕ) (w : Walk) → payload_at p s ≡ w → (a : A) × Walked p longest tooLong refused meaning s w a
  walked_some s (Err f) e = (refused (cause_code f.cause) f.offset, refl)
  walked_some s (Ok end) e = let r = (accepts_exactly p s).0 (walked_whole p s end e) in (meaning r.0, (r.0, (r.1, r.2), refl))

  pub one_answer : OneAnswer p longest tooLong refused meaning
  one_answer s = ⊎_elim long short (lt_or_le longest (length s))
    where
      long : longest < length s → (a : A) × Judged p longest tooLong refused meaning s a × ((b : A) → Judged p longest tooLong refused meaning s b → b ≡ a)
      long h = (refused tooLong 0, record { long = λ g. refl; short = λ g. absurd (omega arith) }, λ b r. r.long h)

      short : length s ≤ longest → (a : A) × Judged p longest tooLong refused meaning s a × ((b : A) → Judged p longest tooLong refused meaning s b → b ≡ a)
      short h =
          let r = walked_some s (payload_at p s) refl in
          (r.0, record { long = λ g. absurd (omega arith); short = λ g. r.1 }, λ b q. walked_one s (payload_at p s) r.0 b r.1 (q.short h))

  pub judges_meaning : JudgesMeaning p longest tooLong refused meaning
  judges_meaning s v h m =
      record {
        long = λ g. absurd (omega arith);
        short = λ g. subst (λ (w : Walk). Walked p longest tooLong refused meaning s w (meaning v)) (sym (means_walked p s v m)) (v, m, refl);
      }

  -- an answer that no refusal has is the meaning of the payload's value
  pub judged_means : (s : List ℕ) (a : A) → Judged p longest tooLong refused meaning s a → ((c at : ℕ) → a ≡ refused c at → (c ≡ tooLong) ⊎ (is_fault_code p c ≡ true) → ⊥) → (length s ≤ longest) × (v : Value) × Means p s v × (a ≡ meaning v)
  judged_means s a j no-refusal = ⊎_elim (λ h. absurd (no-refusal tooLong 0 (j.long h) (inl refl))) (λ h. go h (payload_at p s) refl (j.short h)) (lt_or_le longest (length s))
    where
      go : length s ≤ longest → (w : Walk) → payload_at p s ≡ w → Walked p longest tooLong refused meaning s w a → (length s ≤ longest) × (v : Value) × Means p s v × (a ≡ meaning v)
      go h (Err f) e x = absurd (no-refusal (cause_code f.cause) f.offset x (inr (faults_coded p s f e)))
      go h (Ok end) e x = (h, x.0, x.1, x.2)
