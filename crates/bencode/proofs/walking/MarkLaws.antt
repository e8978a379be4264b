-- Laws of the marks of keys: a mark that is set is there, and stays.
-- Assumes nothing.
use Prim.Native.Nat.{ℕ, zero, suc, ◌*◌, ◌/◌, ◌%◌, ◌^◌, ◌<◌}
use mathlib.Core.Path.{◌≡◌, refl, sym, ap, ◌∙◌}
use mathlib.Core.Bool.{true}
use native.Mathlib.Nat.{mod-lt, mul-div_cancel, zero-lt-suc, one-mul}
use native.Mathlib.Omega.{arith}
use borrow.Author.Tests.{eq-eqb, eqb-true}
use lib.Bits.{bit_or, or_comm, or_shr, or_mod}
use lib.Pow.{pow_pos, shl_exact}
use Rattle.bencode.specs.Marks.{is_marked, with_mark}

one_or : (b : ℕ) → b < 2 → bit_or 1 b ≡ 1
one_or zero h = refl
one_or (suc zero) h = refl
one_or (suc (suc b)) h = absurd (omega (arith, h))

-- a bit by a shift
pub one_shl : (i : ℕ) → i < 64 → 1 * 2 ^ i % 2 ^ 64 ≡ 2 ^ i
one_shl i h = shl_exact {a = 1} 1 i 64 (omega arith) (omega (arith, h)) ∙ one-mul (2 ^ i)

-- a bit of a number is one of its union with any other
bit_stays : (a b i : ℕ) → a / 2 ^ i % 2 ≡ 1 → bit_or a b / 2 ^ i % 2 ≡ 1
bit_stays a b i h =
    ap (λ (x : ℕ). x % 2) (or_shr a b i)
    ∙ or_mod (a / 2 ^ i) (b / 2 ^ i) 1
    ∙ ap (λ (x : ℕ). bit_or x (b / 2 ^ i % 2)) h
    ∙ one_or (b / 2 ^ i % 2) (mod-lt (b / 2 ^ i) (zero-lt-suc 1))

own_bit : (i : ℕ) → 2 ^ i / 2 ^ i % 2 ≡ 1
own_bit i = ap (λ (x : ℕ). x % 2) (ap (λ (x : ℕ). x / 2 ^ i) (sym (one-mul (2 ^ i))) ∙ mul-div_cancel 1 (pow_pos i))

bit_comes : (a i : ℕ) → bit_or a (2 ^ i) / 2 ^ i % 2 ≡ 1
bit_comes a i = ap (λ (x : ℕ). x / 2 ^ i % 2) (or_comm a (2 ^ i)) ∙ bit_stays (2 ^ i) a i (own_bit i)

pub mark_stays : (marks place other : ℕ) → is_marked marks place ≡ true → is_marked (with_mark marks other) place ≡ true
unfolding is_marked with_mark
mark_stays marks place other h = eq-eqb (bit_or marks (2 ^ other) / 2 ^ place % 2) 1 (bit_stays marks (2 ^ other) place (eqb-true (marks / 2 ^ place % 2) 1 h))

pub mark_comes : (marks place : ℕ) → is_marked (with_mark marks place) place ≡ true
unfolding is_marked with_mark
mark_comes marks place = eq-eqb (bit_or marks (2 ^ place) / 2 ^ place % 2) 1 (bit_comes marks place)
