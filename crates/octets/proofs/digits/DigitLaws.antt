-- Decimal digits by powers of ten: the digits of a number are its lowest places, as many as it is long.
-- Assumes nothing.
use mathlib.Core.Path.{◌≡◌, refl, ap, sym, ◌∙◌}
use mathlib.Core.List.{List, [], ◌∷◌, ◌++◌, append_assoc, append-nil}
use mathlib.Core.Logic.{◌⊎◌, inl, inr, ⊎_elim}
use Prim.Native.Nat.{ℕ, zero, suc, ◌+◌, ◌-◌, ◌*◌, ◌/◌, ◌%◌, ◌^◌, ◌≤◌, ◌<◌, zero-le, suc-le-suc}
use native.Mathlib.Nat.{mul_assoc, add-mul, mul_left_comm, pow-succ', one-le-pow, div-add-mod', mod-lt, div-lt_iff_lt-mul, le-div_iff_mul-le, pow-le-pow_right}
use native.Mathlib.Omega.{arith}
use native.Mathlib.Numerals.{add-one}
use lib.Arith.{digits_div, digits_mod}
use lib.ListN.{length, set}
use lib.Seq.{sets}
use Rattle.octets.specs.Numerals.{decimal}
use Rattle.octets.proofs.digits.DecimalLaws.{decimal_small, decimal_next}

pub lt_or_le : (a b : ℕ) → (a < b) ⊎ (b ≤ a)
lt_or_le a zero = inr zero-le
lt_or_le zero (suc b) = inl (suc-le-suc zero-le)
lt_or_le (suc a) (suc b) = ⊎_elim (λ p. inl (suc-le-suc p)) (λ q. inr (suc-le-suc q)) (lt_or_le a b)

-- a digit more at the end
decimal_next10 : (a d : ℕ) → 0 < a → d < 10 → decimal (10 * a + d) ≡ decimal a ++ ((48 + d) ∷ [])
decimal_next10 a d h g = let e : 10 * a + d ≡ a * 10 + d = omega arith in ap decimal e ∙ decimal_next a d h g

-- the k lowest digits of n, below 10 ^ k, with leading zeros
unfoldable pub places : ℕ → ℕ → List ℕ
places zero n = []
places (suc k) n = (48 + n / 10 ^ k) ∷ places k (n % 10 ^ k)

-- a power of ten is ten times the one before
pub pow_down : (k : ℕ) → 0 < k → 10 ^ k ≡ 10 * 10 ^ (k - 1)
pow_down zero h = elim h [ ]
pow_down (suc k) h = let e : suc k - 1 ≡ k = omega arith in rw e (pow-succ' 10 k)

pub length_places : (k n : ℕ) → length (places k n) ≡ k
unfolding places
length_places zero n = refl
length_places (suc k) n = ap suc (length_places k (n % 10 ^ k))

-- the first of them, and the others
pub places_cons : (k d r : ℕ) → r < 10 ^ k → places (suc k) (d * 10 ^ k + r) ≡ (48 + d) ∷ places k r
unfolding places
places_cons k d r h = rw (digits_div d {m = 10 ^ k} h, digits_mod d {m = 10 ^ k} h)

-- the k + 1 lowest places: the first of them goes to the number above
shift : (k a r : ℕ) → a * 10 ^ suc k + r ≡ (10 * a + r / 10 ^ k) * 10 ^ k + r % 10 ^ k
shift k a r =
    let up : a * 10 ^ suc k ≡ 10 * (a * 10 ^ k) = rw (pow-succ' 10 k) (mul_left_comm a 10 (10 ^ k)) in
    omega (
      arith,
      add-mul (10 * a) (r / 10 ^ k) (10 ^ k),
      mul_assoc 10 a (10 ^ k),
      div-add-mod' r (10 ^ k),
    )

-- a digit stored, of those that are left
pub put_digit : (out : List ℕ) (o k d p r n : ℕ) → p ≡ 10 ^ k → n ≡ d * p + r → r < p
    → sets (set out o (48 + d)) (o + 1) (places k r) ≡ sets out o (places (suc k) n)
put_digit out o k d p r n e f g =
    let n' : n ≡ d * 10 ^ k + r = rw (← e) f in
    let r' : r < 10 ^ k = rw (← e) g in
    let q : places (suc k) n ≡ (48 + d) ∷ places k r = ap (places (suc k)) n' ∙ places_cons k d r r' in
    rw (q, add-one o)

-- the digits of a number from its first ones and the k lowest
pub decimal_places : (k a r : ℕ) → 0 < a → r < 10 ^ k → decimal (a * 10 ^ k + r) ≡ decimal a ++ places k r
unfolding places
decimal_places zero a r h g =
    let z : a * 10 ^ 0 + r ≡ a = omega arith in
    ap decimal z ∙ sym (append-nil (decimal a))
decimal_places (suc k) a r h g =
    let d = r / 10 ^ k in
    let r' = r % 10 ^ k in
    let p : 0 < 10 ^ k = one-le-pow k 10 (omega arith) in
    let d< : d < 10 = (div-lt_iff_lt-mul p).1 (rw (← pow-succ' 10 k) g) in
    let e : a * 10 ^ suc k + r ≡ (10 * a + d) * 10 ^ k + r' = shift k a r in
    ap decimal e
    ∙ decimal_places k (10 * a + d) r' (omega arith) (mod-lt r p)
    ∙ ap (λ (l : List ℕ). l ++ places k r') (decimal_next10 a d h d<)
    ∙ append_assoc (decimal a) ((48 + d) ∷ []) (places k r')

-- a number lies between two powers of ten
lt_pow : (n : ℕ) → n < 10 ^ n
lt_pow zero = omega arith
lt_pow (suc n) = omega (arith, lt_pow n, pow-succ' 10 n)

between : (m n : ℕ) → 0 < n → n < 10 ^ m → (k : ℕ) × (10 ^ k ≤ n) × (n < 10 ^ suc k)
between zero n p h = let no_such : ⊥ = omega arith in absurd no_such
between (suc m) n p h = ⊎_elim (λ (s : n < 10 ^ m). between m n p s) (λ (l : 10 ^ m ≤ n). (m, l, h)) (lt_or_le n (10 ^ m))

-- a number of k + 1 digits is its k + 1 lowest places
places_zero : (n : ℕ) → n < 10 → decimal n ≡ places 1 n
unfolding places
places_zero n h =
    let one : n / 10 ^ 0 ≡ n = omega arith in
    decimal_small n h ∙ rw one

places_suc : (k n : ℕ) → 10 ^ k ≤ n → n < 10 ^ suc k → decimal n ≡ places (suc k) n
unfolding places
places_suc k n l h =
    let p : 0 < 10 ^ k = one-le-pow k 10 (omega arith) in
    let d> : 0 < n / 10 ^ k = (le-div_iff_mul-le p).1 (omega arith) in
    let d< : n / 10 ^ k < 10 = (div-lt_iff_lt-mul p).1 (rw (← pow-succ' 10 k) h) in
    ap decimal (sym (div-add-mod' n (10 ^ k)))
    ∙ decimal_places k (n / 10 ^ k) (n % 10 ^ k) d> (mod-lt n p)
    ∙ rw (decimal_small (n / 10 ^ k) d<)

-- the decimal form has a digit; it is the lowest places, as many as it is long; the number is below that power of ten, and
-- from the next one down up
pub record Form (n : ℕ) (k : ℕ) : Type 0 where
  pub long : length (decimal n) ≡ suc k
  pub filled : decimal n ≡ places (suc k) n
  pub below : n < 10 ^ suc k
  pub above : (k ≡ 0) ⊎ (10 ^ k ≤ n)

form_of : (k n : ℕ) → decimal n ≡ places (suc k) n → n < 10 ^ suc k → (k ≡ 0) ⊎ (10 ^ k ≤ n) → Form n k
form_of k n e h a = record { long = ap length e ∙ length_places (suc k) n; filled = e; below = h; above = a }

pub form : (n : ℕ) → (k : ℕ) × Form n k
form n = ⊎_elim
    (λ (s : n < 10). (0, form_of 0 n (places_zero n s) s (inl refl)))
    (λ (l : 10 ≤ n).
    let b = between n n (omega arith) (lt_pow n) in
    (b.0, form_of b.0 n (places_suc b.0 n b.1 b.2) b.2 (inr b.1)))
    (lt_or_le n 10)

-- the decimal form is its lowest places, as many as it is long
pub decimal_filled : (n : ℕ) → decimal n ≡ places (length (decimal n)) n
decimal_filled n = let f = form n in rw f.1.long f.1.filled

pub lt_decimal : (n : ℕ) → n < 10 ^ length (decimal n)
lt_decimal n = let f = form n in rw f.1.long f.1.below

-- the number of digits: there is one, and by powers of ten
pub length_pos : (n : ℕ) → 0 < length (decimal n)
length_pos n = omega (arith, (form n).1.long)

pub length_above : (k n : ℕ) → 10 ^ k ≤ n → k < length (decimal n)
length_above k n l =
    ⊎_elim
    (λ (g : k < length (decimal n)). g)
    (λ (q : length (decimal n) ≤ k). omega (arith, lt_decimal n, pow-le-pow_right {n = 10} (omega arith) q))
    (lt_or_le k (length (decimal n)))

pub length_below : (k n : ℕ) → 0 < k → n < 10 ^ k → length (decimal n) ≤ k
length_below k n p h =
    let f = form n in
    rw f.1.long
    (⊎_elim
    (λ (z : f.0 ≡ 0). omega arith)
    (λ (a : 10 ^ f.0 ≤ n).
    ⊎_elim
    (λ (g : f.0 < k). g)
    (λ (q : k ≤ f.0). omega (arith, pow-le-pow_right {n = 10} (omega arith) q))
    (lt_or_le f.0 k))
    f.1.above)
