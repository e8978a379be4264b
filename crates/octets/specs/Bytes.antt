-- To be believed. Bytes by offset, and byte strings compared: raw bytes, no text.
-- Assumes nothing.
use Rattle.std.specs.Prelude.{ℕ, ◌+◌, ◌-◌, ◌≡◌, Bool, true, false, cond, ◌&&◌, List, [], ◌∷◌, ◌++◌, eqb, ltb, length, get_or, take, drop}

-- the digits' range, in ASCII
abbrev pub digit0 : ℕ
digit0 = 48

abbrev pub digit9 : ℕ
digit9 = 57

-- the byte at an offset, and 0 past the end
abbrev pub byte_at : List ℕ → ℕ → ℕ
byte_at s at = get_or s at 0

-- the bytes from an offset up to another
abbrev pub slice : List ℕ → ℕ → ℕ → List ℕ
slice s start end = take (end - start) (drop start s)

-- some bytes stand from an offset up to another
pub record Begins (s : List ℕ) (at : ℕ) (bytes : List ℕ) (end : ℕ) : Type 0 where
  pub rest : List ℕ
  pub is : drop at s ≡ bytes ++ rest
  pub ends : end ≡ at + length bytes

-- are two byte strings equal
unfoldable pub same : List ℕ → List ℕ → Bool
same [] [] = true
same [] (b ∷ ys) = false
same (a ∷ xs) [] = false
same (a ∷ xs) (b ∷ ys) = eqb a b && same xs ys

-- is one byte string below another: by the first byte that differs, and a shorter one below what it begins
unfoldable pub less : List ℕ → List ℕ → Bool
less x [] = false
less [] (b ∷ ys) = true
less (a ∷ xs) (b ∷ ys) = cond (eqb a b) (less xs ys) (ltb a b)
