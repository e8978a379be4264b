-- To be believed. A field at the front of what is left of a case's body.
-- Assumes nothing.
use Rattle.std.specs.Prelude.{ℕ, ◌<◌, ◌≤◌, ◌≡◌, List, length, take, drop, MatchResult}
use Rattle.std.specs.declared.result.Result.{Result}
use Rattle.cases.specs.declared.stream.Stop.{Stop}

-- so many bytes are taken, and the field is what they say; a body that has fewer stays as it is, and the case is at fault
abbrev pub TakesField : {T : Type 0} → ℕ → (List ℕ → T) → List ℕ → Result T Stop → List ℕ → Type 0
TakesField n said old r new =
    MatchResult r (λ x. (n ≤ length old) × (x ≡ said (take n old)) × (new ≡ drop n old)) (λ e. (length old < n) × (e ≡ Stop.Fault) × (new ≡ old))
