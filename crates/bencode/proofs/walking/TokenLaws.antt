-- Laws of tokens: one for each way through the token of a value, and what may close.
-- Assumes nothing.
use Prim.Native.Nat.{ℕ, zero, suc, ◌<◌}
use mathlib.Core.Path.{◌≡◌, refl}
use mathlib.Core.Bool.{Bool, true, false, cond}
use mathlib.Core.List.{List}
use native.Mathlib.Omega.{arith}
use borrow.Author.Tests.{ne_eqb}
use lib.Dec.{eqb}
use Rattle.bencode.specs.declared.tokens.Bracket.{Bracket}
use Rattle.bencode.specs.declared.tokens.Level.{Level}
use Rattle.bencode.specs.declared.tokens.Token.{Token}
use Rattle.bencode.specs.declared.profile.Profile.{Profile}
use Rattle.octets.specs.Bytes.{byte_at}
use Rattle.bencode.specs.Tokens.{scalar_token, open_token, value_token, token_at}
use Rattle.bencode.specs.Integers.{integer_at, number_end}
use Rattle.bencode.specs.Scalar.{scalar_at}
use Rattle.bencode.specs.Strings.{string_at, text_end}
use Rattle.bencode.specs.Fault.{Walk}
use Rattle.std.specs.Prelude.{Ok, Err}

-- ---- each way through the token of a value
module _ (s : List ℕ) (d at : ℕ) where
  pub value_opens_list : byte_at s at ≡ 108 → open_token Bracket.List d at ≡ value_token s d at
  unfolding value_token
  value_opens_list b = rw b refl

  pub value_opens_dictionary : byte_at s at ≡ 100 → open_token Bracket.Dictionary d at ≡ value_token s d at
  unfolding value_token
  value_opens_dictionary b = rw b refl

  pub value_is_integer : byte_at s at ≡ 105 → scalar_token (number_end (integer_at s at)) ≡ value_token s d at
  unfolding value_token scalar_at
  value_is_integer b = rw b refl

  pub value_is_string : (byte_at s at ≡ 108 → ⊥) → (byte_at s at ≡ 100 → ⊥) → (byte_at s at ≡ 105 → ⊥) → scalar_token (text_end (string_at s at)) ≡ value_token s d at
  unfolding value_token scalar_at
  value_is_string l d i = rw (ne_eqb (byte_at s at) 108 l, ne_eqb (byte_at s at) 100 d, ne_eqb (byte_at s at) 105 i) refl

-- only a list or a dictionary closes
pub close_deep : (p : Profile) (s : List ℕ) (d : ℕ) (x : Level) (valued : Bool) (at : ℕ) → token_at p s d x valued at ≡ Ok Token.Close → 0 < d
unfolding token_at value_token
close_deep p s (suc d) x valued at e = omega arith
close_deep p s zero x false at e = let z : ◌≡◌ {A = ℕ} 0 1 = cc in absurd (omega arith)
close_deep p s zero x true at e = value (eqb (byte_at s at) 108) (eqb (byte_at s at) 100) (scalar_at s at) e
  where
    value : (t u : Bool) (w : Walk) → cond t (open_token Bracket.List 0 at) (cond u (open_token Bracket.Dictionary 0 at) (scalar_token w)) ≡ Ok Token.Close → 0 < 0
    value true u w e = let z : ◌≡◌ {A = ℕ} 0 1 = cc in absurd (omega arith)
    value false true w e = let z : ◌≡◌ {A = ℕ} 0 1 = cc in absurd (omega arith)
    value false false (Ok end) e = let z : ◌≡◌ {A = ℕ} 0 1 = cc in absurd (omega arith)
    value false false (Err f) e = let z : ◌≡◌ {A = ℕ} 0 1 = cc in absurd (omega arith)
