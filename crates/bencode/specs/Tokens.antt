-- Pinned by `SamePayload`; no promise of a public function cites it. Tokens of a payload, as the walk by one loop takes them
-- (document 02, request 09).
-- Assumes nothing.
use Rattle.std.specs.Prelude.{ℕ, Bool, cond, List, eqb, Ok, Err, Result}
use Rattle.bencode.specs.declared.key.Seen.{Seen}
use Rattle.bencode.specs.declared.profile.Profile.{Profile}
use Rattle.bencode.specs.declared.strings.Text.{Text}
use Rattle.bencode.specs.declared.tokens.Bracket.{Bracket}
use Rattle.bencode.specs.declared.tokens.Level.{Level}
use Rattle.bencode.specs.declared.tokens.Token.{Token}
use Rattle.octets.specs.Bytes.{byte_at}
use Rattle.bencode.specs.Letters.{letter_d, letter_e, letter_l}
use Rattle.bencode.specs.Depth.{largest_depth}
use Rattle.bencode.specs.Fault.{fault, Walk}
use Rattle.bencode.specs.KeySearch.{key_text_at, key_at}
use Rattle.bencode.specs.Scalar.{scalar_at}
use Rattle.bencode.specs.declared.fault.Fault.{Fault}
use Rattle.bencode.specs.declared.fault.Cause.{Cause}

-- a string or an integer, or its fault
abbrev pub scalar_token : Walk → Result Token Fault
scalar_token (Ok end) = Ok (Token.Scalar end)
scalar_token (Err f) = Err f

-- the list or dictionary that opens at an offset, in so many others: 7 where that is too deep
abbrev pub open_token : Bracket → ℕ → ℕ → Result Token Fault
open_token bracket depth at = cond (eqb depth largest_depth) (Err (fault Cause.Depth at)) (Ok (Token.Open bracket))

-- the value at an offset, in so many lists and dictionaries
unfoldable pub value_token : List ℕ → ℕ → ℕ → Result Token Fault
value_token s depth at =
    cond (eqb (byte_at s at) letter_l) (open_token Bracket.List depth at)
    (cond (eqb (byte_at s at) letter_d) (open_token Bracket.Dictionary depth at) (scalar_token (scalar_at s at)))

-- a key whose value starts at `end`, by its check
abbrev pub checked_token : ℕ → Result Seen Fault → Result Token Fault
checked_token end (Ok seen) = Ok (Token.Key seen end)
checked_token end (Err f) = Err f

-- a key by its text
abbrev pub text_token : Profile → List ℕ → Seen → ℕ → Result Text Fault → Result Token Fault
text_token p s seen at (Ok t) = checked_token t.end (key_at p s seen at t.start t.end)
text_token p s seen at (Err f) = Err f

-- the key at an offset, after what is kept of the earlier ones
abbrev pub key_token : Profile → List ℕ → Seen → ℕ → Result Token Fault
key_token p s seen at = text_token p s seen at (key_text_at s at)

-- one in a list, another in a dictionary
abbrev pub by_bracket : {A : Type 0} → Bracket → A → A → A
by_bracket Bracket.List list dictionary = list
by_bracket Bracket.Dictionary list dictionary = dictionary

-- the token at an offset, in so many lists and dictionaries, of which the innermost is a level; valued says that a value has to
-- stand there
unfoldable pub token_at : Profile → List ℕ → ℕ → Level → Bool → ℕ → Result Token Fault
token_at p s depth level valued at =
    cond valued (value_token s depth at)
    (cond (eqb depth 0) (Ok (Token.Done at))
    (cond (eqb (byte_at s at) letter_e) (Ok Token.Close)
    (by_bracket level.bracket (value_token s depth at) (key_token p s level.seen at))))
