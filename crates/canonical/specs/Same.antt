-- To be believed. When two values mean the same, dictionaries compared as maps (document 02, request 06). Nothing here knows of
-- an order.
-- Assumes nothing.
use Rattle.std.specs.Prelude.{ℕ, List, ℤ}
use Rattle.bencode.specs.Value.{Value, integer, string, list, dictionary, Values, no_value, value, Entries, Found, found, missing, lookup}

mutual
  -- the same integer; the same text; a list of the same values in the same order; a dictionary in which every key finds the same
  pub data SameValue : Value → Value → Type 0 where
    same_integer : (z : ℤ) → SameValue (integer z) (integer z)
    same_string : (text : List ℕ) → SameValue (string text) (string text)
    same_list : {vs ws : Values} → SameValues vs ws → SameValue (list vs) (list ws)
    same_dictionary : {es fs : Entries} → ((key : List ℕ) → SameFound (lookup key es) (lookup key fs)) → SameValue (dictionary es) (dictionary fs)

  pub data SameValues : Values → Values → Type 0 where
    none : SameValues no_value no_value
    more : {v w : Value} {vs ws : Values} → SameValue v w → SameValues vs ws → SameValues (value v vs) (value w ws)

  -- no value for the key on both sides, or values that mean the same
  pub data SameFound : Found → Found → Type 0 where
    neither : SameFound missing missing
    both : {v w : Value} → SameValue v w → SameFound (found v) (found w)
