-- Which keys are allowed is pinned by `KeysOnce` and `KeysRise`, 10 by `TenForNoText`, 8 by `EightForRepeated`, 11 by
-- `ElevenForUnsorted`; `is_fault_code` is to be believed. The key rule: which keys may follow which in a dictionary (document 01,
-- 'The frame': in any order, and no key twice; document 02, request 03: keys are text; request 06: the strict profile).
-- Assumes nothing.
use Rattle.std.specs.Prelude.{ℕ, Bool, true, false, cond, ◌&&◌, ◌||◌, List, [], ◌∷◌, eqb, leb, Option, Some, None}
use Rattle.bencode.specs.declared.profile.Profile.{Profile}
use Rattle.octets.specs.Bytes.{same, less}
use Rattle.bencode.specs.Utf8.{is_text}
use Rattle.bencode.specs.declared.fault.Cause.{Cause}

-- is a key among the earlier ones
unfoldable pub is_used : List ℕ → List (List ℕ) → Bool
is_used key [] = false
is_used key (k ∷ keys) = same k key || is_used key keys

-- is a key above every earlier one
unfoldable pub is_above : List ℕ → List (List ℕ) → Bool
is_above key [] = true
is_above key (k ∷ keys) = less k key && is_above key keys

-- the fault of a key that comes once: 11 in the strict profile where it is not above the earlier ones
abbrev pub order_fault : Profile → Bool → Option Cause
order_fault Profile.Loose rises = None
order_fault Profile.Strict rises = cond rises None (Some Cause.UnsortedKey)

-- the fault of a key that is text: 8 where it comes again, else that of its order
abbrev pub compared_fault : Profile → List (List ℕ) → List ℕ → Option Cause
compared_fault p keys key = cond (is_used key keys) (Some Cause.RepeatedKey) (order_fault p (is_above key keys))

-- the fault of a key after the earlier keys of its dictionary, the latest of them first: 10 where it is no text
unfoldable pub key_fault : Profile → List (List ℕ) → List ℕ → Option Cause
key_fault p keys key = cond (is_text key) (compared_fault p keys key) (Some Cause.IllFormedKey)

-- is a code that of the order, 11 in the strict profile
abbrev pub is_order_code : Profile → ℕ → Bool
is_order_code Profile.Loose c = false
is_order_code Profile.Strict c = eqb c 11

-- is a code one of a profile's faults: 5 to 10, and 11 in the strict one
abbrev pub is_fault_code : Profile → ℕ → Bool
is_fault_code p c = (leb 5 c && leb c 10) || is_order_code p c
