-- Statements that antt computes: bytes that are text and bytes that are none, about the borders of RFC 3629's table; its
-- examples as they are encoded; where and when 10 is given (document 02, request 03).
-- Assumes nothing.
use Rattle.std.specs.Prelude.{ℕ, ◌≡◌, Bool, true, false, List, [], ◌∷◌, ◌++◌, map}
use Rattle.bencode.specs.declared.profile.Profile.{Profile}
use Rattle.octets.specs.Ascii.{ascii}
use Rattle.bencode.specs.Utf8.{is_text, utf8_all}
use Rattle.bencode.specs.Walk.{payload_code, payload_offset}

-- bytes, and whether they are a text
pub record Try : Type 0 where
  pub bytes : List ℕ
  pub recognised : Bool

abbrev well_formed : List ℕ → Try
well_formed s = record { bytes = s; recognised = true }

abbrev ill_formed : List ℕ → Try
ill_formed s = record { bytes = s; recognised = false }

unfoldable pub tries : List Try
tries =
    well_formed [] ∷
    well_formed (0x41 ∷ 0xE2 ∷ 0x89 ∷ 0xA2 ∷ 0xCE ∷ 0x91 ∷ 0x2E ∷ []) ∷
    well_formed (0x7F ∷ []) ∷
    ill_formed (0x61 ∷ 0 ∷ []) ∷
    ill_formed (0x80 ∷ []) ∷
    ill_formed (0xC1 ∷ 0xBF ∷ []) ∷
    well_formed (0xC2 ∷ 0x80 ∷ []) ∷
    well_formed (0xDF ∷ 0xBF ∷ []) ∷
    ill_formed (0xE0 ∷ 0x9F ∷ 0xBF ∷ []) ∷
    well_formed (0xE0 ∷ 0xA0 ∷ 0x80 ∷ []) ∷
    ill_formed (0xE2 ∷ 0x82 ∷ []) ∷
    well_formed (0xED ∷ 0x9F ∷ 0xBF ∷ []) ∷
    ill_formed (0xED ∷ 0xA0 ∷ 0x80 ∷ []) ∷
    ill_formed (0xED ∷ 0xBF ∷ 0xBF ∷ []) ∷
    well_formed (0xEE ∷ 0x80 ∷ 0x80 ∷ []) ∷
    well_formed (0xEF ∷ 0xBF ∷ 0xBF ∷ []) ∷
    ill_formed (0xF0 ∷ 0x8F ∷ 0xBF ∷ 0xBF ∷ []) ∷
    well_formed (0xF0 ∷ 0x90 ∷ 0x80 ∷ 0x80 ∷ []) ∷
    well_formed (0xF4 ∷ 0x8F ∷ 0xBF ∷ 0xBF ∷ []) ∷
    ill_formed (0xF4 ∷ 0x90 ∷ 0x80 ∷ 0x80 ∷ []) ∷
    ill_formed (0xF5 ∷ 0x80 ∷ 0x80 ∷ 0x80 ∷ []) ∷
    []

-- each is recognised as the table says
abbrev pub TextsTried : Type 0
TextsTried = map (λ t. is_text t.bytes) tries ≡ map (λ t. t.recognised) tries

-- the examples of RFC 3629, section 7, as they are encoded: 'A', not identical to, Alpha, '.'; Korean 'hangugeo'; Japanese
-- 'nihongo'; a byte order mark and U+233B4
abbrev pub TextsEncoded : Type 0
TextsEncoded = (utf8_all (0x41 ∷ 0x2262 ∷ 0x391 ∷ 0x2E ∷ []) ≡ 0x41 ∷ 0xE2 ∷ 0x89 ∷ 0xA2 ∷ 0xCE ∷ 0x91 ∷ 0x2E ∷ [])
    × (utf8_all (0xD55C ∷ 0xAD6D ∷ 0xC5B4 ∷ []) ≡ 0xED ∷ 0x95 ∷ 0x9C ∷ 0xEA ∷ 0xB5 ∷ 0xAD ∷ 0xEC ∷ 0x96 ∷ 0xB4 ∷ [])
    × (utf8_all (0x65E5 ∷ 0x672C ∷ 0x8A9E ∷ []) ≡ 0xE6 ∷ 0x97 ∷ 0xA5 ∷ 0xE6 ∷ 0x9C ∷ 0xAC ∷ 0xE8 ∷ 0xAA ∷ 0x9E ∷ [])
    × (utf8_all (0xFEFF ∷ 0x233B4 ∷ []) ≡ 0xEF ∷ 0xBB ∷ 0xBF ∷ 0xF0 ∷ 0xA3 ∷ 0x8E ∷ 0xB4 ∷ [])

-- a payload is refused with a code and an offset
abbrev pub RefusedAt : Profile → List ℕ → ℕ → ℕ → Type 0
RefusedAt p s code at = (payload_code p s ≡ code) × (payload_offset p s ≡ at)

-- `d1:` and FF is 10 at the key's first length digit, though no value follows; `d2:` and FF is cut, so 5 at the end; a key
-- `a` and FF after `b` is 10 in the strict profile too, not 11
abbrev pub PlacesTried : Type 0
PlacesTried = RefusedAt Profile.Loose (ascii "d1:" ++ (0xFF ∷ [])) 10 1
    × RefusedAt Profile.Loose (ascii "d2:" ++ (0xFF ∷ [])) 5 4
    × RefusedAt Profile.Strict (ascii "d1:b0:2:a" ++ (0xFF ∷ [])) 10 6
