-- `Utf8Text` is to be believed, `is_text` is pinned by `KeyText`; the part on ASCII by the promises of `is_text` and
-- `key_string`, and nothing public cites it. Text: UTF-8 by RFC 3629, with no zero byte (document 02, request 03). `Utf8Text`
-- is by encoding (the RFC's section 3), `is_text` recognises bytes by their ranges (section 4).
-- Assumes nothing.
use Rattle.std.specs.Prelude.{ℕ, zero, suc, ◌+◌, ◌*◌, ◌/◌, ◌%◌, ◌≤◌, ◌<◌, ◌≡◌, ◌⊎◌, Bool, true, false, cond, List, [], ◌∷◌, ◌++◌, leb, ltb, eqb}
use Rattle.octets.specs.Bytes.{byte_at}

-- ---- the definition
-- a character: a Unicode scalar value, which is at most 10FFFF and no surrogate, and not 0
abbrev pub Character : ℕ → Type 0
Character c = (0 < c) × ((c < 0xD800) ⊎ (0xE000 ≤ c)) × (c ≤ 0x10FFFF)

-- a number without its last six bits
abbrev pub leading : ℕ → ℕ
leading c = c / 64

-- the byte 10xxxxxx with the last six bits of a number, the RFC's UTF8-tail
abbrev pub tail : ℕ → ℕ
tail c = 0x80 + c % 64

-- a character's bytes: 0xxxxxxx, 110xxxxx 10xxxxxx, 1110xxxx 10xxxxxx 10xxxxxx, or 11110xxx 10xxxxxx 10xxxxxx 10xxxxxx
unfoldable pub utf8 : ℕ → List ℕ
utf8 c =
    cond (ltb c 0x80) (c ∷ [])
    (cond (ltb c 0x800) ((0xC0 + leading c) ∷ tail c ∷ [])
    (cond (ltb c 0x10000) ((0xE0 + leading (leading c)) ∷ tail (leading c) ∷ tail c ∷ [])
    ((0xF0 + leading (leading (leading c))) ∷ tail (leading (leading c)) ∷ tail (leading c) ∷ tail c ∷ [])))

-- the bytes of characters, joined
unfoldable pub utf8_all : List ℕ → List ℕ
utf8_all [] = []
utf8_all (c ∷ cs) = utf8 c ++ utf8_all cs

-- each number is a character
abbrev pub Characters : List ℕ → Type 0
Characters [] = Unit {0}
Characters (c ∷ cs) = Character c × Characters cs

-- bytes that are a text
abbrev pub Utf8Text : List ℕ → Type 0
Utf8Text s = (cs : List ℕ) × Characters cs × (s ≡ utf8_all cs)

-- ---- the recogniser
-- how many bytes follow the first byte of a character; 4 for a byte that begins none
abbrev pub following : ℕ → ℕ
following b =
    cond (leb b 0) 4
    (cond (leb b 0x7F) 0
    (cond (leb b 0xC1) 4
    (cond (leb b 0xDF) 1
    (cond (leb b 0xEF) 2
    (cond (leb b 0xF4) 3 4)))))

-- the least second byte after a first one: no character is written longer than it must be
abbrev pub lowest : ℕ → ℕ
lowest b = cond (eqb b 0xE0) 0xA0 (cond (eqb b 0xF0) 0x90 0x80)

-- the greatest second byte after a first one: no surrogate, nothing above 10FFFF
abbrev pub highest : ℕ → ℕ
highest b = cond (eqb b 0xED) 0x9F (cond (eqb b 0xF4) 0x8F 0xBF)

-- are bytes a text, where n bytes of its first character are still to come, the next of them from low to high
unfoldable pub text_from : ℕ → ℕ → ℕ → List ℕ → Bool
text_from zero low high [] = true
text_from (suc n) low high [] = false
text_from zero low high (b ∷ bs) = let r = text_from (following b) (lowest b) (highest b) bs in cond (leb (following b) 3) r false
text_from (suc n) low high (b ∷ bs) = let r = text_from n 0x80 0xBF bs in cond (leb low b) (cond (leb b high) r false) false

-- are bytes a text
abbrev pub is_text : List ℕ → Bool
is_text s = text_from 0 0x80 0xBF s

-- ---- ASCII, eight bytes at a time
-- a plain byte, a character by itself: ASCII but 0
abbrev pub Plain : ℕ → Type 0
Plain b = (0 < b) × (b ≤ 0x7F)

-- so many bytes from an offset on are plain
abbrev pub PlainAt : List ℕ → ℕ → ℕ → Type 0
PlainAt s at n = (k : ℕ) → k < n → Plain (byte_at s (at + k))

-- eight bytes are plain
abbrev pub PlainBytes : ℕ → ℕ → ℕ → ℕ → ℕ → ℕ → ℕ → ℕ → Type 0
PlainBytes a b c d e f g h = Plain a × Plain b × Plain c × Plain d × Plain e × Plain f × Plain g × Plain h

-- eight bytes as one number, the first one the lowest
abbrev pub word_of : ℕ → ℕ → ℕ → ℕ → ℕ → ℕ → ℕ → ℕ → ℕ
word_of a b c d e f g h =
    a + b * 0x100 + c * 0x10000 + d * 0x1000000 + e * 0x100000000 + f * 0x10000000000 + g * 0x1000000000000 + h * 0x100000000000000
