-- Limits, hex digits and `size_code` are to be believed; reading is pinned by `AnswersByRow`, `header_code`, `header_offset` and
-- `length_code` by `HeadersAnswered`. The header of a frame: 8 hex digits of either case for the payload's length (document 01,
-- 'The frame').
-- Assumes nothing.
use Rattle.std.specs.Prelude.{true, false, cond, List, [], ◌∷◌, ℕ, zero, suc, ◌+◌, ◌*◌, ◌-◌, ltb, Result, Ok, Err}
use Rattle.ipc.specs.declared.header.PayloadLength.{PayloadLength}
use Rattle.ipc.specs.declared.reading.Refusal.{Refusal}
use Rattle.ipc.specs.Answer.{refusal_answer, refusal_code}

-- how many bytes a header has
abbrev pub header_length : ℕ
header_length = 8

-- the longest payload that this library takes, and the longest that the protocol has
abbrev pub largest_payload : ℕ
largest_payload = 32768

abbrev pub protocol_payload : ℕ
protocol_payload = 2147483640

-- the value of a hex digit of either case, 0 to 9, A to F and a to f, and 16 of any other byte
unfoldable pub hex_value : ℕ → ℕ
hex_value c =
    cond (ltb c 48)
    16
    (cond (ltb c 58)
    (c - 48)
    (cond (ltb c 65) 16 (cond (ltb c 71) (c - 55) (cond (ltb c 97) 16 (cond (ltb c 103) (c - 87) 16)))))

-- what reading k hex digits finds, at an offset and after those of v: the number, the offset of the first byte that is none,
-- or too few bytes
unfoldable pub header_in : ℕ → ℕ → ℕ → List ℕ → Result ℕ Refusal
header_in zero i v s = Ok v
header_in (suc k) i v [] = Err Refusal.Incomplete
header_in (suc k) i v (c ∷ cs) = elim (ltb (hex_value c) 16) [ true ↦ header_in k (i + 1) (16 * v + hex_value c) cs | false ↦ Err (Refusal.NoDigit i) ]

-- what reading a header at the front of bytes finds
unfoldable pub read_header : List ℕ → Result ℕ Refusal
read_header s = header_in header_length 0 0 s

-- reading a header finds nothing but a number, too few bytes, or the offset of a byte that is no hex digit
pub data HeaderFound : Result ℕ Refusal → Type 0 where
  number : (n : ℕ) → HeaderFound (Ok n)
  short : HeaderFound (Err Refusal.Incomplete)
  no_digit : (at : ℕ) → HeaderFound (Err (Refusal.NoDigit at))

-- document 01's code and offset for it; 0 and 0 for a number (no other refusal is found: `HeaderFound`)
abbrev pub header_code : Result ℕ Refusal → ℕ
header_code (Ok n) = 0
header_code (Err Refusal.Incomplete) = 1
header_code (Err (Refusal.NoDigit at)) = 2
header_code (Err r) = refusal_code r

abbrev pub header_offset : Result ℕ Refusal → ℕ
header_offset (Ok n) = 0
header_offset (Err Refusal.Incomplete) = 0
header_offset (Err (Refusal.NoDigit at)) = at
header_offset (Err r) = (refusal_answer r).offset

-- a payload's length against the protocol's limit and this library's
unfoldable pub sized : ℕ → Result PayloadLength Refusal
sized n = cond (ltb protocol_payload n) (Err Refusal.OverProtocol) (cond (ltb largest_payload n) (Err Refusal.OverLimit) (Ok (record { 0 = n })))

-- a length is nothing but taken, over the protocol's limit, or over this library's
pub data SizeFound : Result PayloadLength Refusal → Type 0 where
  taken : (n : PayloadLength) → SizeFound (Ok n)
  over_protocol : SizeFound (Err Refusal.OverProtocol)
  over_limit : SizeFound (Err Refusal.OverLimit)

-- document 01's code for it: 3 over the protocol's limit, 4 over this library's, and 0 for neither (no other refusal is found:
-- `SizeFound`)
abbrev pub size_code : Result PayloadLength Refusal → ℕ
size_code (Ok n) = 0
size_code (Err Refusal.OverProtocol) = 3
size_code (Err Refusal.OverLimit) = 4
size_code (Err r) = refusal_code r

abbrev pub length_code : ℕ → ℕ
length_code n = cond (ltb protocol_payload n) 3 (cond (ltb largest_payload n) 4 0)
