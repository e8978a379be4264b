-- Which strings are read is pinned by `ReadsString` and `AcceptsExactly`; code and offset of a fault are to be believed.
-- Strings: a decimal length, a colon and that many bytes (document 01, 'The frame').
-- Assumes nothing.
use Rattle.std.specs.Prelude.{ℕ, ◌+◌, ◌-◌, cond, List, length, leb, eqb, Ok, Err, Result}
use Rattle.octets.specs.declared.numerals.Decimal.{Decimal}
use Rattle.bencode.specs.declared.strings.Text.{Text}
use Rattle.octets.specs.Bytes.{byte_at}
use Rattle.bencode.specs.Letters.{colon}
use Rattle.bencode.specs.Fault.{fault, Walk}
use Rattle.octets.specs.Numerals.{numeral_at}
use Rattle.bencode.specs.declared.fault.Fault.{Fault}
use Rattle.bencode.specs.declared.fault.Cause.{Cause}

-- a text from start up to end
abbrev pub text_of : ℕ → ℕ → Text
text_of from to = record { start = from; end = to }

-- the string whose length is the numeral n: 5 at the first byte that cannot stand there, or at the payload's end
abbrev pub string_of : List ℕ → ℕ → Decimal → Result Text Fault
string_of s at n =
    cond (eqb n.end at) (Err (fault Cause.Syntax at))
    (cond (eqb (byte_at s n.end) colon)
    (cond (leb n.number (length s - (n.end + 1)))
    (Ok (text_of (n.end + 1) (n.end + 1 + n.number)))
    (Err (fault Cause.Syntax (length s))))
    (Err (fault Cause.Syntax n.end)))

-- the string at an offset: where its text starts and ends, or the fault
unfoldable pub string_at : List ℕ → ℕ → Result Text Fault
string_at s at = string_of s at (numeral_at s at)

-- the offset after a string
abbrev pub text_end : Result Text Fault → Walk
text_end (Ok t) = Ok t.end
text_end (Err f) = Err f
