-- To be believed. The lines that a run prints (document 01, 'The strip and its program').
-- Assumes nothing.
use Rattle.std.specs.Prelude.{ℕ, ◌+◌, length, take, replicate}
use mathlib.Core.List.{List, [], ◌∷◌, ◌++◌, flatten}
use Rattle.octets.specs.Numerals.{decimal}
use Rattle.octets.specs.Put.{at_front}
use Rattle.octets.specs.Ascii.{ascii}
use Rattle.desk.specs.Command.{longest_frames}
use Rattle.strip.specs.declared.output.Output.{Output}

abbrev pub space : List ℕ
space = 32 ∷ []

abbrev pub newline : List ℕ
newline = 10 ∷ []

-- a line of a word and a number
unfoldable pub word_text : List ℕ → ℕ → List ℕ
word_text word n = flatten (word ∷ decimal n ∷ newline ∷ [])

-- `open A`
abbrev pub open_text : ℕ → List ℕ
open_text code = word_text (ascii "open ") code

-- `strip fault P`
abbrev pub fault_text : ℕ → List ℕ
fault_text offset = word_text (ascii "strip fault ") offset

-- kind, answer and byte count
unfoldable pub call_line : ℕ → ℕ → ℕ → List ℕ
call_line kind code count = flatten (decimal kind ∷ space ∷ decimal code ∷ space ∷ decimal count ∷ newline ∷ [])

-- if bytes were written, those on the next line
unfoldable pub frames_text : List ℕ → List ℕ
frames_text [] = []
frames_text (b ∷ bs) = flatten ((b ∷ bs) ∷ newline ∷ [])

-- both
unfoldable pub call_text : ℕ → ℕ → List ℕ → List ℕ
call_text kind code bytes = call_line kind code (length bytes) ++ frames_text bytes

-- ---- a text at the front of its bytes, and how many it has
-- a word before a number, and a line, are no longer; the bytes have room for a line and a call's longest frames with a newline
abbrev pub longest_word : ℕ
longest_word = 16

abbrev pub longest_line : ℕ
longest_line = 48

abbrev pub output_room : ℕ
output_room = longest_line + longest_frames + 1

abbrev pub blank : List ℕ
blank = replicate output_room 0

unfoldable pub output_of : List ℕ → Output
output_of text = record { bytes = at_front text blank; length = length text }

-- the bytes of an output
unfoldable pub output_bytes : Output → List ℕ
output_bytes t = take t.length t.bytes
