-- To be believed. The bytes that the grammar names, in ASCII.
-- Assumes nothing.
use Rattle.std.specs.Prelude.{ℕ}

abbrev pub letter_d : ℕ
letter_d = 100

abbrev pub letter_e : ℕ
letter_e = 101

abbrev pub letter_i : ℕ
letter_i = 105

abbrev pub letter_l : ℕ
letter_l = 108

abbrev pub colon : ℕ
colon = 58

abbrev pub minus : ℕ
minus = 45
