-- To be believed. A reading as it is printed: `code offset consumed kind key tag value`, numbers in decimal.
-- Assumes nothing.
use Rattle.std.specs.Prelude.{ℕ, List, ◌++◌, codes, decimal, ◌==◌, ◌||◌, if◌then◌else◌}
use Rattle.std.specs.Fmt.{signed_decimal}
use Rattle.ipc.specs.declared.numbers.Numbers.{Numbers}
use Rattle.ipc.specs.declared.numbers.ValueNumbers.{ValueNumbers}

-- two numbers with a comma between them
abbrev pub pair_text : ℕ → ℕ → List ℕ
pair_text a b = decimal a ++ codes "," ++ decimal b

-- an integer, a text, a list or an unlisted value, the versions of a handshake, or nothing
abbrev pub value_text : ValueNumbers → List ℕ
value_text v =
    if v.kind == 1 then codes "i" ++ signed_decimal v.integer
    else if v.kind == 2 then codes "t" ++ pair_text v.start v.length
    else if v.kind == 3 then codes "p" ++ pair_text v.start v.length
    else if v.kind == 4 then codes "h" ++ pair_text v.min v.max
    else codes "-"

-- a handshake, a message (22 names one too), or neither; and a space
abbrev pub kind_text : Numbers → List ℕ
kind_text n = if n.kind == 2 then codes "h " else if n.kind == 1 || n.code == 22 then codes "m " else codes "- "

-- a number, a space, and what follows
abbrev pub field_text : ℕ → List ℕ → List ℕ
field_text x rest = decimal x ++ (codes " " ++ rest)

-- a line
abbrev pub line_text : Numbers → List ℕ
line_text n =
    field_text n.code (field_text n.offset (field_text n.consumed
    (kind_text n ++ field_text n.key (field_text n.tag (value_text n.value)))))
