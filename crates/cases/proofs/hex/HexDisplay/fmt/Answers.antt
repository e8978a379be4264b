use Rattle.std.proofs.Common.{rules, arith, ◌≡◌, ℕ, ◌+◌, ◌<◌, length, List, [], ◌∷◌, ◌++◌, get_or, take, sym, ap, ◌∙◌}
use Rattle.std.proofs.Output.{has_written_append, has_written_of_eq}
use Rattle.std.proofs.lemmas.List.{take_more}
use Rattle.std.proofs.lemmas.Grind.{flat_map-append}
use Rattle.cases.specs.Hex.{byte_digits, hex_text}
use Rattle.cases.proofs.hex.HexDisplay.fmt.Goals as goal

-- the digits of one byte more
one_more : (bytes : List ℕ) (i : ℕ) → i < length bytes → hex_text (take i bytes) ++ byte_digits (get_or bytes i 0) ≡ hex_text (take (i + 1) bytes)
one_more bytes i h = sym (ap hex_text (take_more bytes i 0 h) ∙ flat_map-append byte_digits (take i bytes) (get_or bytes i 0 ∷ []))

pub loop-b-preserved : goal.loop-b-preserved
loop-b-preserved g c = λ plain.
    let h = c.loop-b.invariant plain in
    let more = one_more c.args.self.now.0.now c.loop-b.b-index (omega arith) in
    has_written_of_eq _ _ _ _ _ more (has_written_append _ _ _ _ _ _ h (search rules))
