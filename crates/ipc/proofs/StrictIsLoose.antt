-- But for 11 the strict reader answers as the loose one does.
-- Assumes nothing.
use Prim.Native.Nat.{ℕ, ◌+◌}
use mathlib.Core.Path.{◌≡◌, refl, ap}
use mathlib.Core.Bool.{Bool, true, false, cond}
use mathlib.Core.List.{List}
use native.Mathlib.Omega.{arith}
use lib.Dec.{leb}
use lib.ListN.{length}
use Rattle.octets.specs.Bytes.{slice}
use Rattle.bencode.specs.declared.profile.Profile.{Profile}
use Rattle.bencode.specs.Fault.{code_of, Walk}
use Rattle.bencode.specs.Walk.{payload_at, payload_code}
use Rattle.bencode.proofs.StrictIsLoose.{strict_is_loose as payload-is-loose}
use Rattle.std.specs.Prelude.{Result, Ok, Err}
use Rattle.ipc.specs.declared.header.PayloadLength.{PayloadLength}
use Rattle.ipc.specs.declared.reading.Frame.{Frame}
use Rattle.ipc.specs.declared.reading.Refusal.{Refusal}
use Rattle.ipc.specs.Answer.{answer_of}
use Rattle.ipc.specs.Header.{header_length, read_header, sized}
use Rattle.ipc.specs.Reader.{walked, payload_reading, length_reading, by_size, by_header, read_frame}
use Rattle.ipc.specs.Demands.{StrictIsLoose}

-- what is read is not refused by 11
abbrev Other : Result Frame Refusal → Type 0
Other r = (answer_of r).code ≡ 11 → ⊥

payload_agrees : (p : List ℕ) → Other (payload_reading Profile.Strict p) → payload_reading Profile.Strict p ≡ payload_reading Profile.Loose p
unfolding payload_reading payload_code
payload_agrees p other = ap (walked p) (payload-is-loose p (λ e. other (go (payload_at Profile.Strict p) e)))
  where
    go : (w : Walk) → code_of w ≡ 11 → (answer_of (walked p w)).code ≡ 11
    go (Ok end) e = absurd (omega arith)
    go (Err f) e = e

size_agrees : (s : List ℕ) (z : Result PayloadLength Refusal) → Other (by_size Profile.Strict s z) → by_size Profile.Strict s z ≡ by_size Profile.Loose s z
unfolding length_reading
size_agrees s (Ok n) other = go (leb (header_length + n.0) (length s)) (slice s header_length (header_length + n.0)) other
  where
    go : (t : Bool) (p : List ℕ) → Other (cond t (payload_reading Profile.Strict p) (Err Refusal.Incomplete)) → cond t (payload_reading Profile.Strict p) (Err Refusal.Incomplete) ≡ cond t (payload_reading Profile.Loose p) (Err Refusal.Incomplete)
    go true p other = payload_agrees p other
    go false p other = refl
size_agrees s (Err r) other = refl

header_agrees : (s : List ℕ) (h : Result ℕ Refusal) → Other (by_header Profile.Strict s h) → by_header Profile.Strict s h ≡ by_header Profile.Loose s h
header_agrees s (Ok n) other = size_agrees s (sized n) other
header_agrees s (Err r) other = refl

pub strict_is_loose : StrictIsLoose
unfolding read_frame
strict_is_loose s other = ap answer_of (header_agrees s (read_header s) other)
