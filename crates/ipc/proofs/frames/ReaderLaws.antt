-- Laws of frames: one for each way through the reader.
-- Assumes nothing.
use Prim.Native.Nat.{ℕ, ◌+◌, ◌≤◌, ◌<◌}
use mathlib.Core.Path.{◌≡◌, refl, sym, ap}
use mathlib.Core.Logic.{⊎_elim}
use mathlib.Core.Bool.{Bool, true, false, cond}
use mathlib.Core.List.{List}
use native.Mathlib.Omega.{arith}
use borrow.Author.Tests.{eq-eqb, ne_eqb, le-leb, lt-leb, lt-ltb, le-ltb, ltb-false}
use lib.Dec.{ltb}
use lib.ListN.{length}
use Rattle.std.specs.Prelude.{Result, Ok, Err}
use Rattle.bencode.specs.declared.fault.Fault.{Fault}
use Rattle.bencode.specs.declared.profile.Profile.{Profile}
use Rattle.octets.specs.Bytes.{byte_at, slice}
use Rattle.bencode.specs.Walk.{payload_at}
use Rattle.octets.proofs.digits.DigitLaws.{lt_or_le}
use Rattle.ipc.specs.declared.header.PayloadLength.{PayloadLength}
use Rattle.ipc.specs.declared.reading.Refusal.{Refusal}
use Rattle.ipc.specs.Header.{largest_payload, protocol_payload, read_header, sized}
use Rattle.ipc.specs.Message.{message_reading}
use Rattle.ipc.specs.Handshake.{handshake_reading}
use Rattle.ipc.specs.Reader.{payload_reading, length_reading, by_size, reading_by}

module _ (profile : Profile) (p : List ℕ) where
  pub payload_fault : (f : Fault) → payload_at profile p ≡ Err f → Err (Refusal.Payload f) ≡ payload_reading profile p
  unfolding payload_reading
  payload_fault f e = rw e refl

  module _ (end : ℕ) (e : payload_at profile p ≡ Ok end) where
    pub payload_dictionary : byte_at p 0 ≡ 100 → handshake_reading p ≡ payload_reading profile p
    unfolding payload_reading
    payload_dictionary b = rw (e, eq-eqb (byte_at p 0) 100 b) refl

    module _ (b : byte_at p 0 ≡ 100 → ⊥) where
      pub payload_list : byte_at p 0 ≡ 108 → message_reading p ≡ payload_reading profile p
      unfolding payload_reading
      payload_list l = rw (e, ne_eqb (byte_at p 0) 100 b, eq-eqb (byte_at p 0) 108 l) refl

      pub payload_scalar : (byte_at p 0 ≡ 108 → ⊥) → Err Refusal.NoMessage ≡ payload_reading profile p
      unfolding payload_reading
      payload_scalar l = rw (e, ne_eqb (byte_at p 0) 100 b, ne_eqb (byte_at p 0) 108 l) refl

module _ (profile : Profile) (s : List ℕ) (n : ℕ) where
  pub length_short : length s < 8 + n → Err Refusal.Incomplete ≡ length_reading profile s n
  unfolding length_reading
  length_short h = rw (lt-leb (8 + n) (length s) h) refl

  pub length_there : 8 + n ≤ length s → payload_reading profile (slice s 8 (8 + n)) ≡ length_reading profile s n
  unfolding length_reading
  length_there h = rw (le-leb (8 + n) (length s) h) refl

-- a length that is taken is within the limit
pub sized_small : (n : ℕ) (l : PayloadLength) → sized n ≡ Ok l → l.0 ≤ largest_payload
unfolding sized
sized_small n l e = go (ltb protocol_payload n) (ltb largest_payload n) refl e
  where
    go : (t u : Bool) → ltb largest_payload n ≡ u → cond t (Err Refusal.OverProtocol) (cond u (Err Refusal.OverLimit) (Ok (record { 0 = n }))) ≡ Ok l → l.0 ≤ largest_payload
    go true u h e = absurd cc
    go false true h e = absurd cc
    go false false h e =
        let small : n ≤ largest_payload = ltb-false largest_payload n h in
        let is : record { 0 = n } ≡ l = cc in
        omega (arith, ap (λ (k : PayloadLength). k.0) is)

-- and is the number itself
pub sized_same : (n : ℕ) (l : PayloadLength) → sized n ≡ Ok l → l.0 ≡ n
unfolding sized
sized_same n l e = go (ltb protocol_payload n) (ltb largest_payload n) e
  where
    go : (t u : Bool) → cond t (Err Refusal.OverProtocol) (cond u (Err Refusal.OverLimit) (Ok (record { 0 = n }))) ≡ Ok l → l.0 ≡ n
    go true u e = absurd cc
    go false true e = absurd cc
    go false false e = let is : record { 0 = n } ≡ l = cc in sym (ap (λ (k : PayloadLength). k.0) is)

pub sized_fits : (n : ℕ) → n ≤ largest_payload → sized n ≡ Ok (record { 0 = n })
unfolding sized
sized_fits n h = rw (le-ltb protocol_payload n (omega arith), le-ltb largest_payload n h) refl

pub sized_over_limit : (n : ℕ) → largest_payload < n → n ≤ protocol_payload → sized n ≡ Err Refusal.OverLimit
unfolding sized
sized_over_limit n h g = rw (le-ltb protocol_payload n g, lt-ltb largest_payload n h) refl

pub sized_over_protocol : (n : ℕ) → protocol_payload < n → sized n ≡ Err Refusal.OverProtocol
unfolding sized
sized_over_protocol n h = rw (lt-ltb protocol_payload n h) refl

-- the same of the number, and what a refusal says of it
pub sized_length : (n : ℕ) (l : PayloadLength) → sized n ≡ Ok l → n ≤ largest_payload
sized_length n l e = omega (arith, sized_small n l e, sized_same n l e)

pub sized_over : (n : ℕ) (r : Refusal) → sized n ≡ Err r → largest_payload < n
sized_over n r e = ⊎_elim (λ (l : largest_payload < n). l) (λ (l : n ≤ largest_payload). let z = sized_fits n l in absurd cc) (lt_or_le largest_payload n)

module _ (profile : Profile) (s : List ℕ) where
  pub frame_refused : (r : Refusal) → read_header s ≡ Err r → Err r ≡ reading_by profile s
  frame_refused r e = rw e refl

  pub frame_sized : (n : ℕ) (z : Result PayloadLength Refusal) → read_header s ≡ Ok n → sized n ≡ z → by_size profile s z ≡ reading_by profile s
  frame_sized n z e h = rw (e, h) refl
