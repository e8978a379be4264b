-- A fault of the header, or of the length that it says, is the reader's answer; else the length is within the limit.
-- Assumes nothing.
use Prim.Native.Nat.{ℕ, ◌≤◌}
use mathlib.Core.Path.{◌≡◌, refl}
use mathlib.Core.Logic.{◌↔◌}
use mathlib.Core.Bool.{Bool, true, false, cond}
use mathlib.Core.List.{List}
use native.Mathlib.Omega.{arith}
use borrow.Author.Tests.{ltb-false, le-ltb}
use lib.Dec.{ltb}
use Rattle.std.specs.Prelude.{Result, Ok, Err}
use Rattle.bencode.specs.declared.profile.Profile.{Profile}
use Rattle.ipc.specs.declared.reading.Refusal.{Refusal}
use Rattle.ipc.specs.Answer.{refused, answer_of}
use Rattle.ipc.specs.Header.{largest_payload, protocol_payload, read_header, HeaderFound, number, short, no_digit, header_code, header_offset, sized, length_code}
use Rattle.ipc.specs.Reader.{by_size, by_header, read_frame}
use Rattle.ipc.proofs.headers.HeaderLaws.{header_found}
use Rattle.ipc.specs.Demands.{HeaderAnswered, HeadersAnswered}

by_header_lem : (s : List ℕ) (h : Result ℕ Refusal) → HeaderFound h → (header_code h ≡ 0 → ⊥) → answer_of (by_header Profile.Loose s h) ≡ refused (header_code h) (header_offset h)
by_header_lem s _ (number n) k = absurd (k refl)
by_header_lem s _ (no_digit at) k = refl
by_header_lem s _ short k = refl

by_length : (s : List ℕ) (n : ℕ) → (length_code n ≡ 0 → ⊥) → answer_of (by_size Profile.Loose s (sized n)) ≡ refused (length_code n) 0
unfolding sized
by_length s n k = go (ltb protocol_payload n) (ltb largest_payload n) k
  where
    go : (t u : Bool) → (◌≡◌ {A = ℕ} (cond t 3 (cond u 4 0)) 0 → ⊥) → answer_of (by_size Profile.Loose s (cond t (Err Refusal.OverProtocol) (cond u (Err Refusal.OverLimit) (Ok (record { 0 = n }))))) ≡ refused (cond t 3 (cond u 4 0)) 0
    go true u k = refl
    go false true k = refl
    go false false k = absurd (k refl)

says_length : (h : Result ℕ Refusal) → HeaderFound h → (header_code h ≡ 0) ↔ ((n : ℕ) × (h ≡ Ok n))
says_length h found = (there h found, λ p. rw p.1 refl)
  where
    there : (h : Result ℕ Refusal) → HeaderFound h → header_code h ≡ 0 → (n : ℕ) × (h ≡ Ok n)
    there _ (number n) k = (n, refl)
    there _ (no_digit at) k = absurd (omega arith)
    there _ short k = absurd (omega arith)

no_place : (h : Result ℕ Refusal) → HeaderFound h → header_code h ≡ 0 → header_offset h ≡ 0
no_place _ (number n) k = refl
no_place _ (no_digit at) k = absurd (omega arith)
no_place _ short k = refl

within_limit : (n : ℕ) → (length_code n ≡ 0) ↔ (n ≤ largest_payload)
within_limit n = (λ k. go (ltb protocol_payload n) (ltb largest_payload n) refl k, λ h. rw (le-ltb protocol_payload n (omega arith), le-ltb largest_payload n h) refl)
  where
    go : (t u : Bool) → ltb largest_payload n ≡ u → ◌≡◌ {A = ℕ} (cond t 3 (cond u 4 0)) 0 → n ≤ largest_payload
    go true u e k = absurd (omega arith)
    go false true e k = absurd (omega arith)
    go false false e k = ltb-false largest_payload n e

one_header : (s : List ℕ) → HeaderAnswered s
unfolding read_frame
one_header s =
    let found = header_found s in
    record {
      fault = by_header_lem s (read_header s) found;
      says = says_length (read_header s) found;
      place = no_place (read_header s) found;
      long = λ n e k. rw e (by_length s n k);
    }

pub headers_answered : HeadersAnswered
headers_answered = (one_header, within_limit)
