-- `repeat_from` is pinned by `Unrolls`: a loop is one step, and then the loop from where it ended; `after_step` is to be believed.
-- `item_step` is pinned by `AcceptsExactly`, `items_from` by ipc's `AnswersMeaning`. A loop over a payload, or over a list's
-- items, as a function; where each step ends further right, the number of steps below is enough.
-- Assumes nothing.
use Rattle.std.specs.Prelude.{ℕ, zero, suc, ◌+◌, ◌-◌, ◌<◌, ◌≤◌, ◌≡◌, cond, List, eqb, length}
use Rattle.octets.specs.Bytes.{byte_at}
use Rattle.bencode.specs.Letters.{letter_e}

-- what a step gives: the offset and the state to go on with, or the answer
pub data LoopStep (X A : Type 0) : Type 0 where
  next : ℕ → X → LoopStep X A
  done : A → LoopStep X A

-- what follows a step
abbrev pub after_step : {X A : Type 0} → LoopStep X A → (ℕ → X → A) → A
after_step (next at x) continue = continue at x
after_step (done a) continue = a

-- at most n steps from an offset on, and the answer a where they do not end
unfoldable pub repeat : {X A : Type 0} → (ℕ → X → LoopStep X A) → A → ℕ → ℕ → X → A
repeat step a zero at x = a
repeat step a (suc n) at x = after_step (step at x) (λ to y. repeat step a n to y)

-- the steps from an offset on: there are at most as many as bytes from it on, and one
abbrev pub repeat_from : {X A : Type 0} → List ℕ → (ℕ → X → LoopStep X A) → A → ℕ → X → A
repeat_from s step a at x = repeat step a (suc (length s - at)) at x

-- a step over a list: the answer at its end, by the offset after it, or a step over one item
abbrev pub item_step : {X A : Type 0} → List ℕ → (ℕ → X → A) → (ℕ → X → LoopStep X A) → ℕ → X → LoopStep X A
item_step s end item at x = cond (eqb (byte_at s at) letter_e) (done (end (at + 1) x)) (item at x)

-- the steps over the items of a list from an offset on, and the answer `none` where they do not end
abbrev pub items_from : {X A : Type 0} → List ℕ → (ℕ → X → A) → (ℕ → X → LoopStep X A) → (ℕ → A) → ℕ → X → A
items_from s end item none at x = repeat_from s (item_step s end item) (none at) at x

-- ---- what makes the fuel no part of a loop's meaning
-- e is after an offset, and no further than the payload's end
abbrev pub Past : List ℕ → ℕ → ℕ → Type 0
Past s at e = (at < e) × (e ≤ length s)

-- each step that goes on ends further right
abbrev pub Onward : {X A : Type 0} → List ℕ → (ℕ → X → LoopStep X A) → Type 0
Onward {X} s step = (at : ℕ) (x : X) (to : ℕ) (y : X) → step at x ≡ next to y → Past s at to

-- where each step that goes on ends further right, a loop is one step and then the loop from where it ended: neither the fuel
-- nor the answer for no end is ever met
abbrev pub Unrolls : Type 1
Unrolls = (X A : Type 0) (s : List ℕ) (step : ℕ → X → LoopStep X A) → Onward s step → (d : ℕ → A) (at : ℕ) (x : X)
    → repeat_from s step (d at) at x ≡ after_step (step at x) (λ to y. repeat_from s step (d to) to y)
