-- What a program's report of its input answers. Assumes nothing.
use Rattle.std.specs.Prelude.{List, ℕ, Option, ◌≡◌, ◌≤◌, length}
use denote.Ref.{Bor, MutBor}

-- A call gave this answer: it was at a text of so many bytes at most and at room for so many.
pub record Reported (Gives : Bor (List ℕ) → MutBor (List ℕ) → Option ℕ → MutBor (List ℕ) → Type 0) (most room : ℕ) (answer : Option ℕ) : Type 0 where
  pub text : Bor (List ℕ)
  pub before : MutBor (List ℕ)
  pub after : MutBor (List ℕ)
  pub fits : length text.now ≤ most
  pub room_is : length before.now ≡ room
  pub gives : Gives text before answer after
