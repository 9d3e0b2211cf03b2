-- Bytes put into lent text, one piece after another. Assumes nothing.
use Rattle.std.specs.Prelude.{◌≡◌, List, ℕ, ◌+◌, length}
use Rattle.columns.specs.Column.{put}

-- Bytes are put at `at`, and `next` is where they end.
pub record Puts (before : List ℕ) (at : ℕ) (new : List ℕ) (next : ℕ) (after : List ℕ) : Type 0 where
  pub text : after ≡ put before at new
  pub end : next ≡ at + length new
