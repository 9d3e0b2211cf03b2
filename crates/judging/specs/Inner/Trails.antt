-- What writing a trail and a loop leaves: row, trail and loop as they are counted, and the steps. Assumes nothing.
use Rattle.std.specs.Prelude.{◌≡◌, List, ◌++◌, ℕ, ◌+◌, ◌*◌, ◌/◌, ◌≤◌, ◌<◌, length}
use Rattle.judging.specs.Inner.Found.{maker_at}
use Rattle.judging.specs.Inner.Nodes.{back, from_of, link_of}
use Rattle.judging.specs.Inner.Written.{put_steps, line_to, way_to, way_back, Falls, WayLength, TurnLength, LineLength}

-- What the writers are lent: how each found shape was reached, and room for 4,096 steps.
pub record Lent (steps : List ℕ) (ways : List (List ℕ)) (count : ℕ) : Type 0 where
  pub falls : Falls ways count
  pub room : 20480 ≤ length steps

-- The way to node y's shape and then the loop back to y are written.
pub record WroteEndless (ways raises : List (List ℕ)) (count y : ℕ) (before : List ℕ) (row trail turns : ℕ) (after : List ℕ) : Type 0 where
  pub way : WayLength ways (y / 7) trail
  pub turn : TurnLength (from_of raises) (7 * count) y turns
  pub first : row ≡ maker_at ways (way_back ways trail (y / 7))
  pub steps : after ≡ put_steps before 0 (way_to ways trail (y / 7) ++ line_to (from_of raises) (link_of raises) turns y)

-- The way to the shape where the line to node x begins and then that line are written.
pub record WroteSettled (ways generations raises : List (List ℕ)) (count x : ℕ) (before : List ℕ) (row trail : ℕ) (after : List ℕ) : Type 0 where
  pub reaching : ℕ
  pub links : ℕ
  pub line : LineLength generations (from_of raises) (7 * count) x links
  pub start_below : back (from_of raises) links x < 7 * count
  pub way : WayLength ways (back (from_of raises) links x / 7) reaching
  pub first : row ≡ maker_at ways (way_back ways reaching (back (from_of raises) links x / 7))
  pub counted : trail ≡ reaching + links
  pub steps : after ≡ put_steps before 0 (way_to ways reaching (back (from_of raises) links x / 7) ++ line_to (from_of raises) (link_of raises) links x)
