-- A refusal leaves lent memory as it was: a good answer has refusal 0. Assumes nothing.
use mathlib.Core.Path.{◌≡◌}
use mathlib.Core.List.{List}
use Prim.Native.Nat.{ℕ}
use Rattle.patterns.specs.Outcome.{Outcome, good, refused, map_good, counted, held}
use Rattle.sheet.specs.Line.{Line}
use Rattle.followup.specs.Reply.{Replies, Kept}
use Rattle.followup.specs.declared.Reply.{Reply}

pub kept_read : (new : List Line → List ℕ) (o : Outcome (List Line)) (r : Reply) (before after : List ℕ) → Replies (counted o) r
    → after ≡ held (map_good new o) before → Kept r.refusal before after
kept_read new (good ls) r before after says is bad = absurd (bad says.0)
kept_read new (refused n k) r before after says is bad = is

pub kept_written : (o : Outcome (List ℕ)) (r : Reply) (before after : List ℕ) → Replies (counted o) r → after ≡ held o before → Kept r.refusal before after
kept_written (good text) r before after says is bad = absurd (bad says.0)
kept_written (refused n k) r before after says is bad = is
