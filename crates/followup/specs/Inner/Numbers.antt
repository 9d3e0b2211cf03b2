-- Lines as numbers: those of lent bytes, and those that are read before they are bytes. Assumes nothing.
use Rattle.std.specs.Prelude.{◌≡◌, List, Result, ℕ, ◌/◌, length, take}
use Rattle.std.specs.Fn.{Once}
use Rattle.std.specs.Borrow.{Bor, MutBor}
use Rattle.followup.specs.Bytes.{numbers_of}
use Rattle.patterns.specs.Outcome.{map_good, counted, held}
use Rattle.sheet.specs.Line.{line_size, lent_of}
use Rattle.sheet.specs.Read.{read_of}
use Rattle.followup.specs.Reply.{Replies, ForecastReplies, ExplainReplies}
use Rattle.followup.specs.declared.ForecastReply.{ForecastReply}
use Rattle.sheet.specs.Write.{WriteMeets, write_says}
use Rattle.sheet.specs.declared.Refusal.{Refusal}
use Rattle.chase.specs.Judge.{shape_limit}
use Rattle.growth.specs.Contract.{Foretold, ForecastMeets}
use Rattle.sentences.specs.Explain.{Explained, ExplainMeets}
use Rattle.followup.specs.declared.Reply.{Reply}

-- Reading into lent numbers.
pub record ReadsNumbers (text before : List ℕ) (r : Reply) (after : List ℕ) : Type 0 where
  pub replies : Replies (counted (read_of text (length before / line_size))) r
  pub lines : after ≡ held (map_good lent_of (read_of text (length before / line_size))) before

-- The numbers of the lines that are looked at: one more than a sheet can have.
abbrev pub first_numbers : List ℕ → List ℕ
first_numbers lines = take 18952 (numbers_of 4 lines)

-- A function may be called with these numbers and this memory lent.
abbrev pub TakesNumbers : {F R : Type 0} → Once F (Bor (List ℕ) × (MutBor (List ℕ) × Unit {0})) R → F → List ℕ → List ℕ → Type 0
TakesNumbers g f numbers before = (given : Bor (List ℕ)) (lent : MutBor (List ℕ)) → given.now ≡ numbers → lent.now ≡ before → g.pre f (given, (lent, tt))

-- Such a call may give this answer and leave the memory so.
pub record AnswersNumbers {F R : Type 0} (g : Once F (Bor (List ℕ) × (MutBor (List ℕ) × Unit {0})) (R × (MutBor (List ℕ) × Unit {0}))) (f : F) (numbers before : List ℕ) (answer : R) (after : List ℕ) : Type 0 where
  pub given : Bor (List ℕ)
  pub gives : given.now ≡ numbers
  pub lent : MutBor (List ℕ)
  pub lends : lent.now ≡ before
  pub left : MutBor (List ℕ)
  pub met : g.post f (given, (lent, tt)) (answer, (left, tt))
  pub leaves : left.now ≡ after

-- Writing lines that are held as numbers.
abbrev pub WritesNumbers : List ℕ → List ℕ → Reply → List ℕ → Type 0
WritesNumbers numbers before r after = (a : Result ℕ Refusal) × WriteMeets numbers before a after × Replies (write_says a) r

-- Foretelling of them.
abbrev pub ForecastsNumbers : List ℕ → ForecastReply → Type 0
ForecastsNumbers numbers r = (a : Foretold) × ForecastMeets shape_limit numbers a × ForecastReplies a r

-- Explaining them.
abbrev pub ExplainsNumbers : List ℕ → List ℕ → Reply → List ℕ → Type 0
ExplainsNumbers numbers before r after = (a : Explained) × ExplainMeets shape_limit numbers before a after × ExplainReplies a r
