-- The whole contract of explaining, for all lent lines and all lent text. It is lent no steps, and the lines are not written to. Assumes nothing.
use Rattle.std.specs.Prelude.{◌≡◌, List, ◌++◌, ℕ, ◌≤◌, ◌<◌, length, take, drop}
use Rattle.patterns.specs.Outcome.{good, refused}
use Rattle.sheet.specs.Line.{Line}
use Rattle.sheet.specs.Write.{sheet_held}
use Rattle.chase.specs.Rules.{rules_of}
use Rattle.chase.specs.Run.{rows_of}
use Rattle.chase.specs.Shape.{Reached}
use Rattle.chase.specs.Counting.{MoreThan}
use Rattle.chase.specs.Judge.{Verdict, judged, Bounded, JudgeMeets}
use Rattle.growth.specs.Contract.{Taken}
use Rattle.sentences.specs.Sentence.{told, text_of}

-- What is answered: how many bytes the sentences have; or a refusal's number and line.
pub data Explained : Type 0 where
  explained : ℕ → Explained
  refuses : ℕ → ℕ → Explained

-- A text that explains these lines: Judge may answer them with "endless", and it is the text of that answer's trail and loop. Which answer of Judge's is told is the program's choice.
pub record Explains (limit : ℕ) (numbers text : List ℕ) : Type 0 where
  pub lent : List ℕ
  pub verdict : Verdict
  pub steps : List ℕ
  pub meets : JudgeMeets limit numbers lent (judged verdict) steps
  pub endless : verdict.verdict ≡ 2
  pub text_is :
      text
      ≡ text_of (told (rules_of meets.1.lines) (take verdict.trail meets.1.steps) (drop verdict.trail meets.1.steps))

-- A text that fits stands at the front of the lent one and is counted; the rest is as it was.
pub record Right (limit : ℕ) (numbers before : List ℕ) (n : ℕ) (after : List ℕ) : Type 0 where
  pub text : List ℕ
  pub explains : Explains limit numbers text
  pub size : n ≡ length text
  pub fits : length text ≤ length before
  pub stands : after ≡ text ++ drop (length text) before

-- What is refused, in this order: Judge's 8 and 11, then 24, then 25. The conditions shut each other out: 8, 11 and 24 are each given exactly on their own condition, and 25 to an endless sheet where the text that the program chose does not fit.
pub data Refuses (limit : ℕ) (numbers before : List ℕ) : ℕ → ℕ → Type 0 where
  -- No sheet, with the first wrong line.
  wrong : (line : ℕ) → sheet_held numbers ≡ refused 8 line → Refuses limit numbers before 8 line
  -- More shapes are reached than the limit.
  many : (lines : List Line) → sheet_held numbers ≡ good lines → MoreThan (Reached (rules_of lines) (rows_of lines)) limit → Refuses limit numbers before 11 0
  -- The sheet settles.
  settles : (lines : List Line) → Taken limit numbers lines → (deepest : ℕ) → Bounded (rules_of lines) (rows_of lines) deepest → Refuses limit numbers before 24 0
  -- The lent text is shorter than the sentences.
  short : (text : List ℕ) → Explains limit numbers text → length before < length text → Refuses limit numbers before 25 0

-- The contract: which answer may be given to these lent lines and this lent text, and what the lent text then holds.
abbrev pub ExplainMeets : ℕ → List ℕ → List ℕ → Explained → List ℕ → Type 0
ExplainMeets limit numbers before (explained n) after = Right limit numbers before n after
ExplainMeets limit numbers before (refuses number line) after = Refuses limit numbers before number line × (after ≡ before)
