-- What the explaining program prints for a text. Assumes nothing.
use Rattle.std.specs.Prelude.{◌≡◌, List, ℕ, ◌≤◌, length}
use Rattle.patterns.specs.Outcome.{Outcome, good, refused}
use Rattle.sheet.specs.Line.{Line, lent_of}
use Rattle.sheet.specs.Read.{read_of}
use Rattle.chase.specs.Judge.{shape_limit}
use Rattle.sentences.specs.Explain.{Explains, Refuses}
use Rattle.report.specs.Report.{line_limit, refusal_text, OutputMeets}

-- Room for 4,096 sentences of 73 bytes: no text of sentences is longer.
abbrev pub explanation_limit : ℕ
explanation_limit = 299008

-- What is printed for lines: sentences that explain them; or N with the number and line of a refusal that they may be given where so much text is lent.
pub data Tells (numbers printed : List ℕ) : Type 0 where
  sentences : Explains shape_limit numbers printed → Tells numbers printed
  unexplained : (before : List ℕ) (number line : ℕ) → explanation_limit ≤ length before → Refuses shape_limit numbers before number line → printed ≡ refusal_text number line → Tells numbers printed

-- What is printed for a text: Read's refusal, or what is printed for the lines read.
pub data Prints (text printed : List ℕ) : Type 0 where
  unread : (number line : ℕ) → read_of text line_limit ≡ refused number line → printed ≡ refusal_text number line → Prints text printed
  read : (lines : List Line) → read_of text line_limit ≡ good lines → Tells (lent_of lines) printed → Prints text printed

-- The contract of `explain_text`, for every text and all lent output.
abbrev pub ExplanationMeets : List ℕ → List ℕ → Outcome ℕ → List ℕ → Type 0
ExplanationMeets text = OutputMeets explanation_limit (Prints text)
