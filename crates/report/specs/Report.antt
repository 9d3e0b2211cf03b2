-- What the judging program prints for a text. Assumes nothing.
use Rattle.std.specs.Prelude.{◌≡◌, Option, Some, None, List, [], ◌∷◌, ◌++◌, ℕ, zero, suc, ◌+◌, ◌*◌, ◌≤◌, ◌<◌, length, take, drop}
use Rattle.std.specs.Fn.{Once}
use Rattle.std.specs.Borrow.{Bor, MutBor}
use Rattle.patterns.specs.Outcome.{Outcome, good, refused}
use Rattle.columns.specs.Column.{put}
use Rattle.sheet.specs.Line.{Line, lent_of}
use Rattle.sheet.specs.Read.{read_of}
use Rattle.chase.specs.Judge.{Verdict, Judgement, judged, refuses, JudgeMeets, step_limit, shape_limit}
use Rattle.report.specs.Lines.{line_text}

-- The letters' bytes.
abbrev pub letter_v : ℕ
letter_v = 86

abbrev pub letter_s : ℕ
letter_s = 83

abbrev pub letter_n : ℕ
letter_n = 78

-- Verdict, deepest, shapes, fired rules, share, row, trail, loop.
abbrev pub verdict_numbers : Verdict → List ℕ
verdict_numbers v = v.verdict ∷ v.deepest ∷ v.shapes ∷ v.fired ∷ v.share ∷ v.row ∷ v.trail ∷ v.loop ∷ []

-- S and five numbers for each of so many steps.
abbrev pub step_lines : ℕ → List ℕ → List ℕ
step_lines zero numbers = []
step_lines (suc count) numbers = line_text letter_s (take 5 numbers) ++ step_lines count (drop 5 numbers)

-- N with a refusal's number and line.
abbrev pub refusal_text : ℕ → ℕ → List ℕ
refusal_text number line = line_text letter_n (number ∷ line ∷ [])

-- V with the verdict's numbers, then the steps of the trail and the loop, whose numbers are given; or N.
abbrev pub judgement_text : Judgement → List ℕ → List ℕ
judgement_text (judged v) steps = line_text letter_v (verdict_numbers v) ++ step_lines (v.trail + v.loop) steps
judgement_text (refuses number line) steps = refusal_text number line

-- Something right to print stands at the front of the output, so many bytes; the rest is as it was.
pub record Filled (Right : List ℕ → Type 0) (before : List ℕ) (size : ℕ) (after : List ℕ) : Type 0 where
  pub printed : List ℕ
  pub right : Right printed
  pub count : size ≡ length printed
  pub output : after ≡ put before 0 printed

-- The text of a judgement that Judge may give to these lines, with 4,096 steps lent.
pub record Judges (numbers printed : List ℕ) : Type 0 where
  pub lent : List ℕ
  pub lent_size : length lent ≡ 5 * step_limit
  pub judgement : Judgement
  pub steps : List ℕ
  pub meets : JudgeMeets shape_limit numbers lent judgement steps
  pub text : printed ≡ judgement_text judgement steps

-- As many lines are lent for reading as the longest text can have.
abbrev pub line_limit : ℕ
line_limit = 1638

-- What is printed for a text: Read's refusal, or the text of a judgement of the lines read.
pub data Prints (text printed : List ℕ) : Type 0 where
  unread : (number line : ℕ) → read_of text line_limit ≡ refused number line → printed ≡ refusal_text number line → Prints text printed
  read : (lines : List Line) → read_of text line_limit ≡ good lines → Judges (lent_of lines) printed → Prints text printed

-- A function may be called with these numbers and this output lent.
abbrev pub TakesLines : {F R : Type 0} → Once F (Bor (List ℕ) × (MutBor (List ℕ) × Unit {0})) R → F → List ℕ → List ℕ → Type 0
TakesLines g f numbers before = (given : Bor (List ℕ)) (lent : MutBor (List ℕ)) → given.now ≡ numbers → lent.now ≡ before → g.pre f (given, (lent, tt))

-- Such a call may answer so many bytes and leave the output so.
pub record TellsLines {F : Type 0} (g : Once F (Bor (List ℕ) × (MutBor (List ℕ) × Unit {0})) (ℕ × (MutBor (List ℕ) × Unit {0}))) (f : F) (numbers before : List ℕ) (size : ℕ) (after : List ℕ) : Type 0 where
  pub given : Bor (List ℕ)
  pub gives : given.now ≡ numbers
  pub lent : MutBor (List ℕ)
  pub lends : lent.now ≡ before
  pub left : MutBor (List ℕ)
  pub met : g.post f (given, (lent, tt)) (size, (left, tt))
  pub leaves : left.now ≡ after

-- What fills the output for a text: Read's refusal, or what is told of the lines read.
pub data TextTold (Told : List ℕ → ℕ → Type 0) (text before : List ℕ) (size : ℕ) (after : List ℕ) : Type 0 where
  unread : (number line : ℕ) → read_of text line_limit ≡ refused number line → Filled (λ p. p ≡ refusal_text number line) before size after → TextTold Told text before size after
  told : (lines : List Line) → read_of text line_limit ≡ good lines → Told (lent_of lines) size → TextTold Told text before size after

-- The contract of `print_text`: none exactly where less is lent than the limit, and the output is then as it was.
abbrev pub TextPrinted : (List ℕ → ℕ → Type 0) → ℕ → List ℕ → List ℕ → Option ℕ → List ℕ → Type 0
TextPrinted Told limit text before None after = (length before < limit) × (after ≡ before)
TextPrinted Told limit text before (Some size) after = (limit ≤ length before) × TextTold Told text before size after

-- The longest that can be printed: a V line of 74 bytes and 4,096 S lines of 47.
abbrev pub report_limit : ℕ
report_limit = 192586

-- Document 01's numbers for each answer; no line is named.
abbrev pub report_says : Option ℕ → Outcome ℕ
report_says (Some n) = good n
report_says None = refused 9 0

-- The contract of a function that prints, for all lent output: 9 exactly where less is lent than the limit, and the output is then as it was; otherwise what is right to print stands at the front of the output and is counted, and the rest is as it was.
abbrev pub OutputMeets : ℕ → (List ℕ → Type 0) → List ℕ → Outcome ℕ → List ℕ → Type 0
OutputMeets limit Right before (refused number line) after = (length before < limit) × (number ≡ 9) × (line ≡ 0) × (after ≡ before)
OutputMeets limit Right before (good n) after =
    (limit ≤ length before) × ((printed : List ℕ) × Right printed × (n ≡ length printed) × (after ≡ printed ++ drop n before))

-- The contract of `judge_text`, for every text and all lent output.
abbrev pub ReportMeets : List ℕ → List ℕ → Outcome ℕ → List ℕ → Type 0
ReportMeets text = OutputMeets report_limit (Prints text)
