-- What the entry points for C answer, and what the lent bytes then hold. Assumes nothing.
use Rattle.std.specs.Prelude.{◌≡◌, cond, List, ◌++◌, ℕ, ◌*◌, ◌/◌, ltb, length, drop}
use Rattle.patterns.specs.Outcome.{Outcome, good, refused, map_good, counted, held}
use Rattle.sheet.specs.Line.{Line, line_size, lent_of}
use Rattle.sheet.specs.Read.{text_limit, sheet_in, read_of}
use Rattle.sheet.specs.Write.{write_of}
use Rattle.patterns.specs.Pattern.{pattern_of}
use Rattle.chase.specs.Judge.{Judgement, judged, refuses, JudgeMeets, step_limit, shape_limit}
use Rattle.carrying.specs.Contract.{Carried, carried, refuses as refuses_to_carry, CarryMeets}
use Rattle.growth.specs.Forecast.{Figure, exactly, beyond}
use Rattle.growth.specs.Contract.{Foretold, foretold, refuses as refuses_to_foretell, ForecastMeets}
use Rattle.sentences.specs.Explain.{Explained, explained, refuses as refuses_to_explain, ExplainMeets}
use Rattle.steps.specs.Showing.{shown_at}
use Rattle.walker.specs.Walk.{span_start, line_start}
use Rattle.steps.specs.declared.StepRecord.{StepRecord}
use Rattle.followup.specs.Bytes.{numbers_of, all_bytes}
use Rattle.followup.specs.declared.Reply.{Reply}
use Rattle.followup.specs.declared.JudgeReply.{JudgeReply}
use Rattle.followup.specs.declared.CarryReply.{CarryReply}
use Rattle.followup.specs.declared.ForecastReply.{ForecastReply}
use Rattle.followup.specs.declared.StepReply.{StepReply}
use Rattle.followup.specs.declared.SpanReply.{SpanReply}

-- The number of the interface: its calls, their layouts and sizes.
abbrev pub version : ℕ
version = 1

-- A good answer has refusal 0 and line 0; a refusal has count 0.
abbrev pub Replies : Outcome ℕ → Reply → Type 0
Replies (good n) r = (r.refusal ≡ 0) × (r.line ≡ 0) × (r.count ≡ n)
Replies (refused number line) r = (r.refusal ≡ number) × (r.line ≡ line) × (r.count ≡ 0)

-- A refusal leaves lent memory as it was.
abbrev pub Kept : ℕ → List ℕ → List ℕ → Type 0
Kept refusal before after = (refusal ≡ 0 → ⊥) → after ≡ before

-- How many lines so many lent bytes have room for.
abbrev pub room_in : List ℕ → ℕ
room_in lines = length (numbers_of 4 lines) / line_size

-- Reading, for every text and all lent bytes.
pub record ReadsBytes (text before : List ℕ) (r : Reply) (after : List ℕ) : Type 0 where
  pub replies : Replies (counted (read_of text (room_in before))) r
  pub lines : after ≡ held (map_good (λ ls. all_bytes 4 (lent_of ls)) (read_of text (room_in before))) before
  pub kept : Kept r.refusal before after

-- Writing, for all bytes of lent lines and all lent text.
pub record WritesBytes (lines before : List ℕ) (r : Reply) (after : List ℕ) : Type 0 where
  pub replies : Replies (counted (write_of (numbers_of 4 lines) (length before))) r
  pub text : after ≡ held (write_of (numbers_of 4 lines) (length before)) before
  pub kept : Kept r.refusal before after

-- Finding a pattern, for all bytes of a record.
abbrev pub FindsPattern : List ℕ → Reply → Type 0
FindsPattern numbers r = Replies (pattern_of (numbers_of 4 numbers)) r

-- A judgement has refusal 0 and line 0; a refusal has 0 in every figure.
abbrev pub JudgeReplies : Judgement → JudgeReply → Type 0
JudgeReplies (judged v) r =
    (r.refusal ≡ 0) × (r.line ≡ 0) × (r.verdict ≡ v.verdict) × (r.deepest ≡ v.deepest) × (r.shapes ≡ v.shapes) × (r.fired ≡ v.fired)
    × (r.share ≡ v.share) × (r.row ≡ v.row) × (r.trail ≡ v.trail) × (r.loop_steps ≡ v.loop)
JudgeReplies (refuses number line) r =
    (r.refusal ≡ number) × (r.line ≡ line) × (r.verdict ≡ 0) × (r.deepest ≡ 0) × (r.shapes ≡ 0) × (r.fired ≡ 0)
    × (r.share ≡ 0) × (r.row ≡ 0) × (r.trail ≡ 0) × (r.loop_steps ≡ 0)

-- Judging into lent bytes of steps: they then hold the numbers of a right judgement, and a last odd byte is as it was.
pub record Judges (Meets : Judgement → List ℕ → Type 0) (before : List ℕ) (r : JudgeReply) (after : List ℕ) : Type 0 where
  pub judgement : Judgement
  pub steps : List ℕ
  pub meets : Meets judgement steps
  pub replies : JudgeReplies judgement r
  pub bytes : after ≡ all_bytes 2 steps ++ drop (2 * length steps) before
  pub kept : Kept r.refusal before after

-- Judging lines that are held as numbers.
abbrev pub JudgesNumbers : List ℕ → List ℕ → JudgeReply → List ℕ → Type 0
JudgesNumbers numbers before r after = Judges (JudgeMeets shape_limit numbers (numbers_of 2 before)) before r after

-- Judging, for all bytes of lent lines and of lent steps.
abbrev pub JudgesBytes : List ℕ → List ℕ → JudgeReply → List ℕ → Type 0
JudgesBytes lines before r after = JudgesNumbers (numbers_of 4 lines) before r after

-- What a text means where lines enough are lent: its lines, or 1, or the first of 2 to 6 with its line.
abbrev pub text_read : List ℕ → Outcome (List Line)
text_read text = cond (ltb text_limit (length text)) (refused 1 0) (sheet_in text)

-- Which judgement is right for what was read: that of the lines; a refusal is passed on, but 12 comes first.
abbrev pub TextMeets : Outcome (List Line) → List ℕ → Judgement → List ℕ → Type 0
TextMeets (good lines) before j now = JudgeMeets shape_limit (lent_of lines) before j now
TextMeets (refused number line) before j now = (j ≡ cond (ltb (length before) (5 * step_limit)) (refuses 12 0) (refuses number line)) × (now ≡ before)

-- Judging a text, for every text and all bytes of lent steps.
abbrev pub JudgesText : List ℕ → List ℕ → JudgeReply → List ℕ → Type 0
JudgesText text before r after = Judges (TextMeets (text_read text) (numbers_of 2 before)) before r after

-- Rules carried out have refusal 0 and line 0; a refusal has 0 records and 0 firings.
abbrev pub CarryReplies : Carried → CarryReply → Type 0
CarryReplies (carried records firings) r = (r.refusal ≡ 0) × (r.line ≡ 0) × (r.records ≡ records) × (r.firings ≡ firings)
CarryReplies (refuses_to_carry number line) r = (r.refusal ≡ number) × (r.line ≡ line) × (r.records ≡ 0) × (r.firings ≡ 0)

-- Carrying out the rules of lines that are held as numbers, into lent bytes of records: they then hold the numbers of a right answer, and a last part too short for a number is as it was.
pub record CarriesNumbers (numbers before : List ℕ) (r : CarryReply) (after : List ℕ) : Type 0 where
  pub answer : Carried
  pub now : List ℕ
  pub meets : CarryMeets numbers (numbers_of 4 before) answer now
  pub replies : CarryReplies answer r
  pub bytes : after ≡ all_bytes 4 now ++ drop (4 * length now) before
  pub kept : Kept r.refusal before after

-- Carrying out, for all bytes of lent lines and of lent records.
abbrev pub CarriesBytes : List ℕ → List ℕ → CarryReply → List ℕ → Type 0
CarriesBytes lines before r after = CarriesNumbers (numbers_of 4 lines) before r after

-- A figure as a number; beyond is one more than the largest u32, so that it is above every number that a u32 holds.
abbrev pub figure_number : Figure → ℕ
figure_number (exactly n) = n
figure_number beyond = 4294967296

-- What is foretold has refusal 0 and line 0; a refusal has 0 in every figure.
abbrev pub ForecastReplies : Foretold → ForecastReply → Type 0
ForecastReplies (foretold f) r =
    (r.refusal ≡ 0) × (r.line ≡ 0) × (r.values ≡ figure_number f.values) × (r.records ≡ figure_number f.records) × (r.pairs ≡ figure_number f.pairs)
ForecastReplies (refuses_to_foretell number line) r = (r.refusal ≡ number) × (r.line ≡ line) × (r.values ≡ 0) × (r.records ≡ 0) × (r.pairs ≡ 0)

-- Foretelling, for all bytes of lent lines. Nothing else is lent.
pub record ForecastsBytes (lines : List ℕ) (r : ForecastReply) : Type 0 where
  pub answer : Foretold
  pub meets : ForecastMeets shape_limit (numbers_of 4 lines) answer
  pub replies : ForecastReplies answer r

-- Sentences that stand in the lent text have refusal 0 and line 0, and the count is that of their bytes; a refusal has count 0.
abbrev pub ExplainReplies : Explained → Reply → Type 0
ExplainReplies (explained n) r = (r.refusal ≡ 0) × (r.line ≡ 0) × (r.count ≡ n)
ExplainReplies (refuses_to_explain number line) r = (r.refusal ≡ number) × (r.line ≡ line) × (r.count ≡ 0)

-- Explaining, for all bytes of lent lines and all lent text.
pub record ExplainsBytes (lines before : List ℕ) (r : Reply) (after : List ℕ) : Type 0 where
  pub answer : Explained
  pub meets : ExplainMeets shape_limit (numbers_of 4 lines) before answer after
  pub replies : ExplainReplies answer r
  pub kept : Kept r.refusal before after

-- Step k of the numbers that the bytes hold, counted from 0; all zeros where there is none.
abbrev pub step_reply : StepRecord → StepReply
step_reply s = record { rule = s.rule; head = s.head; from = s.from; to = s.to; fresh = s.fresh }

abbrev pub ShowsStep : List ℕ → ℕ → StepReply → Type 0
ShowsStep bytes k r = r ≡ step_reply (shown_at (numbers_of 2 bytes) k)

-- Where a line of a text, counted from 1, begins and ends.
abbrev pub FindsLine : List ℕ → ℕ → SpanReply → Type 0
FindsLine text number r = (r.start ≡ span_start text number) × (r.end ≡ line_start text number)
