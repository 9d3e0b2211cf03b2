-- What the forecasting program prints for a text. Assumes nothing.
use Rattle.std.specs.Prelude.{◌≡◌, List, [], ◌∷◌, ◌++◌, ℕ}
use Rattle.patterns.specs.Outcome.{Outcome, good, refused}
use Rattle.columns.specs.Column.{wide_column}
use Rattle.sheet.specs.Line.{Line, lent_of}
use Rattle.sheet.specs.Read.{read_of}
use Rattle.chase.specs.Judge.{shape_limit}
use Rattle.growth.specs.Forecast.{Figure, exactly, beyond, Forecast}
use Rattle.growth.specs.Contract.{Foretold, foretold, refuses, ForecastMeets}
use Rattle.report.specs.Report.{line_limit, refusal_text, OutputMeets}

-- The letter's byte.
abbrev pub letter_f : ℕ
letter_f = 70

-- A figure in twelve places: its number right-justified, blanks before it; or the word "beyond" in the same way.
unfoldable pub figure_column : Figure → List ℕ
figure_column (exactly n) = wide_column n
figure_column beyond = 32 ∷ 32 ∷ 32 ∷ 32 ∷ 32 ∷ 32 ∷ 98 ∷ 101 ∷ 121 ∷ 111 ∷ 110 ∷ 100 ∷ []

-- F, the values, the records, the pairs, byte 10.
unfoldable pub figures_line : Forecast → List ℕ
figures_line f = letter_f ∷ (figure_column f.values ++ (figure_column f.records ++ (figure_column f.pairs ++ (10 ∷ []))))

-- F with the figures; or N with a refusal's number and line.
abbrev pub outlook_text : Foretold → List ℕ
outlook_text (foretold f) = figures_line f
outlook_text (refuses number line) = refusal_text number line

-- The text of an answer that the forecast may give to these lines.
pub record Foretells (numbers printed : List ℕ) : Type 0 where
  pub answer : Foretold
  pub meets : ForecastMeets shape_limit numbers answer
  pub text : printed ≡ outlook_text answer

-- What is printed for a text: Read's refusal, or the text of an answer to the lines read.
pub data Prints (text printed : List ℕ) : Type 0 where
  unread : (number line : ℕ) → read_of text line_limit ≡ refused number line → printed ≡ refusal_text number line → Prints text printed
  read : (lines : List Line) → read_of text line_limit ≡ good lines → Foretells (lent_of lines) printed → Prints text printed

-- The longest that can be printed: an F line.
abbrev pub outlook_limit : ℕ
outlook_limit = 38

-- The contract of `forecast_text`, for every text and all lent output.
abbrev pub OutlookMeets : List ℕ → List ℕ → Outcome ℕ → List ℕ → Type 0
OutlookMeets text = OutputMeets outlook_limit (Prints text)
