-- The lent records as lines, by a table of widths. Assumes nothing.
use Rattle.std.specs.Prelude.{◌≡◌, true, List, [], ◌∷◌, ◌++◌, ℕ, zero, suc, ◌+◌, ◌*◌, ◌≤◌, ◌<◌, length, get_or, take, drop}
use Rattle.sheet.specs.Line.{K, R, Line, in_range, text_of}
use Rattle.chase.specs.Lists.{In}
use Rattle.columns.specs.Column.{put}

-- How many numbers the lines of each kind have, K lines aside.
pub record WidthsOf (lines : List Line) (widths : List ℕ) : Type 0 where
  pub size : length widths ≡ 65
  pub each : (l : Line) → In l lines → (l.letter ≡ K → ⊥) → get_or widths l.kind 0 ≡ length l.numbers

-- The width of a record, by its kind.
abbrev pub width_of : List ℕ → List ℕ → ℕ
width_of widths numbers = get_or widths (get_or numbers 1 0) 0

-- A record as an R line.
abbrev pub line_of : List ℕ → List ℕ → Line
line_of widths numbers =
    record { letter = R; kind = get_or numbers 1 0; numbers = take (width_of widths numbers) (drop 2 numbers) }

-- Record i of those that are lent.
abbrev pub record_at : List ℕ → ℕ → List ℕ
record_at records i = take 8 (drop (8 * i) records)

-- The first so many.
abbrev pub records_to : List ℕ → List ℕ → ℕ → List Line
records_to widths records zero = []
records_to widths records (suc n) = records_to widths records n ++ (line_of widths (record_at records n) ∷ [])

-- A record is of a kind up to 64 and up to six numbers, each with a column.
pub record Printable (widths numbers : List ℕ) : Type 0 where
  pub size : length widths ≡ 65
  pub long : length numbers ≡ 8
  pub kind : get_or numbers 1 0 ≤ 64
  pub narrow : width_of widths numbers ≤ 6
  pub range : in_range ((line_of widths numbers).kind ∷ (line_of widths numbers).numbers) ≡ true

-- So are the first so many, up to 4,096.
pub record AllPrintable (widths records : List ℕ) (count : ℕ) : Type 0 where
  pub few : count ≤ 4096
  pub inside : 8 * count ≤ length records
  pub each : (i : ℕ) → i < count → Printable widths (record_at records i)

-- The R lines of the first so many records stand after the C line, which has 20 bytes, and end at a place.
pub record RecordsPut (widths records : List ℕ) (count : ℕ) (before after : List ℕ) (end : ℕ) : Type 0 where
  pub ends : end ≡ 20 + length (text_of (records_to widths records count))
  pub short : end ≤ 20 + 65 * count
  pub output : after ≡ put before 20 (text_of (records_to widths records count))
