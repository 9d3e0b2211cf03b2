-- Small sheets, each as its text with its forecast, and what it is that an entry holds. Assumes nothing.
use Rattle.std.specs.Prelude.{◌≡◌, ◌↔◌, List, [], ◌∷◌, ℕ}
use Rattle.patterns.specs.Outcome.{good}
use Rattle.sheet.specs.Line.{Line, lent_of}
use Rattle.sheet.specs.Read.{sheet_in}
use Rattle.chase.specs.Judge.{shape_limit}
use Rattle.chase.specs.Cases.{as_text}
use Rattle.growth.specs.Forecast.{Figure, exactly, beyond, Forecast}
use Rattle.growth.specs.Contract.{Foretold, foretold, refuses, ForecastMeets}

-- What a sheet gets: a forecast; or a refusal with this number.
pub data Result : Type 0 where
  gives : Forecast → Result
  refused : ℕ → Result

pub record Sheet : Type 0 where
  pub text : List ℕ
  pub result : Result

abbrev pub figures : Figure → Figure → Figure → Forecast
figures values records pairs = record { values = values; records = records; pairs = pairs }

-- P, Q and T are the kinds 1, 2 and 3. The figures are values, records, and pairs of rule and carried values.
abbrev pub sheets : List Sheet
sheets =
    -- Empty text: nothing may come of it.
    record {
      text = [];
      result = gives (figures (exactly 0) (exactly 0) (exactly 0));
    }
    ∷
    -- P(1)→Q(2) without rows: no value and no record; the power 0 of 0 is 1.
    record {
      text = as_text ("K        1        1" ∷ "K        2        1" ∷ "B        1        1" ∷ "H        2        2" ∷ []);
      result = gives (figures (exactly 0) (exactly 0) (exactly 1));
    }
    ∷
    -- P(1,2)→P(1,3), row 7 8: t is 2, then 2 + 2.
    record {
      text = as_text ("K        1        2" ∷ "B        1        1        2" ∷ "H        1        1        3" ∷ "R        1        7        8" ∷ []);
      result = gives (figures (exactly 4) (exactly 16) (exactly 4));
    }
    ∷
    -- P(1)→Q(2) and Q(1)→T(1,2), row P 5: two generations; t is 1, then 1 + 1 + 1, then 1 + 1 + 3.
    record {
      text = as_text ("K        1        1" ∷ "K        2        1" ∷ "K        3        2" ∷ "B        1        1" ∷ "H        2        2" ∷ "B        2        1" ∷ "H        3        1        2" ∷ "R        1        5" ∷ []);
      result = gives (figures (exactly 5) (exactly 35) (exactly 6));
    }
    ∷
    -- P(1)→Q(2,3), Q(3,2), rows 4 and 8. A fresh mark in two H lines counts once.
    record {
      text = as_text ("K        1        1" ∷ "K        2        2" ∷ "B        1        1" ∷ "H        2        2        3" ∷ "H        2        3        2" ∷ "R        1        4" ∷ "R        1        8" ∷ []);
      result = gives (figures (exactly 4) (exactly 20) (exactly 1));
    }
    ∷
    -- P(1,1)→Q(1), rows 7 8 and 7 7. A carried mark in two fields counts once.
    record {
      text = as_text ("K        1        2" ∷ "K        2        1" ∷ "B        1        1        1" ∷ "H        2        1" ∷ "R        1        7        8" ∷ "R        1        7        7" ∷ []);
      result = gives (figures (exactly 2) (exactly 6) (exactly 2));
    }
    ∷
    -- P(1,1)→Q(1,2), rows 7 8 and 7 7: the same in what is made.
    record {
      text = as_text ("K        1        2" ∷ "K        2        2" ∷ "B        1        1        1" ∷ "H        2        1        2" ∷ "R        1        7        8" ∷ "R        1        7        7" ∷ []);
      result = gives (figures (exactly 4) (exactly 32) (exactly 4));
    }
    ∷
    -- P(1)→Q(2) twice, rows 5 and 6. The same rule twice is two rules.
    record {
      text = as_text ("K        1        1" ∷ "K        2        1" ∷ "B        1        1" ∷ "H        2        2" ∷ "B        1        1" ∷ "H        2        2" ∷ "R        1        5" ∷ "R        1        6" ∷ []);
      result = gives (figures (exactly 4) (exactly 8) (exactly 2));
    }
    ∷
    -- P(1)→Q(1), row Q 5. A rule that never fires counts.
    record {
      text = as_text ("K        1        1" ∷ "K        2        1" ∷ "B        1        1" ∷ "H        2        1" ∷ "R        2        5" ∷ []);
      result = gives (figures (exactly 1) (exactly 2) (exactly 1));
    }
    ∷
    -- Row P 5, and a kind Q of width 2 that no line uses. A declared kind counts.
    record {
      text = as_text ("K        1        1" ∷ "K        2        2" ∷ "R        1        5" ∷ []);
      result = gives (figures (exactly 1) (exactly 2) (exactly 0));
    }
    ∷
    -- Rows P 0, 5, 5 and Q 5 0. A value counts once, whatever rows and kinds it stands in; each 0 is a value of its own.
    record {
      text = as_text ("K        1        1" ∷ "K        2        2" ∷ "R        1        0" ∷ "R        1        5" ∷ "R        1        5" ∷ "R        2        5        0" ∷ []);
      result = gives (figures (exactly 3) (exactly 12) (exactly 0));
    }
    ∷
    -- P(1,1)→P(2,1), rows 0 0, 0 0 and 7 7: each of the four zeros is a value, so t is 5, then 5 + 5.
    record {
      text = as_text ("K        1        2" ∷ "B        1        1        1" ∷ "H        1        2        1" ∷ "R        1        0        0" ∷ "R        1        0        0" ∷ "R        1        7        7" ∷ []);
      result = gives (figures (exactly 10) (exactly 100) (exactly 10));
    }
    ∷
    -- 40 values in rows of six: 40 to the power of 6 records.
    record {
      text = as_text ("K        1        6" ∷ "R        1        1        2        3        4        5        6" ∷ "R        1        7        8        9       10       11       12" ∷ "R        1       13       14       15       16       17       18" ∷ "R        1       19       20       21       22       23       24" ∷ "R        1       25       26       27       28       29       30" ∷ "R        1       31       32       33       34       35       36" ∷ "R        1       37       38       39       40       40       40" ∷ []);
      result = gives (figures (exactly 40) (exactly 4096000000) (exactly 0));
    }
    ∷
    -- 41 values: beyond.
    record {
      text = as_text ("K        1        6" ∷ "R        1        1        2        3        4        5        6" ∷ "R        1        7        8        9       10       11       12" ∷ "R        1       13       14       15       16       17       18" ∷ "R        1       19       20       21       22       23       24" ∷ "R        1       25       26       27       28       29       30" ∷ "R        1       31       32       33       34       35       36" ∷ "R        1       37       38       39       40       41       41" ∷ []);
      result = gives (figures (exactly 41) beyond (exactly 0));
    }
    ∷
    -- P(1,2,3,4,5,6)→Q(1,2,3,4,5,7) and Q(1,2,3,4,5,6)→T(2,3,4,5,6,7), row P 1 2 3 4 5 6: all beyond in the second generation.
    record {
      text = as_text ("K        1        6" ∷ "K        2        6" ∷ "K        3        6" ∷ "B        1        1        2        3        4        5        6" ∷ "H        2        1        2        3        4        5        7" ∷ "B        2        1        2        3        4        5        6" ∷ "H        3        2        3        4        5        6        7" ∷ "R        1        1        2        3        4        5        6" ∷ []);
      result = gives (figures beyond beyond beyond);
    }
    ∷
    -- P(1,2)→P(2,3), row 7 8, the endless sheet that document 01 shows.
    record {
      text = as_text ("K        1        2" ∷ "B        1        1        2" ∷ "H        1        2        3" ∷ "R        1        7        8" ∷ []);
      result = refused 21;
    }
    ∷
    []

-- The answer that a result is.
abbrev pub says : Result → Foretold
says (gives f) = foretold f
says (refused number) = refuses number 0

-- An entry holds: its text is read, and to its lines the contract allows the entry's result and no other.
pub record Holds (s : Sheet) : Type 0 where
  pub lines : List Line
  pub read : sheet_in s.text ≡ good lines
  pub answer : (a : Foretold) → ForecastMeets shape_limit (lent_of lines) a ↔ (a ≡ says s.result)
