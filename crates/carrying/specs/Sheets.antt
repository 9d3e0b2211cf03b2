-- Small sheets, each as its text with what carrying its rules out gives, and what it is that an entry holds. Assumes nothing.
use Rattle.std.specs.Prelude.{◌≡◌, ◌↔◌, List, [], ◌∷◌, ◌++◌, map, ℕ, ◌*◌, ◌≤◌, length, drop}
use Rattle.patterns.specs.Outcome.{good}
use Rattle.sheet.specs.Line.{Line, line_size, lent_of}
use Rattle.sheet.specs.Read.{sheet_in}
use Rattle.chase.specs.Cases.{as_text}
use Rattle.carrying.specs.Carrying.{Row}
use Rattle.carrying.specs.Contract.{record_room, row_line, Carried, carried, refuses, CarryMeets}

-- What a sheet gets: these records and so many firings; or a refusal with this number.
pub data Result : Type 0 where
  gives : List Row → ℕ → Result
  refused : ℕ → Result

pub record Sheet : Type 0 where
  pub text : List ℕ
  pub result : Result

abbrev row : ℕ → List ℕ → Row
row kind numbers = record { kind = kind; numbers = numbers }

-- P, Q, T and U are the kinds 1 to 4.
abbrev pub sheets : List Sheet
sheets =
    -- Empty text: nothing to carry out.
    record {
      text = [];
      result = gives [] 0;
    }
    ∷
    -- P(1)→Q(2) without rows: no record, no firing.
    record {
      text = as_text ("K        1        1" ∷ "K        2        1" ∷ "B        1        1" ∷ "H        2        2" ∷ []);
      result = gives [] 0;
    }
    ∷
    -- P(1,2)→P(1,3), row 7 8. On 7 9 the rule carries 7 again, so it is skipped.
    record {
      text = as_text ("K        1        2" ∷ "B        1        1        2" ∷ "H        1        1        3" ∷ "R        1        7        8" ∷ []);
      result = gives (row 1 (7 ∷ 8 ∷ []) ∷ row 1 (7 ∷ 9 ∷ []) ∷ []) 1;
    }
    ∷
    -- P(1,2)→Q(1), rows 5 6 and 5 7. A rule without fresh marks is skipped for its carried values too.
    record {
      text = as_text ("K        1        2" ∷ "K        2        1" ∷ "B        1        1        2" ∷ "H        2        1" ∷ "R        1        5        6" ∷ "R        1        5        7" ∷ []);
      result = gives (row 1 (5 ∷ 6 ∷ []) ∷ row 1 (5 ∷ 7 ∷ []) ∷ row 2 (5 ∷ []) ∷ []) 1;
    }
    ∷
    -- P(1)→Q(2,3), Q(3,2), rows 4 and 8. The rule carries nothing, so it fires once; numbers go by rising mark, over both H lines.
    record {
      text = as_text ("K        1        1" ∷ "K        2        2" ∷ "B        1        1" ∷ "H        2        2        3" ∷ "H        2        3        2" ∷ "R        1        4" ∷ "R        1        8" ∷ []);
      result = gives (row 1 (4 ∷ []) ∷ row 1 (8 ∷ []) ∷ row 2 (9 ∷ 10 ∷ []) ∷ row 2 (10 ∷ 9 ∷ []) ∷ []) 1;
    }
    ∷
    -- P(1)→Q(1,2) and Q(1,2)→T(2,1,3), P(1), rows P 5, 9, 5. The repeat is dropped, and P 5 and P 9, which Q makes, are there.
    record {
      text = as_text ("K        1        1" ∷ "K        2        2" ∷ "K        3        3" ∷ "B        1        1" ∷ "H        2        1        2" ∷ "B        2        1        2" ∷ "H        3        2        1        3" ∷ "H        1        1" ∷ "R        1        5" ∷ "R        1        9" ∷ "R        1        5" ∷ []);
      result = gives (row 1 (5 ∷ []) ∷ row 1 (9 ∷ []) ∷ row 2 (5 ∷ 10 ∷ []) ∷ row 2 (9 ∷ 11 ∷ []) ∷ row 3 (10 ∷ 5 ∷ 12 ∷ []) ∷ row 3 (11 ∷ 9 ∷ 13 ∷ []) ∷ []) 4;
    }
    ∷
    -- P(1)→Q(2) twice, rows 5 and 6. The same rule twice is two rules.
    record {
      text = as_text ("K        1        1" ∷ "K        2        1" ∷ "B        1        1" ∷ "H        2        2" ∷ "B        1        1" ∷ "H        2        2" ∷ "R        1        5" ∷ "R        1        6" ∷ []);
      result = gives (row 1 (5 ∷ []) ∷ row 1 (6 ∷ []) ∷ row 2 (7 ∷ []) ∷ row 2 (8 ∷ []) ∷ []) 2;
    }
    ∷
    -- P(1)→Q(1) and T(1)→Q(1), rows P 5 and T 5. Two rules make the same record: two firings, one record.
    record {
      text = as_text ("K        1        1" ∷ "K        2        1" ∷ "K        3        1" ∷ "B        1        1" ∷ "H        2        1" ∷ "B        3        1" ∷ "H        2        1" ∷ "R        1        5" ∷ "R        3        5" ∷ []);
      result = gives (row 1 (5 ∷ []) ∷ row 3 (5 ∷ []) ∷ row 2 (5 ∷ []) ∷ []) 2;
    }
    ∷
    -- P(1,2)→Q(1), Q(2), T(2), rows 5 5 and 5 6. A record made twice, by one firing and by two, is there once.
    record {
      text = as_text ("K        1        2" ∷ "K        2        1" ∷ "K        3        1" ∷ "B        1        1        2" ∷ "H        2        1" ∷ "H        2        2" ∷ "H        3        2" ∷ "R        1        5        5" ∷ "R        1        5        6" ∷ []);
      result = gives (row 1 (5 ∷ 5 ∷ []) ∷ row 1 (5 ∷ 6 ∷ []) ∷ row 2 (5 ∷ []) ∷ row 3 (5 ∷ []) ∷ row 2 (6 ∷ []) ∷ row 3 (6 ∷ []) ∷ []) 2;
    }
    ∷
    -- P(1)→T(1), Q(1), row 5. Records are appended in H order, not by kind.
    record {
      text = as_text ("K        1        1" ∷ "K        2        1" ∷ "K        3        1" ∷ "B        1        1" ∷ "H        3        1" ∷ "H        2        1" ∷ "R        1        5" ∷ []);
      result = gives (row 1 (5 ∷ []) ∷ row 3 (5 ∷ []) ∷ row 2 (5 ∷ []) ∷ []) 1;
    }
    ∷
    -- P(1)→T(1,2) and P(1)→Q(1,2), rows 5 and 6. A record is visited by all rules before the next one is, and the rules go in sheet order.
    record {
      text = as_text ("K        1        1" ∷ "K        2        2" ∷ "K        3        2" ∷ "B        1        1" ∷ "H        3        1        2" ∷ "B        1        1" ∷ "H        2        1        2" ∷ "R        1        5" ∷ "R        1        6" ∷ []);
      result = gives (row 1 (5 ∷ []) ∷ row 1 (6 ∷ []) ∷ row 3 (5 ∷ 7 ∷ []) ∷ row 2 (5 ∷ 8 ∷ []) ∷ row 3 (6 ∷ 9 ∷ []) ∷ row 2 (6 ∷ 10 ∷ []) ∷ []) 4;
    }
    ∷
    -- P(1)→Q(1,2) and Q(1,2)→T(2,3), rows P 5 and 6. A made record waits until those before it are visited.
    record {
      text = as_text ("K        1        1" ∷ "K        2        2" ∷ "K        3        2" ∷ "B        1        1" ∷ "H        2        1        2" ∷ "B        2        1        2" ∷ "H        3        2        3" ∷ "R        1        5" ∷ "R        1        6" ∷ []);
      result = gives (row 1 (5 ∷ []) ∷ row 1 (6 ∷ []) ∷ row 2 (5 ∷ 7 ∷ []) ∷ row 2 (6 ∷ 8 ∷ []) ∷ row 3 (7 ∷ 9 ∷ []) ∷ row 3 (8 ∷ 10 ∷ []) ∷ []) 4;
    }
    ∷
    -- P(1)→Q(1,2), rows P 5 and Q 5 6. A record is made also where one like it is there.
    record {
      text = as_text ("K        1        1" ∷ "K        2        2" ∷ "B        1        1" ∷ "H        2        1        2" ∷ "R        1        5" ∷ "R        2        5        6" ∷ []);
      result = gives (row 1 (5 ∷ []) ∷ row 2 (5 ∷ 6 ∷ []) ∷ row 2 (5 ∷ 7 ∷ []) ∷ []) 1;
    }
    ∷
    -- P(1,1)→Q(1), rows 7 8 and 7 7. The rule fires only where the fields are equal.
    record {
      text = as_text ("K        1        2" ∷ "K        2        1" ∷ "B        1        1        1" ∷ "H        2        1" ∷ "R        1        7        8" ∷ "R        1        7        7" ∷ []);
      result = gives (row 1 (7 ∷ 8 ∷ []) ∷ row 1 (7 ∷ 7 ∷ []) ∷ row 2 (7 ∷ []) ∷ []) 1;
    }
    ∷
    -- P(1)→Q(2), rows P 0 and U 3. Numbers follow the largest value of the whole table, first the 0's, then the fresh one.
    record {
      text = as_text ("K        1        1" ∷ "K        2        1" ∷ "K        4        1" ∷ "B        1        1" ∷ "H        2        2" ∷ "R        1        0" ∷ "R        4        3" ∷ []);
      result = gives (row 1 (4 ∷ []) ∷ row 4 (3 ∷ []) ∷ row 2 (5 ∷ []) ∷ []) 1;
    }
    ∷
    -- P(1,1)→P(2,1), rows P 0 0, 0 0 and 7 7. Zeros are numbered by row and then by field; none equals another, so the rule fires on 7 7 alone, and rows of zeros are no repeats.
    record {
      text = as_text ("K        1        2" ∷ "B        1        1        1" ∷ "H        1        2        1" ∷ "R        1        0        0" ∷ "R        1        0        0" ∷ "R        1        7        7" ∷ []);
      result = gives (row 1 (8 ∷ 9 ∷ []) ∷ row 1 (10 ∷ 11 ∷ []) ∷ row 1 (7 ∷ 7 ∷ []) ∷ row 1 (12 ∷ 7 ∷ []) ∷ []) 1;
    }
    ∷
    -- P(1,2)→Q(2,3), rows P 0 4, 3 4, 0 4 and 3 4. A row with a 0 is no repeat of another; the row 3 4 is.
    record {
      text = as_text ("K        1        2" ∷ "K        2        2" ∷ "B        1        1        2" ∷ "H        2        2        3" ∷ "R        1        0        4" ∷ "R        1        3        4" ∷ "R        1        0        4" ∷ "R        1        3        4" ∷ []);
      result = gives (row 1 (5 ∷ 4 ∷ []) ∷ row 1 (3 ∷ 4 ∷ []) ∷ row 1 (6 ∷ 4 ∷ []) ∷ row 2 (4 ∷ 7 ∷ []) ∷ []) 1;
    }
    ∷
    -- P(1)→Q(1,2), rows P 0 and 0. A table of zeros alone is numbered from 1.
    record {
      text = as_text ("K        1        1" ∷ "K        2        2" ∷ "B        1        1" ∷ "H        2        1        2" ∷ "R        1        0" ∷ "R        1        0" ∷ []);
      result = gives (row 1 (1 ∷ []) ∷ row 1 (2 ∷ []) ∷ row 2 (1 ∷ 3 ∷ []) ∷ row 2 (2 ∷ 4 ∷ []) ∷ []) 2;
    }
    ∷
    -- P(1)→Q(1,1) and Q(1,1)→T(1), row P 0. A 0 that is carried is equal to itself.
    record {
      text = as_text ("K        1        1" ∷ "K        2        2" ∷ "K        3        1" ∷ "B        1        1" ∷ "H        2        1        1" ∷ "B        2        1        1" ∷ "H        3        1" ∷ "R        1        0" ∷ []);
      result = gives (row 1 (1 ∷ []) ∷ row 2 (1 ∷ 1 ∷ []) ∷ row 3 (1 ∷ []) ∷ []) 2;
    }
    ∷
    -- P(1,2,1,3)→Q(1,4) and Q(1,2)→P(1,1,2,2), row P 5 6 5 7 (document 002, example 4.3).
    record {
      text = as_text ("K        1        4" ∷ "K        2        2" ∷ "B        1        1        2        1        3" ∷ "H        2        1        4" ∷ "B        2        1        2" ∷ "H        1        1        1        2        2" ∷ "R        1        5        6        5        7" ∷ []);
      result = gives (row 1 (5 ∷ 6 ∷ 5 ∷ 7 ∷ []) ∷ row 2 (5 ∷ 8 ∷ []) ∷ row 1 (5 ∷ 5 ∷ 8 ∷ 8 ∷ []) ∷ []) 2;
    }
    ∷
    -- P(1)→Q(2), row 99,999,998. The number after it is the last that there is.
    record {
      text = as_text ("K        1        1" ∷ "K        2        1" ∷ "B        1        1" ∷ "H        2        2" ∷ "R        1 99999998" ∷ []);
      result = gives (row 1 (99999998 ∷ []) ∷ row 2 (99999999 ∷ []) ∷ []) 1;
    }
    ∷
    -- P(1)→Q(1), row 99,999,999. No further number is needed.
    record {
      text = as_text ("K        1        1" ∷ "K        2        1" ∷ "B        1        1" ∷ "H        2        1" ∷ "R        1 99999999" ∷ []);
      result = gives (row 1 (99999999 ∷ []) ∷ row 2 (99999999 ∷ []) ∷ []) 1;
    }
    ∷
    -- No rule, row P 99,999,998 0. The 0 gets the last number that there is.
    record {
      text = as_text ("K        1        2" ∷ "R        1 99999998        0" ∷ []);
      result = gives (row 1 (99999998 ∷ 99999999 ∷ []) ∷ []) 0;
    }
    ∷
    -- P(1)→Q(2), row 99,999,999.
    record {
      text = as_text ("K        1        1" ∷ "K        2        1" ∷ "B        1        1" ∷ "H        2        2" ∷ "R        1 99999999" ∷ []);
      result = refused 23;
    }
    ∷
    -- No rule, row P 99,999,999 0. There is no number for the 0.
    record {
      text = as_text ("K        1        2" ∷ "R        1 99999999        0" ∷ []);
      result = refused 23;
    }
    ∷
    -- P(1,2)→P(2,3), row 7 8, the endless sheet that document 01 shows.
    record {
      text = as_text ("K        1        2" ∷ "B        1        1        2" ∷ "H        1        2        3" ∷ "R        1        7        8" ∷ []);
      result = refused 21;
    }
    ∷
    []

-- The answer that a result is, and what the lent records then hold.
abbrev pub says : Result → Carried
says (gives rows firings) = carried (length rows) firings
says (refused number) = refuses number 0

abbrev pub leaves : Result → List ℕ → List ℕ
leaves (gives rows firings) before = lent_of (map row_line rows) ++ drop (line_size * length rows) before
leaves (refused number) before = before

-- An entry holds: its text is read, and to its lines, with room lent for the records, the contract allows the entry's result and no other.
pub record Holds (s : Sheet) : Type 0 where
  pub lines : List Line
  pub read : sheet_in s.text ≡ good lines
  pub answer : (before now : List ℕ) (a : Carried) → record_room ≤ length before
      → CarryMeets (lent_of lines) before a now ↔ ((a ≡ says s.result) × (now ≡ leaves s.result before))
