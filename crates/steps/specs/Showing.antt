-- The steps that numbers hold, five for each, and records of which the first are filled with them. Assumes nothing.
use Rattle.std.specs.Prelude.{◌≡◌, Bool, true, false, List, [], ◌∷◌, ◌++◌, map, ℕ, zero, suc, ◌+◌, ◌*◌, leb, length, get_or, take, drop}
use Rattle.chase.specs.Steps.{Step}
use Rattle.steps.specs.declared.StepRecord.{StepRecord}

-- The step whose five numbers begin at five times i.
abbrev pub step_at : List ℕ → ℕ → Step
step_at numbers i = record {
  rule = get_or numbers (i * 5) 0;
  head = get_or numbers (i * 5 + 1) 0;
  from = get_or numbers (i * 5 + 2) 0;
  to = get_or numbers (i * 5 + 3) 0;
  fresh = get_or numbers (i * 5 + 4) 0;
}

-- The first n steps.
abbrev pub steps_in : List ℕ → ℕ → List Step
steps_in numbers zero = []
steps_in numbers (suc n) = steps_in numbers n ++ (step_at numbers n ∷ [])

-- The record of a step, and the step of a record.
abbrev pub record_of : Step → StepRecord
record_of s = record { rule = s.rule; head = s.head; from = s.from; to = s.to; fresh = s.fresh }

abbrev pub step_of : StepRecord → Step
step_of r = record { rule = r.rule; head = r.head; from = r.from; to = r.to; fresh = r.fresh }

abbrev pub record_at : List ℕ → ℕ → StepRecord
record_at numbers i = record_of (step_at numbers i)

-- The record of step i, or all zeros where the numbers hold no such step.
abbrev pub no_record : StepRecord
no_record = record { rule = 0; head = 0; from = 0; to = 0; fresh = 0 }

abbrev pub or_none : Bool → StepRecord → StepRecord
or_none true r = r
or_none false r = no_record

abbrev pub shown_at : List ℕ → ℕ → StepRecord
shown_at numbers i = or_none (leb (i * 5 + 5) (length numbers)) (record_at numbers i)

-- The records once n steps are shown in them: the first n are the steps', the rest is as it was.
abbrev pub showing : List ℕ → List StepRecord → ℕ → List StepRecord
showing numbers before n = map record_of (steps_in numbers n) ++ drop n before

-- How many of n steps are shown: all of them, or none where the records or the numbers are too few.
abbrev pub all_or_none : Bool → Bool → ℕ → ℕ
all_or_none true true n = n
all_or_none true false n = 0
all_or_none false enough n = 0

abbrev pub count_of : ℕ → ℕ → ℕ → ℕ
count_of records numbers n = all_or_none (leb n records) (leb (n * 5) numbers) n

-- Showing these steps, by numbers and with some records before, gives exactly them; the other records are as they were.
pub record Exactly (steps : List Step) (numbers : List ℕ) (before : List StepRecord) : Type 0 where
  pub count : count_of (length before) (length numbers) (length steps) ≡ length steps
  pub filled : map step_of (take (length steps) (showing numbers before (length steps))) ≡ steps
  pub others : drop (length steps) (showing numbers before (length steps)) ≡ drop (length steps) before
