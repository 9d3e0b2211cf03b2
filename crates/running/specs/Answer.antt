-- The paper's numbers for the answers of carrying out. Assumes nothing.
use Rattle.std.specs.Prelude.{ℕ, Result, Ok, Err}
use Rattle.carrying.specs.Contract.{Carried, carried, refuses}
use Rattle.running.specs.Run.{Ran, ended, records_over, number_over, line_wrong, room_wrong}
use Rattle.rules.specs.declared.RulesRefusal.{RulesRefusal}
use Rattle.rules.specs.declared.RulesRefusal.TheVariants.{LineWrong as NoSheet, TableShort}
use Rattle.running.specs.declared.CarryRefusal.{CarryRefusal}
use Rattle.running.specs.declared.CarryRefusal.TheVariants.{RecordsShort, LineWrong, ShapesOver, Endless, RecordsOver, NumberOver}
use Rattle.running.specs.declared.RunRefusal.{RunRefusal}
use Rattle.running.specs.declared.RunRefusal.TheVariants.{RecordsOver as RecordsPass, NumberOver as NumberPasses, LineWrong as WrongLine, RoomWrong}
use Rattle.running.specs.declared.Totals.{Totals}

abbrev pub carry_refusal_number : CarryRefusal → ℕ
carry_refusal_number RecordsShort = 12
carry_refusal_number (LineWrong line) = 8
carry_refusal_number ShapesOver = 11
carry_refusal_number Endless = 21
carry_refusal_number RecordsOver = 22
carry_refusal_number NumberOver = 23

abbrev pub carry_refusal_line : CarryRefusal → ℕ
carry_refusal_line RecordsShort = 0
carry_refusal_line (LineWrong line) = line
carry_refusal_line ShapesOver = 0
carry_refusal_line Endless = 0
carry_refusal_line RecordsOver = 0
carry_refusal_line NumberOver = 0

-- The refusal of a run that one of the rules becomes.
abbrev pub run_refusal_of : RulesRefusal → RunRefusal
run_refusal_of (NoSheet line) = WrongLine line
run_refusal_of TableShort = RoomWrong

-- The refusal of carrying out that a run's becomes.
abbrev pub carry_refusal_of : RunRefusal → CarryRefusal
carry_refusal_of RecordsPass = RecordsOver
carry_refusal_of NumberPasses = NumberOver
carry_refusal_of (WrongLine line) = LineWrong line
carry_refusal_of RoomWrong = RecordsShort

abbrev pub carry_says : Result Totals CarryRefusal → Carried
carry_says (Ok t) = carried t.records t.firings
carry_says (Err r) = refuses (carry_refusal_number r) (carry_refusal_line r)

abbrev pub run_says : Result Totals RunRefusal → Ran
run_says (Ok t) = ended t.records t.firings
run_says (Err RecordsPass) = records_over
run_says (Err NumberPasses) = number_over
run_says (Err (WrongLine line)) = line_wrong line
run_says (Err RoomWrong) = room_wrong
