-- What is said of lines before their rules are carried out. Assumes nothing.
use Rattle.std.specs.Prelude.{List, ℕ, ⊤, Result, Ok, Err, ◌≤◌, length}
use Rattle.carrying.specs.Contract.{record_room, Refuses}
use Rattle.running.specs.declared.CarryRefusal.{CarryRefusal}
use Rattle.running.specs.Answer.{carry_refusal_number, carry_refusal_line}
use Rattle.running.specs.Inner.Carry.{Settled}

-- They settle; or that is the refusal for whatever room is lent, if it is enough.
abbrev pub FirstSays : List ℕ → Result ⊤ CarryRefusal → Type 0
FirstSays numbers (Ok _) = (before : List ℕ) → record_room ≤ length before → Settled numbers before
FirstSays numbers (Err r) = (before : List ℕ) → record_room ≤ length before → Refuses numbers before (carry_refusal_number r) (carry_refusal_line r)
