-- What `rules_of` has answered, where all the room is lent. Assumes nothing.
use mathlib.Core.Path.{◌≡◌, sym, ◌∙◌, ap, subst}
use mathlib.Core.List.{List}
use Prim.Native.Nat.{ℕ}
use native.Mathlib.Omega.{arith}
use lib.ListN.{length, take}
use lib.Seq.{take_all}
use Rattle.patterns.specs.Outcome.{refused}
use Rattle.sheet.specs.Write.{sheet_held}
use Rattle.rules.specs.Table.{SheetHeld, rules_in, table_rules, TableFits}
use Rattle.rules.specs.Answer.{RulesMeet, rules_say}
use Rattle.std.specs.Prelude.{Result, Ok, Err}
use Rattle.rules.specs.declared.RulesRefusal.{RulesRefusal}
use Rattle.rules.specs.declared.RulesRefusal.TheVariants.{LineWrong, TableShort}

module _ (numbers before now : List ℕ) (size : length before ≡ 16384) (answer : Result ℕ RulesRefusal) (meets : RulesMeet numbers before (rules_say answer) now) where
  answers : {other : Result ℕ RulesRefusal} → answer ≡ other → RulesMeet numbers before (rules_say other) now
  answers e = subst (λ (a : Result ℕ RulesRefusal). RulesMeet numbers before (rules_say a) now) e meets

  pub not_short : answer ≡ Err TableShort → ⊥
  not_short e = omega (arith, (answers e).0)

  pub lines_wrong : (line : ℕ) → answer ≡ Err (LineWrong line) → sheet_held numbers ≡ refused 8 line
  lines_wrong line e = (answers e).1

  pub rules_held : (count : ℕ) → answer ≡ Ok count → SheetHeld numbers × TableFits now count × (table_rules now count ≡ rules_in numbers)
  rules_held count e =
      let held = (answers e).1 in
      let all : take 16384 now ≡ now = take_all 16384 now (omega (arith, held.whole)) in
      (held.sheet, subst (λ (t : List ℕ). TableFits t count) all held.fits, ap (λ (t : List ℕ). table_rules t count) (sym all) ∙ held.rules)
