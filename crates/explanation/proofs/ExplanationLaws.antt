-- What stands at the front of the output is right to print. Assumes nothing.
use mathlib.Core.Path.{◌≡◌, refl, sym, ap, ◌∙◌}
use mathlib.Core.List.{List, ◌++◌}
use Prim.Native.Nat.{ℕ, ◌≤◌}
use native.Mathlib.Nat.{zero-add}
use native.Mathlib.Omega.{arith}
use lib.ListN.{length, drop}
use Rattle.chase.specs.Judge.{shape_limit}
use Rattle.sentences.specs.Explain.{Refuses, Right}
use Rattle.report.specs.Report.{Filled}
use Rattle.report.specs.Inner.Promises.{SheetLent}
use Rattle.report.proofs.Bounds.{sheet_unrefused}
use Rattle.explanation.specs.Explanation.{Tells}

-- Sentences that explaining puts are right to print.
pub sentences-filled : (numbers before : List ℕ) (n : ℕ) (after : List ℕ) → Right shape_limit numbers before n after → Filled (Tells numbers) before n after
sentences-filled numbers before n after r =
    record {
      printed = r.text;
      right = Tells.sentences r.explains;
      count = r.size;
      output = r.stands ∙ ap (λ (k : ℕ). r.text ++ drop k before) (sym (zero-add (length r.text)));
    }

-- A refusal's number is at most 25, and a sheet's lines are refused with no line.
pub refusal-number : (numbers before : List ℕ) (n k : ℕ) → Refuses shape_limit numbers before n k → n ≤ 25
refusal-number numbers before n k (Refuses.wrong line e) = omega arith
refusal-number numbers before n k (Refuses.many lines e m) = omega arith
refusal-number numbers before n k (Refuses.settles lines t d b) = omega arith
refusal-number numbers before n k (Refuses.short text e less) = omega arith

pub refusal-line : (numbers before : List ℕ) (n k : ℕ) → SheetLent numbers → Refuses shape_limit numbers before n k → k ≡ 0
refusal-line numbers before n k sheet (Refuses.wrong line e) = absurd (sheet_unrefused sheet e)
refusal-line numbers before n k sheet (Refuses.many lines e m) = refl
refusal-line numbers before n k sheet (Refuses.settles lines t d b) = refl
refusal-line numbers before n k sheet (Refuses.short text e less) = refl
