-- `report::fill_verdict` meets its contract. Assumes nothing.
use mathlib.Core.Path.{refl, ap, ◌∙◌}
use mathlib.Core.List.{List}
use Prim.Native.Nat.{ℕ, ◌+◌, ◌*◌, ◌≤◌}
use native.Mathlib.Omega.{arith}
use lib.ListN.{length}
use Rattle.sheet.specs.Line.{in_range}
use Rattle.chase.specs.Judge.{judged}
use Rattle.judging.specs.Answer.{verdict_of}
use Rattle.columns.specs.Column.{put}
use Rattle.report.specs.Lines.{line_text}
use Rattle.report.specs.Report.{letter_v, step_lines, judgement_text}
use Rattle.report.proofs.Filling.{verdict_put, length_judged}
use Rattle.report.proofs.fill_verdict.Goals as goal

pub fill_line-requires : goal.fill_line-requires
fill_line-requires c = (ap in_range c.verdict_numbers-numbers.ensures ∙ c.requires.0, omega (arith, c.requires.3))

pub fill_steps-requires : goal.fill_steps-requires
fill_steps-requires c =
    let h = c.fill_line.auto.text in
    (omega (arith, c.requires.1, c.requires.2), omega (arith, h, c.requires.1, c.requires.3))

pub returns : goal.returns
returns c =
    let v = verdict_of c.args.verdict c.args.f in
    let ns = c.args.steps.now in
    let few : 5 * (v.trail + v.loop) ≤ length ns = omega (arith, c.requires.1, c.requires.2) in
    record {
      printed = judgement_text (judged v) ns;
      right = refl;
      count = length_judged v ns few;
      output =
          c.fill_steps.ensures
          ∙ ap (λ (t : List ℕ). put t 74 (step_lines (v.trail + v.loop) ns)) c.fill_line.ensures
          ∙ ap (λ (ms : List ℕ). put (put c.args.text.now 0 (line_text letter_v ms)) 74 (step_lines (v.trail + v.loop) ns)) c.verdict_numbers-numbers.ensures
          ∙ verdict_put c.args.text.now v ns few (omega (arith, c.requires.1, c.requires.3));
    }
