-- The forecast of lent lines as bytes: what is foretold of the first 2,369 lines is foretold of all. Assumes nothing.
use mathlib.Core.Path.{◌≡◌, sym, ap, ◌∙◌}
use mathlib.Core.List.{List}
use Prim.Native.Nat.{ℕ}
use lib.ListN.{take}
use Rattle.sheet.specs.Line.{Line}
use Rattle.sheet.specs.Write.{sheet_held}
use Rattle.chase.specs.Judge.{shape_limit}
use Rattle.growth.specs.Contract.{Foretold, foretold, refuses, Taken, Refuses, wrong, many, endless, ForecastMeets}
use Rattle.followup.specs.Bytes.{numbers_of}
use Rattle.followup.specs.Reply.{ForecastReplies, ForecastsBytes}
use Rattle.followup.specs.declared.ForecastReply.{ForecastReply}
use Rattle.followup.proofs.Truncated.{sheet_truncated}

-- What is right for some numbers is right for all that hold the same sheet.
module _ (limit : ℕ) (ms ns : List ℕ) (e : sheet_held ns ≡ sheet_held ms) where
  pub taken_same : (ls : List Line) → Taken limit ms ls → Taken limit ns ls
  taken_same ls t = record { sheet = e ∙ t.sheet; shapes = t.shapes; counted = t.counted; within = t.within }

  refuses_same : (n k : ℕ) → Refuses limit ms n k → Refuses limit ns n k
  refuses_same n k (wrong line is) = wrong line (e ∙ is)
  refuses_same n k (many ls is more) = many ls (e ∙ is) more
  refuses_same n k (endless ls t un) = endless ls (taken_same ls t) un

  forecast_same : (a : Foretold) → ForecastMeets limit ms a → ForecastMeets limit ns a
  forecast_same (foretold f) m =
      record { lines = m.lines; taken = taken_same m.lines m.taken; deepest = m.deepest; is_deepest = m.is_deepest; figures = m.figures }
  forecast_same (refuses n k) m = refuses_same n k m

-- The first 2,369 lines have the forecast that all have.
pub forecasts_truncated : {first lines : List ℕ} {r : ForecastReply} (a : Foretold) → first ≡ take 18952 (numbers_of 4 lines) → ForecastMeets shape_limit first a
    → ForecastReplies a r → ForecastsBytes lines r
forecasts_truncated {first} {lines} a e m says =
    record {
      answer = a;
      meets = forecast_same shape_limit first (numbers_of 4 lines) (sheet_truncated (numbers_of 4 lines) ∙ ap sheet_held (sym e)) a m;
      replies = says;
    }
