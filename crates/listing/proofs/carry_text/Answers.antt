-- `listing::carry_text` meets its contract. Assumes nothing.
use mathlib.Core.Path.{refl}
use Rattle.std.proofs.Common.{arith}
use Rattle.report.proofs.Reports.{filled_by, sheet_read, text_meets}
use Rattle.listing.specs.Listing.{Prints}
use Rattle.listing.proofs.carry_text.Goals as goal

pub print_text-requires : goal.print_text-requires
print_text-requires c = record {
  room = omega arith;
  tells = λ enough lines e given lent gives lends. (rw gives (sheet_read c.args.text.now lines e), rw lends enough);
}

pub returns : goal.returns
returns c =
    text_meets _ c.args.text.now c.args.output.now _ (Prints c.args.text.now) (λ number line e. Prints.unread number line e refl) 266260 c.print_text.result c.print_text.ensures
    (λ size lines enough e t. filled_by _ _ _ (λ p j. Prints.read lines e j) (rw (t.gives, t.lends, t.leaves) at t.met))
