-- `listing::fill_totals` meets its contract: the C line, then the records. Assumes nothing.
use mathlib.Core.Path.{refl}
use mathlib.Core.List.{[], ◌∷◌}
use native.Mathlib.Omega.{arith}
use Rattle.report.proofs.Filling.{put_ok, put-fits}
use Rattle.report.proofs.Ranges.{in_range_all}
use Rattle.listing.proofs.ListLaws.{totals_filled}
use Rattle.listing.proofs.fill_totals.Goals as goal

pub unwrap-requires : goal.unwrap-requires
unwrap-requires c =
    let put = put_ok _ (c.args.totals.records ∷ c.args.totals.firings ∷ []) _ _ _ _ c.put_line.ensures
    (in_range_all (c.args.totals.records ∷ c.args.totals.firings ∷ []) (omega (arith, c.requires.0.few), (c.requires.1, tt))) (omega (arith, c.requires.2)) in
    rw put refl

pub fill_records-requires : goal.fill_records-requires
fill_records-requires c = (c.requires.0, omega (arith, c.put_line.auto.text, c.requires.2))

pub returns : goal.returns
returns c =
    totals_filled _ _ _ _ _ _ _ _ c.requires.0.few c.requires.2
    (put-fits _ (c.args.totals.records ∷ c.args.totals.firings ∷ []) _ _ _ _ c.put_line.ensures
    (in_range_all (c.args.totals.records ∷ c.args.totals.firings ∷ []) (omega (arith, c.requires.0.few), (c.requires.1, tt))) (omega (arith, c.requires.2)))
    c.fill_records.ensures
