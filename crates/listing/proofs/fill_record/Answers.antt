-- `listing::fill_record` meets its contract: the record's line has columns and room, so it is put. Assumes nothing.
use mathlib.Core.Path.{◌≡◌, refl, ap, ◌∙◌}
use Prim.Native.Nat.{ℕ, ◌+◌}
use native.Mathlib.Omega.{arith}
use Rattle.std.proofs.Common.{Result, Ok}
use Rattle.report.specs.declared.PutRefusal.{PutRefusal}
use Rattle.report.proofs.Filling.{put_ok, put-fits}
use Rattle.listing.proofs.RecordLaws.{record_columns, columns_fit, columns_long, record_put}
use Rattle.listing.proofs.fill_record.Goals as goal

same_size : {n m : ℕ} {r : Result ℕ PutRefusal} → r ≡ Ok n → r ≡ Ok m → n ≡ m
same_size a b = cc

pub unwrap-requires : goal.unwrap-requires
unwrap-requires c =
    let is = record_columns c.requires.0 _ c.columns_of-columns.ensures _ (ap (λ (n : ℕ). n + 2) c.width_of-width.ensures) in
    let fit = columns_fit c.requires.0 _ is in
    let put = put_ok _ _ _ _ _ _ c.put_line.ensures fit.0 (omega (arith, fit.1, c.requires.1)) in
    rw put refl

pub returns : goal.returns
returns c =
    let p = c.requires.0 in
    let is = record_columns p _ c.columns_of-columns.ensures _ (ap (λ (n : ℕ). n + 2) c.width_of-width.ensures) in
    let fit = columns_fit p _ is in
    let size = same_size c.unwrap.ensures (put_ok _ _ _ _ _ _ c.put_line.ensures fit.0 (omega (arith, fit.1, c.requires.1))) in
    let text = put-fits _ _ _ _ _ _ c.put_line.ensures fit.0 (omega (arith, fit.1, c.requires.1)) in
    (size ∙ columns_long p _ is, omega (arith, size, fit.1), text ∙ record_put p _ _ _ is)
