-- The theorems on the F line that a reader relies on: it has 38 bytes, and no two forecasts that can be answered print the same one. Assumes nothing.
use mathlib.Core.Path.{◌≡◌, refl, sym, subst, ap, ◌∙◌}
use mathlib.Core.Bool.{Bool, true, false, cond}
use mathlib.Core.List.{List, ◌++◌}
use Prim.Native.Nat.{ℕ, ◌+◌, ◌/◌, ◌%◌, ◌≤◌}
use native.Mathlib.Omega.{arith}
use borrow.Author.Tests.{leb-true}
use lib.Dec.{leb}
use lib.ListN.{length, get_or, take, drop}
use lib.Seq.{take_at, drop_at}
use Rattle.columns.specs.Column.{wide_column, decimal}
use Rattle.columns.proofs.ColumnLaws.{decimal-places}
use Rattle.growth.specs.Forecast.{Figure, exactly, beyond, figure_limit, figure, Forecast, forecast}
use Rattle.growth.specs.Contract.{foretold, ForecastMeets}
use Rattle.outlook.specs.Outlook.{figure_column, figures_line, outlook_limit}
use Rattle.outlook.proofs.OutlookLaws.{length-figure_column, length-figures_line}

-- An F line is the longest that can be printed.
pub line-size : (f : Forecast) → length (figures_line f) ≡ outlook_limit
line-size f = length-figures_line f

-- ---- the figures that can be answered

-- At most 4,294,967,295, or beyond.
abbrev pub Small : Figure → Type 0
Small (exactly n) = n ≤ figure_limit
Small beyond = Unit {0}

pub record AllSmall (f : Forecast) : Type 0 where
  pub values : Small f.values
  pub records : Small f.records
  pub pairs : Small f.pairs

figure_small : (n : ℕ) → Small (figure n)
unfolding figure
figure_small n = go (leb n figure_limit) refl
  where
    go : (b : Bool) → leb n figure_limit ≡ b → Small (cond b (exactly n) beyond)
    go true e = leb-true n figure_limit e
    go false e = tt

-- Every answer's figures are.
pub answer_small : (limit : ℕ) (numbers : List ℕ) (f : Forecast) → ForecastMeets limit numbers (foretold f) → AllSmall f
unfolding forecast
answer_small limit numbers f m =
    subst AllSmall (sym m.figures) (record { values = figure_small _; records = figure_small _; pairs = figure_small _ })

-- ---- a line has one forecast

last_apart : (n : ℕ) → wide_column n ≡ figure_column beyond → ⊥
unfolding figure_column wide_column
last_apart n e = let last : 48 + n % 10 ≡ 100 = ap (λ (l : List ℕ). get_or l 11 0) e in omega arith

one_number : (n m : ℕ) → n ≤ figure_limit → m ≤ figure_limit → wide_column n ≡ wide_column m → n ≡ m
unfolding wide_column
one_number n m a b e =
    let last : 48 + n % 10 ≡ 48 + m % 10 = ap (λ (l : List ℕ). get_or l 11 0) e in
    let rest : n / 10 ≡ m / 10 =
    sym (decimal-places 11 (n / 10) (omega arith)) ∙ ap (λ (l : List ℕ). decimal 0 (take 11 l)) e ∙ decimal-places 11 (m / 10) (omega arith) in
    omega arith

one_figure : (f g : Figure) → Small f → Small g → figure_column f ≡ figure_column g → f ≡ g
unfolding figure_column
one_figure (exactly n) (exactly m) a b e = ap exactly (one_number n m a b e)
one_figure (exactly n) beyond a b e = absurd (last_apart n e)
one_figure beyond (exactly m) a b e = absurd (last_apart m (sym e))
one_figure beyond beyond a b e = refl

-- The first column of what is left of a line, and the rest.
split : (f g : Figure) (xs ys : List ℕ) → Small f → Small g → figure_column f ++ xs ≡ figure_column g ++ ys → (f ≡ g) × (xs ≡ ys)
split f g xs ys a b e = (
  one_figure f g a b (sym (take_at (figure_column f) xs 12 (length-figure_column f)) ∙ ap (take 12) e ∙ take_at (figure_column g) ys 12 (length-figure_column g)),
  sym (drop_at (figure_column f) xs 12 (length-figure_column f)) ∙ ap (drop 12) e ∙ drop_at (figure_column g) ys 12 (length-figure_column g),
)

pub one_forecast : (f g : Forecast) → AllSmall f → AllSmall g → figures_line f ≡ figures_line g → f ≡ g
unfolding figures_line
one_forecast f g a b e =
    let (values, e1) = split f.values g.values _ _ a.values b.values (ap (drop 1) e) in
    let (records, e2) = split f.records g.records _ _ a.records b.records e1 in
    let (pairs, e3) = split f.pairs g.pairs _ _ a.pairs b.pairs e2 in
    λ i. record { values = values i; records = records i; pairs = pairs i }
