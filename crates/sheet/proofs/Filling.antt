-- Filling a text: what is known when n lines of a sheet are put, and what follows when the next one is. Assumes nothing.
use mathlib.Core.Path.{◌≡◌, refl, sym, subst, ap, ◌∙◌}
use mathlib.Core.Bool.{true}
use mathlib.Core.List.{List, [], ◌∷◌, ◌++◌, append_assoc, append-nil}
use Prim.Native.Nat.{ℕ, suc, ◌+◌, ◌*◌, ◌<◌, ◌≤◌}
use native.Mathlib.Nat.{zero-add}
use native.Mathlib.Omega.{arith}
use lib.ListN.{length, get_or, take, drop, length-append, length-drop}
use lib.Seq.{take_at, drop_at, paste-zero}
use Rattle.sheet.specs.Line.{Line, render, text_of, in_range, lent, lent_of}
use Rattle.patterns.specs.Outcome.{Outcome, good, map_good, held, padded}
use Rattle.sheet.specs.Sheet.{Continues}
use Rattle.sheet.specs.Write.{sheet_held}
use Rattle.sheet.specs.Inner.Promises.{Widths, TextFits, TextFilled, LinePut, used_of}
use Rattle.sheet.proofs.Lines.{drop_twice, length-render, length-lent}
use Rattle.sheet.proofs.FormLaws.{formed_range, formed_few, letter_small, take-padded}
use Rattle.sheet.proofs.Sheets.{sheet_held_is}
use Rattle.sheet.proofs.WidthLaws.{kind_width, first_padded, declared_in, widths_more}
use Rattle.sheet.proofs.LentLines.{line_of, from, used-is}
use Rattle.columns.specs.Column.{put}
use Rattle.sheet.proofs.PutLaws.{length-put, put_more}

-- What is known when n lines are put into the text.
pub record Fills (numbers text₀ text widths : List ℕ) (at n : ℕ) : Type 0 where
  pub lines : List Line
  pub holds : sheet_held numbers ≡ good lines
  pub fit : length (text_of lines) ≤ length text₀
  pub before : List Line
  pub rest : List Line
  pub goes : Continues before rest
  pub left : from n numbers ≡ lent_of rest
  pub inside : 8 * n ≤ length numbers
  pub table : Widths before widths
  pub done : List ℕ
  pub whole : text_of lines ≡ done ++ text_of rest
  pub here : at ≡ length done
  pub filled : text ≡ put text₀ 0 done

pub fill-begun :
    (numbers text widths : List ℕ) → TextFits numbers (length text) → length widths ≡ 65 → ((k : ℕ) → get_or widths k 0 ≡ 0) → Fills numbers text text widths 0 0
fill-begun numbers text widths f size clear =
    let s = sheet_held_is numbers f.lines f.holds in
    record {
      lines = f.lines;
      holds = f.holds;
      fit = f.fit;
      before = [];
      rest = f.lines;
      goes = s.1;
      left = s.0;
      inside = omega arith;
      table = record { size = size; each = clear };
      done = [];
      whole = refl;
      here = refl;
      filled = paste-zero text 0 [];
    }

module _ {numbers text₀ text widths : List ℕ} {at n : ℕ} (f : Fills numbers text₀ text widths at n) where
  done_fits : length f.done + length (text_of f.rest) ≤ length text₀
  done_fits = let a = f.fit in omega (arith, ap length f.whole, length-append f.done (text_of f.rest))

  pub fill_long : length text ≡ length text₀
  fill_long = ap length f.filled ∙ length-put text₀ 0 f.done (omega (arith, done_fits))

  pub fill_end : length numbers < 8 * n + 8 → TextFilled numbers text₀ text
  fill_end over = go f.rest refl
    where
      go : (rest : List Line) → f.rest ≡ rest → TextFilled numbers text₀ text
      go [] e =
          let w : f.done ≡ text_of f.lines = sym (f.whole ∙ ap (λ (r : List Line). f.done ++ text_of r) e ∙ append-nil f.done) in
          f.filled
          ∙ ap (λ (k : ℕ). f.done ++ drop k text₀) (zero-add (length f.done))
          ∙ ap (λ (d : List ℕ). d ++ drop (length d) text₀) w
          ∙ ap (λ (o : Outcome (List Line)). held (map_good text_of o) text₀) (sym f.holds)
      go (l ∷ rest) e =
          let a : from n numbers ≡ lent l ++ lent_of rest = f.left ∙ ap lent_of e in
          absurd (omega (arith, ap length a, length-append (lent l) (lent_of rest), length-lent l, length-drop (8 * n) numbers))

-- The line at hand, and what follows when its text is put.
pub record Putting (numbers text₀ text widths : List ℕ) (at n : ℕ) (x : List ℕ) (fields : ℕ) : Type 0 where
  pub few : fields ≤ 6
  pub room : at + 9 * fields + 11 ≤ length text
  pub letter : get_or x 0 0 < 256
  pub ranges : in_range (take (suc fields) (drop 1 x)) ≡ true
  pub declares : get_or x 0 0 ≡ 75 → (get_or x 1 0 < 65) × (get_or x 2 0 < 256)
  pub next : (after : List ℕ) → LinePut text at x fields after → Fills numbers text₀ after (declared_in widths x) (at + (9 * fields + 11)) (n + 1)

module _ {numbers text₀ text widths : List ℕ} {at n : ℕ} (f : Fills numbers text₀ text widths at n) where
  module _ (l : Line) (rest : List Line) (e : f.rest ≡ l ∷ rest) where
    next_left : from n numbers ≡ lent l ++ lent_of rest
    next_left = f.left ∙ ap lent_of e

    goes_on : Continues f.before (l ∷ rest)
    goes_on = subst (Continues f.before) e f.goes

    next_room : length f.done + length (render l) ≤ length text₀
    next_room =
        omega
        (arith, done_fits f, ap (λ (r : List Line). length (text_of r)) e, length-append (render l) (text_of rest))

    line_again : line_of (length l.numbers) (lent l) ≡ l
    unfolding lent
    line_again = ap (λ (ns : List ℕ). record { letter = l.letter; kind = l.kind; numbers = ns }) (take-padded 6 l.numbers (formed_few l goes_on.0))

    putting : Putting numbers text₀ text widths at n (lent l) (length l.numbers)
    unfolding lent
    putting =
        let r : length (render l) ≡ 9 * length l.numbers + 11 = length-render l in
        let h = f.here in
        let g = next_room in
        let long : length text ≡ length text₀ = fill_long f in
        let w : (l.letter ≡ 75 → (l.kind < 65) × (get_or (padded 6 l.numbers) 0 0 < 256)) =
        λ k. let q = kind_width f.before l k goes_on.1 in (q.0, let z = first_padded 5 l.numbers in let y = q.1 in omega arith) in
        record {
          few = formed_few l goes_on.0;
          room = omega arith;
          letter = letter_small l goes_on.0;
          ranges = ap (λ (ns : List ℕ). in_range (l.kind ∷ ns)) (take-padded 6 l.numbers (formed_few l goes_on.0)) ∙ formed_range l goes_on.0;
          declares = w;
          next = λ after p.
              let a : at + 9 * length l.numbers + 11 ≡ at + length (render l) = omega arith in
              let b : at ≡ 0 + length f.done = omega arith in
              record {
                lines = f.lines;
                holds = f.holds;
                fit = f.fit;
                before = l ∷ f.before;
                rest = rest;
                goes = goes_on.2;
                left =
                    sym (drop_twice 8 (8 * n) (8 * (n + 1)) numbers (omega arith)) ∙ ap (drop 8) next_left ∙ drop_at (lent l) (lent_of rest) 8 (length-lent l);
                inside = omega (arith, ap length next_left, length-append (lent l) (lent_of rest), length-lent l, length-drop (8 * n) numbers);
                table = widths_more f.before widths l f.table goes_on.1;
                done = f.done ++ render l;
                whole = f.whole ∙ ap (λ (r : List Line). f.done ++ text_of r) e ∙ sym (append_assoc f.done (render l) (text_of rest));
                here = omega (arith, length-append f.done (render l));
                filled =
                    p
                    ∙ ap (λ (m : Line). take at text ++ render m ++ drop (at + 9 * length l.numbers + 11) text) line_again
                    ∙ ap (λ (k : ℕ). take at text ++ render l ++ drop k text) a
                    ∙ ap (λ (t : List ℕ). put t at (render l)) f.filled
                    ∙ ap (λ (k : ℕ). put (put text₀ 0 f.done) k (render l)) b
                    ∙ put_more text₀ 0 f.done (render l) (omega arith);
              };
        }

  next_line : 8 * n < length numbers → (rest : List Line) → f.rest ≡ rest → (l : Line) × (more : List Line) × (f.rest ≡ l ∷ more)
  next_line h [] e =
      let a : from n numbers ≡ [] = f.left ∙ ap lent_of e in
      absurd (omega (arith, ap length a, length-drop (8 * n) numbers))
  next_line h (l ∷ more) e = (l, more, e)

  module _ (more : 8 * n < length numbers) where
    pub fill-line :
        (x : List ℕ) → x ≡ take 8 (from n numbers) → (fields : ℕ) → fields ≡ used_of widths x → Putting numbers text₀ text widths at n x fields
    fill-line x is fields u =
        let (l, rest, e) = next_line more f.rest refl in
        let i : lent l ≡ x = sym (is ∙ ap (take 8) (next_left l rest e) ∙ take_at (lent l) (lent_of rest) 8 (length-lent l)) in
        let c = goes_on l rest e in
        let k : length l.numbers ≡ fields = sym (u ∙ ap (used_of widths) (sym i) ∙ used-is f.before widths l f.table c.0 c.1) in
        subst (λ (y : List ℕ). Putting numbers text₀ text widths at n y fields) i
        (subst (λ (j : ℕ). Putting numbers text₀ text widths at n (lent l) j) k (putting l rest e))
