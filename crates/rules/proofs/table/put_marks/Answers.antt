-- `rules::table::put_marks` puts the marks of a line. The invariant: the marks passed are put. Assumes nothing.
use mathlib.Core.Path.{◌≡◌, sym, subst, ◌∙◌}
use mathlib.Core.List.{List}
use Prim.Native.Nat.{ℕ, ◌+◌, ◌-◌, ◌*◌, ◌<◌}
use native.Mathlib.Omega.{arith}
use lib.ListN.{length, get_or, take, drop, set, length-drop}
use lib.Seq.{length-take-le, get_or-take, get_or-drop}
use Rattle.rules.specs.Inner.Bytes.{LineIn}
use Rattle.rules.proofs.PartLaws.{Marking, marking_more}
use Rattle.rules.proofs.table.put_marks.Goals as goal

-- The numbers of line n after its kind: there are six.
abbrev six : List ℕ → ℕ → List ℕ
six numbers n = take (8 * n + 8 - (8 * n + 2)) (drop (8 * n + 2) numbers)

six_long : (numbers : List ℕ) (n : ℕ) → LineIn numbers n → length (six numbers n) ≡ 6
six_long numbers n h =
    let l = length-drop (8 * n + 2) numbers in
    length-take-le (8 * n + 8 - (8 * n + 2)) (drop (8 * n + 2) numbers) (omega arith) ∙ omega arith

six_here : (numbers : List ℕ) (n : ℕ) {i : ℕ} → LineIn numbers n → i < length (six numbers n) → i < 6
six_here numbers n h l = omega (arith, six_long numbers n h)

six_at : (numbers : List ℕ) (n : ℕ) {i : ℕ} → LineIn numbers n → i < length (six numbers n) → get_or (six numbers n) i 0 ≡ get_or numbers (8 * n + 2 + i) 0
six_at numbers n {i} h l =
    get_or-take (8 * n + 8 - (8 * n + 2)) (drop (8 * n + 2) numbers) i 0 (omega (arith, six_long numbers n h)) ∙ get_or-drop (8 * n + 2) numbers i 0

pub loop-i-preserved : goal.loop-i-preserved
loop-i-preserved c =
    let s = c.requires in
    let size = s.0 in
    let t = c.loop-i-test.true in
    let l = c.loop-i in
    subst (λ (x : ℕ). Marking c.args.table.now c.args.at c.args.lines.now c.args.n (l.i + 1) (set l.table (c.args.at + l.i) x)) (sym (six_at _ _ s.2 t))
    (marking_more l.invariant s.2 (six_here _ _ s.2 t) (λ e. c.if-mark-eq0.false (six_at _ _ s.2 t ∙ e)) (omega arith))
