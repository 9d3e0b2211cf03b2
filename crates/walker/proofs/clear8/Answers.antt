-- `clear8` meets its contract. The loop's invariant: where `clear` still holds, none of the first k bytes is byte 10. Assumes nothing.
use mathlib.Core.Path.{◌≡◌, sym, ◌∙◌, ap}
use mathlib.Core.Bool.{not, ◌&&◌}
use mathlib.Core.List.{List}
use Prim.Native.Nat.{ℕ, ◌+◌, ◌-◌, ◌≤◌, ◌<◌}
use native.Mathlib.Omega.{arith}
use lib.Dec.{eqb}
use lib.ListN.{length, get_or, take, drop, length-drop}
use lib.Seq.{length-take-le, get_or-take, get_or-drop}
use Rattle.walker.proofs.Walking.{clear_start, clear_tested}
use Rattle.walker.proofs.clear8.Goals as goal

abbrev eight : List ℕ → ℕ → List ℕ
eight text i = take (i + 8 - i) (drop i text)

eight_long : (text : List ℕ) (i : ℕ) → i + 8 ≤ length text → length (eight text i) ≡ 8
eight_long text i h = let l = length-drop i text in length-take-le (i + 8 - i) (drop i text) (omega arith) ∙ omega arith

eight_at : (text : List ℕ) (i : ℕ) {k : ℕ} → i + 8 ≤ length text → k < length (eight text i) → get_or (eight text i) k 0 ≡ get_or text (i + k) 0
eight_at text i {k} h l = get_or-take (i + 8 - i) (drop i text) k 0 (omega (arith, eight_long text i h)) ∙ get_or-drop i text k 0

pub loop-byte-init : goal.loop-byte-init
loop-byte-init c = λ e. clear_start _ _ _ (omega arith)

pub loop-byte-preserved : goal.loop-byte-preserved
loop-byte-preserved c =
    let l = c.loop-byte in
    λ e. clear_tested _ _ l.byte-index _ l.invariant (sym (ap (λ (b : ℕ). l.clear && not (eqb b 10)) (eight_at _ _ c.requires c.loop-byte-test.true)) ∙ e)

pub returns : goal.returns
returns c =
    let long = eight_long _ _ c.requires in
    let past = c.loop-byte-test.false in
    let end = c.loop-byte.auto.byte-index-end in
    let all : c.loop-byte.byte-index ≡ 8 = omega arith in
    λ e. rw all at (c.loop-byte.invariant e)
