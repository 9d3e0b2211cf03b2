-- `judging::search::search` meets its contract. Each loop keeps where the search stands; each branch is an event of it. The measures are what is left of the H lines, the rules and the 512 places. Assumes nothing.
use mathlib.Core.Path.{◌≡◌, refl, sym, ◌∙◌, ap}
use mathlib.Core.List.{List}
use Prim.Native.Nat.{ℕ, ◌+◌}
use native.Mathlib.Omega.{arith}
use Rattle.patterns.specs.Pattern.{digits_of, pattern_table, digits_in}
use Rattle.patterns.proofs.PatternRows.{table-rows}
use Rattle.judging.proofs.KindLaws.{first-place, fired-place, fire_from}
use Rattle.judging.proofs.SearchLaws.{doing_begun, ruling_first, ruling_fires, ruling_next, ruling_last, heading_last, heading_same, heading_four, heading_seen, heading_push, heading_more, try_all}
use Rattle.judging.proofs.NoteLaws.{noting_begun, noting_seen, noting_new, noting_rule, noting-next, noting-shape, noting-all, noting-room}
use Rattle.judging.proofs.search.search.Goals as goal
use Rattle.judging.proofs.search.search.Goals.{then-index-code-eq0+else-count-eq512, else-index-code-eq0}

-- A row of the table of patterns.
looked_up : (t : List ℕ) (n : ℕ) {d : List ℕ} → d ≡ digits_in t n → t ≡ pattern_table → d ≡ digits_of n
looked_up t n e p = e ∙ ap (λ u. digits_in u n) p ∙ table-rows n

pub loop-s-init : goal.loop-s-init
loop-s-init c = (
  omega arith,
  record { fits = c.requires.1; are = c.requires.2 },
  doing_begun c.args.fired.now c.in_ok-count.ensures c.requires.9.size c.requires.9.none,
  noting_begun c.args.starts.now refl c.requires.8,
)

pub next_fire-next-requires : goal.next_fire-next-requires
next_fire-next-requires c =
    let i = c.loop-s.invariant in
    let d = looked_up _ _ c.digits_in-digits.ensures c.pattern_table-patterns.ensures in
    let x = ruling_first _ _ _ i.1 i.2 refl c.loop-s-test.true refl d in
    let b = i.2.kept.small _ c.loop-s-test.true in
    (i.1.fits, c.requires.6, first-place _ (omega arith), x.on.digits_fit)

pub loop-next-init : goal.loop-next-init
loop-next-init c =
    let i = c.loop-s.invariant in
    let b = i.2.kept.small _ c.loop-s-test.true in
    let f = fire_from 0 (omega arith) c.next_fire-next.ensures.fire in
    let d = looked_up _ _ c.digits_in-digits.ensures c.pattern_table-patterns.ensures in
    let x = ruling_first _ _ _ i.1 i.2 refl c.loop-s-test.true refl d in
    (c.next_fire-next.ensures.low, f.fires, ruling_next x f, noting-next (noting-room (sym i.3.size_notes) i.3) x.on x.here f)

pub loop-h-init : goal.loop-h-init
loop-h-init c =
    let i = rw c.in-Some.is at c.loop-next.invariant in
    (ruling_fires i.2 _ (i.1 i.0) i.0 c.rule_byte-heads.ensures.0, noting-room (sym i.3.size_notes) i.3)

pub loop-h-preserved : goal.loop-h-preserved
loop-h-preserved c =
    let i = c.loop-h.invariant in
    let m = c.made-code in
    let t = c.loop-h-test.true in
    let note = c.note.ensures in (
      elim c.if-index-code-eq0.branch [
        | then-index-code-eq0+else-count-eq512 w ↦
            let p = w.push.ensures in
            heading_same (heading_push i.0 _ m.ensures t w.if-count-eq512.false w.if-index-code-eq0.true) _ _ _ _
            (w.shapes-is ∙ p.0) (w.index-is ∙ p.1) (w.ways-is ∙ p.2) w.count-is
        | else-index-code-eq0 w ↦
            heading_same (heading_seen i.0 _ m.ensures t w.if-index-code-eq0.false) _ _ _ _ w.shapes-is w.index-is w.ways-is w.count-is
      ],
      elim c.if-index-code-eq0.branch [
        | then-index-code-eq0+else-count-eq512 w ↦
            let p = w.push.ensures in
            noting_new i.0 i.1 _ m.ensures t note w.if-count-eq512.false w.if-index-code-eq0.true (w.shapes-is ∙ p.0) (w.index-is ∙ p.1)
        | else-index-code-eq0 w ↦ noting_seen i.0 i.1 _ m.ensures t note w.if-index-code-eq0.false w.shapes-is w.index-is
      ],
    )

pub next_fire-next-requires-in-Some : goal.next_fire-next-requires-in-Some
next_fire-next-requires-in-Some c =
    let x = c.loop-h.invariant.0 in
    (x.ruled.fits, c.requires.6, fired-place _ _ x.on.kind_is x.applies x.r_low, x.on.digits_fit)

pub loop-next-preserved : goal.loop-next-preserved
loop-next-preserved c =
    let i = c.loop-h.invariant in
    let f = fire_from (c.in-Some.r + 1) (omega arith) c.next_fire-next-in-Some.ensures.fire in
    let x = i.0 in
    let y = heading_last x c.loop-h-test.false in
    let are = x.heads_are in
    let up = x.h_low in
    (c.next_fire-next-in-Some.ensures.low, f.fires, ruling_next y f, noting-next (noting_rule (noting-room c.loop-next.invariant.3.size_notes i.1) (let left = c.loop-h-test.false in omega arith) (omega (arith, heading_four x))) x.on x.here f)

pub loop-s-preserved : goal.loop-s-preserved
loop-s-preserved c =
    let i = rw c.in_default.is at c.loop-next.invariant in
    let l = i.2.s_low in
    let few = i.2.doing.kept.few in
    (omega arith, i.2.ruled, ruling_last i.2 (omega arith), noting-shape (noting-room c.loop-s.invariant.3.size_notes i.3) i.2.r_low (omega arith) i.2.ruled.fits.few (omega arith))

pub returns : goal.returns
returns c =
    let i = c.loop-s.invariant in (try_all i.1 _ c.loop-s-test.false i.2, noting-all i.3 c.loop-s-test.false c.requires.7)

pub returns-then-count-eq512 : goal.returns-then-count-eq512
returns-then-count-eq512 c =
    (heading_more c.loop-h.invariant.0 _ c.made-code.ensures c.loop-h-test.true c.if-count-eq512.true c.if-index-code-eq0.true, tt)
