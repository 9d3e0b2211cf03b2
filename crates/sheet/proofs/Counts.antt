-- What a good answer counts fits what was lent: for callers that take that part of it. Assumes nothing.
use mathlib.Core.Path.{◌≡◌, refl}
use mathlib.Core.Bool.{Bool, true, false, cond, false≢true}
use mathlib.Core.List.{List}
use Prim.Native.Nat.{ℕ, ◌*◌, ◌/◌, ◌≤◌}
use native.Mathlib.Omega.{arith}
use Rattle.std.proofs.Common.{Ok}
use lib.Dec.{ltb}
use lib.ListN.{length}
use borrow.Author.Tests.{ltb-false}
use Rattle.patterns.specs.Outcome.{Outcome, good, refused, counted}
use Rattle.sheet.specs.Line.{Line, text_of}
use Rattle.sheet.specs.Read.{text_limit, sheet_in, with_room, read_of, ReadMeets}
use Rattle.sheet.specs.Write.{sheet_held, fits, written, write_of, WriteMeets}

room_counts : (room n : ℕ) (o : Outcome (List Line)) → good n ≡ counted (with_room room o) → n ≤ room
room_counts room n (refused number line) e = absurd (false≢true cc)
room_counts room n (good ls) e = go (ltb room (length ls)) refl e
  where
    go : (t : Bool) → ltb room (length ls) ≡ t → good n ≡ counted (cond t (refused 7 (Prim.Native.Nat.suc room)) (good ls)) → n ≤ room
    go true q e = absurd (false≢true cc)
    go false q e = let s : n ≡ length ls = cc in omega (arith, ltb-false room (length ls) q)

-- As many lines as read counts were lent.
pub read_counts : (text before : List ℕ) (n : ℕ) (after : List ℕ) → ReadMeets text before (Ok n) after → 8 * n ≤ length before
unfolding read_of
read_counts text before n after m = let h = go (ltb text_limit (length text)) m.says in omega (arith, h)
  where
    go : (t : Bool) → good n ≡ counted (cond t (refused 1 0) (with_room (length before / 8) (sheet_in text))) → n ≤ length before / 8
    go true e = absurd (false≢true cc)
    go false e = room_counts (length before / 8) n (sheet_in text) e

fits_counts : (room n : ℕ) (text : List ℕ) → good n ≡ counted (fits room text) → n ≤ room
fits_counts room n text e = go (ltb text_limit (length text)) (ltb room (length text)) refl e
  where
    go : (t u : Bool) → ltb room (length text) ≡ u → good n ≡ counted (cond t (refused 1 0) (cond u (refused 9 0) (good text))) → n ≤ room
    go true u q e = absurd (false≢true cc)
    go false true q e = absurd (false≢true cc)
    go false false q e = let s : n ≡ length text = cc in omega (arith, ltb-false room (length text) q)

-- As many bytes as write counts were lent.
pub write_counts : (numbers before : List ℕ) (n : ℕ) (after : List ℕ) → WriteMeets numbers before (Ok n) after → n ≤ length before
unfolding write_of
write_counts numbers before n after m = go (sheet_held numbers) m.says
  where
    go : (o : Outcome (List Line)) → good n ≡ counted (written (length before) o) → n ≤ length before
    go (refused number line) e = absurd (false≢true cc)
    go (good ls) e = fits_counts (length before) n (text_of ls) e
