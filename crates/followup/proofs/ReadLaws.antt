-- What read answers for lines held as numbers is what it answers for lines held as bytes. Assumes nothing.
use mathlib.Core.Path.{◌≡◌, refl, sym, subst, ap, ◌∙◌}
use mathlib.Core.List.{List, ◌++◌, append_assoc}
use Prim.Native.Nat.{ℕ, ◌*◌, ◌/◌, ◌≤◌, min}
use native.Mathlib.Omega.{arith}
use lib.ListN.{length, take, drop}
use lib.Seq.{take_at}
use Rattle.patterns.specs.Outcome.{Outcome, good, refused, map_good, counted, held}
use Rattle.sheet.specs.Line.{Line, lent_of}
use Rattle.sheet.specs.Read.{read_of, read_says, ReadMeets}
use Rattle.std.proofs.Common.{Result}
use Rattle.sheet.specs.declared.Refusal.{Refusal}
use Rattle.sheet.proofs.Sheets.{length-lent_of}
use Rattle.sheet.proofs.Outcomes.{read_of_good}
use Rattle.followup.specs.Bytes.{all_bytes}
use Rattle.followup.specs.Reply.{Replies, room_in, ReadsBytes}
use Rattle.followup.specs.Inner.Numbers.{ReadsNumbers}
use Rattle.followup.specs.declared.Reply.{Reply}
use Rattle.followup.proofs.ByteLaws.{length-numbers_from, length-all_bytes}
use Rattle.followup.proofs.LineCounts.{lines_in, room_enough}
use Rattle.followup.proofs.Kept.{kept_read}

-- As many lines as so many bytes have room for, but no more than there are numbers for, which is enough.
room_same : (text lines before : List ℕ) (most : ℕ) → lines_in text ≤ most → length before ≡ 8 * min (length lines / 4 / 8) most
    → read_of text (length before / 8) ≡ read_of text (room_in lines)
room_same text lines before most h e =
    let k : length before / 8 ≡ min (length lines / 4 / 8) most = omega arith in
    ap (read_of text) k ∙ room_enough text (length lines / 4 / 8) most h ∙ ap (λ n. read_of text (n / 8)) (sym (length-numbers_from 4 (length lines / 4) lines))

-- Lines as numbers: what read answers, in a reply.
pub reads_numbers : {text before after : List ℕ} (answer : Result ℕ Refusal) (r : Reply) → ReadMeets text before answer after → Replies (read_says answer) r → ReadsNumbers text before r after
reads_numbers answer r m says = record { replies = subst (λ o. Replies o r) m.says says; lines = m.lines }

abbrev as_bytes : Outcome (List Line) → Outcome (List ℕ)
as_bytes o = map_good (λ ls. all_bytes 4 (lent_of ls)) o

-- Lines that were read are put into the bytes, and the rest of the bytes is as it was; of a refused text there are none.
pub reads_bytes : (text lines before after : List ℕ) (most : ℕ) → lines_in text ≤ most → length before ≡ 8 * min (length lines / 4 / 8) most
    → (r : Reply) → ReadsNumbers text before r after
    → (rest : List ℕ) → ReadsBytes text lines r (all_bytes 4 (take (8 * r.count) (after ++ rest)) ++ drop (4 * (8 * r.count)) lines)
reads_bytes text lines before after most enough room r m rest =
    let same = room_same text lines before most enough room in
    let g = go (read_of text (room_in lines)) (rw same at m.replies) (rw same at m.lines) in
    record { replies = g.0; lines = g.1; kept = kept_read (λ ls. all_bytes 4 (lent_of ls)) (read_of text (room_in lines)) r lines _ g.0 g.1 }
  where
    go : (o : Outcome (List Line)) → Replies (counted o) r → after ≡ held (map_good lent_of o) before
        → Replies (counted o) r × (all_bytes 4 (take (8 * r.count) (after ++ rest)) ++ drop (4 * (8 * r.count)) lines ≡ held (as_bytes o) lines)
    go (refused number line) says h = let none : r.count ≡ 0 = says.2 in (says, rw none refl)
    go (good ls) says h =
        let n = r.count in
        let k : r.count ≡ length ls = says.2 in
        let front : take (8 * n) (after ++ rest) ≡ lent_of ls =
        ap (λ xs. take (8 * n) (xs ++ rest)) h ∙ ap (take (8 * n)) (append_assoc (lent_of ls) (drop (length (lent_of ls)) before) rest)
        ∙ take_at (lent_of ls) (drop (length (lent_of ls)) before ++ rest) (8 * n) (omega (arith, k, length-lent_of ls)) in
        let size : 4 * (8 * n) ≡ length (all_bytes 4 (lent_of ls)) = omega (arith, k, length-all_bytes 4 (lent_of ls), length-lent_of ls) in
        (says, rw (front, size) refl)

-- The lines that are counted fit.
pub lines_fit : (text numbers after : List ℕ) (r : Reply) → ReadsNumbers text numbers r after → 8 * r.count ≤ length numbers
lines_fit text numbers after r m = go (read_of text (length numbers / 8)) refl m.replies
  where
    go : (o : Outcome (List Line)) → read_of text (length numbers / 8) ≡ o → Replies (counted o) r → 8 * r.count ≤ length numbers
    go (good ls) e says = let (size, fit, read) = read_of_good text (length numbers / 8) ls e in omega (arith, says.2)
    go (refused n k) e says = omega (arith, says.2)
