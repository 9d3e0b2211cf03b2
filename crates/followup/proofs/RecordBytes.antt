-- Lent records as bytes: what carrying out puts at their front, and the rest as it was. Assumes nothing.
use mathlib.Core.Path.{◌≡◌, refl, sym, ap, ap₂, ◌∙◌}
use mathlib.Core.List.{List, [], ◌∷◌, ◌++◌, append_assoc, append-nil, map}
use Prim.Native.Nat.{ℕ, zero, suc, ◌+◌, ◌-◌, ◌*◌, ◌/◌, ◌≤◌, ◌<◌}
use native.Mathlib.Numerals.{add-one}
use native.Mathlib.Omega.{arith}
use borrow.Rule.Slice.PartMut.{mid_of, put_mid}
use lib.ListN.{length, get_or, take, drop, length-append, length-drop, drop_of_length-le}
use lib.Seq.{ext_get_or, take_at, take_all, drop_at, drop-drop}
use Rattle.sheet.specs.Line.{Line, lent, lent_of}
use Rattle.sheet.specs.Write.{sheet_held}
use Rattle.sheet.proofs.Lines.{length-lent}
use Rattle.carrying.specs.Contract.{Carried, carried, refuses, row_line, Taken, Refuses, short, wrong, many_shapes, endless, many_records, large_number, CarryMeets}
use Rattle.running.specs.Held.{row_at, rows_at, PackedRow, unpacked}
use Rattle.running.specs.Run.{Ended}
use Rattle.running.specs.Inner.Carry.{Settled}
use Rattle.running.proofs.CarryLaws.{carry_ended}
use Rattle.running.proofs.CopyLaws.{line_of, line_letter, line_kind, line_number, copied, copied_more, copied_length}
use Rattle.followup.specs.Bytes.{numbers_of, all_bytes}
use Rattle.followup.specs.Reply.{CarryReplies, CarriesNumbers, CarriesBytes}
use Rattle.followup.specs.declared.CarryReply.{CarryReply}
use Rattle.followup.proofs.ByteLaws.{Filled, length-numbers_from, length-all_bytes, all_bytes-append, Bytes, new_front}
use Rattle.followup.proofs.Truncated.{sheet_truncated}

-- ---- the bytes of R lines

-- The R line of a record, number by number.
pub record-line : (rows : List ℕ) (i : ℕ) (p : PackedRow (row_at rows i))
    → 82 ∷ get_or rows (7 * i) 0 / 8 ∷ get_or rows (7 * i + 1) 0 ∷ get_or rows (7 * i + 2) 0 ∷ get_or rows (7 * i + 3) 0 ∷ get_or rows (7 * i + 4) 0
    ∷ get_or rows (7 * i + 5) 0 ∷ get_or rows (7 * i + 6) 0 ∷ [] ≡ line_of rows i p
record-line rows i p = ext_get_or 0 line (line_of rows i p) (sym (length-lent (row_line (unpacked (row_at rows i))))) go
  where
    line : List ℕ
    line =
        82 ∷ get_or rows (7 * i) 0 / 8 ∷ get_or rows (7 * i + 1) 0 ∷ get_or rows (7 * i + 2) 0 ∷ get_or rows (7 * i + 3) 0 ∷ get_or rows (7 * i + 4) 0
        ∷ get_or rows (7 * i + 5) 0 ∷ get_or rows (7 * i + 6) 0 ∷ []

    number : (k : ℕ) → 1 ≤ k → k < 7 → get_or rows (7 * i + k) 0 ≡ get_or (line_of rows i p) (1 + k) 0
    number k h l = line_number rows i p k h l

    go : (j : ℕ) → j < 8 → get_or line j 0 ≡ get_or (line_of rows i p) j 0
    go zero h = line_letter rows i p
    go (suc zero) h = line_kind rows i p
    go (suc (suc zero)) h = number 1 (omega arith) (omega arith)
    go (suc (suc (suc zero))) h = number 2 (omega arith) (omega arith)
    go (suc (suc (suc (suc zero)))) h = number 3 (omega arith) (omega arith)
    go (suc (suc (suc (suc (suc zero))))) h = number 4 (omega arith) (omega arith)
    go (suc (suc (suc (suc (suc (suc zero)))))) h = number 5 (omega arith) (omega arith)
    go (suc (suc (suc (suc (suc (suc (suc zero))))))) h = number 6 (omega arith) (omega arith)
    go (suc (suc (suc (suc (suc (suc (suc (suc j)))))))) h = absurd (omega arith)

-- The bytes of the first i records stand at the front.
abbrev pub RecordsIn : List ℕ → List ℕ → List ℕ → ℕ → Type 0
RecordsIn rows before after i = Filled (all_bytes 4 (copied rows i)) before after

pub size_in : (rows : List ℕ) (i : ℕ) → length (all_bytes 4 (copied rows i)) ≡ 32 * i
size_in rows i = omega (arith, length-all_bytes 4 (copied rows i), copied_length rows i)

pub records_all : (rows before : List ℕ) (n : ℕ) {after : List ℕ} → RecordsIn rows before after n → after ≡ all_bytes 4 (copied rows n) ++ drop (32 * n) before
records_all rows before n f = f.same ∙ ap (λ (k : ℕ). all_bytes 4 (copied rows n) ++ drop k before) (size_in rows n)

-- The list with its last part, from place a on, put anew.
put_last : (a : ℕ) (xs ys : List ℕ) → put_mid a (length xs - a) xs ys ≡ take a xs ++ ys
put_last a xs ys =
    ap (λ (r : List ℕ). take a xs ++ (ys ++ r)) (drop_of_length-le (drop a xs) {i = length xs - a} (omega (arith, length-drop a xs))) ∙ ap (λ (r : List ℕ). take a xs ++ r) (append-nil ys)

-- One record more: the bytes from byte 32 i on begin with its line.
records_next : (rows before : List ℕ) (i : ℕ) {after part : List ℕ} (line : List ℕ) → 32 * i + 32 ≤ length before → line ≡ lent (row_line (unpacked (row_at rows i)))
    → RecordsIn rows before after i → part ≡ all_bytes 4 (take 8 line) ++ drop 32 (drop (32 * i) after) → RecordsIn rows before (take (32 * i) after ++ part) (i + 1)
records_next rows before i {after} {part} line room is f wrote =
    record { size = ap length same ∙ length-append now (drop (length now) before) ∙ omega (arith, length-drop (length now) before, long); same = same }
  where
    old : List ℕ
    old = all_bytes 4 (copied rows i)

    now : List ℕ
    now = all_bytes 4 (copied rows (i + 1))

    long : length now ≡ 32 * i + 32
    long = omega (arith, size_in rows (i + 1))

    next : now ≡ old ++ all_bytes 4 (take 8 line)
    next =
        ap (λ (k : ℕ). all_bytes 4 (copied rows k)) (add-one i) ∙ ap (all_bytes 4) (copied_more rows i) ∙ all_bytes-append 4 (copied rows i) (lent (row_line (unpacked (row_at rows i))))
        ∙ ap (λ (l : List ℕ). old ++ all_bytes 4 l) (sym is ∙ sym (take_all 8 line (omega (arith, ap length is, length-lent (row_line (unpacked (row_at rows i)))))))

    first : take (32 * i) after ≡ old
    first = ap (take (32 * i)) f.same ∙ take_at old (drop (length old) before) (32 * i) (size_in rows i)

    rest : drop 32 (drop (32 * i) after) ≡ drop (length now) before
    rest =
        ap (drop 32) (ap (drop (32 * i)) f.same ∙ drop_at old (drop (length old) before) (32 * i) (size_in rows i))
        ∙ drop-drop 32 (length old) before ∙ ap (λ (k : ℕ). drop k before) (let e : length old + 32 ≡ length now = omega (arith, size_in rows i, long) in e)

    same : take (32 * i) after ++ part ≡ now ++ drop (length now) before
    same =
        ap₂ (λ (x y : List ℕ). x ++ y) first (wrote ∙ ap (λ (l : List ℕ). all_bytes 4 (take 8 line) ++ l) rest)
        ∙ sym (append_assoc old (all_bytes 4 (take 8 line)) (drop (length now) before))
        ∙ ap (λ (l : List ℕ). l ++ drop (length now) before) (sym next)

pub records_more : (rows before : List ℕ) (i : ℕ) {after part : List ℕ} (line : List ℕ) → 32 * i + 32 ≤ length before → line ≡ lent (row_line (unpacked (row_at rows i)))
    → RecordsIn rows before after i → part ≡ all_bytes 4 (take 8 line) ++ drop 32 (mid_of (32 * i) (length after - 32 * i) after)
    → RecordsIn rows before (put_mid (32 * i) (length after - 32 * i) after part) (i + 1)
records_more rows before i {after} {part} line room is f wrote =
    rw (put_last (32 * i) after part)
    (records_next rows before i line room is f
    (wrote ∙ ap (λ (l : List ℕ). all_bytes 4 (take 8 line) ++ drop 32 l) (take_all (length after - 32 * i) (drop (32 * i) after) (omega (arith, length-drop (32 * i) after)))))

-- ---- carrying out into lent bytes

pub lent_records : (before : List ℕ) → length (numbers_of 4 before) ≡ length before / 4
lent_records before = length-numbers_from 4 (length before / 4) before

-- A refusal leaves the lent bytes as they were.
pub carries_none : (numbers before : List ℕ) → Bytes before → (n k : ℕ) (r : CarryReply) → Refuses numbers (numbers_of 4 before) n k → CarryReplies (refuses n k) r
    → CarriesNumbers numbers before r before
carries_none numbers before b n k r why says =
    record {
      answer = refuses n k;
      now = numbers_of 4 before;
      meets = (why, refl);
      replies = says;
      bytes = sym (new_front 4 (length before / 4) [] before (omega arith) (omega arith) b);
      kept = λ bad. refl;
    }

pub carries_short : (lines before : List ℕ) (r : CarryReply) → Bytes before → length before / 4 < 32768 → CarryReplies (refuses 12 0) r → CarriesBytes lines before r before
carries_short lines before r b h says = carries_none (numbers_of 4 lines) before b 12 0 r (short (omega (arith, lent_records before))) says

-- The run has ended, and its records are put into the lent bytes.
pub carries_ended : {numbers before : List ℕ} → Bytes before → (s : Settled numbers (numbers_of 4 before)) {own rows after : List ℕ} {records firings : ℕ} (r : CarryReply)
    → Ended numbers own rows records firings → CarryReplies (carried records firings) r
    → after ≡ all_bytes 4 (lent_of (map row_line (rows_at rows records))) ++ drop (32 * records) before → CarriesNumbers numbers before r after
carries_ended {numbers} {before} b s {own} {rows} {after} {records} {firings} r e says is =
    let new : List ℕ = copied rows records in
    let size : length new ≡ 8 * records = copied_length rows records in
    let room : 32768 ≤ length before / 4 = omega (arith, s.taken.room, lent_records before) in
    let bytes : 32 * records ≡ 4 * length new = omega (arith, size) in
    record {
      answer = carried records firings;
      now = new ++ drop (length new) (numbers_of 4 before);
      meets = carry_ended s e (ap (λ (k : ℕ). new ++ drop k (numbers_of 4 before)) size);
      replies = says;
      bytes =
          is ∙ ap (λ (k : ℕ). all_bytes 4 new ++ drop k before) bytes
          ∙ sym (new_front 4 (length before / 4) new before (omega (arith, size, room, e.held.few)) (omega arith) b);
      kept = λ bad. absurd (bad says.0);
    }

-- ---- other lines

-- What is right for some numbers is right for all that hold the same sheet.
module _ (ms ns before : List ℕ) (e : sheet_held ns ≡ sheet_held ms) where
  taken_same : (ls : List Line) → Taken ms before ls → Taken ns before ls
  taken_same ls t = record { room = t.room; sheet = e ∙ t.sheet; shapes = t.shapes; counted = t.counted; within = t.within }

  refuses_same : (n k : ℕ) → Refuses ms before n k → Refuses ns before n k
  refuses_same n k (short few) = short few
  refuses_same n k (wrong line room is) = wrong line room (e ∙ is)
  refuses_same n k (many_shapes ls room is more) = many_shapes ls room (e ∙ is) more
  refuses_same n k (endless ls t un) = endless ls (taken_same ls t) un
  refuses_same n k (many_records ls t d b more) = many_records ls (taken_same ls t) d b more
  refuses_same n k (large_number ls t c counted few f made large) = large_number ls (taken_same ls t) c counted few f made large

  carry_same : (a : Carried) (now : List ℕ) → CarryMeets ms before a now → CarryMeets ns before a now
  carry_same (carried records firings) now m =
      record {
        lines = m.lines;
        taken = taken_same m.lines m.taken;
        visits = m.visits;
        ends = m.ends;
        records_are = m.records_are;
        few = m.few;
        small = m.small;
        firings_are = m.firings_are;
        held = m.held;
      }
  carry_same (refuses n k) now m = (refuses_same n k m.0, m.1)

-- The rules of the first 2,369 lines are carried out as those of all are.
pub carries_truncated : (first lines before : List ℕ) (r : CarryReply) (after : List ℕ) → first ≡ take 18952 (numbers_of 4 lines) → CarriesNumbers first before r after
    → CarriesBytes lines before r after
carries_truncated first lines before r after e m =
    record {
      answer = m.answer;
      now = m.now;
      meets = carry_same first (numbers_of 4 lines) (numbers_of 4 before) (sheet_truncated (numbers_of 4 lines) ∙ ap sheet_held (sym e)) m.answer m.now m.meets;
      replies = m.replies;
      bytes = m.bytes;
      kept = m.kept;
    }
