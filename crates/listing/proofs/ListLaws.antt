-- What stands at the front of the output is right to print. Assumes nothing.
use mathlib.Core.Path.{◌≡◌, refl, sym, subst, subst₂, ap, ◌∙◌}
use mathlib.Core.List.{List, [], ◌∷◌, ◌++◌, map}
use Prim.Native.Nat.{ℕ, ◌+◌, ◌*◌, ◌≤◌}
use native.Mathlib.Omega.{arith}
use lib.ListN.{length, get_or, drop, length-append}
use Rattle.columns.specs.Column.{put}
use Rattle.sheet.specs.Line.{Line, text_of}
use Rattle.sheet.specs.Sheet.{IsSheet}
use Rattle.sheet.proofs.PutLaws.{put_more}
use Rattle.sheet.proofs.Sheets.{sheet_held_is}
use Rattle.chase.specs.Lists.{In}
use Rattle.rules.specs.Table.{SheetHeld, good_lines, lines_in}
use Rattle.carrying.specs.Carrying.{Row}
use Rattle.carrying.specs.Contract.{carried, refuses, run, row_line, record_room, CarriedOut, Refuses, CarryMeets}
use Rattle.report.specs.Lines.{line_text}
use Rattle.report.specs.Report.{Filled}
use Rattle.report.specs.Inner.Promises.{SheetLent}
use Rattle.report.proofs.Bounds.{sheet_unrefused}
use Rattle.report.proofs.Filling.{length-line_text}
use Rattle.listing.specs.Listing.{letter_c, listing_text, Carries}
use Rattle.listing.specs.Inner.Records.{WidthsOf, records_to, AllPrintable, RecordsPut}
use Rattle.listing.proofs.WidthLaws.{line_small}
use Rattle.listing.proofs.RowLaws.{row_alike, row_range, firings_few}
use Rattle.listing.proofs.RecordLaws.{RowFits, all_records, all_printable}

-- ---- the C line and the records

pub totals_filled : (widths records : List ℕ) (count firings : ℕ) (before mid after : List ℕ) (end : ℕ) → count ≤ 4096 → 266260 ≤ length before
    → mid ≡ put before 0 (line_text letter_c (count ∷ firings ∷ [])) → RecordsPut widths records count mid after end
    → Filled (λ p. p ≡ line_text letter_c (count ∷ firings ∷ []) ++ text_of (records_to widths records count)) before end after
totals_filled widths records count firings before mid after end few room first r =
    let line = line_text letter_c (count ∷ firings ∷ []) in
    let text = text_of (records_to widths records count) in
    let size : length line ≡ 20 = length-line_text letter_c (count ∷ firings ∷ []) in
    let end_is : 20 ≡ 0 + length line = omega arith in
    record {
      printed = line ++ text;
      right = refl;
      count = omega (arith, length-append line text, r.ends, size);
      output =
          r.output
          ∙ ap (λ (t : List ℕ). put t 20 text) first
          ∙ ap (λ (k : ℕ). put (put before 0 line) k text) end_is
          ∙ put_more before 0 line text (omega (arith, r.ends, r.short, size, few, room));
    }

-- ---- the rules are carried out

module _ {numbers before : List ℕ} {records firings : ℕ} {now : List ℕ} (out : CarriedOut numbers before records firings now) where
  abbrev rows : List Row
  rows = (run out.lines out.visits).rows

  pub out_sheet : SheetHeld numbers
  out_sheet = record { lines = out.lines; holds = out.taken.sheet }

  is_sheet : IsSheet out.lines
  is_sheet = (sheet_held_is numbers out.lines out.taken.sheet).1

  rows_few : length rows ≤ 4096
  rows_few = omega (arith, out.few, out.records_are)

  pub out_firings : firings ≤ 99999999
  out_firings = omega (arith, out.firings_are, firings_few out.lines is_sheet out.visits out.ends rows_few)

  module _ (widths : List ℕ) (of : WidthsOf (lines_in numbers) widths) where
    fit : (w : Row) → In w rows → RowFits widths w
    fit w i =
        let a = row_alike out.lines out.visits w i in
        let same : lines_in numbers ≡ out.lines = ap good_lines out.taken.sheet in
        let (low, few) = line_small out.lines is_sheet a.line a.there in
        let width = of.each a.line (subst (In a.line) (sym same) a.there) a.other in
        let kind : w.kind ≤ 64 = omega (arith, low, a.kind_is) in
        record {
          kind = kind;
          width = subst₂ (λ (k n : ℕ). get_or widths k 0 ≡ n) a.kind_is a.size_is width;
          few = omega (arith, few, a.size_is);
          range = row_range out.lines out.visits out.small w i kind;
        }

    pub out_printable : AllPrintable widths now records
    out_printable =
        subst (AllPrintable widths now) (sym out.records_are)
        (all_printable widths of.size rows fit (drop (8 * records) before) now out.held rows_few)

    pub out_carries : length before ≡ record_room → (p : List ℕ) → p ≡ line_text letter_c (records ∷ firings ∷ []) ++ text_of (records_to widths now records)
        → Carries numbers p
    out_carries room p e =
        let same : records_to widths now records ≡ map row_line rows =
        ap (records_to widths now) out.records_are ∙ all_records widths of.size rows fit (drop (8 * records) before) now out.held in
        record {
          lent = before;
          lent_size = room;
          answer = carried records firings;
          now = now;
          meets = out;
          text = e ∙ ap (λ (ls : List Line). line_text letter_c (records ∷ firings ∷ []) ++ text_of ls) same;
        }

-- ---- refusals

-- A sheet's lines are refused with no line.
pub refusal_small : (numbers before : List ℕ) (n k : ℕ) → SheetLent numbers → Refuses numbers before n k → (n ≤ 23) × (k ≡ 0)
refusal_small numbers before n k sheet (Refuses.short h) = (omega arith, refl)
refusal_small numbers before n k sheet (Refuses.wrong line h e) = absurd (sheet_unrefused sheet e)
refusal_small numbers before n k sheet (Refuses.many_shapes lines h e m) = (omega arith, refl)
refusal_small numbers before n k sheet (Refuses.endless lines t u) = (omega arith, refl)
refusal_small numbers before n k sheet (Refuses.many_records lines t d b m) = (omega arith, refl)
refusal_small numbers before n k sheet (Refuses.large_number lines t m c f fresh made l) = (omega arith, refl)

pub refused_carries : (numbers before : List ℕ) (n k : ℕ) (now : List ℕ) → length before ≡ record_room → CarryMeets numbers before (refuses n k) now
    → (p : List ℕ) → p ≡ listing_text (refuses n k) [] → Carries numbers p
refused_carries numbers before n k now room m p e = record { lent = before; lent_size = room; answer = refuses n k; now = now; meets = m; text = e }
