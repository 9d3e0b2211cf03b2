-- Marks that are right and their largest. Assumes nothing.
use Rattle.std.proofs.Common.{◌≡◌, ℕ, Bool, true, false, cond, List, Some, None, refl}
use Rattle.std.proofs.lemmas.Bool.{false≢true}
use Rattle.sheet.specs.Sheet.{top_mark, marks_from}
use Rattle.sheet.specs.Inner.Promises.{marks_top}

-- Marks have a largest where they are right, and then only.
pub top-none : (m : ℕ) (ns : List ℕ) → marks_top m ns ≡ None → marks_from m ns ≡ false
top-none m ns e = go (marks_from m ns) refl e
  where
    go : (b : Bool) → marks_from m ns ≡ b → cond b (Some (top_mark m ns)) None ≡ None → marks_from m ns ≡ false
    go true h e = absurd (false≢true cc)
    go false h e = h

pub top-some : (m top : ℕ) (ns : List ℕ) → marks_top m ns ≡ Some top → (marks_from m ns ≡ true) × (top ≡ top_mark m ns)
top-some m top ns e = go (marks_from m ns) refl e
  where
    go : (b : Bool) → marks_from m ns ≡ b → cond b (Some (top_mark m ns)) None ≡ Some top → (marks_from m ns ≡ true) × (top ≡ top_mark m ns)
    go true h e = (h, cc)
    go false h e = absurd (false≢true cc)
