-- The firings that the search notes, and the links of the notes. Assumes nothing.
use Rattle.std.specs.Prelude.{◌≡◌, List, [], ℕ, suc, ◌+◌, ◌*◌, ◌/◌, ◌%◌, ◌≤◌, ◌<◌, length, get_or, set}
use Rattle.std.proofs.Math.Option.{some}
use Rattle.chase.specs.Rules.{Head, nth}
use Rattle.chase.specs.Simplification.{Applies}
use Rattle.rules.specs.Table.{row_bytes, rule_in}
use Rattle.judging.specs.Inner.Codes.{shape_at, code_of, shape_from}
use Rattle.judging.specs.Inner.Passes.{LineBytes, Upto, HeadLink}

-- A note: the rule and the H line of a firing, counted from 0, as 8 × rule + 2 × H line, and the place of the shape that it makes.
abbrev pub rule_of : List ℕ → ℕ
rule_of note = get_or note 0 0 / 8

abbrev pub line_of : List ℕ → ℕ
line_of note = get_or note 0 0 / 2 % 4

abbrev pub target_of : List ℕ → ℕ
target_of note = get_or note 1 0

-- The two numbers of note k.
abbrev pub firing_at : List (List ℕ) → ℕ → ℕ
firing_at notes k = get_or (get_or notes k []) 0 0

abbrev pub target_at : List (List ℕ) → ℕ → ℕ
target_at notes k = get_or (get_or notes k []) 1 0

-- A note is written at place k, where there is room; else nothing is.
pub record WrittenAt (notes notes' : List (List ℕ)) (k : ℕ) (note : List ℕ) : Type 0 where
  pub size : length notes' ≡ length notes
  pub written : k < length notes → notes' ≡ set notes k note
  pub full : length notes ≤ k → notes' ≡ notes

-- Note k is one of rule r and H line h on the shape of a code: the rule fires on it, and the H line makes the shape at the noted place.
pub record NoteIs (table : List ℕ) (rules : ℕ) (index : List ℕ) (notes : List (List ℕ)) (code k r h : ℕ) : Type 0 where
  pub rule : r < rules
  pub line : h < get_or (row_bytes table r) 28 0
  pub applies : Applies (rule_in (row_bytes table r)) (shape_at code)
  pub link : firing_at notes k ≡ 8 * r + 2 * h
  pub place : (d : Head) → nth (rule_in (row_bytes table r)).heads (suc h) ≡ some d
      → get_or index (code_of (shape_from (rule_in (row_bytes table r)) (shape_at code) d)) 0 ≡ suc (target_at notes k)

-- The notes from `first` on and before `end` are the firings on the shape of a code, for the rules before rule r and the H lines before H line h of rule r.
pub record Notes (table : List ℕ) (rules : ℕ) (index : List ℕ) (notes : List (List ℕ)) (code first end r h : ℕ) : Type 0 where
  pub begun : first ≤ end
  pub sound : (k : ℕ) → first ≤ k → k < end → (i : ℕ) × ((j : ℕ) × NoteIs table rules index notes code k i j)
  pub before : (i j : ℕ) → i < r → j < get_or (row_bytes table i) 28 0 → Applies (rule_in (row_bytes table i)) (shape_at code)
      → (k : ℕ) × (first ≤ k) × (k < end) × NoteIs table rules index notes code k i j
  pub here : (j : ℕ) → j < h → (k : ℕ) × (first ≤ k) × (k < end) × NoteIs table rules index notes code k r j

-- All notes on the shape of a code.
abbrev pub ShapeNotes : List ℕ → ℕ → List ℕ → List (List ℕ) → ℕ → ℕ → ℕ → Type 0
ShapeNotes table rules index notes code first end = Notes table rules index notes code first end rules 0

-- What the search notes: the notes of shape s begin at place s of `starts` and end where those of the next begin, if there was room for them.
pub record Noted (table : List ℕ) (rules : ℕ) (codes index : List ℕ) (notes : List (List ℕ)) (starts : List ℕ) (count : ℕ) : Type 0 where
  pub few : length notes ≤ 8192
  pub size_starts : length starts ≡ 513
  pub each : (s : ℕ) → s < count → get_or starts (s + 1) 0 ≤ length notes → ShapeNotes table rules index notes (get_or codes s 0) (get_or starts s 0) (get_or starts (s + 1) 0)

-- What following a note asks, where there are n nodes.
pub record NoteFits (table : List ℕ) (n : ℕ) (note : List ℕ) : Type 0 where
  pub rule : rule_of note < 256
  pub line : LineBytes (row_bytes table (rule_of note)) (line_of note)
  pub place : 7 * target_of note + 7 ≤ n

-- The links of a note, from shape s.
abbrev pub NoteLink : List ℕ → ℕ → List ℕ → ℕ → ℕ → ℕ → Type 0
NoteLink table s note = HeadLink (row_bytes table (rule_of note)) (rule_of note) (line_of note) s (target_of note)

-- The links of notes, from shape s.
abbrev pub NotesLink : List ℕ → List (List ℕ) → ℕ → ℕ → ℕ → ℕ → Type 0
NotesLink table notes s = Upto (length notes) (λ k. NoteLink table s (get_or notes k []))
