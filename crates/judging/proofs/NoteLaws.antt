-- The notes of the search: how each event of it keeps them, and that following the notes on a shape is following all its links. Assumes nothing.
use mathlib.Core.Path.{◌≡◌, refl, sym, subst, ap, ◌∙◌}
use mathlib.Core.Bool.{Bool}
use mathlib.Core.List.{List, [], ◌∷◌}
use mathlib.Core.Logic.{by_cases}
use mathlib.Core.Option.{some}
use Prim.Native.Nat.{ℕ, suc, ◌+◌, ◌-◌, ◌*◌, ◌≤◌, ◌<◌}
use native.Mathlib.Decide.{ℕ_discrete, dec_lt}
use native.Mathlib.Omega.{arith}
use lib.ListN.{length, get_or, set, take, drop, length-set, length-drop}
use lib.Seq.{get_or-set_same, get_or-set_other, get_or-take, get_or-drop, length-take-le}
use Rattle.chase.specs.Rules.{Rule, nth}
use Rattle.chase.specs.Making.{Record}
use Rattle.chase.specs.Simplification.{Applies}
use Rattle.rules.specs.Table.{row_bytes, rule_in, TableFits}
use Rattle.judging.specs.Inner.Codes.{shape_at, code_of, shape_from, MadeOf}
use Rattle.judging.specs.Inner.Passes.{Done, HeadLink, MadeLink, ShapeLink, Onward}
use Rattle.judging.specs.Inner.Noted.{WrittenAt, NoteIs, Notes, ShapeNotes, Noted, rule_of, line_of, target_at, NoteFits, NoteLink, NotesLink}
use Rattle.judging.specs.declared.spread.Raised.{Raised}
use Rattle.judging.specs.Inner.Firing.{NextFire}
use Rattle.judging.proofs.FoundLaws.{old, room_of}
use Rattle.judging.proofs.SearchLaws.{Trying, fires_no, Heading, heading_below}
use Rattle.rules.proofs.RuleLaws.{heads_length, head_at, head_nth, row_fits}
use Rattle.judging.proofs.PassLaws.{alike}
use Rattle.judging.proofs.LinkLaws.{line_bytes, line_below}

-- ---- following the notes on a shape

-- A part of the notes holds them from a place on.
part_at : (notes : List (List ℕ)) (first end k : ℕ) → first ≤ end → k < end - first → get_or (take (end - first) (drop first notes)) k [] ≡ get_or notes (first + k) []
part_at notes first end k low l = get_or-take (end - first) (drop first notes) k [] l ∙ get_or-drop first notes k []

module _ {table : List ℕ} {rules : ℕ} (fits : TableFits table rules) {index : List ℕ} {notes : List (List ℕ)} {code first end : ℕ}
    (noted : ShapeNotes table rules index notes code first end) where
  row : (r : ℕ) → r < rules → length (row_bytes table r) ≡ 64
  row r low = (row_fits table rules r fits low).size

  module _ {k i j : ℕ} (is : NoteIs table rules index notes code k i j) where
    four : j < 4
    four = line_below (row_bytes table i) (row i is.rule) (fits.each i is.rule) j is.line

    rule_is : rule_of (get_or notes k []) ≡ i
    rule_is = let a = is.link in let b = four in omega arith

    line_is : line_of (get_or notes k []) ≡ j
    line_is = let a = is.link in let b = four in omega arith

    the_head : nth (rule_in (row_bytes table i)).heads (suc j) ≡ some (head_at (row_bytes table i) (32 + 8 * j))
    the_head = head_nth (row_bytes table i) (row i is.rule) (fits.each i is.rule) j is.line

    -- A note can be followed.
    pub note_fits : {n : ℕ} → Onward table rules index n code → NoteFits table n (get_or notes k [])
    note_fits onward =
        let few = fits.few in
        let low = is.rule in
        let o = onward.each i j (head_at (row_bytes table i) (32 + 8 * j)) is.rule is.applies the_head in
        let p = is.place (head_at (row_bytes table i) (32 + 8 * j)) the_head in
        let t = o.1 in
        let l = o.2 in
        record {
          rule = rw rule_is (omega arith);
          line = rw (rule_is, line_is) (line_bytes (row_bytes table i) j (row i is.rule) (fits.each i is.rule) is.line);
          place = omega arith;
        }

    -- Its links are the shape's.
    note_leads : (s u v link : ℕ) → NoteLink table s (get_or notes k []) u v link
        → ShapeLink table rules index code s u v link
    note_leads s u v link e =
        record {
          number = i;
          below = is.rule;
          here =
              record {
                applies = is.applies;
                here =
                    record {
                      number = j;
                      below = is.line;
                      here =
                          record {
                            head = head_at (row_bytes table i) (32 + 8 * j);
                            line = the_head;
                            t = target_at notes k;
                            placed = is.place (head_at (row_bytes table i) (32 + 8 * j)) the_head;
                            here =
                                subst (λ (y : ℕ). HeadLink (row_bytes table i) i y s (target_at notes k) u v link) line_is
                                (subst (λ (x : ℕ). HeadLink (row_bytes table x) x (line_of (get_or notes k [])) s (target_at notes k) u v link) rule_is e);
                          };
                    };
              };
        }

    note_led : (s u v link : ℕ) → MadeLink (row_bytes table i) index code s i j u v link
        → NoteLink table s (get_or notes k []) u v link
    note_led s u v link m =
        let p = is.place m.head m.line in
        let q = m.placed in
        let t_is : m.t ≡ target_at notes k = omega arith in
        subst (λ (x : ℕ). HeadLink (row_bytes table x) x (line_of (get_or notes k [])) s (target_at notes k) u v link) (sym rule_is)
        (subst (λ (y : ℕ). HeadLink (row_bytes table i) i y s (target_at notes k) u v link) (sym line_is)
        (subst (λ (t : ℕ). HeadLink (row_bytes table i) i j s t u v link) t_is m.here))

  -- A part of all notes that is just the notes on the shape.
  module _ {part : List (List ℕ)} (is : part ≡ take (end - first) (drop first notes)) (within : end ≤ length notes) where
    part_size : length part ≡ end - first
    part_size = ap length is ∙ length-take-le (end - first) (drop first notes) (rw (length-drop first notes) (let b = noted.begun in omega arith))

    part_note : (k : ℕ) → k < length part → get_or part k [] ≡ get_or notes (first + k) []
    part_note k l = ap (λ (ns : List (List ℕ)). get_or ns k []) is ∙ part_at notes first end k noted.begun (omega (arith, part_size))

    -- Each note on the shape can be followed.
    pub notes_fit : {n : ℕ} → Onward table rules index n code → (k : ℕ) → k < length part → NoteFits table n (get_or part k [])
    notes_fit {n} onward k l =
        let b = noted.begun in
        rw (part_note k l) (note_fits (noted.sound (first + k) (omega arith) (omega (arith, part_size))).1.1 onward)

    -- Following them all is following the shape's links.
    pub notes-done :
        {n s : ℕ} {g₀ g f₀ f : List (List ℕ)} {w₀ w : List Bool} {r₀ r : Raised}
        → Done n (NotesLink table part s) g₀ f₀ w₀ r₀ g f w r → Done n (ShapeLink table rules index code s) g₀ f₀ w₀ r₀ g f w r
    notes-done {s = s} d =
        let b = noted.begun in
        alike
        (λ u v link e.
        note_leads (noted.sound (first + e.number) (omega arith) (let l = e.below in omega (arith, part_size))).1.1 s u v link
        (subst (λ (note : List ℕ). NoteLink table s note u v link) (part_note e.number e.below) e.here))
        (λ u v link e.
        let x = e.here.here in
        let there = noted.before e.number x.number e.below x.below e.here.applies in
        let low = there.1 in
        let top = there.2 in
        let q : first + (there.0 - first) ≡ there.0 = omega arith in
        let l : there.0 - first < length part = omega (arith, part_size) in
        record {
          number = there.0 - first;
          below = l;
          here =
              subst (λ (note : List ℕ). NoteLink table s note u v link) (ap (λ (k : ℕ). get_or notes k []) (sym q) ∙ sym (part_note (there.0 - first) l))
              (note_led there.3 s u v link x.here);
        })
        d

-- ---- noting in the search

-- The same notes, in other lists.
notes-along :
    {table : List ℕ} {rules : ℕ} {index : List ℕ} {notes : List (List ℕ)} {index' : List ℕ} {notes' : List (List ℕ)} {code code' first end r h : ℕ}
    → ((k i j : ℕ) → k < end → NoteIs table rules index notes code k i j → NoteIs table rules index' notes' code k i j) → code' ≡ code
    → Notes table rules index notes code first end r h → Notes table rules index' notes' code' first end r h
notes-along {r = r} f e x =
    rw e (record {
      begun = x.begun;
      sound = λ k a b. let y = x.sound k a b in (y.0, (y.1.0, f k y.0 y.1.0 b y.1.1));
      before = λ i j a b c. let y = x.before i j a b c in (y.0, y.1, y.2, f y.0 i j y.2 y.3);
      here = λ j a. let y = x.here j a in (y.0, y.1, y.2, f y.0 r j y.2 y.3);
    })

-- A shape that had no place gets one.
note-push :
    {table : List ℕ} {rules : ℕ} {index : List ℕ} {notes : List (List ℕ)} {code k i j : ℕ} (new place : ℕ) → get_or index new 0 ≡ 0
    → NoteIs table rules index notes code k i j → NoteIs table rules (set index new place) notes code k i j
note-push {table} {index = index} {code = code} {i = i} new place z x =
    record {
      rule = x.rule;
      line = x.line;
      applies = x.applies;
      link = x.link;
      place =
          λ d l.
          let y = x.place d l in
          get_or-set_other index new (code_of (shape_from (rule_in (row_bytes table i)) (shape_at code) d)) place 0
          (λ (e : code_of (shape_from (rule_in (row_bytes table i)) (shape_at code) d) ≡ new).
          let w = ap (λ (v : ℕ). get_or index v 0) e in
          omega arith)
          ∙ y;
    }

-- Another note is written.
note-written :
    {table : List ℕ} {rules : ℕ} {index : List ℕ} {notes : List (List ℕ)} {code k i j : ℕ} (m link target : ℕ) → k < m
    → NoteIs table rules index notes code k i j → NoteIs table rules index (set notes m (link ∷ target ∷ [])) code k i j
note-written {notes = notes} {k = k} m link target low x =
    let same = get_or-set_other notes m k (link ∷ target ∷ []) [] (λ e. omega arith) in
    record {
      rule = x.rule;
      line = x.line;
      applies = x.applies;
      link = ap (λ (note : List ℕ). get_or note 0 0) same ∙ x.link;
      place = λ d l. x.place d l ∙ ap (λ (note : List ℕ). suc (get_or note 1 0)) (sym same);
    }

-- A note of the next H line stands at the end.
notes-more :
    {table : List ℕ} {rules : ℕ} {index : List ℕ} {notes : List (List ℕ)} {code first end r h : ℕ} → Notes table rules index notes code first end r h
    → NoteIs table rules index notes code end r h → Notes table rules index notes code first (end + 1) r (h + 1)
notes-more {table} {rules} {index} {notes} {code} {first} {end} {r} {h} x y =
    let b = x.begun in
    record {
      begun = omega arith;
      sound =
          λ k a l.
          by_cases (ℕ_discrete k end)
          (λ (e : k ≡ end). (r, (h, subst (λ (v : ℕ). NoteIs table rules index notes code v r h) (sym e) y)))
          (λ (e : k ≡ end → ⊥). x.sound k a (omega arith));
      before = λ i j a l c. let z = x.before i j a l c in (z.0, z.1, (let q = z.2 in omega arith), z.3);
      here =
          λ j l.
          by_cases (ℕ_discrete j h)
          (λ (e : j ≡ h). (end, x.begun, omega arith, subst (λ (v : ℕ). NoteIs table rules index notes code end r v) (sym e) y))
          (λ (e : j ≡ h → ⊥). let z = x.here j (omega arith) in (z.0, z.1, (let q = z.2 in omega arith), z.3));
    }

-- No firing of a shape is noted yet.
notes_begun : {table : List ℕ} {rules : ℕ} {index : List ℕ} {notes : List (List ℕ)} {code first end : ℕ} → first ≡ end
    → Notes table rules index notes code first end 0 0
notes_begun e =
    record {
      begun = omega arith;
      sound = λ k a b. let y : ⊥ = omega arith in absurd y;
      before = λ i j a b c. let y : ⊥ = omega arith in absurd y;
      here = λ j a. let y : ⊥ = omega arith in absurd y;
    }

-- A firing is noted.
notes-note :
    {table : List ℕ} {rules : ℕ} {index : List ℕ} {notes : List (List ℕ)} {code first k r h : ℕ} (target : ℕ) → Notes table rules index notes code first k r h
    → NoteIs table rules index (set notes k ((8 * r + 2 * h) ∷ target ∷ [])) code k r h
    → Notes table rules index (set notes k ((8 * r + 2 * h) ∷ target ∷ [])) code first (k + 1) r (h + 1)
notes-note {k = k} {r = r} {h = h} target x new =
    notes-more (notes-along (λ m i j c y. note-written k (8 * r + 2 * h) target c y) refl x) new

-- The H lines of the rule are done.
notes-rule :
    {table : List ℕ} {rules : ℕ} {index : List ℕ} {notes : List (List ℕ)} {code first end r h : ℕ} → Notes table rules index notes code first end r h
    → get_or (row_bytes table r) 28 0 ≤ h → Notes table rules index notes code first end (r + 1) 0
notes-rule {table} {rules} {index} {notes} {code} {first} {end} {r} {h} x all =
    record {
      begun = x.begun;
      sound = x.sound;
      before =
          λ i j a b c.
          by_cases (ℕ_discrete i r)
          (λ (e : i ≡ r).
          let q : get_or (row_bytes table i) 28 0 ≡ get_or (row_bytes table r) 28 0 = ap (λ (v : ℕ). get_or (row_bytes table v) 28 0) e in
          subst (λ (v : ℕ). (m : ℕ) × (first ≤ m) × (m < end) × NoteIs table rules index notes code m v j) (sym e) (x.here j (omega arith)))
          (λ (e : i ≡ r → ⊥). x.before i j (omega arith) b c);
      here = λ j a. let z : ⊥ = omega arith in absurd z;
    }

-- The rules from rule r to rule q do not fire.
notes-skip :
    {table digits : List ℕ} {rules shape kind : ℕ} {index : List ℕ} {notes : List (List ℕ)} {code first end r q : ℕ} → Notes table rules index notes code first end r 0
    → Trying shape kind digits → shape ≡ code → NextFire table rules r kind digits q → Notes table rules index notes code first end q 0
notes-skip {table} {r = r} x on here f =
    record {
      begun = x.begun;
      sound = x.sound;
      before =
          λ i j a b c.
          by_cases (dec_lt i r)
          (λ (low : i < r). x.before i j low b c)
          (λ (z : i < r → ⊥).
          absurd
          (fires_no on (rule_in (row_bytes table i)) (f.still i (omega (arith, z)) a)
          (subst (λ (v : ℕ). Applies (rule_in (row_bytes table i)) (shape_at v)) (sym here) c)));
      here = λ j a. let z : ⊥ = omega arith in absurd z;
    }

-- Where the search stands with its notes, k in all, for which there is so much room: the shapes before shape s are done; on it, H line h of rule r is next.
pub record Noting (room : ℕ) (table : List ℕ) (rules : ℕ) (codes index : List ℕ) (notes : List (List ℕ)) (starts : List ℕ) (s k r h : ℕ) : Type 0 where
  pub size_notes : length notes ≡ room
  pub size_starts : length starts ≡ 513
  pub few : k ≤ 1024 * s + 4 * r + h
  pub below : (i : ℕ) → i ≤ s → get_or starts i 0 ≤ k
  pub each : (i : ℕ) → i < s → get_or starts (i + 1) 0 ≤ room → ShapeNotes table rules index notes (get_or codes i 0) (get_or starts i 0) (get_or starts (i + 1) 0)
  pub now : k ≤ room → Notes table rules index notes (get_or codes s 0) (get_or starts s 0) k r h

-- Nothing is noted.
pub noting_begun : {room : ℕ} {table : List ℕ} {rules : ℕ} {codes index : List ℕ} {notes : List (List ℕ)} (starts : List ℕ) → length notes ≡ room → length starts ≡ 513
    → Noting room table rules codes index notes (set starts 0 0) 0 0 0 0
noting_begun starts a c =
    let z = get_or-set_same starts 0 0 0 (omega arith) in
    record {
      size_notes = a;
      size_starts = length-set starts 0 0 ∙ c;
      few = omega arith;
      below = λ i low. let e : i ≡ 0 = omega arith in subst (λ (v : ℕ). get_or (set starts 0 0) v 0 ≤ 0) (sym e) (omega arith);
      each = λ i low l. let y : ⊥ = omega arith in absurd y;
      now = λ l. notes_begun z;
    }

module _ {room : ℕ} {table : List ℕ} {rules : ℕ} {codes index : List ℕ} {notes : List (List ℕ)} {starts : List ℕ} {s k r h : ℕ}
    (x : Noting room table rules codes index notes starts s k r h) where
  -- A shape is put at the end of the shapes.
  pub noting_push : (n new place : ℕ) → n < length codes → s < n → get_or index new 0 ≡ 0
      → Noting room table rules (set codes n new) (set index new place) notes starts s k r h
  noting_push n new place fits low z =
      record {
        size_notes = x.size_notes;
        size_starts = x.size_starts;
        few = x.few;
        below = x.below;
        each =
            λ i a l. notes-along (λ m i' j b y. note-push new place z y) (get_or-set_other codes n i new 0 (λ e. omega arith)) (x.each i a l);
        now = λ l. notes-along (λ m i' j b y. note-push new place z y) (get_or-set_other codes n s new 0 (λ e. omega arith)) (x.now l);
      }

  -- A firing is noted.
  pub noting_note : {notes' : List (List ℕ)} {target : ℕ} → WrittenAt notes notes' k ((8 * r + 2 * h) ∷ target ∷ [])
      → (k < room → NoteIs table rules index (set notes k ((8 * r + 2 * h) ∷ target ∷ [])) (get_or codes s 0) k r h)
      → Noting room table rules codes index notes' starts s (k + 1) r (h + 1)
  noting_note {target = target} w new =
      let few = x.few in
      let sf = x.size_notes in
      record {
        size_notes = w.size ∙ sf;
        size_starts = x.size_starts;
        few = omega arith;
        below = λ i a. let b = x.below i a in omega arith;
        each =
            λ i a l.
            let b = x.below (i + 1) (omega arith) in
            by_cases (dec_lt k room)
            (λ (low : k < room).
            rw (w.written (omega arith))
            (notes-along (λ m i' j c y. note-written k (8 * r + 2 * h) target (omega arith) y) refl (x.each i a l)))
            (λ (z : k < room → ⊥). let up : room ≤ k = omega (arith, z) in rw (w.full (omega arith)) (x.each i a l));
        now = λ l. rw (w.written (omega arith)) (notes-note target (x.now (omega arith)) (new (omega arith)));
      }

  -- The H lines of the rule are done.
  pub noting_rule : get_or (row_bytes table r) 28 0 ≤ h → h ≤ 4 → Noting room table rules codes index notes starts s k (r + 1) 0
  noting_rule all four =
      let few = x.few in
      record {
        size_notes = x.size_notes;
        size_starts = x.size_starts;
        few = omega arith;
        below = x.below;
        each = x.each;
        now = λ l. notes-rule (x.now l) all;
      }

-- The note of what H line h of a rule that fires on the shape makes.
note-new :
    {room : ℕ} {table digits : List ℕ} {rules : ℕ} {index : List ℕ} (notes : List (List ℕ)) {shape kind here k r h code : ℕ} → Trying shape kind digits → shape ≡ here → r < rules
    → h < get_or (row_bytes table r) 28 0 → Applies (rule_in (row_bytes table r)) (shape_at shape) → MadeOf (rule_in (row_bytes table r)) h digits code
    → (get_or index code 0 ≡ 0 → ⊥) → length notes ≡ room → k < room
    → NoteIs table rules index (set notes k ((8 * r + 2 * h) ∷ (get_or index code 0 - 1) ∷ [])) here k r h
note-new {room} {table} {digits} {rules} {index} notes {shape} {kind} {here} {k} {r} {h} {code} on is-here low line applies is placed sf fits =
    let same = get_or-set_same notes k ((8 * r + 2 * h) ∷ (get_or index code 0 - 1) ∷ []) [] (omega arith) in
    subst (λ (v : ℕ). NoteIs table rules index (set notes k ((8 * r + 2 * h) ∷ (get_or index code 0 - 1) ∷ [])) v k r h) is-here
    (record {
      rule = low;
      line = line;
      applies = applies;
      link = ap (λ (note : List ℕ). get_or note 0 0) same;
      place =
          λ d l.
          let e = (is.each (shape_at shape) d on.shape_fits on.digits_are applies l).0 in
          let t = ap (λ (note : List ℕ). get_or note 1 0) same in
          let p : get_or index code 0 ≡ suc (target_at (set notes k ((8 * r + 2 * h) ∷ (get_or index code 0 - 1) ∷ [])) k) = omega (arith, placed) in
          ap (λ (v : ℕ). get_or index v 0) (sym e) ∙ p;
    })

-- What an H line makes has a place then.
module _ {rules : List Rule} {rows : List Record} {table digits : List ℕ} {m shape kind s r heads h : ℕ} {codes index : List ℕ} {ways : List (List ℕ)} {fired : List Bool} {n : ℕ}
    (x : Heading rules rows table digits m shape kind s r heads h codes index ways fired n) (code : ℕ) (is : MadeOf (rule_in (row_bytes table r)) h digits code) where
  pub new_there : {index' : List ℕ} → index' ≡ set index code (n + 1) → 1 ≤ get_or index' code 0
  new_there e =
      let size = x.doing.kept.sizes.1 in
      let small = is.small in
      let now = get_or-set_same index code (n + 1) 0 (omega arith) in rw e (omega arith)

  pub seen_there : {index' : List ℕ} → (get_or index code 0 ≡ 0 → ⊥) → index' ≡ index → 1 ≤ get_or index' code 0
  seen_there placed e = rw e (omega (arith, placed))

-- An H line of a rule that fires is tried and noted.
module _ {rules : List Rule} {rows : List Record} {table digits : List ℕ} {m shape kind s r heads h : ℕ} {codes index : List ℕ} {ways : List (List ℕ)} {fired : List Bool} {n : ℕ}
    (x : Heading rules rows table digits m shape kind s r heads h codes index ways fired n) {room : ℕ} {notes : List (List ℕ)} {starts : List ℕ} {k : ℕ}
    (y : Noting room table m codes index notes starts s k r h) (code : ℕ) (is : MadeOf (rule_in (row_bytes table r)) h digits code) (high : h < heads)
    {codes' index' : List ℕ} {notes' : List (List ℕ)} (w : WrittenAt notes notes' k ((8 * r + 2 * h) ∷ (get_or index' code 0 - 1) ∷ [])) where
  -- Its shape was there.
  pub noting_seen : (get_or index code 0 ≡ 0 → ⊥) → codes' ≡ codes → index' ≡ index → Noting room table m codes' index' notes' starts s (k + 1) r (h + 1)
  noting_seen placed ec ei =
      rw (ec, ei)
      (noting_note y (subst (λ (v : List ℕ). WrittenAt notes notes' k ((8 * r + 2 * h) ∷ (get_or v code 0 - 1) ∷ [])) ei w)
      (λ l. note-new notes x.on x.here x.r_low (heading_below x high) x.applies is placed y.size_notes l))

  -- It was put at the end.
  pub noting_new : (n ≡ 512 → ⊥) → get_or index code 0 ≡ 0 → codes' ≡ set codes n code → index' ≡ set index code (n + 1)
      → Noting room table m codes' index' notes' starts s (k + 1) r (h + 1)
  noting_new ne z ec ei =
      let fits = room_of x.doing.kept ne in
      let low = x.s_low in
      let size = x.doing.kept.sizes.1 in
      let small = is.small in
      let now = get_or-set_same index code (n + 1) 0 (omega arith) in
      rw (ec, ei)
      (noting_note (noting_push y n code (n + 1) fits low z) (subst (λ (v : List ℕ). WrittenAt notes notes' k ((8 * r + 2 * h) ∷ (get_or v code 0 - 1) ∷ [])) ei w)
      (λ l.
      note-new notes x.on (x.here ∙ sym (old codes n code fits s low)) x.r_low (heading_below x high) x.applies is (λ e. omega arith) y.size_notes l))

-- The rules from rule r to rule q do not fire.
pub noting-next :
    {room : ℕ} {table digits : List ℕ} {rules shape kind : ℕ} {codes index : List ℕ} {notes : List (List ℕ)} {starts : List ℕ} {s k r q : ℕ}
    → Noting room table rules codes index notes starts s k r 0 → Trying shape kind digits → shape ≡ get_or codes s 0 → NextFire table rules r kind digits q
    → Noting room table rules codes index notes starts s k q 0
noting-next x on here f =
    let few = x.few in
    let up = f.begun in
    record {
      size_notes = x.size_notes;
      size_starts = x.size_starts;
      few = omega arith;
      below = x.below;
      each = x.each;
      now = λ l. notes-skip (x.now l) on here f;
    }

-- All rules were tried on the shape.
pub noting-shape :
    {room : ℕ} {table : List ℕ} {rules : ℕ} {codes index : List ℕ} {notes : List (List ℕ)} {starts : List ℕ} {s k r : ℕ} → Noting room table rules codes index notes starts s k r 0
    → r ≤ rules → rules ≤ r → rules ≤ 256 → s < 512 → Noting room table rules codes index notes (set starts (s + 1) k) (s + 1) k 0 0
noting-shape {room} {table} {rules} {codes} {index} {notes} {starts} {s} {k} {r} x a b top low =
    let few = x.few in
    let z = get_or-set_same starts (s + 1) k 0 (let size = x.size_starts in omega arith) in
    record {
      size_notes = x.size_notes;
      size_starts = length-set starts (s + 1) k ∙ x.size_starts;
      few = omega arith;
      below =
          λ i c.
          by_cases (ℕ_discrete i (s + 1))
          (λ (e : i ≡ s + 1). subst (λ (v : ℕ). get_or (set starts (s + 1) k) v 0 ≤ k) (sym e) (omega arith))
          (λ (e : i ≡ s + 1 → ⊥). let o = get_or-set_other starts (s + 1) i k 0 e in let y = x.below i (omega arith) in omega arith);
      each =
          λ i c.
          by_cases (ℕ_discrete i s)
          (λ (e : i ≡ s).
          subst
          (λ (v : ℕ). get_or (set starts (s + 1) k) (v + 1) 0 ≤ room
          → ShapeNotes table rules index notes (get_or codes v 0) (get_or (set starts (s + 1) k) v 0) (get_or (set starts (s + 1) k) (v + 1) 0))
          (sym e)
          (rw (z, get_or-set_other starts (s + 1) s k 0 (λ e. omega arith))
          (λ l.
          let q : r ≡ rules = omega arith in
          subst (λ (v : ℕ). Notes table rules index notes (get_or codes s 0) (get_or starts s 0) k v 0) q (x.now l))))
          (λ (e : i ≡ s → ⊥).
          rw (get_or-set_other starts (s + 1) i k 0 (λ d. omega arith), get_or-set_other starts (s + 1) (i + 1) k 0 (λ d. omega arith)) (x.each i (omega arith)));
      now = λ l. notes_begun z;
    }

-- The shapes are done.
pub noting-all :
    {room : ℕ} {table : List ℕ} {rules : ℕ} {codes index : List ℕ} {notes : List (List ℕ)} {starts : List ℕ} {s k r h n : ℕ} → Noting room table rules codes index notes starts s k r h → n ≤ s → room ≤ 8192
    → Noted table rules codes index notes starts n
noting-all x all few =
    let sf = x.size_notes in
    record { few = omega arith; size_starts = x.size_starts; each = λ i low l. x.each i (omega arith) (omega arith) }

-- The room is known by another number.
pub noting-room :
    {room room' : ℕ} {table : List ℕ} {rules : ℕ} {codes index : List ℕ} {notes : List (List ℕ)} {starts : List ℕ} {s k r h : ℕ} → room ≡ room'
    → Noting room table rules codes index notes starts s k r h → Noting room' table rules codes index notes starts s k r h
noting-room {table = table} {rules = rules} {codes = codes} {index = index} {notes = notes} {starts = starts} {s = s} {k = k} {r = r} {h = h} e x =
    subst (λ (v : ℕ). Noting v table rules codes index notes starts s k r h) e x

-- ---- noting the firings on one shape

pub heads_few : {table : List ℕ} {rules r : ℕ} → TableFits table rules → r < rules → get_or (row_bytes table r) 28 0 ≤ 4
heads_few {table} {r = r} fits low =
    let len = heads_length (row_bytes table r) in
    let few = (fits.each r low).rule.few in omega arith

-- Where the noting stands, k notes in all: H line h of rule r is next.
pub record Filling (table : List ℕ) (rules : ℕ) (index : List ℕ) (notes : List (List ℕ)) (shape k r h : ℕ) : Type 0 where
  pub size_notes : length notes ≡ 1024
  pub few : k ≤ 4 * r + h
  pub held : Notes table rules index notes shape 0 k r h

pub filling_begun : {table : List ℕ} {rules : ℕ} {index : List ℕ} {notes : List (List ℕ)} {shape : ℕ} → length notes ≡ 1024
    → Filling table rules index notes shape 0 0 0
filling_begun a = record { size_notes = a; few = omega arith; held = notes_begun refl }

pub filling-next :
    {table digits : List ℕ} {rules kind : ℕ} {index : List ℕ} {notes : List (List ℕ)} {shape k r q : ℕ} → Filling table rules index notes shape k r 0
    → Trying shape kind digits → NextFire table rules r kind digits q → Filling table rules index notes shape k q 0
filling-next x on f =
    let few = x.few in
    let up = f.begun in record { size_notes = x.size_notes; few = omega arith; held = notes-skip x.held on refl f }

module _ {table : List ℕ} {rules : ℕ} {index : List ℕ} {notes : List (List ℕ)} {shape k r h : ℕ} (x : Filling table rules index notes shape k r h) where
  pub filling_rule : get_or (row_bytes table r) 28 0 ≤ h → h ≤ 4 → Filling table rules index notes shape k (r + 1) 0
  filling_rule all four =
      let few = x.few in
      record { size_notes = x.size_notes; few = omega arith; held = notes-rule x.held all }

  pub filling_all : r ≤ rules → rules ≤ r → h ≡ 0 → ShapeNotes table rules index notes shape 0 k
  filling_all a b z =
      let q : r ≡ rules = omega arith in
      subst (λ (v : ℕ). Notes table rules index notes shape 0 k v 0) q
      (subst (λ (v : ℕ). Notes table rules index notes shape 0 k r v) z x.held)

  -- What an H line of a rule that fires makes has a place, and is noted.
  module _ {kind code n : ℕ} {digits : List ℕ} (fits : TableFits table rules) (onward : Onward table rules index n shape) (on : Trying shape kind digits) (low : r < rules)
      (line : h < get_or (row_bytes table r) 28 0) (applies : Applies (rule_in (row_bytes table r)) (shape_at shape)) (is : MadeOf (rule_in (row_bytes table r)) h digits code) where
    pub filling_there : 1 ≤ get_or index code 0
    filling_there =
        let few = fits.few in
        let d = head_at (row_bytes table r) (32 + 8 * h) in
        let l = head_nth (row_bytes table r) (row_fits table rules r fits low).size (fits.each r low) h line in
        let o = (onward.each r h d low applies l).1 in
        let e = (is.each (shape_at shape) d on.shape_fits on.digits_are applies l).0 in
        let q = ap (λ (v : ℕ). get_or index v 0) e in omega arith

    pub filling_note : {notes' : List (List ℕ)} → WrittenAt notes notes' k ((8 * r + 2 * h) ∷ (get_or index code 0 - 1) ∷ [])
        → Filling table rules index notes' shape (k + 1) r (h + 1)
    filling_note w =
        let few = x.few in
        let top = fits.few in
        let four = heads_few fits low in
        let there = filling_there in
        let sf = x.size_notes in
        let room : k < 1024 = omega arith in
        record {
          size_notes = w.size ∙ sf;
          few = omega arith;
          held =
              rw (w.written (omega arith))
              (notes-note (get_or index code 0 - 1) x.held
              (note-new notes on refl low line applies is (λ e. omega arith) x.size_notes room));
        }

-- A place among the nodes is one among all.
pub onward_all : {table : List ℕ} {rules : ℕ} {index : List ℕ} {n code : ℕ} → Onward table rules index n code → n ≤ 3584 → Onward table rules index 3584 code
onward_all o top = record { each = λ r h d a b c. let x = o.each r h d a b c in (x.0, x.1, (let l = x.2 in omega arith)) }
