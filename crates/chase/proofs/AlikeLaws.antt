-- Two sheets with the same rules whose rows have the same shapes, one by one: every answer that is right for the one is right for the other, with its row, trail and loop. Assumes nothing.
use mathlib.Core.Path.{◌≡◌, refl, sym, ◌∙◌, ap, subst}
use mathlib.Core.Logic.{◌⊎◌, inl, inr}
use mathlib.Core.List.{List, [], ◌∷◌, ◌++◌, map, map-append}
use mathlib.Core.Option.{some}
use Prim.Native.Nat.{ℕ}
use lib.ListN.{length, take, drop}
use Rattle.patterns.specs.Outcome.{good}
use Rattle.sheet.specs.Line.{Line}
use Rattle.sheet.specs.Write.{sheet_held}
use Rattle.chase.specs.Lists.{In}
use Rattle.chase.specs.Rules.{Rule, rules_of, nth}
use Rattle.chase.specs.Value.{generation}
use Rattle.chase.specs.Making.{Record}
use Rattle.chase.specs.Run.{rows_of, start}
use Rattle.chase.specs.Shape.{Shape, shape_of, Reached, Fired}
use Rattle.chase.specs.Counting.{Count, MoreThan, share}
use Rattle.chase.specs.Steps.{Step, after, Each, last_of, fired_on, Goes, Reaching, Fresh, FreshAlone, Moves, last_to, Way, Loop, Line as LineOf}
use Rattle.chase.specs.Judge.{Verdict, Judgement, judged, refuses, SettlesAtOnce, Settles, Endless, Right, Refuses, short, wrong, many, JudgeMeets}
use Rattle.chase.specs.Certificate.{last_shape, WayOn, LoopOn}
use Rattle.chase.proofs.ListLaws.{maps_each}
use Rattle.chase.proofs.StepLaws.{nth_in, nth_rel, rel_some, goes_shape, after_made, head_in, fresh_shape, fresh_alone_shape, reaching_by_shape, moves_by_shape, each_same, shape_each, each_goes, last-shape, fired_shapes, same_places, steps_fit}
use Rattle.chase.proofs.LineLaws.{head_goes, line_goes}
use Rattle.chase.proofs.BoundLaws.{TableRows, rows_of_tables}
use Rattle.chase.proofs.CertificateLaws.{row-start, endless_certificate}
use Rattle.chase.proofs.JudgeLaws.{good_or_refused}
use Rattle.chase.proofs.TwinLaws.{Peers, Twin, made_twin, row_twin, SameShapes, reached_by_shapes, reached_count, fired-count, bounded_by_shapes}

-- Steps on twins.
module _ (rules : List Rule) where
  after_twin : (st : Step) (x y : Record) → Goes rules st x → Twin x y → Twin (after rules st x) (after rules st y)
  after_twin st x y g t =
      rw (after_made rules st x g, after_made rules st y (goes_shape rules st x y t.shape g))
      (made_twin st.rule g.rule x y g.head (head_in rules st x g) g.fires t)

  last_twin : (x y : Record) (steps : List Step) → Each rules (Goes rules) x steps → Twin x y → Twin (last_of rules x steps) (last_of rules y steps)
  last_twin x y [] g t = t
  last_twin x y (st ∷ ss) g t = last_twin (after rules st x) (after rules st y) ss g.1 (after_twin st x y g.0 t)

  -- A line makes a number of the same generation.
  line_twin : (x y : Record) (trail : List Step) (d : ℕ) → Twin x y → LineOf rules x trail d → LineOf rules y trail d
  line_twin x y trail d t l =
      let reached = last_twin x y l.reaching (each_goes rules (Reaching rules) (reaching_by_shape rules) x l.reaching l.reaches) t in
      let begun = last_twin x y (l.reaching ++ l.first_fresh ∷ []) (head_goes rules x l.reaching l.first_fresh l.reaches l.begins) t in
      let end = last_twin x y trail (line_goes rules x trail d l) t in
      let v = rel_some Peers (nth (last_of rules x trail).fields (last_to 0 trail)) (nth (last_of rules y trail).fields (last_to 0 trail)) l.value
      (nth_rel Peers (last_of rules x trail).fields (last_of rules y trail).fields (last_to 0 trail) end.generations) l.ends in
      record {
        reaching = l.reaching;
        first_fresh = l.first_fresh;
        others = l.others;
        trail_is = l.trail_is;
        reaches = each_same rules (Reaching rules) (reaching_by_shape rules) x y l.reaching t.shape l.reaches;
        begins =
            begins_same l.first_fresh (last_of rules x l.reaching) (last_of rules y l.reaching) reached.shape l.begins;
        goes_on =
            each_same rules (Moves rules) (moves_by_shape rules) (last_of rules x (l.reaching ++ l.first_fresh ∷ []))
            (last_of rules y (l.reaching ++ l.first_fresh ∷ [])) l.others begun.shape l.goes_on;
        follow = l.follow;
        makes = l.makes;
        value = v.0;
        ends = v.1;
        deep = sym v.2 ∙ l.deep;
      }
    where
      begins_same : (st : Step) (x y : Record) → shape_of x ≡ shape_of y → Fresh rules st x ⊎ FreshAlone rules st x → Fresh rules st y ⊎ FreshAlone rules st y
      begins_same st x y e (inl f) = inl (fresh_shape rules st x y e f)
      begins_same st x y e (inr f) = inr (fresh_alone_shape rules st x y e f)

  -- A way and a loop on a record are ones on its shape.
  way_on : (x : Record) (trail : List Step) → Way rules x trail → WayOn rules (shape_of x) trail
  way_on x trail w =
      let goes = each_goes rules (Reaching rules) (reaching_by_shape rules) x trail w.reaching in
      record {
        reaching = shape_each rules (Reaching rules) (reaching_by_shape rules) x (shape_of x) trail refl w.reaching;
        different =
            rw (map-append shape_of (fired_on rules x trail) (last_of rules x trail ∷ []), fired_shapes rules x (shape_of x) trail refl goes, last-shape rules x (shape_of x) trail refl goes) at w.different;
      }

  loop_on : (x : Record) (s : Shape) (loop : List Step) → shape_of x ≡ s → Loop rules x loop → LoopOn rules s loop
  loop_on x s loop e l =
      let goes = each_goes rules (Moves rules) (moves_by_shape rules) x loop l.moves in
      record {
        first = l.first;
        others = l.others;
        steps_are = l.steps_are;
        moves = shape_each rules (Moves rules) (moves_by_shape rules) x s loop e l.moves;
        follow = l.follow;
        one_fresh = l.one_fresh;
        among = l.among;
        fresh = l.fresh;
        shape_again = sym (last-shape rules x s loop e goes) ∙ l.shape_again ∙ e;
        field_again = l.field_again;
        different = rw (same_places rules x s loop e goes) at l.different;
      }

-- The rows of the one have the shapes of the rows of the other, one by one.
module _ (rules : List Rule) (rows others : List Record) (t : TableRows rows) (u : TableRows others) (shapes : map shape_of rows ≡ map shape_of others) where
  abbrev same : SameShapes rows others
  same = record { table = t; other = u; shapes = λ s. (subst (In s) shapes, subst (In s) (sym shapes)) }

  -- The row of that number.
  row_there : (k : ℕ) (x : Record) → nth rows k ≡ some x → (y : Record) × (nth others k ≡ some y) × Twin x y
  row_there k x e =
      let s = rel_some (λ (x y : Record). shape_of x ≡ shape_of y) (nth rows k) (nth others k) x
      (nth_rel (λ (x y : Record). shape_of x ≡ shape_of y) rows others k (maps_each shape_of shape_of rows others shapes)) e in
      (s.0, s.1, row_twin rows others t u x s.0 (nth_in rows k x e) (nth_in others k s.0 s.1) s.2)

  settles_there : (v : Verdict) (trail loop : List Step) → Settles rules rows v trail loop → Settles rules others v trail loop
  settles_there v trail loop a =
      let s = row_there v.row a.first a.row in
      let line = line_twin rules a.first s.0 trail v.deepest s.2 a.line in
      record {
        verdict = a.verdict;
        deepest = a.deepest;
        bounded = (bounded_by_shapes rules rows others same v.deepest).0 a.bounded;
        first = s.0;
        row = s.1;
        fits = steps_fit rules s.0 trail (start others) (line_goes rules s.0 trail v.deepest line) (row-start rules others v.row s.0 s.1);
        line = line;
        short = a.short;
        no_loop = a.no_loop;
      }

  endless_there : (v : Verdict) (trail loop : List Step) → Endless rules rows v trail loop → Endless rules others v trail loop
  endless_there v trail loop a =
      let s = row_there v.row a.first a.row in
      let w : WayOn rules (shape_of s.0) trail = subst (λ (z : Shape). WayOn rules z trail) s.2.shape (way_on rules a.first trail a.way) in
      let goes = each_goes rules (Reaching rules) (reaching_by_shape rules) a.first trail a.way.reaching in
      let l : LoopOn rules (last_shape rules (shape_of s.0) trail) loop =
      loop_on rules (last_of rules a.first trail) (last_shape rules (shape_of s.0) trail) loop
      (last-shape rules a.first (shape_of s.0) trail s.2.shape goes) a.turns in
      let c = endless_certificate rules others v.row s.0 trail loop s.1 w l in
      record {
        verdict = a.verdict;
        deepest = a.deepest;
        unbounded = c.unbounded;
        first = s.0;
        row = s.1;
        way = c.way;
        turns = c.turns;
        fits = c.fits;
        deep = c.deep;
      }

  answer_there : (v : Verdict) (trail loop : List Step)
      → SettlesAtOnce rules rows v trail loop ⊎ (Settles rules rows v trail loop ⊎ Endless rules rows v trail loop)
      → SettlesAtOnce rules others v trail loop ⊎ (Settles rules others v trail loop ⊎ Endless rules others v trail loop)
  answer_there v trail loop (inl a) =
      inl
      (record {
        verdict = a.verdict;
        deepest = a.deepest;
        bounded = (bounded_by_shapes rules rows others same 0).0 a.bounded;
        row = a.row;
        no_trail = a.no_trail;
        no_loop = a.no_loop;
      })
  answer_there v trail loop (inr (inl a)) = inr (inl (settles_there v trail loop a))
  answer_there v trail loop (inr (inr a)) = inr (inr (endless_there v trail loop a))

-- The contract of Judge.
module _ (limit : ℕ) (numbers others before : List ℕ) (ls ms : List Line) (p : sheet_held numbers ≡ good ls) (q : sheet_held others ≡ good ms)
    (rules : rules_of ls ≡ rules_of ms) (shapes : map shape_of (rows_of ls) ≡ map shape_of (rows_of ms)) where
  abbrev rl : List Rule
  rl = rules_of ls

  alike : SameShapes (rows_of ls) (rows_of ms)
  alike = same rl (rows_of ls) (rows_of ms) (rows_of_tables ls) (rows_of_tables ms) shapes

  -- What is said of these rules and the other rows is said of the other sheet.
  there : (P : List Rule → List Record → Type 0) → P rl (rows_of ms) → P (rules_of ms) (rows_of ms)
  there P h = subst (λ (k : List Rule). P k (rows_of ms)) rules h

  right_alike : (v : Verdict) (now : List ℕ) → Right limit numbers before v now → Right limit others before v now
  right_alike v now r =
      let e : r.lines ≡ ls = good_one r.sheet in
      let steps = r.steps in
      let shapes_count : Count (Reached rl (rows_of ls)) v.shapes = subst (λ (k : List Line). Count (Reached (rules_of k) (rows_of k)) v.shapes) e r.shapes in
      let fired_count' : Count (Fired rl (rows_of ls)) v.fired = subst (λ (k : List Line). Count (Fired (rules_of k) (rows_of k)) v.fired) e r.fired in
      record {
        lines = ms;
        sheet = q;
        shapes = there (λ k w. Count (Reached k w) v.shapes) (reached_count rl (rows_of ls) (rows_of ms) alike v.shapes shapes_count);
        within = r.within;
        fired = there (λ k w. Count (Fired k w) v.fired) (fired-count rl (rows_of ls) (rows_of ms) alike v.fired fired_count');
        share_is = r.share_is ∙ ap (λ (k : List Line). share v.fired (length (rules_of k))) e ∙ ap (λ (k : List Rule). share v.fired (length k)) rules;
        steps = steps;
        count = r.count;
        room = r.room;
        held = r.held;
        answer =
            there (λ k w. Answer k w v (take v.trail steps) (drop v.trail steps))
            (answer_there rl (rows_of ls) (rows_of ms) (rows_of_tables ls) (rows_of_tables ms) shapes v (take v.trail steps) (drop v.trail steps)
            (subst (λ (k : List Line). Answer (rules_of k) (rows_of k) v (take v.trail steps) (drop v.trail steps)) e r.answer));
      }
    where
      Answer : List Rule → List Record → Verdict → List Step → List Step → Type 0
      Answer k w v trail loop = SettlesAtOnce k w v trail loop ⊎ (Settles k w v trail loop ⊎ Endless k w v trail loop)

      good_one : {ks : List Line} → sheet_held numbers ≡ good ks → ks ≡ ls
      good_one g = cc

  refuses_alike : (number line : ℕ) → Refuses limit numbers before number line → Refuses limit others before number line
  refuses_alike number line (short h) = short h
  refuses_alike number line (wrong k h e) = absurd (good_or_refused limit numbers before ls 8 k p e)
  refuses_alike number line (many ks h e m) =
      let s : ks ≡ ls = cc in
      let n : MoreThan (Reached rl (rows_of ls)) limit = subst (λ (k : List Line). MoreThan (Reached (rules_of k) (rows_of k)) limit) s m in
      many ms h q
      (there (λ k w. MoreThan (Reached k w) limit)
      (record {
        list = n.list;
        different = n.different;
        sound = λ t i. (reached_by_shapes rl (rows_of ls) (rows_of ms) alike t).0 (n.sound t i);
        size = n.size;
      }))

  pub meets_alike : (j : Judgement) (now : List ℕ) → JudgeMeets limit numbers before j now → JudgeMeets limit others before j now
  meets_alike (judged v) now m = (m.0, right_alike v now m.1)
  meets_alike (refuses number line) now m = (refuses_alike number line m.0, m.1)
