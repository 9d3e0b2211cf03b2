-- From the facts of a sheet to the certificates of its verdict: the closed list with its deepest generation, the line, and the loop. Assumes nothing.
use mathlib.Core.Path.{◌≡◌, sym, ◌∙◌, ap, subst}
use mathlib.Core.Logic.{◌⊎◌}
use mathlib.Core.Bool.{Bool}
use mathlib.Core.List.{List, [], ◌∷◌, ◌++◌}
use mathlib.Core.Option.{some}
use Prim.Native.Nat.{ℕ, zero, suc, ◌+◌, ◌-◌, ◌*◌, ◌/◌, ◌%◌, ◌≤◌, ◌<◌}
use native.Mathlib.Decide.{dec_lt, ℕ_discrete}
use native.Mathlib.Omega.{arith}
use lib.ListN.{length, get_or, length-append}
use Rattle.sheet.specs.Line.{Line as SheetLine}
use Rattle.chase.specs.Rules.{Rule, rules_of, nth}
use Rattle.chase.specs.Making.{Record}
use Rattle.chase.specs.Run.{rows_of}
use Rattle.chase.specs.Shape.{Shape, shape_of, Reached, Fired}
use Rattle.chase.specs.Counting.{Count}
use Rattle.chase.specs.Steps.{Step, Fresh, FreshAlone, Moves, last_fresh}
use Rattle.chase.specs.Certificate.{as_record, shape_after, EachShape, last_shape, deepest_of, ClosedList, WayOn, LoopOn, LineOn, fresh_steps}
use Rattle.chase.proofs.StepLaws.{last_shape-append, last_fresh-append, fresh_steps-append}
use Rattle.judging.specs.Inner.Codes.{shape_at, code_of}
use Rattle.judging.specs.Inner.Found.{shape_no, Via, via_row, via_rule, Kept, Whole, fired_in, maker_at}
use Rattle.judging.specs.Inner.Nodes.{at, back, weight, Stable, Turn, Line}
use Rattle.judging.specs.Inner.Links.{Link, Closed}
use Rattle.judging.specs.Inner.Written.{line_to, way_back, way_to, Falls, WayLength, StaysBelow, Deepest, InTurn, TurnLength, InLine, LineLength}
use Rattle.judging.specs.Inner.Facts.{Facts}
use Rattle.judging.proofs.FoundLaws.{same_place}
use Rattle.judging.proofs.Counts.{shapes_counted, fired-counted}
use Rattle.judging.proofs.Ways.{WayFrom, way_on}
use Rattle.judging.proofs.ListOf.{list_of, closed_list, number_listed, listed_number}
use Rattle.judging.proofs.LinkSteps.{link_fresh, link_ends}
use Rattle.judging.proofs.WalkLaws.{back_add}
use Rattle.judging.proofs.Walks.{step_at, walk, line_walk, walk_length, walk_follow, walk_last_fresh, walk_fresh, meets, node_below, start_node, start_below, step_to, walk_moves, loop_on, walk_short, rises_along, made_along}

-- The shapes that were found, with their index, as spreading needs them. `own`: a number is that of its shape.
pub kept_closed : (rules : List Rule) (rows : List Record) (codes index : List ℕ) (ways : List (List ℕ)) (count : ℕ)
    → ((c : ℕ) → c < 17792 → code_of (shape_at c) ≡ c) → Kept rules rows codes index ways count → Whole rules rows codes count
    → Closed rules codes index count
kept_closed rules rows codes index ways count own kept whole =
    record {
      size = kept.sizes.0;
      size_index = kept.sizes.1;
      few = kept.few;
      small = kept.small;
      fits = kept.fits;
      placed = kept.placed;
      marked = kept.marked;
      rules-in = λ k m r h code l named a i e z.
          let t = whole.rules-in k m r h l named a i in
          let c : code ≡ get_or codes t.place 0 = e ∙ ap code_of (sym t.there) ∙ own (get_or codes t.place 0) (kept.small t.place t.below) in
          omega (arith, z, kept.placed t.place t.below, ap (λ (d : ℕ). get_or index d 0) c);
    }

module _ (lines : List SheetLine) (codes index : List ℕ) (ways : List (List ℕ)) (fired : List Bool) (count : ℕ) (generations : List (List ℕ)) (from link : ℕ → ℕ) (turning : ℕ)
    (f : Facts lines codes index ways fired count generations from link turning) where
  abbrev rules : List Rule
  rules = rules_of lines

  abbrev rows : List Record
  rows = rows_of lines

  abbrev E : ℕ → ℕ → ℕ → Type 0
  E = Link rules codes count

  abbrev G : ℕ → ℕ
  G = at generations

  abbrev F : ℕ → ℕ
  F = from

  abbrev K : ℕ → ℕ
  K = link

  pub shapes_reached : Count (Reached rules rows) count
  shapes_reached = shapes_counted rules rows codes index ways count f.kept f.whole

  pub rules_fired : Count (Fired rules rows) (fired_in (length rules) fired)
  rules_fired = fired-counted rules rows codes index ways fired count f.kept f.whole f.fired_rules

  pub way-to : (k w : ℕ) → k < count → WayLength ways k w → WayFrom rules rows codes index ways count f.kept w k
  way-to k w l w-is = way_on rules rows codes index ways count f.kept k w l w-is

  -- Where nothing turns.
  module _ (settled : turning ≡ 0) where
    stable : Stable E G
    stable = (f.spreads.settled settled).0

    pub list_closed : ClosedList rules rows (list_of codes generations count)
    list_closed = closed_list rules rows codes index ways count generations f.fit f.kept f.whole stable

    raised_below : (x : ℕ) → 0 < G x → x < 7 * count
    raised_below x l = go (dec_lt x (7 * count))
      where
        go : Dec (x < 7 * count) → x < 7 * count
        go (yes p) = p
        go (no h) = absurd (omega (arith, f.spreads.outside x (omega arith)))

    -- The line to a raised node.
    line-to : (x : ℕ) → 0 < G x → (k : ℕ) × (k < 7 * count) × Line E G F K k x (G x)
    line-to x l = (f.spreads.settled settled).1 x (raised_below x l)

    -- The first link back to a raised node.
    raised_link : (x : ℕ) → 0 < G x → E (F x) x (K x)
    raised_link x l = go (line-to x l).0 (line-to x l).2
      where
        go : (k : ℕ) → Line E G F K k x (G x) → E (F x) x (K x)
        go zero s = absurd (omega (arith, s.starts))
        go (suc k) s = s.links 0 (omega arith)

    -- A raised node is a field of its shape.
    raised_listed : (x : ℕ) → 0 < G x → G x ≤ deepest_of (list_of codes generations count)
    raised_listed x l = number_listed rules codes count f.fit f.kept.fits generations (F x) x (K x) (raised_link x l)

    -- A deepest node is raised by a fresh link,
    deepest-made : (x : ℕ) → Deepest generations link (7 * count) x → 0 < G x → weight (K x) ≡ 1
    deepest-made x d l = d.made (omega (arith, link_ends rules codes count f.fit f.kept.fits (F x) x (K x) (raised_link x l)))

    -- and no node is of a later generation: its number is made at a node where a fresh link leads.
    deepest_most : (x : ℕ) → Deepest generations link (7 * count) x → (v : ℕ) → G v ≤ G x
    deepest_most x d v = go (dec_lt 0 (G v))
      where
        go : Dec (0 < G v) → G v ≤ G x
        go (yes l) =
            let s = line-to v l in
            let m = made_along rules codes count f.fit f.kept.fits F K G stable s.0 v s.2.links (omega (arith, s.2.renews)) in
            omega (arith, s.2.renews, m.3, d.largest m.0 m.1 m.2)
        go (no h) = omega arith

    pub deepest_is : (x : ℕ) → Deepest generations link (7 * count) x → deepest_of (list_of codes generations count) ≡ G x
    deepest_is x d =
        omega (arith, listed_number codes count f.kept.fits generations (G x) (λ v l. deepest_most x d v), least)
      where
        least : G x ≤ deepest_of (list_of codes generations count)
        least = go (dec_lt 0 (G x))
          where
            go : Dec (0 < G x) → G x ≤ deepest_of (list_of codes generations count)
            go (yes l) = raised_listed x l
            go (no h) = omega arith

    -- The line's length.
    module _ (x k : ℕ) (raised : 0 < G x) (size : LineLength generations from (7 * count) x k) where
      same_length : k ≡ (line-to x raised).0
      same_length = go (dec_lt k (line-to x raised).0) (dec_lt (line-to x raised).0 k)
        where
          go : Dec (k < (line-to x raised).0) → Dec ((line-to x raised).0 < k) → k ≡ (line-to x raised).0
          go (yes l) q = absurd (omega (arith, (line-to x raised).2.high k l, size.ends))
          go (no h) (yes l) = absurd (omega (arith, (line-to x raised).2.starts, size.high (line-to x raised).0 l))
          go (no h) (no q) = omega arith

      line_is : Line E G F K k x (G x)
      line_is = subst (λ (n : ℕ). Line E G F K n x (G x)) (sym same_length) (line-to x raised).2

      line_some : 0 < k
      line_some = go (ℕ_discrete k 0)
        where
          go : Dec (k ≡ 0) → 0 < k
          go (yes z) = absurd (omega (arith, size.ends, ap (λ (n : ℕ). G (back F n x)) z))
          go (no h) = omega arith

      -- Its nodes are different.
      line_apart : (i j : ℕ) → i < j → j < k → back F i x ≡ back F j x → ⊥
      line_apart i j l m e =
          let d : ℕ = k - j in
          let p : d + j ≡ k = omega arith in
          let q : d + i < k = omega arith in
          omega (arith, line_is.starts, line_is.high (d + i) q, ap G (meets F K i j d x e), ap (λ (n : ℕ). G (back F n x)) p)

      pub line_short : k ≤ 6 * count
      line_short = walk_short rules codes count f.fit f.kept.fits F K k x line_is.links line_apart

      pub line_begins : back F k x / 7 < count
      line_begins = start_below rules codes count f.fit f.kept.fits F K k x line_is.links line_some

      pub line_nodes : (j : ℕ) → j ≤ k → back F j x < 7 * count
      line_nodes j l = go (ℕ_discrete j k)
        where
          go : Dec (j ≡ k) → back F j x < 7 * count
          go (yes e) = rw e (start_node rules codes count f.fit f.kept.fits F K k x line_is.links line_some)
          go (no h) = node_below rules codes count f.fit f.kept.fits F K k x line_is.links j (omega arith)

    -- The line with the way to its first shape.
    pub record LineFound (x k w : ℕ) (start : ℕ) : Type 0 where
      pub row : Record
      pub named : nth rows (maker_at ways (way_back ways w (start / 7))) ≡ some row
      pub line : LineOn rules (shape_of row) (way_to ways w (start / 7) ++ line_to F K k x) (G x)
      pub size : length (way_to ways w (start / 7) ++ line_to F K k x) ≡ w + k
      pub short : w + k ≤ 3583

    line_trail : (x k w : ℕ) → weight (K x) ≡ 1 → Line E G F K (suc k) x (G x) → (way : WayFrom rules rows codes index ways count f.kept w (back F (suc k) x / 7))
        → LineOn rules (shape_of way.row) (way_to ways w (back F (suc k) x / 7) ++ line_to F K (suc k) x) (G x)
    line_trail x k w made s way =
        let ss = way_to ways w (back F (suc k) x / 7) in
        let st = step_at F K k x in
        let u = back F (suc k) x in
        let v = back F k x in
        let links = s.links in
        let one : K v % 2 ≡ 1 = omega (arith, rises_along rules codes count f.fit f.kept.fits F K G stable k x (λ j l. links j (omega arith)), s.renews, s.high k (omega arith)) in
        let to : last_shape rules (shape_of way.row) (ss ++ (st ∷ [])) ≡ shape_no codes (v / 7) =
        last_shape-append rules (shape_of way.row) ss (st ∷ []) ∙ ap (shape_after rules st) way.last
        ∙ step_to rules codes count f.fit f.kept.fits F K k x links in
        record {
          reaching = ss;
          first_fresh = st;
          others = walk F K k x;
          trail_is = ap (λ (l : List Step). ss ++ l) (line_walk F K (suc k) x);
          reaches = way.way.reaching;
          begins =
              subst (λ (t : Shape). Fresh rules st (as_record t) ⊎ FreshAlone rules st (as_record t)) (sym way.last)
              (link_fresh rules codes count f.fit f.kept.fits u v (K v) (links k (omega arith)) one);
          goes_on =
              subst (λ (t : Shape). EachShape rules (Moves rules) t (walk F K k x)) (sym to)
              (walk_moves rules codes count f.fit f.kept.fits F K k x (λ j l. links j (omega arith))
              (link_ends rules codes count f.fit f.kept.fits u v (K v) (links k (omega arith))));
          follow = walk_follow F K k x;
          makes =
              last_fresh-append 0 ss (line_to F K (suc k) x) ∙ ap (last_fresh (last_fresh 0 ss)) (line_walk F K (suc k) x)
              ∙ walk_last_fresh F K (last_fresh 0 ss) k x ∙ made;
          enough =
              omega (
                arith,
                fresh_steps-append rules ss (line_to F K (suc k) x),
                ap (fresh_steps rules) (line_walk F K (suc k) x),
                walk_fresh F K rules (suc k) x,
                s.renews,
              );
        }

    pub line_found : (x k w : ℕ) → 0 < G x → Deepest generations link (7 * count) x → LineLength generations from (7 * count) x k → WayLength ways (back F k x / 7) w
        → LineFound x k w (back F k x)
    line_found x zero w raised deep size way-is = absurd (omega (arith, line_some x 0 raised size))
    line_found x (suc k) w raised deep size way-is =
        let start : ℕ = back F (suc k) x / 7 in
        let begins : start < count = line_begins x (suc k) raised size in
        let way = way-to start w begins way-is in
        record {
          row = way.row;
          named = way.named;
          line = line_trail x k w (deepest-made x deep raised) (line_is x (suc k) raised size) way;
          size =
              length-append (way_to ways w start) (line_to F K (suc k) x)
              ∙ omega (arith, way.size, ap (λ (l : List Step). length l) (line_walk F K (suc k) x), walk_length F K (suc k) x);
          short = omega (arith, way.short, begins, line_short x (suc k) raised size, f.kept.few);
        }

    -- A line leads to each raised node.
    pub in_line : (x : ℕ) → 0 < G x → InLine generations from (7 * count) x
    in_line x raised =
        let s = line-to x raised in
        let size : LineLength generations from (7 * count) x s.0 = record { few = s.1; ends = s.2.starts; high = s.2.high } in
        record { steps = s.0; few = s.1; ends = s.2.starts; nodes = line_nodes x s.0 raised size }

    pub line_stays : (x k : ℕ) → 0 < G x → LineLength generations from (7 * count) x k → StaysBelow from k x
    line_stays x k raised size j l = omega (arith, line_nodes x k raised size j l, f.kept.few)

  -- Where something turns.
  module _ (y : ℕ) (turns : turning ≡ suc y) where
    pub turn_below : y < 7 * count
    turn_below = (f.spreads.endless y turns).0

    turn_long : ℕ
    turn_long = (f.spreads.endless y turns).1.0

    turn_few : turn_long ≤ 7 * count
    unfolding turn_long
    turn_few = (f.spreads.endless y turns).1.1

    turn_is : Turn E F K turn_long y
    unfolding turn_long
    turn_is = (f.spreads.endless y turns).1.2

    -- Its nodes are those of its first round.
    turn_nodes : (n j : ℕ) → j < n → back F j y < 7 * count
    turn_nodes zero j l = absurd (omega arith)
    turn_nodes (suc n) j l = go (dec_lt j turn_long) (λ i m. turn_nodes n i m)
      where
        go : Dec (j < turn_long) → ((i : ℕ) → i < n → back F i y < 7 * count) → back F j y < 7 * count
        go (yes p) ih = node_below rules codes count f.fit f.kept.fits F K turn_long y turn_is.links j p
        go (no h) ih =
            let i : ℕ = j - turn_long in
            let q : i + turn_long ≡ j = omega arith in
            let e : back F j y ≡ back F i y = ap (λ (n : ℕ). back F n y) (sym q) ∙ back_add F i turn_long y ∙ ap (back F i) turn_is.closes in
            rw e (ih i (omega (arith, turn_is.some)))

    pub in_turn : InTurn from (7 * count) y
    in_turn =
        record {
          period = turn_long;
          some = turn_is.some;
          few = turn_few;
          closes = turn_is.closes;
          nodes = λ k. turn_nodes (suc k) k (omega arith);
        }

    pub turn_stays : (k : ℕ) → StaysBelow from k y
    turn_stays k j l = omega (arith, turn_nodes (suc j) j (omega arith), f.kept.few)

    same_turn : (k : ℕ) → TurnLength from (7 * count) y k → turn_long ≡ k
    same_turn k size = go (dec_lt turn_long k) (dec_lt k turn_long)
      where
        go : Dec (turn_long < k) → Dec (k < turn_long) → turn_long ≡ k
        go (yes l) q = absurd (size.first turn_long turn_is.some l turn_is.closes)
        go (no h) (yes l) = absurd (turn_is.apart 0 k size.some l (sym size.closes))
        go (no h) (no q) = omega arith

    -- The loop with the way to its first shape.
    pub record LoopFound (k w : ℕ) : Type 0 where
      pub row : Record
      pub named : nth rows (maker_at ways (way_back ways w (y / 7))) ≡ some row
      pub way : WayOn rules (shape_of row) (way_to ways w (y / 7))
      pub loop : LoopOn rules (last_shape rules (shape_of row) (way_to ways w (y / 7))) (line_to F K k y)
      pub way_size : length (way_to ways w (y / 7)) ≡ w
      pub loop_size : length (line_to F K k y) ≡ k
      pub short : w + k ≤ 4096

    pub loop_found : (k w : ℕ) → TurnLength from (7 * count) y k → WayLength ways (y / 7) w → LoopFound k w
    loop_found k w size way-is =
        let here : y / 7 < count = omega (arith, turn_below) in
        let way = way-to (y / 7) w here way-is in
        let turn : Turn E F K k y = subst (λ (n : ℕ). Turn E F K n y) (same_turn k size) turn_is in
        record {
          row = way.row;
          named = way.named;
          way = way.way;
          loop =
              rw way.last
              (loop_on rules codes count f.fit f.kept.fits F K
              (same_place f.kept) k y turn);
          way_size = way.size;
          loop_size = ap (λ (l : List Step). length l) (line_walk F K k y) ∙ walk_length F K k y;
          short = omega (arith, way.short, here, size.few, f.kept.few);
        }

  -- Each shape that is not a row's was made of one that was found before it.
  pub falls : Falls ways count
  falls =
      record {
        size = f.kept.sizes.2;
        few = f.kept.few;
        before = λ k l. go k (get_or ways k []) (f.kept.via k l);
      }
    where
      go : (k : ℕ) (way : List ℕ) → Via rules rows codes k way → get_or way 0 0 ≤ k
      go k way (via_row x e named is) = omega arith
      go k way (via_rule s r h e l named line applies is) = omega arith
