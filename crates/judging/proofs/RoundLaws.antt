-- What raising the generations keeps from sweep to sweep, and what it ends with. Assumes nothing.
use mathlib.Core.Path.{◌≡◌, refl, sym, subst, ap}
use mathlib.Core.Bool.{Bool, true, false, false≢true}
use mathlib.Core.List.{List}
use mathlib.Core.Logic.{◌⊎◌, inl, inr, ⊎_elim, by_cases}
use Prim.Native.Nat.{ℕ, ◌+◌, ◌*◌, ◌/◌, ◌≤◌, ◌<◌}
use native.Mathlib.Omega.{arith}
use native.Mathlib.Decide.{ℕ_discrete}
use lib.ListN.{length}
use Rattle.std.specs.Prelude.{Option, None, Some, is_some}
use Rattle.rules.specs.Table.{table_rules, TableFits}
use Rattle.judging.specs.Inner.Nodes.{at, from_of, link_of, Zeros, back, weight, Stable, Turn}
use Rattle.judging.specs.Inner.Links.{Link, Closed, Spreads, turning_number}
use Rattle.judging.specs.Inner.Passes.{changes, overs, node_of, Live, Swept, Same, Rests, EachLink, Inside, Walked, sum_to}
use Rattle.judging.specs.declared.spread.Raised.{Raised}
use Rattle.judging.specs.declared.spread.Raised.TheVariants.{Nothing}
use Rattle.judging.specs.Inner.Fresh.{FirstWaiting}
use Rattle.judging.proofs.NodeLaws.{sum_low}
use Rattle.judging.proofs.PassLaws.{calm_goes, over_or_not}
use Rattle.judging.proofs.BackLaws.{begun}
use Rattle.judging.proofs.EndLaws.{Kept, climb, fresh_le, below, forever, back_again, turn, line}
use Rattle.judging.proofs.GraphLaws.{to_link, from_link, sane}
use Rattle.judging.proofs.FreshLaws.{first_rests}

-- A node of a loop, as a number.
pub no_turn : (t : Option ℕ) → is_some t ≡ false → turning_number t ≡ 0
no_turn None e = refl
no_turn (Some y) e = absurd (false≢true (sym e))

pub some_turn : (t : Option ℕ) → is_some t ≡ true → turning_number t ≡ 0 → ⊥
some_turn None e z = false≢true e
some_turn (Some y) e z = omega arith

-- Between two sweeps.
pub record Round (table : List ℕ) (rules : ℕ) (codes index : List ℕ) (count : ℕ) (g raises : List (List ℕ)) (waiting : List Bool) : Type 0 where
  pub live : Live (7 * count) g raises waiting Nothing
  pub rests : (u v code : ℕ) → EachLink table rules codes index count u v code → Rests g waiting u v code
  pub raised : (v : ℕ) → 0 < at g v → Link (table_rules table rules) codes count (from_of raises v) v (link_of raises v)

pub height : {n : ℕ} {g raises : List (List ℕ)} {waiting : List Bool} → Live n g raises waiting Nothing → sum_to n (at g) ≤ n * n
height {n = n} {g = g} l = sum_low n n (at g) (λ v. l.low v (λ o p. omega arith))

module _ {table : List ℕ} {rules : ℕ} (tf : TableFits table rules) {codes index : List ℕ} {count : ℕ}
    (closed : Closed (table_rules table rules) codes index count) where
  -- Nothing is raised yet, and the shapes wait that fresh links may lead from.
  pub nothing : {g raises : List (List ℕ)} {waiting : List Bool} → Zeros g → length raises ≡ 3584 → FirstWaiting table rules codes count waiting
      → Round table rules codes index count g raises waiting
  nothing {g} {raises} z size first =
      let few = closed.few in
      record {
        live =
            record {
              grid = z.grid;
              raise_size = size;
              size = first.size;
              small = omega arith;
              timed = begun (at g) (from_of raises) (link_of raises) z.zero_at;
              node = λ p. let y : ⊥ = omega arith in absurd y;
              low = λ v d. omega (arith, z.zero_at v);
              high = λ e. let y : ⊥ = omega arith in absurd y;
            };
        rests = first_rests tf first z index;
        raised = λ v l. let y : ⊥ = omega (arith, z.zero_at v) in absurd y;
      }

  module _ {g₀ raises₀ : List (List ℕ)} {waiting₀ : List Bool} (round : Round table rules codes index count g₀ raises₀ waiting₀)
      {g raises : List (List ℕ)} {waiting : List Bool} {last : Raised}
      (s : Swept (7 * count) (EachLink table rules codes index count) count g₀ raises₀ g raises waiting last) where
    kept : Kept (Link (table_rules table rules) codes count) (at g) (from_of raises) (link_of raises)
    kept = record { edge = λ v l. go v l (s.edges v); timed = s.live.timed }
      where
        go : (v : ℕ) → 0 < at g v → Same g₀ raises₀ g raises v ⊎ EachLink table rules codes index count (from_of raises v) v (link_of raises v)
            → Link (table_rules table rules) codes count (from_of raises v) v (link_of raises v)
        go v l (inl y) = rw (y.from_is, y.link_is) (round.raised v (let e = y.high in omega arith))
        go v l (inr e) = to_link tf closed (from_of raises v) v (link_of raises v) e

    outside : (x : ℕ) → 7 * count ≤ x → at g x ≡ 0
    outside x l =
        by_cases (ℕ_discrete (at g x) 0)
        (λ (e : at g x ≡ 0). e)
        (λ (d : at g x ≡ 0 → ⊥). absurd (omega (arith, (sane tf closed).to (from_of raises x) x (link_of raises x) (kept.edge x (omega arith)))))

    -- Nothing was raised: all is settled.
    stable : changes last ≡ 0 → Stable (Link (table_rules table rules) codes count) (at g)
    unfolding Stable
    stable z u v code l = go (s.rests (calm_goes last z) u v code (from_link tf closed u v code l))
      where
        go : Rests g waiting u v code → at g u + weight code ≤ at g v
        go (inl e) = absurd (s.clear z (u / 7) (let b = (sane tf closed).from u v code l in omega arith) e)
        go (inr h) = h

    pub settled : {turning : ℕ} → turning ≡ 0 → changes last ≡ 0 → Spreads (table_rules table rules) codes count g (from_of raises) (link_of raises) turning
    settled t z =
        record {
          grid = s.live.grid;
          settled = λ _. (stable z, λ x l. line kept (sane tf closed) (stable z) x l);
          endless = λ y e. let q : ⊥ = omega arith in absurd q;
          outside = outside;
        }

    module _ (up : changes last ≡ 0 → ⊥) {x : ℕ} (is : x ≡ node_of last) where
      last_low : x < 7 * count
      last_low = rw is (s.live.node (omega arith))

      pub inside : Inside (7 * count) g (from_of raises) x
      inside =
          record {
            grid = s.live.grid;
            node = last_low;
            small = s.live.small;
            below = λ k l. below kept (sane tf closed) k x last_low l;
          }

      module _ {turning : ℕ} (w : Walked (7 * count) g (from_of raises) x turning) where
        -- A node of generation 0 was met: the node raised last is not above n, so all links were followed.
        usual : turning ≡ 0 → overs last ≡ 0
        usual z =
            let f = w.short z in
            let c = climb kept f.0 x f.2 in
            let d = fresh_le kept (sane tf closed) f.0 x f.2 in
            let e = f.3 in
            let l = f.1 in
            ⊎_elim (λ q. q) (λ q. absurd (let h = s.live.high q in let i = ap (at g) is in omega arith)) (over_or_not last)

        pub again : turning ≡ 0 → Round table rules codes index count g raises waiting
        again z =
            let u = usual z in
            record {
              live =
                  record {
                    grid = s.live.grid;
                    raise_size = s.live.raise_size;
                    size = s.live.size;
                    small = s.live.small;
                    timed = s.live.timed;
                    node = λ p. let y : ⊥ = omega arith in absurd y;
                    low = λ v _. s.live.low v (λ o p. omega arith);
                    high = λ e. let y : ⊥ = omega arith in absurd y;
                  };
              rests = s.rests u;
              raised = kept.edge;
            }

        -- None was met: the walk goes round.
        pub endless : (turning ≡ 0 → ⊥) → Spreads (table_rules table rules) codes count g (from_of raises) (link_of raises) turning
        endless d =
            record {
              grid = s.live.grid;
              settled = λ z. absurd (d z);
              endless = λ y e.
                  let f = w.long (omega arith) in
                  let q : back (from_of raises) (7 * count) x ≡ y = omega (arith, f.0) in
                  let b = back_again kept (sane tf closed) x last_low f.1 in
                  subst (λ (y : ℕ). (y < 7 * count) × ((k : ℕ) × (k ≤ 7 * count) × Turn (Link (table_rules table rules) codes count) (from_of raises) (link_of raises) k y)) q (
                    below kept (sane tf closed) (7 * count) x last_low f.1,
                    turn kept (back (from_of raises) (7 * count) x) b.0 (7 * count) b.1 b.2
                        (λ k. forever kept (sane tf closed) x last_low f.1 (7 * count) k) b.3,
                  );
              outside = outside;
            }
