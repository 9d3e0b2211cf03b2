-- The derivation by a queue is finite where finitely many records are reachable, and infinite and fair where generations have no bound. Assumes nothing.
use mathlib.Core.Path.{◌≡◌, refl, sym, subst}
use mathlib.Core.Logic.{◌⊎◌, inl, inr}
use mathlib.Core.List.{List}
use mathlib.Core.Option.{some}
use Prim.Native.Nat.{ℕ, zero, suc, ◌<◌}
use native.Mathlib.Decide.{ℕ_discrete}
use native.Mathlib.Omega.{arith}
use lib.ListN.{length, get_elem?}
use Rattle.chase.specs.Lists.{In}
use Rattle.chase.specs.Rules.{Rule}
use Rattle.chase.specs.Making.{Record}
use Rattle.chase.specs.Run.{Firing, Reachable}
use Rattle.chase.specs.Homomorphism.{Substitution, image, body}
use Rattle.chase.specs.Chase.{Instance, Trigger, Active, Begins, FiniteDerivation, FairDerivation}
use Rattle.chase.specs.Judge.{Bounded, Unbounded}
use Rattle.chase.proofs.ListLaws.{nth_one, in_place_lem}
use Rattle.chase.proofs.CertificateLaws.{not_both}
use Rattle.chase.proofs.FiniteLaws.{finite_bounded}
use Rattle.chase.proofs.PublishedLaws.{reachable_finite}
use Rattle.chase.proofs.SequenceLaws.{listed, no_longer, of-finite}
use Rattle.chase.proofs.QueueLaws.{On, Done, done_result, Closed, Next, states, states_begin, states_law, closed_ends, closed_has}

module _ (rules : List Rule) (rows : List Record) where
  -- The derivation by a queue.
  abbrev pub by_queue : ℕ → Instance
  by_queue i = On (states rules rows i).records

  begins : Begins rules rows (by_queue 0)
  begins =
      record {
        has = λ y i. subst (In y) (sym (states_begin rules rows)) i;
        only = λ y i. subst (In y) (states_begin rules rows) i;
      }

  abbrev ClosedAt : ℕ → Type 0
  ClosedAt i = Closed rules rows (states rules rows i)

  abbrev GoesAt : ℕ → Type 1
  GoesAt i = Next rules rows (states rules rows i) (states rules rows (suc i))

  -- Of the first so many states one is closed, none before it being so, or each has a next one.
  record FirstClosed : Type 1 where
    at : ℕ
    closed : ClosedAt at
    goes : (i : ℕ) → i < at → GoesAt i

  first_closed : (n : ℕ) → FirstClosed ⊎ ((i : ℕ) → i < n → GoesAt i)
  first_closed zero = inr (λ i l. absurd (omega arith))
  first_closed (suc n) = go (first_closed n) (states_law rules rows n)
    where
      go : FirstClosed ⊎ ((i : ℕ) → i < n → GoesAt i) → ClosedAt n ⊎ GoesAt n → FirstClosed ⊎ ((i : ℕ) → i < suc n → GoesAt i)
      go (inl f) s = inl f
      go (inr g) (inl c) = inl (record { at = n; closed = c; goes = g })
      go (inr g) (inr a) = inr (λ i l. last i l (ℕ_discrete i n))
        where
          last : (i : ℕ) → i < suc n → Dec (i ≡ n) → GoesAt i
          last i l (yes e) = subst GoesAt (sym e) a
          last i l (no h) = g i (omega arith)

  -- A finite derivation, where finitely many records are reachable.
  pub finite_derivation : (list : List Record) → ((y : Record) → Reachable rules rows y → In y list)
      → (size : ℕ) × FiniteDerivation rules rows size by_queue
  finite_derivation list all = go (first_closed (suc (length list)))
    where
      go : FirstClosed ⊎ ((i : ℕ) → i < suc (length list) → GoesAt i) → (size : ℕ) × FiniteDerivation rules rows size by_queue
      go (inl f) = (
        f.at,
        record {
          begins = begins;
          applied = λ i l. (f.goes i l).applied;
          ended = closed_ends rules rows (states rules rows f.at) f.closed;
        },
      )
      go (inr g) =
          absurd
          (omega (
            arith,
            no_longer rules rows (suc (length list)) by_queue (record { begins = begins; applied = λ i l. (g i l).applied }) list all,
          ))

  -- Whatever a finite derivation has at its end is in a list, so that generations have a bound.
  pub finite_derivation_bounded : (size : ℕ) (I : ℕ → Instance) → FiniteDerivation rules rows size I → (d : ℕ) × Bounded rules rows d
  finite_derivation_bounded size I d =
      let (list, all) = listed rules rows size I (of-finite rules rows size I d) size (omega arith) in
      finite_bounded rules rows list (λ y w. all y (reachable_finite rules rows size I d w))

  -- Where generations have no bound there is always a next state.
  module _ (u : Unbounded rules rows) where
    goes : (i : ℕ) → GoesAt i
    goes i = go (states_law rules rows i)
      where
        go : ClosedAt i ⊎ GoesAt i → GoesAt i
        go (inr a) = a
        go (inl c) =
            let s = states rules rows i in
            let (d, b) = finite_bounded rules rows s.records (λ y w. closed_has rules rows s c w) in
            absurd (not_both rules rows d b u)

    -- A firing that waits is done at some later time.
    comes : (bound k i : ℕ) (f : Firing) → k < bound → get_elem? (states rules rows i).queue k ≡ some f
        → (j : ℕ) × (i < j) × Done rules f (states rules rows j).records
    comes zero k i f l e = absurd (omega arith)
    comes (suc bound) k i f l e = go ((goes i).moves f k e) (λ j m p. comes bound j (suc i) f m p)
      where
        go : Done rules f (states rules rows (suc i)).records ⊎ ((j : ℕ) × (j < k) × (get_elem? (states rules rows (suc i)).queue j ≡ some f))
            → ((j : ℕ) → j < bound → get_elem? (states rules rows (suc i)).queue j ≡ some f
            → (t : ℕ) × (suc i < t) × Done rules f (states rules rows t).records)
            → (j : ℕ) × (i < j) × Done rules f (states rules rows j).records
        go (inl d) ih = (suc i, omega arith, d)
        go (inr (j, m, p)) ih = let (t, m, d) = ih j (omega arith) p in (t, omega arith, d)

    fair : (i n : ℕ) (h : Substitution) (t : Trigger rules (by_queue i) n h) → Active rules (by_queue i) t
        → (j : ℕ) × (i < j) × ((u : Trigger rules (by_queue j) n h) → Active rules (by_queue j) u → ⊥)
    fair i n h t a = go ((states rules rows i).waits (on t.rule) t.rule t.homomorphism t.named)
      where
        on : Rule → Firing
        on r = record { rule = n; on = image h (body r) }

        go : In (on t.rule) (states rules rows i).queue ⊎ Done rules (on t.rule) (states rules rows i).records
            → (j : ℕ) × (i < j) × ((u : Trigger rules (by_queue j) n h) → Active rules (by_queue j) u → ⊥)
        go (inl q) =
            let (k, e) = in_place_lem (on t.rule) (states rules rows i).queue q in
            let (j, l, d) = comes (suc k) k i (on t.rule) (omega arith) e in (
              j,
              l,
              λ u b.
                  b
                  (done_result rules (by_queue j) (states rules rows j).records n h u
                  (subst (λ (r : Rule). Done rules (on r) (states rules rows j).records) (nth_one rules n n t.rule u.rule refl t.named u.named) d)),
            )
        go (inr d) = absurd (a (done_result rules (by_queue i) (states rules rows i).records n h t d))

    pub fair_derivation : FairDerivation rules rows by_queue
    fair_derivation = record { infinite = record { begins = begins; applied = λ i. (goes i).applied }; fair = fair }
