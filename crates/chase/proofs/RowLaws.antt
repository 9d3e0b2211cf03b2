-- Laws of rows: what 0 means, which values of a row are equal, which rows are the same record, and the pattern of a row. Assumes nothing.
use mathlib.Core.Path.{◌≡◌, refl, sym, ◌∙◌, ap, subst}
use mathlib.Core.Bool.{false≢true}
use mathlib.Core.Logic.{◌⊎◌, inl, inr, ◌↔◌}
use mathlib.Core.List.{List, [], ◌∷◌, map}
use mathlib.Core.Option.{some, none-ne-some}
use Prim.Native.Nat.{ℕ, zero, suc}
use native.Mathlib.Omega.{arith}
use lib.ListN.{length, length-map}
use Rattle.patterns.specs.Lists.{Numbered, next, numbered}
use Rattle.patterns.specs.Pattern.{Label-discrete, label_at, numbers_pattern}
use Rattle.patterns.proofs.PatternLaws.{same_pattern}
use Rattle.patterns.proofs.NumberedLaws.{numbered_items, numbered-length, item_in}
use Rattle.patterns.proofs.LabelLaws.{label_equal, label_same}
use Rattle.sheet.specs.Line.{Line}
use Rattle.chase.specs.Lists.{In, All2}
use Rattle.chase.specs.Rules.{row_lines, nth}
use Rattle.chase.specs.Value.{Value, Value-discrete}
use Rattle.chase.specs.Making.{Record}
use Rattle.chase.specs.Run.{row_value, row_record, rows_of}
use Rattle.chase.specs.Shape.{shape_of}
use Rattle.chase.proofs.ListLaws.{map_in, all_of, map_same, maps_each}
use Rattle.chase.proofs.StepLaws.{nth-map}
use Rattle.chase.proofs.Goings.{in_numbered, in_nth}

-- Elements with their numbers.
module _ {A : Type 0} where
  pub nth-numbered : (l : List A) (n : ℕ) (x : A) → nth l n ≡ some x → nth (numbered l) n ≡ some (record { number = n; item = x })
  nth-numbered l zero x e = absurd (none-ne-some x e)
  nth-numbered [] (suc n) x e = absurd (none-ne-some x e)
  nth-numbered (y ∷ l) (suc zero) x e =
      let q : y ≡ x = cc in
      ap (λ (z : A). some (record { number = 1; item = z })) q
  nth-numbered (y ∷ l) (suc (suc n)) x e = nth-map next (numbered l) (suc n) (record { number = suc n; item = x }) (nth-numbered l (suc n) x e)

  in_items : (l : List A) (x : A) → In x l → (p : Numbered A) × In p (numbered l) × (p.item ≡ x)
  in_items l x i =
      let s = in_nth l x i in
      (record { number = s.0; item = x }, in_numbered l s.0 x s.1, refl)

-- A row is named by its number among the R lines.
pub row_named : (ls : List Line) (k : ℕ) (l : Line) → nth (row_lines ls) k ≡ some l → nth (rows_of ls) k ≡ some (row_record (record { number = k; item = l }))
row_named ls k l e = nth-map row_record (numbered (row_lines ls)) k (record { number = k; item = l }) (nth-numbered (row_lines ls) k l e)

-- There are as many rows as R lines, and each has as many fields as its line has numbers.
pub rows_count : (ls : List Line) → length (rows_of ls) ≡ length (row_lines ls)
rows_count ls = length-map (numbered (row_lines ls)) row_record ∙ numbered-length (row_lines ls)

pub row-length : (l : Numbered Line) → length (row_record l).fields ≡ length l.item.numbers
row-length l =
    length-map (numbered l.item.numbers) (λ (n : Numbered ℕ). row_value l.number n.number n.item) ∙ numbered-length l.item.numbers

pub row_line : (ls : List Line) (x : Record) → In x (rows_of ls) → (l : Numbered Line) × In l.item (row_lines ls) × (x ≡ row_record l)
row_line ls x i =
    let s = map_in row_record (numbered (row_lines ls)) x i in
    (s.0, item_in (row_lines ls) s.0 s.1, s.2)

-- Two values of rows are equal just if their numbers are equal and not 0, or they are missing at the same field of the same row.
pub value_equal : (k l i j m n : ℕ) → row_value k i m ≡ row_value l j n → ((m ≡ n) × (m ≡ 0 → ⊥)) ⊎ ((m ≡ 0) × (n ≡ 0) × (k ≡ l) × (i ≡ j))
value_equal k l i j zero zero e = inr (refl, refl, cc, cc)
value_equal k l i j zero (suc n) e = absurd (false≢true cc)
value_equal k l i j (suc m) zero e = absurd (false≢true cc)
value_equal k l i j (suc m) (suc n) e = inl (cc, λ z. omega arith)

pub value_same : (k l i j m n : ℕ) → m ≡ n → (m ≡ 0 → ⊥) → row_value k i m ≡ row_value l j n
value_same k l i j zero n e h = absurd (h refl)
value_same k l i j (suc m) zero e h = absurd (omega arith)
value_same k l i j (suc m) (suc n) e h = cc

module _ (l : Numbered Line) where
  abbrev field_of : Numbered ℕ → Value
  field_of n = row_value l.number n.number n.item

  pub row-value : (i m : ℕ) → nth l.item.numbers i ≡ some m → nth (row_record l).fields i ≡ some (row_value l.number i m)
  row-value i m e = nth-map field_of (numbered l.item.numbers) i (record { number = i; item = m }) (nth-numbered l.item.numbers i m e)

  -- A row's values are equal exactly where its numbers are equal and not 0.
  pub row-values_equal : (i j m n : ℕ) → nth l.item.numbers i ≡ some m → nth l.item.numbers j ≡ some n
      → (nth (row_record l).fields i ≡ nth (row_record l).fields j) ↔ ((i ≡ j) ⊎ ((m ≡ n) × (m ≡ 0 → ⊥)))
  row-values_equal i j m n p q = (to, from)
    where
      to : nth (row_record l).fields i ≡ nth (row_record l).fields j → (i ≡ j) ⊎ ((m ≡ n) × (m ≡ 0 → ⊥))
      to e =
          let v = row-value i m p in
          let w = row-value j n q in
          let g : row_value l.number i m ≡ row_value l.number j n = cc in
          elim (value_equal l.number l.number i j m n g) [ inl s ↦ inr s | inr s ↦ inl s.3 ]

      from : (i ≡ j) ⊎ ((m ≡ n) × (m ≡ 0 → ⊥)) → nth (row_record l).fields i ≡ nth (row_record l).fields j
      from (inl e) = ap (nth (row_record l).fields) e
      from (inr s) = row-value i m p ∙ ap some (value_same l.number l.number i j m n s.0 s.1) ∙ sym (row-value j n q)

  -- The pattern of a row is that of its numbers.
  pub row-pattern : (shape_of (row_record l)).pattern ≡ numbers_pattern l.item.numbers
  row-pattern =
      same_pattern Value-discrete Label-discrete field_of (λ n. label_at n.number n.item) (λ n. Unit {0})
      (λ a b p q. to a.number b.number a.item b.item) (λ a b p q. from a.number b.number a.item b.item)
      (numbered l.item.numbers) (all_of (λ n. Unit {0}) (numbered l.item.numbers) (λ n i. tt))
    where
      to : (i j m n : ℕ) → row_value l.number i m ≡ row_value l.number j n → label_at i m ≡ label_at j n
      to i j m n e =
          elim (value_equal l.number l.number i j m n e) [
            | inl s ↦ label_same i j m n s.0 s.1
            | inr s ↦ rw (s.0, s.1, s.3)
          ]

      from : (i j m n : ℕ) → label_at i m ≡ label_at j n → row_value l.number i m ≡ row_value l.number j n
      from i j m n e =
          elim (label_equal i j m n e) [
            | inl s ↦ value_same l.number l.number i j m n s.0 s.1
            | inr s ↦ rw (s.0, s.1, s.2)
          ]

-- Rows of different numbers that are the same record, place by place.
module _ (k l : ℕ) (h : k ≡ l → ⊥) where
  abbrev Same : Numbered ℕ → Numbered ℕ → Type 0
  Same p q = row_value k p.number p.item ≡ row_value l q.number q.item

  abbrev Both : Numbered ℕ → Numbered ℕ → Type 0
  Both p q = (p.item ≡ q.item) × (p.item ≡ 0 → ⊥)

  both : (ps qs : List (Numbered ℕ)) → All2 Same ps qs → All2 Both ps qs
  both [] [] e = tt
  both [] (q ∷ qs) e = absurd e
  both (p ∷ ps) [] e = absurd e
  both (p ∷ ps) (q ∷ qs) e = (
    elim (value_equal k l p.number q.number p.item q.item e.0) [ inl s ↦ s | inr s ↦ absurd (h s.2) ],
    both ps qs e.1,
  )

  items : (ps qs : List (Numbered ℕ)) → All2 Both ps qs → map (λ (p : Numbered ℕ). p.item) ps ≡ map (λ (p : Numbered ℕ). p.item) qs
  items [] [] e = refl
  items [] (q ∷ qs) e = absurd e
  items (p ∷ ps) [] e = absurd e
  items (p ∷ ps) (q ∷ qs) e = cc (e.0.0, items ps qs e.1)

  not_zero : (ps qs : List (Numbered ℕ)) → All2 Both ps qs → (p : Numbered ℕ) → In p ps → p.item ≡ 0 → ⊥
  not_zero [] qs e p i z = i
  not_zero (p ∷ ps) [] e r i z = e
  not_zero (p ∷ ps) (q ∷ qs) e r (inl s) z = e.0.1 (sym (ap (λ (t : Numbered ℕ). t.item) s) ∙ z)
  not_zero (p ∷ ps) (q ∷ qs) e r (inr i) z = not_zero ps qs e.1 r i z

-- Two rows are the same record exactly where they are equal and without 0.
pub rows_same : (k l : ℕ) (a b : Line) → (k ≡ l → ⊥)
    → (row_record (record { number = k; item = a }) ≡ row_record (record { number = l; item = b }))
    ↔ ((a.kind ≡ b.kind) × (a.numbers ≡ b.numbers) × (In 0 a.numbers → ⊥))
rows_same k l a b h = (to, from)
  where
    first : Numbered ℕ → Value
    first n = row_value k n.number n.item

    second : Numbered ℕ → Value
    second n = row_value l n.number n.item

    to : row_record (record { number = k; item = a }) ≡ row_record (record { number = l; item = b })
        → (a.kind ≡ b.kind) × (a.numbers ≡ b.numbers) × (In 0 a.numbers → ⊥)
    to e =
        let s = both k l h (numbered a.numbers) (numbered b.numbers)
        (maps_each first second (numbered a.numbers) (numbered b.numbers) (ap (λ (x : Record). x.fields) e)) in (
          ap (λ (x : Record). x.kind) e,
          sym (numbered_items a.numbers) ∙ items k l h (numbered a.numbers) (numbered b.numbers) s ∙ numbered_items b.numbers,
          λ i. let p = in_items a.numbers 0 i in not_zero k l h (numbered a.numbers) (numbered b.numbers) s p.0 p.1 p.2,
        )

    from : (a.kind ≡ b.kind) × (a.numbers ≡ b.numbers) × (In 0 a.numbers → ⊥)
        → row_record (record { number = k; item = a }) ≡ row_record (record { number = l; item = b })
    from (p, q, z) =
        let fields : map first (numbered a.numbers) ≡ map second (numbered b.numbers) =
        map_same first second (numbered a.numbers)
        (λ n i. value_same k l n.number n.number n.item n.item refl (λ y. z (subst (λ (m : ℕ). In m a.numbers) y (item_in a.numbers n i))))
        ∙ ap (λ (ns : List ℕ). map second (numbered ns)) q in
        λ i. record { kind = p i; fields = fields i }
