-- Substitutions and what a trigger makes, as document 000 has them: section 2 and definition 3.1. (Mark, value and fresh number are variable, term and null there; an H line and the B line of a rule are atoms.) Assumes nothing.
use Rattle.std.specs.Prelude.{◌≡◌, map, ℕ}
use Rattle.std.proofs.Math.Decide.{ℕ_discrete}
use Rattle.patterns.specs.Pattern.{pick}
use Rattle.chase.specs.Lists.{In, in?, both?}
use Rattle.chase.specs.Rules.{Head, Rule, marks_of}
use Rattle.chase.specs.Value.{Value, fresh, values}
use Rattle.chase.specs.Making.{Record, carried_marks}

-- A substitution gives each mark a value. What it gives to a mark that an atom has not makes no difference to the atom.
abbrev pub Substitution : Type 0
Substitution = ℕ → Value

-- The image of an atom R(t₁, …, tₙ) is R(h(t₁), …, h(tₙ)).
abbrev pub image : Substitution → Head → Record
image h atom = record { kind = atom.kind; fields = map h atom.marks }

-- body(σ), which is one atom. (head(σ) is the list `heads`.)
abbrev pub body : Rule → Head
body r = record { kind = r.kind; marks = r.marks }

-- fr(σ): the marks that appear both in the body and in the head.
abbrev pub Frontier : Rule → ℕ → Type 0
Frontier r m = In m r.marks × In m (marks_of r.heads)

abbrev pub frontier? : (r : Rule) (m : ℕ) → Dec (Frontier r m)
frontier? r m = both? (in? ℕ_discrete m r.marks) (in? ℕ_discrete m (marks_of r.heads))

-- h|fr(σ) = g|fr(σ).
abbrev pub SameOnFrontier : Rule → Substitution → Substitution → Type 0
SameOnFrontier r h g = (m : ℕ) → Frontier r m → h m ≡ g m

-- The null of mark m for rule n and h|fr(σ). The theorem `null_fixed` says that just these three determine it.
abbrev pub null : ℕ → Rule → Substitution → ℕ → Value
null n r h m = fresh n m (values (map h (carried_marks r)))

-- μ: h on the frontier, nulls elsewhere.
abbrev pub μ : ℕ → Rule → Substitution → Substitution
μ n r h m = pick (frontier? r m) (h m) (null n r h m)
