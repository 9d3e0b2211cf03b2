-- `answer::fired_count` meets its contract: the rules that fired are counted. Assumes nothing.
use Rattle.std.proofs.Common.{rules, ◌≡◌, ℕ, zero, suc, ◌+◌, true, false, Bool, cond, refl, sym, ◌∙◌, List, [], ◌∷◌, take, count_by, arith}
use Rattle.std.proofs.lemmas.List.Sums.{sum_by-cons}
use Rattle.judging.specs.Inner.Found.{fired_in}
use Rattle.judging.proofs.answer.fired_count.Goals as goal

one_more : (b : Bool) (k : ℕ) → cond b (suc k) k ≡ cond b 1 0 + k
one_more true k = omega arith
one_more false k = omega arith

fired-counted : (n : ℕ) (fired : List Bool) → fired_in n fired ≡ count_by (λ x. x) (take n fired)
fired-counted zero fired = refl
fired-counted (suc n) [] = refl
fired-counted (suc n) (m ∷ ms) =
    rw (fired-counted n ms) (one_more m (count_by (λ x. x) (take n ms)) ∙ sym (sum_by-cons (λ x. cond x 1 0) m (take n ms)))

pub returns : goal.returns
returns c =
    let counted : c.count.result ≡ count_by (λ x. x) (take c.args.rules c.args.fired.now) = search rules in
    counted ∙ sym (fired-counted c.args.rules c.args.fired.now)
