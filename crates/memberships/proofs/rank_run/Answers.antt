-- Kind by kind.
use borrow.Enum.Refused.{opened}
use Prim.Native.Nat.{ℕ}
use mathlib.Core.Path.{◌≡◌, refl, sym, ap, ◌∙◌}
use mathlib.Core.Bool.{Bool}
use mathlib.Core.List.{[], ◌∷◌}
use Rattle.language.specs.declared.Kind.{Kind}
use Rattle.language.specs.Kinds.{pick}
use Rattle.language.proofs.Arms.{Among, each-kind}
use Rattle.rules.specs.Looks.{has_term}
use Rattle.rules.specs.Places.{at_f7, at_m1, at_m3, no_rule}
use Rattle.memberships.specs.Rank.{run_by}
use Rattle.memberships.proofs.rank_run.Goals as goal

-- what is so of a kind is so of the first word
so-of : (last terms : Bool) (k j : Kind) {n : ℕ} → k ≡ j → n ≡ run_by j last terms → n ≡ run_by k last terms
so-of last terms k j e d = d ∙ ap (λ k. run_by k last terms) (sym e)

others : (last terms : Bool) (k : Kind) → Among (0 ∷ 1 ∷ 2 ∷ 4 ∷ 5 ∷ 6 ∷ 8 ∷ 10 ∷ 11 ∷ []) k → no_rule ≡ run_by k last terms
others last terms k o =
    each-kind (0 ∷ 1 ∷ 2 ∷ 4 ∷ 5 ∷ 6 ∷ 8 ∷ 10 ∷ 11 ∷ []) (λ k. no_rule ≡ run_by k last terms) refl (λ x. refl) (λ x. refl) tt (λ x. refl) refl refl tt refl tt refl refl k o

pub returns-then-has_term : goal.returns-then-has_term
returns-then-has_term c = λ h beyond s. so-of c.args.last (has_term h) _ _ c.in-Eps.is (ap (λ b. pick b at_f7 at_m1) (sym c.if-has_term.true ∙ c.has_term.ensures.0 h beyond s))

pub returns-then-last : goal.returns-then-last
returns-then-last c = λ h beyond s. so-of c.args.last (has_term h) _ _ c.in-Symbol.is (ap (λ b. pick b no_rule at_m3) (sym c.if-last.true))

pub returns-else-has_term : goal.returns-else-has_term
returns-else-has_term c = λ h beyond s. so-of c.args.last (has_term h) _ _ c.in-Eps.is (ap (λ b. pick b at_f7 at_m1) (sym c.if-has_term.false ∙ c.has_term.ensures.0 h beyond s))

pub returns-in-Alt : goal.returns-in-Alt
returns-in-Alt c = λ h beyond s. so-of c.args.last (has_term h) _ _ c.in-Alt.is refl

pub returns-else-last : goal.returns-else-last
returns-else-last c = λ h beyond s. so-of c.args.last (has_term h) _ _ c.in-Symbol.is (ap (λ b. pick b no_rule at_m3) (sym c.if-last.false))

pub returns-in_default : goal.returns-in_default
returns-in_default c = λ h beyond s. others c.args.last (has_term h) c.args.first (opened c.in_default.in_default-own.keys4)
