-- `filling::step` meets its contract: a symbol, and any other kind.
use borrow.Enum.Refused.{opened}
use mathlib.Core.Path.{◌≡◌, refl, sym, ap, ◌∙◌}
use mathlib.Core.List.{[], ◌∷◌}
use Prim.Native.Nat.{ℕ}
use Rattle.language.specs.declared.Kind.{Kind}
use Rattle.language.specs.declared.Kind.TheVariants.{Symbol}
use Rattle.language.specs.declared.Sym.{Sym}
use Rattle.language.proofs.Arms.{Among, each-kind}
use Rattle.filling.specs.Showing.{step_on}
use Rattle.filling.proofs.step.Goals as goal

symbol : {k j : Kind} {f : Sym} (n : ℕ) → k ≡ j → k ≡ Symbol f → n ≡ step_on n j
symbol n e g = ap (step_on n) (sym g ∙ e)

other : {k j : Kind} (n : ℕ) → k ≡ j → Among (0 ∷ 1 ∷ 2 ∷ 4 ∷ 5 ∷ 6 ∷ 7 ∷ 8 ∷ 9 ∷ 10 ∷ 11 ∷ []) k → 1 ≡ step_on n j
other {k} n e o =
    each-kind (0 ∷ 1 ∷ 2 ∷ 4 ∷ 5 ∷ 6 ∷ 7 ∷ 8 ∷ 9 ∷ 10 ∷ 11 ∷ []) (λ j. 1 ≡ step_on n j) refl (λ x. refl) (λ x. refl) tt (λ x. refl) refl refl refl refl refl refl refl k o
    ∙ ap (step_on n) e

pub returns-in-Symbol : goal.returns-in-Symbol
returns-in-Symbol c = symbol _ c.classify.ensures c.in-Symbol.is

pub returns-in_default : goal.returns-in_default
returns-in_default c = other _ c.classify.ensures (opened c.in_default.in_default-own.keys2)
