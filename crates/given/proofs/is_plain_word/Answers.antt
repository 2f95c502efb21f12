-- `given::is_plain_word` meets its contract: an end, a symbol, and any other kind.
use borrow.Enum.Refused.{opened}
use mathlib.Core.Path.{◌≡◌, refl, sym, ap, ◌∙◌}
use mathlib.Core.Bool.{false}
use mathlib.Core.List.{[], ◌∷◌}
use Prim.Native.Nat.{ℕ}
use Rattle.language.specs.declared.Kind.{Kind}
use Rattle.language.proofs.Arms.{Among, each-kind}
use Rattle.given.specs.Checking.{plain_on}
use Rattle.given.proofs.is_plain_word.Goals as goal

is : (n : ℕ) {k j i : Kind} → k ≡ j → k ≡ i → plain_on n i ≡ plain_on n j
is n e g = ap (plain_on n) (sym g ∙ e)

other : (n : ℕ) {k j : Kind} → k ≡ j → Among (1 ∷ 2 ∷ 4 ∷ 5 ∷ 6 ∷ 7 ∷ 8 ∷ 9 ∷ 10 ∷ 11 ∷ []) k → false ≡ plain_on n j
other n {k} e o =
    each-kind (1 ∷ 2 ∷ 4 ∷ 5 ∷ 6 ∷ 7 ∷ 8 ∷ 9 ∷ 10 ∷ 11 ∷ []) (λ j. false ≡ plain_on n j) tt (λ x. refl) (λ x. refl) tt (λ x. refl) refl refl refl refl refl refl refl k o
    ∙ ap (plain_on n) e

pub returns-in-End : goal.returns-in-End
returns-in-End c = is _ c.classify.ensures c.in-End.is

pub returns-in-Symbol : goal.returns-in-Symbol
returns-in-Symbol c = is _ c.classify.ensures c.in-Symbol.is

pub returns-in_default : goal.returns-in_default
returns-in_default c = other _ c.classify.ensures (opened c.in_default.in_default-own.keys3)
