-- `opened`: what a word of each kind opens.
use borrow.Enum.Refused.{opened}
use mathlib.Core.Path.{◌≡◌, refl, sym, ap, ◌∙◌}
use mathlib.Core.List.{[], ◌∷◌}
use Rattle.language.specs.declared.Kind.{Kind}
use Rattle.language.proofs.Arms.{Among, each-kind}
use Rattle.words.specs.Spans.{opens_by, opens}
use Rattle.spans.proofs.opened.Goals as goal

is : {k j i : Kind} → k ≡ j → k ≡ i → opens_by i ≡ opens_by j
is e g = ap opens_by (sym g ∙ e)

functors : {k j : Kind} → k ≡ j → Among (3 ∷ 4 ∷ []) k → 2 ≡ opens_by j
functors {k} e o = each-kind (3 ∷ 4 ∷ []) (λ j. 2 ≡ opens_by j) tt tt tt (λ x. refl) (λ x. refl) tt tt tt tt tt tt tt k o ∙ ap opens_by e

others : {k j : Kind} → k ≡ j → Among (1 ∷ 2 ∷ 5 ∷ 6 ∷ 7 ∷ 8 ∷ 9 ∷ 10 ∷ 11 ∷ []) k → 1 ≡ opens_by j
others {k} e o =
    each-kind (1 ∷ 2 ∷ 5 ∷ 6 ∷ 7 ∷ 8 ∷ 9 ∷ 10 ∷ 11 ∷ []) (λ j. 1 ≡ opens_by j) tt (λ x. refl) (λ x. refl) tt tt refl refl refl refl refl refl refl k o ∙ ap opens_by e

pub returns-in-End : goal.returns-in-End
unfolding opens
returns-in-End c = is c.classify.ensures c.in-End.is

pub returns-in-Symbol : goal.returns-in-Symbol
unfolding opens
returns-in-Symbol c = functors c.classify.ensures c.in-Symbol.in-Symbol-own.keys2

pub returns-in_default : goal.returns-in_default
unfolding opens
returns-in_default c = others c.classify.ensures (opened c.in_default.in_default-own.keys3)
