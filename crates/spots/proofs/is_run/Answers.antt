-- `is_run`: the kinds of words that `run_word` names.
use borrow.Enum.Refused.{opened}
use mathlib.Core.Path.{◌≡◌, refl, sym, ap, ◌∙◌}
use mathlib.Core.Bool.{false}
use mathlib.Core.List.{[], ◌∷◌}
use Rattle.language.specs.declared.Kind.{Kind}
use Rattle.language.proofs.Arms.{Among, each-kind}
use Rattle.finds.specs.Walks.{runs_by, run_word}
use Rattle.spots.proofs.is_run.Goals as goal

found : {k j i : Kind} → k ≡ j → k ≡ i → runs_by i ≡ runs_by j
found e g = ap runs_by (sym g ∙ e)

others : {k j : Kind} → k ≡ j → Among (0 ∷ 1 ∷ 3 ∷ 4 ∷ 5 ∷ 6 ∷ 7 ∷ 8 ∷ 9 ∷ 10 ∷ 11 ∷ []) k → false ≡ runs_by j
others {k} e o =
    each-kind (0 ∷ 1 ∷ 3 ∷ 4 ∷ 5 ∷ 6 ∷ 7 ∷ 8 ∷ 9 ∷ 10 ∷ 11 ∷ []) (λ j. false ≡ runs_by j) refl (λ x. refl) tt (λ x. refl) (λ x. refl) refl refl refl refl refl refl refl k o ∙ ap runs_by e

pub returns-in-Run : goal.returns-in-Run
unfolding run_word
returns-in-Run c = found c.classify.ensures c.in-Run.is

pub returns-in_default : goal.returns-in_default
unfolding run_word
returns-in_default c = others c.classify.ensures (opened c.in_default.in_default-own.keys2)
