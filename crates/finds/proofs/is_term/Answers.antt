-- `is_term`: the kinds of words that `term_word` names.
use borrow.Enum.Refused.{opened}
use mathlib.Core.Path.{◌≡◌, refl, ap, ◌∙◌}
use mathlib.Core.Bool.{true, false}
use mathlib.Core.List.{[], ◌∷◌}
use Rattle.language.specs.declared.Kind.{Kind}
use Rattle.language.proofs.Arms.{Among, each-kind}
use Rattle.finds.specs.Walks.{begins_by, term_word}
use Rattle.finds.proofs.is_term.Goals as goal

found : {k j : Kind} → k ≡ j → Among (1 ∷ 3 ∷ 4 ∷ []) k → true ≡ begins_by j
found {k} e o = each-kind (1 ∷ 3 ∷ 4 ∷ []) (λ j. true ≡ begins_by j) tt (λ x. refl) tt (λ x. refl) (λ x. refl) tt tt tt tt tt tt tt k o ∙ ap begins_by e

others : {k j : Kind} → k ≡ j → Among (0 ∷ 2 ∷ 5 ∷ 6 ∷ 7 ∷ 8 ∷ 9 ∷ 10 ∷ 11 ∷ []) k → false ≡ begins_by j
others {k} e o =
    each-kind (0 ∷ 2 ∷ 5 ∷ 6 ∷ 7 ∷ 8 ∷ 9 ∷ 10 ∷ 11 ∷ []) (λ j. false ≡ begins_by j) refl tt (λ x. refl) tt tt refl refl refl refl refl refl refl k o ∙ ap begins_by e

pub returns-in-Term : goal.returns-in-Term
unfolding term_word
returns-in-Term c = found c.classify.ensures c.in-Term.in-Term-own.keys1

pub returns-in_default : goal.returns-in_default
unfolding term_word
returns-in_default c = others c.classify.ensures (opened c.in_default.in_default-own.keys2)
