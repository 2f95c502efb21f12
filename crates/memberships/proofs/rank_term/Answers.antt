-- Kind by kind.
use borrow.Enum.Refused.{opened}
use Prim.Native.Nat.{ℕ}
use mathlib.Core.Path.{◌≡◌, refl, sym, ap, ◌∙◌}
use mathlib.Core.Bool.{Bool}
use mathlib.Core.List.{[], ◌∷◌}
use Rattle.language.specs.declared.Signature.{Signature}
use Rattle.language.specs.declared.Kind.{Kind}
use Rattle.language.specs.Kinds.{pick}
use Rattle.language.proofs.Arms.{Among, each-kind}
use Rattle.rules.specs.Places.{at_m2, no_rule}
use Rattle.views.specs.declared.Look.{Look}
use Rattle.memberships.specs.Rank.{child_terms, term_by}
use Rattle.memberships.proofs.rank_term.Goals as goal

-- what is so of a kind is so of the first word
module _ (σ : Signature) (terms : Bool) (look : Look) (last : Bool) where
  so-of : (k j : Kind) {n : ℕ} → k ≡ j → n ≡ term_by σ terms look last j → n ≡ term_by σ terms look last k
  so-of k j e d = d ∙ ap (term_by σ terms look last) (sym e)

  others : (k : Kind) → Among (0 ∷ 1 ∷ 2 ∷ 4 ∷ 5 ∷ 6 ∷ 11 ∷ []) k → no_rule ≡ term_by σ terms look last k
  others k o =
      each-kind (0 ∷ 1 ∷ 2 ∷ 4 ∷ 5 ∷ 6 ∷ 11 ∷ []) (λ k. no_rule ≡ term_by σ terms look last k) refl (λ x. refl) (λ x. refl) tt (λ x. refl) refl refl tt tt tt tt refl k o

pub returns-in-Eps : goal.returns-in-Eps
returns-in-Eps c = λ h beyond s l. so-of c.args.signature (child_terms h) c.args.look c.args.last _ _ c.in-Eps.is refl

pub returns-in-Cat : goal.returns-in-Cat
returns-in-Cat c = λ h beyond s l. so-of c.args.signature (child_terms h) c.args.look c.args.last _ _ c.in-Cat.is c.or_more.ensures

pub returns-in-Alt : goal.returns-in-Alt
returns-in-Alt c = λ h beyond s l. so-of c.args.signature (child_terms h) c.args.look c.args.last _ _ c.in-Alt.is c.or_more-in-Alt.ensures

pub returns-in-Star : goal.returns-in-Star
returns-in-Star c = λ h beyond s l. so-of c.args.signature (child_terms h) c.args.look c.args.last _ _ c.in-Star.is c.or_more-in-Star.ensures

pub returns-in-Symbol : goal.returns-in-Symbol
returns-in-Symbol c = λ h beyond s l.
    so-of c.args.signature (child_terms h) c.args.look c.args.last _ _ c.in-Symbol.is (c.or_more-in-Symbol.ensures ∙ ap (λ n. pick c.args.last n at_m2) (c.rank_single.ensures h beyond s l))

pub returns-in_default : goal.returns-in_default
returns-in_default c = λ h beyond s l. others c.args.signature (child_terms h) c.args.look c.args.last c.args.first (opened c.in_default.in_default-own.keys6)
