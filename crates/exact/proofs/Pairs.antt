-- The rules of two literals are exact.
use mathlib.Core.Logic.{◌↔◌}
use mathlib.Core.List.{◌∷◌}
use Rattle.language.specs.declared.Signature.{Signature}
use Rattle.language.specs.Trees.{Literal, Conj}
use Rattle.meaning.specs.Meaning.{Filling, MeetsAll}
use Rattle.rules.specs.Reply.{PairRule}
use Rattle.rules.specs.Rules.{Fold}
use Rattle.rules.proofs.Steps.{Gives}
use Rattle.rules.proofs.Folding.{Struck, here, further, fold_is}
use Rattle.exact.specs.Places.{SameFillings}
use Rattle.exact.proofs.Answers.{only}

module _ (σ : Signature) where
  -- what a rule of two literals has to be: a filling meets the literal and those behind it exactly when it meets one of the results
  abbrev pub ExactPair : PairRule → Type 0
  ExactPair rule = (l : Literal) (behind : Conj) → Gives (SameFillings σ (l ∷ behind)) (rule l behind)

  -- beside l, one l more says nothing
  struck-same : (ρ : Filling) {l : Literal} {k j : Conj} → Struck l k j → MeetsAll σ ρ (l ∷ k) ↔ MeetsAll σ ρ (l ∷ j)
  struck-same ρ here = (λ m. m.1, λ m. (m.0, m))
  struck-same ρ (further s) =
      let e = struck-same ρ s in
      (λ m. (m.0, (m.1.0, (e.0 (m.0, m.1.1)).1)), λ m. (m.0, (m.1.0, (e.1 (m.0, m.1.1)).1)))

  pub Fold-exact : ExactPair Fold
  Fold-exact l behind = fold_is (SameFillings σ (l ∷ behind)) l behind λ k s ρ. only (struck-same ρ s)
