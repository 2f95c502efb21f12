-- Kind by kind.
use borrow.Enum.Refused.{opened}
use Prim.Native.Nat.{ℕ}
use mathlib.Core.Path.{◌≡◌, refl}
use mathlib.Core.List.{[], ◌∷◌}
use Rattle.language.specs.declared.Kind.{Kind}
use Rattle.language.proofs.Arms.{Among, each-kind}
use Rattle.applies.specs.Parts.{form_word}
use Rattle.applies.proofs.looks.form_word.Goals as goal

others : (k : Kind) → Among (0 ∷ 1 ∷ 2 ∷ 4 ∷ 5 ∷ 6 ∷ 11 ∷ []) k → ◌≡◌ {A = ℕ} 0 (form_word k)
others k o =
    each-kind (0 ∷ 1 ∷ 2 ∷ 4 ∷ 5 ∷ 6 ∷ 11 ∷ []) (λ k. ◌≡◌ {A = ℕ} 0 (form_word k)) refl (λ x. refl) (λ x. refl) tt (λ x. refl) refl refl tt tt tt tt refl k o

pub returns-in_default : goal.returns-in_default
returns-in_default c = others c.args.first (opened c.in_default.in_default-own.keys6)
