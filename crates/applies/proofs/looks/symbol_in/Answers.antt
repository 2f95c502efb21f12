-- Kind by kind.
use borrow.Enum.Refused.{opened}
use mathlib.Core.Path.{◌≡◌, refl}
use mathlib.Core.List.{[], ◌∷◌}
use Rattle.language.specs.declared.Kind.{Kind}
use Rattle.language.proofs.Arms.{Among, each-kind}
use Rattle.applies.specs.Parts.{no_symbol, symbol_in}
use Rattle.applies.proofs.looks.symbol_in.Goals as goal

others : (k : Kind) → Among (0 ∷ 1 ∷ 2 ∷ 4 ∷ 5 ∷ 6 ∷ 7 ∷ 8 ∷ 9 ∷ 10 ∷ 11 ∷ []) k → no_symbol ≡ symbol_in k
others k o =
    each-kind (0 ∷ 1 ∷ 2 ∷ 4 ∷ 5 ∷ 6 ∷ 7 ∷ 8 ∷ 9 ∷ 10 ∷ 11 ∷ []) (λ k. no_symbol ≡ symbol_in k) refl (λ x. refl) (λ x. refl) tt (λ x. refl) refl refl refl refl refl refl refl k o

pub returns-in_default : goal.returns-in_default
returns-in_default c = others c.args.first (opened c.in_default.in_default-own.keys2)
