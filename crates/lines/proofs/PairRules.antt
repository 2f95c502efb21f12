-- The rules of two literals keep the matching fragment.
use mathlib.Core.Logic.{inl, inr}
use mathlib.Core.List.{[], ◌∷◌}
use Rattle.language.specs.Limits.{walked_pairs}
use Rattle.language.specs.declared.Signature.{Signature}
use Rattle.language.specs.Trees.{Literal, Conj, is_unordered}
use Rattle.rules.specs.Reply.{PairRule}
use Rattle.rules.specs.Rules.{Fold, Clash}
use Rattle.rules.specs.Each.{Each}
use Rattle.rules.proofs.Steps.{Gives}
use Rattle.rules.proofs.Folding.{Struck, here, further, fold_is}
use Rattle.rules.proofs.Clashing.{drops-gives, clash-drops}
use Rattle.lines.proofs.Places.{sides-parts, member_right, equation-parts, equation-left}
use Rattle.lines.proofs.Keeping.{Keeps, keeps_self, keeps-row, keeps-within}

-- whatever stands for the literal and those behind it keeps them
abbrev pub StaysPair : PairRule → Type 0
StaysPair rule = (l : Literal) (behind : Conj) → Gives (Each (Keeps [] (l ∷ behind))) (rule l behind)

-- what is struck stands before it
struck-keeps : {l : Literal} {k j : Conj} → Struck l k j → Keeps (l ∷ []) k j
struck-keeps {l} {j = j} here = record {
  sides = λ t. (sides-parts (l ∷ []) j t).1;
  members = λ v t. member_right v (l ∷ []) j t;
  equations = λ v t. elim (equation-parts v (l ∷ []) j t) [ inl s ↦ inr s | inr s ↦ inl s ];
}
struck-keeps {l} (further {m = m} {k = k} {j = j} s) = keeps-row (l ∷ []) (m ∷ []) (m ∷ []) k j (keeps_self (l ∷ []) (m ∷ [])) (struck-keeps s)

pub Fold-stays : StaysPair Fold
Fold-stays l behind = fold_is (Each (Keeps [] (l ∷ behind))) l behind λ k s. (
  keeps-within (l ∷ []) (l ∷ behind) (l ∷ k) (keeps-row (l ∷ []) (l ∷ []) (l ∷ []) behind k (keeps_self (l ∷ []) (l ∷ [])) (struck-keeps s)) (λ v t. equation-left v (l ∷ []) k t),
  tt,
)

pub Clash-stays : (σ : Signature) → StaysPair (Clash σ)
Clash-stays σ l behind = drops-gives (Each (Keeps [] (l ∷ behind))) (Clash σ l behind) tt (clash-drops walked_pairs (is_unordered σ) l behind)
