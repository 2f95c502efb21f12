-- The tests in their order lead to the rank.
use mathlib.Core.Path.{sym, ◌∙◌}
use mathlib.Core.List.{◌++◌}
use Rattle.views.proofs.Sides.{side-stands}
use Rattle.views.proofs.Same.{same-sides}
use Rattle.equations.proofs.Leading.{struck-same, struck-fails, struck-lone, struck-more}
use Rattle.equations.proofs.runs.rank_struck.Goals as goal

pub returns-then-same_part : goal.returns-then-same_part
returns-then-same_part c = λ q s t T d σ before behind w u. struck-same σ (before ++ behind) q s t (sym (same-sides w.left w.right) ∙ sym c.same_part.ensures ∙ c.if-same_part.true)

pub returns-then-has_term : goal.returns-then-has_term
returns-then-has_term c = λ q s t T d σ before behind w u. struck-fails σ (before ++ behind) q s t (sym (same-sides w.left w.right) ∙ sym c.same_part.ensures ∙ c.if-same_part.false) (sym d ∙ c.if-lone.true) (sym (c.has_term.ensures.0 _ _ (side-stands w.right)) ∙ c.if-has_term.true)

pub returns-then-lone : goal.returns-then-lone
returns-then-lone c = λ q s t T d σ before behind w u. struck-lone σ (before ++ behind) q s t (sym (same-sides w.left w.right) ∙ sym c.same_part.ensures ∙ c.if-same_part.false) (sym d ∙ c.if-lone.true) (sym (c.has_term.ensures.0 _ _ (side-stands w.right)) ∙ c.if-has_term.false)

pub returns : goal.returns
returns c = λ q s t T d σ before behind w u. struck-more σ (before ++ behind) q s t (sym (same-sides w.left w.right) ∙ sym c.same_part.ensures ∙ c.if-same_part.false) (sym d ∙ c.if-lone.false)
