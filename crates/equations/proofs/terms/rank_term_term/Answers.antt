-- The tests in their order lead to the rank.
use mathlib.Core.Path.{sym, ◌∙◌}
use mathlib.Core.List.{◌++◌}
use Rattle.language.specs.Trees.{tvar, tv}
use Rattle.rules.specs.Looks.{under}
use Rattle.views.proofs.Sides.{side-stands}
use Rattle.views.proofs.Same.{same-sides}
use Rattle.equations.proofs.Looked.{both, both-on}
use Rattle.equations.proofs.Variables.{lone-terms, terms-same, terms-hidden, terms-longer, terms-single}
use Rattle.equations.proofs.terms.rank_term_term.Goals as goal

pub returns-then-same_part : goal.returns-then-same_part
returns-then-same_part c = λ s t e f σ before behind w q. terms-same σ (before ++ behind) c.args.x s c.args.z t (sym (same-sides w.left w.right) ∙ sym c.same_part.ensures ∙ c.if-same_part.true)

pub returns-then-hidden : goal.returns-then-hidden
returns-then-hidden c = λ s t e f σ before behind w q.
    terms-hidden σ (before ++ behind) c.args.x s c.args.z t (sym (same-sides w.left w.right) ∙ sym c.same_part.ensures ∙ c.if-same_part.false) (sym (both-on (under (tv c.args.x) (tvar c.args.z t)) (c.hidden.ensures (tvar c.args.z t) _ w.left.fine.0 (side-stands w.right)) e) ∙ c.if-hidden.true)

pub returns-then-and : goal.returns-then-and
returns-then-and c = λ s t e f σ before behind w q.
    terms-single σ (before ++ behind) c.args.x s c.args.z t (sym (same-sides w.left w.right) ∙ sym c.same_part.ensures ∙ c.if-same_part.false) (sym (both-on (under (tv c.args.x) (tvar c.args.z t)) (c.hidden.ensures (tvar c.args.z t) _ w.left.fine.0 (side-stands w.right)) e) ∙ c.if-hidden.false) (sym (both c.and.ensures e f) ∙ c.if-and.true)
    (c.rank_variables.ensures (before ++ behind) (lone-terms c.args.x c.args.z s t (sym (both c.and.ensures e f) ∙ c.if-and.true) q) w.left.fine.0 w.right.fine.0)

pub returns : goal.returns
returns c = λ s t e f σ before behind w q.
    terms-longer σ (before ++ behind) c.args.x s c.args.z t (sym (same-sides w.left w.right) ∙ sym c.same_part.ensures ∙ c.if-same_part.false) (sym (both-on (under (tv c.args.x) (tvar c.args.z t)) (c.hidden.ensures (tvar c.args.z t) _ w.left.fine.0 (side-stands w.right)) e) ∙ c.if-hidden.false) (sym (both c.and.ensures e f) ∙ c.if-and.false)
