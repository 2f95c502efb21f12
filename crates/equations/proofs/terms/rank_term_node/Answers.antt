-- The tests in their order lead to the rank.
use mathlib.Core.Path.{sym, ap, ◌∙◌}
use mathlib.Core.List.{◌++◌}
use Rattle.language.specs.Kinds.{pick}
use Rattle.language.specs.Trees.{node, tv}
use Rattle.rules.specs.Looks.{under}
use Rattle.rules.specs.Places.{at_e1, no_rule}
use Rattle.views.proofs.Sides.{side-stands}
use Rattle.equations.proofs.Looked.{both, both-on}
use Rattle.equations.proofs.Variables.{term-elsewhere, node-own, node-hidden, node-longer, node-single}
use Rattle.equations.proofs.terms.rank_term_node.Goals as goal

pub returns-then-hidden : goal.returns-then-hidden
returns-then-hidden c = λ s G d t e f σ before behind w q.
    node-hidden σ (before ++ behind) c.args.x s G d t (sym (both-on (under (tv c.args.x) (node G d t)) (c.hidden.ensures (node G d t) _ w.left.fine.0 (side-stands w.right)) e) ∙ c.if-hidden.true)

pub returns-then-repeated : goal.returns-then-repeated
returns-then-repeated c = λ s G d t e f σ before behind w q.
    sym (ap (λ b. pick b at_e1 no_rule) c.if-repeated.true) ∙ node-single σ (before ++ behind) c.args.x s G d t (sym (both-on (under (tv c.args.x) (node G d t)) (c.hidden.ensures (node G d t) _ w.left.fine.0 (side-stands w.right)) e) ∙ c.if-hidden.false) (sym (both c.and.ensures e f) ∙ c.if-and.true) (c.repeated.ensures ∙ term-elsewhere q c.args.x w.left.fine.0 (node-own σ (before ++ behind) c.args.x s G d t (sym (both-on (under (tv c.args.x) (node G d t)) (c.hidden.ensures (node G d t) _ w.left.fine.0 (side-stands w.right)) e) ∙ c.if-hidden.false) (sym (both c.and.ensures e f) ∙ c.if-and.true)) c.term_word.ensures)

pub returns-then-and : goal.returns-then-and
returns-then-and c = λ s G d t e f σ before behind w q.
    sym (ap (λ b. pick b at_e1 no_rule) c.if-repeated.false) ∙ node-single σ (before ++ behind) c.args.x s G d t (sym (both-on (under (tv c.args.x) (node G d t)) (c.hidden.ensures (node G d t) _ w.left.fine.0 (side-stands w.right)) e) ∙ c.if-hidden.false) (sym (both c.and.ensures e f) ∙ c.if-and.true) (c.repeated.ensures ∙ term-elsewhere q c.args.x w.left.fine.0 (node-own σ (before ++ behind) c.args.x s G d t (sym (both-on (under (tv c.args.x) (node G d t)) (c.hidden.ensures (node G d t) _ w.left.fine.0 (side-stands w.right)) e) ∙ c.if-hidden.false) (sym (both c.and.ensures e f) ∙ c.if-and.true)) c.term_word.ensures)

pub returns : goal.returns
returns c = λ s G d t e f σ before behind w q.
    node-longer σ (before ++ behind) c.args.x s G d t (sym (both-on (under (tv c.args.x) (node G d t)) (c.hidden.ensures (node G d t) _ w.left.fine.0 (side-stands w.right)) e) ∙ c.if-hidden.false) (sym (both c.and.ensures e f) ∙ c.if-and.false)
