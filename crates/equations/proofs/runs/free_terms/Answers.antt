-- Terms alone, and then the word of p.
use mathlib.Core.Path.{sym, ◌∙◌}
use Rattle.views.proofs.Sides.{side-stands}
use Rattle.equations.proofs.Leading.{run-held, terms-held, terms-free, terms-not}
use Rattle.equations.proofs.runs.free_terms.Goals as goal

pub returns-then-stands : goal.returns-then-stands
returns-then-stands c = λ before behind l r w b. terms-held c.args.p r (sym (c.all_terms-terms.ensures.0 r _ (side-stands w.right)).all ∙ c.if-terms.true) (sym (c.stands.ensures ∙ run-held w.right c.args.p b c.run_word.ensures) ∙ c.if-stands.true)

pub returns-then-terms : goal.returns-then-terms
returns-then-terms c = λ before behind l r w b. terms-free c.args.p r (sym (c.all_terms-terms.ensures.0 r _ (side-stands w.right)).all ∙ c.if-terms.true) (sym (c.stands.ensures ∙ run-held w.right c.args.p b c.run_word.ensures) ∙ c.if-stands.false)

pub returns : goal.returns
returns c = λ before behind l r w b. terms-not c.args.p r (sym (c.all_terms-terms.ensures.0 r _ (side-stands w.right)).all ∙ c.if-terms.false)
