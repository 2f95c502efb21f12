-- The tests in their order lead to the rank.
use mathlib.Core.Path.{sym, ap, ◌∙◌}
use mathlib.Core.List.{◌++◌}
use Rattle.language.specs.Trees.{hv, holds}
use Rattle.views.proofs.Sides.{side-stands}
use Rattle.finds.proofs.Searches.{spotted-some}
use Rattle.equations.proofs.Leading.{run-held, run-elsewhere, lone-run, not-other, lonely-fails, lonely-inside, lonely-open, lonely-solves, lonely-rests, lonely-nowhere}
use Rattle.equations.proofs.runs.rank_lonely.Goals as goal

pub returns-then-has_term : goal.returns-then-has_term
returns-then-has_term c = λ before behind s r w q z. lonely-fails (before ++ behind) c.args.p r (sym (c.stands.ensures ∙ run-held w.right c.args.p w.left.fine.0 c.run_word-x.ensures) ∙ c.if-stands.true) (sym (c.has_term.ensures.0 r _ (side-stands w.right)) ∙ c.if-has_term.true)

pub returns-then-is_some : goal.returns-then-is_some
returns-then-is_some c = λ before behind s r w q z. lonely-inside (before ++ behind) c.args.p r (sym (c.stands.ensures ∙ run-held w.right c.args.p w.left.fine.0 c.run_word-x.ensures) ∙ c.if-stands.true) (sym (c.has_term.ensures.0 r _ (side-stands w.right)) ∙ c.if-has_term.false) (sym (c.is_some.ensures ∙ spotted-some (c.inside.ensures.0 r _ w.left.fine.0 (side-stands w.right))) ∙ c.if-is_some.true)

pub returns-then-stands : goal.returns-then-stands
returns-then-stands c = λ before behind s r w q z. lonely-open (before ++ behind) c.args.p r (sym (c.stands.ensures ∙ run-held w.right c.args.p w.left.fine.0 c.run_word-x.ensures) ∙ c.if-stands.true) (sym (c.has_term.ensures.0 r _ (side-stands w.right)) ∙ c.if-has_term.false) (sym (c.is_some.ensures ∙ spotted-some (c.inside.ensures.0 r _ w.left.fine.0 (side-stands w.right))) ∙ c.if-is_some.false)

pub returns-then-too_elsewhere : goal.returns-then-too_elsewhere
returns-then-too_elsewhere c = λ before behind s r w q z. lonely-solves (before ++ behind) c.args.p r (sym (c.stands.ensures ∙ run-held w.right c.args.p w.left.fine.0 c.run_word-x.ensures) ∙ c.if-stands.false) (sym (c.repeated.ensures ∙ run-elsewhere q c.args.p w.left.fine.0 (lone-run c.args.p s r z (sym (c.stands.ensures ∙ run-held w.right c.args.p w.left.fine.0 c.run_word-x.ensures) ∙ c.if-stands.false)) c.run_word-x.ensures) ∙ c.if-repeated.true) (sym (c.too_elsewhere.ensures before behind _ r w q (λ m t i e. not-other c.args.p m s t z (sym (ap (holds (hv c.args.p)) i) ∙ (sym (c.stands.ensures ∙ run-held w.right c.args.p w.left.fine.0 c.run_word-x.ensures) ∙ c.if-stands.false)))) ∙ c.if-too_elsewhere.true)

pub returns-then-repeated : goal.returns-then-repeated
returns-then-repeated c = λ before behind s r w q z. lonely-rests (before ++ behind) c.args.p r (sym (c.stands.ensures ∙ run-held w.right c.args.p w.left.fine.0 c.run_word-x.ensures) ∙ c.if-stands.false) (sym (c.repeated.ensures ∙ run-elsewhere q c.args.p w.left.fine.0 (lone-run c.args.p s r z (sym (c.stands.ensures ∙ run-held w.right c.args.p w.left.fine.0 c.run_word-x.ensures) ∙ c.if-stands.false)) c.run_word-x.ensures) ∙ c.if-repeated.true) (sym (c.too_elsewhere.ensures before behind _ r w q (λ m t i e. not-other c.args.p m s t z (sym (ap (holds (hv c.args.p)) i) ∙ (sym (c.stands.ensures ∙ run-held w.right c.args.p w.left.fine.0 c.run_word-x.ensures) ∙ c.if-stands.false)))) ∙ c.if-too_elsewhere.false)

pub returns : goal.returns
returns c = λ before behind s r w q z. lonely-nowhere (before ++ behind) c.args.p r (sym (c.stands.ensures ∙ run-held w.right c.args.p w.left.fine.0 c.run_word-x.ensures) ∙ c.if-stands.false) (sym (c.repeated.ensures ∙ run-elsewhere q c.args.p w.left.fine.0 (lone-run c.args.p s r z (sym (c.stands.ensures ∙ run-held w.right c.args.p w.left.fine.0 c.run_word-x.ensures) ∙ c.if-stands.false)) c.run_word-x.ensures) ∙ c.if-repeated.false)
