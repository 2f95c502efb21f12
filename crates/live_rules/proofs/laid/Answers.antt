use mathlib.Core.Path.{sym, ◌∙◌}
use Rattle.live_rules.proofs.Reading.{inside, laid-stops, laid-goes, laid_done, laid-start}
use native.Mathlib.Omega.{arith}
use Rattle.live_rules.proofs.laid.Goals as goal

pub returns-then-not-rule_fits : goal.returns-then-not-rule_fits
returns-then-not-rule_fits c = laid-stops c.args.sheet.now c.args.n c.loop-i.i c.loop-i.at (omega arith) (sym (sym c.rule_fits.ensures ∙ c.if-not-rule_fits.true)) ∙ c.loop-i.invariant.1

pub rule_end-at-requires : goal.rule_end-at-requires
rule_end-at-requires c = let x = inside c.args.sheet.now c.loop-i.at (sym c.rule_fits.ensures ∙ c.if-not-rule_fits.false) in let h = x.header in omega arith

pub loop-i-preserved : goal.loop-i-preserved
loop-i-preserved c = let x = inside c.args.sheet.now c.loop-i.at (sym c.rule_fits.ensures ∙ c.if-not-rule_fits.false) in let h = x.whole in let e = c.rule_end-at.ensures in (omega arith, laid-goes c.args.sheet.now c.args.n c.loop-i.i c.loop-i.at (omega arith) (sym (sym c.rule_fits.ensures ∙ c.if-not-rule_fits.false)) _ c.rule_end-at.ensures ∙ c.loop-i.invariant.1)

pub returns : goal.returns
returns c = laid_done c.args.sheet.now c.args.n c.loop-i.i c.loop-i.at (omega arith) ∙ c.loop-i.invariant.1

pub loop-i-init : goal.loop-i-init
loop-i-init c = (omega arith, laid-start _ _)
