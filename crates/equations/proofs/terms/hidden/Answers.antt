-- The test is made where nothing follows the variable.
use Rattle.language.specs.Trees.{tv}
use Rattle.rules.specs.Looks.{under}
use Rattle.equations.proofs.Variables.{guard-on, guard-off}
use Rattle.equations.proofs.terms.hidden.Goals as goal

pub returns-then-lone : goal.returns-then-lone
returns-then-lone c = λ h beyond b s. guard-on c.if-lone.true (c.under.ensures.0 h beyond b s)

pub returns : goal.returns
returns c = λ h beyond b s. guard-off (under (tv c.args.x) h) c.if-lone.false
