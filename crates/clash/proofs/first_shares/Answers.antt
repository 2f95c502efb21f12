-- By the kind of the variable.
use mathlib.Core.Path.{refl, sym, ◌∙◌}
use Rattle.state_classes.proofs.Peeling.{differ}
use Rattle.clash.proofs.first_shares.Goals as goal

pub returns-then-term : goal.returns-then-term
returns-then-term c = record { by-term = λ e. c.leads_from.ensures; by-hedge = λ e. differ (sym c.if-term.true ∙ e) }

pub returns : goal.returns
returns c = record { by-term = λ e. differ (sym e ∙ c.if-term.false); by-hedge = λ e. refl }
