-- `under_ceiling`: by whether all steps are made.
use mathlib.Core.Path.{sym, ap}
use borrow.Author.Tests.{le-leb, lt-leb}
use Rattle.std.specs.Prelude.{Result, Ok, Err}
use Rattle.search.specs.declared.Best.{Best}
use Rattle.language.specs.declared.Refusal.{Refusal}
use Rattle.language.specs.declared.Refusal.TheVariants.{StepLimit}
use Rattle.language.specs.Kinds.{pick}
use Rattle.running.proofs.next_steps.under_ceiling.Goals as goal

pub returns-then-steps-ge-STEPS : goal.returns-then-steps-ge-STEPS
returns-then-steps-ge-STEPS c = sym (ap {B = Result Best Refusal} (λ x. pick x (Err StepLimit) (Ok c.args.b)) (le-leb _ _ c.if-steps-ge-STEPS.true))

pub returns : goal.returns
returns c = sym (ap {B = Result Best Refusal} (λ x. pick x (Err StepLimit) (Ok c.args.b)) (lt-leb _ _ c.if-steps-ge-STEPS.false))
