-- The words before the later literal and those behind it.
use mathlib.Core.Path.{refl, ap, ◌∙◌}
use Rattle.plans.specs.declared.Ways.TheVariants.{One}
use Rattle.plans.specs.Results.{results_of}
use Rattle.plans.specs.Slots.{single}
use Rattle.steps.proofs.Made.{fold-within, fold-planned}
use Rattle.steps.proofs.plan_fold.Goals as goal

pub next_literal-to-requires : goal.next_literal-to-requires
next_literal-to-requires c = fold-within c.args.k.now c.args.at _ c.later_equal-from.ensures c.requires.fold_here

pub returns : goal.returns
returns c = let k = c.args.k.now in
    λ before l behind ks s a.
    ap (λ r. results_of k (single (One 0) r)) c.few-first.ensures
    ∙ fold-planned k c.args.at c.later_equal-from.result c.later_equal-from.ensures _ _ c.next_literal-to.ensures refl before l behind ks s a
