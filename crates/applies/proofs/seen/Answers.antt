-- `seen`: as it is written, or with its sides swapped.
use mathlib.Core.Path.{sym, subst}
use Rattle.language.specs.Kinds.{pick}
use Rattle.views.specs.Views.{Sees}
use Rattle.applies.proofs.seen.Goals as goal

pub returns-then-swap : goal.returns-then-swap
returns-then-swap c = λ before l r behind p.
    subst (λ w. Sees c.args.k.now c.swapped.result before (pick w r l) (pick w l r) behind) (sym c.if-swap.true)
    (c.swapped.ensures.0 c.args.k.now before behind l r (c.see-v.ensures.0 before l r behind p))

pub returns : goal.returns
returns c = λ before l r behind p.
    subst (λ w. Sees c.args.k.now c.see-v.result before (pick w r l) (pick w l r) behind) (sym c.if-swap.false)
    (c.see-v.ensures.0 before l r behind p)
