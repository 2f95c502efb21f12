-- What the children share, and whether those on the right are terms, lead to the rank.
use mathlib.Core.Path.{sym, ap, ◌∙◌}
use Rattle.std.specs.Prelude.{is_some}
use Rattle.views.proofs.Sides.{side-stands}
use Rattle.sharing.proofs.Shared.{shares}
use Rattle.plans.proofs.Sides.{children-stand}
use Rattle.equations.proofs.Names.{children-shared, children-terms, children-rest}
use Rattle.equations.proofs.functors.rank_shuffled.Goals as goal

pub returns-then-is_some : goal.returns-then-is_some
returns-then-is_some c = λ before behind F G h s d t w.
    let a = children-stand (side-stands w.left) (ap (λ o. o.from) c.inner-c.ensures) in
    let b = children-stand (side-stands w.right) (ap (λ o. o.from) c.inner-d.ensures) in
    children-shared h d (sym (c.is_some.ensures ∙ ap is_some c.first_shared.ensures ∙ (shares h d a b).found) ∙ c.if-is_some.true)

pub returns-then-terms : goal.returns-then-terms
returns-then-terms c = λ before behind F G h s d t w.
    let a = children-stand (side-stands w.left) (ap (λ o. o.from) c.inner-c.ensures) in
    let b = children-stand (side-stands w.right) (ap (λ o. o.from) c.inner-d.ensures) in
    children-terms h d (sym (c.is_some.ensures ∙ ap is_some c.first_shared.ensures ∙ (shares h d a b).found) ∙ c.if-is_some.false) (sym (c.all_terms-terms.ensures.0 d _ b).all ∙ c.if-terms.true)

pub returns : goal.returns
returns c = λ before behind F G h s d t w.
    let a = children-stand (side-stands w.left) (ap (λ o. o.from) c.inner-c.ensures) in
    let b = children-stand (side-stands w.right) (ap (λ o. o.from) c.inner-d.ensures) in
    children-rest h d (sym (c.is_some.ensures ∙ ap is_some c.first_shared.ensures ∙ (shares h d a b).found) ∙ c.if-is_some.false) (sym (c.all_terms-terms.ensures.0 d _ b).all ∙ c.if-terms.false)
