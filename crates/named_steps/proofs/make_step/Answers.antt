-- `make_step`: the step that is named, and what taking it leaves.
use mathlib.Core.Path.{refl, ap}
use native.Mathlib.Omega.{arith}
use Rattle.std.proofs.lemmas.Result.{err_from_is_err_and}
use Rattle.language.specs.Limits.{desk}
use Rattle.telling.specs.Telling.{triple_of}
use Rattle.named_steps.specs.Naming.{replied}
use Rattle.named_steps.specs.Leaves.{refuses}
use Rattle.named_steps.proofs.Making.{chosen-step, chosen-not, here, rule-here, inside, leaves-taken, leaves-as}
use Rattle.named_steps.proofs.make_step.Goals as goal

pub take_step-requires : goal.take_step-requires
take_step-requires c = let x = c.requires.conjunction in
    let p = chosen-step c.args.s x.conj (triple_of c.args.rule c.args.literal c.args.side) _ (c.named_step.ensures x.conj x.fine x.words) _ c.in_ok-b.was in
    record {
      k_len_bound = (c.requires.k_len_bound.0, inside c.args.s c.args.k.now x.conj x.fine x.words _ _ p, c.requires.k_len_bound.1, omega arith);
      rule_at = rule-here c.args.s c.args.k.now x.conj x.fine x.words _ _ p;
    }

pub returns-in_err-b : goal.returns-in_err-b
returns-in_err-b c = λ x f e.
    let r = err_from_is_err_and c.from_residual.result c.from_residual.ensures.1 in
    rw (r.1, r.2) (refuses _ refl (chosen-not c.args.s x (triple_of c.args.rule c.args.literal c.args.side) _ (c.named_step.ensures x f e) c.args.number _ c.in_err-b.was) refl)

pub returns : goal.returns
returns c = λ x f e.
    let p = chosen-step c.args.s x (triple_of c.args.rule c.args.literal c.args.side) _ (c.named_step.ensures x f e) _ c.in_ok-b.was in
    let h = here c.args.s c.args.k.now x f e _ _ p in
    leaves-as c.args.number _ _ _ _ _ (ap (replied desk c.args.number) p.reply)
    (leaves-taken c.args.number p.ks _ _ _ (c.take_step.ensures p.applies.before p.applies.l p.applies.behind p.ks h p.applies.makes))

pub named_step-requires : goal.named_step-requires
named_step-requires c = record {
  k_len_bound = c.requires.k_len_bound.0;
  conjunction = c.requires.conjunction;
}
