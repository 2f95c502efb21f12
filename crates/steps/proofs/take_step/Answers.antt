-- M2 by its monomials, the clash, which leaves nothing, the fold and every other rule by its plan.
use native.Mathlib.Omega.{arith}
use mathlib.Core.Path.{ap, ◌∙◌}
use mathlib.Core.List.{map}
use Rattle.language.specs.Writing.{conj_words}
use Rattle.taking.proofs.Taken.{took-none, took-as}
use Rattle.steps.proofs.Taken.{took-monomials}
use Rattle.steps.proofs.Asked.{monomials-at, answer_at, fold_at}
use Rattle.search.proofs.Applied.{results-answer, results-fold, results-clash}
use Rattle.steps.proofs.Made.{answered-words, folded-words}
use Rattle.steps.proofs.take_step.Goals as goal

pub step_monomials-requires : goal.step_monomials-requires
step_monomials-requires c = let h = c.if-b-eq-AT_M2.true in
    record {
      k_len_bound = c.requires.k_len_bound;
      some_membership = monomials-at c.args.s c.args.k.now c.args.b (answer_at c.args.s c.args.k.now c.args.b c.requires.rule_at (λ e. omega arith) (λ e. omega arith)) h;
    }

pub returns-then-b-eq-AT_M2 : goal.returns-then-b-eq-AT_M2
returns-then-b-eq-AT_M2 c = let b = c.args.b in
    λ before l behind ks p a.
    let h = c.if-b-eq-AT_M2.true in
    let r = results-answer c.args.s b.swap b.rank before l behind ks (λ e. omega arith) (λ e. omega arith) a in
    took-as (answered-words r)
    (took-monomials c.args.s c.args.number c.args.k.now _ _ c.args.next b.at b.rank b.swap _ h c.step_monomials.ensures before l behind r.branches p r.answer)

pub plan_fold-requires : goal.plan_fold-requires
plan_fold-requires c = record {
  at_in_bounds = c.requires.k_len_bound.1;
  fold_here = fold_at c.args.s c.args.k.now c.args.b c.requires.rule_at c.if-b-eq-AT_FOLD.true;
}

pub returns-then-b-eq-AT_FOLD : goal.returns-then-b-eq-AT_FOLD
returns-then-b-eq-AT_FOLD c = let b = c.args.b in
    λ before l behind ks p a.
    let r = results-fold c.args.s b.swap b.rank before l behind ks c.if-b-eq-AT_FOLD.true a in
    took-as (c.plan_fold.ensures before l behind r.folds p r.applies ∙ folded-words r) c.step_planned.ensures

pub returns-then-b-eq-AT_CLASH : goal.returns-then-b-eq-AT_CLASH
returns-then-b-eq-AT_CLASH c = let b = c.args.b in
    λ before l behind ks p a.
    took-none c.args.number _ c.args.next (ap (map conj_words) (results-clash c.args.s b.swap b.rank before l behind ks c.if-b-eq-AT_CLASH.true a))

pub plan_at-requires : goal.plan_at-requires
plan_at-requires c = record {
  at_in_bounds = (c.requires.k_len_bound.1, c.if-b-eq-AT_M2.false);
  answer_at = answer_at c.args.s c.args.k.now c.args.b c.requires.rule_at c.if-b-eq-AT_FOLD.false c.if-b-eq-AT_CLASH.false;
}

pub returns : goal.returns
returns c = let b = c.args.b in
    λ before l behind ks p a.
    let r = results-answer c.args.s b.swap b.rank before l behind ks c.if-b-eq-AT_FOLD.false c.if-b-eq-AT_CLASH.false a in
    took-as ((c.plan_at.ensures before l behind p).results r.branches r.answer ∙ answered-words r) c.step_planned-2.ensures
