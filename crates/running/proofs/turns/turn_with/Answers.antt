-- `turn_with`: a line where nothing is found, 21 where that cannot be told, else the step that is chosen.
use native.Mathlib.Omega.{arith}
use lib.ListN.{length}
use Rattle.std.proofs.lemmas.Result.{err_from_is_err_and}
use Rattle.search.proofs.Finding.{best-found}
use Rattle.running.specs.Turning.{guide}
use Rattle.running.proofs.Advancing.{lined-turns, none_found, halt-found, below_all, rule-at, chosen-step, chosen-not, roomy, not-told, not_chosen, goes-here}
use Rattle.running.proofs.turns.turn_with.Goals as goal

pub find-b-requires-clause-k_len_bound : goal.find-b-requires-clause-k_len_bound
find-b-requires-clause-k_len_bound c = c.requires.k_len_bound.0

pub find-b-requires-clause-conjunction : goal.find-b-requires-clause-conjunction
find-b-requires-clause-conjunction c = let x = c.requires.first_of in record { conj = x.first.literals; fine = x.under.running.fine.0; words = x.words }

pub line-requires-clause-k_len_bound : goal.line-requires-clause-k_len_bound
line-requires-clause-k_len_bound c = let p = c.requires.k_len_bound in (p.0, p.3, p.4, p.5)

pub line-requires-clause-conjunction : goal.line-requires-clause-conjunction
line-requires-clause-conjunction c = let x = c.requires.first_of in record { conj = x.first.literals; fine = x.under.running.fine.0; words = x.words }

pub returns-then-b-eq-NO_RULE : goal.returns-then-b-eq-NO_RULE
returns-then-b-eq-NO_RULE c = λ old whole old_work old_answer ls x w u ek eu en.
    lined-turns (guide c.args.course c.args.told.now old whole) old_work old_answer ls x w c.args.s c.args.work.now c.args.answer.now c.args.out.now u
    (none_found c.args.s.signature x.literals _ _ _ (best-found c.args.s.signature x.literals _ (c.find-b.ensures.1 x.literals u.running.fine.0 ek)) c.if-b-eq-NO_RULE.true) _ _
    (c.line.ensures old_work old_answer ls x w c.args.work.now u.running ek eu en)

pub returns-then-b-gt-NO_RULE : goal.returns-then-b-gt-NO_RULE
returns-then-b-gt-NO_RULE c = λ old whole old_work old_answer ls x w u ek eu en.
    not-told (guide c.args.course c.args.told.now old whole) old_work old_answer ls x w c.args.s c.args.work.now c.args.answer.now c.args.out.now u _
    (halt-found c.args.s.signature x.literals _ _ _ (best-found c.args.s.signature x.literals _ (c.find-b.ensures.1 x.literals u.running.fine.0 ek)) c.if-b-gt-NO_RULE.true)

pub choose-requires-clause-guided : goal.choose-requires-clause-guided
choose-requires-clause-guided c = (c.requires.first_of.under.guided, c.requires.k_len_bound.0)

pub choose-requires-clause-conjunction : goal.choose-requires-clause-conjunction
choose-requires-clause-conjunction c = let x = c.requires.first_of in record { conj = x.first.literals; fine = x.under.running.fine.0; words = x.words }

pub one_more-made-requires : goal.one_more-made-requires
one_more-made-requires c = let x = c.requires.first_of in
    let f = best-found c.args.s.signature x.first.literals _ (c.find-b.ensures.1 x.first.literals x.under.running.fine.0 x.words) in
    (chosen-step c.args.course c.args.told.now (length x.old) c.args.s.signature c.args.s.steps x.first _ _ c.in_ok-c.was
    (c.choose.ensures (length x.old) x.first x.under.running.fine.0 x.words x.under.running.few (below_all c.if-b-eq-NO_RULE.false c.if-b-gt-NO_RULE.false) f)).below

pub advance-requires-clause-k_len_bound : goal.advance-requires-clause-k_len_bound
advance-requires-clause-k_len_bound c = let x = c.requires.first_of in
    let p = c.requires.k_len_bound in
    let f = best-found c.args.s.signature x.first.literals _ (c.find-b.ensures.1 x.first.literals x.under.running.fine.0 x.words) in
    let d = chosen-step c.args.course c.args.told.now (length x.old) c.args.s.signature c.args.s.steps x.first _ _ c.in_ok-c.was
    (c.choose.ensures (length x.old) x.first x.under.running.fine.0 x.words x.under.running.few (below_all c.if-b-eq-NO_RULE.false c.if-b-gt-NO_RULE.false) f) in
    let (a, h) = rule-at c.args.s.signature c.args.k.now x.first.literals x.under.running.fine.0 x.words _ d.ks d.applies in
    (p.0, h, omega arith, p.1, roomy c.args.course x.whole x.old c.args.s.signature c.args.s.steps _ c.args.out.now x.first.literals _ d.ks _ x.under.trailed d.traces)

pub advance-requires-clause-rule_at : goal.advance-requires-clause-rule_at
advance-requires-clause-rule_at c = let x = c.requires.first_of in
    let p = c.requires.k_len_bound in
    let f = best-found c.args.s.signature x.first.literals _ (c.find-b.ensures.1 x.first.literals x.under.running.fine.0 x.words) in
    let d = chosen-step c.args.course c.args.told.now (length x.old) c.args.s.signature c.args.s.steps x.first _ _ c.in_ok-c.was
    (c.choose.ensures (length x.old) x.first x.under.running.fine.0 x.words x.under.running.few (below_all c.if-b-eq-NO_RULE.false c.if-b-gt-NO_RULE.false) f) in
    let (a, h) = rule-at c.args.s.signature c.args.k.now x.first.literals x.under.running.fine.0 x.words _ d.ks d.applies in
    a

pub returns-in_err-c : goal.returns-in_err-c
returns-in_err-c c = λ old whole old_work old_answer ls x w u ek eu en.
    let p = err_from_is_err_and c.from_residual.result c.from_residual.ensures.1 in
    let f = best-found c.args.s.signature x.literals _ (c.find-b.ensures.1 x.literals u.running.fine.0 ek) in
    rw (p.1, p.2)
    (not_chosen (guide c.args.course c.args.told.now old whole) old_work old_answer ls x w c.args.s c.args.work.now c.args.answer.now c.args.out.now u _
    (chosen-not c.args.course c.args.told.now (length old) c.args.s.signature c.args.s.steps x _ _ c.in_err-c.was
    (c.choose.ensures (length old) x u.running.fine.0 ek u.running.few (below_all c.if-b-eq-NO_RULE.false c.if-b-gt-NO_RULE.false) f)))

pub returns : goal.returns
returns c = λ old whole old_work old_answer ls x w u ek eu en.
    let f = best-found c.args.s.signature x.literals _ (c.find-b.ensures.1 x.literals u.running.fine.0 ek) in
    let d = chosen-step c.args.course c.args.told.now (length old) c.args.s.signature c.args.s.steps x _ _ c.in_ok-c.was
    (c.choose.ensures (length old) x u.running.fine.0 ek u.running.few (below_all c.if-b-eq-NO_RULE.false c.if-b-gt-NO_RULE.false) f) in
    c.advance.ensures c.args.told.now old whole old_work old_answer ls x w c.args.answer.now d.ks u ek eu en c.one_more-made.ensures d.applies
    (goes-here (guide c.args.course c.args.told.now old whole) c.args.s ls x w d.ks d.goes_on) d.below d.fine d.traces
