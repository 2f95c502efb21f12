-- `advance`: what taking the step leaves: 7, 8, or the results in place, and the step noted or 29.
use Rattle.std.proofs.lemmas.Result.{err_from_is_err_and}
use Rattle.running.proofs.Advancing.{not-taken, step-turns, unnoted-turns}
use Rattle.running.proofs.turns.advance.Goals as goal

pub note-requires : goal.note-requires
note-requires c = let p = c.requires.k_len_bound in
    let x = c.requires.rule_at in
    record {
      at_in_bounds = (p.1, p.0, p.4);
      some_literal = record { before = x.before; l = x.l; behind = x.behind; stands = x.stands };
    }

pub returns-then-note : goal.returns-then-note
returns-then-note c = λ told old whole old_work old_answer ls x w answer ks u ek eu en em a on below fine traces.
    step-turns _ told old whole old_work old_answer ls x w c.args.s c.args.work.now answer c.args.out.now u c.args.k.now ek c.args.number eu c.args.next en c.args.b ks a on below fine traces _ _ c.take_step.ensures
    _ c.in_ok-at.was _ em _ _ c.note.ensures c.if-note.true

pub returns-in_err-at : goal.returns-in_err-at
returns-in_err-at c = λ told old whole old_work old_answer ls x w answer ks u ek eu en em a on below fine traces.
    let p = err_from_is_err_and c.from_residual.result c.from_residual.ensures.1 in
    rw (p.1, p.2)
    (not-taken _ told old whole old_work old_answer ls x w c.args.s c.args.work.now answer c.args.out.now u c.args.k.now ek c.args.number eu c.args.next en c.args.b ks a on below fine traces _ _ c.take_step.ensures
    _ c.in_err-at.was)

pub returns : goal.returns
returns c = λ told old whole old_work old_answer ls x w answer ks u ek eu en em a on below fine traces.
    unnoted-turns _ told old whole old_work old_answer ls x w c.args.s c.args.work.now answer c.args.out.now u c.args.k.now ek c.args.number eu c.args.next en c.args.b ks a on below fine traces _ _ c.take_step.ensures
    _ c.in_ok-at.was _ em _ _ c.note.ensures c.if-note.false
