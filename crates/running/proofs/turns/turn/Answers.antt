-- `turn`: the conjunction that was taken out is the first that waits, and the turn is made with it.
use native.Mathlib.Omega.{arith}
use mathlib.Core.Path.{◌∙◌}
use Rattle.running.proofs.Going.{first_of}
use Rattle.running.proofs.TakenOut.{taken-words, taken-size}
use Rattle.running.proofs.turns.turn.Goals as goal

pub turn_with-requires-clause-k_len_bound : goal.turn_with-requires-clause-k_len_bound
turn_with-requires-clause-k_len_bound c = let p = c.requires.at_bound in
    let e = taken-size c.requires.taken (omega arith) in
    (omega arith, omega arith, p.2, p.3, p.4, p.5)

pub turn_with-requires-clause-first_of : goal.turn_with-requires-clause-first_of
turn_with-requires-clause-first_of c = let x = c.requires.awaits in
    record {
      old = x.old;
      whole = x.whole;
      old_work = x.old_work;
      old_answer = x.old_answer;
      lines = x.lines;
      first = x.first;
      rest = x.rest;
      under = x.under;
      words = taken-words x.old_work x.old_answer x.lines x.first x.rest c.args.s c.args.work.now c.args.answer.now x.under.running c.requires.taken;
    }

pub turn_with-requires-clause-table_value : goal.turn_with-requires-clause-table_value
turn_with-requires-clause-table_value c = c.requires.taken.counts

pub returns : goal.returns
returns c = λ old whole old_work old_answer ls x w u.
    c.turn_with.ensures old whole old_work old_answer ls x w u
    (taken-words old_work old_answer ls x w c.args.s c.args.work.now c.args.answer.now u.running c.requires.taken)
    (c.read_number-number.ensures ∙ first_of old_work old_answer ls x w c.args.s c.args.work.now c.args.answer.now u.running) (omega arith)
