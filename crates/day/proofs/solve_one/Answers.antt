-- `day::solve_one` meets its contract: what solving leaves, read up to the end of its last line.
use native.Mathlib.Omega.{arith}
use Rattle.day.proofs.Ends.{solved-off, part-told}
use Rattle.day.proofs.solve_one.Goals as goal

pub answer_end-len-requires : goal.answer_end-len-requires
answer_end-len-requires c = (solved-off c.args.work.now c.args.answer.now (omega arith) (omega arith) _ _ c.take_words-n.ensures.words_after.0 _ _ _ c.solve-s.ensures).told.inside

pub returns : goal.returns
returns c = let o = solved-off c.args.work.now c.args.answer.now (omega arith) (omega arith) _ _ c.take_words-n.ensures.words_after.0 _ _ _ c.solve-s.ensures in record {
  len_le_room = part-told o _ _ c.outcome_number-number.ensures c.answer_end-len.ensures;
  kept = (o.work, o.answer);
}
