-- By the size of the results.
use Rattle.std.proofs.lemmas.Result.{err_from_is_err_and}
use Rattle.taking.proofs.Taken.{took-size, took-long, took-room, took-ready, took-done}
use Rattle.results.proofs.step_planned.Goals as goal

pub returns-in_err-n : goal.returns-in_err-n
returns-in_err-n c = let p = err_from_is_err_and c.from_residual.result c.from_residual.ensures.1 in
    rw (p.1, p.2) (took-long _ _ _ _ _ c.size_results.ensures c.ok_or.ensures.value c.in_err-n.was)

pub returns-then-next-n : goal.returns-then-next-n
returns-then-next-n c = took-room _ _ _ _ _ c.size_results.ensures _ (took-size c.ok_or.ensures.value c.in_ok-n.was) c.if-next-n.true

pub write_results-requires : goal.write_results-requires
write_results-requires c = let p = c.requires in
    took-ready _ _ _ _ _ c.size_results.ensures _ (took-size c.ok_or.ensures.value c.in_ok-n.was) c.if-next-n.false p.2 p.1

pub returns : goal.returns
returns c = took-done _ _ _ _ _ c.size_results.ensures _ (took-size c.ok_or.ensures.value c.in_ok-n.was) c.if-next-n.false _ _ c.write_results.ensures
