-- A 513th line, a line past the room, or one line more.
use native.Mathlib.Omega.{arith}
use Rattle.answers.proofs.Tallies.{line-added}
use Rattle.running.proofs.Going.{many-lines, long-line, next-line}
use Rattle.running.proofs.moves.line.Goals as goal

pub returns-then-t-ge-LINES : goal.returns-then-t-ge-LINES
returns-then-t-ge-LINES c = λ old_work old_answer ls x w work p ek eu en. many-lines old_work old_answer ls x w c.args.s work _ p _ ek _ en c.if-t-ge-LINES.true

pub returns-then-t-k-gt-ROOM : goal.returns-then-t-k-gt-ROOM
returns-then-t-k-gt-ROOM c = λ old_work old_answer ls x w work p ek eu en. long-line old_work old_answer ls x w c.args.s work _ p _ ek _ en c.if-t-ge-LINES.false c.if-t-k-gt-ROOM.true

pub returns : goal.returns
returns c = λ old_work old_answer ls x w work p ek eu en.
    next-line old_work old_answer ls x w c.args.s work _ p _ ek _ en _ _ c.add_line-u.auto.answer
    (line-added old_answer ls x _ _ _ _ _ ek eu (c.is_solved-solved.ensures x.literals p.fine.0 ek) p.lined _ _ (omega arith) (omega arith) c.add_line-u.ensures.0 c.add_line-u.ensures.1)
