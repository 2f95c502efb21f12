-- The loop keeps what is to be written.
use Rattle.write_text.proofs.Lining.{Listing}
use Rattle.language.specs.Question.{alternatives_of}
use mathlib.Core.Path.{◌≡◌}
use Rattle.write_text.proofs.lines.put_lines.Given as goal

abbrev pub invariant-loop-i : goal.invariant-loop-i
invariant-loop-i l = (l.many ≡ alternatives_of l.w) × Listing l.stop l.w l.initial.out l.i l.out l.n
