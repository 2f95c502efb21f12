-- The loop's invariant: no state before t means what s means.
use Rattle.state_classes.proofs.Classing.{Unmet}
use Rattle.state_classes.proofs.class_of.Given as goal

abbrev pub invariant-loop-t : goal.invariant-loop-t
invariant-loop-t l = Unmet l.chart.words.now l.at l.s l.t
