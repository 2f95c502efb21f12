-- `expression_words::put_stars` meets its contract: star by star.
use Rattle.expression_words.proofs.Laying.{Starring}
use Rattle.expression_words.proofs.put_stars.Given as goal

abbrev pub invariant-loop-left : goal.invariant-loop-left
invariant-loop-left l = Starring l.initial.room l.at l.stars l.to l.left l.room

abbrev pub decreases-loop-left : goal.decreases-loop-left
decreases-loop-left l = l.left
