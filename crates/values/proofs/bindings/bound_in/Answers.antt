-- What a literal binds a variable to: an equation, the side that solves the variable, the left before the right.
use Rattle.values.proofs.Binding.{bound-past, free_other, in_left, not_left, in_right, not_right}
use Rattle.values.proofs.Places.{worded}
use Rattle.values.proofs.bindings.bound_in.Goals as goal

pub returns-then-k-at : goal.returns-then-k-at
returns-then-k-at c = λ before l behind v a w. search (bound-past)

pub returns-then-k-at-ne5000 : goal.returns-then-k-at-ne5000
returns-then-k-at-ne5000 c = λ before l behind v a w. free_other l v a c.if-k-at-ne5000.true

pub returns-then-y-w : goal.returns-then-y-w
returns-then-y-w c = λ before l behind v a n. let w = worded n c.word_of-w.ensures in search (in_left)

pub returns-then-y-ne0 : goal.returns-then-y-ne0
returns-then-y-ne0 c = λ before l behind v a w. not_left v c.if-k-at-ne5000.false c.see-v.ensures.0 c.solved_side-y.ensures l a (worded w c.word_of-w.ensures) c.if-y-w.false c.if-y-ne0.true

pub returns-then-z-w : goal.returns-then-z-w
returns-then-z-w c = λ before l behind v a w. in_right v c.if-k-at-ne5000.false c.see-v.ensures.0 c.solved_side-y.ensures c.if-y-ne0.false c.swapped-u.ensures.0 c.solved_side-z.ensures l a (worded w c.word_of-w.ensures) c.if-z-w.true

pub returns : goal.returns
returns c = λ before l behind v a w. not_right v c.if-k-at-ne5000.false c.see-v.ensures.0 c.solved_side-y.ensures c.if-y-ne0.false c.swapped-u.ensures.0 c.solved_side-z.ensures l a (worded w c.word_of-w.ensures) c.if-z-w.false
