-- Each part of the test is so of the trees.
use mathlib.Core.Path.{ap, ◌∙◌}
use mathlib.Core.Bool.{not}
use Rattle.applies.specs.Parts.{lone_functor, name_in, is_symbol}
use Rattle.applies.proofs.Reading.{both, read, blank-read, same-functions}
use Rattle.applies.proofs.equation.e7.Goals as goal

pub returns : goal.returns
returns c = λ before behind l r w.
    both c.and-4.ensures (read w.left lone_functor c.lone_functor.ensures) (both c.and-3.ensures (ap not (c.is_symbol-left.ensures ∙ ap is_symbol (read w.left name_in c.name_in-f.ensures)))
    (both c.and-2.ensures (read w.right lone_functor c.lone_functor-2.ensures) (both c.and-blanks.ensures (ap not (c.is_symbol-right.ensures ∙ ap is_symbol (read w.right name_in c.name_in-g.ensures)))
    (both c.and.ensures (same-functions (blank-read w.left c.name_in-f.ensures c.blank_of-x.ensures) (blank-read w.right c.name_in-g.ensures c.blank_of-y.ensures))
    (both c.and-every.ensures (ap not (c.r1-same.ensures before behind l r w)) c.any_unordered.ensures)))))
