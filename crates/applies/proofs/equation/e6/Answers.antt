-- Each part of the test is so of the trees.
use mathlib.Core.Path.{ap, ◌∙◌}
use mathlib.Core.Bool.{not}
use Rattle.applies.specs.Parts.{is_bare, lone_functor, name_in, is_symbol}
use Rattle.applies.proofs.Reading.{both, read, blank-read, same-blanks}
use Rattle.applies.proofs.equation.e6.Goals as goal

pub returns : goal.returns
returns c = λ before behind l r w. both c.and-4.ensures (read w.left lone_functor c.lone_functor.ensures) (both c.and-3.ensures (ap not (c.is_symbol-symbol.ensures ∙ ap is_symbol (read w.left name_in c.name_in-f.ensures))) (both c.and-2.ensures (read w.right lone_functor c.lone_functor-2.ensures) (both c.and.ensures (ap not (both c.and-bare.ensures (read w.left is_bare c.is_bare.ensures) (read w.right is_bare c.is_bare-2.ensures))) (ap not (same-blanks c.is_blank-same.ensures (blank-read w.left c.name_in-f.ensures c.blank_of.ensures) (read w.right name_in c.name_in.ensures))))))
