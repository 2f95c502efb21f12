-- Each part of the test is so of the trees.
use mathlib.Core.Path.{ap, ◌∙◌}
use Rattle.applies.specs.Parts.{lone_functor, name_in, keeps_name}
use Rattle.applies.proofs.Reading.{both, read, same_names}
use Rattle.applies.proofs.equation.d0.Goals as goal

pub returns : goal.returns
returns c = λ before behind l r w.
    both c.and-2.ensures (read w.left lone_functor c.lone_functor.ensures) (both c.and.ensures (read w.right lone_functor c.lone_functor-2.ensures)
    (both c.and-same.ensures (same_names c.same_name.ensures (read w.left name_in c.name_in-f.ensures) (read w.right name_in c.name_in.ensures))
    (c.keeps_order.ensures ∙ ap (keeps_name c.args.signature) (read w.left name_in c.name_in-f.ensures))))
