-- Each part of the test is so of the trees.
use mathlib.Core.Path.{ap, ◌∙◌}
use Rattle.language.specs.Trees.{is_unordered}
use Rattle.applies.specs.Parts.{lone_functor, name_in, is_symbol}
use Rattle.applies.proofs.Reading.{both, read, symbol-read, same-symbols}
use Rattle.applies.proofs.equation.shuffled.Goals as goal

pub returns : goal.returns
returns c = λ before behind l r w.
    both c.and-3.ensures (read w.left lone_functor c.lone_functor.ensures) (both c.and-2.ensures (read w.right lone_functor c.lone_functor-2.ensures)
    (both c.and-symbols.ensures (c.is_symbol.ensures ∙ ap is_symbol (read w.left name_in c.name_in-f.ensures)) (both c.and.ensures (c.is_symbol-2.ensures ∙ ap is_symbol (read w.right name_in c.name_in-g.ensures))
    (both c.and-same.ensures (same-symbols (symbol-read w.left c.name_in-f.ensures c.symbol_of-c.ensures) (symbol-read w.right c.name_in-g.ensures c.symbol_of-d.ensures))
    (c.is_unordered.ensures ∙ ap (is_unordered c.args.signature) (symbol-read w.left c.name_in-f.ensures c.symbol_of-c.ensures))))))
