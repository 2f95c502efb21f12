-- Each part of the test is so of the trees.
use mathlib.Core.Path.{ap, ◌∙◌}
use Rattle.language.specs.Trees.{is_unordered}
use Rattle.views.proofs.Sides.{side-stands}
use Rattle.applies.specs.Parts.{lone_functor, name_in, is_symbol}
use Rattle.applies.proofs.Reading.{both, guarded, read, symbol-read, same-symbols, formed, over-read}
use Rattle.applies.proofs.membership.m12.Goals as goal

pub returns : goal.returns
returns c = λ before h R behind w.
    guarded c.and-3.ensures (read w.hedge lone_functor c.lone_functor.ensures) (λ y. both c.and-2.ensures (c.is_symbol.ensures ∙ ap is_symbol (read w.hedge name_in c.name_in-f.ensures))
    (both c.and-same.ensures (formed w c.form_of.ensures 3000) (both c.and.ensures (same-symbols (symbol-read w.hedge c.name_in-f.ensures c.symbol_of-c.ensures) (over-read w c.symbol_at-d.ensures))
    (both c.and-terms.ensures (c.is_unordered.ensures ∙ ap (is_unordered c.args.signature) (symbol-read w.hedge c.name_in-f.ensures c.symbol_of-c.ensures)) (c.child_terms.ensures h _ (side-stands w.hedge) y)))))
