-- The name tells the functor.
use mathlib.Core.Path.{◌≡◌, refl, sym, ◌∙◌}
use mathlib.Core.Bool.{false}
use lib.Dec.{eqb}
use Rattle.language.specs.Trees.{fvar, eq_f}
use Rattle.equations.proofs.Looked.{at_symbol, at-blank}
use Rattle.equations.proofs.functors.same_blank.Goals as goal

pub returns-in-Symbol : goal.returns-in-Symbol
returns-in-Symbol c = λ G e. at_symbol (λ G. false ≡ eq_f (fvar c.args.f) G) G (sym c.in-Symbol.is ∙ e) refl

pub returns-in-Blank : goal.returns-in-Blank
returns-in-Blank c = λ G e. at-blank (λ G. eqb c.args.f.0 c.in-Blank.y.0 ≡ eq_f (fvar c.args.f) G) G (sym c.in-Blank.is ∙ e) refl
