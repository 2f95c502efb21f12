use mathlib.Core.Path.{refl, sym, ◌∙◌}
use native.Mathlib.Omega.{arith}
use Rattle.language.specs.Limits.{desk}
use Rattle.language.specs.Reading.{read_conj}
use Rattle.trees.proofs.Placing.{goes_on, halts}
use Rattle.trees.proofs.Parts.{literal-moves, conj-literal, conj-end}
use Rattle.conjunctions.proofs.read_conj.Goals as goal

pub loop-i-init : goal.loop-i-init
loop-i-init c = refl

pub loop-i-smaller : goal.loop-i-smaller
loop-i-smaller c = let m = literal-moves _ _ _ (sym c.read_literal.ensures ∙ c.in-Ok.is) in omega arith

pub loop-i-preserved : goal.loop-i-preserved
loop-i-preserved c = goes_on (read_conj desk) _ _ _ (sym c.read_literal.ensures ∙ c.in-Ok.is) ∙ conj-literal _ _ (omega arith) ∙ c.loop-i.invariant

pub returns-in-Err : goal.returns-in-Err
returns-in-Err c = halts (read_conj desk) _ _ _ (sym c.read_literal.ensures ∙ c.in-Err.is) ∙ conj-literal _ _ (omega arith) ∙ c.loop-i.invariant

pub returns : goal.returns
returns c = conj-end _ _ (omega arith) ∙ c.loop-i.invariant
