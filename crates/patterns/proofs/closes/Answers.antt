use borrow.Enum.Refused.{opened}
use mathlib.Core.Path.{refl, ◌∙◌}
use Rattle.word_bytes.proofs.Pairs.{length-words_of}
use Rattle.patterns.proofs.OneTerm.{over-early}
use Rattle.patterns.proofs.Turns.{closes-end, closes-same, closes-more, closes-not, closes-done}
use native.Mathlib.Omega.{arith}
use Rattle.patterns.proofs.closes.Goals as goal
use Rattle.patterns.proofs.closes.Goals.{in-End, in-Term, in-Symbol}

pub returns-then-depth-eq0 : goal.returns-then-depth-eq0
returns-then-depth-eq0 c = let h = length-words_of c.args.bytes.now in over-early _ c.loop-i.i _ (omega arith) c.if-depth-eq0.true ∙ c.loop-i.invariant.1

pub loop-i-preserved : goal.loop-i-preserved
loop-i-preserved c =
    let h = length-words_of c.args.bytes.now in
    elim c.match-classify.branch [
      | in-End w ↦ rw w.depth-is (omega arith, closes-end _ c.loop-i.i _ (omega arith) _ (rw c.word_at-word.ensures at c.classify.ensures) c.if-depth-eq0.false w.in-End.is ∙ c.loop-i.invariant.1)
      | in-Term w ↦ rw w.depth-is (omega arith, closes-same _ c.loop-i.i _ (omega arith) _ (rw c.word_at-word.ensures at c.classify.ensures) c.if-depth-eq0.false w.in-Term.in-Term-own.keys2 ∙ c.loop-i.invariant.1)
      | in-Symbol w ↦ rw w.depth-is (omega arith, closes-more _ c.loop-i.i _ (omega arith) _ (rw c.word_at-word.ensures at c.classify.ensures) c.if-depth-eq0.false w.in-Symbol.in-Symbol-own.keys3 ∙ c.loop-i.invariant.1)
    ]

pub returns-in_default : goal.returns-in_default
returns-in_default c = let h = length-words_of c.args.bytes.now in closes-not _ c.loop-i.i _ (omega arith) _ (rw c.word_at-word.ensures at c.classify.ensures) c.if-depth-eq0.false (opened c.in_default.in_default-own.keys4) ∙ c.loop-i.invariant.1

pub returns : goal.returns
returns c = let h = length-words_of c.args.bytes.now in closes-done _ c.loop-i.i _ (omega arith) ∙ c.loop-i.invariant.1

pub loop-i-init : goal.loop-i-init
loop-i-init c = (omega arith, refl)

pub overflow_sub-depth : goal.overflow_sub-depth
overflow_sub-depth c = omega arith
