use mathlib.Core.Path.{refl, ◌∙◌, sym}
use native.Mathlib.Omega.{arith}
use lib.ListN.{length-set}
use Rattle.word_bytes.proofs.Pairs.{write-more, none_written, all-written}
use Rattle.word_bytes.proofs.write_words_at.Goals as goal

pub loop-i-init : goal.loop-i-init
loop-i-init c = (none_written _ _ _, refl)

pub loop-i-preserved : goal.loop-i-preserved
loop-i-preserved c = let l = c.loop-i in (write-more _ _ _ l.i _ _ (omega arith) c.halves-low.ensures.0 c.halves-low.ensures.1 ∙ l.invariant.0, simp length-set l.invariant.1)

pub returns : goal.returns
returns c = sym (all-written c.args.words.now _ _ c.loop-i.i (omega arith)) ∙ c.loop-i.invariant.0

pub bounds-bytes-at-in-loop-i : goal.bounds-bytes-at-in-loop-i
bounds-bytes-at-in-loop-i c = simp length-set (omega arith)
