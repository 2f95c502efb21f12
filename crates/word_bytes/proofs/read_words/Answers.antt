use mathlib.Core.Path.{refl, ◌∙◌, sym}
use native.Mathlib.Omega.{arith}
use lib.ListN.{length-set}
use Rattle.word_bytes.proofs.Pairs.{read_more, all_read}
use Rattle.word_bytes.proofs.read_words.Goals as goal

pub loop-i-init : goal.loop-i-init
loop-i-init c = (refl, refl)

pub loop-i-preserved : goal.loop-i-preserved
loop-i-preserved c = let l = c.loop-i in
    (read_more _ _ l.i _ (omega arith) c.word.ensures ∙ l.invariant.0, simp length-set l.invariant.1)

pub returns : goal.returns
returns c = sym (all_read c.args.bytes.now _ c.loop-i.i (omega arith)) ∙ c.loop-i.invariant.0
