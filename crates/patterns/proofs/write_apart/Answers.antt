use mathlib.Core.Path.{refl, sym, ap, subst, ◌∙◌}
use lib.ListN.{length-set}
use Rattle.language.specs.Limits.{desk}
use Rattle.language.specs.Kinds.{kind_of}
use Rattle.word_bytes.specs.Bytes.{words_of}
use Rattle.word_bytes.proofs.Pairs.{length-words_of}
use Rattle.patterns.specs.Tables.{renumbered_by, EnteredOn}
use Rattle.patterns.proofs.Turns.{write-more, all-written, first-written}
use native.Mathlib.Omega.{arith}
use Rattle.patterns.proofs.write_apart.Goals as goal

pub loop-i-init : goal.loop-i-init
loop-i-init c = (first-written (renumbered_by c.args.n c.args.table.now) (words_of c.args.bytes.now) c.args.question.now c.args.at, refl)

pub word_at-requires : goal.word_at-requires
word_at-requires c = let h = length-words_of c.args.bytes.now in omega arith

pub renumbered-requires : goal.renumbered-requires
renumbered-requires c = let h = length-words_of c.args.bytes.now in subst (λ w. EnteredOn c.args.n c.args.table.now (kind_of desk w)) (sym c.word_at.ensures) (c.requires.ready.each c.loop-i.i (omega arith))

pub bounds-question-at : goal.bounds-question-at
bounds-question-at c = let h = length-words_of c.args.bytes.now in let s = c.loop-i.invariant.1 in let q = c.requires.bytes_in_bounds in omega arith

pub loop-i-preserved : goal.loop-i-preserved
loop-i-preserved c = let h = length-words_of c.args.bytes.now in (write-more _ _ _ _ c.loop-i.i _ (omega arith) (c.renumbered.ensures ∙ ap (renumbered_by c.args.n c.args.table.now) c.word_at.ensures) ∙ c.loop-i.invariant.0, simp length-set c.loop-i.invariant.1)

pub bounds-question-at-2 : goal.bounds-question-at-2
bounds-question-at-2 c = let h = length-words_of c.args.bytes.now in let s = c.loop-i.invariant.1 in let q = c.requires.bytes_in_bounds in omega arith

pub returns : goal.returns
returns c = let h = length-words_of c.args.bytes.now in (omega arith, all-written (renumbered_by c.args.n c.args.table.now) (words_of c.args.bytes.now) c.loop-i.question c.args.question.now c.args.at c.loop-i.i _ (sym h) (omega arith) c.loop-i.invariant.0)
