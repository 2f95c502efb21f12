use borrow.Enum.Refused.{opened}
use Prim.Native.Nat.{◌+◌}
use mathlib.Core.Path.{ap, ◌∙◌}
use Rattle.language.specs.Limits.{desk}
use Rattle.language.specs.Kinds.{kind_of}
use Rattle.word_bytes.specs.Bytes.{words_of}
use Rattle.word_bytes.proofs.Pairs.{length-words_of}
use Rattle.patterns.specs.Tables.{at_hedges, at_functions}
use Rattle.patterns.proofs.Noting.{none-noted, one_more, term-range, run-range, function-range, term-noted, run-noted, function-noted, other-noted, all_noted}
use native.Mathlib.Omega.{arith}
use Rattle.patterns.proofs.number_blanks.Goals as goal
use Rattle.patterns.proofs.number_blanks.Goals.{in-Term, in-Run, in-Function, in_default}

pub loop-i-init : goal.loop-i-init
loop-i-init c = (none-noted _ c.requires, omega arith, omega arith, omega arith)

pub word_at-word-requires : goal.word_at-word-requires
word_at-word-requires c = let h = length-words_of c.args.bytes.now in omega arith

pub note-terms-requires : goal.note-terms-requires
note-terms-requires c = let h = length-words_of c.args.bytes.now in let r = term-range (words_of c.args.bytes.now) c.loop-i.i (omega arith) _ _ c.loop-i.invariant.0 _ (c.classify.ensures ∙ ap (kind_of desk) c.word_at-word.ensures) c.in-Term.is in let s = c.loop-i.invariant.0.table.size in let w = c.wide.ensures in (omega arith, omega arith)

pub note-hedges-requires : goal.note-hedges-requires
note-hedges-requires c = let h = length-words_of c.args.bytes.now in let r = run-range (words_of c.args.bytes.now) c.loop-i.i (omega arith) _ _ c.loop-i.invariant.0 _ (c.classify.ensures ∙ ap (kind_of desk) c.word_at-word.ensures) c.in-Run.is in let s = c.loop-i.invariant.0.table.size in let w = c.wide-in-Run.ensures in (omega arith, omega arith)

pub note-functions-requires : goal.note-functions-requires
note-functions-requires c = let h = length-words_of c.args.bytes.now in let r = function-range (words_of c.args.bytes.now) c.loop-i.i (omega arith) _ _ c.loop-i.invariant.0 _ (c.classify.ensures ∙ ap (kind_of desk) c.word_at-word.ensures) c.in-Function.is in let s = c.loop-i.invariant.0.table.size in let w = c.wide-in-Function.ensures in (omega arith, omega arith)

pub loop-i-preserved : goal.loop-i-preserved
loop-i-preserved c =
    let h = length-words_of c.args.bytes.now in
    elim c.match-classify.branch [
      | in-Term w ↦ rw (w.table-is, w.terms-is, w.hedges-is, w.functions-is) (
        term-noted (words_of c.args.bytes.now) c.loop-i.i (omega arith) _ _ c.loop-i.invariant.0 _ (c.classify.ensures ∙ ap (kind_of desk) c.word_at-word.ensures) _ _ w.in-Term.is _ w.wide.ensures w.note-terms.ensures.0 w.note-terms.ensures.1,
        one_more c.loop-i.table w.wide.result c.loop-i.terms _ c.loop-i.i w.note-terms.ensures.0 c.loop-i.invariant.1,
        omega arith,
        omega arith,
      )
      | in-Run w ↦ rw (w.table-is, w.terms-is, w.hedges-is, w.functions-is) (
        run-noted (words_of c.args.bytes.now) c.loop-i.i (omega arith) _ _ c.loop-i.invariant.0 _ (c.classify.ensures ∙ ap (kind_of desk) c.word_at-word.ensures) _ _ w.in-Run.is _ w.wide-in-Run.ensures w.note-hedges.ensures.0 w.note-hedges.ensures.1,
        omega arith,
        one_more c.loop-i.table (at_hedges + w.wide-in-Run.result) c.loop-i.hedges _ c.loop-i.i w.note-hedges.ensures.0 c.loop-i.invariant.2,
        omega arith,
      )
      | in-Function w ↦ rw (w.table-is, w.terms-is, w.hedges-is, w.functions-is) (
        function-noted (words_of c.args.bytes.now) c.loop-i.i (omega arith) _ _ c.loop-i.invariant.0 _ (c.classify.ensures ∙ ap (kind_of desk) c.word_at-word.ensures) _ _ w.in-Function.is _ w.wide-in-Function.ensures w.note-functions.ensures.0 w.note-functions.ensures.1,
        omega arith,
        omega arith,
        one_more c.loop-i.table (at_functions + w.wide-in-Function.result) c.loop-i.functions _ c.loop-i.i w.note-functions.ensures.0 c.loop-i.invariant.3,
      )
      | in_default w ↦ rw (w.table-is, w.terms-is, w.hedges-is, w.functions-is) (
        other-noted (words_of c.args.bytes.now) c.loop-i.i (omega arith) _ _ c.loop-i.invariant.0 _ (c.classify.ensures ∙ ap (kind_of desk) c.word_at-word.ensures) (opened w.in_default.in_default-own.keys4),
        omega arith,
        omega arith,
        omega arith,
      )
    ]

pub returns : goal.returns
returns c = let h = length-words_of c.args.bytes.now in all_noted _ c.loop-i.i _ _ (omega arith) c.loop-i.invariant.0
