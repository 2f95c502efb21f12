-- `pairing::show` meets its contract: the example is refused, or the report is made of it.
use Prim.Native.Nat.{ℕ}
use mathlib.Core.Path.{refl, sym, ◌∙◌}
use mathlib.Core.List.{List}
use lib.ListN.{replicate}
use Rattle.language.specs.Limits.{desk}
use Rattle.pairing.proofs.Telling.{show-refused, show-sizes, show-few, show-inside, show-shows, show-told}
use native.Mathlib.Omega.{arith}
use Rattle.pairing.proofs.show.Goals as goal

-- the library's own room at the start
abbrev clear : List ℕ
clear = replicate desk.filling 0

pub returns-then-k-ne0 : goal.returns-then-k-ne0
returns-then-k-ne0 c = λ word ps qs x. show-refused c.args.question.now c.args.work.now c.args.answer.now clear _ _ _ c.args.line _ c.requires.1 c.requires.2 refl c.example-s.ensures c.args.p word ps qs x _ _ _ _ _ c.shown_number-k.ensures c.if-k-ne0.true c.from.ensures

pub slice_bounds-report-end : goal.slice_bounds-report-end
slice_bounds-report-end c = let k = c.example-s.auto.room in let z = show-few c.args.question.now c.args.work.now c.args.answer.now clear _ _ _ c.args.line _ c.requires.1 c.requires.2 refl c.example-s.ensures c.args.p (sym c.shown_number-k.ensures ∙ c.if-k-ne0.false) _ c.shown_length-n.ensures in omega arith

pub overflow_add-p : goal.overflow_add-p
overflow_add-p c = let z = show-inside c.args.question.now c.args.work.now c.args.answer.now clear _ _ _ c.args.line _ c.requires.1 c.requires.2 refl c.example-s.ensures c.args.p (sym c.shown_number-k.ensures ∙ c.if-k-ne0.false) _ c.shown_length-n.ensures c.requires.0 in omega arith

pub slice_bounds-report-end-2 : goal.slice_bounds-report-end-2
slice_bounds-report-end-2 c = let z = show-inside c.args.question.now c.args.work.now c.args.answer.now clear _ _ _ c.args.line _ c.requires.1 c.requires.2 refl c.example-s.ensures c.args.p (sym c.shown_number-k.ensures ∙ c.if-k-ne0.false) _ c.shown_length-n.ensures c.requires.0 in omega arith

pub report-requires : goal.report-requires
report-requires c = let t = show-sizes c.args.question.now c.args.work.now c.args.answer.now clear _ _ _ c.args.line _ c.requires.1 c.requires.2 refl c.example-s.ensures c.args.p (sym c.shown_number-k.ensures ∙ c.if-k-ne0.false) _ c.shown_length-n.ensures c.requires.0 in let k = c.example-s.auto.work in let l = c.requires.1 in record {
  shows = show-shows c.args.question.now c.args.work.now c.args.answer.now clear _ _ _ c.args.line _ c.requires.1 c.requires.2 refl c.example-s.ensures c.args.p (sym c.shown_number-k.ensures ∙ c.if-k-ne0.false) _ c.shown_length-n.ensures c.requires.0;
  filling_len_bound = (t.0, t.1, omega arith);
  size_in_bounds = c.requires.3;
}

pub returns : goal.returns
returns c = λ word ps qs x. show-told c.args.question.now c.args.work.now c.args.answer.now clear _ _ _ c.args.line _ c.requires.1 c.requires.2 refl c.example-s.ensures c.args.p (sym c.shown_number-k.ensures ∙ c.if-k-ne0.false) _ c.shown_length-n.ensures word ps qs x _ _ _ _ _ c.report.ensures
