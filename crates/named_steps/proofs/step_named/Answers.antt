-- `step_named`: 1 to 6, one conjunction, and the step in a cleared room.
use mathlib.Core.Path.{sym, ap, ◌∙◌}
use native.Mathlib.Omega.{arith}
use Rattle.language.specs.declared.Signature.{Signature}
use Rattle.language.specs.Limits.{desk}
use Rattle.language.specs.Question.{read_question}
use Rattle.header.specs.declared.Header.{Header}
use Rattle.reader.proofs.Answers.{as-checked}
use Rattle.telling.specs.Telling.{triple_of}
use Rattle.named_steps.specs.Naming.{named_at}
use Rattle.named_steps.proofs.Making.{leaves-as}
use Rattle.named_steps.proofs.OfOne.{long-enough, of-none-or-more, was-fine, is_one, unread-leaves, short-work, long-work, refused-unread, step-leaves}
use Rattle.named_steps.proofs.step_named.Goals as goal

abbrev signed : Header → Signature
signed h = record { symbols = h.symbols; unordered = h.unordered }

pub returns-then-work-lt-ROOM : goal.returns-then-work-lt-ROOM
returns-then-work-lt-ROOM c = unread-leaves c.args.number (triple_of c.args.rule c.args.literal c.args.side) c.args.question.now c.args.work.now _ (short-work _ _ _ c.args.work.now c.if-work-lt-ROOM.true)

pub read_header-h-requires : goal.read_header-h-requires
read_header-h-requires c = long-enough c.args.question.now (was-fine _ _ c.read_question.ensures c.in-Ok.is)

pub returns-then-h-ne1 : goal.returns-then-h-ne1
returns-then-h-ne1 c = let t = triple_of c.args.rule c.args.literal c.args.side in
    unread-leaves c.args.number t c.args.question.now c.args.work.now _
    (long-work c.args.number t c.args.question.now c.args.work.now c.if-work-lt-ROOM.false
    ∙ of-none-or-more c.args.question.now (was-fine _ _ c.read_question.ensures c.in-Ok.is) (λ z. c.if-h-ne1.true (ap (λ (h : Header). h.alternatives) c.read_header-h.ensures ∙ z)) c.args.number t)

pub slice_bounds-make_step-start : goal.slice_bounds-make_step-start
slice_bounds-make_step-start c = let o = (is_one c.args.question.now _ c.read_question.ensures c.in-Ok.is _ c.read_header-h.ensures c.if-h-ne1.false).long in omega arith

pub slice_bounds-make_step-count : goal.slice_bounds-make_step-count
slice_bounds-make_step-count c = let o = (is_one c.args.question.now _ c.read_question.ensures c.in-Ok.is _ c.read_header-h.ensures c.if-h-ne1.false).long in omega arith

pub make_step-requires : goal.make_step-requires
make_step-requires c = let o = is_one c.args.question.now _ c.read_question.ensures c.in-Ok.is _ c.read_header-h.ensures c.if-h-ne1.false in
    let w = c.if-work-lt-ROOM.false in
    record {
      k_len_bound = (o.short, omega arith);
      conjunction = record { conj = o.conj; fine = o.fine; words = o.words };
    }

pub returns-in-Err : goal.returns-in-Err
returns-in-Err c = let t = triple_of c.args.rule c.args.literal c.args.side in
    unread-leaves c.args.number t c.args.question.now c.args.work.now _
    (long-work c.args.number t c.args.question.now c.args.work.now c.if-work-lt-ROOM.false
    ∙ refused-unread c.args.number t c.args.question.now c.args.work.now _ (sym c.in-Err.is ∙ as-checked _ (read_question desk c.args.question.now) c.read_question.ensures))

pub returns-else-h-ne1 : goal.returns-else-h-ne1
returns-else-h-ne1 c = let t = triple_of c.args.rule c.args.literal c.args.side in
    let o = is_one c.args.question.now _ c.read_question.ensures c.in-Ok.is _ c.read_header-h.ensures c.if-h-ne1.false in
    step-leaves c.args.number _ c.args.work.now _ _ _ c.clear.ensures
    (leaves-as c.args.number _ _ _ _ _
    (long-work c.args.number t c.args.question.now c.args.work.now c.if-work-lt-ROOM.false ∙ o.asked c.args.number t ∙ ap (λ σ. named_at desk c.args.number σ t o.conj) (sym (ap signed c.read_header-h.ensures)))
    (c.make_step.ensures o.conj o.fine o.words))
