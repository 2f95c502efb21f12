-- `run`: the conjunctions are laid out, the answer begun, and the run goes on from there.
use mathlib.Core.Path.{sym, ◌∙◌}
use mathlib.Core.List.{[]}
use Rattle.language.specs.Limits.{desk}
use Rattle.language.specs.Question.{read_question}
use Rattle.rules.specs.Run.{numbered}
use Rattle.replay.specs.Trail.{trail}
use Rattle.running.specs.Turning.{signature_of, conjunctions_of}
use Rattle.running.proofs.Gone.{ends_as}
use Rattle.running.proofs.Asked.{asked-fits, asked-long, asked-laid, asked-signature, under-way, begin-left}
use Rattle.running.proofs.turns.run.Goals as goal

pub lay_out-at-requires : goal.lay_out-at-requires
lay_out-at-requires c = let p = c.requires in (asked-fits _ p.0, asked-laid _ p.0, p.1)

pub signature_of-signature-requires : goal.signature_of-signature-requires
signature_of-signature-requires c = asked-long _ c.requires.0

pub go_on-requires : goal.go_on-requires
go_on-requires c = let p = c.requires in
    let a = c.args in
    let q = a.question.now in
    record {
      old = a.out.now;
      whole = trail desk (signature_of (read_question desk q)) (conjunctions_of (read_question desk q));
      old_work = a.work.now;
      old_answer = a.answer.now;
      lines = [];
      waits = numbered 0 (conjunctions_of (read_question desk q));
      under =
          under-way q p.0 a.course a.told.now a.out.now a.work.now a.answer.now _ _ _ _ _ (c.signature_of-signature.ensures ∙ sym (asked-signature q p.0)) p.1 p.2 c.begin-tally.auto.answer c.lay_out-at.ensures
          c.begin-tally.ensures;
    }

pub returns : goal.returns
returns c = let p = c.requires in
    let a = c.args in
    let q = a.question.now in
    let signed = c.signature_of-signature.ensures ∙ sym (asked-signature q p.0) in
    ends_as (begin-left q p.0 a.course a.told.now a.out.now _ _ _ signed)
    (c.go_on.ensures a.out.now (trail desk (signature_of (read_question desk q)) (conjunctions_of (read_question desk q))) a.work.now a.answer.now [] (numbered 0 (conjunctions_of (read_question desk q)))
    (under-way q p.0 a.course a.told.now a.out.now a.work.now a.answer.now _ _ _ _ _ signed p.1 p.2 c.begin-tally.auto.answer c.lay_out-at.ensures c.begin-tally.ensures))
