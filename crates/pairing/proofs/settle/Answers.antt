-- `pairing::settle` meets its contract: each return cites the law of what the answer holds.
use Prim.Native.Nat.{ℕ}
use mathlib.Core.Path.{refl, sym, ◌∙◌}
use mathlib.Core.List.{List}
use lib.ListN.{replicate}
use Rattle.language.specs.Limits.{desk}
use Rattle.pairing.proofs.Telling.{settle-refused, settle-none, settle-open, settle-shown}
use Rattle.pairing.proofs.settle.Goals as goal

-- the library's own slices at the start
abbrev clear : List ℕ
clear = replicate desk.room 0

pub returns-then-k-ne0 : goal.returns-then-k-ne0
returns-then-k-ne0 c = λ word ps qs x. settle-refused c.args.question.now clear clear _ _ c.solve-s.result refl refl c.solve-s.ensures c.args.size c.args.at c.args.room.now word ps qs _ _ c.outcome_number-k.ensures c.if-k-ne0.true c.from.ensures

pub returns-then-lines-eq0 : goal.returns-then-lines-eq0
returns-then-lines-eq0 c = λ word ps qs x. settle-none c.args.question.now clear clear _ _ c.solve-s.result refl refl c.solve-s.ensures c.args.size c.args.at c.args.room.now word ps qs (sym c.outcome_number-k.ensures ∙ c.if-k-ne0.false) _ (c.from-lines.ensures ∙ c.word.ensures) c.if-lines-eq0.true

pub returns-then-i-lines : goal.returns-then-i-lines
returns-then-i-lines c = λ word ps qs x. settle-open c.args.question.now clear clear _ _ c.solve-s.result refl refl c.solve-s.ensures c.args.size c.args.at c.args.room.now word ps qs (sym c.outcome_number-k.ensures ∙ c.if-k-ne0.false) _ (c.from-lines.ensures ∙ c.word.ensures) c.if-lines-eq0.false _ c.first_settled-i.ensures c.if-i-lines.true

pub show-requires : goal.show-requires
show-requires c = (c.requires.0, c.solve-s.auto.work, c.solve-s.auto.answer, c.requires.1)

pub returns : goal.returns
returns c = λ word ps qs x. settle-shown c.args.question.now clear clear _ _ c.solve-s.result refl refl c.solve-s.ensures c.args.size c.args.at c.args.room.now word ps qs (sym c.outcome_number-k.ensures ∙ c.if-k-ne0.false) _ (c.from-lines.ensures ∙ c.word.ensures) c.if-lines-eq0.false _ c.first_settled-i.ensures c.if-i-lines.false _ _ (c.show.ensures word ps qs x)
