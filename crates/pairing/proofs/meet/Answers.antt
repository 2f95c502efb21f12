-- `pairing::meet` meets its contract: what was answered of the question decides.
use Prim.Native.Nat.{ℕ}
use mathlib.Core.Path.{refl, sym, ap, ◌∙◌}
use mathlib.Core.List.{List}
use Rattle.std.specs.Prelude.{Err}
use lib.ListN.{replicate}
use Rattle.language.specs.Limits.{desk}
use Rattle.word_bytes.specs.Bytes.{words_in}
use Rattle.pairing.proofs.Telling.{pair-many, pair-long, asks-inside, asks-known}
use native.Mathlib.Omega.{arith}
use Rattle.pairing.proofs.meet.Goals as goal

-- the library's own question at the start
abbrev clear : List ℕ
clear = replicate desk.question 0

pub slice_bounds-decide-end : goal.slice_bounds-decide-end
slice_bounds-decide-end c = let z = asks-inside c.args.size c.args.word (words_in c.args.first.now) (words_in c.args.second.now) c.args.at c.args.room.now _ (sym c.ask.ensures.value ∙ c.in-Ok.is) clear _ refl c.ask.ensures.question_after in let k = c.ask.auto.question in omega arith

pub decide-requires : goal.decide-requires
decide-requires c = (record { word = c.args.word; one = words_in c.args.first.now; other = words_in c.args.second.now; known = asks-known c.args.size c.args.word (words_in c.args.first.now) (words_in c.args.second.now) c.args.at c.args.room.now _ (sym c.ask.ensures.value ∙ c.in-Ok.is) clear _ refl c.ask.ensures.question_after }, c.requires)

pub returns-in-Err-TooMany : goal.returns-in-Err-TooMany
returns-in-Err-TooMany c = pair-many c.args.size c.args.word (words_in c.args.first.now) (words_in c.args.second.now) c.args.at c.args.room.now (sym c.ask.ensures.value ∙ c.in-Err-TooMany.is ∙ ap Err c.in-Err-TooMany.field-0-is)

pub returns-in-Err-TooLong : goal.returns-in-Err-TooLong
returns-in-Err-TooLong c = pair-long c.args.size c.args.word (words_in c.args.first.now) (words_in c.args.second.now) c.args.at c.args.room.now (sym c.ask.ensures.value ∙ c.in-Err-TooLong.is ∙ ap Err c.in-Err-TooLong.field-0-is)

pub returns-in-Ok : goal.returns-in-Ok
returns-in-Ok c = c.decide.ensures _ _ _ (asks-known c.args.size c.args.word (words_in c.args.first.now) (words_in c.args.second.now) c.args.at c.args.room.now _ (sym c.ask.ensures.value ∙ c.in-Ok.is) clear _ refl c.ask.ensures.question_after)
