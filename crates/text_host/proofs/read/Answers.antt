-- `text_host::read` meets its contract: of a refusal no word is written.
use native.Mathlib.Omega.{arith}
use Rattle.text_host.proofs.Taken.{read_short, read_left, read_done}
use Rattle.text_host.proofs.read.Goals as goal

pub give-requires : goal.give-requires
give-requires c = let s = read_short c.args.text.now c.args.own.now c.read_text.ensures.value in let l = read_left c.args.text.now c.args.own.now c.read_text.ensures.room_after in let p = c.requires in (omega arith, omega arith, omega arith)

pub returns-clause-value : goal.returns-clause-value
returns-clause-value c = (read_done c.args.text.now c.args.own.now c.args.room.now c.read_text.ensures.value c.read_text.ensures.room_after c.give.ensures.value c.give.ensures.room_after).0

pub returns-clause-room_after : goal.returns-clause-room_after
returns-clause-room_after c = (read_done c.args.text.now c.args.own.now c.args.room.now c.read_text.ensures.value c.read_text.ensures.room_after c.give.ensures.value c.give.ensures.room_after).1
