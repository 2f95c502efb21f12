-- `text_host::desk_write_text` meets its contract: the words lent come to what the bytes come to.
use Rattle.text_host.proofs.Written.{told-short, told-number, told-left}
use Rattle.text_host.proofs.desk_write_text.Goals as goal

pub told-requires : goal.told-requires
told-requires c = told-short _ _ _ c.write_text.ensures.value

pub returns : goal.returns
returns c = record {
  value = told-number c.args.question.now c.args.room.now _ c.take_words-n.ensures.words_after.0 c.write_text.ensures.value c.told.ensures;
  room_after = told-left c.args.question.now c.args.room.now _ c.take_words-n.ensures.words_after.0 c.write_text.ensures.room_after;
}
