-- `text_host::give` meets its contract: by what was read.
use mathlib.Core.Path.{sym, ap, ◌∙◌}
use native.Mathlib.Omega.{arith}
use lib.ListN.{take, length-take}
use lib.Seq.{sets, length-take-le}
use Rattle.word_bytes.specs.Bytes.{bytes_of}
use Rattle.text_host.specs.Texts.{given_number, given_words}
use Rattle.text_host.proofs.Taken.{none-given}
use Rattle.text_host.proofs.give.Goals as goal

pub slice_bounds-write_words-end : goal.slice_bounds-write_words-end
slice_bounds-write_words-end c = let e = ap given_words c.in-Ok.is in let p = c.requires in sym (length-take-le _ _ (omega arith))

pub write_words-requires : goal.write_words-requires
write_words-requires c = let e = ap given_words c.in-Ok.is in let p = c.requires in simp length-take (omega arith)

pub returns-in-Ok : goal.returns-in-Ok
returns-in-Ok c = record {
  value = sym (ap given_number c.in-Ok.is);
  room_after = c.write_words.ensures ∙ ap (λ n. sets c.args.room.now 0 (bytes_of (take n c.args.own.now))) (sym (ap given_words c.in-Ok.is));
}

pub returns-in-Err : goal.returns-in-Err
returns-in-Err c = record {
  value = c.from.ensures ∙ c.number.ensures ∙ sym (ap given_number c.in-Err.is);
  room_after = none-given c.args.own.now c.args.room.now c.in-Err.is;
}
