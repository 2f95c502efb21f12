-- `overlap::row` meets its contract: the report, and then what stands before it.
use Rattle.word_bytes.specs.Bytes.{words_of}
use Rattle.overlap.proofs.Tabling.{row_is}
use native.Mathlib.Omega.{arith}
use Rattle.overlap.proofs.row.Goals as goal

pub returns : goal.returns
returns c = row_is c.args.size c.args.word (words_of c.args.sheet.now) c.args.i c.args.j c.args.to c.args.room.now _ _ _ _ c.meet-n.result c.word_at.result c.word_at-2.result c.pattern.ensures c.pattern-2.ensures c.meet-n.ensures c.word_at.ensures c.word_at-2.ensures c.write_words_at.ensures

pub meet-n-requires : goal.meet-n-requires
meet-n-requires c = omega arith
