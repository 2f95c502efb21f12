-- `day::rises` meets its contract. The loop keeps what is to be returned.
use Prim.Native.Nat.{◌/◌}
use mathlib.Core.Path.{◌≡◌}
use lib.ListN.{length, drop}
use Rattle.language.specs.Question.{rising}
use Rattle.word_bytes.specs.Bytes.{words_of}
use Rattle.sheets.specs.Layout.{undoubled, parts_at}
use Rattle.day.proofs.Headers.{rest}
use Rattle.day.proofs.rises.Given as goal

abbrev pub invariant-loop-i : goal.invariant-loop-i
invariant-loop-i l = rising l.from (rest (words_of l.sheet) l.n l.i) (length l.sheet / 2) ≡ rising (parts_at l.n) (undoubled l.n (drop 3 (words_of l.sheet))) (length l.sheet / 2)
