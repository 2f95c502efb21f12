use Prim.Native.Nat.{◌/◌}
use mathlib.Core.Path.{◌∙◌}
use native.Mathlib.Omega.{arith}
use lib.ListN.{length}
use Rattle.word_bytes.specs.Bytes.{words_of}
use Rattle.sheets.specs.Layout.{parts_at}
use Rattle.day.proofs.Headers.{rest-first, rest-done, rest-falls, rest-on}
use Rattle.day.proofs.rises.Goals as goal

pub loop-i-init : goal.loop-i-init
loop-i-init c = let a = c.args in rest-first (words_of a.sheet.now) a.n (parts_at a.n) (length a.sheet.now / 2)

pub returns-then-to-from : goal.returns-then-to-from
returns-then-to-from c = let l = c.loop-i in rest-falls _ _ l.i l.from _ (omega arith) _ c.offset-to.ensures.0 c.if-to-from.true ∙ l.invariant

pub loop-i-preserved : goal.loop-i-preserved
loop-i-preserved c = let l = c.loop-i in rest-on _ _ l.i l.from _ (omega arith) _ c.offset-to.ensures.0 c.if-to-from.false ∙ l.invariant

pub returns : goal.returns
returns c = let l = c.loop-i in rest-done _ _ l.i l.from _ (omega arith) ∙ l.invariant
