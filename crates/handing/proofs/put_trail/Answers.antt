-- `handing::put_trail` meets its contract, by the number.
use mathlib.Core.Path.{sym, ◌∙◌}
use native.Mathlib.Omega.{arith}
use lib.ListN.{length-take}
use lib.Seq.{length-take-le}
use Rattle.handing.proofs.Handed.{trail-kept, trail-put, trail-cleared}
use Rattle.handing.proofs.put_trail.Goals as goal

pub returns-then-keeps_bytes : goal.returns-then-keeps_bytes
returns-then-keeps_bytes c = sym (trail-kept _ _ _ _ (sym c.keeps_bytes.ensures ∙ c.if-keeps_bytes.true))

pub returns-then-number-gt0 : goal.returns-then-number-gt0
returns-then-number-gt0 c = let p = c.if-number-gt0.true in c.clear_words.ensures ∙ sym (trail-cleared _ _ _ _ (sym c.keeps_bytes.ensures ∙ c.if-keeps_bytes.false) (λ z. omega arith))

pub slice_bounds-write_words-end : goal.slice_bounds-write_words-end
slice_bounds-write_words-end c = sym (length-take-le _ _ (omega (arith, c.requires.0)))

pub write_words-requires : goal.write_words-requires
write_words-requires c = let p = c.requires in simp length-take (omega (arith, p.0, p.1))

pub returns : goal.returns
returns c = let p = c.if-number-gt0.false in c.write_words.ensures ∙ sym (trail-put _ _ _ _ (sym c.keeps_bytes.ensures ∙ c.if-keeps_bytes.false) (omega arith))
