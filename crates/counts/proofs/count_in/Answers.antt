use Prim.Native.Nat.{◌+◌}
use mathlib.Core.Path.{refl, ap, ◌∙◌}
use native.Mathlib.Omega.{arith}
use lib.ListN.{length, get_or}
use lib.Seq.{slice}
use Rattle.counts.specs.Tables.{added}
use Rattle.counts.proofs.Added.{in-at-most, length-in, added-on, added_none}
use Rattle.counts.proofs.count_in.Goals as goal

pub one_in-requires : goal.one_in-requires
one_in-requires c = let z = c.loop-i.invariant.1 c.from.result in omega arith

pub loop-i-preserved : goal.loop-i-preserved
loop-i-preserved c = (
  ap length c.one_in.ensures ∙ length-in c.from.result c.loop-i.t ∙ c.loop-i.invariant.0,
  λ x. let z = c.loop-i.invariant.1 x in let y = in-at-most c.from.result c.loop-i.t c.loop-i.invariant.0 x in let e = ap (λ s. get_or s x 0) c.one_in.ensures in omega arith,
  ap (added (slice (c.loop-i.i + 1) c.args.to c.args.k.now)) c.one_in.ensures ∙ added-on c.args.k.now c.loop-i.t c.loop-i.i c.args.to c.from.result c.loop-i-test.true c.requires.0 c.from.ensures ∙ c.loop-i.invariant.2,
)

pub returns : goal.returns
returns c = added_none c.args.k.now c.loop-i.t c.loop-i.i c.args.to c.loop-i-test.false ∙ c.loop-i.invariant.2

pub loop-i-init : goal.loop-i-init
loop-i-init c = (c.requires.1, c.requires.2, refl)
