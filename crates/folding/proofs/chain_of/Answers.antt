use mathlib.Core.Path.{refl, sym, ◌∙◌}
use native.Mathlib.Omega.{arith}
use lib.Seq.{slice}
use Rattle.folding.proofs.Buckets.{mixed-on, mixed-end, bucket-is, mod_below}
use Rattle.folding.proofs.chain_of.Goals as goal

pub overflow_add-s : goal.overflow_add-s
overflow_add-s c = let z = c.from.ensures in let y = c.shared_slice_known-in-loop-i-1.given c.loop-i.i in omega arith

pub loop-i-preserved : goal.loop-i-preserved
loop-i-preserved c = (mod_below _, mixed-on c.args.k.now c.loop-i.i c.args.to c.loop-i.s _ c.loop-i-test.true (let z = c.requires in let y = c.loop-i-test.true in omega arith) c.from.ensures ∙ c.loop-i.invariant.1)

pub returns : goal.returns
returns c = let e = bucket-is c.loop-i.s (slice c.args.from c.args.to c.args.k.now) (sym (mixed-end c.args.k.now c.loop-i.i c.args.to c.loop-i.s c.loop-i-test.false) ∙ c.loop-i.invariant.1) in
    (e, let z = c.loop-i.invariant.0 in omega arith)

pub loop-i-init : goal.loop-i-init
loop-i-init c = (omega arith, refl)
