use Prim.Native.Nat.{ℕ, ◌+◌, ◌<◌, ◌≤◌}
use mathlib.Core.Path.{refl, sym, ap, ◌∙◌, subst}
use lib.ListN.{length, get_or}
use lib.Seq.{slice}
use Rattle.counts.specs.Tables.{times, table, removed}
use Rattle.counts.proofs.Added.{out-left, out-here, length-out, removed-on, removed-none}
use Rattle.counts.proofs.count_out.Goals as goal

pub one_out-requires : goal.one_out-requires
one_out-requires c = out-here c.args.k.now c.loop-i.t c.loop-i.i c.args.to c.from.result c.loop-i-test.true c.requires.0 c.from.ensures c.loop-i.invariant.1

pub loop-i-preserved : goal.loop-i-preserved
loop-i-preserved c = (
  ap length c.one_out.ensures ∙ length-out c.from.result c.loop-i.t ∙ c.loop-i.invariant.0,
  subst (λ s. (x : ℕ) → x < table → times x (slice (c.loop-i.i + 1) c.args.to c.args.k.now) ≤ get_or s x 0) (sym c.one_out.ensures) (out-left c.args.k.now c.loop-i.t c.loop-i.i c.args.to c.from.result c.loop-i-test.true c.requires.0 c.from.ensures c.loop-i.invariant.0 c.loop-i.invariant.1),
  ap (removed (slice (c.loop-i.i + 1) c.args.to c.args.k.now)) c.one_out.ensures ∙ removed-on c.args.k.now c.loop-i.t c.loop-i.i c.args.to c.from.result c.loop-i-test.true c.requires.0 c.from.ensures ∙ c.loop-i.invariant.2,
)

pub returns : goal.returns
returns c = removed-none c.args.k.now c.loop-i.t c.loop-i.i c.args.to c.loop-i-test.false ∙ c.loop-i.invariant.2

pub loop-i-init : goal.loop-i-init
loop-i-init c = (c.requires.1, c.requires.2, refl)
