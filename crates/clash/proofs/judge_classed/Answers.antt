-- The walk, the marks, and the first pair.
use native.Mathlib.Omega.{arith}
use mathlib.Core.Path.{refl, sym, ap, ◌∙◌}
use mathlib.Core.Bool.{Bool, true, false}
use lib.ListN.{length-replicate}
use Rattle.clash.specs.Chains.{stops}
use Rattle.clash.specs.declared.Verdict.TheVariants.{Shares, Clashes}
use Rattle.clash.proofs.Verdicts.{judged-long, judged, chained-none, found_none, first-set}
use Rattle.clash.proofs.judge_classed.Goals as goal

pub overflow_mul-at : goal.overflow_mul-at
overflow_mul-at c = let b = c.requires in let x = b.one in let y = b.apart in let z = b.two in let v = b.within in let w = b.few in omega arith

pub narrow-one-requires : goal.narrow-one-requires
narrow-one-requires c = let b = c.requires in let x = b.one in let y = b.apart in let z = b.two in let v = b.within in let w = b.few in omega arith

pub overflow_mul-at-2 : goal.overflow_mul-at-2
overflow_mul-at-2 c = let b = c.requires in let x = b.one in let y = b.apart in let z = b.two in let v = b.within in let w = b.few in omega arith

pub narrow-other-requires : goal.narrow-other-requires
narrow-other-requires c = let b = c.requires in let x = b.one in let y = b.apart in let z = b.two in let v = b.within in let w = b.few in omega arith

pub add-requires : goal.add-requires
add-requires c = (omega arith, found_none)

pub invariant_of-met : goal.invariant_of-met
invariant_of-met c = record { chained = chained-none stops 4093 refl refl }

pub walk_on-requires : goal.walk_on-requires
walk_on-requires c = (c.requires, c.add.ensures.count_after, length-replicate {A = Bool} stops false)

pub returns-then-met-gt-PAIRS : goal.returns-then-met-gt-PAIRS
returns-then-met-gt-PAIRS c = λ R S st. judged-long (first-set _ _ _ refl c.add.ensures.left_after c.narrow-one.ensures) (first-set _ _ _ refl c.add.ensures.right_after c.narrow-other.ensures) c.walk_on.ensures.0 c.walk_on.new.met.chained c.args.term c.if-met-gt-PAIRS.true R S st

pub settle-requires : goal.settle-requires
settle-requires c = (c.requires, c.walk_on.ensures.1)

pub first_shares-shares-requires : goal.first_shares-shares-requires
first_shares-shares-requires c = (c.requires, c.walk_on.ensures.0.some)

pub returns-then-shares : goal.returns-then-shares
returns-then-shares c = λ R S st. ap (λ b. elim b [ true ↦ Shares | false ↦ Clashes ]) (sym c.if-shares.true) ∙ judged (first-set _ _ _ refl c.add.ensures.left_after c.narrow-one.ensures) (first-set _ _ _ refl c.add.ensures.right_after c.narrow-other.ensures) c.walk_on.ensures.0 c.walk_on.new.met.chained c.args.term _ c.if-met-gt-PAIRS.false c.settle.ensures c.first_shares-shares.ensures R S st

pub returns : goal.returns
returns c = λ R S st. ap (λ b. elim b [ true ↦ Shares | false ↦ Clashes ]) (sym c.if-shares.false) ∙ judged (first-set _ _ _ refl c.add.ensures.left_after c.narrow-one.ensures) (first-set _ _ _ refl c.add.ensures.right_after c.narrow-other.ensures) c.walk_on.ensures.0 c.walk_on.new.met.chained c.args.term _ c.if-met-gt-PAIRS.false c.settle.ensures c.first_shares-shares.ensures R S st
