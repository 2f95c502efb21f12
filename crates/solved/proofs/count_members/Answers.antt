use Prim.Native.Nat.{ℕ, ◌+◌, ◌-◌}
use native.Mathlib.Omega.{arith}
use mathlib.Core.Path.{sym, ap, ◌∙◌, subst}
use mathlib.Core.List.{[], ◌∷◌, ◌++◌}
use lib.ListN.{length, get_or, length-replicate}
use Rattle.counts.specs.Tables.{table as places}
use Rattle.views.proofs.LiteralWalks.{walk-starts, walk-on, walk_ends}
use Rattle.solved.specs.Members.{InMembers}
use Rattle.solved.proofs.Memberships.{in-length, in-short, next-within, counts-on, counts-none, none-short}
use Rattle.solved.proofs.count_members.Goals as goal

pub loop-i-init : goal.loop-i-init
loop-i-init c = (ap length c.requires.1 ∙ length-replicate {A = ℕ} places 0, omega arith, none-short c.requires.1, λ x f e. walk-starts (λ done rest. InMembers c.args.members.now done) x (counts-none c.requires.1))

pub member_in-requires : goal.member_in-requires
member_in-requires c = let l = c.loop-i.invariant in
    let n = next-within c.args.k.now c.loop-i.i _ c.loop-i-test.true c.next_literal-next.ensures in
    let q = c.requires.0 in
    (c.loop-i-test.true, n.1, l.0, λ x. let z = l.2 x in let n₀ = n.0 in let n₁ = n.1 in omega arith)

pub loop-i-smaller : goal.loop-i-smaller
loop-i-smaller c = let n = next-within c.args.k.now c.loop-i.i _ c.loop-i-test.true c.next_literal-next.ensures in omega arith

pub loop-i-preserved : goal.loop-i-preserved
loop-i-preserved c = let l = c.loop-i.invariant in
    let n = next-within c.args.k.now c.loop-i.i _ c.loop-i-test.true c.next_literal-next.ensures in (
      ap length c.member_in.ensures ∙ in-length c.args.k.now c.loop-i.members c.loop-i.i c.next_literal-next.result ∙ l.0,
      n.1,
      (λ x. let z = l.2 x in let y = in-short c.args.k.now c.loop-i.members c.loop-i.i c.next_literal-next.result l.0 n.1 (omega arith) x in let e = ap (λ s. get_or s x 0) c.member_in.ensures in let n₀ = n.0 in omega arith),
      λ x f e.
          walk-on c.args.k.now x f e c.loop-i.i (λ done rest. InMembers c.loop-i.members done) (λ done rest. InMembers _ done) _ (l.3 x f e) c.loop-i-test.true c.next_literal-next.ensures
          λ done a rest p d. subst (λ t. InMembers t (done ++ (a ∷ []))) (sym c.member_in.ensures) (counts-on p c.next_literal-next.ensures l.0 d),
    )

pub returns : goal.returns
returns c = λ x f e. walk_ends c.args.k.now x f e c.loop-i.i (λ done rest. InMembers c.loop-i.members done) (c.loop-i.invariant.3 x f e) c.loop-i-test.false
