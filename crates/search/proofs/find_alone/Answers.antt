use Prim.Native.Nat.{◌-◌}
use native.Mathlib.Omega.{arith}
use mathlib.Core.Path.{◌≡◌, refl, ap, ◌∙◌}
use mathlib.Core.List.{[], ◌∷◌, ◌++◌}
use Rattle.views.specs.Standing.{SomeLiteral}
use Rattle.search.specs.Seeking.{lesser_of, best_from, best_alone}
use Rattle.views.proofs.LiteralWalks.{walk-starts, walk_here, walk-to, walk_ends}
use Rattle.search.proofs.Finding.{placed_on, passed_to}
use Rattle.search.proofs.find_alone.Invariants.{Known}
use Rattle.search.proofs.find_alone.Goals as goal

pub loop-i-init : goal.loop-i-init
unfolding best_alone
loop-i-init c = (λ h. absurd (omega arith), λ x f e. walk-starts (Known c.args.s _ x) x refl)

pub rank_at-passed-requires-clause-some_literal : goal.rank_at-passed-requires-clause-some_literal
rank_at-passed-requires-clause-some_literal c = let k = c.args.k.now in
    let x = c.requires.conjunction in
    walk_here k x.conj x.fine x.words c.loop-i.i (Known c.args.s c.loop-i.best x.conj) (SomeLiteral k c.loop-i.i) (c.loop-i.invariant.1 x.conj x.fine x.words) c.loop-i-test.true
    λ done l rest p d. record { before = done; l = l; behind = rest; stands = p }

pub loop-i-preserved : goal.loop-i-preserved
loop-i-preserved c = (
  placed_on _ c.loop-i.best c.rank_at-passed.result.best c.lesser-best.result c.lesser-best.ensures c.loop-i.invariant.0 (λ _. let z = c.rank_at-passed.ensures.0 in omega arith),
  λ x f e.
      walk-to c.args.k.now x f e c.loop-i.i (Known c.args.s c.loop-i.best x) (Known c.args.s c.lesser-best.result x) _ (c.loop-i.invariant.1 x f e) c.loop-i-test.true
      λ done l rest p d.
      let r = c.rank_at-passed.ensures.1 done l rest p in (
        passed_to c.args.k.now c.loop-i.i c.rank_at-passed.result.end _ done l rest p r.1 c.beyond-i.ensures.2 c.beyond-i.ensures.3,
        ap (λ b. best_from c.args.s b (done ++ (l ∷ [])) rest) (c.lesser-best.ensures ∙ ap (lesser_of c.loop-i.best) r.0) ∙ d,
      ),
)

pub returns : goal.returns
returns c = (c.loop-i.invariant.0, λ x f e. walk_ends c.args.k.now x f e c.loop-i.i (Known c.args.s c.loop-i.best x) (c.loop-i.invariant.1 x f e) c.loop-i-test.false)

pub loop-i-smaller : goal.loop-i-smaller
loop-i-smaller c = let z = c.beyond-i.ensures.0 in omega arith
