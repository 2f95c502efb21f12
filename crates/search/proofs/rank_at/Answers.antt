-- An equation by the lesser of its two sides; or a membership.
use mathlib.Core.Path.{◌≡◌, refl}
use mathlib.Core.Bool.{true, false}
use lib.ListN.{drop}
use Rattle.language.specs.Writing.{conj_words}
use Rattle.views.proofs.Sides.{shows-finish}
use Rattle.views.proofs.LiteralWalks.{at-equation, at-membership}
use Rattle.search.specs.Seeking.{best, best_at}
use Rattle.search.proofs.Finding.{best-swapped, best-written, best-member}
use Rattle.literals.proofs.Seen.{membership-at}
use Rattle.counts.proofs.Own.{beside-here, beside-turned}
use Rattle.search.proofs.Counted.{counted-at, counted-turned}
use Rattle.search.proofs.rank_at.Goals as goal

pub rank_equation-written-requires : goal.rank_equation-written-requires
rank_equation-written-requires c = counted-at c.args.k.now c.args.at c.requires.some_literal _ c.if-k-at-eq5000.true c.see-v.ensures.0 c.requires.table_value

pub rank_equation-other-requires : goal.rank_equation-other-requires
rank_equation-other-requires c = counted-turned c.args.k.now _ _ c.swapped.ensures.0 (counted-at c.args.k.now c.args.at c.requires.some_literal _ c.if-k-at-eq5000.true c.see-v.ensures.0 c.requires.table_value)

pub rank_membership-rank-requires : goal.rank_membership-rank-requires
rank_membership-rank-requires c = membership-at c.args.k.now c.args.at c.requires.some_literal _ c.if-k-at-eq5000.false c.show_membership-m.ensures.0

pub returns-then-other-written : goal.returns-then-other-written
returns-then-other-written c = (
  refl,
  at-equation c.args.k.now c.args.at (λ before l behind. (best c.rank_equation-other.result c.args.at true ≡ best_at c.args.s before l behind) × (drop c.see-v.result.end c.args.k.now ≡ conj_words behind)) c.if-k-at-eq5000.true
      λ before l r behind p.
      let s = c.see-v.ensures.0 before l r behind p in (
        best-swapped c.args.s before l r behind _ c.rank_equation-written.result c.rank_equation-other.result p.place (c.rank_equation-written.ensures before behind l r s (beside-here p c.requires.table_value))
            (c.rank_equation-other.ensures before behind r l (c.swapped.ensures.0 c.args.k.now before behind l r s) (beside-turned (beside-here p c.requires.table_value))) c.if-other-written.true,
        s.finish,
      ),
)

pub returns-then-k-at-eq5000 : goal.returns-then-k-at-eq5000
returns-then-k-at-eq5000 c = (
  refl,
  at-equation c.args.k.now c.args.at (λ before l behind. (best c.rank_equation-written.result c.args.at false ≡ best_at c.args.s before l behind) × (drop c.see-v.result.end c.args.k.now ≡ conj_words behind)) c.if-k-at-eq5000.true
      λ before l r behind p.
      let s = c.see-v.ensures.0 before l r behind p in (
        best-written c.args.s before l r behind _ c.rank_equation-written.result c.rank_equation-other.result p.place (c.rank_equation-written.ensures before behind l r s (beside-here p c.requires.table_value))
            (c.rank_equation-other.ensures before behind r l (c.swapped.ensures.0 c.args.k.now before behind l r s) (beside-turned (beside-here p c.requires.table_value))) c.if-other-written.false,
        s.finish,
      ),
)

pub returns : goal.returns
returns c = (
  refl,
  at-membership c.args.k.now c.args.at (λ before l behind. (best c.rank_membership-rank.result c.args.at false ≡ best_at c.args.s before l behind) × (drop c.show_membership-m.result.end c.args.k.now ≡ conj_words behind)) c.if-k-at-eq5000.false
      λ before h R behind p.
      let s = c.show_membership-m.ensures.0 before h R behind p in
      (best-member c.args.s before h R behind _ _ p.place (c.rank_membership-rank.ensures before h R behind s), shows-finish s),
)
