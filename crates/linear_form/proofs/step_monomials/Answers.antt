-- By the size of the results.
use Prim.Native.Nat.{ℕ}
use native.Mathlib.Omega.{arith}
use mathlib.Core.List.{List}
use Rattle.language.specs.Trees.{Hedge, Expr, mem, Conj}
use Rattle.views.specs.declared.Shape.{Shape}
use Rattle.views.specs.Standing.{LiteralAt}
use Rattle.views.specs.Views.{Shows, MembershipAt}
use Rattle.plans.specs.Sizes.{monomial_words}
use Rattle.linear_form.specs.Rows.{SomeMembership}
use Rattle.std.proofs.lemmas.Result.{err_from_is_err_and}
use Rattle.taking.proofs.Taken.{took-size, took-long, took-room, took-ready, took-done}
use Rattle.linear_form.proofs.step_monomials.Goals as goal

-- the membership, shown
shown-at : (k : List ℕ) (at : ℕ) (s : Shape) → ((before : Conj) (h : Hedge) (R : Expr) (behind : Conj) → LiteralAt k at before (mem h R) behind → Shows k s before h R behind)
    → SomeMembership k at → MembershipAt k s
shown-at k at s f m = record { before = m.before; h = m.h; R = m.R; behind = m.behind; shows = f m.before m.h m.R m.behind m.stands }

pub size_monomials-requires : goal.size_monomials-requires
size_monomials-requires c = record {
  k_len_bound = c.requires.k_len_bound.0;
  membership_at = shown-at c.args.k.now c.args.literal _ c.show_membership-s.ensures.0 c.requires.some_membership;
}

pub write_monomials-requires : goal.write_monomials-requires
write_monomials-requires c = let d = c.requires.k_len_bound in
    let m = shown-at c.args.k.now c.args.literal _ c.show_membership-s.ensures.0 c.requires.some_membership in
    let ws = monomial_words m.before m.h m.R m.behind in
    let e = c.size_monomials.ensures.each m.before m.h m.R m.behind m.shows in
    record {
      k_len_bound = (d.0, omega arith);
      room_for = record {
        membership = m;
        ready = took-ready _ ws c.args.out.now c.args.next _ e _ (took-size c.ok_or.ensures.value c.in_ok-n.was) c.if-next-n.false d.3 d.2;
      };
    }

pub returns-in_err-n : goal.returns-in_err-n
returns-in_err-n c = λ before h R behind p.
    let s = c.show_membership-s.ensures.0 before h R behind p in
    let r = err_from_is_err_and c.from_residual.result c.from_residual.ensures.1 in
    rw (r.1, r.2) (took-long _ (monomial_words before h R behind) _ _ _ (c.size_monomials.ensures.each before h R behind s) c.ok_or.ensures.value c.in_err-n.was)

pub returns-then-next-n : goal.returns-then-next-n
returns-then-next-n c = λ before h R behind p.
    let e = c.size_monomials.ensures.each before h R behind (c.show_membership-s.ensures.0 before h R behind p) in
    let ws = monomial_words before h R behind in
    took-room _ ws _ _ _ e _ (took-size c.ok_or.ensures.value c.in_ok-n.was) c.if-next-n.true

pub returns : goal.returns
returns c = λ before h R behind p.
    let s = c.show_membership-s.ensures.0 before h R behind p in
    let d = c.requires.k_len_bound in
    let e = c.size_monomials.ensures.each before h R behind s in
    let ws = monomial_words before h R behind in
    let f = took-size c.ok_or.ensures.value c.in_ok-n.was in
    took-done _ ws c.args.out.now c.args.next _ e _ f c.if-next-n.false _ _
    (c.write_monomials.ensures.each before h R behind s (took-ready _ ws c.args.out.now c.args.next _ e _ f c.if-next-n.false d.3 d.2))
