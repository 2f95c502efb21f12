use Prim.Native.Nat.{◌-◌}
use native.Mathlib.Omega.{arith}
use mathlib.Core.Path.{sym, ◌∙◌}
use borrow.Author.Rules.{rules}
use Rattle.clashes.proofs.Behind.{behind-starts, behind-ends, next-within, two-tests, behind-passed, behind-shares, behind-clashes, behind-long}
use Rattle.clashes.proofs.test_behind.Goals as goal

pub loop-j-init : goal.loop-j-init
loop-j-init c = (
  search rules,
  c.next_literal-end.ensures,
  c.is_term-term.ensures,
  λ before l behind p. (c.lone_at-x.ensures before l behind p, behind-starts p c.args.s c.next_literal-end.ensures),
)

pub test_pair-requires : goal.test_pair-requires
test_pair-requires c = let m = c.requires.some_literal in
    let i = c.loop-j.invariant in
    let known = i.3 m.before m.l m.behind m.stands in
    let within = next-within m.stands c.args.s i.1 known.1 c.loop-j-test.true c.next_literal-next.ensures in
    let le = i.0 in
    let lt = c.loop-j-test.true in record {
      k_len_bound = (c.requires.at_in_bounds.1, omega arith, within);
      two = two-tests m.stands c.args.s i.1 known.1 lt known.0 c.lone_at-y.ensures (sym c.same_lone.ensures ∙ c.if-same_lone.true) le;
    }

pub returns-in-Clashes : goal.returns-in-Clashes
returns-in-Clashes c = let i = c.loop-j.invariant in
    λ before l behind p.
    let known = i.3 before l behind p in
    behind-clashes p c.args.s i.1 known.1 c.loop-j-test.true known.0 c.lone_at-y.ensures c.next_literal-next.ensures i.2
    (sym c.same_lone.ensures ∙ c.if-same_lone.true) c.test_pair.ensures (sym c.in-Clashes.is)

pub returns-in-Long : goal.returns-in-Long
returns-in-Long c = let i = c.loop-j.invariant in
    λ before l behind p.
    let known = i.3 before l behind p in
    behind-long p c.args.s i.1 known.1 c.loop-j-test.true known.0 c.lone_at-y.ensures c.next_literal-next.ensures i.2
    (sym c.same_lone.ensures ∙ c.if-same_lone.true) c.test_pair.ensures (sym c.in-Long.is)

pub loop-j-smaller-in-Shares : goal.loop-j-smaller-in-Shares
loop-j-smaller-in-Shares c = let z = c.next_literal-next.ensures in omega arith

pub loop-j-preserved-in-Shares : goal.loop-j-preserved-in-Shares
loop-j-preserved-in-Shares c = let i = c.loop-j.invariant in
    let le = i.0 in (
      let z = c.next_literal-next.ensures in omega arith,
      i.1,
      i.2,
      λ before l behind p.
          let known = i.3 before l behind p in (
            known.0,
            behind-shares p c.args.s i.1 known.1 c.loop-j-test.true known.0 c.lone_at-y.ensures c.next_literal-next.ensures i.2
                (sym c.same_lone.ensures ∙ c.if-same_lone.true) c.test_pair.ensures (sym c.in-Shares.is),
          ),
    )

pub loop-j-smaller : goal.loop-j-smaller
loop-j-smaller c = let z = c.next_literal-next.ensures in omega arith

pub loop-j-preserved : goal.loop-j-preserved
loop-j-preserved c = let i = c.loop-j.invariant in
    let le = i.0 in (
      let z = c.next_literal-next.ensures in omega arith,
      i.1,
      i.2,
      λ before l behind p.
          let known = i.3 before l behind p in (
            known.0,
            behind-passed p c.args.s i.1 known.1 c.loop-j-test.true known.0 c.lone_at-y.ensures c.next_literal-next.ensures
                (sym c.same_lone.ensures ∙ c.if-same_lone.false),
          ),
    )

pub returns : goal.returns
returns c = λ before l behind p. behind-ends p c.args.s c.loop-j.invariant.1 (c.loop-j.invariant.3 before l behind p).1 c.loop-j-test.false
