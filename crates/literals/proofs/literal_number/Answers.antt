use native.Mathlib.Omega.{arith}
use Rattle.literals.proofs.Walks.{counted-starts, counted-more, counted-within, counted-all}
use Rattle.literals.proofs.literal_number.Goals as goal

pub loop-i-init : goal.loop-i-init
loop-i-init c = (omega arith, omega arith, λ before l behind s. counted-starts before)

pub next_literal-i-requires : goal.next_literal-i-requires
next_literal-i-requires c = let z = c.requires.at_in_bounds in omega arith

pub loop-i-smaller : goal.loop-i-smaller
loop-i-smaller c = let z = c.next_literal-i.ensures in omega arith

pub loop-i-preserved : goal.loop-i-preserved
loop-i-preserved c = let m = c.requires.some_literal in
    let e = c.next_literal-i.ensures in
    let i = c.loop-i.invariant in
    let w = counted-more m.stands _ _ (i.2 m.before m.l m.behind m.stands) c.loop-i-test.true _ e in (
      omega arith,
      counted-within m.stands _ _ w,
      λ before l behind s. counted-more s _ _ (i.2 before l behind s) c.loop-i-test.true _ e,
    )

pub returns : goal.returns
returns c = let i = c.loop-i.invariant in
    (omega arith, λ before l behind s. counted-all s _ _ (i.2 before l behind s) c.loop-i-test.false)
