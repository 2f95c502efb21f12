use Prim.Native.Nat.{◌-◌}
use native.Mathlib.Omega.{arith}
use Rattle.clashes.proofs.Firsts.{first-starts, first-literal, first_ends, first-clashes, first-long, first_on}
use Rattle.clashes.proofs.first_clash.Goals as goal

pub loop-i-init : goal.loop-i-init
loop-i-init c = λ x f e. first-starts c.args.s x

pub test_behind-requires : goal.test_behind-requires
test_behind-requires c = let x = c.requires.conjunction in
    record {
      at_in_bounds = (c.loop-i-test.true, c.requires.k_len_bound);
      some_literal = first-literal _ x.conj x.fine x.words c.args.s _ (c.loop-i.invariant x.conj x.fine x.words) c.loop-i-test.true;
    }

pub returns-in-Clashes : goal.returns-in-Clashes
returns-in-Clashes c = λ x f e. first-clashes _ x f e c.args.s _ (c.loop-i.invariant x f e) c.loop-i-test.true c.test_behind.ensures c.in-Clashes.is

pub returns-in-Long : goal.returns-in-Long
returns-in-Long c = λ x f e. first-long _ x f e c.args.s _ (c.loop-i.invariant x f e) c.loop-i-test.true c.test_behind.ensures c.in-Long.is

pub loop-i-smaller : goal.loop-i-smaller
loop-i-smaller c = let z = c.next_literal-i.ensures in omega arith

pub loop-i-preserved : goal.loop-i-preserved
loop-i-preserved c = λ x f e. first_on _ x f e c.args.s _ (c.loop-i.invariant x f e) c.loop-i-test.true c.test_behind.ensures c.in-Shares.is c.next_literal-i.ensures

pub returns : goal.returns
returns c = λ x f e. first_ends _ x f e c.args.s _ (c.loop-i.invariant x f e) c.loop-i-test.false
