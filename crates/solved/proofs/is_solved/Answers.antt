use Prim.Native.Nat.{◌-◌}
use native.Mathlib.Omega.{arith}
use mathlib.Core.Path.{◌≡◌, refl, sym, ◌∙◌}
use mathlib.Core.Bool.{false}
use Rattle.rules.specs.Solved.{solved}
use Rattle.views.proofs.LiteralWalks.{walk-starts, walk_here, walk-on, walk_ends}
use Rattle.counts.proofs.Own.{counted-here}
use Rattle.solved.proofs.Marked.{Decides, decides-starts, decides-on, decides_not}
use Rattle.solved.proofs.Memberships.{members-here}
use Rattle.solved.proofs.is_solved.Goals as goal

pub count_members-requires : goal.count_members-requires
count_members-requires c = (c.requires.k_len_bound, refl)

pub returns-then-not-here : goal.returns-then-not-here
returns-then-not-here c = λ x f e.
    walk_here c.args.k.now x f e c.loop-i.i (Decides x) (false ≡ solved x) (c.loop-i.invariant x f e) c.loop-i-test.true
    λ done l rest p d. decides_not x done l rest (sym c.if-not-here.true ∙ c.solved_literal-here.ensures done l rest p (counted-here p c.requires.table_value) (members-here p c.count_members.ensures)) d

pub loop-i-smaller : goal.loop-i-smaller
loop-i-smaller c = let z = c.next_literal-next.ensures in omega arith

pub loop-i-preserved : goal.loop-i-preserved
loop-i-preserved c = λ x f e.
    walk-on c.args.k.now x f e c.loop-i.i (Decides x) (Decides x) _ (c.loop-i.invariant x f e) c.loop-i-test.true c.next_literal-next.ensures
    λ done l rest p d. decides-on x done l rest (sym c.if-not-here.false ∙ c.solved_literal-here.ensures done l rest p (counted-here p c.requires.table_value) (members-here p c.count_members.ensures)) d

pub returns : goal.returns
returns c = λ x f e. walk_ends c.args.k.now x f e c.loop-i.i (Decides x) (c.loop-i.invariant x f e) c.loop-i-test.false

pub loop-i-init : goal.loop-i-init
loop-i-init c = λ x f e. walk-starts (Decides x) x (decides-starts x)
