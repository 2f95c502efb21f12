-- An equation from its written side, then from the other; or a membership.
use mathlib.Core.Path.{◌≡◌, sym, ◌∙◌}
use mathlib.Core.Bool.{true}
use mathlib.Core.List.{◌∷◌, ◌++◌}
use Rattle.rules.specs.Solved.{solved_literal}
use Rattle.views.proofs.LiteralWalks.{at-equation, at-membership}
use Rattle.counts.specs.Tables.{Tallied}
use Rattle.counts.proofs.Own.{beside, beside-turned}
use Rattle.solved.specs.Members.{InMembers}
use Rattle.solved.proofs.Marked.{written-solves, other-solves}
use Rattle.solved.proofs.solved_literal.Goals as goal

pub returns-then-lonely_side : goal.returns-then-lonely_side
returns-then-lonely_side c = at-equation c.args.k.now c.args.at (λ before l behind. Tallied c.args.table.now (before ++ (l ∷ behind)) → InMembers c.args.members.now (before ++ (l ∷ behind)) → true ≡ solved_literal (before ++ behind) l) c.if-k-at-eq5000.true
    λ before l r behind p y m. written-solves (before ++ behind) l r (sym c.if-lonely_side.true ∙ c.lonely_side.ensures _ before l r behind (c.see-v.ensures.0 before l r behind p) (beside before l r behind y))

pub returns-then-k-at-eq5000 : goal.returns-then-k-at-eq5000
returns-then-k-at-eq5000 c = at-equation c.args.k.now c.args.at (λ before l behind. Tallied c.args.table.now (before ++ (l ∷ behind)) → InMembers c.args.members.now (before ++ (l ∷ behind)) → c.lonely_side-then-k-at-eq5000.result ≡ solved_literal (before ++ behind) l) c.if-k-at-eq5000.true
    λ before l r behind p y m.
    let s = c.see-v.ensures.0 before l r behind p in
    other-solves (before ++ behind) l r (sym c.if-lonely_side.false ∙ c.lonely_side.ensures _ before l r behind s (beside before l r behind y)) _
    (c.lonely_side-then-k-at-eq5000.ensures _ before r l behind (c.swapped.ensures.0 c.args.k.now before behind l r s) (beside-turned (beside before l r behind y)))

pub returns : goal.returns
returns c = at-membership c.args.k.now c.args.at (λ before l behind. Tallied c.args.table.now (before ++ (l ∷ behind)) → InMembers c.args.members.now (before ++ (l ∷ behind)) → c.lone_member.result ≡ solved_literal (before ++ behind) l) c.if-k-at-eq5000.false
    λ before h R behind p y m. c.lone_member.ensures _ before h R behind (c.show_membership-s.ensures.0 before h R behind p) m
