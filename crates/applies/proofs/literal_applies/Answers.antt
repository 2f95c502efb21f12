-- `literal_applies`: an equation from one of its sides, or a membership.
use mathlib.Core.Path.{◌≡◌, ap, ◌∙◌}
use mathlib.Core.Bool.{not, ◌&&◌}
use mathlib.Core.List.{◌++◌}
use Rattle.language.specs.Kinds.{pick}
use Rattle.views.proofs.LiteralWalks.{at-equation, at-membership}
use Rattle.applies.specs.Answers.{answers_at}
use Rattle.applies.proofs.literal_applies.Goals as goal

pub returns-then-k-at-eq5000 : goal.returns-then-k-at-eq5000
returns-then-k-at-eq5000 c = at-equation c.args.k.now c.args.at (λ before l behind. c.equation_applies.result ≡ answers_at c.args.signature c.args.rank c.args.swap (before ++ behind) l) c.if-k-at-eq5000.true
    λ before l r behind p.
    c.equation_applies.ensures before behind (pick c.args.swap r l) (pick c.args.swap l r) (c.seen.ensures before l r behind p)

pub returns : goal.returns
returns c = at-membership c.args.k.now c.args.at (λ before l behind. c.and.result ≡ answers_at c.args.signature c.args.rank c.args.swap (before ++ behind) l) c.if-k-at-eq5000.false
    λ before h R behind p.
    c.and.ensures ∙ ap (λ b. not c.args.swap && b) (c.membership_applies-there.ensures before h R behind (c.show_membership-m.ensures.0 before h R behind p))
