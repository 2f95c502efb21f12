-- `lone_at`: an equation has none; of a membership the word behind its first says whether that is all.
use mathlib.Core.Path.{◌≡◌, refl, ap, ◌∙◌}
use Rattle.language.specs.Limits.{desk}
use Rattle.language.specs.Kinds.{kind_of}
use Rattle.views.proofs.LiteralWalks.{at-equation, at-membership}
use Rattle.clashes.specs.declared.Lone.TheVariants.{Nothing}
use Rattle.clashes.specs.Pairs.{lone_of, lone_kind}
use Rattle.clashes.proofs.Alone.{lone-of-ends, lone-of-goes-on}
use Rattle.clashes.proofs.lone_at.Goals as goal

pub returns-then-k-at-eq5000 : goal.returns-then-k-at-eq5000
returns-then-k-at-eq5000 c = at-equation c.args.k.now c.args.at (λ before l behind. Nothing ≡ lone_of l) c.if-k-at-eq5000.true (λ before l r behind p. refl)

pub returns-then-word-eq0 : goal.returns-then-word-eq0
returns-then-word-eq0 c = at-membership c.args.k.now c.args.at (λ before l behind. c.lone_word.result ≡ lone_of l) c.if-k-at-eq5000.false
    λ before h R behind p. c.lone_word.ensures ∙ ap (λ w. lone_kind (kind_of desk w)) c.word-then-word-eq0.ensures ∙ lone-of-ends p c.word.ensures c.if-word-eq0.true

pub returns : goal.returns
returns c = at-membership c.args.k.now c.args.at (λ before l behind. Nothing ≡ lone_of l) c.if-k-at-eq5000.false
    λ before h R behind p. lone-of-goes-on p c.word.ensures c.if-word-eq0.false
