-- `note_step`: there is room for three words, or there is none.
use Prim.Native.Nat.{◌+◌, ◌*◌}
use native.Mathlib.Omega.{arith}
use mathlib.Core.Path.{refl, ap, ◌∙◌}
use lib.ListN.{set}
use Rattle.noting.specs.Noting.{three_at, there, roomless}
use Rattle.noting.proofs.Laws.{side_word, within}
use Rattle.noting.proofs.note_step.Goals as goal

pub returns-then-trail-from-lt-TRIPLE : goal.returns-then-trail-from-lt-TRIPLE
returns-then-trail-from-lt-TRIPLE c = roomless refl (let z = c.if-trail-from-lt-TRIPLE.true in let y = c.requires.0 in omega arith) refl

pub bounds-trail-from-2 : goal.bounds-trail-from-2
bounds-trail-from-2 c = within c.args.trail.now (3 * c.args.made) _ (3 * c.args.made + 1) (let z = c.if-trail-from-lt-TRIPLE.false in let y = c.requires.0 in omega arith)

pub bounds-trail-from-3 : goal.bounds-trail-from-3
bounds-trail-from-3 c = within (set c.args.trail.now (3 * c.args.made) c.args.rule) (3 * c.args.made + 1) _ (3 * c.args.made + 2)
    (within c.args.trail.now (3 * c.args.made) c.args.rule (3 * c.args.made + 2) (let z = c.if-trail-from-lt-TRIPLE.false in let y = c.requires.0 in omega arith))

pub returns : goal.returns
returns c = there refl (let z = c.if-trail-from-lt-TRIPLE.false in let y = c.requires.0 in omega arith) (ap (λ d. three_at c.args.trail.now (3 * c.args.made) c.args.rule c.args.literal d) (c.from.ensures ∙ side_word c.args.swap))
