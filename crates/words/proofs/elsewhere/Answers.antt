-- `elsewhere`: the words before the literal, then those behind it.
use mathlib.Core.Path.{refl, sym, ap, ◌∙◌}
use mathlib.Core.Bool.{◌||◌}
use lib.ListN.{length, drop}
use Rattle.words.specs.Spans.{member}
use Rattle.words.proofs.Parts.{part-rest}
use Rattle.words.proofs.elsewhere.Goals as goal

pub returns-then-stands : goal.returns-then-stands
returns-then-stands c = sym (ap (λ b. b || member c.args.x (drop c.args.end c.args.k.now)) (sym c.stands.ensures ∙ c.if-stands.true))

pub returns : goal.returns
returns c = let k = c.args.k.now in let x = c.args.x in c.stands-2.ensures ∙ ap (member x) (part-rest k c.args.end (length k) refl) ∙ sym (ap (λ b. b || member x (drop c.args.end k)) (sym c.stands.ensures ∙ c.if-stands.false))
