-- Either way the answer is whether the word stands among those replaced.
use mathlib.Core.Path.{ap, ◌∙◌}
use lib.Seq.{slice}
use Rattle.words.specs.Spans.{member}
use Rattle.results.proofs.replacing.is_old.Goals as goal

pub returns-in-Some : goal.returns-in-Some
returns-in-Some c = c.is_marked.ensures ∙ c.requires.told _ c.in-Some.is _

pub returns-in-None : goal.returns-in-None
returns-in-None c = let a = c.args in
    c.stands.ensures ∙ ap (λ x. member x (slice a.old a.until a.k.now)) c.wide.ensures
