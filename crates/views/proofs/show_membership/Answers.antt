-- `show_membership`: the expression stands where the hedge ends, and goes on to the next literal.
use mathlib.Core.Path.{ap, ◌∙◌}
use Rattle.language.specs.Limits.{desk}
use Rattle.language.specs.Kinds.{kind_of}
use Rattle.views.proofs.Seen.{shows-of, shape_is}
use Rattle.views.proofs.show_membership.Goals as goal

pub returns : goal.returns
returns c = ((λ before h R behind s. shows-of s c.side_at-h.ensures (c.classify-first.ensures ∙ ap (kind_of desk) c.word.ensures) c.next_literal-end.ensures), shape_is _ _ c.side_at-h.ensures.2 (c.classify-first.ensures ∙ ap (kind_of desk) c.word.ensures) c.next_literal-end.ensures)
