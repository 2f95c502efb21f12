-- `see`: the second side stands where the first ends.
use Rattle.views.proofs.Seen.{sees-of, view-is}
use Rattle.views.proofs.see.Goals as goal

pub returns : goal.returns
returns c = ((λ before l r behind s. sees-of s c.side_at-l.ensures c.side_at-r.ensures), view-is _ _ c.side_at-l.ensures.2 c.side_at-r.ensures.2)
