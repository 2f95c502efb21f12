-- `prompt::inside_remark` meets its contract: the end of the line, and any other byte.
use Rattle.prompt.proofs.Bytes.{remark-ends, remark-goes-on}
use Rattle.prompt.proofs.inside_remark.Goals as goal

pub returns-then-b-eq10 : goal.returns-then-b-eq10
returns-then-b-eq10 c = remark-ends _ c.if-b-eq10.true

pub returns : goal.returns
returns c = remark-goes-on _ c.if-b-eq10.false
