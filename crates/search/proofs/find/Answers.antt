-- `find`: the clash is looked for only where no rule before it applies.
use Rattle.search.proofs.Finding.{before-best, clash-best}
use Rattle.search.proofs.find.Goals as goal

pub returns-then-b-lt-AT_CLASH : goal.returns-then-b-lt-AT_CLASH
returns-then-b-lt-AT_CLASH c = (c.find_before_clash-b.ensures.0, λ x f e. before-best _ x _ (c.find_before_clash-b.ensures.1 x f e) c.if-b-lt-AT_CLASH.true)

pub returns : goal.returns
returns c = (c.find_clash.ensures.0, λ x f e. clash-best _ x _ _ (c.find_before_clash-b.ensures.1 x f e) c.if-b-lt-AT_CLASH.false (c.find_clash.ensures.1 x f e))
