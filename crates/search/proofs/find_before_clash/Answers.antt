-- The pass, and the fold where no rule before it applies.
use Rattle.search.proofs.Finding.{alone-best, both-best, placed_on}
use Rattle.search.proofs.find_before_clash.Goals as goal

pub returns-then-alone-lt-AT_FOLD : goal.returns-then-alone-lt-AT_FOLD
returns-then-alone-lt-AT_FOLD c = (c.find_alone-alone.ensures.0, λ x f e. alone-best _ x c.find_alone-alone.result (c.find_alone-alone.ensures.1 x f e) c.if-alone-lt-AT_FOLD.true)

pub returns : goal.returns
returns c = (
  placed_on _ c.find_alone-alone.result c.find_fold.result c.lesser.result c.lesser.ensures c.find_alone-alone.ensures.0 c.find_fold.ensures.0,
  λ x f e. both-best _ x c.find_alone-alone.result c.find_fold.result _ (c.find_alone-alone.ensures.1 x f e) (c.find_fold.ensures.1 x f e) c.lesser.ensures,
)
