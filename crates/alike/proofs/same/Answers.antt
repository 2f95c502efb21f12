-- `alike::same` meets its contract: a law for each return.
use mathlib.Core.Bool.{not}
use mathlib.Core.Path.{ap}
use borrow.Author.Rules.{rules}
use Rattle.alike.proofs.Agreeing.{told-words}
use Rattle.alike.proofs.Deciding.{first-hedge, second-hedge, middle-within, equal-same, other-ordered, trees-decide}
use Rattle.alike.proofs.same.Goals as goal

pub slice_bounds-eq-end : goal.slice_bounds-eq-end
slice_bounds-eq-end c = middle-within c.requires.pair

pub offset_bounds-w-mid : goal.offset_bounds-w-mid
offset_bounds-w-mid c = let l = middle-within c.requires.pair in search rules

pub slice_bounds-eq-count-2 : goal.slice_bounds-eq-count-2
slice_bounds-eq-count-2 c = middle-within c.requires.pair

pub slice_bounds-eq-start-2 : goal.slice_bounds-eq-start-2
slice_bounds-eq-start-2 c = middle-within c.requires.pair

pub returns-then-eq : goal.returns-then-eq
returns-then-eq c = equal-same (told-words _ _ _ c.eq.ensures) c.if-eq.true

pub returns-then-not-any_unordered : goal.returns-then-not-any_unordered
returns-then-not-any_unordered c = other-ordered (told-words _ _ _ c.eq.ensures) c.if-eq.false c.any_unordered.ensures (ap not c.if-not-any_unordered.true)

pub compare-requires-clause-hedge : goal.compare-requires-clause-hedge
compare-requires-clause-hedge c = first-hedge c.requires.pair

pub compare-requires-clause-hedge_2 : goal.compare-requires-clause-hedge_2
compare-requires-clause-hedge_2 c = second-hedge c.requires.pair

pub compare-requires-clause-w_in_bounds : goal.compare-requires-clause-w_in_bounds
compare-requires-clause-w_in_bounds c = c.requires.w_len_bound

pub returns : goal.returns
returns c = trees-decide c.compare.ensures
