-- `read_text::is_many` meets its contract: count by count.
use Rattle.language.specs.Limits.{desk}
use Rattle.read_text.proofs.Leaves.{many-terms, many-hedges, many-symbols, many-functions, many-lines}
use Rattle.read_text.proofs.is_many.Goals as goal

pub returns-then-names-gt-PLACES : goal.returns-then-names-gt-PLACES
returns-then-names-gt-PLACES c = many-terms desk _ _ c.if-names-gt-PLACES.true

pub returns-then-names-gt-PLACES-2 : goal.returns-then-names-gt-PLACES-2
returns-then-names-gt-PLACES-2 c = many-hedges desk _ _ c.if-names-gt-PLACES.false c.if-names-gt-PLACES-2.true

pub returns-then-names-gt-PLACES-3 : goal.returns-then-names-gt-PLACES-3
returns-then-names-gt-PLACES-3 c = many-symbols desk _ _ c.if-names-gt-PLACES.false c.if-names-gt-PLACES-2.false c.if-names-gt-PLACES-3.true

pub returns-then-names-gt-PLACES-4 : goal.returns-then-names-gt-PLACES-4
returns-then-names-gt-PLACES-4 c = many-functions desk _ _ c.if-names-gt-PLACES.false c.if-names-gt-PLACES-2.false c.if-names-gt-PLACES-3.false c.if-names-gt-PLACES-4.true

pub returns : goal.returns
returns c = many-lines desk _ _ c.if-names-gt-PLACES.false c.if-names-gt-PLACES-2.false c.if-names-gt-PLACES-3.false c.if-names-gt-PLACES-4.false
