-- `reader::counts_fit` meets its contract: each return is a law of the ranges, with the tests before it.
-- Assumes nothing.
use Rattle.reader.proofs.Checks.{no_symbol, many-symbols, many-unordered, many-terms, many-hedges, many-functions, alternatives-left}
use Rattle.reader.proofs.counts_fit.Goals as goal

pub returns-then-h-lt1 : goal.returns-then-h-lt1
returns-then-h-lt1 c = no_symbol _ c.if-h-lt1.true

pub returns-then-h-gt-EACH : goal.returns-then-h-gt-EACH
returns-then-h-gt-EACH c = many-symbols _ c.if-h-lt1.false c.if-h-gt-EACH.true

pub returns-then-h : goal.returns-then-h
returns-then-h c = many-unordered _ c.if-h-lt1.false c.if-h-gt-EACH.false c.if-h.true

pub returns-then-h-gt-EACH-2 : goal.returns-then-h-gt-EACH-2
returns-then-h-gt-EACH-2 c = many-terms _ c.if-h-lt1.false c.if-h-gt-EACH.false c.if-h.false c.if-h-gt-EACH-2.true

pub returns-then-h-gt-EACH-3 : goal.returns-then-h-gt-EACH-3
returns-then-h-gt-EACH-3 c = many-hedges _ c.if-h-lt1.false c.if-h-gt-EACH.false c.if-h.false c.if-h-gt-EACH-2.false c.if-h-gt-EACH-3.true

pub returns-then-h-gt-EACH-4 : goal.returns-then-h-gt-EACH-4
returns-then-h-gt-EACH-4 c = many-functions _ c.if-h-lt1.false c.if-h-gt-EACH.false c.if-h.false c.if-h-gt-EACH-2.false c.if-h-gt-EACH-3.false c.if-h-gt-EACH-4.true

pub returns : goal.returns
returns c = alternatives-left _ c.if-h-lt1.false c.if-h-gt-EACH.false c.if-h.false c.if-h-gt-EACH-2.false c.if-h-gt-EACH-3.false c.if-h-gt-EACH-4.false
