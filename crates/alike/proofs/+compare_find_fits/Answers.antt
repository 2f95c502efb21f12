use mathlib.Core.Bool.{not}
use mathlib.Core.Path.{ap, refl}
use native.Mathlib.Omega.{arith}
use borrow.Author.Rules.{rules}
use Rattle.passing.proofs.Standing.{hedge-lt, term-lt, term-word, children, children-of, skipped-less, term-here}
use Rattle.alike.proofs.Finding.{seeks-start, seeks-on, seeks-found, seeks-halt, seeks-end, fits-taken, fits-other, fits_below as fits-children}
use Rattle.alike.proofs.Comparing.{end-within, marked-long, compares-start, compares-on, compares-stop, compares-end}
use Rattle.alike.proofs.+compare_find_fits.Goals as goal

pub compare-clear-requires-clause-from_le_to : goal.compare-clear-requires-clause-from_le_to
compare-clear-requires-clause-from_le_to t c = (end-within c.requires.hedge_2 c.skip-end.ensures c.requires.w_in_bounds).0

pub compare-clear-requires-clause-to_in_bounds : goal.compare-clear-requires-clause-to_in_bounds
compare-clear-requires-clause-to_in_bounds t c = (end-within c.requires.hedge_2 c.skip-end.ensures c.requires.w_in_bounds).1

pub compare-loop-x-init : goal.compare-loop-x-init
compare-loop-x-init t c = search (compares-start)

pub compare-offset_bounds-w-x : goal.compare-offset_bounds-w-x
compare-offset_bounds-w-x t c = omega (arith, hedge-lt)

pub compare-bounds-w-x : goal.compare-bounds-w-x
compare-bounds-w-x t c = omega (arith, hedge-lt)

pub compare-find-p-requires : goal.compare-find-p-requires
compare-find-p-requires t c = (omega (arith, hedge-lt, c.loop-x.invariant.on), (search (term-here), (search rules, search rules)))

pub compare-returns-then-w-p : goal.compare-returns-then-w-p
compare-returns-then-w-p t c = compares-stop c.loop-x.invariant c.loop-x-test.true c.find-p.ensures c.skip-end.ensures c.clear.ensures (omega arith)

pub compare-bounds-k-p : goal.compare-bounds-k-p
compare-bounds-k-p t c = omega arith

pub compare-next-y-requires : goal.compare-next-y-requires
compare-next-y-requires t c = let l = c.loop-x.invariant in record {
  hedge = l.other;
  w_in_bounds = marked-long _ c.find-p.ensures l.long;
}

pub compare-overflow_add-x : goal.compare-overflow_add-x
compare-overflow_add-x t c = omega (arith, hedge-lt)

pub compare-skip-x-requires : goal.compare-skip-x-requires
compare-skip-x-requires t c = search (children)

pub compare-loop-x-smaller : goal.compare-loop-x-smaller
compare-loop-x-smaller t c = search (skipped-less)

pub compare-loop-x-preserved : goal.compare-loop-x-preserved
compare-loop-x-preserved t c = compares-on c.loop-x.invariant c.loop-x-test.true c.find-p.ensures (omega arith) refl c.next-y.ensures c.skip-x.ensures

pub compare-offset_bounds-w-y : goal.compare-offset_bounds-w-y
compare-offset_bounds-w-y t c = omega (arith, hedge-lt)

pub compare-bounds-w-y : goal.compare-bounds-w-y
compare-bounds-w-y t c = omega (arith, hedge-lt)

pub compare-returns : goal.compare-returns
compare-returns t c = compares-end c.loop-x.invariant c.skip-end.ensures c.clear.ensures c.loop-x-test.false

pub find-loop-p-init : goal.find-loop-p-init
find-loop-p-init t c = search (seeks-start)

pub find-offset_bounds-w-p : goal.find-offset_bounds-w-p
find-offset_bounds-w-p t c = omega (arith, hedge-lt)

pub find-bounds-w-p : goal.find-bounds-w-p
find-bounds-w-p t c = omega (arith, hedge-lt)

pub find-fits-requires : goal.find-fits-requires
find-fits-requires t c = (omega arith, (search rules, (search (term-here), search rules)))

pub find-returns-then-fits : goal.find-returns-then-fits
find-returns-then-fits t c = seeks-found c.loop-p.invariant c.loop-p-test.true c.fits.ensures c.if-fits.true

pub find-bounds-k-p : goal.find-bounds-k-p
find-bounds-k-p t c = omega (arith, hedge-lt)

pub find-returns-then-not-or : goal.find-returns-then-not-or
find-returns-then-not-or t c = seeks-halt c.loop-p.invariant c.loop-p-test.true c.fits.ensures c.if-fits.false c.or.ensures (ap not c.if-not-or.true)

pub find-overflow_add-p : goal.find-overflow_add-p
find-overflow_add-p t c = omega (arith, hedge-lt)

pub find-skip-p-requires : goal.find-skip-p-requires
find-skip-p-requires t c = search (children)

pub find-loop-p-smaller : goal.find-loop-p-smaller
find-loop-p-smaller t c = search (skipped-less)

pub find-loop-p-preserved : goal.find-loop-p-preserved
find-loop-p-preserved t c = seeks-on c.loop-p.invariant c.loop-p-test.true c.fits.ensures c.if-fits.false c.or.ensures (ap not c.if-not-or.false) c.skip-p.ensures

pub find-returns : goal.find-returns
find-returns t c = seeks-end c.loop-p.invariant c.loop-p-test.false

pub fits-bounds-k-p : goal.fits-bounds-k-p
fits-bounds-k-p t c = omega (arith, term-lt)

pub fits-returns-then-k-p : goal.fits-returns-then-k-p
fits-returns-then-k-p t c = search (fits-taken)

pub fits-offset_bounds-w-x : goal.fits-offset_bounds-w-x
fits-offset_bounds-w-x t c = omega (arith, term-lt)

pub fits-bounds-w-x : goal.fits-bounds-w-x
fits-bounds-w-x t c = omega (arith, term-lt)

pub fits-offset_bounds-w-p : goal.fits-offset_bounds-w-p
fits-offset_bounds-w-p t c = omega (arith, term-lt)

pub fits-bounds-w-p : goal.fits-bounds-w-p
fits-bounds-w-p t c = omega (arith, term-lt)

pub fits-returns-then-w-x : goal.fits-returns-then-w-x
fits-returns-then-w-x t c = search (fits-other)

pub fits-offset_bounds-w-x-2 : goal.fits-offset_bounds-w-x-2
fits-offset_bounds-w-x-2 t c = omega (arith, term-lt)

pub fits-bounds-w-x-2 : goal.fits-bounds-w-x-2
fits-bounds-w-x-2 t c = omega (arith, term-lt)

pub fits-overflow_sub-w : goal.fits-overflow_sub-w
fits-overflow_sub-w t c = omega (arith, term-word)

pub fits-overflow_add-x : goal.fits-overflow_add-x
fits-overflow_add-x t c = omega (arith, term-lt)

pub fits-overflow_add-p : goal.fits-overflow_add-p
fits-overflow_add-p t c = omega (arith, term-lt)

pub fits-compare-requires : goal.fits-compare-requires
fits-compare-requires t c = (omega (arith, term-lt), (search (children-of), (search (children-of), omega arith)))

pub fits-returns : goal.fits-returns
fits-returns t c = fits-children c.if-k-p.false c.if-w-x.false c.is_unordered-any.ensures c.compare.ensures
