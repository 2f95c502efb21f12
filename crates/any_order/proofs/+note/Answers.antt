use native.Mathlib.Omega.{arith}
use Rattle.any_order.proofs.Noting.{listed-fits, listed-mark, listed-on, noted-none, noted_more}
use Rattle.any_order.proofs.+note.Goals as goal

pub overflow_add-next : goal.overflow_add-next
overflow_add-next t c = omega (arith, listed-fits c.requires c.if-kind-top.true, c.requires.fits)

pub overflow_add-kind : goal.overflow_add-kind
overflow_add-kind t c = omega (arith, listed-fits c.requires c.if-kind-top.true, c.requires.fits)

pub offset_bounds-w-kind : goal.offset_bounds-w-kind
offset_bounds-w-kind t c = omega (arith, listed-fits c.requires c.if-kind-top.true, c.requires.fits)

pub bounds-w-kind : goal.bounds-w-kind
bounds-w-kind t c = omega (arith, listed-fits c.requires c.if-kind-top.true, c.requires.fits)

pub overflow_add-next-then-kind-top : goal.overflow_add-next-then-kind-top
overflow_add-next-then-kind-top t c = omega (arith, listed-fits c.requires c.if-kind-top.true, c.requires.fits, c.wide.ensures)

pub mark-requires : goal.mark-requires
mark-requires t c = listed-mark c.requires c.if-kind-top.true c.wide.ensures

pub note-requires : goal.note-requires
note-requires t c = (omega arith, listed-on c.requires c.if-kind-top.true c.wide.ensures c.mark.ensures)

pub returns-then-kind-top : goal.returns-then-kind-top
returns-then-kind-top t c = noted_more c.if-kind-top.true c.wide.ensures c.mark.ensures c.note.ensures

pub returns-else-kind-top : goal.returns-else-kind-top
returns-else-kind-top t c = noted-none c.requires c.if-kind-top.false
