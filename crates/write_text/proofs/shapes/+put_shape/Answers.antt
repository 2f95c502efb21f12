use native.Mathlib.Omega.{arith}
use Rattle.write_text.proofs.Shaping.{shaped-end, shaped-eps, shaped-one, shaped-two}
use Rattle.write_text.proofs.shapes.+put_shape.Goals as goal

pub returns-then-w-at : goal.returns-then-w-at
returns-then-w-at t c = shaped-end c.args.t c.if-w-at.true

pub returns-then-x-eq7000 : goal.returns-then-x-eq7000
returns-then-x-eq7000 t c = shaped-eps c.args.t _ _ c.if-x-eq7000.true c.unless_under.ensures c.unless_under-then-x-eq7000.ensures c.put_four-n.ensures

pub put_shape-a-requires : goal.put_shape-a-requires
put_shape-a-requires t c = (omega arith, tt)

pub put_shape-b-requires : goal.put_shape-b-requires
put_shape-b-requires t c = let m = c.put_shape-a.ensures.after in (omega arith, tt)

pub returns-then-is_two : goal.returns-then-is_two
returns-then-is_two t c = shaped-two c.args.t c.if-w-at.false c.if-x-eq7000.false c.put_head-n.ensures c.first_place.ensures c.put_shape-a.ensures _ c.is_two.ensures c.if-is_two.true c.put_between-m.ensures c.second_place.ensures c.put_shape-b.ensures c.brace.ensures c.put-k.ensures

pub returns : goal.returns
returns t c = shaped-one c.args.t c.if-w-at.false c.if-x-eq7000.false c.put_head-n.ensures c.first_place.ensures c.put_shape-a.ensures _ _ c.is_two.ensures c.if-is_two.false c.star.ensures c.brace-2.ensures c.put_four-m.ensures
