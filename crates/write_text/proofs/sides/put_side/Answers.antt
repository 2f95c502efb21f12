-- a hedge that is read is written, with brackets unless it is one element.
use Rattle.write_text.proofs.Siding.{side-within, sided-none, sided}
use native.Mathlib.Omega.{arith}
use Rattle.write_text.proofs.sides.put_side.Goals as goal

pub put_elements-m-requires : goal.put_elements-m-requires
put_elements-m-requires c = let m = side-within _ _ _ _ c.read_hedge.ensures c.in-Ok.is in (omega arith, omega arith)

pub returns-in-Ok : goal.returns-in-Ok
returns-in-Ok c = let m = side-within _ _ _ _ c.read_hedge.ensures c.in-Ok.is in sided _ c.read_hedge.ensures _ _ c.in-Ok.is (omega arith) c.is_one-one.ensures c.bracket.ensures c.put-n.ensures c.put_elements-m.ensures c.bracket-in-Ok.ensures c.put-k.ensures

pub returns-in-Err : goal.returns-in-Err
returns-in-Err c = sided-none _ c.read_hedge.ensures c.in-Err.is

pub overflow_sub-last : goal.overflow_sub-last
overflow_sub-last c = let m = side-within _ _ _ _ c.read_hedge.ensures c.in-Ok.is in omega arith
