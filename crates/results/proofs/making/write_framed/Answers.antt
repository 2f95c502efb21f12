-- The length is the distance from the place after the frame to the end.
use Rattle.results.proofs.Stores.{wrote-framed}
use native.Mathlib.Omega.{arith}
use Rattle.results.proofs.making.write_framed.Goals as goal

pub returns : goal.returns
returns c = wrote-framed _ c.write_made-e.ensures (let e = c.write_made-e.ensures.end in omega arith) c.write_frame.ensures
