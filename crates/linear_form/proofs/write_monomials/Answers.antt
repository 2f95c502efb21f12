use native.Mathlib.Omega.{arith}
use Rattle.linear_form.proofs.Walking.{walk-writes}
use Rattle.linear_form.proofs.write_monomials.Goals as goal

pub returns : goal.returns
returns c = walk-writes c.args.s c.args.number c.keeping-t.ensures c.walk-w.ensures (omega arith)
