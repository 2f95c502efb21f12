-- `given::value_fits` meets its contract: a law for each return.
use native.Mathlib.Omega.{arith}
use Rattle.given.proofs.Forms.{fits-none, fits-term, fits-hedge, fits-name}
use Rattle.given.proofs.value_fits.Goals as goal

pub returns-then-not-is_complete : goal.returns-then-not-is_complete
returns-then-not-is_complete c = fits-none _ _ _ c.is_complete.ensures c.if-not-is_complete.true

pub returns-then-i-terms : goal.returns-then-i-terms
returns-then-i-terms c = fits-term _ _ _ c.is_complete.ensures c.if-not-is_complete.false (omega arith) c.is_term.ensures

pub returns-then-i-terms-2 : goal.returns-then-i-terms-2
returns-then-i-terms-2 c = fits-hedge _ _ _ c.is_complete.ensures c.if-not-is_complete.false (omega arith) (omega arith)

pub returns : goal.returns
returns c = fits-name _ _ _ c.is_complete.ensures c.if-not-is_complete.false (omega arith)
