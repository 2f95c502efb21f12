-- A variable is bound by the first literal that holds it, or not at all.
use Rattle.values.proofs.Binding.{bound-held, bound-nowhere}
use Rattle.values.proofs.bindings.bound_to.Goals as goal

pub returns-in-None : goal.returns-in-None
returns-in-None c = λ d v s w. bound-nowhere (c.holder-p.ensures d v s w) c.in-None.is

pub returns-in-Some : goal.returns-in-Some
returns-in-Some c = λ d v s w. let h = c.holder-p.ensures d v s w in let g = c.bound_in.ensures in search (bound-held)
