-- Of a hedge variable the mark is read; any other word is not marked.
use borrow.Enum.Refused.{opened}
use mathlib.Core.Path.{ap, ◌∙◌}
use mathlib.Core.Bool.{false}
use lib.ListN.{get_or}
use Rattle.results.proofs.Marking.{in_place, marked-run, marked-none}
use native.Mathlib.Omega.{arith}
use Rattle.results.proofs.replacing.is_marked.Goals as goal

pub bounds-set-n : goal.bounds-set-n
bounds-set-n c = let w = c.wide-n.ensures in
    let b = in_place _ c.classify.ensures _ c.in-Run.is in
    omega arith

pub returns-in-Run : goal.returns-in-Run
returns-in-Run c = ap (λ n. get_or c.args.set n false) c.wide-n.ensures ∙ marked-run _ _ c.classify.ensures _ c.in-Run.is

pub returns-in_default : goal.returns-in_default
returns-in_default c = marked-none _ _ c.classify.ensures (opened c.in_default.in_default-own.keys2)
