-- The chart, the classes, and then the walk.
use native.Mathlib.Omega.{arith}
use Prim.Native.Nat.{ℕ}
use mathlib.Core.Path.{◌∙◌}
use mathlib.Core.Bool.{Bool, false}
use lib.ListN.{length-replicate}
use Rattle.language.specs.Limits.{desk}
use Rattle.state_classes.specs.Classes.{state_room}
use Rattle.clash.proofs.Verdicts.{part-bounds, tabled-kept}
use Rattle.clash.proofs.judge.Goals as goal

pub chart-requires : goal.chart-requires
chart-requires c = let s = c.requires.k_len_bound in let x = length-replicate {A = ℕ} desk.question 0 in let y = length-replicate {A = Bool} desk.question false in (omega arith, omega arith)

pub class_all-requires : goal.class_all-requires
class_all-requires c = let t = c.requires.two in let (ae, al) = part-bounds t.one c.part-a.ensures in let (be, bl) = part-bounds t.two c.part-b.ensures in let q = t.apart in let s = c.requires.k_len_bound in (omega arith, omega arith, length-replicate {A = ℕ} state_room 0, record { expression = t.first; beyond = t.beyond; here = t.one; to = ae })

pub class_all-requires-2 : goal.class_all-requires-2
class_all-requires-2 c = let t = c.requires.two in let (ae, al) = part-bounds t.one c.part-a.ensures in let (be, bl) = part-bounds t.two c.part-b.ensures in let q = t.apart in let s = c.requires.k_len_bound in (omega arith, omega arith, c.class_all.ensures.1.long ∙ length-replicate {A = ℕ} state_room 0, record { expression = t.second; beyond = t.further; here = t.two; to = be })

pub judge_classed-requires : goal.judge_classed-requires
judge_classed-requires c = let t = c.requires.two in let (ae, al) = part-bounds t.one c.part-a.ensures in let (be, bl) = part-bounds t.two c.part-b.ensures in let q = t.apart in let s = c.requires.k_len_bound in record { one = omega arith; apart = omega arith; two = omega arith; within = bl; few = s }

pub returns : goal.returns
returns c = λ R S w v h g. let t = c.requires.two in let (te, tl) = part-bounds t.one c.part-a.ensures in let q = t.apart in let (ae, al) = part-bounds h c.part-a.ensures in let (be, bl) = part-bounds g c.part-b.ensures in c.judge_classed.ensures R S (record { beyond = w; one = h; one_end = ae; further = v; two = g; two-end = be; one-classes = tabled-kept (omega arith) c.class_all-2.ensures.1 c.class_all.ensures.0; two-classes = c.class_all-2.ensures.0 })
