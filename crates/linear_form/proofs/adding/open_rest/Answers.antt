use native.Mathlib.Omega.{arith}
use Prim.Native.Nat.{◌+◌, ◌-◌}
use mathlib.Core.Path.{refl, ap, ◌∙◌}
use lib.ListN.{length, replicate}
use Rattle.std.proofs.lemmas.List.Edits.{length-between}
use Rattle.slices.proofs.Still.{wrote-word, wrote_as}
use Rattle.linear_form.proofs.Rests.{opening-joins, opening-none, opening-length, wrote-joins}
use Rattle.linear_form.proofs.adding.open_rest.Goals as goal

pub bounds-out-at : goal.bounds-out-at
bounds-out-at c = let z = ap length (opening-none _ c.if-parts-eq0.true) in omega arith

pub returns-then-parts-eq0 : goal.returns-then-parts-eq0
returns-then-parts-eq0 c = wrote_as (opening-none _ c.if-parts-eq0.true) (wrote-word _ _ _)

pub overflow_add-end : goal.overflow_add-end
overflow_add-end c = let z = opening-length _ c.if-parts-eq0.false in let r = c.requires in omega arith

pub slice_bounds-fill-end : goal.slice_bounds-fill-end
slice_bounds-fill-end c = let z = opening-length _ c.if-parts-eq0.false in let r = c.requires in omega arith

pub returns : goal.returns
returns c = let z = opening-length _ c.if-parts-eq0.false in let r = c.requires in
    wrote_as (opening-joins _ c.if-parts-eq0.false) (wrote-joins c.args.out.now c.args.at (c.args.parts - 1) _ refl (omega arith)
    (c.fill.ensures.after (λ y e. e) ∙ ap (λ n. replicate n 7001) (length-between c.args.out.now c.args.at (c.args.at + (c.args.parts - 1)) (omega arith))))
