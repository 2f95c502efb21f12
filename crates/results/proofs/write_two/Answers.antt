-- One result after the other.
use mathlib.Core.Path.{refl}
use mathlib.Core.List.{[], ◌∷◌}
use Rattle.plans.specs.Results.{made}
use Rattle.slices.proofs.Still.{still-all, still-none, still-fits, still-run}
use Rattle.results.proofs.Results.{framed-split}
use native.Mathlib.Omega.{arith}
use Rattle.results.proofs.write_two.Goals as goal

pub write_framed-e-requires : goal.write_framed-e-requires
write_framed-e-requires c = let a = c.args in
    let v = made a.k.now a.a 0 in
    let w = made a.k.now a.b 0 in
    (c.requires.short.0, still-fits (still-all a.out.now _ _ c.requires.room) (framed-split a.number v (w ∷ [])), omega arith)

pub write_framed-requires : goal.write_framed-requires
write_framed-requires c = let a = c.args in
    let v = made a.k.now a.a 0 in
    let w = made a.k.now a.b 0 in
    (c.requires.short.1.0, still-fits (still-run (still-all a.out.now _ _ c.requires.room) (framed-split a.number v (w ∷ [])) c.write_framed-e.ensures) (framed-split a.number w []), omega arith)

pub returns : goal.returns
returns c = let a = c.args in
    let v = made a.k.now a.a 0 in
    let w = made a.k.now a.b 0 in
    still-none (still-run (still-run (still-all a.out.now _ _ c.requires.room) (framed-split a.number v (w ∷ [])) c.write_framed-e.ensures) (framed-split a.number w []) c.write_framed.ensures) refl
