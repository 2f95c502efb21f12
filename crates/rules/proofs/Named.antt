-- The name of a rule's place is where the rule stands in the list, and no rule stands at `no_rule`.
use mathlib.Core.Path.{◌≡◌, refl}
use mathlib.Core.List.{[], ◌∷◌, map}
use mathlib.Core.Option.{none, some}
use lib.ListN.{get_elem?}
use Rattle.language.specs.declared.Signature.{Signature}
use Rattle.rules.specs.Rules.{R1, R2, Fold, F1, F2, F3, F4, F5, F6, F7, Del1, Del2, Del3, D1, D2, D0, E1, E2, E3, E4, E5, E6, E7, M1, M2, M3, M4, M5, M6, M7, M10, M11, M12, Clash, on_eqn, on_mem, on_pair, rules}
use Rattle.rules.specs.Places.{at_r1, at_r2, at_fold, at_f1, at_f2, at_f3, at_f4, at_f5, at_f6, at_f7, at_del1, at_del2, at_del3, at_d1, at_d2, at_d0, at_e1, at_e2, at_e3, at_e4, at_e5, at_e6, at_e7, at_m1, at_m2, at_m3, at_m4, at_m5, at_m6, at_m7, at_m10, at_m11, at_m12, at_clash, no_rule}

pub places-named : (σ : Signature) →
    map (get_elem? (rules σ)) (
    at_r1 ∷ at_r2 ∷ at_fold
    ∷ at_f1 ∷ at_f2 ∷ at_f3 ∷ at_f4 ∷ at_f5 ∷ at_f6 ∷ at_f7
    ∷ at_del1 ∷ at_del2 ∷ at_del3
    ∷ at_d1 ∷ at_d2 ∷ at_d0
    ∷ at_e1 ∷ at_e2 ∷ at_e3 ∷ at_e4 ∷ at_e5 ∷ at_e6 ∷ at_e7
    ∷ at_m1 ∷ at_m2 ∷ at_m3 ∷ at_m4 ∷ at_m5 ∷ at_m6 ∷ at_m7 ∷ at_m10 ∷ at_m11 ∷ at_m12
    ∷ at_clash
    ∷ no_rule ∷ [])
    ≡
    some (on_eqn R1) ∷ some (on_mem R2) ∷ some (on_pair Fold)
    ∷ some (on_eqn F1) ∷ some (on_eqn F2) ∷ some (on_eqn F3) ∷ some (on_eqn F4) ∷ some (on_mem F5) ∷ some (on_mem F6) ∷ some (on_mem F7)
    ∷ some (on_eqn Del1) ∷ some (on_eqn (Del2 σ)) ∷ some (on_eqn Del3)
    ∷ some (on_eqn (D1 σ)) ∷ some (on_eqn D2) ∷ some (on_eqn (D0 σ))
    ∷ some (on_eqn E1) ∷ some (on_eqn E2) ∷ some (on_eqn E3) ∷ some (on_eqn E4) ∷ some (on_eqn E5) ∷ some (on_eqn E6) ∷ some (on_eqn (E7 σ))
    ∷ some (on_mem M1) ∷ some (on_mem M2) ∷ some (on_mem M3) ∷ some (on_mem M4) ∷ some (on_mem M5) ∷ some (on_mem M6) ∷ some (on_mem M7) ∷ some (on_mem M10) ∷ some (on_mem (M11 σ)) ∷ some (on_mem (M12 σ))
    ∷ some (on_pair (Clash σ))
    ∷ none ∷ []
places-named σ = refl
