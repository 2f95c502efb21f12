-- Equations in which a run of parts is open at the end only: every hedge variable stands last among its siblings, at the top of a side too.
use Rattle.std.specs.Prelude.{Bool, true, false, ◌&&◌, [], ◌∷◌}
use Rattle.language.specs.Trees.{Hedge, ε, tvar, hvar, node, Literal, eqn, mem, Conj}
use Rattle.rules.specs.Looks.{empty}

abbrev pub last : Hedge → Bool
last ε = true
last (tvar x r) = last r
last (hvar p r) = empty r
last (node f c r) = last c && last r

-- an equation of such sides; no membership is
abbrev pub last_literal : Literal → Bool
last_literal (eqn l r) = last l && last r
last_literal (mem h R) = false

abbrev pub last_runs : Conj → Bool
last_runs [] = true
last_runs (l ∷ k) = last_literal l && last_runs k
