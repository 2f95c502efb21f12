-- The elements that a walk counts are those that the rules count.
use mathlib.Core.Path.{◌≡◌, refl, ap}
use Prim.Native.Nat.{suc}
use Rattle.language.specs.Trees.{Hedge, ε, tvar, hvar, node}
use Rattle.rules.specs.Elements.{width}
use Rattle.finds.specs.Walks.{size}

pub size-width : (h : Hedge) → size h ≡ width h
size-width ε = refl
size-width (tvar x r) = ap suc (size-width r)
size-width (hvar p r) = ap suc (size-width r)
size-width (node f c r) = ap suc (size-width r)
