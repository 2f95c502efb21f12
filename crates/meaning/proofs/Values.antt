-- A filling that is read takes a declared symbol for every function variable.
use Prim.Native.Nat.{ℕ, zero, suc, ◌+◌, ◌<◌}
use mathlib.Core.Path.{◌≡◌}
use mathlib.Core.Bool.{Bool, true, false, ◌&&◌}
use mathlib.Core.List.{List, [], ◌∷◌}
use mathlib.Core.Option.{Option, none, some}
use lib.Dec.{T, leb, ltb, eqb, lt→ltb}
use lib.ListN.{length, get_or}
use Rattle.language.specs.declared.Sym.{Sym}
use Rattle.language.specs.declared.Refusal.TheVariants.{FillingLayout, FillingValue}
use Rattle.language.specs.Limits.{Limits}
use Rattle.language.specs.Trees.{symbol, fvar, Hedge, ε, tvar, hvar, node, Counts, signature}
use Rattle.language.specs.Reading.{Got, got, stop, read_hedge}
use Rattle.language.specs.Question.{laid_out, parts, declared_s, declared}
use Rattle.meaning.specs.Complete.{Complete, nil}
use Rattle.meaning.specs.Meaning.{Filling, Named}
use Rattle.meaning.specs.Values.{with_node, complete, Form, forms, variables, fits, fitting, value_of, with_value, values_of, root_of, filling, Given, gives, refuses, read_filling}

-- where there is a symbol
module _ (n : Counts) (some-symbol : 0 < n.symbols) where
  -- the first symbol is declared; of nothing it is symbol 0
  abbrev Rooted : Complete → Type 0
  Rooted g = T (ltb (root_of g).0 n.symbols)

  abbrev RootedValue : Option Complete → Type 0
  RootedValue none = Unit {0}
  RootedValue (some g) = Rooted g

  abbrev RootedValues : List Complete → Type 0
  RootedValues [] = Unit {0}
  RootedValues (g ∷ gs) = Rooted g × RootedValues gs

  abbrev RootedAll : Option (List Complete) → Type 0
  RootedAll none = Unit {0}
  RootedAll (some gs) = RootedValues gs

  nothing-rooted : Rooted nil
  nothing-rooted = lt→ltb 0 n.symbols some-symbol

  node-rooted : (f : Sym) (a b : Option Complete) → T (declared_s n f) → RootedValue (with_node f a b)
  node-rooted f none b s = tt
  node-rooted f (some c) none s = tt
  node-rooted f (some c) (some r) s = s

  first_part : (a b : Bool) → T (a && b) → T a
  first_part true b t = tt
  first_part false b t = absurd t

  complete-rooted : (h : Hedge) → T (declared n h) → RootedValue (complete h)
  complete-rooted ε t = nothing-rooted
  complete-rooted (tvar x r) t = tt
  complete-rooted (hvar p r) t = tt
  complete-rooted (node (symbol f) c r) t =
      node-rooted f (complete c) (complete r) (first_part (declared_s n f) (declared n c) (first_part (declared_s n f && declared n c) (declared n r) t))
  complete-rooted (node (fvar X) c r) t = tt

  fitting-rooted : (form : Form) (m : Option Complete) → RootedValue m → RootedValue (fitting form m)
  fitting-rooted form none p = tt
  fitting-rooted form (some g) p = go (fits form g)
    where
      go : (b : Bool) → RootedValue (elim b [ true ↦ some g | false ↦ none ])
      go true = p
      go false = tt

  value-rooted : (form : Form) (size : ℕ) (m : Got Hedge) → RootedValue (value_of n form size m)
  value-rooted form size (got h k) = go (eqb k size) (declared n h) (complete-rooted h)
    where
      go : (a b : Bool) → (T b → RootedValue (complete h)) → RootedValue (elim (a && b) [ true ↦ fitting form (complete h) | false ↦ none ])
      go true true p = fitting-rooted form (complete h) (p tt)
      go true false p = tt
      go false b p = tt
  value-rooted form size (stop k) = tt

  values-rooted : (L : Limits) (fs : List Form) (wss : List (List ℕ)) → RootedAll (values_of L n fs wss)
  values-rooted L [] wss = tt
  values-rooted L (form ∷ fs) [] = tt
  values-rooted L (form ∷ fs) (ws ∷ wss) =
      with_value_lem (value_of n form (length ws) (read_hedge L ws)) (values_of L n fs wss) (value-rooted form (length ws) (read_hedge L ws)) (values-rooted L fs wss)
    where
      with_value_lem : (a : Option Complete) (b : Option (List Complete)) → RootedValue a → RootedAll b → RootedAll (with_value a b)
      with_value_lem none b p q = tt
      with_value_lem (some v) none p q = tt
      with_value_lem (some v) (some vs) p q = (p, q)

  rooted-at : (vs : List Complete) → RootedValues vs → (i : ℕ) → Rooted (get_or vs i nil)
  rooted-at [] p i = nothing-rooted
  rooted-at (v ∷ vs) p zero = p.0
  rooted-at (v ∷ vs) p (suc i) = rooted-at vs p.1 i

  abbrev GivesNamed : Given → Type 0
  GivesNamed (gives ρ) = Named (signature n) ρ
  GivesNamed (refuses r) = Unit {0}

  given-named : (L : Limits) (ws : List ℕ) → GivesNamed (read_filling L n ws)
  unfolding read_filling
  given-named L ws = laid (leb (length ws) L.filling && eqb (get_or ws 0 0) (variables n) && laid_out 1 (variables n) ws)
    where
      values : (m : Option (List Complete)) → RootedAll m → GivesNamed (elim m [ none ↦ refuses FillingValue | some vs ↦ gives (filling n vs) ])
      values none p = tt
      values (some vs) p = λ _ X. rooted-at vs p (n.terms + n.hedges + X.0)

      laid : (b : Bool) → GivesNamed (elim b [
        | false ↦ refuses FillingLayout
        | true ↦ elim (values_of L n (forms n) (parts 1 (variables n) ws)) [ none ↦ refuses FillingValue | some vs ↦ gives (filling n vs) ]
      ])
      laid false = tt
      laid true = values (values_of L n (forms n) (parts 1 (variables n) ws)) (values-rooted L (forms n) (parts 1 (variables n) ws))

  -- so it is a filling of these symbols
  pub read_named : (L : Limits) (ws : List ℕ) (ρ : Filling) → read_filling L n ws ≡ gives ρ → Named (signature n) ρ
  read_named L ws ρ e = rw e at (given-named L ws)
