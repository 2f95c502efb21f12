-- The word of the variable that a side solves.
use Prim.Native.Nat.{ℕ}
use mathlib.Core.Path.{◌≡◌, refl, sym, ap, ◌∙◌}
use mathlib.Core.Bool.{Bool, true, false, not, ◌||◌}
use mathlib.Core.List.{List, ◌++◌}
use mathlib.Core.Option.{Option, none, some}
use native.Mathlib.Omega.{arith}
use Rattle.language.specs.Trees.{Hedge, Conj, Var, holds, in_conj}
use Rattle.rules.specs.Solved.{given, variable, alone, is_some}
use Rattle.views.specs.Looks.{look_of}
use Rattle.views.specs.Views.{Sees}
use Rattle.views.specs.declared.View.{View}
use Rattle.views.specs.Variables.{variable_word}
use Rattle.std.specs.Prelude as prelude
use Rattle.alone.specs.declared.Variable.{Variable}
use Rattle.alone.specs.Lone.{lone_word, word_of, side_variable}
use Rattle.alone.proofs.Sides.{word-lone, side-look}
use Rattle.values.specs.Binding.{sole_word}

sole-word : (K : Conj) (r : Hedge) (m : Option Var) → is_some (alone K r m) ≡ true → word_of m ≡ sole_word (alone K r m)
sole-word K r none e = refl
sole-word K r (some v) e = by (not (holds v r || in_conj v K)) e
  where
    by : (b : Bool) → is_some {A = Var × Hedge} (given b (v, r)) ≡ true → variable_word v ≡ sole_word (given b (v, r))
    by true e = refl
    by false e = absurd (let z : ◌≡◌ {A = ℕ} 0 1 = cc in omega arith)

no_word : (m : Option (Var × Hedge)) → is_some m ≡ false → 0 ≡ sole_word m
no_word none e = refl
no_word (some b) e = absurd (let z : ◌≡◌ {A = ℕ} 0 1 = cc in omega arith)

module _ {k : List ℕ} {u : View} {before behind : Conj} {l r : Hedge} {t : Bool} (s : Sees k u before l r behind)
    (e : t ≡ is_some (alone (before ++ behind) r (variable l r))) where
  pub solved-word : {x : prelude.Option Variable} {y : ℕ} → t ≡ true → x ≡ side_variable u.l.look u.r.look → y ≡ lone_word x → y ≡ sole_word (alone (before ++ behind) r (variable l r))
  solved-word z d f =
      f ∙ ap lone_word (d ∙ ap (λ a. side_variable a u.r.look) s.left.look ∙ ap (side_variable (look_of l)) s.right.look ∙ side-look l r) ∙ word-lone (variable l r)
      ∙ sole-word (before ++ behind) r (variable l r) (sym e ∙ z)

  pub unsolved-word : t ≡ false → 0 ≡ sole_word (alone (before ++ behind) r (variable l r))
  unsolved-word z = no_word (alone (before ++ behind) r (variable l r)) (sym e ∙ z)
