-- How the word at a place is shown, by its kind.
use Prim.Native.Nat.{ℕ, ◌+◌, ◌-◌, ◌<◌}
use mathlib.Core.Path.{◌≡◌, refl, sym, ap, subst, ◌∙◌}
use mathlib.Core.List.{List, [], ◌∷◌}
use native.Mathlib.Nat.{add-zero}
use native.Mathlib.Omega.{arith}
use lib.ListN.{length, get_or, take, drop}
use lib.Seq.{get_or-drop}
use Rattle.language.specs.declared.Kind.{Kind}
use Rattle.language.specs.declared.Kind.TheVariants.{Term, Run, Symbol, Function}
use Rattle.language.specs.declared.TermVar.{TermVar}
use Rattle.language.specs.declared.HedgeVar.{HedgeVar}
use Rattle.language.specs.declared.FunVar.{FunVar}
use Rattle.language.specs.declared.Sym.{Sym}
use Rattle.language.specs.Limits.{desk}
use Rattle.language.specs.Kinds.{kind_of}
use Rattle.language.proofs.Arms.{Among, each-kind}
use Rattle.language.specs.Between.{between}
use Rattle.filling.specs.Showing.{body_at, name_at, term_size, TermEnd, shown_on, shown, HasValue, ShowsOn, Shows}

module _ (t h : ℕ) (fs ws : List ℕ) (at : ℕ) (k : Kind) (e : k ≡ kind_of desk (get_or ws at 0)) where
  -- what the filling has for it
  has : (j : Kind) → k ≡ j → at < length ws → Shows t h fs ws → ShowsOn t h fs j
  has j g p s = subst (ShowsOn t h fs) (sym e ∙ g) (s.each at p)

  pub has-term : {x : TermVar} → k ≡ Term x → at < length ws → Shows t h fs ws → HasValue fs x.0
  has-term {x} g p s = has (Term x) g p s

  pub has-run : {x : HedgeVar} → k ≡ Run x → at < length ws → Shows t h fs ws → HasValue fs (t + x.0)
  has-run {x} g p s = has (Run x) g p s

  pub has-name : {x : FunVar} → k ≡ Function x → at < length ws → Shows t h fs ws → HasValue fs (t + h + x.0)
  has-name {x} g p s = has (Function x) g p s

  -- and how it is shown
  shown-here : (j : Kind) → k ≡ j → shown_on t h fs (drop at ws) j ≡ shown t h fs (drop at ws)
  unfolding shown
  shown-here j g = rw (get_or-drop at ws 0 0, add-zero at, ← e, g)

  pub shown-term : {x : TermVar} → k ≡ Term x → body_at fs x.0 ≡ shown t h fs (drop at ws)
  shown-term {x} g = shown-here (Term x) g

  pub shown-run : {x : HedgeVar} → k ≡ Run x → body_at fs (t + x.0) ≡ shown t h fs (drop at ws)
  shown-run {x} g = shown-here (Run x) g

  pub shown-name : {x : FunVar} → k ≡ Function x → name_at fs (t + h + x.0) ≡ shown t h fs (drop at ws)
  shown-name {x} g = shown-here (Function x) g

  pub shown-symbol : {f : Sym} {to : ℕ} → k ≡ Symbol f → TermEnd ws at to → between at to ws ≡ shown t h fs (drop at ws)
  shown-symbol {f} {to} g s =
      let z : to - at ≡ term_size (drop at ws) = omega (arith, s.size) in
      ap (λ n. take n (drop at ws)) z ∙ shown-here (Symbol f) g

  pub shown-other : Among (0 ∷ 5 ∷ 6 ∷ 7 ∷ 8 ∷ 9 ∷ 10 ∷ 11 ∷ []) k → between at (at + 1) ws ≡ shown t h fs (drop at ws)
  shown-other o =
      let z : at + 1 - at ≡ 1 = omega arith in
      ap (λ n. take n (drop at ws)) z
      ∙ each-kind (0 ∷ 5 ∷ 6 ∷ 7 ∷ 8 ∷ 9 ∷ 10 ∷ 11 ∷ []) (λ j. take 1 (drop at ws) ≡ shown_on t h fs (drop at ws) j) refl tt tt tt tt refl refl refl refl refl refl refl k o
      ∙ shown-here k refl
