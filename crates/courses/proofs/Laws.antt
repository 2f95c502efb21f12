-- What a course is known to be, and a step noted or not.
use Prim.Native.Nat.{ℕ}
use mathlib.Core.Path.{◌≡◌, refl, sym, subst}
use mathlib.Core.Bool.{Bool, true}
use mathlib.Core.List.{List}
use lib.ListN.{length}
use Rattle.language.specs.Trees.{Literal, Conj}
use Rattle.views.specs.Standing.{LiteralAt}
use Rattle.search.specs.declared.Best.{Best}
use Rattle.noting.specs.Noting as noting
use Rattle.courses.specs.declared.Course.{Course}
use Rattle.courses.specs.declared.Course.TheVariants.{First, Noted, Told}
use Rattle.courses.specs.Steps.{NotedStep}

pub as-course : (P : Course → Type 0) (course x : Course) → course ≡ x → P course → P x
as-course P course x e p = subst P e p

module _ (k : List ℕ) (b : Best) (made : ℕ) (course : Course) (old : List ℕ) where
  pub unnoted-first : course ≡ First → NotedStep k b made course old true old
  unnoted-first e = subst (λ x. NotedStep k b made x old true old) (sym e) (refl, refl)

  pub unnoted-told : course ≡ Told → NotedStep k b made course old true old
  unnoted-told e = subst (λ x. NotedStep k b made x old true old) (sym e) (refl, refl)

  pub noted-there : course ≡ Noted → (r : Bool) (new : List ℕ) (n : ℕ)
      → ((before : Conj) (l : Literal) (behind : Conj) → LiteralAt k b.at before l behind → n ≡ length before)
      → noting.Noted old made b.rank n b.swap r new → NotedStep k b made course old r new
  noted-there e r new n f p = subst (λ x. NotedStep k b made x old r new) (sym e) (λ before l behind s. subst (λ n. noting.Noted old made b.rank n b.swap r new) (f before l behind s) p)
