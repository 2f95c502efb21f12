-- What is done with a token, by its number.
use Prim.Native.Nat.{ℕ, zero, suc, ◌+◌, ◌-◌, ◌/◌, ◌%◌, ◌<◌, ◌≤◌}
use native.Mathlib.Omega.{arith}
use mathlib.Core.Path.{◌≡◌, refl, sym, ◌∙◌, subst}
use mathlib.Core.Bool.{Bool, true, false}
use lib.Dec.{eqb}
use borrow.Author.Tests.{eq-eqb, ne_eqb, le-leb, lt-leb}
use Rattle.language.specs.Kinds.{pick}
use Rattle.lexing.specs.declared.Mark.{Mark}
use Rattle.flat.specs.declared.State.{State}
use Rattle.flat.specs.declared.State.TheVariants.{Opened, Wanted, Named, Ready}
use Rattle.walking.specs.Walking.{stage_of}
use Rattle.shapes.specs.Shapes.{action_of, ends, refused, depth_by, end_words}
use Rattle.shapes.specs.Actions.{action_at, end_at}

small : (s : State) (m : Mark) → action_of s m % 10 ≤ 9
small s m = omega arith

pub at-state : (s : State) (m : Mark) → action_at (stage_of s) m ≡ action_of s m
unfolding action_at
at-state Opened m = refl
at-state Wanted m = refl
at-state Named m = refl
at-state Ready m = refl

pub end-state : (s : State) → end_at (stage_of s) ≡ end_words s
unfolding end_at
end-state Opened = refl
end-state Wanted = refl
end-state Named = refl
end-state Ready = refl

module _ (stage : ℕ) (m : Mark) where
  pub at-opened : stage ≡ 0 → {r : ℕ} → r ≡ action_of Opened m → r ≡ action_at stage m
  unfolding action_at
  at-opened e f = f ∙ rw (eq-eqb stage 0 e)

  module _ (p : stage ≡ 0 → ⊥) where
    pub at-wanted : stage ≡ 1 → {r : ℕ} → r ≡ action_of Wanted m → r ≡ action_at stage m
    unfolding action_at
    at-wanted e f = f ∙ rw (ne_eqb stage 0 p, eq-eqb stage 1 e)

    module _ (q : stage ≡ 1 → ⊥) where
      pub at_named : stage ≡ 2 → {r : ℕ} → r ≡ action_of Named m → r ≡ action_at stage m
      unfolding action_at
      at_named e f = f ∙ rw (ne_eqb stage 0 p, ne_eqb stage 1 q, eq-eqb stage 2 e)

      pub at_ready : (stage ≡ 2 → ⊥) → {r : ℕ} → r ≡ action_of Ready m → r ≡ action_at stage m
      unfolding action_at
      at_ready e f = f ∙ rw (ne_eqb stage 0 p, ne_eqb stage 1 q, ne_eqb stage 2 e)

pub no_end : (a d : ℕ) → a < 30 → false ≡ ends a d
unfolding ends
no_end a d p = rw (lt-leb 30 a p)

pub end-if : (a d : ℕ) → 30 ≤ a → eqb d 0 ≡ ends a d
unfolding ends
end-if a d p = rw (le-leb 30 a p)

pub refused-0 : (a : ℕ) → a / 10 ≡ 0 → true ≡ refused a
unfolding refused
refused-0 a e = rw (eq-eqb (a / 10) 0 e)

pub refused-5 : (a : ℕ) → (a / 10 ≡ 0 → ⊥) → eqb (a / 10) 5 ≡ refused a
unfolding refused
refused-5 a e = rw (ne_eqb (a / 10) 0 e)

pub deeper : (a d : ℕ) → a / 10 ≡ 1 → d + 1 ≡ depth_by a d
unfolding depth_by
deeper a d e = rw (eq-eqb (a / 10) 1 e)

pub shallower : (a d : ℕ) → (a / 10 ≡ 1 → ⊥) → a / 10 ≡ 3 → d - 1 ≡ depth_by a d
unfolding depth_by
shallower a d n e = rw (ne_eqb (a / 10) 1 n, eq-eqb (a / 10) 3 e)

pub as-deep : (a d : ℕ) → (a / 10 ≡ 1 → ⊥) → (a / 10 ≡ 3 → ⊥) → d ≡ depth_by a d
unfolding depth_by
as-deep a d n e = rw (ne_eqb (a / 10) 1 n, ne_eqb (a / 10) 3 e)

pub end-named : (stage : ℕ) → stage ≡ 2 → 1 ≡ end_at stage
unfolding end_at
end-named stage e = rw (eq-eqb stage 2 e)

pub end-other : (stage : ℕ) → (stage ≡ 2 → ⊥) → 0 ≡ end_at stage
unfolding end_at
end-other stage e = rw (ne_eqb stage 2 e)

pub end-small : (stage : ℕ) {w : ℕ} → w ≡ end_at stage → w ≤ 9
unfolding end_at
end-small stage {w} e = subst (λ k. k ≤ 9) (sym e) (on (eqb stage 2))
  where
    on : (b : Bool) → pick b 1 0 ≤ 9
    on true = omega arith
    on false = omega arith

pub positive : (a d : ℕ) {c : Bool} → c ≡ ends a d → c ≡ false → 30 ≤ a → 0 < d
unfolding ends
positive a zero e z y = absurd (let q : ◌≡◌ {A = ℕ} 0 1 = cc (le-leb 30 a y) in omega arith)
positive a (suc d) e z y = omega arith

pub deep : (a d : ℕ) → depth_by a d ≤ d + 1
unfolding depth_by
deep a d = on (eqb (a / 10) 1) (eqb (a / 10) 3)
  where
    on : (s t : Bool) → pick s (d + 1) (pick t (d - 1) d) ≤ d + 1
    on true t = omega arith
    on false true = omega arith
    on false false = omega arith
