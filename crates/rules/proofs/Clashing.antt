-- What the clash comes to at a literal: nothing, no result at all, or 21; and that it goes by what is said of each symbol alone.
use Prim.Native.Nat.{ℕ}
use mathlib.Core.Path.{◌≡◌, refl, ap, ap₂, ◌∙◌}
use mathlib.Core.Bool.{Bool, true, false, ◌||◌}
use mathlib.Core.List.{List, [], ◌∷◌}
use mathlib.Core.Option.{Option, none, some}
use Rattle.language.specs.declared.Sym.{Sym}
use Rattle.language.specs.declared.Refusal.TheVariants.{LongWalk}
use Rattle.language.specs.Trees.{Expr, eps, cat, alt, star, over, Literal, eqn, mem, Conj, Var}
use Rattle.rules.specs.Reply.{Reply, nothing, results, stops, or_next}
use Rattle.rules.specs.Solved.{lone_var}
use Rattle.rules.specs.Walk.{long_walk}
use Rattle.rules.specs.Clash.{Unordered, mentions, agree, is_lone, try_pair, try_behind, ClashBy}
use Rattle.rules.proofs.Steps.{Gives}

-- where two say the same of every symbol, so do their clashes
module _ (u w : Unordered) (same : (f : Sym) → u f ≡ w f) where
  mentions-same : (R : Expr) → mentions u R ≡ mentions w R
  mentions-same eps = refl
  mentions-same (cat a b) = ap₂ ◌||◌ (mentions-same a) (mentions-same b)
  mentions-same (alt a b) = ap₂ ◌||◌ (mentions-same a) (mentions-same b)
  mentions-same (star a) = mentions-same a
  mentions-same (over f a) = ap₂ ◌||◌ (same f) (mentions-same a)

  pair_same : (limit : ℕ) (v : Var) (R S : Expr) → try_pair limit u v R S ≡ try_pair limit w v R S
  pair_same limit v R S =
      ap {B = Reply (List Conj)} (λ b. elim b [
        | true ↦ nothing
        | false ↦
            elim (long_walk limit R S) [
              | true ↦ stops LongWalk
              | false ↦ elim (agree v R S) [ true ↦ nothing | false ↦ results [] ]
            ]
      ]) (ap₂ ◌||◌ (mentions-same R) (mentions-same S))

  behind-same : (limit : ℕ) (v : Var) (R : Expr) (k : Conj) → try_behind limit u v R k ≡ try_behind limit w v R k
  behind-same limit v R [] = refl
  behind-same limit v R (eqn l r ∷ k) = behind-same limit v R k
  behind-same limit v R (mem h S ∷ k) = go (is_lone v h) (behind-same limit v R k)
    where
      go : (b : Bool) → try_behind limit u v R k ≡ try_behind limit w v R k
          → ◌≡◌ {A = Reply (List Conj)} (elim b [ true ↦ or_next (try_pair limit u v R S) (λ _. try_behind limit u v R k) | false ↦ try_behind limit u v R k ])
          (elim b [ true ↦ or_next (try_pair limit w v R S) (λ _. try_behind limit w v R k) | false ↦ try_behind limit w v R k ])
      go true e = ap (λ m. or_next m (λ _. try_behind limit u v R k)) (pair_same limit v R S) ∙ ap (λ m. or_next (try_pair limit w v R S) (λ _. m)) e
      go false e = e

  pub clash-same : (limit : ℕ) (l : Literal) (behind : Conj) → ClashBy limit u l behind ≡ ClashBy limit w l behind
  clash-same limit (eqn l r) behind = refl
  clash-same limit (mem h R) behind = go (lone_var h)
    where
      go : (m : Option Var)
          → ◌≡◌ {A = Reply (List Conj)} (elim m [ none ↦ nothing | some v ↦ try_behind limit u v R behind ]) (elim m [ none ↦ nothing | some v ↦ try_behind limit w v R behind ])
      go none = refl
      go (some v) = behind-same limit v R behind

-- no result, and no refusal but 21
abbrev pub Drops : Reply (List Conj) → Type 0
Drops nothing = Unit {0}
Drops (results ks) = ks ≡ []
Drops (stops r) = r ≡ LongWalk

-- P of no result is P of whatever the results are
pub drops-gives : (P : List Conj → Type 0) (m : Reply (List Conj)) → P [] → Drops m → Gives P m
drops-gives P nothing p d = tt
drops-gives P (results ks) p d = rw d p
drops-gives P (stops r) p d = tt

drops-next : (m : Reply (List Conj)) (k : Unit {0} → Reply (List Conj)) → Drops m → Drops (k tt) → Drops (or_next m k)
drops-next nothing k d e = e
drops-next (results ks) k d e = d
drops-next (stops r) k d e = d

module _ (limit : ℕ) (u : Unordered) where
  pair-drops : (v : Var) (R S : Expr) → Drops (try_pair limit u v R S)
  pair-drops v R S = go (mentions u R || mentions u S) (long_walk limit R S) (agree v R S)
    where
      go : (a b c : Bool) → Drops (elim a [ true ↦ nothing | false ↦ elim b [ true ↦ stops LongWalk | false ↦ elim c [ true ↦ nothing | false ↦ results [] ] ] ])
      go true b c = tt
      go false true c = refl
      go false false true = tt
      go false false false = refl

  behind-drops : (v : Var) (R : Expr) (k : Conj) → Drops (try_behind limit u v R k)
  behind-drops v R [] = tt
  behind-drops v R (eqn l r ∷ k) = behind-drops v R k
  behind-drops v R (mem h S ∷ k) = go (is_lone v h) (behind-drops v R k)
    where
      go : (b : Bool) → Drops (try_behind limit u v R k)
          → Drops (elim b [ true ↦ or_next (try_pair limit u v R S) (λ _. try_behind limit u v R k) | false ↦ try_behind limit u v R k ])
      go true d = drops-next (try_pair limit u v R S) (λ _. try_behind limit u v R k) (pair-drops v R S) d
      go false d = d

  pub clash-drops : (l : Literal) (behind : Conj) → Drops (ClashBy limit u l behind)
  clash-drops (eqn l r) behind = tt
  clash-drops (mem h R) behind = go (lone_var h)
    where
      go : (w : Option Var) → Drops (elim w [ none ↦ nothing | some v ↦ try_behind limit u v R behind ])
      go none = tt
      go (some v) = behind-drops v R behind
