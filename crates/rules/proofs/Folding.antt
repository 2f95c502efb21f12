-- What the fold makes of a literal and those behind it: one that has the same words is struck out of them.
use Prim.Native.Nat.{ℕ}
use mathlib.Core.Path.{◌≡◌, refl}
use mathlib.Core.Bool.{Bool, true, false}
use mathlib.Core.List.{List, [], ◌∷◌}
use mathlib.Core.Option.{Option, none, some, map, some-ne-none}
use native.Mathlib.Omega.{arith}
use lib.Dec.{T}
use Rattle.language.specs.Kinds.{pick}
use Rattle.language.specs.Trees.{Literal, Conj, same_literal}
use Rattle.rules.specs.Each.{Each}
use Rattle.rules.specs.Reply.{nothing}
use Rattle.rules.specs.Rules.{strike, folded, Fold}
use Rattle.rules.proofs.Names.{same_literal-is}
use Rattle.rules.proofs.Answers.{Where, where-map}
use Rattle.rules.proofs.Steps.{Gives}

-- the literals are those that are left and, somewhere among them, l
pub data Struck (l : Literal) : Conj → Conj → Type 0 where
  here : {k : Conj} → Struck l (l ∷ k) k
  further : {m : Literal} {k j : Conj} → Struck l k j → Struck l (m ∷ k) (m ∷ j)

pub strike-is : (l : Literal) (k : Conj) → Where (Struck l k) (strike l k)
strike-is l [] = tt
strike-is l (m ∷ k) = picked (same_literal l m) (same_literal-is l m) (strike l k) (strike-is l k)
  where
    picked : (b : Bool) → (T b → l ≡ m) → (w : Option Conj) → Where (Struck l k) w → Where (Struck l (m ∷ k)) (pick b (some k) (map (λ (c : Conj). m ∷ c) w))
    picked true e w p = rw (e tt) here
    picked false e w p = where-map (Struck l (m ∷ k)) (λ c. m ∷ c) w (λ c q. further q) p

-- P of the fold's one result, where it is P of every list from which one l is struck
pub fold_is : (P : List Conj → Type 0) (l : Literal) (behind : Conj) → ((k : Conj) → Struck l behind k → P ((l ∷ k) ∷ [])) → Gives P (Fold l behind)
fold_is P l behind h = go (strike l behind) (strike-is l behind)
  where
    go : (w : Option Conj) → Where (Struck l behind) w → Gives P (folded l w)
    go none p = tt
    go (some k) p = h k p

-- where nothing is struck, none has the same words
strike-none : (l : Literal) (k : Conj) → strike l k ≡ none → Each (λ m. same_literal l m ≡ false) k
strike-none l [] e = tt
strike-none l (m ∷ k) e = picked (same_literal l m) refl (strike l k) (strike-none l k) e
  where
    picked : (b : Bool) → same_literal l m ≡ b → (w : Option Conj) → (w ≡ none → Each (λ m. same_literal l m ≡ false) k)
        → pick b (some k) (map (λ (c : Conj). m ∷ c) w) ≡ none → Each (λ m. same_literal l m ≡ false) (m ∷ k)
    picked true d w h e = absurd (some-ne-none _ e)
    picked false d none h e = (d, h refl)
    picked false d (some c) h e = absurd (some-ne-none _ e)

-- where the fold does not apply to a literal, none behind it has the same words
pub fold-none : (l : Literal) (behind : Conj) → Fold l behind ≡ nothing → Each (λ m. same_literal l m ≡ false) behind
fold-none l behind e = go (strike l behind) (strike-none l behind) e
  where
    go : (w : Option Conj) → (w ≡ none → Each (λ m. same_literal l m ≡ false) behind) → folded l w ≡ nothing → Each (λ m. same_literal l m ≡ false) behind
    go none h e = h refl
    go (some k) h e = absurd (let z : ◌≡◌ {A = ℕ} 0 1 = cc in omega arith)
