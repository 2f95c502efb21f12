-- How many words stand before the next literal, word by word.
use mathlib.Core.Path.{◌≡◌, ap, ◌∙◌}
use mathlib.Core.List.{List, ◌∷◌}
use mathlib.Core.Logic.{◌⊎◌, inl, inr}
use Prim.Native.Nat.{ℕ, suc, ◌+◌, ◌<◌, ◌≤◌}
use lib.ListN.{length, get_or, drop, drop_of_length-le}
use borrow.Author.Tests.{eq-eqb, ne_eqb}
use Rattle.words.specs.Places.{until_literal}
use Rattle.words.proofs.Parts.{drop_here}

pub on : (x : ℕ) (ws : List ℕ) → (x ≡ 5000 → ⊥) → (x ≡ 6000 → ⊥) → until_literal (x ∷ ws) ≡ suc (until_literal ws)
unfolding until_literal
on x ws a b = rw (ne_eqb x 5000 a, ne_eqb x 6000 b)

pub off : (x : ℕ) (ws : List ℕ) → (x ≡ 5000) ⊎ (x ≡ 6000) → until_literal (x ∷ ws) ≡ 0
unfolding until_literal
off x ws (inl e) = rw (eq-eqb x 5000 e)
off x ws (inr e) = rw (ap (λ y. until_literal (y ∷ ws)) e)

-- one turn of the scan
module _ (k : List ℕ) (i : ℕ) (p : i < length k) where
  pub until_stop : (get_or k i 0 ≡ 5000) ⊎ (get_or k i 0 ≡ 6000) → until_literal (drop i k) ≡ 0
  until_stop e = ap until_literal (drop_here k i p) ∙ off (get_or k i 0) (drop (i + 1) k) e

  pub until-on : (get_or k i 0 ≡ 5000 → ⊥) → (get_or k i 0 ≡ 6000 → ⊥) → until_literal (drop i k) ≡ suc (until_literal (drop (i + 1) k))
  until-on a b = ap until_literal (drop_here k i p) ∙ on (get_or k i 0) (drop (i + 1) k) a b

pub until_end : (k : List ℕ) (i : ℕ) → length k ≤ i → until_literal (drop i k) ≡ 0
unfolding until_literal
until_end k i h = ap until_literal (drop_of_length-le k {i = i} h)
