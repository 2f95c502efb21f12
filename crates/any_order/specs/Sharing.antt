-- Terms shared out among the symbols of an expression. In any order, a hedge is a member exactly where each of its terms can be put on a symbol that it is of,
-- so that the numbers on the symbols are those of one member.
use Rattle.std.specs.Prelude.{ℕ, zero, suc, ◌+◌, ◌<◌, ◌≤◌, ◌≡◌, List, [], ◌∷◌, eqb, length, get_or}
use Rattle.language.specs.Kinds.{pick}
use Rattle.language.specs.Trees.{Expr, eps, cat, alt, star, over}
use Rattle.rules.specs.Each.{Some}
use Rattle.any_order.specs.Places.{size_e}

-- how many terms are put on the symbol at each place
abbrev pub Counts : Type 0
Counts = ℕ → ℕ

abbrev pub bump : Counts → ℕ → Counts
bump c p q = pick (eqb q p) (suc (c q)) (c q)

-- What is put on the symbols of R, which stands at `at`, is that of n members together: a concatenation has as many of each part, a choice divides them, a
-- star has any number, but none where there is no star.
abbrev pub Sums : Expr → ℕ → Counts → ℕ → Type 0
Sums eps at c n = Unit {0}
Sums (cat a b) at c n = Sums a (at + 1) c n × Sums b (at + 1 + size_e a) c n
Sums (alt a b) at c n = (i : ℕ) × (j : ℕ) × (n ≡ i + j) × Sums a (at + 1) c i × Sums b (at + 1 + size_e a) c j
Sums (star a) at c n = (i : ℕ) × (0 < i → 0 < n) × Sums a (at + 1) c i
Sums (over f a) at c n = c at ≡ n

-- ---- terms by their kinds

-- so many terms that may be put on these places
pub record Kind : Type 0 where
  pub times : ℕ
  pub places : List ℕ

abbrev pub In : ℕ → List ℕ → Type 0
In p L = Some (λ x. p ≡ x) L

-- n terms are put on places of L from f on, and then G
abbrev pub Ways : (Counts → Type 0) → Counts → ℕ → ℕ → List ℕ → Type 0
Ways G c zero f L = G c
Ways G c (suc n) f L = (p : ℕ) × In p L × (f ≤ p) × Ways G (bump c p) n f L

-- all terms of the kinds are put on their places, and then G
abbrev pub Rest : (Counts → Type 0) → List Kind → Counts → Type 0
Rest G [] c = G c
Rest G (k ∷ ks) c = Ways (Rest G ks) c k.times 0 k.places

-- n more of the first kind, from f on, and all of the others
abbrev pub Going : (Counts → Type 0) → List Kind → ℕ → ℕ → Counts → Type 0
Going G [] n f c = G c
Going G (k ∷ ks) n f c = Ways (Rest G ks) c n f k.places

-- one member
abbrev pub Good : Expr → ℕ → Counts → Type 0
Good R at c = Sums R at c 1

abbrev pub none : Counts
none q = 0

-- ---- in words

abbrev pub Ascending : List ℕ → Type 0
Ascending L = (i j : ℕ) → i ≤ j → j < length L → get_or L i 0 ≤ get_or L j 0

-- a kind: how many terms, how many places, the places
pub record Recorded (w : List ℕ) (at : ℕ) (k : Kind) : Type 0 where
  pub times : get_or w at 0 ≡ k.times
  pub some : 0 < k.times
  pub count : get_or w (at + 1) 0 ≡ length k.places
  pub places : (i : ℕ) → i < length k.places → get_or w (at + 2 + i) 0 ≡ get_or k.places i 0
  pub ascending : Ascending k.places

-- kinds, one after another up to `top`
abbrev pub Records : List ℕ → ℕ → List Kind → ℕ → Type 0
Records w at [] top = at ≡ top
Records w at (k ∷ ks) top = Recorded w at k × Records w (at + 2 + length k.places) ks top

-- how many terms
abbrev pub total : List Kind → ℕ
total [] = 0
total (k ∷ ks) = k.times + total ks
