-- Several complete hedges in a row: what counting depth passes.
use Prim.Native.Nat.{ℕ, ◌+◌, ◌-◌, ◌<◌, ◌≤◌}
use mathlib.Core.Path.{◌≡◌, refl, ◌∙◌}
use mathlib.Core.List.{List, [], ◌∷◌}
use native.Mathlib.Omega.{arith}
use lib.Dec.{eqb}
use lib.ListN.{length, get_or}
use borrow.Author.Tests.{eq-eqb, ne_eqb}
use Rattle.language.specs.Kinds.{pick}
use Rattle.meaning.specs.Complete.{Complete, nil, tree}
use Rattle.passing.specs.Places.{size_c, Holds, at-nil, at-tree, Hedge, Skipped}
use Rattle.passing.proofs.Standing.{holds-lt, holds_fits}

abbrev InRow : List ℕ → ℕ → List Complete → Type 0
InRow h i [] = Unit {0}
InRow h i (g ∷ gs) = Holds h i g × InRow h (i + size_c g) gs

abbrev total : List Complete → ℕ
total [] = 0
total (g ∷ gs) = size_c g + total gs

-- `depth` hedges stand from i on, and end at n
pub record Row (h : List ℕ) (i n depth : ℕ) : Type 0 where
  pub gs : List Complete
  pub count : length gs ≡ depth
  pub stand : InRow h i gs
  pub ends : i + total gs ≡ n

some_size : (g : Complete) → 0 < size_c g
some_size nil = omega arith
some_size (tree f c r) = omega arith

row_fits : (h : List ℕ) (i : ℕ) (gs : List Complete) → InRow h i gs → i ≤ length h → length gs + i ≤ length h
row_fits h i [] s p = omega arith
row_fits h i (g ∷ gs) s p = omega (arith, row_fits h (i + size_c g) gs s.1 (holds_fits s.0), some_size g)

module _ {h : List ℕ} {i n depth : ℕ} where
  pub row_lt : Row h i n depth → 0 < depth → i < length h
  row_lt r p = go r.gs r.count r.stand
    where
      go : (gs : List Complete) → length gs ≡ depth → InRow h i gs → i < length h
      go [] c s = absurd (omega arith)
      go (g ∷ gs) c s = holds-lt s.0

  pub row-depth : Row h i n depth → i ≤ length h → depth + i ≤ length h
  row-depth r p = omega (arith, row_fits h i r.gs r.stand p, r.count)

  pub row-end : Row h i n depth → depth ≤ 0 → i ≡ n
  row-end r p = go r.gs r.count r.ends
    where
      go : (gs : List Complete) → length gs ≡ depth → i + total gs ≡ n → i ≡ n
      go [] c e = omega arith
      go (g ∷ gs) c e = absurd (omega arith)

  pub row_on : {d : ℕ} → Row h i n depth → 0 < depth → d ≡ pick (eqb (get_or h i 0) 0) (depth - 1) (depth + 1) → Row h (i + 1) n d
  row_on {d} r p z = go r.gs r.count r.stand r.ends
    where
      go : (gs : List Complete) → length gs ≡ depth → InRow h i gs → i + total gs ≡ n → Row h (i + 1) n d
      go [] c s e = absurd (omega arith)
      go (nil ∷ gs) c (at-nil l v, s) e =
          let q : d ≡ depth - 1 = z ∙ rw (eq-eqb (get_or h i 0) 0 v) in
          record { gs = gs; count = omega arith; stand = s; ends = omega arith }
      go (tree f u r ∷ gs) c (at-tree l v x y, s) e =
          let q : d ≡ depth + 1 = z ∙ rw (ne_eqb (get_or h i 0) 0 (omega arith)) in
          let k : i + (1 + size_c u + size_c r) ≡ i + 1 + size_c u + size_c r = omega arith in
          record { gs = u ∷ r ∷ gs; count = omega arith; stand = (x, (y, rw k at s)); ends = omega arith }

-- the hedge alone
pub row_one : {h : List ℕ} {j : ℕ} (g : Complete) → Holds h j g → Row h j (j + size_c g) 1
row_one g x = record { gs = g ∷ []; count = refl; stand = (x, tt); ends = omega arith }

-- ---- passing the hedge that stands at j: at i, with so many hedges still to pass

pub record Passing (h : List ℕ) (j i depth : ℕ) : Type 0 where
  pub here : Hedge h j
  pub inside : i ≤ length h
  pub row : (g : Complete) → Holds h j g → Row h i (j + size_c g) depth

pub passing-starts : {h : List ℕ} {j : ℕ} → Hedge h j → Passing h j j 1
passing-starts p = record { here = p; inside = omega (arith, holds-lt p.here); row = row_one }

module _ {h : List ℕ} {j i depth : ℕ} where
  some-row : (p : Passing h j i depth) → Row h i (j + size_c p.here.g) depth
  some-row p = p.row p.here.g p.here.here

  pub passing-lt : Passing h j i depth → 0 < depth → i < length h
  passing-lt p q = row_lt (some-row p) q

  pub passing-depth : Passing h j i depth → depth + i ≤ length h
  passing-depth p = row-depth (some-row p) p.inside

  pub passing-on : {d : ℕ} → Passing h j i depth → 0 < depth → d ≡ pick (eqb (get_or h i 0) 0) (depth - 1) (depth + 1) → Passing h j (i + 1) d
  passing-on p q z = record { here = p.here; inside = omega (arith, passing-lt p q); row = λ g x. row_on (p.row g x) q z }

  pub passing-ends : Passing h j i depth → depth ≤ 0 → Skipped h j i
  passing-ends p q = record { each = λ g x. row-end (p.row g x) q }
