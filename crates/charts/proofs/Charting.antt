-- The chart of ends and emptiness, place by place from the last.
use Prim.Native.Nat.{ℕ, ◌+◌, ◌<◌, ◌≤◌}
use mathlib.Core.Path.{◌≡◌, refl, sym, ap, subst, ◌∙◌}
use mathlib.Core.Bool.{Bool, true, false}
use mathlib.Core.List.{List}
use native.Mathlib.Omega.{arith}
use lib.Dec.{eqb}
use lib.ListN.{length, get_or, set, length-set}
use lib.Seq.{get_or-set_same, get_or-set_other}
use borrow.Author.Tests.{eqb-true, eqb-false}
use Rattle.expressions.specs.declared.Part.{Part}
use Rattle.expressions.specs.Passing.{part_at}
use Rattle.expressions.specs.Standing.{Parted}
use Rattle.charts.specs.Charted.{told, ChartedFrom, Charts}

pub chart-none : {k ends : List ℕ} {nulls : List Bool} → length k ≤ length ends → length k ≤ length nulls → ChartedFrom (length k) k ends nulls
chart-none r s = record { ends-room = r; nulls-room = s; each = λ i a b. absurd (omega arith) }

pub chart-from : {k ends : List ℕ} {nulls : List Bool} {at i : ℕ} → at ≤ i → ChartedFrom at k ends nulls → ChartedFrom i k ends nulls
chart-from h c = record { ends-room = c.ends-room; nulls-room = c.nulls-room; each = λ j a b. c.each j (omega arith) b }

pub charted : {k ends : List ℕ} {nulls : List Bool} {at : ℕ} → ChartedFrom at k ends nulls → at < length k
    → Parted k at (record { end = get_or ends at 0; null = get_or nulls at false; bare = eqb (get_or k at 0) 7000 })
charted {k} {ends} {nulls} {at} c h = c.each at (omega arith) h

-- whether a part is bare is told by its word
bare-by : {k : List ℕ} {at : ℕ} {p : Part} → Parted k at p → p.bare ≡ eqb (get_or k at 0) 7000
unfolding part_at
bare-by q = ap (λ (r : Part). r.bare) q.is

as-told : {k : List ℕ} {at : ℕ} {p : Part} → Parted k at p → Parted k at (record { end = p.end; null = p.null; bare = eqb (get_or k at 0) 7000 })
as-told {k} {at} {p} q = subst (λ b. Parted k at (record { end = p.end; null = p.null; bare = b })) (bare-by q) q

-- a place more
pub chart-more : {k ends : List ℕ} {nulls : List Bool} {at : ℕ} {p : Part} → at < length k → Parted k at p → ChartedFrom (at + 1) k ends nulls
    → ChartedFrom at k (set ends at p.end) (set nulls at p.null)
chart-more {k} {ends} {nulls} {at} {p} h q c =
    record {
      ends-room = let l = length-set ends at p.end in let r = c.ends-room in omega arith;
      nulls-room = let l = length-set nulls at p.null in let r = c.nulls-room in omega arith;
      each = λ i a b. go i a b (eqb i at) refl;
    }
  where
    go : (i : ℕ) → at ≤ i → i < length k → (b : Bool) → eqb i at ≡ b → Parted k i (told k (set ends at p.end) (set nulls at p.null) i)
    go i a b true z =
        let y = eqb-true i at z in
        let r = c.ends-room in
        let s = c.nulls-room in
        subst (λ j. Parted k j (told k (set ends at p.end) (set nulls at p.null) j)) (sym y)
        (subst (λ e. Parted k at (record { end = e; null = get_or (set nulls at p.null) at false; bare = eqb (get_or k at 0) 7000 })) (sym (get_or-set_same ends at p.end 0 (omega arith)))
        (subst (λ n. Parted k at (record { end = p.end; null = n; bare = eqb (get_or k at 0) 7000 })) (sym (get_or-set_same nulls at p.null false (omega arith))) (as-told q)))
    go i a b false z =
        let y = eqb-false i at z in
        subst (λ e. Parted k i (record { end = e; null = get_or (set nulls at p.null) i false; bare = eqb (get_or k i 0) 7000 })) (sym (get_or-set_other ends at i p.end 0 (omega arith)))
        (subst (λ n. Parted k i (record { end = get_or ends i 0; null = n; bare = eqb (get_or k i 0) 7000 })) (sym (get_or-set_other nulls at i p.null false (omega arith))) (c.each i (omega arith) b))

-- what stands behind the places of the words is as it was
pub record Rest (k ends : List ℕ) (nulls : List Bool) (ends' : List ℕ) (nulls' : List Bool) : Type 0 where
  pub ends-kept : (i : ℕ) → length k ≤ i → get_or ends' i 0 ≡ get_or ends i 0
  pub nulls-kept : (i : ℕ) → length k ≤ i → get_or nulls' i false ≡ get_or nulls i false

pub rest-none : {k ends : List ℕ} {nulls : List Bool} → Rest k ends nulls ends nulls
rest-none = record { ends-kept = λ i h. refl; nulls-kept = λ i h. refl }

pub rest_more : {k ends ends' : List ℕ} {nulls nulls' : List Bool} (at x : ℕ) (y : Bool) → at < length k → Rest k ends nulls ends' nulls'
    → Rest k ends nulls (set ends' at x) (set nulls' at y)
rest_more {ends' = ends'} {nulls' = nulls'} at x y h r =
    record {
      ends-kept = λ i l. get_or-set_other ends' at i x 0 (omega arith) ∙ r.ends-kept i l;
      nulls-kept = λ i l. get_or-set_other nulls' at i y false (omega arith) ∙ r.nulls-kept i l;
    }

-- at the end
pub chart-whole : {k ends ends' : List ℕ} {nulls nulls' : List Bool} → ChartedFrom 0 k ends' nulls' → length ends' ≡ length ends → length nulls' ≡ length nulls
    → Rest k ends nulls ends' nulls' → Charts k ends nulls ends' nulls'
chart-whole c e n r = record { here = c; ends-long = e; nulls-long = n; ends-kept = r.ends-kept; nulls-kept = r.nulls-kept }
