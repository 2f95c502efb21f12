-- Which numbers are states, and the first state with the same meaning.
use Prim.Native.Nat.{ℕ, ◌+◌, ◌*◌, ◌-◌, ◌/◌, ◌%◌, ◌<◌, ◌≤◌}
use mathlib.Core.Path.{◌≡◌, refl, sym, ap, subst, ◌∙◌}
use mathlib.Core.Logic.{◌⊎◌, inl, inr}
use mathlib.Core.Bool.{Bool, true, false}
use mathlib.Core.List.{List}
use native.Mathlib.Omega.{arith}
use native.Mathlib.Decide.{dec_le, ℕ_discrete}
use lib.ListN.{length, get_or, set, length-append, length-set}
use lib.Seq.{get_or-set_same, get_or-set_other}
use Rattle.language.specs.Trees.{Expr, eps, cat, alt, star, over}
use Rattle.language.specs.Writing.{expr_words}
use Rattle.expressions.specs.Standing.{Here, Parted}
use Rattle.expressions.proofs.Standing.{word-of}
use Rattle.walk.specs.Spots.{Spot, here, in_left, in_right, in_first, in_second, in_star, whole, inner_at, rest_at}
use Rattle.charts.specs.Levels.{place_of, Sought, nowhere, on_top, below, through, under, sought}
use Rattle.state_classes.specs.States.{Spotted, Means, itself, inside, after}
use Rattle.expressions.specs.declared.Part.{Part}
use Rattle.state_classes.specs.declared.tails.Tail.{Tail}
use Rattle.state_classes.specs.declared.tails.Split.{Split}
use Rattle.state_classes.specs.Tails.{TailOf, SameState, OpenedNone, Apart, Whole}
use Rattle.state_classes.specs.Classes.{StateTest, Liked, Classed, FirstState, Tabled, KeptTo, Changed, last_part, count_of, Counted, Keyed, KeyedTo}
use Rattle.charts.proofs.Places.{place_in, cat-left, cat-right, alt-left, alt-right, over-here, over_below, sought-right, Right}
use Rattle.state_classes.proofs.Meanings.{Stands, in-cat, in-alt, in-star, in-over, spotted-place, spotted-stands}
use Rattle.state_classes.proofs.Peeling.{differ}

-- ---- a word below 7000 is that of a symbol

pub spot-low : (k : List ℕ) (at : ℕ) (p : Spot) → Stands k at (whole p) → get_or k (place_of at p) 0 < 7000
spot-low k at (here f R) (w, h) = let e = word-of k at h.words in let b = h.fine.0 in omega arith
spot-low k at (in_left p b) h = spot-low k (at + 1) p (in-cat k at (whole p) b h).0
spot-low k at (in_right a p) h = spot-low k (at + 1 + length (expr_words a)) p (in-cat k at a (whole p) h).1
spot-low k at (in_first p b) h = spot-low k (at + 1) p (in-alt k at (whole p) b h).0
spot-low k at (in_second a p) h = spot-low k (at + 1 + length (expr_words a)) p (in-alt k at a (whole p) h).1
spot-low k at (in_star p) h = spot-low k (at + 1) p (in-star k at (whole p) h)

-- something was found
abbrev Some : Sought → Type 0
Some nowhere = ⊥
Some (on_top p) = Unit {0}
Some (below l p) = Unit {0}

some-through : (f : Spot → Spot) (s : Sought) → Some s → Some (through f s)
some-through f nowhere z = z
some-through f (on_top p) z = tt
some-through f (below l p) z = tt

some-under : (l : ℕ) (s : Sought) → Some s → Some (under l s)
some-under l nowhere z = z
some-under l (on_top p) z = tt
some-under l (below m p) z = tt

found : (k : List ℕ) (at : ℕ) (R : Expr) (j : ℕ) → Stands k at R → at ≤ j → j < at + length (expr_words R) → get_or k j 0 < 7000 → Some (sought at R j)
found k at eps j (w, h) l m z = let e : j ≡ at = omega arith in let d = word-of k at h.words in let c = ap (λ i. get_or k i 0) e in absurd (omega arith)
found k at (cat a b) j h l m z = go (ℕ_discrete j at) (dec_le (at + 1 + length (expr_words a)) j) (found k (at + 1) a j (in-cat k at a b h).0) (found k (at + 1 + length (expr_words a)) b j (in-cat k at a b h).1)
  where
    go : Dec (j ≡ at) → Dec (at + 1 + length (expr_words a) ≤ j) → (at + 1 ≤ j → j < at + 1 + length (expr_words a) → get_or k j 0 < 7000 → Some (sought (at + 1) a j))
        → (at + 1 + length (expr_words a) ≤ j → j < at + 1 + length (expr_words a) + length (expr_words b) → get_or k j 0 < 7000 → Some (sought (at + 1 + length (expr_words a)) b j)) → Some (sought at (cat a b) j)
    go (yes e) d x y = let c = word-of k at h.1.words in let i = ap (λ i. get_or k i 0) e in absurd (omega arith)
    go (no n) (yes e) x y =
        let o = length-append (expr_words a) (expr_words b) in
        subst Some (sym (cat-right at a b j e)) (some-through (in_right a) (sought (at + 1 + length (expr_words a)) b j) (y e (omega arith) z))
    go (no n) (no e) x y = subst Some (sym (cat-left at a b j (omega arith))) (some-through (λ p. in_left p b) (sought (at + 1) a j) (x (omega arith) (omega arith) z))
found k at (alt a b) j h l m z = go (ℕ_discrete j at) (dec_le (at + 1 + length (expr_words a)) j) (found k (at + 1) a j (in-alt k at a b h).0) (found k (at + 1 + length (expr_words a)) b j (in-alt k at a b h).1)
  where
    go : Dec (j ≡ at) → Dec (at + 1 + length (expr_words a) ≤ j) → (at + 1 ≤ j → j < at + 1 + length (expr_words a) → get_or k j 0 < 7000 → Some (sought (at + 1) a j))
        → (at + 1 + length (expr_words a) ≤ j → j < at + 1 + length (expr_words a) + length (expr_words b) → get_or k j 0 < 7000 → Some (sought (at + 1 + length (expr_words a)) b j)) → Some (sought at (alt a b) j)
    go (yes e) d x y = let c = word-of k at h.1.words in let i = ap (λ i. get_or k i 0) e in absurd (omega arith)
    go (no n) (yes e) x y =
        let o = length-append (expr_words a) (expr_words b) in
        subst Some (sym (alt-right at a b j e)) (some-through (in_second a) (sought (at + 1 + length (expr_words a)) b j) (y e (omega arith) z))
    go (no n) (no e) x y = subst Some (sym (alt-left at a b j (omega arith))) (some-through (λ p. in_first p b) (sought (at + 1) a j) (x (omega arith) (omega arith) z))
found k at (star a) j h l m z = go (ℕ_discrete j at) (found k (at + 1) a j (in-star k at a h))
  where
    go : Dec (j ≡ at) → (at + 1 ≤ j → j < at + 1 + length (expr_words a) → get_or k j 0 < 7000 → Some (sought (at + 1) a j)) → Some (sought at (star a) j)
    go (yes e) x = let c = word-of k at h.1.words in let i = ap (λ i. get_or k i 0) e in absurd (omega arith)
    go (no n) x = some-through in_star (sought (at + 1) a j) (x (omega arith) (omega arith) z)
found k at (over f a) j h l m z = go (ℕ_discrete j at) (found k (at + 1) a j (in-over k at f a h))
  where
    go : Dec (j ≡ at) → (at + 1 ≤ j → j < at + 1 + length (expr_words a) → get_or k j 0 < 7000 → Some (sought (at + 1) a j)) → Some (sought at (over f a) j)
    go (yes e) x = subst Some (sym (over-here at f a j e)) tt
    go (no n) x = subst Some (sym (over_below at f a j (omega arith))) (some-under (at + 1) (sought (at + 1) a j) (x (omega arith) (omega arith) z))

symbol-at : (k : List ℕ) (at : ℕ) (R : Expr) (j : ℕ) → Stands k at R → at ≤ j → j < at + length (expr_words R) → get_or k j 0 < 7000 → (l : ℕ) × (p : Spot) × Spotted at R j l p
symbol-at k at R j h l m z = go (sought at R j) refl (found k at R j h l m z)
  where
    go : (s : Sought) → sought at R j ≡ s → Some s → (l : ℕ) × (p : Spot) × Spotted at R j l p
    go nowhere e x = absurd x
    go (on_top p) e x = (at, p, inl (refl, e))
    go (below l p) e x = (l, p, inr e)

-- ---- states

-- a state's place is not before the expression
pub place-from : (at : ℕ) (R : Expr) (j l : ℕ) (p : Spot) → Spotted at R j l p → at ≤ j
place-from at R j l p s = elim s [
  | inl (e, d) ↦ let r = subst (Right at R j) d (sought-right at R j) in let x = (place_in at p).0 in let y = r.1 in omega arith
  | inr d ↦ let (x, y, z) = subst (Right at R j) d (sought-right at R j) in let u = (place_in l p).0 in omega arith
]

pub state-first : {k : List ℕ} {first t : ℕ} → t ≤ first → StateTest k first t true
state-first h = record { yes = λ at R w e i l m _. (R, itself (omega arith) refl); only = λ at R w e i X m. refl }

pub state-symbol : {k : List ℕ} {first t j : ℕ} → first < t → j ≡ (t - 1) / 2 → get_or k j 0 < 7000 → StateTest k first t true
state-symbol {k} {first} {t} {j} h e z = record { yes = λ at R w d i l m _. found-state at R w d i l m; only = λ at R w d i X m. refl }
  where
    found-state : (at : ℕ) (R : Expr) (w : List ℕ) → first ≡ 2 * at → Here k at R w → first ≤ t → t ≤ 2 * (at + length (expr_words R)) → (X : Expr) × Means at R t X
    found-state at R w d i l m =
        let (x, p, s) = symbol-at k at R j (w, i) (omega arith) (omega arith) z in
        go x p s (ℕ_discrete (t % 2) 0)
      where
        go : (x : ℕ) (p : Spot) → Spotted at R j x p → Dec (t % 2 ≡ 0) → (X : Expr) × Means at R t X
        go x p s (yes c) = (inner_at p, inside j x p s (omega arith) refl)
        go x p s (no c) = (rest_at p, after j x p s (omega arith) refl)

pub state-none : {k : List ℕ} {first t j : ℕ} → first < t → j ≡ (t - 1) / 2 → 7000 ≤ get_or k j 0 → StateTest k first t false
state-none {k} {first} {t} {j} h e z = record { yes = λ at R w d i l m y. differ (sym y); only = λ at R w d i X m. absurd (no at R w d i X m) }
  where
    here-not : (at : ℕ) (R : Expr) (w : List ℕ) → Here k at R w → (i l : ℕ) (p : Spot) → Spotted at R i l p → j ≡ i → ⊥
    here-not at R w h i l p s c =
        let x = spot-low k l p (spotted-stands at R i l p s k (w, h)) in
        let y = ap (λ n. get_or k n 0) (spotted-place at R i l p s ∙ sym c) in
        omega arith

    no : (at : ℕ) (R : Expr) (w : List ℕ) → first ≡ 2 * at → Here k at R w → (X : Expr) → Means at R t X → ⊥
    no at R w d g X (itself c i) = omega arith
    no at R w d g X (inside i l p s c o) = here-not at R w g i l p s (omega arith)
    no at R w d g X (after i l p s c o) = here-not at R w g i l p s (omega arith)

pub place-to : (at : ℕ) (R : Expr) (j l : ℕ) (p : Spot) → Spotted at R j l p → j < at + length (expr_words R)
place-to at R j l p s = elim s [
  | inl (e, d) ↦ let r = subst (Right at R j) d (sought-right at R j) in let x = (place_in at p).1 in let y = r.1 in let z = ap (λ A. length (expr_words A)) r.0 in omega arith
  | inr d ↦ let (x, y, z) = subst (Right at R j) d (sought-right at R j) in let u = (place_in l p).1 in omega arith
]

-- states stand from the first on, and none is past the expression
pub state-from : (at : ℕ) (R : Expr) (s : ℕ) (X : Expr) → Means at R s X → 2 * at ≤ s
state-from at R s X (itself e i) = omega arith
state-from at R s X (inside j l p t e i) = let x = place-from at R j l p t in omega arith
state-from at R s X (after j l p t e i) = let x = place-from at R j l p t in omega arith

pub state-to : (at : ℕ) (R : Expr) (s : ℕ) (X : Expr) → Means at R s X → s ≤ 2 * (at + length (expr_words R))
state-to at R s X (itself e i) = omega arith
state-to at R s X (inside j l p t e i) = let x = place-to at R j l p t in omega arith
state-to at R s X (after j l p t e i) = let x = place-to at R j l p t in omega arith

-- ---- the first state with the same meaning

-- no state before t means what s means
pub record Unmet (k : List ℕ) (at s t : ℕ) : Type 0 where
  pub from : 2 * at ≤ t
  pub each : (R : Expr) (w : List ℕ) → Here k at R w → (X : Expr) → Means at R s X → (u : ℕ) → u < t → Means at R u X → ⊥

pub unmet-start : {k : List ℕ} {at s t : ℕ} → t ≡ 2 * at → Unmet k at s t
unmet-start {k} {at} {s} {t} e = record { from = omega arith; each = λ R w h X m u l n. let x = state-from at R u X n in omega arith }

unmet-more : {k : List ℕ} {at s t : ℕ} → Unmet k at s t → ((R : Expr) (w : List ℕ) → Here k at R w → (X : Expr) → Means at R s X → Means at R t X → ⊥) → Unmet k at s (t + 1)
unmet-more {k} {at} {s} {t} v f =
    record {
      from = let x = v.from in omega arith;
      each = λ R w h X m u l n. go R w h X m u l n (ℕ_discrete u t);
    }
  where
    go : (R : Expr) (w : List ℕ) → Here k at R w → (X : Expr) → Means at R s X → (u : ℕ) → u < t + 1 → Means at R u X → Dec (u ≡ t) → ⊥
    go R w h X m u l n (yes e) = f R w h X m (subst (λ u. Means at R u X) e n)
    go R w h X m u l n (no e) = v.each R w h X m u (omega arith) n

-- t means what s means, or it does not
pub like-none : {k : List ℕ} {at first s t : ℕ} → StateTest k first t false → Liked k at first s t false
like-none {at = at} c = record { yes = λ R w h e l m X n z. differ (sym z); not = λ R w h e X m _ n. differ (sym (c.only at R w e h X n)) }

pub like-same : {k : List ℕ} {at first s t : ℕ} {r : Bool} → StateTest k first t true → SameState k at s t r → Liked k at first s t r
like-same {k} {at} {first} {s} {t} {r} a c =
    record {
      yes = λ R w h e l m X n z. let (Y, o) = a.yes at R w e h l (omega arith) refl in subst (Means at R t) (sym ((c.each R w h X Y n o).yes z)) o;
      not = λ R w h e X m z n. (c.each R w h X X m n).not z refl;
    }

pub unmet-next : {k : List ℕ} {at s t : ℕ} → Liked k at (2 * at) s t false → Unmet k at s t → Unmet k at s (t + 1)
unmet-next c v = unmet-more v (λ R w h X m n. c.not R w h refl X m refl n)

pub classed-here : {k : List ℕ} {at s t : ℕ} → t < s → Liked k at (2 * at) s t true → Unmet k at s t → Classed k at s t
classed-here {k} {at} {s} {t} l c v =
    record {
      means = λ R w h X m. let b = state-to at R s X m in c.yes R w h refl v.from (omega arith) X m refl;
      least = λ R w h X m u i n. v.each R w h X m u i n;
      low = omega arith;
    }

pub classed-self : {k : List ℕ} {at s t : ℕ} → s ≤ t → Unmet k at s t → Classed k at s s
classed-self l v = record { means = λ R w h X m. m; least = λ R w h X m u i n. v.each R w h X m u (omega arith) n; low = omega arith }

-- ---- the table

pub tabled_start : {k classes : List ℕ} {at t : ℕ} → t ≡ 2 * at → Tabled k at t classes
tabled_start {at = at} e = record { each = λ R w h s l X m. let x = state-from at R s X m in absurd (omega arith) }

tabled-more : {k old new : List ℕ} {at s : ℕ} → Tabled k at s old → ((i : ℕ) → i < s → get_or new i 0 ≡ get_or old i 0)
    → ((R : Expr) (w : List ℕ) → Here k at R w → (X : Expr) → Means at R s X → FirstState at R (get_or new s 0) X) → Tabled k at (s + 1) new
tabled-more {k} {old} {new} {at} {s} t e f = record { each = λ R w h i l X m. go R w h i l X m (ℕ_discrete i s) }
  where
    go : (R : Expr) (w : List ℕ) → Here k at R w → (i : ℕ) → i < s + 1 → (X : Expr) → Means at R i X → Dec (i ≡ s) → FirstState at R (get_or new i 0) X
    go R w h i l X m (yes d) = subst (λ i. FirstState at R (get_or new i 0) X) (sym d) (f R w h X (subst (λ i. Means at R i X) d m))
    go R w h i l X m (no d) = subst (λ c. FirstState at R c X) (sym (e i (omega arith))) (t.each R w h i (omega arith) X m)

pub tabled-state : {k classes : List ℕ} {at s c x : ℕ} → s < length classes → Classed k at s c → x ≡ c → Tabled k at s classes → Tabled k at (s + 1) (set classes s x)
tabled-state {k} {classes} {at} {s} {c} {x} l d e t =
    tabled-more t (λ i h. get_or-set_other classes s i x 0 (omega arith))
    (λ R w h X m. subst (λ c. FirstState at R c X) (sym (get_or-set_same classes s x 0 l ∙ e)) (record { means = d.means R w h X m; least = d.least R w h X m }))

pub tabled-skip : {k classes : List ℕ} {at first s : ℕ} → first ≡ 2 * at → StateTest k first s false → Tabled k at s classes → Tabled k at (s + 1) classes
tabled-skip {at = at} e d t = tabled-more t (λ i h. refl) (λ R w h X m. differ (sym (d.only at R w e h X m)))

pub kept_set : {to : ℕ} {old new : List ℕ} (s x : ℕ) → to ≤ s → KeptTo to old new → KeptTo to old (set new s x)
kept_set {to} {old} {new} s x l e =
    record { long = length-set new s x ∙ e.long; same = λ i h. get_or-set_other new s i x 0 (omega arith) ∙ e.same i h }

pub kept_same : {to : ℕ} {old : List ℕ} → KeptTo to old old
kept_same = record { long = refl; same = λ i h. refl }

pub kept_then : {to s : ℕ} {old mid new : List ℕ} → to ≤ s → KeptTo to old mid → KeptTo s mid new → KeptTo to old new
kept_then l e d = record { long = d.long ∙ e.long; same = λ i h. d.same i (omega arith) ∙ e.same i h }

pub tabled-to : {k classes : List ℕ} {at s t : ℕ} → s ≡ t → Tabled k at s classes → Tabled k at t classes
tabled-to {k} {classes} {at} e t = subst (λ s. Tabled k at s classes) e t

-- ---- what is changed

pub changed-none : {k classes : List ℕ} {at to : ℕ} → Changed k at to classes classes
changed-none = record { each = λ R w h l i. inl refl }

pub changed-state : {k classes : List ℕ} {at first s : ℕ} (x : ℕ) → first ≡ 2 * at → first ≤ s → StateTest k first s true → Changed k at (s + 1) classes (set classes s x)
changed-state {k} {classes} {at} {first} {s} x e f t = record { each = λ R w h l i. go R w h l i (ℕ_discrete i s) }
  where
    go : (R : Expr) (w : List ℕ) → Here k at R w → s + 1 ≤ 2 * (at + length (expr_words R)) + 1 → (i : ℕ) → Dec (i ≡ s) → (get_or (set classes s x) i 0 ≡ get_or classes i 0) ⊎ ((X : Expr) × Means at R i X)
    go R w h l i (yes d) = inr (subst (λ i. (X : Expr) × Means at R i X) (sym d) (t.yes at R w e h f (omega arith) refl))
    go R w h l i (no d) = inl (get_or-set_other classes s i x 0 (omega arith))

pub changed_then : {k old mid new : List ℕ} {at s : ℕ} → Changed k at s old mid → Changed k at (s + 1) mid new → Changed k at (s + 1) old new
changed_then a b =
    record {
      each = λ R w h l i. elim (b.each R w h l i) [
        | inl e ↦ elim (a.each R w h (omega arith) i) [ inl d ↦ inl (e ∙ d) | inr m ↦ inr m ]
        | inr m ↦ inr m
      ];
    }

pub changed-to : {k old new : List ℕ} {at s t : ℕ} → s ≡ t → Changed k at s old new → Changed k at t old new
changed-to {k} {old} {new} {at} e c = subst (λ s. Changed k at s old new) e c

-- ---- keys

pub like-apart : {k : List ℕ} {at first s t x y : ℕ} → Keyed k at s x → Keyed k at t y → (x ≡ y → ⊥) → Liked k at first s t false
like-apart a b n = record { yes = λ R w h e l m X o z. differ (sym z); not = λ R w h e X m _ o. n (a.each R w h X m ∙ sym (b.each R w h X o)) }

pub counted : {k : List ℕ} {at r : ℕ} {p : Part} → Parted k at p → r ≡ (p.end - at) % 65536 → Counted k at r
counted {at = at} p e =
    record { each = λ X w h. e ∙ ap (λ n. n % 65536) (let d = (p.each X w h).end in let z : _ ≡ length (expr_words X) = omega arith in z) }

pub keys_none : {k keys : List ℕ} {at t : ℕ} → t ≡ 2 * at → KeyedTo k at t keys
keys_none {at = at} e = record { below = λ s l. record { each = λ R w h X m. let x = state-from at R s X m in absurd (omega arith) } }

keys-more : {k old new : List ℕ} {at s : ℕ} → KeyedTo k at s old → ((i : ℕ) → i < s → get_or new i 0 ≡ get_or old i 0) → Keyed k at s (get_or new s 0) → KeyedTo k at (s + 1) new
keys-more {k} {old} {new} {at} {s} t e f = record { below = λ i l. go i l (ℕ_discrete i s) }
  where
    go : (i : ℕ) → i < s + 1 → Dec (i ≡ s) → Keyed k at i (get_or new i 0)
    go i l (yes d) = subst (λ i. Keyed k at i (get_or new i 0)) (sym d) f
    go i l (no d) = subst (Keyed k at i) (sym (e i (omega arith))) (t.below i (omega arith))

pub keys-state : {k keys : List ℕ} {at s x : ℕ} → s < length keys → Keyed k at s x → KeyedTo k at s keys → KeyedTo k at (s + 1) (set keys s x)
keys-state {k} {keys} {at} {s} {x} l d t =
    keys-more t (λ i h. get_or-set_other keys s i x 0 (omega arith)) (subst (Keyed k at s) (sym (get_or-set_same keys s x 0 l)) d)

pub keys-skip : {k keys : List ℕ} {at first s : ℕ} → first ≡ 2 * at → StateTest k first s false → KeyedTo k at s keys → KeyedTo k at (s + 1) keys
keys-skip {at = at} e d t = keys-more t (λ i h. refl) (record { each = λ R w h X m. differ (sym (d.only at R w e h X m)) })

-- the key of a tail that was laid open
other-part : (X : Expr) → ((A B : Expr) → X ≡ cat A B → ⊥) → last_part X ≡ X
other-part eps n = refl
other-part (cat A B) n = absurd (n A B refl)
other-part (alt A B) n = refl
other-part (star A) n = refl
other-part (over f A) n = refl

module _ {k : List ℕ} {at s : ℕ} {t : Tail} (a : TailOf k at s t) where
  pub key-none : OpenedNone k t → Keyed k at s 1
  key-none b = record { each = λ R w h X m. ap (λ X. count_of (last_part X)) (sym (b.none X (a.each R w h X m))) }

  pub key-cat : {c : Split} {r : ℕ} → Apart k t c → Counted k c.part r → Keyed k at s r
  key-cat d f =
      record { each = λ R w h X m. let j = d.yes X (a.each R w h X m) in f.each j.second j.beyond j.stands ∙ ap (λ X. count_of (last_part X)) (sym j.is) }

  pub key-other : {p r : ℕ} → Whole k t p → Counted k p r → Keyed k at s r
  key-other d f =
      record {
        each = λ R w h X m.
            let i = a.each R w h X m in
            let (v, g) = d.one X i in
            f.each X v g ∙ ap count_of (sym (other-part X (d.not X i)));
      }
