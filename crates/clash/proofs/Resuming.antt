-- What the symbols that can be read after one tell of the whole, by the parts of an expression.
use Prim.Native.Nat.{ℕ, ◌+◌, ◌<◌, ◌≤◌}
use mathlib.Core.Path.{◌≡◌, refl, sym, ap, ap₂, subst, ◌∙◌}
use mathlib.Core.Logic.{inl, inr}
use mathlib.Core.Bool.{Bool, true, false, ◌&&◌}
use mathlib.Core.List.{List, [], ◌++◌, map, append-nil}
use native.Mathlib.Omega.{arith}
use lib.Dec.{T, eqb, leb}
use lib.ListN.{length, get_or}
use borrow.Author.Tests.{eqb-true, eqb-false, leb-true, leb-false, ne_eqb}
use Rattle.language.specs.Limits.{desk}
use Rattle.language.specs.Fine.{fine_expr}
use Rattle.language.specs.Kinds.{pick}
use Rattle.language.specs.Trees.{Expr, cat, star}
use Rattle.language.specs.Writing.{expr_words}
use Rattle.rules.specs.Looks.{is_eps}
use Rattle.rules.specs.Expressions.{nullable}
use Rattle.rules.proofs.Tests.{true-test}
use Rattle.rules.proofs.Looks.{is_eps-is}
use Rattle.expressions.specs.declared.Part.{Part}
use Rattle.expressions.specs.Standing.{Here, Parted}
use Rattle.expressions.proofs.Standing.{second-of, cases, by-eps, by-cat, by-alt, by-star, by_over, past_end, is-alt}
use Rattle.walk.specs.Spots.{Spot, in_left, in_right, in_star, whole, behind, rest_at, firsts, nexts}
use Rattle.charts.specs.Levels.{place_of}
use Rattle.state_classes.proofs.Spots.{eps-spot, over-spot, star-spot, cat-spot, alt-spot, not_first, not-second}
use Rattle.clash.specs.Marks.{places_of, marked, Begun, Resumed}
use Rattle.clash.proofs.Marking.{marked-++, places-++, places-pick, places-left, places-right, places-first, places-second, places-star}

-- ---- an expression behind what is left

nullable-behind : (b C : Expr) → nullable (behind b C) ≡ (nullable C && nullable b)
nullable-behind b C = go (is_eps b) refl (is_eps C) refl
  where
    right : (n : Bool) → n ≡ (n && true)
    right true = refl
    right false = refl

    go : (t : Bool) → is_eps b ≡ t → (u : Bool) → is_eps C ≡ u → nullable (pick t C (pick u b (cat C b))) ≡ (nullable C && nullable b)
    go true e u d = rw (is_eps-is b (true-test (is_eps b) e)) (right (nullable C))
    go false e true d = rw (is_eps-is C (true-test (is_eps C) d)) refl
    go false e false d = refl

-- ---- the marks

-- of the spot at p of what stands here
abbrev Told : ℕ → ℕ → List Bool → List Bool → Bool → Spot → Type 0
Told at p old new r s = place_of at s ≡ p → (new ≡ marked (places_of at (nexts s)) old) × (r ≡ nullable (rest_at s))

abbrev Of : ℕ → ℕ → List Bool → List Bool → Bool → Expr → List ℕ → Type 0
Of at p old new r R w = (s : Spot) → whole s ≡ R → Told at p old new r s

-- what stands here is a concatenation
pub is-cat : {k : List ℕ} {at : ℕ} {R : Expr} {w : List ℕ} → Here k at R w → (get_or k at 0 ≡ 7000 → ⊥) → (get_or k at 0 ≡ 7002 → ⊥)
    → (get_or k at 0 ≡ 7003 → ⊥) → 7000 ≤ get_or k at 0 → get_or k at 0 ≡ 7001
is-cat {k} {at} {R} {w} h n0 n2 n3 lo =
    cases (λ R w. get_or k at 0 ≡ 7001) (λ y w. absurd (n0 y)) (λ y a b w h o. y) (λ y a b w h o. absurd (n2 y))
    (λ y a w h. absurd (n3 y)) (λ f y u a w h. absurd (omega arith)) R w h

by-each : {k : List ℕ} {at p : ℕ} {old new : List Bool} {r : Bool} → length new ≡ length old
    → ((R : Expr) (w : List ℕ) → Here k at R w → Of at p old new r R w) → Resumed k at p old new r
by-each l f = record { long = l; each = λ s w h. f (whole s) w h s refl }

-- a part of what stands here, which is that of a spot
of_part : {k : List ℕ} {m p : ℕ} {old new : List Bool} {r : Bool} {A : Expr} {w : List ℕ} → Resumed k m p old new r → Here k m A w → (t : Spot) → whole t ≡ A → Told m p old new r t
of_part {k} {m} {w = w} d h t e q = d.each t w (subst (λ A. Here k m A w) (sym e) h) q

module _ {k : List ℕ} {at p : ℕ} {old : List Bool} where
  pub resumed-end : length k ≤ at → Resumed k at p old old false
  resumed-end z = by-each refl (past_end (Of at p old old false) z)

  pub resumed-eps : get_or k at 0 ≡ 7000 → Resumed k at p old old false
  resumed-eps z = by-each refl (by-eps (Of at p old old false) z (λ w s e. eps-spot s e))

  pub resumed-over : get_or k at 0 < 7000 → Resumed k at p old old true
  resumed-over z = by-each refl (by_over (Of at p old old true) z (λ f y u A w h s e q. subst (Told at p old old true) (sym (over-spot s f A e)) (λ _. (refl, refl)) q))

-- ---- places of what can be read next

places-again : (at : ℕ) (t : Spot) (b : Bool) → nullable (rest_at t) ≡ b → places_of at (nexts (in_star t)) ≡ places_of (at + 1) (nexts t) ++ pick b (places_of (at + 1) (firsts (whole t))) []
places-again at t b e =
    places-++ at (map in_star (nexts t)) (pick (nullable (rest_at t)) (map in_star (firsts (whole t))) [])
    ∙ ap₂ ◌++◌ (places-star at (nexts t))
    (ap (λ c. places_of at (pick c (map in_star (firsts (whole t))) [])) e ∙ places-pick at b (map in_star (firsts (whole t))) ∙ ap (λ l. pick b l []) (places-star at (firsts (whole t))))

places-on : (at : ℕ) (t : Spot) (B : Expr) (b : Bool) → nullable (rest_at t) ≡ b
    → places_of at (nexts (in_left t B)) ≡ places_of (at + 1) (nexts t) ++ pick b (places_of (at + 1 + length (expr_words (whole t))) (firsts B)) []
places-on at t B b e =
    places-++ at (map (λ q. in_left q B) (nexts t)) (pick (nullable (rest_at t)) (map (in_right (whole t)) (firsts B)) [])
    ∙ ap₂ ◌++◌ (places-left at (nexts t) B)
    (ap (λ c. places_of at (pick c (map (in_right (whole t)) (firsts B)) [])) e ∙ places-pick at b (map (in_right (whole t)) (firsts B)) ∙ ap (λ l. pick b l []) (places-right at (firsts B) (whole t)))

-- marks on these and, behind them, on the others
both : (old : List Bool) {middle new : List Bool} (ps qs rs : List ℕ) → middle ≡ marked ps old → new ≡ marked qs middle → rs ≡ ps ++ qs → new ≡ marked rs old
both old ps qs rs e d c = d ∙ ap (marked qs) e ∙ sym (marked-++ ps qs old) ∙ ap (λ l. marked l old) (sym c)

alone : (old : List Bool) {new : List Bool} (ps rs : List ℕ) → new ≡ marked ps old → rs ≡ ps ++ [] → new ≡ marked rs old
alone old ps rs e c = e ∙ ap (λ l. marked l old) (sym (c ∙ append-nil ps))

-- ---- by the parts

module _ (k : List ℕ) (at p : ℕ) (old new : List Bool) {q : Part} (a : Parted k (at + 1) q) where
  length-of : (t : Spot) {A : Expr} → whole t ≡ A → length (expr_words (whole t)) ≡ length (expr_words A)
  length-of t e = ap (λ X. length (expr_words X)) e

  second-told : {r : Bool} {A : Expr} (B : Expr) (w : List ℕ) → Resumed k q.end p old new r → Here k (at + 1) A (expr_words B ++ w) → fine_expr desk B → (t : Spot) → whole t ≡ B
      → place_of (at + 1 + length (expr_words A)) t ≡ p → (new ≡ marked (places_of (at + 1 + length (expr_words A)) (nexts t)) old) × (r ≡ nullable (rest_at t))
  second-told {A = A} B w d h o t f x =
      let e = (a.each A _ h).end in
      let (m, n) = of_part d (second-of h o e) t f (ap (λ j. place_of j t) e ∙ x) in
      (m ∙ ap (λ j. marked (places_of j (nexts t)) old) e, n)

  module _ (n0 : get_or k at 0 ≡ 7000 → ⊥) (lo : 7000 ≤ get_or k at 0) where
    pub resumed-second : {r : Bool} → pick (eqb (get_or k at 0) 7003) false (leb q.end p) ≡ true → Resumed k q.end p old new r → Resumed k at p old new r
    resumed-second {r} t d = by-each d.long (λ R w h. go (eqb (get_or k at 0) 7001) refl R w h)
      where
        two : (get_or k at 0 ≡ 7003 → ⊥) × (q.end ≤ p)
        two = part (eqb (get_or k at 0) 7003) refl t
          where
            part : (c : Bool) → eqb (get_or k at 0) 7003 ≡ c → pick c false (leb q.end p) ≡ true → (get_or k at 0 ≡ 7003 → ⊥) × (q.end ≤ p)
            part true e t = absurd (subst T (sym t) tt)
            part false e t = (eqb-false (get_or k at 0) 7003 e, leb-true q.end p t)

        go : (c : Bool) → eqb (get_or k at 0) 7001 ≡ c → (R : Expr) (w : List ℕ) → Here k at R w → Of at p old new r R w
        go true e R w h =
            by-cat (Of at p old new r) (eqb-true (get_or k at 0) 7001 e) (λ A B w h o s c. elim (cat-spot s A B c) [
              | inl (t, f, g) ↦ subst (Told at p old new r) (sym g) (λ x. not_first k at p a h t f x two.1)
              | inr (t, f, g) ↦ subst (Told at p old new r) (sym g) (λ x. let (m, n) = second-told B w d h o t f x in (m ∙ ap (λ l. marked l old) (sym (places-right at (nexts t) A)), n))
            ]) R w h
        go false e R w h =
            by-alt (Of at p old new r) (is-alt h n0 (eqb-false (get_or k at 0) 7001 e) two.0 lo) (λ A B w h o s c. elim (alt-spot s A B c) [
              | inl (t, f, g) ↦ subst (Told at p old new r) (sym g) (λ x. not_first k at p a h t f x two.1)
              | inr (t, f, g) ↦ subst (Told at p old new r) (sym g) (λ x. let (m, n) = second-told B w d h o t f x in (m ∙ ap (λ l. marked l old) (sym (places-second at (nexts t) A)), n))
            ]) R w h

    module _ (t : pick (eqb (get_or k at 0) 7003) false (leb q.end p) ≡ false) where
      before : (get_or k at 0 ≡ 7003 → ⊥) → p < q.end
      before n3 = leb-false q.end p (subst (λ c. pick c false (leb q.end p) ≡ false) (ne_eqb (get_or k at 0) 7003 n3) t)

      pub resumed-alt : {r : Bool} → get_or k at 0 ≡ 7002 → Resumed k (at + 1) p old new r → Resumed k at p old new r
      resumed-alt {r} z d =
          by-each d.long (by-alt (Of at p old new r) z (λ A B w h o s c. elim (alt-spot s A B c) [
            | inl (t, f, g) ↦ subst (Told at p old new r) (sym g) (λ x. let (m, n) = of_part d h t f x in (m ∙ ap (λ l. marked l old) (sym (places-first at (nexts t) B)), n))
            | inr (t, f, g) ↦ subst (Told at p old new r) (sym g) (λ x. not-second k at p a h t x (before (λ y. omega arith)))
          ]))

      pub resumed-cat : {middle : List Bool} {b : Part} → (get_or k at 0 ≡ 7002 → ⊥) → (get_or k at 0 ≡ 7003 → ⊥) → Resumed k (at + 1) p old middle true
          → Begun k q.end middle new → Parted k q.end b → Resumed k at p old new b.null
      resumed-cat {middle} {b} n2 n3 d g u = by-each (g.long ∙ d.long) (λ R w h. by-cat (Of at p old new b.null) (is-cat h n0 n2 n3 lo) spot R w h)
        where
          spot : (A B : Expr) (w : List ℕ) → Here k (at + 1) A (expr_words B ++ w) → fine_expr desk B → Of at p old new b.null (cat A B) w
          spot A B w h o s c = elim (cat-spot s A B c) [
            | inl (t, f, y) ↦ subst (Told at p old new b.null) (sym y) (λ x.
                let (m, n) = of_part d h t f x in
                let e = (a.each A _ h).end in
                let l : q.end ≡ at + 1 + length (expr_words (whole t)) = let z = length-of t f in omega arith in
                let v = second-of h o e in (
                  both old (places_of (at + 1) (nexts t)) (places_of (at + 1 + length (expr_words (whole t))) (firsts B)) (places_of at (nexts (in_left t B))) m
                      (g.each B w v ∙ ap (λ j. marked (places_of j (firsts B)) middle) l) (places-on at t B true (sym n)),
                  (u.each B w v).null ∙ sym (nullable-behind B (rest_at t) ∙ ap (λ z. z && nullable B) (sym n)),
                ))
            | inr (t, f, y) ↦ subst (Told at p old new b.null) (sym y) (λ x. not-second k at p a h t x (before n3))
          ]

      -- where more has to be read, nothing behind it is met
      pub resumed-no : (get_or k at 0 ≡ 7002 → ⊥) → Resumed k (at + 1) p old new false → Resumed k at p old new false
      resumed-no n2 d = by-each d.long (λ R w h. go (eqb (get_or k at 0) 7003) refl R w h)
        where
          go : (c : Bool) → eqb (get_or k at 0) 7003 ≡ c → (R : Expr) (w : List ℕ) → Here k at R w → Of at p old new false R w
          go true e R w h =
              by-star (Of at p old new false) (eqb-true (get_or k at 0) 7003 e) (λ A w h s c.
              let (t, f, y) = star-spot s A c in
              subst (Told at p old new false) (sym y) (λ x.
              let (m, n) = of_part d h t f x in
              (alone old (places_of (at + 1) (nexts t)) (places_of at (nexts (in_star t))) m (places-again at t false (sym n)), sym (nullable-behind (star (whole t)) (rest_at t) ∙ ap (λ z. z && true) (sym n))))) R w h
          go false e R w h =
              by-cat (Of at p old new false) (is-cat h n0 n2 (eqb-false (get_or k at 0) 7003 e) lo) (λ A B w h o s c. elim (cat-spot s A B c) [
                | inl (t, f, y) ↦ subst (Told at p old new false) (sym y) (λ x.
                    let (m, n) = of_part d h t f x in
                    (alone old (places_of (at + 1) (nexts t)) (places_of at (nexts (in_left t B))) m (places-on at t B false (sym n)), sym (nullable-behind B (rest_at t) ∙ ap (λ z. z && nullable B) (sym n))))
                | inr (t, f, y) ↦ subst (Told at p old new false) (sym y) (λ x. not-second k at p a h t x (before (eqb-false (get_or k at 0) 7003 e)))
              ]) R w h

pub resumed-star : {k : List ℕ} {at p : ℕ} {old middle new : List Bool} → get_or k at 0 ≡ 7003 → Resumed k (at + 1) p old middle true → Begun k (at + 1) middle new
    → Resumed k at p old new true
resumed-star {k} {at} {p} {old} {middle} {new} z d g =
    by-each (g.long ∙ d.long) (by-star (Of at p old new true) z (λ A w h s c.
    let (t, f, y) = star-spot s A c in
    subst (Told at p old new true) (sym y) (λ x.
    let (m, n) = of_part d h t f x in (
      both old (places_of (at + 1) (nexts t)) (places_of (at + 1) (firsts (whole t))) (places_of at (nexts (in_star t))) m
          (g.each A w h ∙ ap (λ X. marked (places_of (at + 1) (firsts X)) middle) (sym f)) (places-again at t true (sym n)),
      sym (nullable-behind (star (whole t)) (rest_at t) ∙ ap (λ z. z && true) (sym n)),
    ))))
