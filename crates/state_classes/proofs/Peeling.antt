-- The way down to the last part of what is left after a symbol.
use Prim.Native.Nat.{ℕ, ◌+◌, ◌<◌, ◌≤◌}
use mathlib.Core.Path.{◌≡◌, refl, sym, ap, subst, ◌∙◌}
use mathlib.Core.Logic.{inl, inr}
use mathlib.Core.Bool.{Bool, true, false}
use mathlib.Core.List.{List, ◌++◌}
use native.Mathlib.Omega.{arith}
use lib.Dec.{T, eqb}
use lib.ListN.{length, get_or}
use borrow.Author.Tests.{eqb-true, eq-eqb}
use Rattle.language.specs.Limits.{desk}
use Rattle.language.specs.Fine.{fine_expr}
use Rattle.language.specs.Kinds.{pick}
use Rattle.language.specs.Trees.{Expr, eps, cat, star}
use Rattle.language.specs.Writing.{expr_words}
use Rattle.rules.specs.Looks.{is_eps}
use Rattle.expressions.specs.declared.Part.{Part}
use Rattle.expressions.specs.Standing.{Here, Parted}
use Rattle.expressions.proofs.Standing.{second-of, cases, by-star, by_over, past_end}
use Rattle.walk.specs.Spots.{Spot, whole, behind, rest_at}
use Rattle.charts.specs.Levels.{place_of}
use Rattle.state_classes.specs.Tails.{Left, Parts, Spent, Rested}
use Rattle.state_classes.proofs.Spots.{eps-spot, over-spot, star-spot, cat-spot, alt-spot, not_first, not-second}

-- the test of a second part
pub adds-bare : (n : Bool) (x : ℕ) → n ≡ true → false ≡ pick n false (eqb x 7001)
adds-bare n x e = rw e refl

pub adds-word : (n : Bool) (x : ℕ) → n ≡ false → eqb x 7001 ≡ pick n false (eqb x 7001)
adds-word n x e = rw e refl

-- what is left of the whole is what is left here
pub record Goes (k : List ℕ) (at p x : ℕ) : Type 0 where
  pub after : at ≤ x
  pub each : (X : Expr) → Left k at p X → Left k x p X

pub goes-start : (k : List ℕ) (at p : ℕ) → Goes k at p at
goes-start k at p = record { after = omega arith; each = λ X l. l }

goes_on : {k : List ℕ} {at p x y : ℕ} → x ≤ y → Goes k at p x → ((X : Expr) → Left k x p X → Left k y p X) → Goes k at p y
goes_on h g f = record { after = let a = g.after in omega arith; each = λ X l. f X (g.each X l) }

pub differ : {A : Type 0} → true ≡ false → A
differ e = absurd (subst T e tt)

ended : {k : List ℕ} {at p x : ℕ} → Goes k at p x → ((X : Expr) → Left k x p X → X ≡ eps) → Spent k at p
ended g f = record { none = λ X l. f X (g.each X l) }

parted : {k : List ℕ} {at p x part next : ℕ} → Goes k at p x → x < next → x < length k → x ≤ part → ((X : Expr) → Left k x p X → Parts k p X part next) → Rested k at p (record { part = part; next = next })
parted g h i o f = record { further = let a = g.after in (omega arith, omega arith, omega arith); some = λ X l. f X (g.each X l) }

module _ {k : List ℕ} {at p x : ℕ} (g : Goes k at p x) where
  -- past the end
  pub peeled-past : length k ≤ x → Spent k at p
  peeled-past h = ended g (λ X l. past_end (λ A w. X ≡ eps) h (whole l.spot) l.beyond l.stands)

  -- the symbol
  pub peeled-symbol : get_or k x 0 < 7000 → Spent k at p
  peeled-symbol z = ended g (λ X l. l.is ∙ by_over (λ A w. whole l.spot ≡ A → rest_at l.spot ≡ eps) z (λ f y u A w h e. ap rest_at (over-spot l.spot f A e)) (whole l.spot) l.beyond l.stands refl)

  -- a star
  pub peeled-star : x < length k → get_or k x 0 ≡ 7003 → Rested k at p (record { part = x; next = x + 1 })
  peeled-star i z = parted g (omega arith) i (omega arith) (λ X l. by-star (λ A w. whole l.spot ≡ A → Parts k p X x (x + 1)) z (λ A w h e. one X l A w h e) (whole l.spot) l.beyond l.stands refl)
    where
      one : (X : Expr) (l : Left k x p X) (A : Expr) (w : List ℕ) → Here k (x + 1) A w → whole l.spot ≡ star A → Parts k p X x (x + 1)
      one X l A w h e =
          let (t, f, y) = star-spot l.spot A e in
          record {
            last = star (whole t);
            beyond = l.beyond;
            stands = subst (λ B. Here k x B l.beyond) (e ∙ ap star (sym f)) l.stands;
            full = refl;
            before = rest_at t;
            left = record { spot = t; beyond = w; stands = subst (λ B. Here k (x + 1) B w) (sym f) h; place = sym (ap (place_of x) y) ∙ l.place; is = refl };
            is = l.is ∙ ap rest_at y;
          }

  module _ {q : Part} (a : Parted k (x + 1) q) (n0 : 7000 ≤ get_or k x 0) (n3 : get_or k x 0 ≡ 7003 → ⊥) where
    -- in the second part
    pub goes-second : q.end ≤ p → Goes k at p q.end
    goes-second h = goes_on (let z = a.after in omega arith) g (λ X l. go X l)
      where
        go : (X : Expr) → Left k x p X → Left k q.end p X
        go X l =
            cases (λ A w. whole l.spot ≡ A → Left k q.end p X)
            (λ z w e. eps-spot l.spot e)
            (λ z A B w i o e. elim (cat-spot l.spot A B e) [
              | inl (t, f, y) ↦ not_first k x p a i t f (sym (ap (place_of x) y) ∙ l.place) h
              | inr (t, f, y) ↦ put X l A B w i o t f (sym (ap (place_of x) y) ∙ l.place) (l.is ∙ ap rest_at y)
            ])
            (λ z A B w i o e. elim (alt-spot l.spot A B e) [
              | inl (t, f, y) ↦ not_first k x p a i t f (sym (ap (place_of x) y) ∙ l.place) h
              | inr (t, f, y) ↦ put X l A B w i o t f (sym (ap (place_of x) y) ∙ l.place) (l.is ∙ ap rest_at y)
            ])
            (λ z A w i e. absurd (n3 z))
            (λ f z b A w i e. absurd (omega arith))
            (whole l.spot) l.beyond l.stands refl
          where
            put : (X : Expr) (l : Left k x p X) (A B : Expr) (w : List ℕ) → Here k (x + 1) A (expr_words B ++ w) → fine_expr desk B → (t : Spot) → whole t ≡ B
                → place_of (x + 1 + length (expr_words A)) t ≡ p → X ≡ rest_at t → Left k q.end p X
            put X l A B w i o t f c d =
                let e = (a.each A _ i).end in
                record { spot = t; beyond = w; stands = subst (λ B. Here k q.end B w) (sym f) (second-of i o e); place = ap (λ m. place_of m t) e ∙ c; is = d }

    module _ {b : Part} (h : p < q.end) (u : Parted k q.end b) where
      -- in the first part of a concatenation, whose second part is behind it
      pub peeled-join : x < length k → pick b.bare false (eqb (get_or k x 0) 7001) ≡ true → Rested k at p (record { part = q.end; next = x + 1 })
      peeled-join i t = parted g (omega arith) i (let z = a.after in omega arith) (λ X l. go X l)
        where
          both : (n : Bool) → pick n false (eqb (get_or k x 0) 7001) ≡ true → (n ≡ false) × (get_or k x 0 ≡ 7001)
          both true e = differ (sym e)
          both false e = (refl, eqb-true (get_or k x 0) 7001 e)

          go : (X : Expr) → Left k x p X → Parts k p X q.end (x + 1)
          go X l =
              let z = (both b.bare t).1 in
              cases (λ A w. whole l.spot ≡ A → Parts k p X q.end (x + 1))
              (λ y w e. absurd (omega arith))
              (λ y A B w i o e. elim (cat-spot l.spot A B e) [
                | inl (s, f, v) ↦
                    let d = (a.each A _ i).end in
                    let m = second-of i o d in
                    record {
                      last = B;
                      beyond = w;
                      stands = m;
                      full = sym (u.each B w m).bare ∙ (both b.bare t).0;
                      before = rest_at s;
                      left = record { spot = s; beyond = expr_words B ++ w; stands = subst (λ A. Here k (x + 1) A (expr_words B ++ w)) (sym f) i; place = sym (ap (place_of x) v) ∙ l.place; is = refl };
                      is = l.is ∙ ap rest_at v;
                    }
                | inr (s, f, v) ↦ not-second k x p a i s (sym (ap (place_of x) v) ∙ l.place) h
              ])
              (λ y A B w i o e. absurd (omega arith))
              (λ y A w i e. absurd (n3 y))
              (λ f y b A w i e. absurd (omega arith))
              (whole l.spot) l.beyond l.stands refl

      -- or nothing is
      pub goes_first : pick b.bare false (eqb (get_or k x 0) 7001) ≡ false → Goes k at p (x + 1)
      goes_first t = goes_on (omega arith) g (λ X l. go X l)
        where
          bare : (n : Bool) → get_or k x 0 ≡ 7001 → pick n false (eqb (get_or k x 0) 7001) ≡ false → n ≡ true
          bare true z e = refl
          bare false z e = differ (sym (eq-eqb (get_or k x 0) 7001 z) ∙ e)

          put : (X A : Expr) (w : List ℕ) → Here k (x + 1) A w → (s : Spot) → whole s ≡ A → place_of (x + 1) s ≡ p → X ≡ rest_at s → Left k (x + 1) p X
          put X A w i s f c d = record { spot = s; beyond = w; stands = subst (λ A. Here k (x + 1) A w) (sym f) i; place = c; is = d }

          empty : (B C : Expr) → is_eps B ≡ true → behind B C ≡ C
          empty B C e = ap (λ n. pick n C (pick (is_eps C) B (cat C B))) e

          go : (X : Expr) → Left k x p X → Left k (x + 1) p X
          go X l =
              cases (λ A w. whole l.spot ≡ A → Left k (x + 1) p X)
              (λ y w e. eps-spot l.spot e)
              (λ y A B w i o e. elim (cat-spot l.spot A B e) [
                | inl (s, f, v) ↦
                    let m = second-of i o (a.each A _ i).end in
                    put X A (expr_words B ++ w) i s f (sym (ap (place_of x) v) ∙ l.place) (l.is ∙ ap rest_at v ∙ empty B (rest_at s) (sym (u.each B w m).bare ∙ bare b.bare y t))
                | inr (s, f, v) ↦ not-second k x p a i s (sym (ap (place_of x) v) ∙ l.place) h
              ])
              (λ y A B w i o e. elim (alt-spot l.spot A B e) [
                | inl (s, f, v) ↦ put X A (expr_words B ++ w) i s f (sym (ap (place_of x) v) ∙ l.place) (l.is ∙ ap rest_at v)
                | inr (s, f, v) ↦ not-second k x p a i s (sym (ap (place_of x) v) ∙ l.place) h
              ])
              (λ y A w i e. absurd (n3 y))
              (λ f y b A w i e. absurd (omega arith))
              (whole l.spot) l.beyond l.stands refl
