-- What the symbols that the parts of an expression begin with tell of the whole.
use Prim.Native.Nat.{ℕ, ◌+◌, ◌<◌, ◌≤◌}
use mathlib.Core.Path.{◌≡◌, refl, sym, ap, ap₂, subst, ◌∙◌}
use mathlib.Core.Bool.{Bool, true, false}
use mathlib.Core.List.{List, [], ◌++◌, map, append-nil}
use lib.Dec.{T, eqb}
use lib.ListN.{length, get_or, set, length-set}
use borrow.Author.Tests.{eqb-true, eqb-false}
use Rattle.language.specs.Kinds.{pick}
use Rattle.language.specs.Limits.{desk}
use Rattle.language.specs.Fine.{fine_expr}
use Rattle.language.specs.Trees.{Expr, cat}
use Rattle.language.specs.Writing.{expr_words}
use Rattle.rules.specs.Expressions.{nullable}
use Rattle.expressions.specs.declared.Part.{Part}
use Rattle.expressions.specs.Standing.{Here, Parted}
use Rattle.expressions.proofs.Standing.{second-of, by-eps, by-cat, by-alt, by-star, by_over, past_end, is-alt}
use Rattle.walk.specs.Spots.{in_left, in_right, in_first, in_second, firsts}
use Rattle.clash.specs.Marks.{places_of, marked, Begun}
use Rattle.clash.proofs.Marking.{marked-++, places-++, places-left, places-right, places-first, places-second, places-star}

pub shut_open : (n : Bool) (x : ℕ) → n ≡ true → false ≡ pick n false (eqb x 7001)
shut_open n x e = rw e refl

pub shut-word : (n : Bool) (x : ℕ) → n ≡ false → eqb x 7001 ≡ pick n false (eqb x 7001)
shut-word n x e = rw e refl

-- what the test of the second part says
shut-cat : (n : Bool) (x : ℕ) → pick n false (eqb x 7001) ≡ true → (n ≡ false) × (x ≡ 7001)
shut-cat true x e = absurd (subst T (sym e) tt)
shut-cat false x e = (refl, eqb-true x 7001 e)

open-cat : (n c : Bool) → c ≡ true → pick n false c ≡ false → n ≡ true
open-cat true c e t = refl
open-cat false c e t = absurd (subst T (sym e ∙ t) tt)

-- the places of what a concatenation begins with
only-left : (at : ℕ) (A B : Expr) → nullable A ≡ false → places_of at (firsts (cat A B)) ≡ places_of (at + 1) (firsts A)
only-left at A B n =
    places-++ at (map (λ p. in_left p B) (firsts A)) (pick (nullable A) (map (in_right A) (firsts B)) [])
    ∙ ap₂ ◌++◌ (places-left at (firsts A) B) (ap (λ b. places_of at (pick b (map (in_right A) (firsts B)) [])) n)
    ∙ append-nil (places_of (at + 1) (firsts A))

left-right : (at : ℕ) (A B : Expr) → nullable A ≡ true → places_of at (firsts (cat A B)) ≡ places_of (at + 1) (firsts A) ++ places_of (at + 1 + length (expr_words A)) (firsts B)
left-right at A B n =
    places-++ at (map (λ p. in_left p B) (firsts A)) (pick (nullable A) (map (in_right A) (firsts B)) [])
    ∙ ap₂ ◌++◌ (places-left at (firsts A) B) (ap (λ b. places_of at (pick b (map (in_right A) (firsts B)) [])) n ∙ places-right at (firsts B) A)

-- the marks of what stands here
abbrev Marks : ℕ → List Bool → List Bool → Expr → List ℕ → Type 0
Marks at old new R w = new ≡ marked (places_of at (firsts R)) old

module _ {k : List ℕ} {at : ℕ} {old : List Bool} where
  pub begun-end : length k ≤ at → Begun k at old old
  begun-end z = record { long = refl; each = past_end (Marks at old old) z }

  pub begun-eps : get_or k at 0 ≡ 7000 → Begun k at old old
  begun-eps z = record { long = refl; each = by-eps (Marks at old old) z (λ w. refl) }

module _ {k : List ℕ} {at : ℕ} {old new : List Bool} where
  pub begun-over : get_or k at 0 < 7000 → new ≡ set old at true → Begun k at old new
  begun-over z e = record { long = ap length e ∙ length-set old at true; each = by_over (Marks at old new) z (λ f y u A w h. e) }

  pub begun-star : get_or k at 0 ≡ 7003 → Begun k (at + 1) old new → Begun k at old new
  begun-star z b =
      record { long = b.long; each = by-star (Marks at old new) z (λ A w h. b.each A w h ∙ ap (λ l. marked l old) (sym (places-star at (firsts A)))) }

  module _ {p : Part} (a : Parted k (at + 1) p) where
    -- the second part of a concatenation is shut
    pub begun-shut : Begun k (at + 1) old new → pick p.null false (eqb (get_or k at 0) 7001) ≡ true → Begun k at old new
    begun-shut b t = record { long = b.long; each = by-cat (Marks at old new) (shut-cat p.null (get_or k at 0) t).1 here }
      where
        here : (A B : Expr) (w : List ℕ) → Here k (at + 1) A (expr_words B ++ w) → fine_expr desk B → Marks at old new (cat A B) w
        here A B w h o =
            let n : nullable A ≡ false = sym (a.each A _ h).null ∙ (shut-cat p.null (get_or k at 0) t).0 in
            b.each A _ h ∙ ap (λ l. marked l old) (sym (only-left at A B n))

    -- or it is read too
    pub begun-both : {middle : List Bool} → (get_or k at 0 ≡ 7000 → ⊥) → 7000 ≤ get_or k at 0 → (get_or k at 0 ≡ 7003 → ⊥) → Begun k (at + 1) old middle
        → pick p.null false (eqb (get_or k at 0) 7001) ≡ false → Begun k p.end middle new → Begun k at old new
    begun-both {middle} n0 lo n3 b t d = record { long = d.long ∙ b.long; each = λ R w h. go (eqb (get_or k at 0) 7001) refl R w h }
      where
        both : (A B : Expr) (w : List ℕ) → Here k (at + 1) A (expr_words B ++ w) → fine_expr desk B
            → new ≡ marked (places_of (at + 1) (firsts A) ++ places_of (at + 1 + length (expr_words A)) (firsts B)) old
        both A B w h o =
            let e = (a.each A _ h).end in
            d.each B w (second-of h o e)
            ∙ ap (λ m. marked (places_of m (firsts B)) middle) e
            ∙ ap (marked (places_of (at + 1 + length (expr_words A)) (firsts B))) (b.each A _ h)
            ∙ sym (marked-++ (places_of (at + 1) (firsts A)) (places_of (at + 1 + length (expr_words A)) (firsts B)) old)

        go : (c : Bool) → eqb (get_or k at 0) 7001 ≡ c → (R : Expr) (w : List ℕ) → Here k at R w → Marks at old new R w
        go true e R w h = by-cat (Marks at old new) (eqb-true (get_or k at 0) 7001 e) (λ A B w h o.
            let n : nullable A ≡ true = sym (a.each A _ h).null ∙ open-cat p.null (eqb (get_or k at 0) 7001) e t in
            both A B w h o ∙ ap (λ l. marked l old) (sym (left-right at A B n))) R w h
        go false e R w h =
            by-alt (Marks at old new) (is-alt h n0 (eqb-false (get_or k at 0) 7001 e) n3 lo) (λ A B w h o.
            both A B w h o
            ∙ ap (λ l. marked l old) (sym (places-++ at (map (λ p. in_first p B) (firsts A)) (map (in_second A) (firsts B)) ∙ ap₂ ◌++◌ (places-first at (firsts A) B) (places-second at (firsts B) A)))) R w h
