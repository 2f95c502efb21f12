-- A literal: what its test needs, and what it says.
use Prim.Native.Nat.{ℕ, ◌+◌, ◌≤◌}
use mathlib.Core.Path.{◌≡◌, refl, sym, ap, ◌∙◌}
use mathlib.Core.Logic.{◌↔◌}
use mathlib.Core.Bool.{Bool, true}
use mathlib.Core.List.{List, [], ◌∷◌, ◌++◌, append-nil}
use native.Mathlib.Omega.{arith}
use lib.ListN.{length, get_or, length-append}
use Rattle.language.specs.Limits.{desk}
use Rattle.language.specs.Trees.{Hedge, Expr, Literal, eqn, mem, Counts, signature}
use Rattle.language.specs.Writing.{hedge_words, expr_words, literal_words}
use Rattle.language.specs.Fine.{fine_expr}
use Rattle.language.specs.Question.{declared, declared_e}
use Rattle.language.specs.Between.{between}
use Rattle.language.proofs.Bools.{both_true}
use Rattle.meaning.specs.Complete.{complete_words}
use Rattle.meaning.specs.Meaning.{Filling, fill, Meets}
use Rattle.rules.specs.Calls.{filled_size}
use Rattle.member.specs.Places.{Stands}
use Rattle.filling.specs.Showing.{filled, Shows}
use Rattle.trying.specs.Tasks.{first_hedge, FirstEnd, Becoming, Comparable, EquationMet, Testable, MembershipMet, ALiteral, FittingLiteral, LiteralMet}
use Rattle.trying.proofs.Parts.{inside, first_part, second-part, shows, becomes, by-equation, by-membership}

-- the rest of a literal, after its first hedge
abbrev rest_words : Literal → List ℕ
rest_words (eqn l r) = hedge_words r
rest_words (mem h R) = expr_words R

headed : (l : Literal) → literal_words l ≡ get_or (literal_words l) 0 0 ∷ (hedge_words (first_hedge l) ++ rest_words l)
headed (eqn l r) = refl
headed (mem h R) = refl

-- what a test of an equation asks
pub record EquationReady (t h : ℕ) (fs ws : List ℕ) (m : ℕ) : Type 0 where
  pub left : Shows t h fs (between 1 m ws)
  pub right : Shows t h fs (between m (length ws) ws)
  pub test : Comparable t h fs (between 1 m ws) (between m (length ws) ws)
  pub fits : length (filled t h fs (between 1 m ws)) + length (filled t h fs (between m (length ws) ws)) ≤ desk.literal

-- and of a membership
pub record MembershipReady (t h : ℕ) (fs ws : List ℕ) (m : ℕ) : Type 0 where
  pub hedge : Shows t h fs (between 1 m ws)
  pub test : Testable t h fs (between 1 m ws) (between m (length ws) ws)
  pub short : length (between m (length ws) ws) ≤ desk.question
  pub fits : length (filled t h fs (between 1 m ws)) ≤ desk.literal

module _ (n : Counts) (fs ws : List ℕ) (m : ℕ) (end : FirstEnd ws m) where
  module _ {l : Literal} {ρ : Filling} (x : ALiteral n fs ws l ρ) where
    at-end : m ≡ 1 + length (hedge_words (first_hedge l))
    at-end = end.each l x.fine x.words

    first-is : between 1 m ws ≡ hedge_words (first_hedge l)
    first-is = first_part ws (get_or (literal_words l) 0 0) (hedge_words (first_hedge l)) (rest_words l) m (x.words ∙ headed l) at-end

    rest-is : between m (length ws) ws ≡ rest_words l
    rest-is = second-part ws (get_or (literal_words l) 0 0) (hedge_words (first_hedge l)) (rest_words l) m (x.words ∙ headed l) at-end

  pub literal-inside : FittingLiteral n fs ws → (1 ≤ m) × (m ≤ length ws)
  literal-inside f = let x = f.it in inside ws (get_or (literal_words f.l) 0 0) (hedge_words (first_hedge f.l)) (rest_words f.l) m (x.words ∙ headed f.l) (at-end x)

  module _ {t h : ℕ} (p : t ≡ n.terms) (q : h ≡ n.hedges) where
    -- ---- an equation

    equation-becomes : {a b : Hedge} {ρ : Filling} → ALiteral n fs ws (eqn a b) ρ → Becoming t h fs (between 1 m ws) (between m (length ws) ws) (fill ρ a) (fill ρ b)
    equation-becomes {a} {b} x =
        let (da, db) = both_true (declared n a) (declared n b) x.known in
        record {
          first = ap (filled t h fs) (first-is x) ∙ becomes n fs _ x.given p q a x.fine.0 da;
          second = ap (filled t h fs) (rest-is x) ∙ becomes n fs _ x.given p q b x.fine.1 db;
        }

    pub equation-ready : FittingLiteral n fs ws → get_or ws 0 0 ≡ 5000 → EquationReady t h fs ws m
    equation-ready f w = by-equation (λ l. ALiteral n fs ws l f.ρ → filled_size f.ρ l ≤ desk.literal → EquationReady t h fs ws m) w
        (λ a b x s.
        let (da, db) = both_true (declared n a) (declared n b) x.known in
        record {
          test = record { g = fill f.ρ a; k = fill f.ρ b; it = equation-becomes x };
          left = rw (first-is x) (shows n fs _ x.given p q a x.fine.0 da);
          right = rw (rest-is x) (shows n fs _ x.given p q b x.fine.1 db);
          fits = rw (first-is x, rest-is x, becomes n fs _ x.given p q a x.fine.0 da, becomes n fs _ x.given p q b x.fine.1 db) (omega arith);
        })
        f.l f.it.words f.it f.fits

    pub equation-says : {w w' : List ℕ} {r : Bool} → get_or ws 0 0 ≡ 5000 → EquationMet (signature n) t h fs (between 1 m ws) (between m (length ws) ws) w w' r → LiteralMet n fs ws w w' r
    equation-says {r = r} z met = record {
      keeps = met.keeps;
      each = λ l ρ x. by-equation (λ l. ALiteral n fs ws l ρ → (r ≡ true) ↔ Meets (signature n) ρ l) z
          (λ a b x. met.each (fill ρ a) (fill ρ b) (equation-becomes x))
          l x.words x;
    }

    -- ---- a membership

    stands : (R : Expr) (es : List ℕ) → fine_expr desk R → es ≡ expr_words R → Stands es 0 R
    stands R es f e = record { others = []; fine = f; words = e ∙ sym (append-nil (expr_words R)) }

    pub membership-ready : FittingLiteral n fs ws → (get_or ws 0 0 ≡ 5000 → ⊥) → MembershipReady t h fs ws m
    membership-ready f w = by-membership (λ l. ALiteral n fs ws l f.ρ → filled_size f.ρ l ≤ desk.literal → MembershipReady t h fs ws m) w
        (λ a R x s.
        let (da, d_r) = both_true (declared n a) (declared_e n R) x.known in
        let ea : filled t h fs (between 1 m ws) ≡ complete_words (fill f.ρ a) = ap (filled t h fs) (first-is x) ∙ becomes n fs _ x.given p q a x.fine.0 da in
        record {
          hedge = rw (first-is x) (shows n fs _ x.given p q a x.fine.0 da);
          test = record { R = R; g = fill f.ρ a; expression = stands R (between m (length ws) ws) x.fine.1 (rest-is x); becomes = ea };
          short = let l = ap length (rest-is x) in let k = ap length x.words in let j = length-append (hedge_words a) (expr_words R) in omega (arith, x.short);
          fits = omega (arith, ap length ea);
        })
        f.l f.it.words f.it f.fits

    pub membership-says : {w w' : List ℕ} {r : Bool} → (get_or ws 0 0 ≡ 5000 → ⊥) → MembershipMet (signature n) t h fs (between 1 m ws) (between m (length ws) ws) w w' r → LiteralMet n fs ws w w' r
    membership-says {r = r} z met = record {
      keeps = met.keeps;
      each = λ l ρ x. by-membership (λ l. ALiteral n fs ws l ρ → (r ≡ true) ↔ Meets (signature n) ρ l) z
          (λ a R x.
          let (da, d_r) = both_true (declared n a) (declared_e n R) x.known in
          let ea : filled t h fs (between 1 m ws) ≡ complete_words (fill ρ a) = ap (filled t h fs) (first-is x) ∙ becomes n fs _ x.given p q a x.fine.0 da in
          met.each R (fill ρ a) (stands R (between m (length ws) ws) x.fine.1 (rest-is x)) ea)
          l x.words x;
    }
