-- Literals with the same words are equal, and the words of one begin no other's.
use mathlib.Core.Path.{◌≡◌, refl, sym, ap, ◌∙◌}
use mathlib.Core.Bool.{Bool, true, false}
use mathlib.Core.List.{List, [], ◌∷◌, ◌++◌}
use Prim.Native.Nat.{ℕ, zero, suc, ◌+◌, ◌-◌}
use native.Mathlib.Omega.{arith}
use lib.ListN.{length, take, drop, take-append-drop}
use lib.Seq.{slice, take-append_seam, take-nil}
use borrow.Author.Tests.{eq-eqb}
use Rattle.language.specs.Limits.{desk}
use Rattle.language.specs.Trees.{Functor, symbol, fvar, Hedge, ε, tvar, hvar, node, Expr, eps, cat, alt, star, over, Literal, eqn, mem, Conj, eq_f, same_words, same_expr, same_literal}
use Rattle.language.specs.Writing.{literal_words}
use Rattle.language.specs.Fine.{fine_literal}
use Rattle.language.proofs.Laws.{literals-read}
use Rattle.rules.proofs.Tests.{true-test}
use Rattle.rules.proofs.Names.{same_literal-is}
use Rattle.words.specs.Places.{same_list}
use Rattle.words.proofs.Parts.{part_of}
use Rattle.words.proofs.Same.{list-refl, list-is}
use Rattle.views.specs.Standing.{LiteralAt}
use Rattle.views.proofs.Seen.{literal-here}
use Rattle.folding.specs.Chains.{same_at}

-- ---- the test of two literals

same-functor : (f : Functor) → eq_f f f ≡ true
same-functor (symbol f) = eq-eqb f.0 f.0 refl
same-functor (fvar X) = eq-eqb X.0 X.0 refl

same-hedge : (h : Hedge) → same_words h h ≡ true
same-hedge ε = refl
same-hedge (tvar x r) = rw (eq-eqb x.0 x.0 refl) (same-hedge r)
same-hedge (hvar p r) = rw (eq-eqb p.0 p.0 refl) (same-hedge r)
same-hedge (node f c r) = rw (same-functor f, same-hedge c) (same-hedge r)

same-expr : (R : Expr) → same_expr R R ≡ true
same-expr eps = refl
same-expr (cat a b) = rw (same-expr a) (same-expr b)
same-expr (alt a b) = rw (same-expr a) (same-expr b)
same-expr (star a) = same-expr a
same-expr (over f a) = rw (eq-eqb f.0 f.0 refl) (same-expr a)

pub same_refl : (l : Literal) → same_literal l l ≡ true
same_refl (eqn l r) = rw (same-hedge l) (same-hedge r)
same_refl (mem h R) = rw (same-hedge h) (same-expr R)

pub same-is : (l m : Literal) → same_literal l m ≡ true → l ≡ m
same-is l m e = same_literal-is l m (true-test (same_literal l m) e)

-- either test, where the literals are equal
pub same_of : (l m : Literal) → l ≡ m → same_literal l m ≡ true
same_of l m e = ap (same_literal l) (sym e) ∙ same_refl l

pub same-sym : (l m : Literal) → same_literal l m ≡ same_literal m l
same-sym l m = go (same_literal l m) (same_literal m l) refl refl
  where
    go : (a b : Bool) → same_literal l m ≡ a → same_literal m l ≡ b → a ≡ b
    go true true d e = refl
    go true false d e = sym (same_of m l (sym (same-is l m d))) ∙ e
    go false true d e = sym d ∙ same_of l m (sym (same-is m l e))
    go false false d e = refl

-- ---- the test of their words

-- a test that says of two literals that they are equal
tested : (l m : Literal) (t : Bool) → (t ≡ true → l ≡ m) → (l ≡ m → t ≡ true) → t ≡ same_literal l m
tested l m t f g = go t (same_literal l m) refl refl
  where
    go : (a b : Bool) → t ≡ a → same_literal l m ≡ b → a ≡ b
    go true true d e = refl
    go true false d e = sym (same_of l m (f d)) ∙ e
    go false true d e = sym d ∙ g (same-is l m e)
    go false false d e = refl

module _ (l m : Literal) (f : fine_literal desk l) (g : fine_literal desk m) where
  one : (us vs : List ℕ) → literal_words l ++ us ≡ literal_words m ++ vs → l ≡ m
  one us vs e = ((literals-read desk).one-reading l m us vs f g e).0

  pub same-words : same_list (literal_words l) (literal_words m) ≡ same_literal l m
  same-words =
      tested l m _ (λ e. one [] [] (ap (λ ws. ws ++ []) (list-is (literal_words l) (literal_words m) e)))
      (λ e. ap (λ x. same_list (literal_words l) (literal_words x)) (sym e) ∙ list-refl (literal_words l))

  -- so many words as l has, from where m stands
  begin-same : (beyond : List ℕ) → same_list (literal_words l) (take (length (literal_words l)) (literal_words m ++ beyond)) ≡ same_literal l m
  begin-same beyond =
      let n = length (literal_words l) in
      let ws = literal_words m ++ beyond in
      tested l m _ (λ e. one (drop n ws) beyond (ap (λ us. us ++ drop n ws) (list-is (literal_words l) (take n ws) e) ∙ take-append-drop n ws))
      (λ e.
      ap (λ x. same_list (literal_words l) (take (length (literal_words l)) (literal_words x ++ beyond))) (sym e) ∙ ap (same_list (literal_words l)) (take-append_seam (literal_words l) beyond)
      ∙ list-refl (literal_words l))

take-drop : (i n : ℕ) (k : List ℕ) → drop i (take (i + n) k) ≡ take n (drop i k)
take-drop zero n k = let e : zero + n ≡ n = omega arith in ap (λ m. take m k) e
take-drop (suc i) n [] = let e : suc i + n ≡ suc (i + n) = omega arith in ap (λ m. drop (suc i) (take m [])) e ∙ sym (take-nil n)
take-drop (suc i) n (x ∷ k) = let e : suc i + n ≡ suc (i + n) = omega arith in ap (λ m. drop (suc i) (take m (x ∷ k))) e ∙ take-drop i n k

module _ {k : List ℕ} {at : ℕ} {before : Conj} {l : Literal} {behind : Conj} (s : LiteralAt k at before l behind) (end : ℕ) (d : end ≡ at + length (literal_words l)) where
  pub literal-words : slice at end k ≡ literal_words l
  literal-words = part_of k at end (literal_words l) _ (literal-here s) d

  -- the words of the literal, from a place where another stands
  pub same_at_lem : (q : ℕ) (m : Literal) → fine_literal desk m → (beyond : List ℕ) → drop q k ≡ literal_words m ++ beyond → same_at k at end q ≡ same_literal l m
  same_at_lem q m g beyond e =
      let n : end - at ≡ length (literal_words l) = omega arith in
      ap (λ us. same_list us (slice q (q + (end - at)) k)) literal-words
      ∙ ap (same_list (literal_words l)) (take-drop q (end - at) k ∙ ap (λ j. take j (drop q k)) n ∙ ap (take (length (literal_words l))) e)
      ∙ begin-same l m s.fine g beyond
