-- How far hedges go in a list of words, word by word.
use mathlib.Core.Path.{◌≡◌, refl, ap, ◌∙◌}
use mathlib.Core.List.{List, [], ◌∷◌}
use Prim.Native.Nat.{ℕ, suc, ◌+◌, ◌-◌, ◌<◌, ◌≤◌}
use native.Mathlib.Omega.{arith}
use lib.ListN.{length, get_or, drop, drop_of_length-le}
use borrow.Author.Tests.{eq-eqb, ne_eqb}
use Rattle.language.specs.declared.TermVar.{TermVar}
use Rattle.language.specs.declared.HedgeVar.{HedgeVar}
use Rattle.language.specs.declared.Kind.{Kind}
use Rattle.language.specs.declared.Kind.TheVariants.{End, Term, Run, Symbol, Function, Equation, Membership, Eps, Cat, Alt, Star, Other}
use Rattle.language.specs.Limits.{desk}
use Rattle.language.specs.Kinds.{kind_of}
use Rattle.language.specs.Trees.{Functor}
use Rattle.language.specs.Trees as tree
use Rattle.language.specs.Writing.{functor_word}
use Rattle.language.specs.Fine.{fine_functor}
use Rattle.language.proofs.Words.{Is, end, term, run, symbol, function, equation, membership, eps, cat, alt, star, other, is, kind-end, kind-term, kind-run, kind-symbol, kind-function}
use Rattle.words.specs.Spans.{opens_by, opens, span, element_end}
use Rattle.words.proofs.Parts.{drop_here, below-of-word}

-- ---- what a word opens

pub opens-le : (x : ℕ) → opens x ≤ 2
unfolding opens
opens-le x = go (kind_of desk x)
  where
    go : (k : Kind) → opens_by k ≤ 2
    go End = omega arith
    go (Term x) = omega arith
    go (Run p) = omega arith
    go (Symbol f) = omega arith
    go (Function X) = omega arith
    go Equation = omega arith
    go Membership = omega arith
    go Eps = omega arith
    go Cat = omega arith
    go Alt = omega arith
    go Star = omega arith
    go Other = omega arith

pub opens-pos : (x : ℕ) → (x ≡ 0 → ⊥) → 1 ≤ opens x
unfolding opens
opens-pos x nz = go (is desk x)
  where
    go : {k : Kind} → Is desk x k → 1 ≤ opens_by k
    go (end e) = absurd (nz e)
    go (term v b e) = omega arith
    go (run p b e) = omega arith
    go (symbol f b e) = omega arith
    go (function X b e) = omega arith
    go (equation e) = omega arith
    go (membership e) = omega arith
    go (eps e) = omega arith
    go (cat e) = omega arith
    go (alt e) = omega arith
    go (star e) = omega arith
    go other = omega arith

pub opens-0 : opens 0 ≡ 0
unfolding opens
opens-0 = ap opens_by (kind-end desk)

pub opens-term : (x : TermVar) → x.0 < desk.each → opens (1000 + x.0) ≡ 1
unfolding opens
opens-term x b = ap opens_by (kind-term desk x b)

pub opens-run : (p : HedgeVar) → p.0 < desk.each → opens (2000 + p.0) ≡ 1
unfolding opens
opens-run p b = ap opens_by (kind-run desk p b)

pub opens-functor : (f : Functor) → fine_functor desk f → opens (functor_word f) ≡ 2
unfolding opens
opens-functor (tree.symbol g) b = ap opens_by (kind-symbol desk g b)
opens-functor (tree.fvar X) b = ap opens_by (kind-function desk X b)

-- ---- how many words n hedges take

pub span-past : (n : ℕ) (k : List ℕ) (i : ℕ) → length k ≤ i → span n (drop i k) ≡ 0
unfolding span
span-past n k i h = ap (span n) (drop_of_length-le k {i = i} h)

pub span_none : (ws : List ℕ) → span 0 ws ≡ 0
unfolding span
span_none [] = refl
span_none (x ∷ ws) = refl

pub span-suc : (n m x : ℕ) (ws : List ℕ) → n + opens x ≡ m → span (suc n) (x ∷ ws) ≡ suc (span m ws)
unfolding span
span-suc n m x ws e = ap (λ j. suc (span j ws)) e

-- one word more
pub span-step : (n : ℕ) (k : List ℕ) (i : ℕ) → (n ≡ 0 → ⊥) → i < length k → i + 1 + span (n - 1 + opens (get_or k i 0)) (drop (i + 1) k) ≡ i + span n (drop i k)
span-step n k i nz h =
    let e : n ≡ suc (n - 1) = omega arith in
    let g : span n (drop i k) ≡ suc (span (n - 1 + opens (get_or k i 0)) (drop (i + 1) k)) = ap (span n) (drop_here k i h) ∙ ap (λ m. span m (get_or k i 0 ∷ drop (i + 1) k)) e ∙ span-suc (n - 1) _ _ _ refl in
    omega arith

-- ---- the element at a place

pub element-stop : (k : List ℕ) (i : ℕ) → get_or k i 0 ≡ 0 → i ≡ element_end k i
unfolding element_end
element-stop k i e = simp (eq-eqb _ 0 e)

pub element-on : (k : List ℕ) (i : ℕ) → (get_or k i 0 ≡ 0 → ⊥) → element_end k i ≡ i + 1 + span (opens (get_or k i 0) - 1) (drop (i + 1) k)
unfolding element_end
element-on k i e = simp (ne_eqb _ 0 e)

pub element-more : (k : List ℕ) (i : ℕ) → (get_or k i 0 ≡ 0 → ⊥) → (i < element_end k i) × (i < length k)
element-more k i nz = let e = element-on k i nz in (omega arith, below-of-word k i nz)
