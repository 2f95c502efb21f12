-- From literal to literal: no word within a literal begins another.
use mathlib.Core.Path.{◌≡◌, refl, ap, ◌∙◌}
use mathlib.Core.List.{List, [], ◌∷◌, ◌++◌, append_assoc}
use mathlib.Core.Logic.{inl, inr}
use Prim.Native.Nat.{ℕ, suc, ◌+◌}
use native.Mathlib.Omega.{arith}
use lib.ListN.{length, drop, length-append}
use Rattle.language.specs.Limits.{desk}
use Rattle.language.specs.Trees.{Functor, symbol, fvar, Hedge, ε, tvar, hvar, node, Expr, eps, cat, alt, star, over, Literal, eqn, mem, Conj}
use Rattle.language.specs.Writing.{functor_word, hedge_words, expr_words, literal_words, conj_words}
use Rattle.language.specs.Fine.{fine_functor, fine_hedge, fine_expr, fine_literal}
use Rattle.words.specs.Places.{until_literal}
use Rattle.words.proofs.Parts.{drop_of}
use Rattle.words.proofs.Literals.{on, off}

past-functor : (f : Functor) (ws : List ℕ) → fine_functor desk f → until_literal (functor_word f ∷ ws) ≡ suc (until_literal ws)
past-functor (symbol g) ws f = on (3000 + g.0) ws (omega arith) (omega arith)
past-functor (fvar X) ws f = on (4000 + X.0) ws (omega arith) (omega arith)

-- a word and two parts after it
past_two : (x : ℕ) (a b ws : List ℕ) → ((us : List ℕ) → until_literal (x ∷ us) ≡ suc (until_literal us)) → until_literal (a ++ (b ++ ws)) ≡ length a + until_literal (b ++ ws) → until_literal (b ++ ws) ≡ length b + until_literal ws
    → until_literal (x ∷ ((a ++ b) ++ ws)) ≡ suc (length (a ++ b)) + until_literal ws
past_two x a b ws h d e = let g = h ((a ++ b) ++ ws) in let m = ap until_literal (append_assoc a b ws) in let l = length-append a b in omega arith

past-hedge : (h : Hedge) → fine_hedge desk h → (ws : List ℕ) → until_literal (hedge_words h ++ ws) ≡ length (hedge_words h) + until_literal ws
past-hedge ε f ws = let a = on 0 ws (omega arith) (omega arith) in omega arith
past-hedge (tvar x r) f ws = let a = on (1000 + x.0) (hedge_words r ++ ws) (omega arith) (omega arith) in let d = past-hedge r f.1 ws in omega arith
past-hedge (hvar p r) f ws = let a = on (2000 + p.0) (hedge_words r ++ ws) (omega arith) (omega arith) in let d = past-hedge r f.1 ws in omega arith
past-hedge (node g c r) f ws = past_two (functor_word g) (hedge_words c) (hedge_words r) ws (λ us. past-functor g us f.0) (past-hedge c f.1 (hedge_words r ++ ws)) (past-hedge r f.2 ws)

past-expr : (R : Expr) → fine_expr desk R → (ws : List ℕ) → until_literal (expr_words R ++ ws) ≡ length (expr_words R) + until_literal ws
past-expr eps f ws = let a = on 7000 ws (omega arith) (omega arith) in omega arith
past-expr (cat p q) f ws = past_two 7001 (expr_words p) (expr_words q) ws (λ us. on 7001 us (omega arith) (omega arith)) (past-expr p f.0 (expr_words q ++ ws)) (past-expr q f.1 ws)
past-expr (alt p q) f ws = past_two 7002 (expr_words p) (expr_words q) ws (λ us. on 7002 us (omega arith) (omega arith)) (past-expr p f.0 (expr_words q ++ ws)) (past-expr q f.1 ws)
past-expr (star p) f ws = let a = on 7003 (expr_words p ++ ws) (omega arith) (omega arith) in let d = past-expr p f ws in omega arith
past-expr (over g p) f ws = let a = on (3000 + g.0) (expr_words p ++ ws) (omega arith) (omega arith) in let d = past-expr p f.1 ws in omega arith

at-conj : (c : Conj) → until_literal (conj_words c) ≡ 0
at-conj [] = unfold until_literal in refl
at-conj (eqn l r ∷ c) = off 5000 _ (inl refl)
at-conj (mem h R ∷ c) = off 6000 _ (inr refl)

-- the next literal stands where this one ends
pub next-literal : (k : List ℕ) (at : ℕ) (l : Literal) (behind : Conj) → fine_literal desk l → drop at k ≡ literal_words l ++ conj_words behind → at + 1 + until_literal (drop (at + 1) k) ≡ at + length (literal_words l)
next-literal k at (eqn l r) behind f e =
    let d = ap until_literal (drop_of k at (at + 1) (5000 ∷ []) ((hedge_words l ++ hedge_words r) ++ conj_words behind) e refl ∙ append_assoc (hedge_words l) (hedge_words r) (conj_words behind)) in
    let a = past-hedge l f.0 (hedge_words r ++ conj_words behind) in
    let b = past-hedge r f.1 (conj_words behind) in
    let z = at-conj behind in
    let n = length-append (hedge_words l) (hedge_words r) in
    omega arith
next-literal k at (mem h R) behind f e =
    let d = ap until_literal (drop_of k at (at + 1) (6000 ∷ []) ((hedge_words h ++ expr_words R) ++ conj_words behind) e refl ∙ append_assoc (hedge_words h) (expr_words R) (conj_words behind)) in
    let a = past-hedge h f.0 (expr_words R ++ conj_words behind) in
    let b = past-expr R f.1 (conj_words behind) in
    let z = at-conj behind in
    let n = length-append (hedge_words h) (expr_words R) in
    omega arith
