-- How few words a tree can have.
use Prim.Native.Nat.{◌≤◌, ◌<◌}
use native.Mathlib.Omega.{arith}
use lib.ListN.{length, length-append}
use Rattle.language.specs.Trees.{Hedge, ε, tvar, hvar, node, Expr, eps, cat, alt, star, over, Literal, eqn, mem}
use Rattle.language.specs.Writing.{hedge_words, expr_words, literal_words}

pub hedge-some : (h : Hedge) → 0 < length (hedge_words h)
hedge-some ε = omega arith
hedge-some (tvar x r) = omega arith
hedge-some (hvar p r) = omega arith
hedge-some (node f c r) = omega arith

pub expr-some : (R : Expr) → 0 < length (expr_words R)
expr-some eps = omega arith
expr-some (cat a b) = omega arith
expr-some (alt a b) = omega arith
expr-some (star a) = omega arith
expr-some (over f a) = omega arith

-- its mark, and a word for each of its two parts
pub literal-three : (l : Literal) → 3 ≤ length (literal_words l)
literal-three (eqn l r) = let z = length-append (hedge_words l) (hedge_words r) in let x = hedge-some l in let y = hedge-some r in omega arith
literal-three (mem h R) = let z = length-append (hedge_words h) (expr_words R) in let x = hedge-some h in let y = expr-some R in omega arith
