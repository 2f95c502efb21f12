-- An expression has no more states than twice its words.
use Prim.Native.Nat.{ℕ, suc, ◌+◌, ◌*◌, ◌≤◌}
use mathlib.Core.Path.{◌≡◌, refl, ◌∙◌}
use mathlib.Core.List.{List, [], ◌∷◌, ◌++◌, map}
use native.Mathlib.Omega.{arith}
use native.Mathlib.Nat.{mul-le-mul}
use lib.ListN.{length, length-append, length-map}
use Rattle.language.specs.Trees.{Expr, eps, cat, alt, star, over}
use Rattle.language.specs.Writing.{expr_words}
use Rattle.rules.specs.Walk.{most}
use Rattle.walk.specs.Spots.{Spot, in_left, in_right, in_first, in_second, in_star, rest_at, spots, inners, within, states}

within-++ : (l m : List Expr) → length (within (l ++ m)) ≡ length (within l) + length (within m)
within-++ [] m = omega arith
within-++ (S ∷ l) m =
    let a = length-append (map rest_at (spots S)) (within (l ++ m)) in
    let b = length-append (map rest_at (spots S)) (within l) in
    let c = within-++ l m in
    omega arith

two : (f g : Spot → Spot) (ps qs : List Spot) → length (map f ps ++ map g qs) ≡ length ps + length qs
two f g ps qs = length-append (map f ps) (map g qs) ∙ rw (length-map ps f, length-map qs g) refl

-- the spots of R, and the states of its inner levels
abbrev places : Expr → ℕ
places R = length (spots R) + length (within (inners R))

few : (R : Expr) → suc (suc (places R)) ≤ 2 * length (expr_words R)
few eps = omega arith
few (cat a b) =
    let s = two (λ p. in_left p b) (in_right a) (spots a) (spots b) in
    let w = within-++ (inners a) (inners b) in
    let l = length-append (expr_words a) (expr_words b) in
    let x = few a in
    let y = few b in
    omega arith
few (alt a b) =
    let s = two (λ p. in_first p b) (in_second a) (spots a) (spots b) in
    let w = within-++ (inners a) (inners b) in
    let l = length-append (expr_words a) (expr_words b) in
    let x = few a in
    let y = few b in
    omega arith
few (star a) =
    let s = length-map (spots a) in_star in
    let x = few a in
    omega arith
few (over f a) =
    let s = length-append (map rest_at (spots a)) (within (inners a)) in
    let m = length-map (spots a) rest_at in
    let x = few a in
    omega arith

states-few : (R : Expr) → length (states R) ≤ 2 * length (expr_words R)
states-few R =
    let s = length-append (map rest_at (spots R)) (within (inners R)) in
    let m = length-map (spots R) rest_at in
    let x = few R in
    omega arith

pub pairs-few : (R S : Expr) → length (states R) * length (states S) ≤ most R S
pairs-few R S = mul-le-mul (states-few R) (states-few S)
