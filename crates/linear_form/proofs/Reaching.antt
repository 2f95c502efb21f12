-- Passing an expression by counting what is still to come.
use Prim.Native.Nat.{ℕ, suc, ◌+◌, ◌-◌, ◌<◌, ◌≤◌}
use mathlib.Core.Path.{◌≡◌, refl, ap, ◌∙◌}
use mathlib.Core.List.{List, ◌∷◌, ◌++◌, append_assoc}
use native.Mathlib.Omega.{arith}
use lib.ListN.{length, get_or, drop, length-append, drop_of_length-le}
use Rattle.language.specs.Limits.{desk}
use Rattle.language.specs.Trees.{Expr, eps, cat, alt, star, over}
use Rattle.language.specs.Writing.{expr_words}
use Rattle.language.specs.Fine.{fine_expr}
use Rattle.words.proofs.Parts.{drop_here}
use Rattle.expressions.specs.Passing.{asks, reach}
use Rattle.linear_form.specs.Charted.{Past}
use Rattle.expressions.proofs.Passing.{asks_none, asks-star, asks-over, asks_two, reach-none}

pub reach-past : (n : ℕ) (k : List ℕ) (i : ℕ) → length k ≤ i → reach n (drop i k) ≡ 0
unfolding reach
reach-past n k i h = ap (reach n) (drop_of_length-le k {i = i} h)

reach-suc : (n m x : ℕ) (ws : List ℕ) → n + asks x ≡ m → reach (suc n) (x ∷ ws) ≡ suc (reach m ws)
unfolding reach
reach-suc n m x ws e = ap (λ j. suc (reach j ws)) e

pub reach_step : (n : ℕ) (k : List ℕ) (i : ℕ) → (n ≡ 0 → ⊥) → i < length k → i + 1 + reach (n - 1 + asks (get_or k i 0)) (drop (i + 1) k) ≡ i + reach n (drop i k)
reach_step n k i nz h =
    let e : n ≡ suc (n - 1) = omega arith in
    let g : reach n (drop i k) ≡ suc (reach (n - 1 + asks (get_or k i 0)) (drop (i + 1) k)) = ap (reach n) (drop_here k i h) ∙ ap (λ m. reach m (get_or k i 0 ∷ drop (i + 1) k)) e ∙ reach-suc (n - 1) _ _ _ refl in
    omega arith

-- that R is one of the expressions that are still to come
abbrev Counts : Expr → Type 0
Counts R = (n : ℕ) (w : List ℕ) → reach (suc n) (expr_words R ++ w) ≡ length (expr_words R) + reach n w

count-two : (x : ℕ) (a b : Expr) → asks x ≡ 2 → Counts a → Counts b → (n : ℕ) (w : List ℕ) → reach (suc n) ((x ∷ (expr_words a ++ expr_words b)) ++ w) ≡ suc (length (expr_words a ++ expr_words b)) + reach n w
count-two x a b e f g n w =
    let d : n + asks x ≡ suc (suc n) = omega arith in
    let p = f (suc n) (expr_words b ++ w) in
    let q = g n w in
    let l = length-append (expr_words a) (expr_words b) in
    reach-suc n (suc (suc n)) x ((expr_words a ++ expr_words b) ++ w) d ∙ ap (λ ws. suc (reach (suc (suc n)) ws)) (append_assoc (expr_words a) (expr_words b) w) ∙ omega arith

count-one : (x : ℕ) (a : Expr) → asks x ≡ 1 → Counts a → (n : ℕ) (w : List ℕ) → reach (suc n) ((x ∷ expr_words a) ++ w) ≡ suc (length (expr_words a)) + reach n w
count-one x a e f n w =
    let d : n + asks x ≡ suc n = omega arith in
    let p = f n w in
    reach-suc n (suc n) x (expr_words a ++ w) d ∙ omega arith

counts : (R : Expr) → fine_expr desk R → Counts R
counts eps f n w =
    let e : n + asks 7000 ≡ n = let a = asks_none 7000 refl in omega arith in
    let p = reach-suc n n 7000 w e in
    omega arith
counts (cat a b) f n w = count-two 7001 a b (asks_two 7001 (omega arith) (omega arith) (omega arith)) (counts a f.0) (counts b f.1) n w
counts (alt a b) f n w = count-two 7002 a b (asks_two 7002 (omega arith) (omega arith) (omega arith)) (counts a f.0) (counts b f.1) n w
counts (star a) f n w = count-one 7003 a (asks-star 7003 refl) (counts a f) n w
counts (over s a) f n w = count-one (3000 + s.0) a (let h = f.0 in asks-over (3000 + s.0) (omega arith)) (counts a f.1) n w

pub past_by : {k : List ℕ} {at e : ℕ} → at ≤ e → (at ≤ length k → e ≤ length k) → e ≡ at + reach 1 (drop at k) → Past k at e
past_by {k} {at} {e} a w d =
    record {
      after = a;
      within = w;
      is = d;
      each = λ R beyond h.
          let p = ap (reach 1) h.words ∙ counts R h.fine 0 beyond in
          let z = reach-none beyond in
          omega arith;
    }
