-- The sample of an expression that stands in words is that of the expression.
use Prim.Native.Nat.{ℕ, ◌+◌}
use mathlib.Core.Path.{◌≡◌, refl, sym, ap, ◌∙◌}
use mathlib.Core.List.{List, [], ◌∷◌, ◌++◌, append_assoc, append-nil}
use native.Mathlib.Omega.{arith}
use lib.ListN.{get_or, drop}
use Rattle.language.specs.Limits.{desk}
use Rattle.language.specs.Trees.{Expr, eps, cat, alt, star, over}
use Rattle.language.specs.Writing.{expr_words}
use Rattle.language.specs.Fine.{fine_expr}
use Rattle.meaning.specs.Complete.{complete_words}
use Rattle.rules.specs.Expressions.{sample}
use Rattle.expressions.specs.Passing.{asks}
use Rattle.expressions.specs.Standing.{Here}
use Rattle.expressions.proofs.Passing.{asks_none, asks-star, asks-over, asks_two}
use Rattle.samples.specs.Bodies.{body}
use Rattle.samples.specs.Samples.{body_by, bodies, body_at}
use Rattle.samples.proofs.Bodies.{words-body, body-row}
use Rattle.samples.proofs.Sampling.{body-none, body-star, body-over, body-cat, body-alt}

-- that R's is the first of a row
abbrev First : Expr → Type 0
First R = (w : List ℕ) → bodies (expr_words R ++ w) ≡ body (sample R) ∷ bodies w

bodies-by : (x : ℕ) (ws : List ℕ) (l : List (List ℕ)) (n : ℕ) → bodies ws ≡ l → asks x ≡ n → bodies (x ∷ ws) ≡ body_by x (get_or l 0 []) (get_or l 1 []) ∷ drop n l
unfolding bodies
bodies-by x ws l n e a = ap (λ n. body_by x (get_or (bodies ws) 0 []) (get_or (bodies ws) 1 []) ∷ drop n (bodies ws)) a ∙ ap (λ l. body_by x (get_or l 0 []) (get_or l 1 []) ∷ drop n l) e

two : (x : ℕ) (a b : Expr) → asks x ≡ 2 → First a → First b → (w : List ℕ) → bodies ((x ∷ (expr_words a ++ expr_words b)) ++ w) ≡ body_by x (body (sample a)) (body (sample b)) ∷ bodies w
two x a b e f g w =
    bodies-by x ((expr_words a ++ expr_words b) ++ w) (body (sample a) ∷ body (sample b) ∷ bodies w) 2
    (ap bodies (append_assoc (expr_words a) (expr_words b) w) ∙ f (expr_words b ++ w) ∙ ap (λ l. body (sample a) ∷ l) (g w)) e

one : (x : ℕ) (a : Expr) → asks x ≡ 1 → First a → (w : List ℕ) → bodies ((x ∷ expr_words a) ++ w) ≡ body_by x (body (sample a)) (get_or (bodies w) 0 []) ∷ bodies w
one x a e f w = bodies-by x (expr_words a ++ w) (body (sample a) ∷ bodies w) 1 (f w) e

first : (R : Expr) → fine_expr desk R → First R
first eps f w = bodies-by 7000 w (bodies w) 0 refl (asks_none 7000 refl) ∙ ap (λ b. b ∷ bodies w) (body-none 7000 _ _ refl)
first (cat a b) f w =
    two 7001 a b (asks_two 7001 (omega arith) (omega arith) (omega arith)) (first a f.0) (first b f.1) w
    ∙ ap (λ b. b ∷ bodies w) (body-cat 7001 _ _ refl ∙ sym (body-row (sample a) (sample b)))
first (alt a b) f w =
    two 7002 a b (asks_two 7002 (omega arith) (omega arith) (omega arith)) (first a f.0) (first b f.1) w
    ∙ ap (λ b. b ∷ bodies w) (body-alt 7002 _ _ (omega arith) (omega arith) (omega arith) (omega arith))
first (star a) f w = one 7003 a (asks-star 7003 refl) (first a f) w ∙ ap (λ b. b ∷ bodies w) (body-star 7003 _ _ refl)
first (over s a) f w =
    let h = f.0 in
    one (3000 + s.0) a (asks-over (3000 + s.0) (omega arith)) (first a f.1) w
    ∙ ap (λ b. b ∷ bodies w) (body-over (3000 + s.0) _ _ (omega arith) ∙ ap (λ l. (3000 + s.0) ∷ l) (sym (words-body (sample a)) ∙ sym (append-nil (complete_words (sample a)))))

pub body-here : {k : List ℕ} {at : ℕ} {R : Expr} {beyond : List ℕ} → Here k at R beyond → body_at k at ≡ body (sample R)
unfolding body_at
body-here {k} {at} {R} {beyond} h = ap (λ ws. get_or (bodies ws) 0 []) h.words ∙ ap (λ l. get_or l 0 []) (first R h.fine beyond)
