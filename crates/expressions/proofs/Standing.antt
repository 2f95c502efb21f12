-- Which expression can stand where a word stands, and where its parts stand then.
use Prim.Native.Nat.{ℕ, ◌+◌, ◌<◌, ◌≤◌}
use mathlib.Core.Path.{◌≡◌, ap, ◌∙◌}
use mathlib.Core.List.{List, ◌∷◌, ◌++◌, append_assoc}
use native.Mathlib.Numerals.{add-one}
use native.Mathlib.Omega.{arith}
use lib.ListN.{length, drop, get_or, length-drop}
use lib.Seq.{slice, drop-cons}
use Rattle.language.specs.Limits.{desk}
use Rattle.language.specs.declared.Sym.{Sym}
use Rattle.language.specs.Trees.{Expr, eps, cat, alt, star, over}
use Rattle.language.specs.Writing.{expr_words}
use Rattle.language.specs.Fine.{fine_expr}
use Rattle.words.proofs.Parts.{part_of, drop_of}
use Rattle.expressions.specs.Standing.{Here}

-- a list that goes on with x ∷ t at `at`
module _ (k : List ℕ) (at : ℕ) {x : ℕ} {t : List ℕ} (h : drop at k ≡ x ∷ t) where
  pub inside : at < length k
  inside = omega (arith, length-drop at k, ap length h)

  pub word-of : get_or k at 0 ≡ x
  word-of = let i = inside in cc (drop-cons k at 0 i)

  pub tail_of : drop (at + 1) k ≡ t
  tail_of = let i = inside in rw add-one (cc (drop-cons k at 0 i))

-- the words of an expression that stands at a place
pub words-here : {k : List ℕ} {at m : ℕ} {R : Expr} {beyond : List ℕ} → Here k at R beyond → m ≡ at + length (expr_words R)
    → slice at m k ≡ expr_words R
words-here {k} {at} {m} {R} {beyond} h d = part_of k at m (expr_words R) beyond h.words d

-- two expressions in a row
pub first_of : (k : List ℕ) (at x : ℕ) (a b : Expr) (beyond : List ℕ) → fine_expr desk a → drop at k ≡ (x ∷ (expr_words a ++ expr_words b)) ++ beyond
    → Here k (at + 1) a (expr_words b ++ beyond)
first_of k at x a b beyond f e = record { fine = f; words = tail_of k at e ∙ append_assoc (expr_words a) (expr_words b) beyond }

pub second-of : {k : List ℕ} {at m : ℕ} {a b : Expr} {beyond : List ℕ} → Here k at a (expr_words b ++ beyond) → fine_expr desk b
    → m ≡ at + length (expr_words a) → Here k m b beyond
second-of {k} {at} {m} {a} {b} {beyond} h f d =
    record { fine = f; words = drop_of k at m (expr_words a) (expr_words b ++ beyond) h.words d }

-- by cases on the expression that stands at `at`: each case has the word there, and what stands after it
pub cases : {k : List ℕ} {at : ℕ} (P : Expr → List ℕ → Type 0)
    → (get_or k at 0 ≡ 7000 → (w : List ℕ) → P eps w)
    → (get_or k at 0 ≡ 7001 → (a b : Expr) (w : List ℕ) → Here k (at + 1) a (expr_words b ++ w) → fine_expr desk b → P (cat a b) w)
    → (get_or k at 0 ≡ 7002 → (a b : Expr) (w : List ℕ) → Here k (at + 1) a (expr_words b ++ w) → fine_expr desk b → P (alt a b) w)
    → (get_or k at 0 ≡ 7003 → (a : Expr) (w : List ℕ) → Here k (at + 1) a w → P (star a) w)
    → ((f : Sym) → get_or k at 0 ≡ 3000 + f.0 → f.0 < desk.each → (a : Expr) (w : List ℕ) → Here k (at + 1) a w → P (over f a) w)
    → (R : Expr) (w : List ℕ) → Here k at R w → P R w
cases {k} {at} P e c d s o eps w h = e (word-of k at h.words) w
cases {k} {at} P e c d s o (cat a b) w h = c (word-of k at h.words) a b w (first_of k at 7001 a b w h.fine.0 h.words) h.fine.1
cases {k} {at} P e c d s o (alt a b) w h = d (word-of k at h.words) a b w (first_of k at 7002 a b w h.fine.0 h.words) h.fine.1
cases {k} {at} P e c d s o (star a) w h = s (word-of k at h.words) a w (record { fine = h.fine; words = tail_of k at h.words })
cases {k} {at} P e c d s o (over f a) w h =
    o f (word-of k at h.words) h.fine.0 a w (record { fine = h.fine.1; words = tail_of k at h.words })

-- the same where the word is known: one case is left
module _ {k : List ℕ} {at : ℕ} (P : Expr → List ℕ → Type 0) where
  pub by-eps : get_or k at 0 ≡ 7000 → ((w : List ℕ) → P eps w) → (R : Expr) (w : List ℕ) → Here k at R w → P R w
  by-eps z t =
      cases P (λ _. t) (λ y a b w h o. absurd (omega arith)) (λ y a b w h o. absurd (omega arith))
      (λ y a w h. absurd (omega arith)) (λ f y u a w h. absurd (omega arith))

  pub by-cat : get_or k at 0 ≡ 7001 → ((a b : Expr) (w : List ℕ) → Here k (at + 1) a (expr_words b ++ w) → fine_expr desk b → P (cat a b) w)
      → (R : Expr) (w : List ℕ) → Here k at R w → P R w
  by-cat z t =
      cases P (λ y w. absurd (omega arith)) (λ _. t) (λ y a b w h o. absurd (omega arith))
      (λ y a w h. absurd (omega arith)) (λ f y u a w h. absurd (omega arith))

  pub by-alt : get_or k at 0 ≡ 7002 → ((a b : Expr) (w : List ℕ) → Here k (at + 1) a (expr_words b ++ w) → fine_expr desk b → P (alt a b) w)
      → (R : Expr) (w : List ℕ) → Here k at R w → P R w
  by-alt z t =
      cases P (λ y w. absurd (omega arith)) (λ y a b w h o. absurd (omega arith)) (λ _. t)
      (λ y a w h. absurd (omega arith)) (λ f y u a w h. absurd (omega arith))

  pub by-star : get_or k at 0 ≡ 7003 → ((a : Expr) (w : List ℕ) → Here k (at + 1) a w → P (star a) w) → (R : Expr) (w : List ℕ) → Here k at R w → P R w
  by-star z t =
      cases P (λ y w. absurd (omega arith)) (λ y a b w h o. absurd (omega arith)) (λ y a b w h o. absurd (omega arith))
      (λ _. t) (λ f y u a w h. absurd (omega arith))

  pub by_over : get_or k at 0 < 7000 → ((f : Sym) → get_or k at 0 ≡ 3000 + f.0 → f.0 < desk.each → (a : Expr) (w : List ℕ) → Here k (at + 1) a w → P (over f a) w)
      → (R : Expr) (w : List ℕ) → Here k at R w → P R w
  by_over z t =
      cases P (λ y w. absurd (omega arith)) (λ y a b w h o. absurd (omega arith)) (λ y a b w h o. absurd (omega arith))
      (λ y a w h. absurd (omega arith)) t

-- nothing stands past the end
pub past_end : {k : List ℕ} {at : ℕ} (P : Expr → List ℕ → Type 0) → length k ≤ at → (R : Expr) (w : List ℕ) → Here k at R w → P R w
past_end {k} {at} P z eps w h = absurd (let i = inside k at h.words in omega arith)
past_end {k} {at} P z (cat a b) w h = absurd (let i = inside k at h.words in omega arith)
past_end {k} {at} P z (alt a b) w h = absurd (let i = inside k at h.words in omega arith)
past_end {k} {at} P z (star a) w h = absurd (let i = inside k at h.words in omega arith)
past_end {k} {at} P z (over f a) w h = absurd (let i = inside k at h.words in omega arith)

-- the words that are none of the others' are those of a choice
pub is-alt : {k : List ℕ} {at : ℕ} {R : Expr} {w : List ℕ} → Here k at R w → (get_or k at 0 ≡ 7000 → ⊥) → (get_or k at 0 ≡ 7001 → ⊥)
    → (get_or k at 0 ≡ 7003 → ⊥) → 7000 ≤ get_or k at 0 → get_or k at 0 ≡ 7002
is-alt {k} {at} {R} {w} h n0 n1 n3 lo =
    cases (λ R w. get_or k at 0 ≡ 7002) (λ y w. absurd (n0 y)) (λ y a b w h o. absurd (n1 y)) (λ y a b w h o. y)
    (λ y a w h. absurd (n3 y)) (λ f y u a w h. absurd (omega arith)) R w h
