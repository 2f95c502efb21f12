-- Where an expression stands in words.
use Rattle.std.specs.Prelude.{ℕ, ◌+◌, ◌<◌, ◌≡◌, List, length, get_or}
use Rattle.language.specs.declared.Sym.{Sym}
use Rattle.language.specs.Trees.{Expr, eps, cat, alt, star, over}

-- how many words
abbrev pub size_e : Expr → ℕ
size_e eps = 1
size_e (cat a b) = 1 + size_e a + size_e b
size_e (alt a b) = 1 + size_e a + size_e b
size_e (star a) = 1 + size_e a
size_e (over f a) = 1 + size_e a

-- R stands in e at `at`
pub data At (e : List ℕ) : ℕ → Expr → Type 0 where
  at-eps : {at : ℕ} → at < length e → get_or e at 0 ≡ 7000 → At e at eps
  at-cat : {at : ℕ} {a b : Expr} → at < length e → get_or e at 0 ≡ 7001 → At e (at + 1) a → At e (at + 1 + size_e a) b → At e at (cat a b)
  at-alt : {at : ℕ} {a b : Expr} → at < length e → get_or e at 0 ≡ 7002 → At e (at + 1) a → At e (at + 1 + size_e a) b → At e at (alt a b)
  at-star : {at : ℕ} {a : Expr} → at < length e → get_or e at 0 ≡ 7003 → At e (at + 1) a → At e at (star a)
  at-over : {at : ℕ} {f : Sym} {a : Expr} → at < length e → get_or e at 0 ≡ 3000 + f.0 → f.0 < 4000 → At e (at + 1) a → At e at (over f a)

pub record Expression (e : List ℕ) (at : ℕ) : Type 0 where
  pub R : Expr
  pub here : At e at R
