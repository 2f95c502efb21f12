-- What `member` is lent: what is written in words stands there, and there is room.
use Prim.Native.Nat.{ℕ, ◌+◌, ◌*◌, ◌≤◌}
use mathlib.Core.Path.{◌≡◌, sym, ◌∙◌}
use mathlib.Core.Bool.{Bool, false}
use mathlib.Core.List.{List, ◌++◌, append_assoc}
use native.Mathlib.Omega.{arith}
use lib.ListN.{length, drop, replicate, length-replicate}
use Rattle.language.specs.declared.Signature.{Signature}
use Rattle.language.specs.Limits.{desk}
use Rattle.language.specs.Trees.{Expr, eps, cat, alt, star, over, any_unordered}
use Rattle.rules.proofs.Tests.{test-true}
use Rattle.any_order.proofs.Ranges.{not-both}
use Rattle.member.specs.Gathering.{Scene, Lent}
use Rattle.passing.proofs.Standing.{holds_fits}
use Rattle.language.specs.Writing.{expr_words}
use Rattle.language.specs.Fine.{fine_expr}
use Rattle.any_order.specs.Places.{size_e, At, at-eps, at-cat, at-alt, at-star, at-over, Expression}
use Rattle.passing.specs.Places.{Hedge}
use Rattle.passing.proofs.Words.{lt_of, word-of, tail_of, holds_of}
use Rattle.member.specs.Places.{Accepted, Stands, Both, Decided}
use Rattle.member.proofs.Decides.{decides}

placed : (e : List ℕ) (at : ℕ) (R : Expr) (k : List ℕ) → fine_expr desk R → drop at e ≡ expr_words R ++ k → At e at R × (drop (at + size_e R) e ≡ k)
placed e at eps k f h = (at-eps (lt_of e at h) (word-of e at h), tail_of e at h)
placed e at (cat a b) k f h =
    let (x, p) = placed e (at + 1) a (expr_words b ++ k) f.0 (tail_of e at h ∙ append_assoc (expr_words a) (expr_words b) k) in
    let (y, q) = placed e (at + 1 + size_e a) b k f.1 p in
    let z : at + (1 + size_e a + size_e b) ≡ at + 1 + size_e a + size_e b = omega arith in
    (at-cat (lt_of e at h) (word-of e at h) x y, rw z q)
placed e at (alt a b) k f h =
    let (x, p) = placed e (at + 1) a (expr_words b ++ k) f.0 (tail_of e at h ∙ append_assoc (expr_words a) (expr_words b) k) in
    let (y, q) = placed e (at + 1 + size_e a) b k f.1 p in
    let z : at + (1 + size_e a + size_e b) ≡ at + 1 + size_e a + size_e b = omega arith in
    (at-alt (lt_of e at h) (word-of e at h) x y, rw z q)
placed e at (star a) k f h =
    let (x, p) = placed e (at + 1) a k f (tail_of e at h) in
    let z : at + (1 + size_e a) ≡ at + 1 + size_e a = omega arith in
    (at-star (lt_of e at h) (word-of e at h) x, rw z p)
placed e at (over g a) k f h =
    let (x, p) = placed e (at + 1) a k f.1 (tail_of e at h) in
    let z : at + (1 + size_e a) ≡ at + 1 + size_e a = omega arith in
    (at-over (lt_of e at h) (word-of e at h) (omega arith) x, rw z p)

module _ {e : List ℕ} {at : ℕ} {R : Expr} where
  at_of : Stands e at R → At e at R
  at_of s = (placed e at R s.others s.fine s.words).0

-- ---- what `member` needs and gives

module _ {e : List ℕ} {at : ℕ} {h : List ℕ} {j : ℕ} where
  pub its-expression : Both e at h j → Expression e at
  its-expression b = record { R = b.R; here = at_of b.expression }

  pub its-hedge : Both e at h j → Hedge h j
  its-hedge b = record { g = b.g; here = holds_of b.hedge }

  pub decided : {σ : Signature} {k k' : List Bool} {r : Bool} → Accepted σ e at h j k k' r → Decided σ e at h j r
  decided {σ} a = record { means = λ R g x y. let z = a.each R g (at_of x) (holds_of y) in rw z (decides σ R g) }

-- ---- what `member` lends

pub marks-long : (n : ℕ) → length (replicate n false) ≡ n
marks-long n = length-replicate {A = Bool} n false

pub room-long : (n : ℕ) → length (replicate {A = ℕ} n 0) ≡ n
room-long n = length-replicate {A = ℕ} n 0

pub scene-of : {e h : List ℕ} {k : List Bool} → length e ≤ desk.question → length h ≤ desk.literal → length k ≡ desk.question → Scene e h k
scene-of x y z = record { long = omega arith; short = x; hedge = y }

module _ {σ : Signature} {h : List ℕ} {j : ℕ} where
  pub lent-all : {e : List ℕ} {at : ℕ} {w : List ℕ} → Both e at h j → length h ≤ desk.literal → length w ≡ 4 * desk.literal → Lent σ h j w 0
  lent-all b y z = record {
    room = λ _. record { g = b.g; here = holds_of b.hedge; room = omega (arith, holds_fits (holds_of b.hedge)); bounded = omega arith };
  }

  pub lent_none : {w : List ℕ} {b : Bool} → b ≡ any_unordered σ → b ≡ false → Lent σ h j w 0
  lent_none e z = record { room = λ t. absurd (not-both ((test-true (any_unordered σ)).0 t) (sym e ∙ z)) }
