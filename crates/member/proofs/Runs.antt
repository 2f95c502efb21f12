-- What a run over the terms of a hedge keeps, and that it decides.
use Prim.Native.Nat.{ℕ, ◌+◌, ◌<◌, ◌≤◌}
use mathlib.Core.Path.{◌≡◌, refl, ◌∙◌}
use mathlib.Core.Bool.{Bool, true, false, ◌&&◌, ◌||◌}
use mathlib.Core.List.{List}
use native.Mathlib.Omega.{arith}
use lib.ListN.{get_or}
use Rattle.language.specs.declared.Signature.{Signature}
use Rattle.language.specs.Trees.{Expr, eps, cat, alt, star, over}
use Rattle.meaning.specs.Complete.{Complete}
use Rattle.rules.specs.Expressions.{nullable}
use Rattle.member.specs.declared.Seen.{Seen}
use Rattle.member.specs.declared.Step.{Step}
use Rattle.member.specs.Marks.{Marked, bare, blank, final, shift, tests, accepts, of_term}
use Rattle.any_order.specs.Places.{size_e, At, Expression}
use Rattle.passing.specs.Places.{Holds, Hedge, Term, Skipped, Beside, Cleared}
use Rattle.member.specs.Places.{Kept, kept-eps, kept-cat, kept-alt, kept-star, kept-over, Looked, Shifted, Accepted}
use Rattle.member.specs.Gathering.{Spared, Lent}
use Rattle.member.proofs.Decides.{bare-blank, bare-shift}
use Rattle.passing.proofs.Standing.{by-nil, by-tree, rest}
use Rattle.passing.proofs.Beside.{beside-refl, beside-wide, beside_trans}
use Rattle.member.proofs.Moves.{child}

final-blank : (R : Expr) → final (blank R) ≡ false
final-blank eps = refl
final-blank (cat a b) = rw (final-blank a, final-blank b)
final-blank (alt a b) = rw (final-blank a, final-blank b)
final-blank (star a) = final-blank a
final-blank (over f R) = refl

kept-blank : {k : List Bool} {at : ℕ} (R : Expr) → ((i : ℕ) → at ≤ i → i < at + size_e R → get_or k i false ≡ false) → Kept k at (blank R)
kept-blank eps z = kept-eps
kept-blank {at = at} (cat a b) z =
    kept-cat {at = at} {a = blank a} {b = blank b} (rw (final-blank a) (z at (omega arith) (omega arith))) (kept-blank {at = at + 1} a (λ i l u. z i (omega arith) (omega arith)))
    (rw (bare-blank a) (kept-blank {at = at + 1 + size_e a} b (λ i l u. z i (omega arith) (omega arith))))
kept-blank {at = at} (alt a b) z =
    kept-alt {at = at} {a = blank a} {b = blank b} (kept-blank {at = at + 1} a (λ i l u. z i (omega arith) (omega arith)))
    (rw (bare-blank a) (kept-blank {at = at + 1 + size_e a} b (λ i l u. z i (omega arith) (omega arith))))
kept-blank {at = at} (star a) z = kept-star {at = at} {a = blank a} (rw (final-blank a) (z at (omega arith) (omega arith))) (kept-blank {at = at + 1} a (λ i l u. z i (omega arith) (omega arith)))
kept-blank (over f R) z = kept-over

pub children-of : {h : List ℕ} {j : ℕ} → Term h j → Hedge h (j + 1)
children-of p = record { g = p.c; here = child p.here }

-- `left` stands at j, with the marks M
pub record Reached (σ : Signature) (at : ℕ) (h : List ℕ) (k : List Bool) (j : ℕ) (i fin : Bool) (R : Expr) (g : Complete) : Type 0 where
  pub M : Marked
  pub left : Complete
  pub bared : bare M ≡ R
  pub kept : Kept k at M
  pub here : Holds h j left
  pub goes : (tests σ left).in_order i M ≡ accepts σ R g
  pub ends : fin ≡ ((i && nullable (bare M)) || final M)

pub record Going (σ : Signature) (e : List ℕ) (at : ℕ) (h : List ℕ) (i : ℕ) (k₀ k : List Bool) (n j : ℕ) (first fin : Bool) : Type 0 where
  pub stands : Hedge h j
  pub beside : Beside k₀ k at n
  pub each : (R : Expr) (g : Complete) → At e at R → Holds h i g → Reached σ at h k j first fin R g

or-false : (b : Bool) → b ≡ (b || false)
or-false true = refl
or-false false = refl

module _ {σ : Signature} {e : List ℕ} {at : ℕ} {h : List ℕ} {i : ℕ} where
  pub starts : {k k₁ : List Bool} {s : Seen} → Hedge h i → Looked e at s → Cleared k k₁ at s.end → Going σ e at h i k₁ k₁ s.end i true s.null
  starts {k₁ = k₁} {s = s} st l c = record {
    stands = st;
    beside = beside-refl;
    each = λ R g x y.
        let (z, n) = l.each R x in
        record {
          M = blank R;
          left = g;
          bared = bare-blank R;
          kept = kept-blank R (λ i lo hi. c.clear i lo (omega arith));
          here = y;
          goes = refl;
          ends = n ∙ or-false (nullable R) ∙ rw (bare-blank R, final-blank R);
        };
  }

  module _ {k₀ k : List Bool} {n j : ℕ} {f b : Bool} where
    pub goes_on : {k' : List Bool} {a : Step} {j' : ℕ} → Going σ e at h i k₀ k n j f b → (get_or h j 0 ≡ 0 → ⊥) → ((R : Expr) → At e at R → n ≡ at + size_e R) → Expression e at
        → Shifted σ e at h j k f k' a → Skipped h (j + 1) j' → Going σ e at h i k₀ k' n j' false a.fin
    goes_on {k' = k'} {a = a} {j' = j'} go w nn p s t = record {
      stands = rest go.stands w t;
      beside = beside_trans go.beside (beside-wide s.beside (omega arith) (omega (arith, nn p.R p.here, (s.sized p.R p.here).0)));
      each = λ R g x y.
          let r = go.each R g x y in
          by-tree (λ q. Holds h j q → (tests σ q).in_order f r.M ≡ accepts σ R g → Reached σ at h k' j' false a.fin R g) w
          (λ u c q v x' y' hh gg.
          let (fa, ka) = s.each r.M u c q (rw r.bared x) r.kept hh in
          record {
            M = shift f (of_term σ u (tests σ c)) r.M;
            left = q;
            bared = bare-shift f (of_term σ u (tests σ c)) r.M ∙ r.bared;
            kept = ka;
            here = rw (t.each c x') y';
            goes = gg;
            ends = fa;
          })
          r.left r.here r.here r.goes;
    }

    pub ended : {k₁ : List Bool} → Cleared k₁ k₀ at n → Going σ e at h i k₀ k n j f b → get_or h j 0 ≡ 0 → ((R : Expr) → At e at R → n ≡ at + size_e R) → Accepted σ e at h i k₁ k b
    ended cl go w nn = record {
      len = go.beside.len ∙ cl.beside.len;
      beside = λ R x. let z = nn R x in beside-wide (beside_trans cl.beside go.beside) (omega arith) (omega arith);
      each = λ R g x y.
          let r = go.each R g x y in
          by-nil (λ q. (tests σ q).in_order f r.M ≡ accepts σ R g → b ≡ accepts σ R g) w (λ gg. r.ends ∙ gg) r.left r.here r.goes;
    }

-- and what is lent beside the marks
pub record Looping (σ : Signature) (e : List ℕ) (at : ℕ) (h : List ℕ) (i : ℕ) (k₀ k : List Bool) (w₀ w : List ℕ) (top n j : ℕ) (first fin : Bool) : Type 0 where
  pub going : Going σ e at h i k₀ k n j first fin
  pub spared : Spared w₀ w top
  pub lent : Lent σ h j w top
