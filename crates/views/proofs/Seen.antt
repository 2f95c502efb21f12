-- The view of an equation and the shape of a membership, from the sides found at its places.
use mathlib.Core.Path.{◌≡◌, refl, ap, ◌∙◌}
use mathlib.Core.List.{List, [], ◌∷◌, ◌++◌, append_assoc}
use Prim.Native.Nat.{ℕ, ◌+◌}
use native.Mathlib.Omega.{arith}
use lib.ListN.{length, get_or, take, drop, length-append}
use lib.Seq.{take-append_seam}
use Rattle.language.specs.declared.Kind.{Kind}
use Rattle.language.specs.Limits.{desk}
use Rattle.language.specs.Kinds.{kind_of}
use Rattle.language.specs.Trees.{Hedge, Expr, eps, cat, alt, star, over, Literal, eqn, mem, Conj}
use Rattle.language.specs.Writing.{hedge_words, expr_words, literal_words, conj_words}
use Rattle.language.specs.Fine.{fine_expr}
use Rattle.language.proofs.Words.{kind-symbol, kind-eps, kind-cat, kind-alt, kind-star}
use Rattle.views.specs.Looks.{first_kind}
use Rattle.views.specs.Views.{Sided, Sees, Shows}
use Rattle.views.specs.declared.Side.{Side}
use Rattle.views.specs.declared.Shape.{Shape}
use Rattle.words.specs.Places.{until_literal}
use Rattle.views.specs.Standing.{Stands, LiteralAt}
use Rattle.views.specs.Places.{side_at, view_of, view_at, shape_of, shape_at}
use Rattle.words.proofs.Parts.{drop_of, word-of}
use Rattle.views.proofs.Literals.{next-literal}

module _ {k : List ℕ} {at : ℕ} {before : Conj} {l : Literal} {behind : Conj} (s : LiteralAt k at before l behind) where
  pub literal-before : take at k ≡ conj_words before
  literal-before = ap (λ n. take n k) s.place ∙ ap (take (length (conj_words before))) s.words ∙ take-append_seam (conj_words before) _

  pub literal-here : drop at k ≡ literal_words l ++ conj_words behind
  literal-here = drop_of k 0 at (conj_words before) (literal_words l ++ conj_words behind) s.words (let y = s.place in omega arith)

  -- where it ends, by its length and by the scan
  pub literal-next : at + 1 + until_literal (drop (at + 1) k) ≡ at + length (literal_words l)
  literal-next = next-literal k at l behind s.fine literal-here

-- what `side_at` finds at a place
abbrev pub SideAt : List ℕ → ℕ → Side → Type 0
SideAt k i v = (v.from ≡ i) × ((h : Hedge) (beyond : List ℕ) → Stands k i h beyond → Sided k v h) × (v ≡ side_at k i)

module _ {k : List ℕ} {i : ℕ} {v : Side} {h : Hedge} {beyond : List ℕ} (a : SideAt k i v) (s : Stands k i h beyond) where
  side-past : drop v.to k ≡ beyond
  side-past = drop_of k i v.to (hedge_words h) beyond s.here (let d = (a.1 h beyond s).to in let e = a.0 in omega arith)

module _ {k : List ℕ} {at : ℕ} {before : Conj} {l r : Hedge} {behind : Conj} (s : LiteralAt k at before (eqn l r) behind) where
  left-stands : Stands k (at + 1) l (hedge_words r ++ conj_words behind)
  left-stands = record {
    fine = s.fine.0;
    here = drop_of k at (at + 1) (5000 ∷ []) ((hedge_words l ++ hedge_words r) ++ conj_words behind) (literal-here s) refl ∙ append_assoc (hedge_words l) (hedge_words r) (conj_words behind);
  }

  pub sees-of : {a b : Side} → SideAt k (at + 1) a → SideAt k a.to b → Sees k (record { at = at; l = a; r = b; end = b.to; len = length k }) before l r behind
  sees-of {a} {b} x y =
      let t : Stands k a.to r (conj_words behind) = record { fine = s.fine.1; here = side-past x left-stands } in
      record {
        start = literal-before s;
        left = x.1 l (hedge_words r ++ conj_words behind) left-stands;
        right = y.1 r (conj_words behind) t;
        finish = side-past y t;
        len = refl;
        fine_before = s.fine_before;
        fine_behind = s.fine_behind;
      }

-- the same view by the words alone
pub view-is : (k : List ℕ) (at : ℕ) {a b : Side} → a ≡ side_at k (at + 1) → b ≡ side_at k a.to → record { at = at; l = a; r = b; end = b.to; len = length k } ≡ view_at k at
unfolding view_of view_at
view-is k at {a} {b} e d = ap (view_of k at a) d ∙ ap (λ (s : Side). view_of k at s (side_at k s.to)) e

pub shape_is : (k : List ℕ) (at : ℕ) {x : Kind} {end : ℕ} {a : Side} → a ≡ side_at k (at + 1) → x ≡ kind_of desk (get_or k a.to 0) → end ≡ at + 1 + until_literal (drop (at + 1) k) → record { at = at; h = a; expr = a.to; first = x; end = end; len = length k } ≡ shape_at k at
unfolding shape_of shape_at
shape_is k at {x} {end} {a} e d g = ap (λ n. shape n end) d ∙ ap (shape (kind_of desk (get_or k a.to 0))) g ∙ ap (shape_of k at) e
  where
    shape : Kind → ℕ → Shape
    shape n m = record { at = at; h = a; expr = a.to; first = n; end = m; len = length k }

first_of : (R : Expr) → fine_expr desk R → (ws : List ℕ) → kind_of desk (get_or (expr_words R ++ ws) 0 0) ≡ first_kind R
first_of eps b ws = kind-eps desk
first_of (cat a c) b ws = kind-cat desk
first_of (alt a c) b ws = kind-alt desk
first_of (star a) b ws = kind-star desk
first_of (over f a) b ws = kind-symbol desk f b.0

module _ {k : List ℕ} {at : ℕ} {before : Conj} {h : Hedge} {R : Expr} {behind : Conj} (s : LiteralAt k at before (mem h R) behind) where
  hedge-stands : Stands k (at + 1) h (expr_words R ++ conj_words behind)
  hedge-stands = record {
    fine = s.fine.0;
    here = drop_of k at (at + 1) (6000 ∷ []) ((hedge_words h ++ expr_words R) ++ conj_words behind) (literal-here s) refl ∙ append_assoc (hedge_words h) (expr_words R) (conj_words behind);
  }

  pub shows-of : {a : Side} {x : Kind} {end : ℕ} → SideAt k (at + 1) a → x ≡ kind_of desk (get_or k a.to 0) → end ≡ at + 1 + until_literal (drop (at + 1) k)
      → Shows k (record { at = at; h = a; expr = a.to; first = x; end = end; len = length k }) before h R behind
  shows-of {a} {x} {end} y e d =
      let w = y.1 h (expr_words R ++ conj_words behind) hedge-stands in
      let here : drop a.to k ≡ expr_words R ++ conj_words behind = side-past y hedge-stands in
      record {
        start = literal-before s;
        hedge = w;
        fine = s.fine.1;
        here = here;
        first = e ∙ ap (kind_of desk) (word-of k a.to _ here) ∙ first_of R s.fine.1 (conj_words behind);
        end = let n = literal-next s in let m = length-append (hedge_words h) (expr_words R) in let t = w.to in let f = y.0 in omega arith;
        len = refl;
        fine_before = s.fine_before;
        fine_behind = s.fine_behind;
      }
