-- Two hedges have the same words exactly if they are the same.
use mathlib.Core.Path.{◌≡◌, refl, sym, ap, ◌∙◌}
use mathlib.Core.Bool.{Bool, true, false, ◌&&◌, and-true}
use mathlib.Core.List.{List, [], ◌++◌, append_assoc, append-nil}
use Prim.Native.Nat.{ℕ, ◌+◌}
use native.Mathlib.Omega.{arith}
use lib.Dec.{eqb}
use lib.Seq.{slice}
use borrow.Author.Tests.{ne_eqb}
use Rattle.language.specs.Limits.{desk}
use Rattle.language.specs.Trees.{Functor, symbol, fvar, Hedge, ε, tvar, hvar, node, eq_f, same_words}
use Rattle.language.specs.Writing.{functor_word, hedge_words}
use Rattle.language.specs.Fine.{fine_functor, fine_hedge}
use Rattle.views.specs.Views.{Sided}
use Rattle.views.specs.declared.Side.{Side}
use Rattle.words.specs.Places.{same_list}
use Rattle.views.proofs.Spans.{functor-least}
use Rattle.views.proofs.Members.{eqb-base}
use Rattle.views.proofs.Sides.{side-whole}

pub same-functor : (f g : Functor) → fine_functor desk f → fine_functor desk g → eqb (functor_word f) (functor_word g) ≡ eq_f f g
same-functor (symbol f) (symbol g) p q = eqb-base 3000 f.0 g.0
same-functor (symbol f) (fvar Y) p q = ne_eqb (3000 + f.0) (4000 + Y.0) (omega arith)
same-functor (fvar X) (symbol g) p q = ne_eqb (4000 + X.0) (3000 + g.0) (omega arith)
same-functor (fvar X) (fvar Y) p q = eqb-base 4000 X.0 Y.0

both-and : {p q r s : Bool} → p ≡ q → r ≡ s → (p && r) ≡ (q && s)
both-and {p} {q} {r} {s} e d = ap (λ t. t && r) e ∙ ap (λ t. q && t) d

and_assoc : (p q r : Bool) → (p && (q && r)) ≡ ((p && q) && r)
and_assoc true q r = refl
and_assoc false q r = refl

-- two hedges and what stands behind each
same-words : (l r : Hedge) → fine_hedge desk l → fine_hedge desk r → (us vs : List ℕ) → same_list (hedge_words l ++ us) (hedge_words r ++ vs) ≡ (same_words l r && same_list us vs)
same-words ε ε f g us vs = refl
same-words ε (tvar y s) f g us vs = rw (ne_eqb 0 (1000 + y.0) (omega arith))
same-words ε (hvar q s) f g us vs = rw (ne_eqb 0 (2000 + q.0) (omega arith))
same-words ε (node b d s) f g us vs = let h = functor-least b in rw (ne_eqb 0 (functor_word b) (omega arith))
same-words (tvar x r) ε f g us vs = rw (ne_eqb (1000 + x.0) 0 (omega arith))
same-words (tvar x r) (tvar y s) f g us vs = both-and (eqb-base 1000 x.0 y.0) (same-words r s f.1 g.1 us vs) ∙ and_assoc (eqb x.0 y.0) (same_words r s) (same_list us vs)
same-words (tvar x r) (hvar q s) f g us vs = rw (ne_eqb (1000 + x.0) (2000 + q.0) (omega arith))
same-words (tvar x r) (node b d s) f g us vs = let h = functor-least b in rw (ne_eqb (1000 + x.0) (functor_word b) (omega arith))
same-words (hvar p r) ε f g us vs = rw (ne_eqb (2000 + p.0) 0 (omega arith))
same-words (hvar p r) (tvar y s) f g us vs = rw (ne_eqb (2000 + p.0) (1000 + y.0) (omega arith))
same-words (hvar p r) (hvar q s) f g us vs = both-and (eqb-base 2000 p.0 q.0) (same-words r s f.1 g.1 us vs) ∙ and_assoc (eqb p.0 q.0) (same_words r s) (same_list us vs)
same-words (hvar p r) (node b d s) f g us vs = let h = functor-least b in rw (ne_eqb (2000 + p.0) (functor_word b) (omega arith))
same-words (node a c r) ε f g us vs = let h = functor-least a in rw (ne_eqb (functor_word a) 0 (omega arith))
same-words (node a c r) (tvar y s) f g us vs = let h = functor-least a in rw (ne_eqb (functor_word a) (1000 + y.0) (omega arith))
same-words (node a c r) (hvar q s) f g us vs = let h = functor-least a in rw (ne_eqb (functor_word a) (2000 + q.0) (omega arith))
same-words (node a c r) (node b d s) f g us vs =
    both-and
    (same-functor a b f.0 g.0)
    (ap (λ w. same_list w ((hedge_words d ++ hedge_words s) ++ vs)) (append_assoc (hedge_words c) (hedge_words r) us)
    ∙ ap (same_list (hedge_words c ++ (hedge_words r ++ us))) (append_assoc (hedge_words d) (hedge_words s) vs)
    ∙ same-words c d f.1 g.1 (hedge_words r ++ us) (hedge_words s ++ vs) ∙ ap (λ t. same_words c d && t) (same-words r s f.2 g.2 us vs))
    ∙ regroup (eq_f a b) (same_words c d) (same_words r s) (same_list us vs)
  where
    regroup : (p q r s : Bool) → (p && (q && (r && s))) ≡ (p && q && r && s)
    regroup true true r s = refl
    regroup true false r s = refl
    regroup false q r s = refl

pub same-hedges : (l r : Hedge) → fine_hedge desk l → fine_hedge desk r → same_list (hedge_words l) (hedge_words r) ≡ same_words l r
same-hedges l r f g =
    ap (λ w. same_list w (hedge_words r)) (sym (append-nil (hedge_words l))) ∙ ap (same_list (hedge_words l ++ [])) (sym (append-nil (hedge_words r)))
    ∙ same-words l r f g [] [] ∙ and-true (same_words l r)

-- the parts of two sides
pub same-sides : {k : List ℕ} {a b : Side} {l r : Hedge} → Sided k a l → Sided k b r → same_list (slice a.from a.to k) (slice b.from b.to k) ≡ same_words l r
same-sides {k} {a} {b} {l} {r} v w =
    ap (λ x. same_list x (slice b.from b.to k)) (side-whole v) ∙ ap (same_list (hedge_words l)) (side-whole w) ∙ same-hedges l r v.fine w.fine
