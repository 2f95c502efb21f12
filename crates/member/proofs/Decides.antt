-- Marks decide membership. The idea: `After m g` says that g may be read after some mark of m; one more term keeps it, both ways.
use mathlib.Core.Path.{◌≡◌, refl, sym, ◌∙◌, ap}
use mathlib.Core.Logic.{◌⊎◌, inl, inr, ◌↔◌}
use mathlib.Core.Bool.{Bool, true, false, not, ◌&&◌, ◌||◌}
use mathlib.Core.List.{List, [], ◌∷◌}
use lib.Dec.{T, leb, eqb→eq, eqb_refl, le→leb}
use Rattle.language.specs.declared.Sym.{Sym}
use Rattle.language.specs.Kinds.{pick}
use Rattle.language.specs.declared.Signature.{Signature}
use Rattle.language.specs.Trees.{Expr, eps, cat, alt, star, over, is_unordered, eq_s}
use Rattle.meaning.specs.Complete.{Complete, nil, tree, ◌·◌, Shuffled}
use Rattle.meaning.specs.Meaning.{Many, stop, more, Member}
use Rattle.meaning.proofs.Complete.{nil≢tree, nil-parts}
use Rattle.meaning.proofs.Shuffles.{shuffled-sym}
use Rattle.meaning.proofs.Same.{same-nil, nil-no-tree, same-symbol, same_first}
use Rattle.meaning.proofs.Alike.{member-over, member_alike}
use Rattle.rules.specs.Expressions.{nullable}
use Rattle.member.specs.AnyOrder.{left_of, all_nullable, some, breadth, shortest_of}
use Rattle.member.specs.Marks.{Marked, meps, mcat, malt, mstar, mover, bare, blank, final, shift, Tests, of_term, tests, accepts}
use Rattle.member.proofs.AnyOrder.{Row, InSomeOrder, row_one, one-row, any_left, left-any, some_is, order-short}

-- ---- tests

T-or : (a b : Bool) → T (a || b) → T a ⊎ T b
T-or true b t = inl tt
T-or false b t = inr t

T-left : (a b : Bool) → T a → T (a || b)
T-left true b t = tt
T-left false b t = absurd t

T-right : (a b : Bool) → T b → T (a || b)
T-right true b t = tt
T-right false b t = t

T_and : (a b : Bool) → T (a && b) → T a × T b
T_and true b t = (tt, t)
T_and false b t = absurd t

T-both : (a b : Bool) → T a → T b → T (a && b)
T-both true b s t = t
T-both false b s t = absurd s

eq_s-is : (f g : Sym) → T (eq_s f g) → f ≡ g
eq_s-is f g t = ap (λ n. record { 0 = n }) (eqb→eq f.0 g.0 t)

-- ---- complete hedges

-- where a hedge that starts with a term is cut
abbrev Cut : Sym → Complete → Complete → Complete → Complete → Type 0
Cut f c r u v = ((u ≡ nil) × (v ≡ tree f c r)) ⊎ ((w : Complete) × (u ≡ tree f c w) × (r ≡ w · v))

cut : (f : Sym) (c r u v : Complete) → tree f c r ≡ u · v → Cut f c r u v
cut f c r nil v e = inl (refl, sym e)
cut f c r (tree g d w) v e = inr (w, cc, cc)

abbrev Split : (Complete → Type 0) → (Complete → Type 0) → Sym → Complete → Complete → Type 0
Split P Q f c r = (u : Complete) × (v : Complete) × (r ≡ u · v) × P (tree f c u) × Q v

-- the first member in a row that is not empty holds the first term
many-split : {P : Complete → Type 0} {g : Complete} → Many P g → (f : Sym) (c r : Complete) → g ≡ tree f c r → Split P (Many P) f c r
many-split (stop e) f c r h = absurd (nil≢tree (sym e ∙ h))
many-split {P} (more {g = g} {u = u} {v = v} e x y) f c r h = go (many-split y f c r) (cut f c r u v (sym h ∙ e))
  where
    go : (v ≡ tree f c r → Split P (Many P) f c r) → Cut f c r u v → Split P (Many P) f c r
    go rec (inl z) = rec z.1
    go rec (inr (w, k, l)) = (w, v, l, rw k at x, y)

pub bare-blank : (R : Expr) → bare (blank R) ≡ R
bare-blank eps = refl
bare-blank (cat a b) = rw (bare-blank a, bare-blank b)
bare-blank (alt a b) = rw (bare-blank a, bare-blank b)
bare-blank (star a) = rw (bare-blank a)
bare-blank (over f R) = refl

pub bare-shift : (i : Bool) (p : Sym → Expr → Bool) (m : Marked) → bare (shift i p m) ≡ bare m
bare-shift i p meps = refl
bare-shift i p (mcat a b) = rw (bare-shift i p a, bare-shift (final a || (i && nullable (bare a))) p b)
bare-shift i p (malt a b) = rw (bare-shift i p a, bare-shift i p b)
bare-shift i p (mstar a) = rw (bare-shift (i || final a) p a)
bare-shift i p (mover m f R) = refl

module _ (σ : Signature) where
  -- ---- what may be read after a marked symbol

  abbrev After : Marked → Complete → Type 0
  After meps g = ⊥
  After (mcat a b) g = ((u : Complete) × (v : Complete) × (g ≡ u · v) × After a u × Member σ (bare b) v) ⊎ After b g
  After (malt a b) g = After a g ⊎ After b g
  After (mstar a) g = (u : Complete) × (v : Complete) × (g ≡ u · v) × After a u × Many (Member σ (bare a)) v
  After (mover m f R) g = T m × (g ≡ nil)

  blank_none : (R : Expr) (g : Complete) → After (blank R) g → ⊥
  blank_none eps g h = h
  blank_none (cat a b) g (inl (u, v, e, x, y)) = blank_none a u x
  blank_none (cat a b) g (inr h) = blank_none b g h
  blank_none (alt a b) g (inl h) = blank_none a g h
  blank_none (alt a b) g (inr h) = blank_none b g h
  blank_none (star a) g (u, v, e, x, y) = blank_none a u x
  blank_none (over f R) g h = h.0

  null→ : (R : Expr) → T (nullable R) → Member σ R nil
  null→ eps t = refl
  null→ (cat a b) t = let (s, u) = T_and (nullable a) (nullable b) t in (nil, nil, refl, null→ a s, null→ b u)
  null→ (alt a b) t = elim (T-or (nullable a) (nullable b) t) [ inl s ↦ inl (null→ a s) | inr s ↦ inr (null→ b s) ]
  null→ (star a) t = stop refl
  null→ (over f R) t = absurd t

  null← : (R : Expr) → Member σ R nil → T (nullable R)
  null← eps h = tt
  null← (cat a b) (u, v, e, x, y) =
      let (p, q) = nil-parts u v e in
      T-both (nullable a) (nullable b) (null← a (rw p at x)) (null← b (rw q at y))
  null← (alt a b) (inl h) = T-left (nullable a) (nullable b) (null← a h)
  null← (alt a b) (inr h) = T-right (nullable a) (nullable b) (null← b h)
  null← (star a) h = tt
  null← (over f R) (c, e, x) = nil-no-tree σ f c nil e

  final→ : (m : Marked) → T (final m) → After m nil
  final→ meps t = t
  final→ (mcat a b) t =
      elim (T-or (final a && nullable (bare b)) (final b) t) [
        | inl s ↦ let (p, q) = T_and (final a) (nullable (bare b)) s in inl (nil, nil, refl, final→ a p, null→ (bare b) q)
        | inr s ↦ inr (final→ b s)
      ]
  final→ (malt a b) t = elim (T-or (final a) (final b) t) [ inl s ↦ inl (final→ a s) | inr s ↦ inr (final→ b s) ]
  final→ (mstar a) t = (nil, nil, refl, final→ a t, stop refl)
  final→ (mover m f R) t = (t, refl)

  final← : (m : Marked) → After m nil → T (final m)
  final← meps h = h
  final← (mcat a b) (inl (u, v, e, x, y)) =
      let (p, q) = nil-parts u v e in
      T-left (final a && nullable (bare b)) (final b) (T-both (final a) (nullable (bare b)) (final← a (rw p at x)) (null← (bare b) (rw q at y)))
  final← (mcat a b) (inr h) = T-right (final a && nullable (bare b)) (final b) (final← b h)
  final← (malt a b) (inl h) = T-left (final a) (final b) (final← a h)
  final← (malt a b) (inr h) = T-right (final a) (final b) (final← b h)
  final← (mstar a) (u, v, e, x, y) = final← a (rw (nil-parts u v e).0 at x)
  final← (mover m f R) h = h.0

  -- ---- one more term

  module _ (p : Sym → Expr → Bool) (f : Sym) (c : Complete) where
    -- what may be read after the new marks might have been read, with the term, before
    module _ (yes→ : (g : Sym) (R : Expr) → T (p g R) → Member σ (over g R) (tree f c nil)) where
      sound : (i : Bool) (m : Marked) (r : Complete) → After (shift i p m) r → After m (tree f c r) ⊎ (T i × Member σ (bare m) (tree f c r))
      sound i meps r h = absurd h
      sound i (mcat a b) r (inl (u, v, e, x, y)) =
          let y' : Member σ (bare b) v = rw (bare-shift (final a || (i && nullable (bare a))) p b) at y in
          elim (sound i a u x) [
            | inl z ↦ inl (inl (tree f c u, v, ap (tree f c) e, z, y'))
            | inr z ↦ inr (z.0, (tree f c u, v, ap (tree f c) e, z.1, y'))
          ]
      sound i (mcat a b) r (inr h) =
          elim (sound (final a || (i && nullable (bare a))) b r h) [
            | inl z ↦ inl (inr z)
            | inr z ↦
                elim (T-or (final a) (i && nullable (bare a)) z.0) [
                  | inl t ↦ inl (inl (nil, tree f c r, refl, final→ a t, z.1))
                  | inr t ↦ let (s, n) = T_and i (nullable (bare a)) t in inr (s, (nil, tree f c r, refl, null→ (bare a) n, z.1))
                ]
          ]
      sound i (malt a b) r (inl h) = elim (sound i a r h) [ inl z ↦ inl (inl z) | inr z ↦ inr (z.0, inl z.1) ]
      sound i (malt a b) r (inr h) = elim (sound i b r h) [ inl z ↦ inl (inr z) | inr z ↦ inr (z.0, inr z.1) ]
      sound i (mstar a) r (u, v, e, x, y) =
          let y' : Many (Member σ (bare a)) v = rw (bare-shift (i || final a) p a) at y in
          elim (sound (i || final a) a u x) [
            | inl z ↦ inl (tree f c u, v, ap (tree f c) e, z, y')
            | inr z ↦
                let k : Many (Member σ (bare a)) (tree f c r) = more {u = tree f c u} {v = v} (ap (tree f c) e) z.1 y' in
                elim (T-or i (final a) z.0) [ inl t ↦ inr (t, k) | inr t ↦ inl (nil, tree f c r, refl, final→ a t, k) ]
          ]
      sound i (mover b g R) r (t, e) =
          let (s, q) = T_and i (p g R) t in
          inr (s, rw e (yes→ g R q))

    -- and what might be read, with the term, before may be read after the new marks
    module _ (yes← : (g : Sym) (R : Expr) → Member σ (over g R) (tree f c nil) → T (p g R)) where
      begins : (i : Bool) (m : Marked) (r : Complete) → T i → Member σ (bare m) (tree f c r) → After (shift i p m) r
      begins i meps r t h = absurd (nil≢tree (sym h))
      begins i (mcat a b) r t (u, v, e, x, y) =
          elim (cut f c r u v e) [
            | inl z ↦
                inr (begins (final a || (i && nullable (bare a))) b r
                (T-right (final a) (i && nullable (bare a)) (T-both i (nullable (bare a)) t (null← (bare a) (rw z.0 at x)))) (rw z.1 at y))
            | inr (w, k, l) ↦ inl (w, v, l, begins i a w t (rw k at x), rw (bare-shift (final a || (i && nullable (bare a))) p b) y)
          ]
      begins i (malt a b) r t (inl h) = inl (begins i a r t h)
      begins i (malt a b) r t (inr h) = inr (begins i b r t h)
      begins i (mstar a) r t h =
          let (u, v, e, x, y) = many-split h f c r refl in
          (u, v, e, begins (i || final a) a u (T-left i (final a) t) x, rw (bare-shift (i || final a) p a) y)
      begins i (mover b g R) r t (d, m, x) =
          let (first, rest) = (same_first σ f g c d r nil).0 m in
          (T-both i (p g R) t (yes← g R (d, first, x)), same-nil σ r rest)

      goes_on : (i : Bool) (m : Marked) (r : Complete) → After m (tree f c r) → After (shift i p m) r
      goes_on i meps r h = h
      goes_on i (mcat a b) r (inl (u, v, e, x, y)) =
          elim (cut f c r u v e) [
            | inl z ↦
                inr (begins (final a || (i && nullable (bare a))) b r
                (T-left (final a) (i && nullable (bare a)) (final← a (rw z.0 at x))) (rw z.1 at y))
            | inr (w, k, l) ↦ inl (w, v, l, goes_on i a w (rw k at x), rw (bare-shift (final a || (i && nullable (bare a))) p b) y)
          ]
      goes_on i (mcat a b) r (inr h) = inr (goes_on (final a || (i && nullable (bare a))) b r h)
      goes_on i (malt a b) r (inl h) = inl (goes_on i a r h)
      goes_on i (malt a b) r (inr h) = inr (goes_on i b r h)
      goes_on i (mstar a) r (u, v, e, x, y) =
          elim (cut f c r u v e) [
            | inl z ↦
                let (u', v', e', x', y') = many-split y f c r z.1 in
                (u', v', e', begins (i || final a) a u' (T-right i (final a) (final← a (rw z.0 at x))) x', rw (bare-shift (i || final a) p a) y')
            | inr (w, k, l) ↦ (w, v, l, goes_on (i || final a) a w (rw k at x), rw (bare-shift (i || final a) p a) y)
          ]
      goes_on i (mover b g R) r (t, e) = absurd (nil≢tree (sym e))

  -- ---- all terms

  abbrev Left : Bool → Marked → Complete → Type 0
  Left i m g = After m g ⊎ (T i × Member σ (bare m) g)

  -- nothing is left to read
  row-nil : (rs : List Expr) → T (all_nullable rs) ↔ Row σ rs nil
  row-nil [] = (λ t. refl, λ e. tt)
  row-nil (R ∷ rs) = (
    λ t. let (a, b) = T_and (nullable R) (all_nullable rs) t in (nil, nil, refl, null→ R a, (row-nil rs).0 b),
    λ (u, v, e, m, n). let (p, q) = nil-parts u v e in T-both (nullable R) (all_nullable rs) (null← R (rw p at m)) ((row-nil rs).1 (rw q at n)),
  )

  -- what the tests say of a hedge
  pub record Decided (g : Complete) (t : Tests) : Type 0 where
    pub in_order : (i : Bool) (m : Marked) → T (t.in_order i m) ↔ Left i m g
    pub any_order : (rs : List Expr) → T (t.any_order rs) ↔ InSomeOrder σ rs g

  read : (g : Complete) (t : Tests) → Decided g t → (R : Expr) → T (t.in_order true (blank R)) ↔ Member σ R g
  read g t d R = (
    λ x. elim ((d.in_order true (blank R)).0 x) [ inl h ↦ absurd (blank_none R g h) | inr h ↦ rw (bare-blank R) at h.1 ],
    λ m. (d.in_order true (blank R)).1 (inr (tt, rw (bare-blank R) m)),
  )

  pub shuffled : (g : Complete) (t : Tests) → Decided g t → (R : Expr) → T (t.any_order (R ∷ [])) ↔ ((e : Complete) × Shuffled g e × Member σ R e)
  shuffled g t d R = (
    λ x. let (e, s, m) = (d.any_order (R ∷ [])).0 x in (e, s, one-row σ R e m),
    λ (e, s, m). (d.any_order (R ∷ [])).1 (e, s, row_one σ R e m),
  )

  -- f over c is in f(R) exactly where the test says so
  under : (f : Sym) (c : Complete) (t : Tests) → Decided c t → (R : Expr)
      → T (pick (is_unordered σ f) (t.any_order (R ∷ [])) (t.in_order true (blank R))) ↔ Member σ (over f R) (tree f c nil)
  under f c t d R = go (is_unordered σ f) (λ u. member_alike σ f c R u) (λ u. member-over σ f c R u)
    where
      go : (b : Bool) → (T b → Member σ (over f R) (tree f c nil) ↔ ((e : Complete) × Shuffled c e × Member σ R e)) → (T (not b) → Member σ (over f R) (tree f c nil) ↔ Member σ R c)
          → T (pick b (t.any_order (R ∷ [])) (t.in_order true (blank R))) ↔ Member σ (over f R) (tree f c nil)
      go true any line = (λ x. (any tt).1 ((shuffled c t d R).0 x), λ m. (shuffled c t d R).1 ((any tt).0 m))
      go false any line = (λ x. (line tt).1 ((read c t d R).0 x), λ m. (read c t d R).1 ((line tt).0 m))

  pub of-term→ : (f : Sym) (c : Complete) (t : Tests) → Decided c t → (g : Sym) (R : Expr) → T (of_term σ f t g R) → Member σ (over g R) (tree f c nil)
  of-term→ f c t d g R x =
      let (s, y) = T_and (eq_s g f) (pick (is_unordered σ f) (t.any_order (R ∷ [])) (t.in_order true (blank R))) x in
      rw (eq_s-is g f s) ((under f c t d R).0 y)

  pub of-term← : (f : Sym) (c : Complete) (t : Tests) → Decided c t → (g : Sym) (R : Expr) → Member σ (over g R) (tree f c nil) → T (of_term σ f t g R)
  of-term← f c t d g R m =
      let e = same-symbol σ f g c m.0 nil nil m.1 in
      T-both (eq_s g f) (pick (is_unordered σ f) (t.any_order (R ∷ [])) (t.in_order true (blank R))) (rw (← e) (eqb_refl f.0)) ((under f c t d R).1 (rw (← e) at m))

  nil-decided : Decided nil (tests σ nil)
  nil-decided = record {
    in_order = λ i m. (
      λ t. elim (T-or (i && nullable (bare m)) (final m) t) [
        | inl s ↦ let (p, q) = T_and i (nullable (bare m)) s in inr (p, null→ (bare m) q)
        | inr s ↦ inl (final→ m s)
      ],
      λ l. elim l [
        | inl h ↦ T-right (i && nullable (bare m)) (final m) (final← m h)
        | inr h ↦ T-left (i && nullable (bare m)) (final m) (T-both i (nullable (bare m)) h.0 (null← (bare m) h.1))
      ],
    );
    any_order = λ rs. (λ t. (nil, refl, (row-nil rs).0 t), λ (e, s, m). (row-nil rs).1 (rw (shuffled-sym nil e s) at m));
  }

  tree-decided : (f : Sym) (c r : Complete) (t u : Tests) → Decided c t → Decided r u
      → Decided (tree f c r) (record { in_order = λ i m. u.in_order false (shift i (of_term σ f t) m); any_order = λ rs. leb (shortest_of rs) (breadth (tree f c r)) && some u.any_order (left_of (of_term σ f t) rs) })
  tree-decided f c r t u d e =
      let p = of_term σ f t in
      record {
        in_order = λ i m. (
          λ x. elim ((e.in_order false (shift i p m)).0 x) [ inl h ↦ sound p f c (of-term→ f c t d) i m r h | inr h ↦ absurd h.0 ],
          λ l. (e.in_order false (shift i p m)).1 (inl (elim l [ inl h ↦ goes_on p f c (of-term← f c t d) i m r h | inr h ↦ begins p f c (of-term← f c t d) i m r h.0 h.1 ])),
        );
        any_order = λ rs.
            let all = some_is u.any_order (λ q. InSomeOrder σ q r) e.any_order (left_of p rs) in
            let enough = leb (shortest_of rs) (breadth (tree f c r)) in (
              λ x. left-any σ p f c (of-term→ f c t d) rs r (all.0 (T_and enough (some u.any_order (left_of p rs)) x).1),
              λ m. T-both enough (some u.any_order (left_of p rs)) (le→leb _ _ (order-short σ rs (tree f c r) m)) (all.1 (any_left σ p f c (of-term← f c t d) rs r m)),
            );
      }

  pub tests-decide : (g : Complete) → Decided g (tests σ g)
  tests-decide nil = nil-decided
  tests-decide (tree f c r) = tree-decided f c r (tests σ c) (tests σ r) (tests-decide c) (tests-decide r)

  true-T : (b : Bool) → b ≡ true → T b
  true-T b e = rw e tt

  T_true : (b : Bool) → T b → b ≡ true
  T_true true t = refl
  T_true false t = absurd t

  pub decides : (R : Expr) (g : Complete) → (accepts σ R g ≡ true) ↔ Member σ R g
  decides R g = let d = read g (tests σ g) (tests-decide g) R in (λ e. d.0 (true-T _ e), λ x. T_true _ (d.1 x))
