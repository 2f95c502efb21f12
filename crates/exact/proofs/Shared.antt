-- A hedge, or a term, lies in both of two expressions that mention no unordered symbol exactly where the walk shares it. That no unordered symbol is
-- mentioned is used at one place, `inside`.
use mathlib.Core.Path.{◌≡◌, refl, sym, ◌∙◌}
use mathlib.Core.Logic.Iff
use mathlib.Core.Logic.{◌↔◌}
use mathlib.Core.Bool.{false}
use mathlib.Core.List.{Memᴰ}
use lib.Dec.{T}
use Rattle.language.specs.declared.Sym.{Sym}
use Rattle.language.specs.declared.Signature.{Signature}
use Rattle.language.specs.Trees.{Expr, eps, cat, alt, star, over, is_unordered, Var, tv, hv, fv}
use Rattle.meaning.specs.Complete.{Complete, nil, tree}
use Rattle.meaning.specs.Meaning.{Member}
use Rattle.meaning.proofs.Same.{same_refl, same-symbol}
use Rattle.meaning.proofs.Alike.{member-over}
use Rattle.rules.specs.Expressions.{Monomial, linear}
use Rattle.rules.specs.Clash.{mentions, agree}
use Rattle.rules.specs.Walk.{Pair}
use Rattle.rules.proofs.Each.{each_in}
use Rattle.rules.proofs.Tests.{neither, not_test}
use Rattle.walk.specs.Reach.{Twins, Shares, empty, more, SharesTerm}
use Rattle.walk.proofs.Members.{some_in, in_some}
use Rattle.walk.proofs.Sharing.{hedge-exact, term-exact}
use Rattle.exact.specs.Monomials.{Takes}
use Rattle.exact.specs.Made.{Name, a_symbol, a_variable, MadeE}
use Rattle.exact.specs.Clashes.{InBoth}
use Rattle.exact.proofs.Expressions.{nullable-exact, linear-exact}
use Rattle.exact.proofs.Made.{MadeMonomial, linear-made}

module _ (σ : Signature) where
  -- ---- what is shared lies in both

  takes : (R : Expr) {m : Monomial} (f : Sym) (c g : Complete) → Memᴰ m (linear R) → f ≡ m.name → Member σ m.inner c → Member σ m.rest g → Member σ R (tree f c g)
  takes R {m} f c g i e a b = (linear-exact σ R f c g).1 (in_some (Takes σ f c g) i ((c, rw e (same_refl σ (tree m.name c nil)), a), b))

  lies : {p : Pair} → Shares p → (g : Complete) × Member σ p.0 g × Member σ p.1 g
  lies {p} (empty x y) = (nil, (nullable-exact σ p.0).0 x, (nullable-exact σ p.1).0 y)
  lies {p} (more {m = m} {k = k} t x y) =
      let (c, a, b) = lies x in
      let (g, d, e) = lies y in
      (tree m.name c g, takes p.0 m.name c g t.one refl a d, takes p.1 m.name c g t.other t.name b e)

  -- ---- what lies in both is shared

  -- a symbol that is ordered; of a variable nothing is said
  abbrev Ordered : Name → Type 0
  Ordered (a_symbol f) = is_unordered σ f ≡ false
  Ordered (a_variable v) = Unit {0}

  ordered : (R : Expr) → mentions (is_unordered σ) R ≡ false → MadeE Ordered R
  ordered eps e = tt
  ordered (cat a b) e = let (x, y) = neither (mentions (is_unordered σ) a) (mentions (is_unordered σ) b) e in (ordered a x, ordered b y)
  ordered (alt a b) e = let (x, y) = neither (mentions (is_unordered σ) a) (mentions (is_unordered σ) b) e in (ordered a x, ordered b y)
  ordered (star a) e = ordered a e
  ordered (over f a) e = let (x, y) = neither (is_unordered σ f) (mentions (is_unordered σ) a) e in (x, ordered a y)

  -- a term over an ordered symbol is in f(R) only with its children in R
  inside : (f g : Sym) (c : Complete) (R : Expr) → is_unordered σ g ≡ false → Member σ (over g R) (tree f c nil) → (f ≡ g) × Member σ R c
  inside f g c R o m = let e = same-symbol σ f g c m.0 nil nil m.1 in (e, (member-over σ g c R (not_test (is_unordered σ g) o)).0 (rw e at m))

  -- a monomial of R that takes the hedge
  record Taken (R : Expr) (f : Sym) (c g : Complete) : Type 0 where
    monomial : Monomial
    one : Memᴰ monomial (linear R)
    name : f ≡ monomial.name
    children : Member σ monomial.inner c
    follows : Member σ monomial.rest g
    inner-ordered : MadeE Ordered monomial.inner
    rest-ordered : MadeE Ordered monomial.rest

  taken : (R : Expr) (f : Sym) (c g : Complete) → MadeE Ordered R → Member σ R (tree f c g) → Taken R f c g
  taken R f c g o t =
      let (m, i, (a, b)) = some_in (Takes σ f c g) (linear R) ((linear-exact σ R f c g).0 t) in
      let (x, y, z) = each_in (MadeMonomial Ordered) (linear-made Ordered R o) i in
      let (e, d) = inside f m.name c m.inner x a in
      record { monomial = m; one = i; name = e; children = d; follows = b; inner-ordered = y; rest-ordered = z }

  twins : (p : Pair) (f : Sym) (c g : Complete) (a : Taken p.0 f c g) (b : Taken p.1 f c g) → Twins p a.monomial b.monomial
  twins p f c g a b = record { one = a.one; other = b.one; name = sym a.name ∙ b.name }

  shares : (p : Pair) (g : Complete) → MadeE Ordered p.0 → MadeE Ordered p.1 → Member σ p.0 g → Member σ p.1 g → Shares p
  shares p nil o r a b = empty ((nullable-exact σ p.0).1 a) ((nullable-exact σ p.1).1 b)
  shares p (tree f c g) o r a b =
      let x = taken p.0 f c g o a in
      let y = taken p.1 f c g r b in
      more (twins p f c g x y)
      (shares (x.monomial.inner, y.monomial.inner) c x.inner-ordered y.inner-ordered x.children y.children)
      (shares (x.monomial.rest, y.monomial.rest) g x.rest-ordered y.rest-ordered x.follows y.follows)

  module _ (R S : Expr) (o : mentions (is_unordered σ) R ≡ false) (r : mentions (is_unordered σ) S ≡ false) where
    shared-hedge : Shares (R, S) ↔ ((g : Complete) × Member σ R g × Member σ S g)
    shared-hedge = (λ s. lies s, λ b. let (g, x, y) = b in shares (R, S) g (ordered R o) (ordered S r) x y)

    shared-term : SharesTerm (R, S) ↔ ((f : Sym) × (c : Complete) × Member σ R (tree f c nil) × Member σ S (tree f c nil))
    shared-term = (
      λ s.
          let t = s.twins in
          let (c, a, b) = lies s.inside in
          let f = s.monomial.name in (
            f,
            c,
            takes R f c nil t.one refl a ((nullable-exact σ s.monomial.rest).0 s.ends),
            takes S f c nil t.other t.name b ((nullable-exact σ s.twin.rest).0 s.twin-ends),
          ),
      λ b.
          let (f, c, x, y) = b in
          let m = taken R f c nil (ordered R o) x in
          let k = taken S f c nil (ordered S r) y in
          record {
            monomial = m.monomial;
            twin = k.monomial;
            twins = twins (R, S) f c nil m k;
            inside = shares (m.monomial.inner, k.monomial.inner) c m.inner-ordered k.inner-ordered m.children k.children;
            ends = (nullable-exact σ m.monomial.rest).1 m.follows;
            twin-ends = (nullable-exact σ k.monomial.rest).1 k.follows;
          },
    )

    -- The test of the rule says that something lies in both exactly where it does.
    pub agree-exact : (v : Var) → T (agree v R S) ↔ InBoth σ v R S
    agree-exact (tv x) = Iff.trans (term-exact R S) shared-term
    agree-exact (hv p) = Iff.trans (hedge-exact R S) shared-hedge
    agree-exact (fv X) = (λ t. t, λ t. t)
