-- How membership is decided: an expression with a mark at each symbol that may have been read last, and what one more term does to the marks. Under an
-- unordered symbol what may be left of the expression is followed instead, term by term.
use Rattle.std.specs.Prelude.{Bool, true, false, ◌&&◌, ◌||◌, List, [], ◌∷◌, leb}
use Rattle.language.specs.declared.Sym.{Sym}
use Rattle.language.specs.Kinds.{pick}
use Rattle.language.specs.declared.Signature.{Signature}
use Rattle.language.specs.Trees.{Expr, eps, cat, alt, star, over, is_unordered, eq_s}
use Rattle.meaning.specs.Complete.{Complete, nil, tree}
use Rattle.rules.specs.Expressions.{nullable}
use Rattle.member.specs.AnyOrder.{left_of, all_nullable, some, breadth, shortest_of}

pub data Marked : Type 0 where
  meps : Marked
  mcat : Marked → Marked → Marked
  malt : Marked → Marked → Marked
  mstar : Marked → Marked
  mover : Bool → Sym → Expr → Marked

-- the expression without its marks
abbrev pub bare : Marked → Expr
bare meps = eps
bare (mcat a b) = cat (bare a) (bare b)
bare (malt a b) = alt (bare a) (bare b)
bare (mstar a) = star (bare a)
bare (mover m f R) = over f R

-- the expression before anything is read
abbrev pub blank : Expr → Marked
blank eps = meps
blank (cat a b) = mcat (blank a) (blank b)
blank (alt a b) = malt (blank a) (blank b)
blank (star a) = mstar (blank a)
blank (over f R) = mover false f R

-- a marked symbol may be the last
abbrev pub final : Marked → Bool
final meps = false
final (mcat a b) = (final a && nullable (bare b)) || final b
final (malt a b) = final a || final b
final (mstar a) = final a
final (mover m f R) = m

-- The marks after one more term, of which p says whether it is of f(R). i: it may be the first.
abbrev pub shift : Bool → (Sym → Expr → Bool) → Marked → Marked
shift i p meps = meps
shift i p (mcat a b) = mcat (shift i p a) (shift (final a || (i && nullable (bare a))) p b)
shift i p (malt a b) = malt (shift i p a) (shift i p b)
shift i p (mstar a) = mstar (shift (i || final a) p a)
shift i p (mover m f R) = mover (i && p f R) f R

-- a hedge read in its order by marks, and in any order by what is left
pub record Tests : Type 0 where
  pub in_order : Bool → Marked → Bool
  pub any_order : List Expr → Bool

-- whether a term is of g(R), by the tests of its children: its symbol is g, and R reads the children, in any order where it is unordered
abbrev pub of_term : Signature → Sym → Tests → Sym → Expr → Bool
of_term σ f c g R = eq_s g f && pick (is_unordered σ f) (c.any_order (R ∷ [])) (c.in_order true (blank R))

abbrev pub tests : Signature → Complete → Tests
tests σ nil = record { in_order = λ i m. (i && nullable (bare m)) || final m; any_order = λ rs. all_nullable rs }
tests σ (tree f c r) = record {
  in_order = λ i m. (tests σ r).in_order false (shift i (of_term σ f (tests σ c)) m);
  any_order = λ rs. leb (shortest_of rs) (breadth (tree f c r)) && some (tests σ r).any_order (left_of (of_term σ f (tests σ c)) rs);
}

abbrev pub accepts : Signature → Expr → Complete → Bool
accepts σ R g = (tests σ g).in_order true (blank R)
