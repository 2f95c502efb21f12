-- By the functor, and for a symbol whether it is the same, and then whether it is unordered.
use mathlib.Core.Path.{◌≡◌, sym, ap, ◌∙◌}
use mathlib.Core.Bool.{Bool}
use borrow.Author.Tests.{eq-eqb, ne_eqb}
use Rattle.language.specs.declared.Signature.{Signature}
use Rattle.language.specs.declared.Sym.{Sym}
use Rattle.language.specs.declared.Name.{Name}
use Rattle.language.specs.declared.Name.TheVariants.{Symbol}
use Rattle.language.specs.Kinds.{pick}
use Rattle.language.specs.Trees.{is_unordered, eq_s}
use Rattle.rules.specs.Looks.{all_terms}
use Rattle.rules.specs.Places.{at_f5, at_m11, at_m12, no_rule}
use Rattle.memberships.specs.Rank.{same_rank, over_by}
use Rattle.memberships.proofs.rank_over.Goals as goal

module _ (σ : Signature) (terms : Bool) (f : Name) (a g : Sym) (e : f ≡ Symbol a) where
  by-symbol : {b : Bool} → eq_s a g ≡ b → pick b (same_rank σ terms a) at_f5 ≡ over_by σ terms f g
  by-symbol q = ap (λ b. pick b (same_rank σ terms a) at_f5) (sym q) ∙ ap (λ f. over_by σ terms f g) (sym e)

  same : {b : Bool} → a.0 ≡ g.0 → is_unordered σ a ≡ b → pick b (pick terms at_m12 no_rule) at_m11 ≡ over_by σ terms f g
  same q u = ap (λ b. pick b (pick terms at_m12 no_rule) at_m11) (sym u) ∙ by-symbol (eq-eqb a.0 g.0 q)

  clash : (a.0 ≡ g.0 → ⊥) → at_f5 ≡ over_by σ terms f g
  clash q = by-symbol (ne_eqb a.0 g.0 q)

pub returns-then-is_unordered : goal.returns-then-is_unordered
returns-then-is_unordered c = λ F h r beyond s.
    c.rank_shuffled.ensures F h r beyond s
    ∙ same c.args.signature (all_terms h) c.args.f c.in-Symbol.a c.args.g c.in-Symbol.is c.if-a-g.true (sym c.is_unordered.ensures ∙ c.if-is_unordered.true)

pub returns-then-a-g : goal.returns-then-a-g
returns-then-a-g c = λ F h r beyond s. same c.args.signature (all_terms h) c.args.f c.in-Symbol.a c.args.g c.in-Symbol.is c.if-a-g.true (sym c.is_unordered.ensures ∙ c.if-is_unordered.false)

pub returns-else-a-g : goal.returns-else-a-g
returns-else-a-g c = λ F h r beyond s. clash c.args.signature (all_terms h) c.args.f c.in-Symbol.a c.args.g c.in-Symbol.is c.if-a-g.false

pub returns-in-Blank : goal.returns-in-Blank
returns-in-Blank c = λ F h r beyond s. ap (λ f. over_by c.args.signature (all_terms h) f c.args.g) (sym c.in-Blank.is)
