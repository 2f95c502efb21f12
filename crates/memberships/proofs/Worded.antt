-- The tree of decisions by what a membership shows.
use Prim.Native.Nat.{ℕ}
use mathlib.Core.Path.{◌≡◌, refl, sym, subst, ap, ◌∙◌}
use mathlib.Core.Bool.{Bool}
use mathlib.Core.List.{List, ◌++◌}
use Rattle.language.specs.declared.TermVar.{TermVar}
use Rattle.language.specs.declared.HedgeVar.{HedgeVar}
use Rattle.language.specs.declared.Sym.{Sym}
use Rattle.language.specs.declared.Signature.{Signature}
use Rattle.language.specs.declared.Name.{Name}
use Rattle.language.specs.Kinds.{pick}
use Rattle.language.specs.Trees.{Functor, symbol, fvar, Hedge, ε, tvar, hvar, node, Expr, eps, cat, alt, star, over, Conj}
use Rattle.language.specs.Writing.{conj_words}
use Rattle.rules.specs.Looks.{empty, has_term, all_terms}
use Rattle.rules.specs.Expressions.{nullable}
use Rattle.rules.specs.Places.{at_r2, at_f6, at_m2, no_rule}
use Rattle.views.specs.declared.Look.{Look}
use Rattle.views.specs.declared.Look.TheVariants.{Empty, Term, Run, Node}
use Rattle.views.specs.declared.Shape.{Shape}
use Rattle.views.specs.Looks.{name_of, look_of, first_kind}
use Rattle.views.specs.Views.{Shows}
use Rattle.rules.specs.Ranks.{mem_rank}
use Rattle.views.specs.Standing.{Stands}
use Rattle.views.proofs.Sides.{side-stands}
use Rattle.views.proofs.Looks.{is-empty, is-term, is-run, is-node}
use Rattle.expressions.specs.Standing.{Here}
use Rattle.memberships.specs.Rank.{over_rank, term_rank, run_rank, rank_in, child_terms, over_by, single_by, term_by, run_by}
use Rattle.memberships.proofs.Decisions.{rank-law}

module _ (σ : Signature) (terms : Bool) where
  over-law : (F : Functor) (g : Sym) → over_by σ terms (name_of F) g ≡ over_rank σ terms F g
  over-law (symbol f) g = refl
  over-law (fvar X) g = refl

  -- `single` is what is for a single term in g(R)
  term-law : (R : Expr) (look : Look) (single : Sym → ℕ) (last : Bool) → ((g : Sym) → single_by σ terms look g ≡ single g) → term_by σ terms look last (first_kind R) ≡ term_rank single last R
  term-law eps look single last e = refl
  term-law (cat a b) look single last e = refl
  term-law (alt a b) look single last e = refl
  term-law (star a) look single last e = refl
  term-law (over g a) look single last e = ap (λ n. pick last n at_m2) (e g)

run-law : (r : Hedge) (R : Expr) → run_by (first_kind R) (empty r) (has_term r) ≡ run_rank r R
run-law r eps = refl
run-law r (cat a b) = refl
run-law r (alt a b) = refl
run-law r (star a) = refl
run-law r (over g a) = refl

-- a single term in g(R): a variable, and F(H)
module _ (σ : Signature) (g : Sym) where
  pub single-at : (terms : Bool) {look l : Look} → look ≡ l → single_by σ terms l g ≡ single_by σ terms look g
  single-at terms e = ap (λ l. single_by σ terms l g) (sym e)

  pub single-node : {k : List ℕ} {from n : ℕ} {h : Hedge} {beyond : List ℕ} {look : Look} {f : Name} {last bare : Bool} → Stands k from h beyond → look ≡ look_of h → look ≡ Node f last bare
      → ((F : Functor) (c r : Hedge) (beyond : List ℕ) → Stands k from (node F c r) beyond → n ≡ over_by σ (all_terms c) f g) → n ≡ single_by σ (child_terms h) look g
  single-node {k} {from} {n} {h} {beyond} {look} {f} {last} {bare} s l e q =
      let t = is-node h {f = f} {last = last} {bare = bare} (sym l ∙ e) in
      q t.functor t.children t.rest beyond (subst (λ h. Stands k from h beyond) t.whole s)
      ∙ ap (λ b. over_by σ b f g) (sym (ap child_terms t.whole)) ∙ ap (λ l. single_by σ (child_terms h) l g) (sym e)

-- ---- by the look of the hedge

module _ (σ : Signature) {k : List ℕ} {s : Shape} {before : Conj} {h : Hedge} {R : Expr} {behind : Conj} (v : Shows k s before h R behind) where
  standing : Here k s.expr R (conj_words behind)
  standing = record { fine = v.fine; words = v.here }

  ranked : {n : ℕ} (g : Hedge) → h ≡ g → n ≡ rank_in σ g R → n ≡ mem_rank σ (before ++ behind) h R
  ranked g e q = q ∙ sym (rank-law σ (before ++ behind) g R) ∙ ap (λ (h : Hedge). mem_rank σ (before ++ behind) h R) (sym e)

  pub rank-at-empty : {n : ℕ} → s.h.look ≡ Empty → ((R : Expr) (beyond : List ℕ) → Here k s.expr R beyond → n ≡ pick (nullable R) at_r2 at_f6) → n ≡ mem_rank σ (before ++ behind) h R
  rank-at-empty e q = ranked ε (is-empty h (sym v.hedge.look ∙ e)) (q R (conj_words behind) standing)

  -- what is so of every hedge that stands there and looks so is so of this one
  abbrev Begins : Look → Bool → ℕ → Type 0
  Begins look last n = (g : Hedge) (beyond : List ℕ) → Stands k s.h.from g beyond → look ≡ look_of g → n ≡ term_by σ (child_terms g) look last s.first

  begins : {n : ℕ} (look : Look) (last : Bool) (single : Sym → ℕ) → s.h.look ≡ look → ((g : Sym) → single_by σ (child_terms h) look g ≡ single g) → Begins look last n → n ≡ term_rank single last R
  begins look last single e o q =
      q h v.hedge.beyond (side-stands v.hedge) (sym e ∙ v.hedge.look) ∙ ap (term_by σ (child_terms h) look last) v.first ∙ term-law σ (child_terms h) R look single last o

  pub rank-at-term : {n : ℕ} {x : TermVar} {last : Bool} → s.h.look ≡ Term x last → Begins (Term x last) last n → n ≡ mem_rank σ (before ++ behind) h R
  rank-at-term {n} {x} {last} e q =
      let t = is-term h {last = last} (sym v.hedge.look ∙ e) in
      ranked (tvar x t.rest) t.whole (begins (Term x last) last (λ g. no_rule) e (λ g. refl) q ∙ ap (λ b. term_rank (λ g. no_rule) b R) t.last)

  pub rank-at-run : {n : ℕ} {p : HedgeVar} {last : Bool} → s.h.look ≡ Run p last → ((h : Hedge) (beyond : List ℕ) → Stands k s.h.from h beyond → n ≡ run_by s.first last (has_term h))
      → n ≡ mem_rank σ (before ++ behind) h R
  rank-at-run {n} {p} {last} e q =
      let t = is-run h {last = last} (sym v.hedge.look ∙ e) in
      ranked (hvar p t.rest) t.whole
      (q h v.hedge.beyond (side-stands v.hedge) ∙ ap (λ (h : Hedge). run_by s.first last (has_term h)) t.whole ∙ ap (λ x. run_by x last (has_term t.rest)) v.first
      ∙ ap (λ b. run_by (first_kind R) b (has_term t.rest)) t.last ∙ run-law t.rest R)

  pub rank-at-node : {n : ℕ} {f : Name} {last bare : Bool} → s.h.look ≡ Node f last bare → Begins (Node f last bare) last n → n ≡ mem_rank σ (before ++ behind) h R
  rank-at-node {n} {f} {last} {bare} e q =
      let t = is-node h {last = last} {bare = bare} (sym v.hedge.look ∙ e) in
      ranked (node t.functor t.children t.rest) t.whole
      (begins (Node f last bare) last (over_rank σ (all_terms t.children) t.functor) e
      (λ g. ap (λ f. over_by σ (child_terms h) f g) t.name ∙ over-law σ (child_terms h) t.functor g ∙ ap (λ b. over_rank σ b t.functor g) (ap child_terms t.whole)) q
      ∙ ap (λ b. term_rank (over_rank σ (all_terms t.children) t.functor) b R) t.last)
