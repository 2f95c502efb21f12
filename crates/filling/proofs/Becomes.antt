-- What the words of a tree become are the words of the tree filled in.
use Prim.Native.Nat.{ℕ, ◌+◌}
use mathlib.Core.Path.{◌≡◌, refl, sym, ap, ◌∙◌}
use mathlib.Core.Bool.{true, ◌&&◌}
use mathlib.Core.List.{List, [], ◌∷◌, ◌++◌, append_assoc, append-nil}
use native.Mathlib.Omega.{arith}
use borrow.Author.Tests.{ltb-true}
use lib.ListN.{get_or, take}
use Rattle.language.specs.declared.Kind.{Kind}
use Rattle.language.specs.declared.Kind.TheVariants.{End, Term, Run, Symbol, Function, Eps, Cat, Alt, Star}
use Rattle.language.specs.Limits.{desk}
use Rattle.language.specs.Kinds.{kind_of}
use Rattle.language.specs.Trees.{Functor, symbol, fvar, Hedge, ε, tvar, hvar, node, Expr, eps, cat, alt, star, over, Counts}
use Rattle.language.specs.Writing.{functor_word, hedge_words, expr_words}
use Rattle.language.specs.Fine.{fine_functor, fine_hedge, fine_expr}
use Rattle.language.specs.Question.{declared_f, declared}
use Rattle.language.proofs.Words.{kind-end, kind-term, kind-run, kind-symbol, kind-function, kind-eps, kind-cat, kind-alt, kind-star}
use Rattle.language.proofs.Bools.{both_true}
use Rattle.meaning.specs.Complete.{Complete, nil, tree, ◌·◌, complete_words}
use Rattle.meaning.specs.Meaning.{Filling, fill_f, fill}
use Rattle.meaning.specs.Values.{a_term, a_name, fits, root_of, children_of, filling}
use Rattle.filling.specs.Showing.{word_on, filled}
use Rattle.filling.proofs.Values.{Values, top_words, body-words, name-words}

-- two in a row
pub words-in-row : (g k : Complete) → complete_words (g · k) ≡ top_words g ++ complete_words k
words-in-row nil k = refl
words-in-row (tree f c r) k = ap (λ l. (3000 + f.0) ∷ (complete_words c ++ l)) (words-in-row r k) ∙ ap (λ l. (3000 + f.0) ∷ l) (sym (append_assoc (complete_words c) (top_words r) (complete_words k)))

-- one term alone
term_words : (g : Complete) → fits a_term g ≡ true → (k : Complete) → top_words g ++ complete_words k ≡ complete_words (tree (root_of g) (children_of g) k)
term_words nil e k = absurd (let z : ◌≡◌ {A = ℕ} 0 1 = cc in omega arith)
term_words (tree f c nil) e k = ap (λ l. (3000 + f.0) ∷ (l ++ complete_words k)) (append-nil (complete_words c))
term_words (tree f c (tree g d r)) e k = absurd (let z : ◌≡◌ {A = ℕ} 0 1 = cc in omega arith)

-- one name
first-word : (g : Complete) → fits a_name g ≡ true → take 1 (complete_words g) ≡ (3000 + (root_of g).0) ∷ []
first-word nil e = absurd (let z : ◌≡◌ {A = ℕ} 0 1 = cc in omega arith)
first-word (tree f c r) e = refl

module _ (t h : ℕ) (fs : List ℕ) where
  pub filled-append : (us vs : List ℕ) → filled t h fs (us ++ vs) ≡ filled t h fs us ++ filled t h fs vs
  unfolding filled
  filled-append [] vs = refl
  filled-append (u ∷ us) vs = ap (λ l. word_on t h fs u (kind_of desk u) ++ l) (filled-append us vs) ∙ sym (append_assoc (word_on t h fs u (kind_of desk u)) (filled t h fs us) (filled t h fs vs))

  -- a word of a kind
  pub filled-word : (w : ℕ) (k : Kind) (ws us : List ℕ) → kind_of desk w ≡ k → filled t h fs ws ≡ us → filled t h fs (w ∷ ws) ≡ word_on t h fs w k ++ us
  unfolding filled
  filled-word w k ws us e f = ap (λ k. word_on t h fs w k ++ filled t h fs ws) e ∙ ap (λ l. word_on t h fs w k ++ l) f

  pub filled-parts : (us vs us' vs' : List ℕ) → filled t h fs us ≡ us' → filled t h fs vs ≡ vs' → filled t h fs (us ++ vs) ≡ us' ++ vs'
  filled-parts us vs us' vs' e f = filled-append us vs ∙ ap (λ l. l ++ filled t h fs vs) e ∙ ap (λ l. us' ++ l) f

  none : filled t h fs [] ≡ []
  unfolding filled
  none = refl

  -- an expression has no variables
  pub expr-becomes : (R : Expr) → fine_expr desk R → filled t h fs (expr_words R) ≡ expr_words R
  expr-becomes eps i = filled-word 7000 Eps [] [] (kind-eps desk) none
  expr-becomes (cat a b) i = filled-word 7001 Cat _ _ (kind-cat desk) (filled-parts (expr_words a) (expr_words b) _ _ (expr-becomes a i.0) (expr-becomes b i.1))
  expr-becomes (alt a b) i = filled-word 7002 Alt _ _ (kind-alt desk) (filled-parts (expr_words a) (expr_words b) _ _ (expr-becomes a i.0) (expr-becomes b i.1))
  expr-becomes (star a) i = filled-word 7003 Star _ _ (kind-star desk) (expr-becomes a i)
  expr-becomes (over f a) i = filled-word _ (Symbol f) _ _ (kind-symbol desk f i.0) (expr-becomes a i.1)

module _ {n : Counts} {fs : List ℕ} {vs : List Complete} (v : Values n fs vs) where
  abbrev becomes : List ℕ → List ℕ
  becomes = filled n.terms n.hedges fs

  abbrev ρ : Filling
  ρ = filling n vs

  functor-becomes : (f : Functor) (ws us : List ℕ) → fine_functor desk f → declared_f n f ≡ true → becomes ws ≡ us → becomes (functor_word f ∷ ws) ≡ (3000 + (fill_f ρ f).0) ∷ us
  functor-becomes (symbol f) ws us i d e = filled-word n.terms n.hedges fs _ (Symbol f) ws us (kind-symbol desk f i) e
  functor-becomes (fvar X) ws us i d e =
      let lt = ltb-true X.0 n.functions d in
      let it = v.each (n.terms + n.hedges + X.0) (omega arith) in
      filled-word n.terms n.hedges fs _ (Function X) ws us (kind-function desk X i) e
      ∙ ap (λ l. l ++ us) (name-words it ∙ first-word (get_or vs (n.terms + n.hedges + X.0) nil) (v.a-name _ (omega arith) (omega arith)))

  pub hedge-becomes : (h : Hedge) → fine_hedge desk h → declared n h ≡ true → becomes (hedge_words h) ≡ complete_words (fill ρ h)
  hedge-becomes ε i d = filled-word n.terms n.hedges fs 0 End [] [] (kind-end desk) (none n.terms n.hedges fs)
  hedge-becomes (tvar x r) i d =
      let (dx, dr) = both_true _ (declared n r) d in
      let lt = ltb-true x.0 n.terms dx in
      filled-word n.terms n.hedges fs _ (Term x) _ _ (kind-term desk x i.0) (hedge-becomes r i.1 dr)
      ∙ ap (λ l. l ++ complete_words (fill ρ r)) (body-words (v.each x.0 (omega arith)))
      ∙ term_words (get_or vs x.0 nil) (v.a-term x.0 lt) (fill ρ r)
  hedge-becomes (hvar p r) i d =
      let (dp, dr) = both_true _ (declared n r) d in
      let lt = ltb-true p.0 n.hedges dp in
      filled-word n.terms n.hedges fs _ (Run p) _ _ (kind-run desk p i.0) (hedge-becomes r i.1 dr)
      ∙ ap (λ l. l ++ complete_words (fill ρ r)) (body-words (v.each (n.terms + p.0) (omega arith)))
      ∙ sym (words-in-row (get_or vs (n.terms + p.0) nil) (fill ρ r))
  hedge-becomes (node f c r) i d =
      let (dfc, dr) = both_true (declared_f n f && declared n c) (declared n r) d in
      let (df, dc) = both_true (declared_f n f) (declared n c) dfc in
      functor-becomes f _ _ i.0 df (filled-parts n.terms n.hedges fs (hedge_words c) (hedge_words r) _ _ (hedge-becomes c i.1 dc) (hedge-becomes r i.2 dr))
