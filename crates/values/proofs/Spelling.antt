-- Each word of a hedge becomes its part of the words of the hedge filled in.
use Prim.Native.Nat.{ℕ, ◌+◌, ◌<◌}
use mathlib.Core.Path.{◌≡◌, refl, sym, subst, ap, ◌∙◌}
use mathlib.Core.List.{List, [], ◌∷◌, ◌++◌, append_assoc, append-nil}
use Rattle.language.specs.declared.TermVar.{TermVar}
use Rattle.language.specs.declared.HedgeVar.{HedgeVar}
use Rattle.language.specs.declared.FunVar.{FunVar}
use Rattle.language.specs.declared.Sym.{Sym}
use Rattle.language.specs.declared.Kind.{Kind}
use Rattle.language.specs.declared.Kind.TheVariants.{Term, Run}
use Rattle.language.specs.Kinds.{kind_of}
use Rattle.language.proofs.Words.{Is, term, run, is, kind-end, kind-term, kind-run, kind-symbol, kind-function}
use Rattle.values.specs.declared.Variable.TheVariants as one
use Rattle.language.specs.Limits.{desk}
use Rattle.language.specs.Trees.{Functor, symbol, fvar, Hedge, ε, tvar, hvar, node, tv, hv, fv}
use Rattle.language.specs.Writing.{functor_word, hedge_words}
use Rattle.language.specs.Fine.{fine_functor, fine_hedge}
use Rattle.meaning.specs.Complete.{nil, tree, complete_words}
use Rattle.meaning.specs.Meaning.{fill_f, fill}
use Rattle.meaning.specs.Values.{root_of, children_of}
use Rattle.rules.specs.Example.{Values, of}
use Rattle.samples.specs.Bodies.{body}
use Rattle.samples.proofs.Bodies.{words_row}
use Rattle.values.specs.Lines.{Named}
use Rattle.values.specs.Spelling.{becomes_by, becomes, spelled, HedgeWord, ends, varies, names, HedgeWords}

-- ---- one word, by its kind

module _ (x : ℕ) {j : Kind} (e : j ≡ kind_of desk x) where
  pub becomes-as : (β : Values) {i : Kind} → j ≡ i → becomes_by β x i ≡ becomes β x
  unfolding becomes
  becomes-as β g = ap (becomes_by β x) (sym g ∙ e)

  kind-is : {i : Kind} → j ≡ i → Is desk x i
  kind-is g = subst (Is desk x) (sym e ∙ g) (is desk x)

  pub named-term : (y : TermVar) → j ≡ Term y → Named (tv y) (one.Term y)
  named-term y g = record { fine = go (kind-is g); is = refl }
    where
      go : Is desk x (Term y) → y.0 < desk.each
      go (term y b f) = b

  pub named-run : (p : HedgeVar) → j ≡ Run p → Named (hv p) (one.Run p)
  named-run p g = record { fine = go (kind-is g); is = refl }
    where
      go : Is desk x (Run p) → p.0 < desk.each
      go (run p b f) = b

module _ (β : Values) where
  becomes-end : becomes β 0 ≡ 0 ∷ []
  unfolding becomes
  becomes-end = ap (becomes_by β 0) (kind-end desk)

  becomes-term : (y : TermVar) → y.0 < desk.each → becomes β (1000 + y.0) ≡ body (β (tv y))
  unfolding becomes
  becomes-term y i = ap (becomes_by β (1000 + y.0)) (kind-term desk y i)

  becomes-run : (p : HedgeVar) → p.0 < desk.each → becomes β (2000 + p.0) ≡ body (β (hv p))
  unfolding becomes
  becomes-run p i = ap (becomes_by β (2000 + p.0)) (kind-run desk p i)

  becomes-symbol : (f : Sym) → f.0 < desk.each → becomes β (3000 + f.0) ≡ (3000 + f.0) ∷ []
  unfolding becomes
  becomes-symbol f i = ap (becomes_by β (3000 + f.0)) (kind-symbol desk f i)

  becomes-name : (X : FunVar) → X.0 < desk.each → becomes β (4000 + X.0) ≡ (3000 + (root_of (β (fv X))).0) ∷ []
  unfolding becomes
  becomes-name X i = ap (becomes_by β (4000 + X.0)) (kind-function desk X i)

-- ---- hedges

spelled-row : (f : ℕ → List ℕ) (us vs : List ℕ) → spelled f (us ++ vs) ≡ spelled f us ++ spelled f vs
spelled-row f [] vs = refl
spelled-row f (x ∷ us) vs = ap (λ l. f x ++ l) (spelled-row f us vs) ∙ sym (append_assoc (f x) (spelled f us) (spelled f vs))

words-row-of : (us vs : List ℕ) → HedgeWords us → HedgeWords vs → HedgeWords (us ++ vs)
words-row-of [] vs f g = g
words-row-of (x ∷ us) vs f g = (f.0, words-row-of us vs f.1 g)

functor-word : (F : Functor) → fine_functor desk F → HedgeWord (functor_word F)
functor-word (symbol f) l = names f.0 l refl
functor-word (fvar X) l = varies (fv X) (record { fine = l; is = refl })

pub hedge-words : (h : Hedge) → fine_hedge desk h → HedgeWords (hedge_words h)
hedge-words ε f = (ends refl, tt)
hedge-words (tvar x r) f = (varies (tv x) (record { fine = f.0; is = refl }), hedge-words r f.1)
hedge-words (hvar p r) f = (varies (hv p) (record { fine = f.0; is = refl }), hedge-words r f.1)
hedge-words (node F c r) f = (functor-word F f.0, words-row-of (hedge_words c) (hedge_words r) (hedge-words c f.1) (hedge-words r f.2))

module _ (β : Values) (single : (x : TermVar) → β (tv x) ≡ tree (root_of (β (tv x))) (children_of (β (tv x))) nil) where
  functor-becomes : (F : Functor) → fine_functor desk F → becomes β (functor_word F) ≡ (3000 + (fill_f (of β) F).0) ∷ []
  functor-becomes (symbol f) l = becomes-symbol β f l
  functor-becomes (fvar X) l = becomes-name β X l

  pub filled-words : (h : Hedge) → fine_hedge desk h → complete_words (fill (of β) h) ≡ spelled (becomes β) (hedge_words h)
  filled-words ε f = sym (ap (λ l. l ++ []) (becomes-end β))
  filled-words (tvar x r) f =
      ap (λ l. (3000 + (root_of (β (tv x))).0) ∷ (complete_words (children_of (β (tv x))) ++ l)) (filled-words r f.1)
      ∙ ap (λ l. (3000 + (root_of (β (tv x))).0) ∷ (l ++ spelled (becomes β) (hedge_words r))) (sym (append-nil (complete_words (children_of (β (tv x))))))
      ∙ ap (λ l. l ++ spelled (becomes β) (hedge_words r)) (sym (becomes-term β x f.0 ∙ ap body (single x)))
  filled-words (hvar p r) f =
      words_row (β (hv p)) (fill (of β) r)
      ∙ ap (λ l. body (β (hv p)) ++ l) (filled-words r f.1)
      ∙ ap (λ l. l ++ spelled (becomes β) (hedge_words r)) (sym (becomes-run β p f.0))
  filled-words (node F c r) f =
      ap (λ l. (3000 + (fill_f (of β) F).0) ∷ (l ++ complete_words (fill (of β) r))) (filled-words c f.1)
      ∙ ap (λ l. (3000 + (fill_f (of β) F).0) ∷ (spelled (becomes β) (hedge_words c) ++ l)) (filled-words r f.2)
      ∙ ap (λ l. (3000 + (fill_f (of β) F).0) ∷ l) (sym (spelled-row (becomes β) (hedge_words c) (hedge_words r)))
      ∙ ap (λ l. l ++ spelled (becomes β) (hedge_words c ++ hedge_words r)) (sym (functor-becomes F f.0))
