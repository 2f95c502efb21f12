-- Single terms by their functors: what each test says of the first rule.
use Prim.Native.Nat.{ℕ, ◌+◌, ◌<◌}
use mathlib.Core.Path.{◌≡◌, refl, sym, ap, ◌∙◌}
use mathlib.Core.Bool.{Bool, true, false, not, ◌&&◌, and-true, false≢true}
use mathlib.Core.List.{List}
use borrow.Author.Tests.{eq-eqb, ne_eqb}
use lib.Dec.{ltb}
use Rattle.language.specs.declared.FunVar.{FunVar}
use Rattle.language.specs.declared.Sym.{Sym}
use Rattle.language.specs.declared.Signature.{Signature}
use Rattle.language.specs.declared.Name.TheVariants.{Symbol, Blank}
use Rattle.language.specs.Limits.{desk}
use Rattle.language.specs.Kinds.{pick}
use Rattle.language.specs.Trees.{Functor, symbol, fvar, Hedge, ε, tvar, hvar, node, Conj, is_unordered, any_unordered, eq_s, eq_x, eq_f, fv, in_conj}
use Rattle.language.specs.Fine.{fine_functor}
use Rattle.rules.specs.Looks.{empty, all_terms}
use Rattle.rules.specs.Elements.{struck}
use Rattle.rules.specs.Solved.{is_some}
use Rattle.rules.specs.Places.{at_f3, at_del2, at_d1, at_d0, at_e5, at_e6, at_e7, no_rule}
use Rattle.views.specs.Looks.{name_of}
use Rattle.views.proofs.Members.{eqb-sym}
use Rattle.counts.specs.Tables.{count_at, Beside}
use Rattle.counts.proofs.Own.{Own, among-others, own-blank, own-turned}
use Rattle.equations.specs.Rank.{shuffled, functors}
use Rattle.equations.specs.Ranked.{blanks_in}
use Rattle.equations.proofs.Looked.{at_symbol, at-blank}

-- a test's other answer
pub not-true : {b : Bool} → not b ≡ true → b ≡ false
not-true {b = true} e = sym e
not-true {b = false} e = refl

pub not-false : {b : Bool} → not b ≡ false → b ≡ true
not-false {b = true} e = refl
not-false {b = false} e = sym e

-- a function variable that the equation has once stands elsewhere
pub blank-elsewhere : {table : List ℕ} {K : Conj} {l r : Hedge} → Beside table K l r → (X : FunVar) → X.0 < desk.each → Own (fv X) l r → {x : ℕ} → x ≡ 4000 + X.0
    → ltb 1 (count_at table x) ≡ in_conj (fv X) K
blank-elsewhere b X f o e = among-others (fv X) b f o e

-- X() = F(), X not F: each is there once
pub left-own : (X : FunVar) (G : Functor) → eq_f (fvar X) G ≡ false → Own (fv X) (node (fvar X) ε ε) (node G ε ε)
left-own X (symbol g) e = own-blank X (node (symbol g) ε ε) refl
left-own X (fvar Y) e = own-blank X (node (fvar Y) ε ε) (rw e)

pub right-own : (X Y : FunVar) (G : Functor) → Blank Y ≡ name_of G → eq_f (fvar X) G ≡ false → Own (fv Y) (node (fvar X) ε ε) (node G ε ε)
right-own X Y G d = at-blank (λ G. eq_f (fvar X) G ≡ false → Own (fv Y) (node (fvar X) ε ε) (node G ε ε)) G d
    (λ e. own-turned (own-blank Y (node (fvar X) ε ε) (let i : eq_x Y X ≡ false = eqb-sym Y.0 X.0 ∙ e in rw i)))

-- without children
pub bare-blanks : {table : List ℕ} {K : Conj} (F G : Functor) (c d : Hedge) → (empty c && empty d) ≡ true → Beside table K (node F c ε) (node G d ε) → Beside table K (node F ε ε) (node G ε ε)
bare-blanks F G ε ε e b = b
bare-blanks F G ε (tvar x d) e b = absurd (false≢true e)
bare-blanks F G ε (hvar x d) e b = absurd (false≢true e)
bare-blanks F G ε (node f c d) e b = absurd (false≢true e)
bare-blanks F G (tvar x c) d e b = absurd (false≢true e)
bare-blanks F G (hvar x c) d e b = absurd (false≢true e)
bare-blanks F G (node f c' c) d e b = absurd (false≢true e)

-- the functor on the left is a variable
pub blank-functors : {table : List ℕ} (σ : Signature) (K : Conj) (F G : Functor) (c d : Hedge) {X : FunVar} {n : ℕ} → Blank X ≡ name_of F → Beside table K (node F c ε) (node G d ε) → fine_functor desk F
    → (Beside table K (node (fvar X) c ε) (node G d ε) → X.0 < desk.each → n ≡ functors σ K (fvar X) c G d) → n ≡ functors σ K F c G d
blank-functors {table} σ K F G c d {X} {n} e b f h = at-blank (λ F. Beside table K (node F c ε) (node G d ε) → fine_functor desk F → n ≡ functors σ K F c G d) F e h b f

-- single terms
pub lone-nodes : {table : List ℕ} {K : Conj} (F G : Functor) (c d s t : Hedge) → (empty s && empty t) ≡ true → Beside table K (node F c s) (node G d t) → Beside table K (node F c ε) (node G d ε)
lone-nodes F G c d ε ε e b = b
lone-nodes F G c d ε (tvar x t) e b = absurd (false≢true e)
lone-nodes F G c d ε (hvar x t) e b = absurd (false≢true e)
lone-nodes F G c d ε (node f c' t) e b = absurd (false≢true e)
lone-nodes F G c d (tvar x s) t e b = absurd (false≢true e)
lone-nodes F G c d (hvar x s) t e b = absurd (false≢true e)
lone-nodes F G c d (node f c' s) t e b = absurd (false≢true e)

-- ---- E5's test

pub not-elsewhere : (K : Conj) (X : FunVar) (G : Functor) → in_conj (fv X) K ≡ false → false ≡ blanks_in (fvar X) G K
not-elsewhere K X G e = rw e

pub symbol-elsewhere : (K : Conj) (X : FunVar) (G : Functor) {h : Sym} → in_conj (fv X) K ≡ true → Symbol h ≡ name_of G → true ≡ blanks_in (fvar X) G K
symbol-elsewhere K X G e d = at_symbol (λ G. true ≡ blanks_in (fvar X) G K) G d (rw e)

pub blank-too : (K : Conj) (X Y : FunVar) (G : Functor) (b : Bool) → in_conj (fv X) K ≡ true → Blank Y ≡ name_of G → fine_functor desk G → (Y.0 < desk.each → b ≡ in_conj (fv Y) K) → b ≡ blanks_in (fvar X) G K
blank-too K X Y G b e d fine i = at-blank (λ G. fine_functor desk G → b ≡ blanks_in (fvar X) G K) G d (λ f. rw e (i f)) fine

-- ---- the children of an unordered symbol

module _ (c d : Hedge) where
  pub children-shared : is_some (struck c d) ≡ true → at_del2 ≡ shuffled c d
  children-shared e = rw e

  pub children-terms : is_some (struck c d) ≡ false → all_terms d ≡ true → at_d1 ≡ shuffled c d
  children-terms e t = rw (e, t)

  pub children-rest : is_some (struck c d) ≡ false → all_terms d ≡ false → no_rule ≡ shuffled c d
  children-rest e t = rw (e, t)

-- ---- the ranks

module _ (σ : Signature) (K : Conj) (c d : Hedge) where
  pub symbol-blank : (f : Sym) (G : Functor) {Y : FunVar} → Blank Y ≡ name_of G → no_rule ≡ functors σ K (symbol f) c G d
  symbol-blank f G e = at-blank (λ G. no_rule ≡ functors σ K (symbol f) c G d) G e refl

  pub same-unordered : (f h : Sym) (G : Functor) → Symbol h ≡ name_of G → f.0 ≡ h.0 → is_unordered σ f ≡ true → {n : ℕ} → n ≡ shuffled c d → n ≡ functors σ K (symbol f) c G d
  same-unordered f h G e i u {n} r = at_symbol (λ G. n ≡ functors σ K (symbol f) c G d) G e (let z : eq_s f h ≡ true = eq-eqb f.0 h.0 i in rw (z, u) r)

  pub same-symbol : (f h : Sym) (G : Functor) → Symbol h ≡ name_of G → f.0 ≡ h.0 → is_unordered σ f ≡ false → at_d0 ≡ functors σ K (symbol f) c G d
  same-symbol f h G e i u = at_symbol (λ G. at_d0 ≡ functors σ K (symbol f) c G d) G e (let z : eq_s f h ≡ true = eq-eqb f.0 h.0 i in rw (z, u))

  pub symbols-clash : (f h : Sym) (G : Functor) → Symbol h ≡ name_of G → (f.0 ≡ h.0 → ⊥) → at_f3 ≡ functors σ K (symbol f) c G d
  symbols-clash f h G e i = at_symbol (λ G. at_f3 ≡ functors σ K (symbol f) c G d) G e (let z : eq_s f h ≡ false = ne_eqb f.0 h.0 i in rw z)

  -- the same function variable, and another functor
  abbrev same : ℕ
  same = pick (any_unordered σ) at_e7 at_d0

  abbrev other : Functor → FunVar → ℕ
  other G X = pick (empty c && empty d) (pick (blanks_in (fvar X) G K) at_e5 no_rule) at_e6

  blank-rank : (X : FunVar) (G : Functor) → functors σ K (fvar X) c G d ≡ pick (eq_f (fvar X) G) same (other G X)
  blank-rank X (symbol h) = ap (λ b. pick (empty c && empty d) (pick b at_e5 no_rule) at_e6) (sym (and-true (in_conj (fv X) K)))
  blank-rank X (fvar Y) = refl

  module _ (X : FunVar) (G : Functor) where
    blank-by : {b : Bool} → eq_f (fvar X) G ≡ b → functors σ K (fvar X) c G d ≡ pick b same (other G X)
    blank-by e = blank-rank X G ∙ ap (λ b. pick b same (other G X)) e

    pub blank-every : eq_f (fvar X) G ≡ true → any_unordered σ ≡ true → at_e7 ≡ functors σ K (fvar X) c G d
    blank-every e u = sym (blank-by e ∙ ap (λ b. pick b at_e7 at_d0) u)

    pub blank-same : eq_f (fvar X) G ≡ true → any_unordered σ ≡ false → at_d0 ≡ functors σ K (fvar X) c G d
    blank-same e u = sym (blank-by e ∙ ap (λ b. pick b at_e7 at_d0) u)

    pub blank-over : eq_f (fvar X) G ≡ false → (empty c && empty d) ≡ false → at_e6 ≡ functors σ K (fvar X) c G d
    blank-over e b = sym (blank-by e ∙ ap (λ b. pick b (pick (blanks_in (fvar X) G K) at_e5 no_rule) at_e6) b)

    pub blank-bare : eq_f (fvar X) G ≡ false → (empty c && empty d) ≡ true → (t : Bool) → t ≡ blanks_in (fvar X) G K → pick t at_e5 no_rule ≡ functors σ K (fvar X) c G d
    blank-bare e b t i = ap (λ t. pick t at_e5 no_rule) i ∙ sym (blank-by e ∙ ap (λ b. pick b (pick (blanks_in (fvar X) G K) at_e5 no_rule) at_e6) b)
