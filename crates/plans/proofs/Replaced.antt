-- The words of a tree with a substitution put in are its words with words replaced, for every substitution that does to each word what the replacing does.
use mathlib.Core.Path.{◌≡◌, refl, sym, ap, ◌∙◌}
use mathlib.Core.Bool.{Bool, true, false, ◌||◌, or-false}
use mathlib.Core.List.{List, [], ◌∷◌, ◌++◌, append_assoc}
use mathlib.Core.Logic.{◌⊎◌, inl, inr}
use Prim.Native.Nat.{ℕ, ◌+◌, ◌<◌, ◌≤◌}
use native.Mathlib.Omega.{arith}
use lib.Dec.{eqb, eqb_refl, T}
use lib.ListN.{get_or}
use lib.Seq.{slice}
use borrow.Author.Tests.{eq-eqb, ne_eqb}
use Rattle.language.specs.declared.TermVar.{TermVar}
use Rattle.language.specs.declared.HedgeVar.{HedgeVar}
use Rattle.language.specs.declared.FunVar.{FunVar}
use Rattle.language.specs.declared.Sym.{Sym}
use Rattle.language.specs.Limits.{desk}
use Rattle.language.specs.Kinds.{pick}
use Rattle.language.specs.Trees.{Functor, symbol, fvar, Hedge, ε, tvar, hvar, node, Expr, eps, cat, alt, star, over, Literal, eqn, mem, Conj, eq_x, hv, holds}
use Rattle.language.specs.Writing.{functor_word, hedge_words, expr_words, literal_words, conj_words}
use Rattle.language.specs.Fine.{fine_functor, fine_hedge, fine_expr, fine_literal, fine_conj}
use Rattle.rules.specs.Substitution.{Subst, keep_t, keep_h, set_t, set_h, set_f, emptied, put, put_f, put_l, put_c}
use Rattle.rules.specs.Looks.{all_runs}
use Rattle.views.specs.Looks.{body_words}
use Rattle.plans.specs.declared.Recipe.{Recipe}
use Rattle.plans.specs.Results.{replaced, changed}
use Rattle.words.specs.Spans.{member}
use Rattle.orders.specs.Orders.{renamed}
use Rattle.views.proofs.Words.{words-join}
use Rattle.views.proofs.Members.{both-or, eqb-base, member-body}

pub replaced-append : (old new a b : List ℕ) → replaced old new (a ++ b) ≡ replaced old new a ++ replaced old new b
replaced-append old new [] b = refl
replaced-append old new (x ∷ a) b =
    ap (λ t. pick (member x old) new (x ∷ []) ++ t) (replaced-append old new a b)
    ∙ sym (append_assoc (pick (member x old) new (x ∷ [])) (replaced old new a) (replaced old new b))

-- the substitution s is: the words `new` for each of the words `old`
pub record Acts (s : Subst) (old new : List ℕ) : Type 0 where
  pub term : (x : TermVar) → x.0 < desk.each → pick (member (1000 + x.0) old) new ((1000 + x.0) ∷ []) ≡ body_words (s.term x)
  pub hedge : (p : HedgeVar) → p.0 < desk.each → pick (member (2000 + p.0) old) new ((2000 + p.0) ∷ []) ≡ body_words (s.hedge p)
  pub functor : (X : FunVar) → X.0 < desk.each → pick (member (4000 + X.0) old) new ((4000 + X.0) ∷ []) ≡ functor_word (s.functor X) ∷ []
  -- and no other word is replaced
  pub low : (x : ℕ) → x < 1000 → member x old ≡ false
  pub middle : (x : ℕ) → 3000 ≤ x → x < 4000 → member x old ≡ false
  pub high : (x : ℕ) → 5000 ≤ x → member x old ≡ false

module _ {s : Subst} {old new : List ℕ} (a : Acts s old new) where
  kept : (x : ℕ) (ws : List ℕ) {vs : List ℕ} → member x old ≡ false → replaced old new ws ≡ vs → replaced old new (x ∷ ws) ≡ x ∷ vs
  kept x ws e d = ap (λ b. pick b new (x ∷ []) ++ replaced old new ws) e ∙ ap (λ t. x ∷ t) d

  one : (x : ℕ) (ws : List ℕ) {os vs : List ℕ} → pick (member x old) new (x ∷ []) ≡ os → replaced old new ws ≡ vs → replaced old new (x ∷ ws) ≡ os ++ vs
  one x ws {os} {vs} e d = ap (λ t. t ++ replaced old new ws) e ∙ ap (λ t. os ++ t) d

  two : (ws xs : List ℕ) {vs ys : List ℕ} → replaced old new ws ≡ vs → replaced old new xs ≡ ys → replaced old new (ws ++ xs) ≡ vs ++ ys
  two ws xs {vs} {ys} e d = replaced-append old new ws xs ∙ ap (λ t. t ++ replaced old new xs) e ∙ ap (λ t. vs ++ t) d

  pub replaced-functor : (f : Functor) → fine_functor desk f → pick (member (functor_word f) old) new (functor_word f ∷ []) ≡ functor_word (put_f s f) ∷ []
  replaced-functor (symbol f) h = ap (λ b. pick b new ((3000 + f.0) ∷ [])) (a.middle (3000 + f.0) (omega arith) (omega arith))
  replaced-functor (fvar X) h = a.functor X h

  pub replaced-hedge : (h : Hedge) → fine_hedge desk h → replaced old new (hedge_words h) ≡ hedge_words (put s h)
  replaced-hedge ε f = kept 0 [] (a.low 0 (omega arith)) refl
  replaced-hedge (tvar x r) f = one (1000 + x.0) (hedge_words r) (a.term x f.0) (replaced-hedge r f.1) ∙ sym (words-join (s.term x) (put s r))
  replaced-hedge (hvar p r) f = one (2000 + p.0) (hedge_words r) (a.hedge p f.0) (replaced-hedge r f.1) ∙ sym (words-join (s.hedge p) (put s r))
  replaced-hedge (node g c r) f =
      one (functor_word g) (hedge_words c ++ hedge_words r) (replaced-functor g f.0) (two (hedge_words c) (hedge_words r) (replaced-hedge c f.1) (replaced-hedge r f.2))

  pub replaced-expr : (R : Expr) → fine_expr desk R → replaced old new (expr_words R) ≡ expr_words R
  replaced-expr eps f = kept 7000 [] (a.high 7000 (omega arith)) refl
  replaced-expr (cat b d) f = kept 7001 (expr_words b ++ expr_words d) (a.high 7001 (omega arith)) (two (expr_words b) (expr_words d) (replaced-expr b f.0) (replaced-expr d f.1))
  replaced-expr (alt b d) f = kept 7002 (expr_words b ++ expr_words d) (a.high 7002 (omega arith)) (two (expr_words b) (expr_words d) (replaced-expr b f.0) (replaced-expr d f.1))
  replaced-expr (star b) f = kept 7003 (expr_words b) (a.high 7003 (omega arith)) (replaced-expr b f)
  replaced-expr (over g b) f = kept (3000 + g.0) (expr_words b) (a.middle (3000 + g.0) (omega arith) (omega arith)) (replaced-expr b f.1)

  pub replaced-literal : (l : Literal) → fine_literal desk l → replaced old new (literal_words l) ≡ literal_words (put_l s l)
  replaced-literal (eqn l r) f = kept 5000 (hedge_words l ++ hedge_words r) (a.high 5000 (omega arith)) (two (hedge_words l) (hedge_words r) (replaced-hedge l f.0) (replaced-hedge r f.1))
  replaced-literal (mem h R) f = kept 6000 (hedge_words h ++ expr_words R) (a.high 6000 (omega arith)) (two (hedge_words h) (expr_words R) (replaced-hedge h f.0) (replaced-expr R f.1))

  pub replaced-conj : (k : Conj) → fine_conj desk k → replaced old new (conj_words k) ≡ conj_words (put_c s k)
  replaced-conj [] f = refl
  replaced-conj (l ∷ k) f = two (literal_words l) (conj_words k) (replaced-literal l f.0) (replaced-conj k f.1)

-- ---- the substitutions of the rules

-- one word replaced
alone : (w x : ℕ) {b : Bool} → eqb w x ≡ b → member x (w ∷ []) ≡ b
alone w x {b} e = ap (λ c. c || false) e ∙ or-false b

not_there : (w x : ℕ) → (w ≡ x → ⊥) → member x (w ∷ []) ≡ false
not_there w x e = alone w x (ne_eqb w x e)

keep : (w : ℕ) (new : List ℕ) (x : ℕ) → (w ≡ x → ⊥) → pick (member x (w ∷ [])) new (x ∷ []) ≡ x ∷ []
keep w new x e = ap (λ b. pick b new (x ∷ [])) (not_there w x e)

-- x ↦ t
pub acts-term : (x : TermVar) (t : Hedge) → x.0 < desk.each → Acts (set_t x t) ((1000 + x.0) ∷ []) (body_words t)
acts-term x t f = record {
  term = λ y g. ap (λ b. pick b (body_words t) ((1000 + y.0) ∷ [])) (alone (1000 + x.0) (1000 + y.0) (eqb-base 1000 x.0 y.0)) ∙ chosen (eqb x.0 y.0) y;
  hedge = λ p g. keep (1000 + x.0) (body_words t) (2000 + p.0) (omega arith);
  functor = λ X g. keep (1000 + x.0) (body_words t) (4000 + X.0) (omega arith);
  low = λ y g. not_there (1000 + x.0) y (omega arith);
  middle = λ y g h. not_there (1000 + x.0) y (omega arith);
  high = λ y g. not_there (1000 + x.0) y (omega arith);
}
  where
    chosen : (b : Bool) (y : TermVar) → pick b (body_words t) ((1000 + y.0) ∷ []) ≡ body_words (pick b t (keep_t y))
    chosen true y = refl
    chosen false y = refl

-- p ↦ h
pub acts-hedge : (p : HedgeVar) (h : Hedge) → p.0 < desk.each → Acts (set_h p h) ((2000 + p.0) ∷ []) (body_words h)
acts-hedge p h f = record {
  term = λ x g. keep (2000 + p.0) (body_words h) (1000 + x.0) (omega arith);
  hedge = λ q g. ap (λ b. pick b (body_words h) ((2000 + q.0) ∷ [])) (alone (2000 + p.0) (2000 + q.0) (eqb-base 2000 p.0 q.0)) ∙ chosen (eqb p.0 q.0) q;
  functor = λ X g. keep (2000 + p.0) (body_words h) (4000 + X.0) (omega arith);
  low = λ y g. not_there (2000 + p.0) y (omega arith);
  middle = λ y g e. not_there (2000 + p.0) y (omega arith);
  high = λ y g. not_there (2000 + p.0) y (omega arith);
}
  where
    chosen : (b : Bool) (q : HedgeVar) → pick b (body_words h) ((2000 + q.0) ∷ []) ≡ body_words (pick b h (keep_h q))
    chosen true q = refl
    chosen false q = refl

-- X ↦ F
pub acts-functor : (X : FunVar) (F : Functor) → X.0 < desk.each → Acts (set_f X F) ((4000 + X.0) ∷ []) (functor_word F ∷ [])
acts-functor X F f = record {
  term = λ x g. keep (4000 + X.0) (functor_word F ∷ []) (1000 + x.0) (omega arith);
  hedge = λ p g. keep (4000 + X.0) (functor_word F ∷ []) (2000 + p.0) (omega arith);
  functor = λ Y g. ap (λ b. pick b (functor_word F ∷ []) ((4000 + Y.0) ∷ [])) (alone (4000 + X.0) (4000 + Y.0) (eqb-base 4000 X.0 Y.0)) ∙ chosen (eqb X.0 Y.0) Y;
  low = λ y g. not_there (4000 + X.0) y (omega arith);
  middle = λ y g e. not_there (4000 + X.0) y (omega arith);
  high = λ y g. not_there (4000 + X.0) y (omega arith);
}
  where
    chosen : (b : Bool) (Y : FunVar) → pick b (functor_word F ∷ []) ((4000 + Y.0) ∷ []) ≡ functor_word (pick b F (fvar Y)) ∷ []
    chosen true Y = refl
    chosen false Y = refl

-- p ↦ ε for each p of a hedge of hedge variables: the words before its 0
none-there : (h : Hedge) → fine_hedge desk h → all_runs h ≡ true → (x : ℕ) → (x < 2000) ⊎ (3000 ≤ x) → member x (body_words h) ≡ false
none-there ε f a x o = refl
none-there (tvar y r) f a x o = absurd (let z : ◌≡◌ {A = ℕ} 0 1 = cc in omega arith)
none-there (hvar p r) f a x (inl o) = both-or (ne_eqb (2000 + p.0) x (omega arith)) (none-there r f.1 a x (inl o))
none-there (hvar p r) f a x (inr o) = both-or (ne_eqb (2000 + p.0) x (omega arith)) (none-there r f.1 a x (inr o))
none-there (node g c r) f a x o = absurd (let z : ◌≡◌ {A = ℕ} 0 1 = cc in omega arith)

pub acts-emptied : (h : Hedge) → fine_hedge desk h → all_runs h ≡ true → Acts (emptied h) (body_words h) []
acts-emptied h f a = record {
  term = λ x g. ap (λ b. pick b [] ((1000 + x.0) ∷ [])) (none-there h f a (1000 + x.0) (inl (omega arith)));
  hedge = λ p g. ap (λ b. pick b [] ((2000 + p.0) ∷ [])) (member-body (hv p) g h f) ∙ chosen (holds (hv p) h) p;
  functor = λ X g. ap (λ b. pick b [] ((4000 + X.0) ∷ [])) (none-there h f a (4000 + X.0) (inr (omega arith)));
  low = λ y g. none-there h f a y (inl (omega arith));
  middle = λ y g e. none-there h f a y (inr (omega arith));
  high = λ y g. none-there h f a y (inr (omega arith));
}
  where
    chosen : (b : Bool) (p : HedgeVar) → pick b [] ((2000 + p.0) ∷ []) ≡ body_words (pick b ε (keep_h p))
    chosen true p = refl
    chosen false p = refl

-- X ↦ F makes X to F
pub set_self : (X : FunVar) (F : Functor) → (set_f X F).functor X ≡ F
set_self X F = go (eq_x X X) (eqb_refl X.0)
  where
    go : (b : Bool) → T b → pick b F (fvar X) ≡ F
    go true t = refl
    go false t = absurd t

-- ---- a part under the substitution of a recipe

module _ {s : Subst} {us rs : List ℕ} (a : Acts s us rs) (k : List ℕ) (r : Recipe) (cut : ℕ) (eu : slice r.old r.until k ≡ us) (er : slice r.new cut k ≡ rs) where
  put-words : (ws : List ℕ) → changed k r cut ws ≡ replaced us rs ws
  unfolding changed
  put-words ws = ap (λ u. replaced u (slice r.new cut k) ws) eu ∙ ap (λ n. replaced us n ws) er

  pub put-conj : (f t : ℕ) (c : Conj) → fine_conj desk c → slice f t k ≡ conj_words c → changed k r cut (slice f t k) ≡ conj_words (put_c s c)
  put-conj f t c fine e = put-words (slice f t k) ∙ ap (replaced us rs) e ∙ replaced-conj a c fine

  pub put-hedge : (f t : ℕ) (h : Hedge) → fine_hedge desk h → slice f t k ≡ hedge_words h → changed k r cut (slice f t k) ≡ hedge_words (put s h)
  put-hedge f t h fine e = put-words (slice f t k) ∙ ap (replaced us rs) e ∙ replaced-hedge a h fine

-- ---- a part with a symbol for a function variable

renamed-is : (old new : ℕ) (ws : List ℕ) → renamed old new ws ≡ replaced (old ∷ []) (new ∷ []) ws
renamed-is old new [] = refl
renamed-is old new (x ∷ ws) = one_word (eqb old x) ∙ ap (λ t. pick (eqb old x || false) (new ∷ []) (x ∷ []) ++ t) (renamed-is old new ws)
  where
    one_word : (b : Bool) → pick b new x ∷ renamed old new ws ≡ pick (b || false) (new ∷ []) (x ∷ []) ++ renamed old new ws
    one_word true = refl
    one_word false = refl

module _ (X : FunVar) (g : Sym) (fine : X.0 < desk.each) (k : List ℕ) (at : ℕ) (e : get_or k at 0 ≡ 4000 + X.0) where
  named : (ws : List ℕ) → renamed (get_or k at 0) (3000 + g.0) ws ≡ replaced ((4000 + X.0) ∷ []) ((3000 + g.0) ∷ []) ws
  named ws = ap (λ x. renamed x (3000 + g.0) ws) e ∙ renamed-is (4000 + X.0) (3000 + g.0) ws

  pub name-conj : (f t : ℕ) (c : Conj) → fine_conj desk c → slice f t k ≡ conj_words c → renamed (get_or k at 0) (3000 + g.0) (slice f t k) ≡ conj_words (put_c (set_f X (symbol g)) c)
  name-conj f t c h d = named (slice f t k) ∙ ap (replaced ((4000 + X.0) ∷ []) ((3000 + g.0) ∷ [])) d ∙ replaced-conj (acts-functor X (symbol g) fine) c h

  pub name-hedge : (f t : ℕ) (h : Hedge) → fine_hedge desk h → slice f t k ≡ hedge_words h → renamed (get_or k at 0) (3000 + g.0) (slice f t k) ≡ hedge_words (put (set_f X (symbol g)) h)
  name-hedge f t h i d = named (slice f t k) ∙ ap (replaced ((4000 + X.0) ∷ []) ((3000 + g.0) ∷ [])) d ∙ replaced-hedge (acts-functor X (symbol g) fine) h i

  -- the variable's own word
  pub name-self : pick (eqb (get_or k at 0) (4000 + X.0)) (3000 + g.0) (4000 + X.0) ≡ 3000 + g.0
  name-self = ap (λ b. pick b (3000 + g.0) (4000 + X.0)) (eq-eqb (get_or k at 0) (4000 + X.0) e)
