-- An equation whose left side is empty or begins with a term variable: what each test says of the first rule.
use Prim.Native.Nat.{ℕ, ◌+◌, ◌<◌}
use mathlib.Core.Path.{◌≡◌, refl, sym, ap, ◌∙◌}
use mathlib.Core.Bool.{Bool, true, false, not, ◌&&◌, ◌||◌, false≢true}
use mathlib.Core.List.{List}
use borrow.Author.Tests.{eq-eqb, ne_eqb}
use lib.Dec.{ltb}
use Rattle.language.specs.Limits.{desk}
use Rattle.language.specs.declared.TermVar.{TermVar}
use Rattle.language.specs.declared.HedgeVar.{HedgeVar}
use Rattle.language.specs.declared.Name.{Name}
use Rattle.language.specs.Kinds.{pick}
use Rattle.language.specs.declared.Signature.{Signature}
use Rattle.language.specs.Trees.{Functor, symbol, fvar, Hedge, ε, tvar, hvar, node, Conj, eq_t, same_words, tv, holds, in_conj}
use Rattle.rules.specs.Looks.{empty, has_term, under}
use Rattle.rules.specs.Places.{at_r1, at_f1, at_f4, at_d2, at_e1, no_rule}
use Rattle.views.specs.declared.Look.TheVariants.{Empty, Term, Run, Node}
use Rattle.views.specs.Looks.{look_of}
use Rattle.counts.specs.Tables.{count_at, Beside}
use Rattle.counts.proofs.Own.{Own, among-others, own-term, own-turned}
use Rattle.equations.specs.Rank.{rank_of}
use Rattle.equations.proofs.Looked.{at-empty, at-term, at-run, at-node}

-- a test that is made only where another holds
pub guard-on : {a b u : Bool} → a ≡ true → b ≡ u → b ≡ (a && u)
guard-on {a} {b} {u} e d = d ∙ sym (ap (λ z. z && u) e)

pub guard-off : {a : Bool} (u : Bool) → a ≡ false → false ≡ (a && u)
guard-off u e = sym (ap (λ z. z && u) e)

-- a term variable that the equation has once stands elsewhere
pub term-elsewhere : {table : List ℕ} {K : Conj} {l r : Hedge} → Beside table K l r → (y : TermVar) → y.0 < desk.each → Own (tv y) l r → {x : ℕ} → x ≡ 1000 + y.0
    → ltb 1 (count_at table x) ≡ in_conj (tv y) K
term-elsewhere b y f o e = among-others (tv y) b f o e

-- ---- the left side is empty

module _ (σ : Signature) (K : Conj) (r : Hedge) where
  pub empty-empty : Empty ≡ look_of r → at_r1 ≡ rank_of σ K ε r
  empty-empty e = at-empty (λ m. at_r1 ≡ rank_of σ K ε m) r e refl

  pub empty-term : {w : TermVar} {lone : Bool} → Term w lone ≡ look_of r → at_f4 ≡ rank_of σ K ε r
  empty-term e = at-term (λ m. at_f4 ≡ rank_of σ K ε m) r e (λ t _. refl)

  pub empty-node : {w : Name} {lone bare : Bool} → Node w lone bare ≡ look_of r → at_f4 ≡ rank_of σ K ε r
  empty-node e = at-node (λ m. at_f4 ≡ rank_of σ K ε m) r e (λ f c t _ _ _. refl)

  pub empty-run : {w : HedgeVar} {lone : Bool} → Run w lone ≡ look_of r → has_term r ≡ true → at_f4 ≡ rank_of σ K ε r
  empty-run e = at-run (λ m. has_term m ≡ true → at_f4 ≡ rank_of σ K ε m) r e (λ t _ h. rw h)

  pub empty_runs : {w : HedgeVar} {lone : Bool} → Run w lone ≡ look_of r → has_term r ≡ false → no_rule ≡ rank_of σ K ε r
  empty_runs e = at-run (λ m. has_term m ≡ false → no_rule ≡ rank_of σ K ε m) r e (λ t _ h. rw h)

-- ---- E1, two variables

-- E1 for two lone variables
abbrev pub variables_rank : Conj → TermVar → TermVar → ℕ
variables_rank K y w = pick (not (eq_t y w) && (in_conj (tv y) K && in_conj (tv w) K)) at_e1 no_rule

-- two lone variables, one of each
pub lone-terms : {table : List ℕ} {K : Conj} (y w : TermVar) (s t : Hedge) → (empty s && empty t) ≡ true → Beside table K (tvar y s) (tvar w t) → Beside table K (tvar y ε) (tvar w ε)
lone-terms y w ε ε e b = b
lone-terms y w ε (tvar x t) e b = absurd (false≢true e)
lone-terms y w ε (hvar x t) e b = absurd (false≢true e)
lone-terms y w ε (node f c t) e b = absurd (false≢true e)
lone-terms y w (tvar x s) t e b = absurd (false≢true e)
lone-terms y w (hvar x s) t e b = absurd (false≢true e)
lone-terms y w (node f c s) t e b = absurd (false≢true e)

pub first-own : (y w : TermVar) → (y.0 ≡ w.0 → ⊥) → Own (tv y) (tvar y ε) (tvar w ε)
first-own y w i = own-term y (tvar w ε) (let d : eq_t y w ≡ false = ne_eqb y.0 w.0 i in rw d)

pub second-own : (y w : TermVar) → (y.0 ≡ w.0 → ⊥) → Own (tv w) (tvar y ε) (tvar w ε)
second-own y w i = own-turned (first-own w y (λ e. i (sym e)))

module _ (K : Conj) (y w : TermVar) where
  pub same-variable : y.0 ≡ w.0 → no_rule ≡ variables_rank K y w
  same-variable q = let i : eq_t y w ≡ true = eq-eqb y.0 w.0 q in rw i

  pub two-variables : (y.0 ≡ w.0 → ⊥) → {b : Bool} → b ≡ (in_conj (tv y) K && in_conj (tv w) K) → pick b at_e1 no_rule ≡ variables_rank K y w
  two-variables q t = let i : eq_t y w ≡ false = ne_eqb y.0 w.0 q in rw (i, t)

-- ---- the left side begins with a variable

own-node : (y : TermVar) (d s t : Hedge) (g : Functor) → (empty s && under (tv y) (node g d t)) ≡ false → (empty s && empty t) ≡ true → Own (tv y) (tvar y s) (node g d t)
own-node y d ε ε g h e = own-term y (node g d ε) (below g h)
  where
    below : (g : Functor) → (holds (tv y) d || false) ≡ false → holds (tv y) (node g d ε) ≡ false
    below (symbol f) h = h
    below (fvar X) h = h
own-node y d ε (tvar x t) g h e = absurd (false≢true e)
own-node y d ε (hvar x t) g h e = absurd (false≢true e)
own-node y d ε (node f c t) g h e = absurd (false≢true e)
own-node y d (tvar x s) t g h e = absurd (false≢true e)
own-node y d (hvar x s) t g h e = absurd (false≢true e)
own-node y d (node f c s) t g h e = absurd (false≢true e)

module _ (σ : Signature) (K : Conj) (y : TermVar) (s : Hedge) where
  pub term-empty : (r : Hedge) → Empty ≡ look_of r → no_rule ≡ rank_of σ K (tvar y s) r
  term-empty r e = at-empty (λ m. no_rule ≡ rank_of σ K (tvar y s) m) r e refl

  pub term-run : (r : Hedge) {w : HedgeVar} {lone : Bool} → Run w lone ≡ look_of r → (empty s && under (tv y) r) ≡ true → at_f1 ≡ rank_of σ K (tvar y s) r
  term-run r e = at-run (λ m. (empty s && under (tv y) m) ≡ true → at_f1 ≡ rank_of σ K (tvar y s) m) r e (λ t _ h. rw h)

  pub term_runs : (r : Hedge) {w : HedgeVar} {lone : Bool} → Run w lone ≡ look_of r → (empty s && under (tv y) r) ≡ false → no_rule ≡ rank_of σ K (tvar y s) r
  term_runs r e = at-run (λ m. (empty s && under (tv y) m) ≡ false → no_rule ≡ rank_of σ K (tvar y s) m) r e (λ t _ h. rw h)

  module _ (w : TermVar) (t : Hedge) where
    pub terms-same : same_words (tvar y s) (tvar w t) ≡ true → at_r1 ≡ rank_of σ K (tvar y s) (tvar w t)
    terms-same e = rw e

    pub terms-hidden : same_words (tvar y s) (tvar w t) ≡ false → (empty s && under (tv y) (tvar w t)) ≡ true → at_f1 ≡ rank_of σ K (tvar y s) (tvar w t)
    terms-hidden e h = rw (e, h)

    pub terms-longer : same_words (tvar y s) (tvar w t) ≡ false → (empty s && under (tv y) (tvar w t)) ≡ false → (empty s && empty t) ≡ false → at_d2 ≡ rank_of σ K (tvar y s) (tvar w t)
    terms-longer e h z = rw (e, h, z)

    pub terms-single : same_words (tvar y s) (tvar w t) ≡ false → (empty s && under (tv y) (tvar w t)) ≡ false → (empty s && empty t) ≡ true
        → {n : ℕ} → n ≡ variables_rank K y w → n ≡ rank_of σ K (tvar y s) (tvar w t)
    terms-single e h z n = rw (e, h, z) n

  module _ (g : Functor) (d t : Hedge) where
    -- x against a functor that has it nowhere
    pub node-own : (empty s && under (tv y) (node g d t)) ≡ false → (empty s && empty t) ≡ true → Own (tv y) (tvar y s) (node g d t)
    node-own = own-node y d s t g

    pub node-hidden : (empty s && under (tv y) (node g d t)) ≡ true → at_f1 ≡ rank_of σ K (tvar y s) (node g d t)
    node-hidden h = rw h

    pub node-longer : (empty s && under (tv y) (node g d t)) ≡ false → (empty s && empty t) ≡ false → at_d2 ≡ rank_of σ K (tvar y s) (node g d t)
    node-longer h z = rw (h, z)

    pub node-single : (empty s && under (tv y) (node g d t)) ≡ false → (empty s && empty t) ≡ true → {b : Bool} → b ≡ in_conj (tv y) K → pick b at_e1 no_rule ≡ rank_of σ K (tvar y s) (node g d t)
    node-single h z e = rw (h, z, e)
