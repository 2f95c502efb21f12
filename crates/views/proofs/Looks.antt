-- How a hedge that stands at a place begins, told by its words there.
use mathlib.Core.Path.{◌≡◌, refl, sym, ap, ◌∙◌}
use mathlib.Core.Bool.{Bool}
use mathlib.Core.List.{List, [], ◌∷◌, ◌++◌, append_assoc}
use Prim.Native.Nat.{ℕ, ◌+◌, ◌<◌}
use native.Mathlib.Omega.{arith}
use lib.Dec.{eqb}
use lib.ListN.{length, get_or, drop}
use borrow.Author.Tests.{ne_eqb}
use Rattle.language.specs.declared.TermVar.{TermVar}
use Rattle.language.specs.declared.HedgeVar.{HedgeVar}
use Rattle.language.specs.declared.Name.{Name}
use Rattle.language.specs.declared.Name.TheVariants.{Symbol, Blank}
use Rattle.language.specs.declared.Kind.{Kind}
use Rattle.language.specs.declared.Kind.TheVariants as kind
use Rattle.language.proofs.Arms.{Among, each-kind}
use Rattle.language.specs.Limits.{desk}
use Rattle.language.specs.Kinds.{kind_of}
use Rattle.language.specs.Trees.{Functor, symbol, fvar, Hedge, ε, tvar, hvar, node}
use Rattle.language.specs.Writing.{functor_word, hedge_words}
use Rattle.language.specs.Fine.{fine_hedge}
use Rattle.language.proofs.Words.{kind-end, kind-term, kind-run, kind-symbol, kind-function}
use Rattle.rules.specs.Looks.{empty}
use Rattle.views.specs.Looks.{name_of, look_of, head, tail, body_words}
use Rattle.words.specs.Spans.{span, element_end}
use Rattle.views.specs.Views.{Sided}
use Rattle.views.specs.declared.Look.{Look}
use Rattle.views.specs.declared.Look.TheVariants.{Empty, Term, Run, Node}
use Rattle.views.specs.declared.Side.{Side}
use Rattle.views.specs.Standing.{Stands}
use Rattle.views.specs.Places.{look_by, look_at, side_at}
use Rattle.words.proofs.Parts.{drop_of, below-of-word}
use Rattle.views.proofs.Words.{first_word}
use Rattle.views.proofs.Spans.{functor-some, stands_word, stands-rest, stands-place, stands-end}

pub empty-word : (h : Hedge) → eqb (first_word h) 0 ≡ empty h
empty-word ε = refl
empty-word (tvar x r) = ne_eqb (1000 + x.0) 0 (omega arith)
empty-word (hvar p r) = ne_eqb (2000 + p.0) 0 (omega arith)
empty-word (node f c r) = ne_eqb (functor_word f) 0 (functor-some f)

-- the children of a functor stand after it
pub stands-children : {k : List ℕ} {i : ℕ} {f : Functor} {c r : Hedge} {beyond : List ℕ} → Stands k i (node f c r) beyond → Stands k (i + 1) c (hedge_words r ++ beyond)
stands-children {k} {i} {f} {c} {r} {beyond} s = record {
  fine = s.fine.1;
  here = drop_of k i (i + 1) (functor_word f ∷ []) ((hedge_words c ++ hedge_words r) ++ beyond) s.here refl ∙ append_assoc (hedge_words c) (hedge_words r) beyond;
}

-- ---- the look at a place where h stands is how h begins

-- by the first word: its kind, whether the hedge ends after its first element, and whether that has no children
look-by : (h : Hedge) → fine_hedge desk h → (bare : Bool) → ((f : Functor) (c r : Hedge) → h ≡ node f c r → bare ≡ empty c) → look_by (kind_of desk (first_word h)) (empty (tail h)) bare ≡ look_of h
look-by ε b bare e = ap (λ k. look_by k (empty (tail ε)) bare) (kind-end desk)
look-by (tvar x r) b bare e = ap (λ k. look_by k (empty r) bare) (kind-term desk x b.0)
look-by (hvar p r) b bare e = ap (λ k. look_by k (empty r) bare) (kind-run desk p b.0)
look-by (node (symbol g) c r) b bare e = ap (λ k. look_by k (empty r) bare) (kind-symbol desk g b.0) ∙ ap (Node (Symbol g) (empty r)) (e (symbol g) c r refl)
look-by (node (fvar X) c r) b bare e = ap (λ k. look_by k (empty r) bare) (kind-function desk X b.0) ∙ ap (Node (Blank X) (empty r)) (e (fvar X) c r refl)

pub look-law : {k : List ℕ} {i : ℕ} (h : Hedge) {beyond : List ℕ} {j : ℕ} → Stands k i h beyond → j ≡ i + length (body_words (head h)) → look_at k i j ≡ look_of h
unfolding look_at
look-law {k} {i} h {beyond} {j} s d =
    ap (λ w. look_by (kind_of desk w) (eqb (get_or k j 0) 0) (eqb (get_or k (i + 1) 0) 0)) (stands_word s)
    ∙ ap (λ b. look_by (kind_of desk (first_word h)) b (eqb (get_or k (i + 1) 0) 0)) (ap (λ n. eqb n 0) (stands_word (stands-rest s d)) ∙ empty-word (tail h))
    ∙ look-by h s.fine (eqb (get_or k (i + 1) 0) 0) (λ f c r e. ap (λ n. eqb n 0) (stands_word (stands-children (rw e at s))) ∙ empty-word c)

-- ---- the look at a place by the kind of the word there

module _ (k : List ℕ) (i j : ℕ) where
  -- what is the look at the place is how h begins, where h stands there
  pub looked : {r : Look} → r ≡ look_at k i j → ((h : Hedge) (beyond : List ℕ) → Stands k i h beyond → j ≡ i + length (body_words (head h)) → r ≡ look_of h) × (r ≡ look_at k i j)
  looked e = ((λ h beyond s d. e ∙ look-law h s d), e)

  module _ {x : ℕ} {d : Kind} (w : x ≡ get_or k i 0) (q : d ≡ kind_of desk x) where
    pub look-kind : (v : Kind) → d ≡ v → look_by v (eqb (get_or k j 0) 0) (eqb (get_or k (i + 1) 0) 0) ≡ look_at k i j
    unfolding look_at
    look-kind v e = ap (λ v. look_by v (eqb (get_or k j 0) 0) (eqb (get_or k (i + 1) 0) 0)) (sym e ∙ q ∙ ap (kind_of desk) w)

    pub look-term : (x : TermVar) {y : ℕ} → d ≡ kind.Term x → y ≡ get_or k j 0 → Term x (eqb y 0) ≡ look_at k i j
    look-term x e u = ap (λ y. Term x (eqb y 0)) u ∙ look-kind (kind.Term x) e

    pub look-run : (p : HedgeVar) {y : ℕ} → d ≡ kind.Run p → y ≡ get_or k j 0 → Run p (eqb y 0) ≡ look_at k i j
    look-run p e u = ap (λ y. Run p (eqb y 0)) u ∙ look-kind (kind.Run p) e

    pub look-other : Among (0 ∷ 5 ∷ 6 ∷ 7 ∷ 8 ∷ 9 ∷ 10 ∷ 11 ∷ []) d → Empty ≡ look_at k i j
    look-other o =
        each-kind (0 ∷ 5 ∷ 6 ∷ 7 ∷ 8 ∷ 9 ∷ 10 ∷ 11 ∷ []) (λ v. Empty ≡ look_by v (eqb (get_or k j 0) 0) (eqb (get_or k (i + 1) 0) 0)) refl tt tt tt tt refl refl refl refl refl refl refl d o
        ∙ look-kind d refl

    -- a word that is something stands within the words
    pub look-within : (v : Kind) → d ≡ v → (v ≡ kind.End → ⊥) → i < length k
    look-within v e n = below-of-word k i (λ z. n (sym e ∙ q ∙ ap (kind_of desk) (w ∙ z) ∙ kind-end desk))

-- a side, from what the walk finds at its place
pub side-is : (k : List ℕ) (i : ℕ) {r t : ℕ} {l : Look} → r ≡ element_end k i → t ≡ i + span 1 (drop i k) → l ≡ look_at k i r → record { from = i; rest = r; to = t; look = l } ≡ side_at k i
unfolding side_at
side-is k i {r} {t} {l} e d g = ap (λ m. side r t m) g ∙ ap (λ n. side r n (look_at k i r)) d ∙ ap (λ n. side n (i + span 1 (drop i k)) (look_at k i n)) e
  where
    side : ℕ → ℕ → Look → Side
    side r t l = record { from = i; rest = r; to = t; look = l }

pub side-of : {k : List ℕ} {v : Side} {h : Hedge} {beyond : List ℕ} → Stands k v.from h beyond → v.rest ≡ element_end k v.from → v.to ≡ v.from + span 1 (drop v.from k) → v.look ≡ look_of h → Sided k v h
side-of {k} {v} {h} {beyond} s r t l = record { fine = s.fine; beyond = beyond; here = s.here; rest = r ∙ stands-place s; to = t ∙ stands-end s; look = l }

-- ---- what a look says of the hedge

pub is-empty : (h : Hedge) → look_of h ≡ Empty → h ≡ ε
is-empty ε e = refl
is-empty (tvar x r) e = absurd (let y : ◌≡◌ {A = ℕ} 0 1 = cc in omega arith)
is-empty (hvar p r) e = absurd (let y : ◌≡◌ {A = ℕ} 0 1 = cc in omega arith)
is-empty (node f c r) e = absurd (let y : ◌≡◌ {A = ℕ} 0 1 = cc in omega arith)

pub record IsTerm (h : Hedge) (x : TermVar) (l : Bool) : Type 0 where
  pub rest : Hedge
  pub whole : h ≡ tvar x rest
  pub last : l ≡ empty rest

pub is-term : (h : Hedge) {x : TermVar} {last : Bool} → look_of h ≡ Term x last → IsTerm h x last
is-term ε e = absurd (let y : ◌≡◌ {A = ℕ} 0 1 = cc in omega arith)
is-term (tvar x r) e = record { rest = r; whole = cc; last = cc }
is-term (hvar p r) e = absurd (let y : ◌≡◌ {A = ℕ} 0 1 = cc in omega arith)
is-term (node f c r) e = absurd (let y : ◌≡◌ {A = ℕ} 0 1 = cc in omega arith)

pub record IsRun (h : Hedge) (p : HedgeVar) (l : Bool) : Type 0 where
  pub rest : Hedge
  pub whole : h ≡ hvar p rest
  pub last : l ≡ empty rest

pub is-run : (h : Hedge) {p : HedgeVar} {last : Bool} → look_of h ≡ Run p last → IsRun h p last
is-run ε e = absurd (let y : ◌≡◌ {A = ℕ} 0 1 = cc in omega arith)
is-run (tvar x r) e = absurd (let y : ◌≡◌ {A = ℕ} 0 1 = cc in omega arith)
is-run (hvar p r) e = record { rest = r; whole = cc; last = cc }
is-run (node f c r) e = absurd (let y : ◌≡◌ {A = ℕ} 0 1 = cc in omega arith)

pub record IsNode (h : Hedge) (f : Name) (l b : Bool) : Type 0 where
  pub functor : Functor
  pub children : Hedge
  pub rest : Hedge
  pub whole : h ≡ node functor children rest
  pub name : f ≡ name_of functor
  pub last : l ≡ empty rest
  pub bare : b ≡ empty children

pub is-node : (h : Hedge) {f : Name} {last bare : Bool} → look_of h ≡ Node f last bare → IsNode h f last bare
is-node ε e = absurd (let y : ◌≡◌ {A = ℕ} 0 1 = cc in omega arith)
is-node (tvar x r) e = absurd (let y : ◌≡◌ {A = ℕ} 0 1 = cc in omega arith)
is-node (hvar p r) e = absurd (let y : ◌≡◌ {A = ℕ} 0 1 = cc in omega arith)
is-node (node f c r) e = record { functor = f; children = c; rest = r; whole = refl; name = cc; last = cc; bare = cc }
