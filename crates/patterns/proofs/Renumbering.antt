-- Patterns whose blanks are numbered anew: their words, and fillings of two patterns that are kept apart: two make one, and one is two.
use Prim.Native.Nat.{ℕ, ◌+◌, ◌-◌, ◌≤◌}
use mathlib.Core.Path.{◌≡◌, refl, sym, ap, ap₂, ◌∙◌}
use mathlib.Core.Bool.{true}
use mathlib.Core.List.{List, [], ◌∷◌, ◌++◌, map}
use native.Mathlib.Omega.{arith}
use native.Mathlib.Nat.{zero-add}
use borrow.Author.Tests.{lt-ltb, le-ltb}
use lib.Dec.{ltb}
use lib.ListN.{length, get_or}
use Rattle.language.specs.declared.Kind.{Kind}
use Rattle.language.specs.declared.Kind.TheVariants.{End, Term, Run, Symbol, Function}
use Rattle.language.specs.Limits.{desk}
use Rattle.language.specs.Kinds.{pick, kind_of}
use Rattle.language.specs.Trees.{Functor, symbol, fvar, Hedge, ε, tvar, hvar, node, Counts}
use Rattle.language.specs.Writing.{functor_word, hedge_words}
use Rattle.language.specs.Fine.{fine_functor, fine_hedge}
use Rattle.language.proofs.Words.{kind-end, kind-term, kind-run, kind-symbol, kind-function}
use Rattle.meaning.specs.Complete.{tree, ◌·◌}
use Rattle.meaning.specs.Meaning.{Filling, fill_f, fill}
use Rattle.patterns.specs.Blanks.{among, before, Blanks, counted, nothing, numbered_on, numbered_by}
use Rattle.patterns.specs.Renamed.{renamed_f, renamed}
use Rattle.patterns.proofs.Noting.{there, found_back, AmongOn, AllIn, all-parts}

pub map-parts : (f : ℕ → ℕ) (us vs : List ℕ) → map f (us ++ vs) ≡ map f us ++ map f vs
map-parts f [] vs = refl
map-parts f (u ∷ us) vs = ap (λ l. f u ∷ l) (map-parts f us vs)

module _ (n : Counts) (b : Blanks) where
  -- ---- their words

  on-kind : (w : ℕ) (k : Kind) → kind_of desk w ≡ k → numbered_on n b w k ≡ numbered_by n b w
  unfolding numbered_by
  on-kind w k e = ap (numbered_on n b w) (sym e)

  functor-word : (f : Functor) → fine_functor desk f → functor_word (renamed_f n b f) ≡ numbered_by n b (functor_word f)
  functor-word (symbol f) i = on-kind (3000 + f.0) (Symbol f) (kind-symbol desk f i)
  functor-word (fvar X) i = on-kind (4000 + X.0) (Function X) (kind-function desk X i)

  pub renamed-words : (h : Hedge) → fine_hedge desk h → hedge_words (renamed n b h) ≡ map (numbered_by n b) (hedge_words h)
  renamed-words ε i = ap (λ w. w ∷ []) (on-kind 0 End (kind-end desk))
  renamed-words (tvar x r) i = ap₂ (λ w (l : List ℕ). w ∷ l) (on-kind (1000 + x.0) (Term x) (kind-term desk x i.0)) (renamed-words r i.1)
  renamed-words (hvar p r) i = ap₂ (λ w (l : List ℕ). w ∷ l) (on-kind (2000 + p.0) (Run p) (kind-run desk p i.0)) (renamed-words r i.1)
  renamed-words (node f c r) i =
      ap₂ (λ w (l : List ℕ). w ∷ l) (functor-word f i.0) (ap₂ (λ (u v : List ℕ). u ++ v) (renamed-words c i.1) (renamed-words r i.2) ∙ sym (map-parts (numbered_by n b) (hedge_words c) (hedge_words r)))

  -- ---- every blank of a tree is one of those that are numbered

  abbrev pub HeldF : Functor → Type 0
  HeldF (symbol f) = Unit {0}
  HeldF (fvar X) = among X.0 b.functions ≡ true

  abbrev pub Held : Hedge → Type 0
  Held ε = Unit {0}
  Held (tvar x r) = (among x.0 b.terms ≡ true) × Held r
  Held (hvar p r) = (among p.0 b.hedges ≡ true) × Held r
  Held (node f c r) = HeldF f × Held c × Held r

  as-kind : (w : ℕ) (k : Kind) → kind_of desk w ≡ k → AmongOn b (kind_of desk w) → AmongOn b k
  as-kind w k e a = rw e at a

  held-functor : (f : Functor) → fine_functor desk f → AmongOn b (kind_of desk (functor_word f)) → HeldF f
  held-functor (symbol f) i a = tt
  held-functor (fvar X) i a = as-kind (4000 + X.0) (Function X) (kind-function desk X i) a

  pub held : (h : Hedge) → fine_hedge desk h → AllIn b (hedge_words h) → Held h
  held ε i a = tt
  held (tvar x r) i a = (as-kind (1000 + x.0) (Term x) (kind-term desk x i.0) a.0, held r i.1 a.1)
  held (hvar p r) i a = (as-kind (2000 + p.0) (Run p) (kind-run desk p i.0) a.0, held r i.1 a.1)
  held (node f c r) i a =
      let (u, v) = all-parts b (hedge_words c) (hedge_words r) a.1 in
      (held-functor f i.0 a.0, held c i.1 u, held r i.2 v)

  -- ---- so it is declared where as many are, and fine where these are not too many

  module _ (m : Counts) (t : n.terms + length b.terms ≤ m.terms) (h : n.hedges + length b.hedges ≤ m.hedges) (f : n.functions + length b.functions ≤ m.functions)
      (et : m.terms ≤ desk.each) (eh : m.hedges ≤ desk.each) (ef : m.functions ≤ desk.each) where
    fine-functor : (g : Functor) → fine_functor desk g → HeldF g → fine_functor desk (renamed_f n b g)
    fine-functor (symbol g) i a = i
    fine-functor (fvar X) i a = let z = (there X.0 b.functions a).1 in omega arith

    pub renamed-fine : (k : Hedge) → fine_hedge desk k → Held k → fine_hedge desk (renamed n b k)
    renamed-fine ε i a = tt
    renamed-fine (tvar x r) i a = let z = (there x.0 b.terms a.0).1 in (omega arith, renamed-fine r i.1 a.1)
    renamed-fine (hvar p r) i a = let z = (there p.0 b.hedges a.0).1 in (omega arith, renamed-fine r i.1 a.1)
    renamed-fine (node g c r) i a = (fine-functor g i.0 a.0, renamed-fine c i.1 a.1, renamed-fine r i.2 a.2)

  -- ---- a filling of the renamed pattern is one of the pattern

  abbrev pub back : Filling → Filling
  back ρ = record {
    root = λ x. ρ.root (record { 0 = n.terms + before x.0 b.terms });
    children = λ x. ρ.children (record { 0 = n.terms + before x.0 b.terms });
    run = λ p. ρ.run (record { 0 = n.hedges + before p.0 b.hedges });
    name = λ X. ρ.name (record { 0 = n.functions + before X.0 b.functions });
  }

  back-functor : (ρ : Filling) (f : Functor) → fill_f (back ρ) f ≡ fill_f ρ (renamed_f n b f)
  back-functor ρ (symbol f) = refl
  back-functor ρ (fvar X) = refl

  pub back-fills : (ρ : Filling) (h : Hedge) → fill (back ρ) h ≡ fill ρ (renamed n b h)
  back-fills ρ ε = refl
  back-fills ρ (tvar x r) = ap (tree ((back ρ).root x) ((back ρ).children x)) (back-fills ρ r)
  back-fills ρ (hvar p r) = ap (λ k. (back ρ).run p · k) (back-fills ρ r)
  back-fills ρ (node f c r) = rw (back-functor ρ f, back-fills ρ c, back-fills ρ r)

-- ---- fillings of both, as one: a number below the first's count is the first's, and else the second's

abbrev pub joint : Blanks → Blanks → Filling → Filling → Filling
joint a b σ τ = record {
  root = λ x. pick (ltb x.0 (length a.terms)) (σ.root (record { 0 = get_or a.terms x.0 0 })) (τ.root (record { 0 = get_or b.terms (x.0 - length a.terms) 0 }));
  children = λ x. pick (ltb x.0 (length a.terms)) (σ.children (record { 0 = get_or a.terms x.0 0 })) (τ.children (record { 0 = get_or b.terms (x.0 - length a.terms) 0 }));
  run = λ p. pick (ltb p.0 (length a.hedges)) (σ.run (record { 0 = get_or a.hedges p.0 0 })) (τ.run (record { 0 = get_or b.hedges (p.0 - length a.hedges) 0 }));
  name = λ X. pick (ltb X.0 (length a.functions)) (σ.name (record { 0 = get_or a.functions X.0 0 })) (τ.name (record { 0 = get_or b.functions (X.0 - length a.functions) 0 }));
}

-- of numbers xs of the first and ys of the second, what stands for x
module _ {A : Type 0} (f g : ℕ → A) (xs ys : List ℕ) (x : ℕ) where
  abbrev at : ℕ → A
  at i = pick (ltb i (length xs)) (f (get_or xs i 0)) (g (get_or ys (i - length xs) 0))

  pub at_first : among x xs ≡ true → at (0 + before x xs) ≡ f x
  at_first e =
      let z = (there x xs e).1 in
      ap at (zero-add (before x xs)) ∙ ap (λ t. pick t (f (get_or xs (before x xs) 0)) (g (get_or ys (before x xs - length xs) 0))) (lt-ltb (before x xs) (length xs) z) ∙ ap f (found_back x xs e)

  pub at_second : among x ys ≡ true → at (length xs + before x ys) ≡ g x
  at_second e =
      ap (λ t. pick t (f (get_or xs (length xs + before x ys) 0)) (g (get_or ys (length xs + before x ys - length xs) 0))) (le-ltb (length xs + before x ys) (length xs) (omega arith))
      ∙ ap (λ i. g (get_or ys i 0)) (let z : length xs + before x ys - length xs ≡ before x ys = omega arith in z) ∙ ap g (found_back x ys e)

module _ (word : ℕ) (a b : Blanks) (σ τ : Filling) where
  abbrev both : Filling
  both = joint a b σ τ

  first-functor : (f : Functor) → HeldF nothing a f → fill_f both (renamed_f nothing a f) ≡ fill_f σ f
  first-functor (symbol f) i = refl
  first-functor (fvar X) i = at_first (λ x. σ.name (record { 0 = x })) (λ x. τ.name (record { 0 = x })) a.functions b.functions X.0 i

  pub joint-first : (h : Hedge) → Held nothing a h → fill both (renamed nothing a h) ≡ fill σ h
  joint-first ε i = refl
  joint-first (tvar x r) i =
      rw (at_first (λ x. σ.root (record { 0 = x })) (λ x. τ.root (record { 0 = x })) a.terms b.terms x.0 i.0, at_first (λ x. σ.children (record { 0 = x })) (λ x. τ.children (record { 0 = x })) a.terms b.terms x.0 i.0, joint-first r i.1)
  joint-first (hvar p r) i = rw (at_first (λ x. σ.run (record { 0 = x })) (λ x. τ.run (record { 0 = x })) a.hedges b.hedges p.0 i.0, joint-first r i.1)
  joint-first (node f c r) i = rw (first-functor f i.0, joint-first c i.1, joint-first r i.2)

  second-functor : (f : Functor) → HeldF (counted word a) b f → fill_f both (renamed_f (counted word a) b f) ≡ fill_f τ f
  second-functor (symbol f) i = refl
  second-functor (fvar X) i = at_second (λ x. σ.name (record { 0 = x })) (λ x. τ.name (record { 0 = x })) a.functions b.functions X.0 i

  pub joint-second : (h : Hedge) → Held (counted word a) b h → fill both (renamed (counted word a) b h) ≡ fill τ h
  joint-second ε i = refl
  joint-second (tvar x r) i =
      rw (at_second (λ x. σ.root (record { 0 = x })) (λ x. τ.root (record { 0 = x })) a.terms b.terms x.0 i.0, at_second (λ x. σ.children (record { 0 = x })) (λ x. τ.children (record { 0 = x })) a.terms b.terms x.0 i.0, joint-second r i.1)
  joint-second (hvar p r) i = rw (at_second (λ x. σ.run (record { 0 = x })) (λ x. τ.run (record { 0 = x })) a.hedges b.hedges p.0 i.0, joint-second r i.1)
  joint-second (node f c r) i = rw (second-functor f i.0, joint-second c i.1, joint-second r i.2)
