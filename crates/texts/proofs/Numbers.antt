-- Numbering: other names, one for each, give the same question; a question that is numbered in order stays as it is; and what the
-- numbering gives is in order.
use Prim.Native.Nat.{ℕ, ◌<◌}
use mathlib.Core.Path.{◌≡◌, refl, ap, ap₂, ◌∙◌}
use mathlib.Core.List.{List, [], ◌∷◌, map}
use mathlib.Core.Option.{some}
use lib.Dec.{eqb}
use lib.ListN.{length}
use Rattle.language.specs.Trees.{Functor, symbol, fvar, Hedge, ε, tvar, hvar, node, Expr, eps, cat, alt, star, over, Literal, eqn, mem, Conj}
use Rattle.texts.specs.Numbering.{Class, symbols, terms, hedges, functions, at_s, at_t, at_h, at_x, at_f, in_hedge, in_expr, in_literal, in_conj, in_all, Naming, name_f, name_hedge, name_expr, name_literal, name_conj, name_all, place, entered, table, numbered, in_order}
use Rattle.texts.proofs.Tables.{All, entered-other, place_other, place-up_to, in_order_lem, numbers-in-order}

-- ---- the names of a tree under other names

module _ (ρ : Naming) where
  map-S : (c : Class) (n : ℕ) (k : List ℕ) → at_s c (ρ symbols n) (map (ρ c) k) ≡ map (ρ c) (at_s c n k)
  map-S symbols n k = refl
  map-S terms n k = refl
  map-S hedges n k = refl
  map-S functions n k = refl

  map-T : (c : Class) (n : ℕ) (k : List ℕ) → at_t c (ρ terms n) (map (ρ c) k) ≡ map (ρ c) (at_t c n k)
  map-T symbols n k = refl
  map-T terms n k = refl
  map-T hedges n k = refl
  map-T functions n k = refl

  map-H : (c : Class) (n : ℕ) (k : List ℕ) → at_h c (ρ hedges n) (map (ρ c) k) ≡ map (ρ c) (at_h c n k)
  map-H symbols n k = refl
  map-H terms n k = refl
  map-H hedges n k = refl
  map-H functions n k = refl

  map-X : (c : Class) (n : ℕ) (k : List ℕ) → at_x c (ρ functions n) (map (ρ c) k) ≡ map (ρ c) (at_x c n k)
  map-X symbols n k = refl
  map-X terms n k = refl
  map-X hedges n k = refl
  map-X functions n k = refl

  map-F : (c : Class) (f : Functor) (k : List ℕ) → at_f c (name_f ρ f) (map (ρ c) k) ≡ map (ρ c) (at_f c f k)
  map-F c (symbol f) k = map-S c f.0 k
  map-F c (fvar X) k = map-X c X.0 k

  map-hedge : (c : Class) (h : Hedge) (k : List ℕ) → in_hedge c (name_hedge ρ h) (map (ρ c) k) ≡ map (ρ c) (in_hedge c h k)
  map-hedge c ε k = refl
  map-hedge c (tvar x r) k = ap (at_t c (ρ terms x.0)) (map-hedge c r k) ∙ map-T c x.0 (in_hedge c r k)
  map-hedge c (hvar p r) k = ap (at_h c (ρ hedges p.0)) (map-hedge c r k) ∙ map-H c p.0 (in_hedge c r k)
  map-hedge c (node f a r) k =
      ap (λ z. at_f c (name_f ρ f) (in_hedge c (name_hedge ρ a) z)) (map-hedge c r k)
      ∙ ap (at_f c (name_f ρ f)) (map-hedge c a (in_hedge c r k))
      ∙ map-F c f (in_hedge c a (in_hedge c r k))

  map-expr : (c : Class) (R : Expr) (k : List ℕ) → in_expr c (name_expr ρ R) (map (ρ c) k) ≡ map (ρ c) (in_expr c R k)
  map-expr c eps k = refl
  map-expr c (cat a b) k = ap (in_expr c (name_expr ρ a)) (map-expr c b k) ∙ map-expr c a (in_expr c b k)
  map-expr c (alt a b) k = ap (in_expr c (name_expr ρ a)) (map-expr c b k) ∙ map-expr c a (in_expr c b k)
  map-expr c (star a) k = map-expr c a k
  map-expr c (over f a) k = ap (at_s c (ρ symbols f.0)) (map-expr c a k) ∙ map-S c f.0 (in_expr c a k)

  map-literal : (c : Class) (l : Literal) (k : List ℕ) → in_literal c (name_literal ρ l) (map (ρ c) k) ≡ map (ρ c) (in_literal c l k)
  map-literal c (eqn l r) k = ap (in_hedge c (name_hedge ρ l)) (map-hedge c r k) ∙ map-hedge c l (in_hedge c r k)
  map-literal c (mem h R) k = ap (in_hedge c (name_hedge ρ h)) (map-expr c R k) ∙ map-hedge c h (in_expr c R k)

  map-conj : (c : Class) (j : Conj) (k : List ℕ) → in_conj c (name_conj ρ j) (map (ρ c) k) ≡ map (ρ c) (in_conj c j k)
  map-conj c [] k = refl
  map-conj c (l ∷ j) k = ap (in_literal c (name_literal ρ l)) (map-conj c j k) ∙ map-literal c l (in_conj c j k)

  pub map-all : (c : Class) (ks : List Conj) → in_all c (name_all ρ ks) ≡ map (ρ c) (in_all c ks)
  map-all c [] = refl
  map-all c (j ∷ js) = ap (in_conj c (name_conj ρ j)) (map-all c js) ∙ map-conj c j (in_all c js)

-- ---- two namings that agree on the names of a tree

module _ (σ τ : Naming) where
  abbrev Agree : (Class → List ℕ) → Type 0
  Agree k = (c : Class) → All (λ n. σ c n ≡ τ c n) (k c)

  head-S : (n : ℕ) (k : Class → List ℕ) → Agree (λ c. at_s c n (k c)) → (σ symbols n ≡ τ symbols n) × Agree k
  head-S n k a = ((a symbols).0, on)
    where
      on : Agree k
      on symbols = (a symbols).1
      on terms = a terms
      on hedges = a hedges
      on functions = a functions

  head-T : (n : ℕ) (k : Class → List ℕ) → Agree (λ c. at_t c n (k c)) → (σ terms n ≡ τ terms n) × Agree k
  head-T n k a = ((a terms).0, on)
    where
      on : Agree k
      on symbols = a symbols
      on terms = (a terms).1
      on hedges = a hedges
      on functions = a functions

  head-H : (n : ℕ) (k : Class → List ℕ) → Agree (λ c. at_h c n (k c)) → (σ hedges n ≡ τ hedges n) × Agree k
  head-H n k a = ((a hedges).0, on)
    where
      on : Agree k
      on symbols = a symbols
      on terms = a terms
      on hedges = (a hedges).1
      on functions = a functions

  head-X : (n : ℕ) (k : Class → List ℕ) → Agree (λ c. at_x c n (k c)) → (σ functions n ≡ τ functions n) × Agree k
  head-X n k a = ((a functions).0, on)
    where
      on : Agree k
      on symbols = a symbols
      on terms = a terms
      on hedges = a hedges
      on functions = (a functions).1

  head-F : (f : Functor) (k : Class → List ℕ) → Agree (λ c. at_f c f (k c)) → (name_f σ f ≡ name_f τ f) × Agree k
  head-F (symbol f) k a = let h = head-S f.0 k a in (ap (λ n. symbol (record { 0 = n })) h.0, h.1)
  head-F (fvar X) k a = let h = head-X X.0 k a in (ap (λ n. fvar (record { 0 = n })) h.0, h.1)

  same-hedge : (h : Hedge) (k : Class → List ℕ) → Agree (λ c. in_hedge c h (k c)) → (name_hedge σ h ≡ name_hedge τ h) × Agree k
  same-hedge ε k a = (refl, a)
  same-hedge (tvar x r) k a =
      let h = head-T x.0 (λ c. in_hedge c r (k c)) a in
      let i = same-hedge r k h.1 in
      (ap₂ (λ n z. tvar (record { 0 = n }) z) h.0 i.0, i.1)
  same-hedge (hvar p r) k a =
      let h = head-H p.0 (λ c. in_hedge c r (k c)) a in
      let i = same-hedge r k h.1 in
      (ap₂ (λ n z. hvar (record { 0 = n }) z) h.0 i.0, i.1)
  same-hedge (node f b r) k a =
      let h = head-F f (λ c. in_hedge c b (in_hedge c r (k c))) a in
      let i = same-hedge b (λ c. in_hedge c r (k c)) h.1 in
      let j = same-hedge r k i.1 in
      (ap (λ g. node g (name_hedge σ b) (name_hedge σ r)) h.0 ∙ ap₂ (node (name_f τ f)) i.0 j.0, j.1)

  same-expr : (R : Expr) (k : Class → List ℕ) → Agree (λ c. in_expr c R (k c)) → (name_expr σ R ≡ name_expr τ R) × Agree k
  same-expr eps k a = (refl, a)
  same-expr (cat R S) k a = let i = same-expr R (λ c. in_expr c S (k c)) a in let j = same-expr S k i.1 in (ap₂ cat i.0 j.0, j.1)
  same-expr (alt R S) k a = let i = same-expr R (λ c. in_expr c S (k c)) a in let j = same-expr S k i.1 in (ap₂ alt i.0 j.0, j.1)
  same-expr (star R) k a = let i = same-expr R k a in (ap star i.0, i.1)
  same-expr (over f R) k a =
      let h = head-S f.0 (λ c. in_expr c R (k c)) a in
      let i = same-expr R k h.1 in
      (ap₂ (λ n z. over (record { 0 = n }) z) h.0 i.0, i.1)

  same-literal : (l : Literal) (k : Class → List ℕ) → Agree (λ c. in_literal c l (k c)) → (name_literal σ l ≡ name_literal τ l) × Agree k
  same-literal (eqn l r) k a = let i = same-hedge l (λ c. in_hedge c r (k c)) a in let j = same-hedge r k i.1 in (ap₂ eqn i.0 j.0, j.1)
  same-literal (mem h R) k a = let i = same-hedge h (λ c. in_expr c R (k c)) a in let j = same-expr R k i.1 in (ap₂ mem i.0 j.0, j.1)

  same-conj : (j : Conj) (k : Class → List ℕ) → Agree (λ c. in_conj c j (k c)) → (name_conj σ j ≡ name_conj τ j) × Agree k
  same-conj [] k a = (refl, a)
  same-conj (l ∷ j) k a = let i = same-literal l (λ c. in_conj c j (k c)) a in let m = same-conj j k i.1 in (ap₂ ◌∷◌ i.0 m.0, m.1)

  pub same-all : (ks : List Conj) → Agree (λ c. in_all c ks) → name_all σ ks ≡ name_all τ ks
  same-all [] a = refl
  same-all (j ∷ js) a = let i = same-conj j (λ c. in_all c js) a in ap₂ ◌∷◌ i.0 (same-all js i.1)

-- ---- names of names, and names that stay

module _ (σ ρ : Naming) where
  abbrev twice : Naming
  twice c n = σ c (ρ c n)

  twice-F : (f : Functor) → name_f σ (name_f ρ f) ≡ name_f twice f
  twice-F (symbol f) = refl
  twice-F (fvar X) = refl

  twice-hedge : (h : Hedge) → name_hedge σ (name_hedge ρ h) ≡ name_hedge twice h
  twice-hedge ε = refl
  twice-hedge (tvar x r) = ap (tvar (record { 0 = σ terms (ρ terms x.0) })) (twice-hedge r)
  twice-hedge (hvar p r) = ap (hvar (record { 0 = σ hedges (ρ hedges p.0) })) (twice-hedge r)
  twice-hedge (node f a r) = ap (λ g. node g (name_hedge σ (name_hedge ρ a)) (name_hedge σ (name_hedge ρ r))) (twice-F f) ∙ ap₂ (node (name_f twice f)) (twice-hedge a) (twice-hedge r)

  twice-expr : (R : Expr) → name_expr σ (name_expr ρ R) ≡ name_expr twice R
  twice-expr eps = refl
  twice-expr (cat a b) = ap₂ cat (twice-expr a) (twice-expr b)
  twice-expr (alt a b) = ap₂ alt (twice-expr a) (twice-expr b)
  twice-expr (star a) = ap star (twice-expr a)
  twice-expr (over f a) = ap (over (record { 0 = σ symbols (ρ symbols f.0) })) (twice-expr a)

  twice-literal : (l : Literal) → name_literal σ (name_literal ρ l) ≡ name_literal twice l
  twice-literal (eqn l r) = ap₂ eqn (twice-hedge l) (twice-hedge r)
  twice-literal (mem h R) = ap₂ mem (twice-hedge h) (twice-expr R)

  twice-conj : (k : Conj) → name_conj σ (name_conj ρ k) ≡ name_conj twice k
  twice-conj [] = refl
  twice-conj (l ∷ k) = ap₂ ◌∷◌ (twice-literal l) (twice-conj k)

  pub twice-all : (ks : List Conj) → name_all σ (name_all ρ ks) ≡ name_all twice ks
  twice-all [] = refl
  twice-all (k ∷ ks) = ap₂ ◌∷◌ (twice-conj k) (twice-all ks)

abbrev pub itself : Naming
itself c n = n

self-F : (f : Functor) → name_f itself f ≡ f
self-F (symbol f) = refl
self-F (fvar X) = refl

self-hedge : (h : Hedge) → name_hedge itself h ≡ h
self-hedge ε = refl
self-hedge (tvar x r) = ap (tvar x) (self-hedge r)
self-hedge (hvar p r) = ap (hvar p) (self-hedge r)
self-hedge (node f a r) = ap (λ g. node g (name_hedge itself a) (name_hedge itself r)) (self-F f) ∙ ap₂ (node f) (self-hedge a) (self-hedge r)

self-expr : (R : Expr) → name_expr itself R ≡ R
self-expr eps = refl
self-expr (cat a b) = ap₂ cat (self-expr a) (self-expr b)
self-expr (alt a b) = ap₂ alt (self-expr a) (self-expr b)
self-expr (star a) = ap star (self-expr a)
self-expr (over f a) = ap (over f) (self-expr a)

self-literal : (l : Literal) → name_literal itself l ≡ l
self-literal (eqn l r) = ap₂ eqn (self-hedge l) (self-hedge r)
self-literal (mem h R) = ap₂ mem (self-hedge h) (self-expr R)

self-conj : (k : Conj) → name_conj itself k ≡ k
self-conj [] = refl
self-conj (l ∷ k) = ap₂ ◌∷◌ (self-literal l) (self-conj k)

self-all : (ks : List Conj) → name_all itself ks ≡ ks
self-all [] = refl
self-all (k ∷ ks) = ap₂ ◌∷◌ (self-conj k) (self-all ks)

-- ---- the laws

all_of : (P Q : ℕ → Type 0) (l : List ℕ) → ((n : ℕ) → P n → Q n) → All P l → All Q l
all_of P Q [] f a = tt
all_of P Q (n ∷ l) f a = (f n a.0, all_of P Q l f a.1)

-- Other names, one to one within each class below B, make no difference.
pub other-names : (B : ℕ) (ρ : Naming) → ((c : Class) (n m : ℕ) → n < B → m < B → eqb (ρ c n) (ρ c m) ≡ eqb n m)
    → (ks : List Conj) → ((c : Class) → All (λ n. n < B) (in_all c ks)) → numbered (name_all ρ ks) ≡ numbered ks
unfolding numbered table
other-names B ρ inj ks below =
    let t : (c : Class) → entered [] (in_all c (name_all ρ ks)) ≡ map (ρ c) (entered [] (in_all c ks)) =
    λ c. ap (entered []) (map-all ρ c ks) ∙ (entered-other B (ρ c) (inj c) [] (in_all c ks) tt (below c)).0 in
    twice-all (λ c n. place n (entered [] (in_all c (name_all ρ ks)))) ρ ks
    ∙ same-all (λ c n. place (ρ c n) (entered [] (in_all c (name_all ρ ks)))) (λ c n. place n (entered [] (in_all c ks))) ks
    (λ c. all_of (λ n. n < B) (λ n. place (ρ c n) (entered [] (in_all c (name_all ρ ks))) ≡ place n (entered [] (in_all c ks))) (in_all c ks)
    (λ n p. ap (place (ρ c n)) (t c) ∙ place_other B (ρ c) (inj c) n (entered [] (in_all c ks)) p (entered-other B (ρ c) (inj c) [] (in_all c ks) tt (below c)).1) (below c))

-- A question whose numbers are in order keeps them, and its tables are as long as it says.
pub kept : (m : Class → ℕ) (ks : List Conj) → ((c : Class) → in_order 0 (in_all c ks) ≡ some (m c)) → numbered ks ≡ ks
unfolding numbered table
kept m ks e =
    same-all (λ c n. place n (entered [] (in_all c ks))) itself ks
    (λ c. all_of (λ n. n < m c) (λ n. place n (entered [] (in_all c ks)) ≡ n) (in_all c ks)
    (λ n p. ap (place n) (in_order_lem 0 (m c) (in_all c ks) (e c)).0 ∙ place-up_to n (m c) p) (in_order_lem 0 (m c) (in_all c ks) (e c)).2)
    ∙ self-all ks

-- What the numbering gives is in order.
pub in-order-always : (ks : List Conj) (c : Class) → in_order 0 (in_all c (numbered ks)) ≡ some (length (table ks c))
unfolding numbered table
in-order-always ks c = ap (in_order 0) (map-all (λ c n. place n (entered [] (in_all c ks))) c ks) ∙ numbers-in-order [] (in_all c ks)
