-- What is struck out of two hedges, and the orders of a hedge: each is the hedge's own elements, taken out one after another.
use Prim.Native.Nat.{ℕ, zero, suc, ◌+◌}
use mathlib.Core.Path.{◌≡◌, refl, sym, subst, ap, ◌∙◌}
use mathlib.Core.Logic.{inl, inr}
use mathlib.Core.List.{List, [], ◌∷◌, ◌++◌, map}
use mathlib.Core.Option.{Option, none, some}
use native.Mathlib.Omega.{arith}
use Rattle.language.specs.Trees.{Hedge, ε, tvar, hvar, node, ◌⧺◌, same_words}
use Rattle.rules.specs.Each.{Each, Some}
use Rattle.rules.specs.Looks.{onto}
use Rattle.rules.specs.Elements.{without, or_struck, struck, drawn, spread, width, orders_of, orders}
use Rattle.rules.proofs.Each.{each-++, each_map, each-imp, some-++}
use Rattle.rules.proofs.Tests.{picks}
use Rattle.rules.proofs.Names.{same_words-is}
use Rattle.rules.proofs.Answers.{Where, where-map}

-- ---- taken out

-- e stands somewhere in h, and r is what is left
pub record Without (e h r : Hedge) : Type 0 where
  pub before : Hedge
  pub behind : Hedge
  pub whole : h ≡ before ⧺ (e ⧺ behind)
  pub left : r ≡ before ⧺ behind

-- an element more before it
pub without-under : {e h r : Hedge} (q : Hedge → Hedge) → ((a b : Hedge) → q (a ⧺ b) ≡ q a ⧺ b) → Without e h r → Without e (q h) (q r)
without-under q joins w = record {
  before = q w.before;
  behind = w.behind;
  whole = ap q w.whole ∙ joins w.before _;
  left = ap q w.left ∙ joins w.before w.behind;
}

without-first : (e f r : Hedge) → e ≡ f → Without e (f ⧺ r) r
without-first e f r d = record { before = ε; behind = r; whole = ap (λ k. k ⧺ r) (sym d); left = refl }

pub without_is : (e h : Hedge) → Where (Without e h) (without e h)
without_is e ε = tt
without_is e (tvar x r) =
    picks (Where (Without e (tvar x r))) (same_words e (tvar x ε)) (λ t. without-first e (tvar x ε) r (same_words-is e (tvar x ε) t))
    (where-map (Without e (tvar x r)) _ (without e r) (λ k w. without-under (tvar x) (λ _ _. refl) w) (without_is e r))
without_is e (hvar p r) =
    picks (Where (Without e (hvar p r))) (same_words e (hvar p ε)) (λ t. without-first e (hvar p ε) r (same_words-is e (hvar p ε) t))
    (where-map (Without e (hvar p r)) _ (without e r) (λ k w. without-under (hvar p) (λ _ _. refl) w) (without_is e r))
without_is e (node f c r) =
    picks (Where (Without e (node f c r))) (same_words e (node f c ε)) (λ t. without-first e (node f c ε) r (same_words-is e (node f c ε) t))
    (where-map (Without e (node f c r)) _ (without e r) (λ k w. without-under (node f c) (λ _ _. refl) w) (without_is e r))

-- both without one and the same
pub record StruckOut (h k : Hedge) (a : Hedge × Hedge) : Type 0 where
  pub shared : Hedge
  pub left : Without shared h a.0
  pub right : Without shared k a.1

struck-one : (e r k : Hedge) (q : Hedge → Hedge) → ((a b : Hedge) → q (a ⧺ b) ≡ q a ⧺ b) → (m : Option (Hedge × Hedge)) → Where (StruckOut r k) m → q r ≡ e ⧺ r
    → Where (StruckOut (q r) k) (or_struck r (without e k) (onto q m))
struck-one e r k q joins m s d = go (without e k) (without_is e k)
  where
    go : (o : Option Hedge) → Where (Without e k) o → Where (StruckOut (q r) k) (or_struck r o (onto q m))
    go none w = where-map (StruckOut (q r) k) _ m (λ a t. record { shared = t.shared; left = without-under q joins t.left; right = t.right }) s
    go (some b) w = record { shared = e; left = record { before = ε; behind = r; whole = d; left = refl }; right = w }

pub struck-is : (h k : Hedge) → Where (StruckOut h k) (struck h k)
struck-is ε k = tt
struck-is (tvar x r) k = struck-one (tvar x ε) r k (tvar x) (λ _ _. refl) (struck r k) (struck-is r k) refl
struck-is (hvar p r) k = struck-one (hvar p ε) r k (hvar p) (λ _ _. refl) (struck r k) (struck-is r k) refl
struck-is (node f c r) k = struck-one (node f c ε) r k (node f c) (λ _ _. refl) (struck r k) (struck-is r k) refl

-- ---- one element

pub width-⧺ : (h k : Hedge) → width (h ⧺ k) ≡ width h + width k
width-⧺ ε k = omega arith
width-⧺ (tvar x r) k = omega (arith, width-⧺ r k)
width-⧺ (hvar p r) k = omega (arith, width-⧺ r k)
width-⧺ (node f c r) k = omega (arith, width-⧺ r k)

pub no-width : (h : Hedge) → width h ≡ 0 → h ≡ ε
no-width ε e = refl
no-width (tvar x r) e = absurd (omega arith)
no-width (hvar p r) e = absurd (omega arith)
no-width (node f c r) e = absurd (omega arith)

-- one element of h, and what is left
pub record Drawn (h : Hedge) (a : Hedge × Hedge) : Type 0 where
  pub out : Without a.0 h a.1
  pub one : width a.0 ≡ 1
  pub fewer : suc (width a.1) ≡ width h

drawn-under : (h : Hedge) (q : Hedge → Hedge) → ((a b : Hedge) → q (a ⧺ b) ≡ q a ⧺ b) → ((k : Hedge) → width (q k) ≡ suc (width k))
    → Each (Drawn h) (drawn h) → Each (Drawn (q h)) (map (λ (a : Hedge × Hedge). (a.0, q a.1)) (drawn h))
drawn-under h q joins wider d =
    each_map (Drawn h) (Drawn (q h)) (λ (a : Hedge × Hedge). (a.0, q a.1))
    (λ a w. record { out = without-under q joins w.out; one = w.one; fewer = omega (arith, wider a.1, wider h, w.fewer) }) (drawn h) d

pub drawn-is : (h : Hedge) → Each (Drawn h) (drawn h)
drawn-is ε = tt
drawn-is (tvar x r) = (record { out = without-first (tvar x ε) (tvar x ε) r refl; one = refl; fewer = refl }, drawn-under r (tvar x) (λ _ _. refl) (λ _. refl) (drawn-is r))
drawn-is (hvar p r) = (record { out = without-first (hvar p ε) (hvar p ε) r refl; one = refl; fewer = refl }, drawn-under r (hvar p) (λ _ _. refl) (λ _. refl) (drawn-is r))
drawn-is (node f c r) = (record { out = without-first (node f c ε) (node f c ε) r refl; one = refl; fewer = refl }, drawn-under r (node f c) (λ _ _. refl) (λ _. refl) (drawn-is r))

-- ---- all orders

module _ {A B : Type 0} (g : A → List B) where
  pub each-spread : (P : B → Type 0) (xs : List A) → Each (λ x. Each P (g x)) xs → Each P (spread g xs)
  each-spread P [] e = tt
  each-spread P (x ∷ xs) e = each-++ P (g x) (spread g xs) e.0 (each-spread P xs e.1)

  pub some-spread : (P : B → Type 0) (xs : List A) → Some (λ x. Some P (g x)) xs → Some P (spread g xs)
  some-spread P [] s = absurd s
  some-spread P (x ∷ xs) (inl s) = (some-++ P (g x) (spread g xs)).1 (inl s)
  some-spread P (x ∷ xs) (inr s) = (some-++ P (g x) (spread g xs)).1 (inr (some-spread P xs s))

-- What holds of nothing and of an element before an order of what is left holds of every order.
module _ (R : Hedge → Hedge → Type 0) (none : R ε ε) (next : (h : Hedge) (a : Hedge × Hedge) (k : Hedge) → Drawn h a → R a.1 k → R h (a.0 ⧺ k)) where
  orders_of-by : (n : ℕ) (h : Hedge) → width h ≡ n → Each (R h) (orders_of n h)
  orders_of-by zero h e = (subst (λ k. R k ε) (sym (no-width h e)) none, tt)
  orders_of-by (suc n) h e =
      each-spread (λ (a : Hedge × Hedge). map (◌⧺◌ a.0) (orders_of n a.1)) (R h) (drawn h)
      (each-imp (Drawn h) (λ (a : Hedge × Hedge). Each (R h) (map (◌⧺◌ a.0) (orders_of n a.1)))
      (λ a d. each_map (R a.1) (R h) (◌⧺◌ a.0) (λ k r. next h a k d r) (orders_of n a.1) (orders_of-by n a.1 (omega (arith, d.fewer, e)))) (drawn h) (drawn-is h))

  pub orders-by : (h : Hedge) → Each (R h) (orders h)
  unfolding orders
  orders-by h = orders_of-by (width h) h refl

-- ---- what a row has exactly where its parts have it

module _ (Q : Hedge → Type 0) (join : (h k : Hedge) → Q h → Q k → Q (h ⧺ k)) (both : (h k : Hedge) → Q (h ⧺ k) → Q h × Q k) where
  pub without-keeps : (e h r : Hedge) → Without e h r → Q h → Q e × Q r
  without-keeps e h r w q =
      let (a, b) = both w.before (e ⧺ w.behind) (subst Q w.whole q) in
      let (c, d) = both e w.behind b in
      (c, subst Q (sym w.left) (join w.before w.behind a d))

  -- each order has what the hedge has
  pub orders-keep : Q ε → (h : Hedge) → Q h → Each Q (orders h)
  orders-keep empty h q =
      each-imp (λ k. Q h → Q k) Q (λ k f. f q) (orders h)
      (orders-by (λ h k. Q h → Q k) (λ _. empty) (λ h a k d f p. let (x, y) = without-keeps a.0 h a.1 d.out p in join a.0 k x (f y)) h)
