-- Whether symbols lead to marked pairs, by tests.
use Prim.Native.Nat.{ℕ, ◌+◌, ◌*◌, ◌-◌, ◌<◌}
use mathlib.Core.Path.{◌≡◌, refl, sym, ◌∙◌, ap, subst}
use mathlib.Core.Bool.{Bool, true, false, ◌&&◌}
use mathlib.Core.List.{List}
use native.Mathlib.Omega.{arith}
use native.Mathlib.Decide.{dec_lt}
use lib.ListN.{get_or}
use Rattle.clash.specs.Chains.{Chained, IsPair, Found, stops}
use Rattle.clash.specs.Sweeping.{Says, Marked, Leading, SomeWith, SomeOf}
use Rattle.state_classes.proofs.Peeling.{differ}

pub says-no : {P : Type 0} → (P → ⊥) → Says P false
says-no z = record { yes = λ e. differ (sym e); not = λ e p. z p }

pub says-yes : {P : Type 0} → P → Says P true
says-yes p = record { yes = λ e. p; not = λ e q. differ e }

-- ---- a pair

pub known-none : {left right : List ℕ} {n a b r : ℕ} {marks : List Bool} → Found left right n a b r → r ≡ 0 → Says (Marked left right n marks a b) false
known-none f e = says-no (λ m. f.nowhere e m.place m.low m.pair)

pub known-low : {left right links heads : List ℕ} {n a b r : ℕ} → Chained left right links heads n → Found left right n a b r → (r ≡ 0 → ⊥) → r - 1 < stops
known-low {r = r} C f z = let (l, s) = f.here (r - 1) (omega arith) in let h = C.few in omega arith

pub known_at : {left right links heads : List ℕ} {n a b r : ℕ} (marks : List Bool) → Chained left right links heads n → Found left right n a b r → (r ≡ 0 → ⊥)
    → Says (Marked left right n marks a b) (get_or marks (r - 1) false)
known_at {left} {right} {links} {heads} {n} {a} {b} {r} marks C f z =
    record {
      yes = λ e. record { place = r - 1; low = here.0; pair = here.1; mark = e };
      not = λ e m. other e m (dec_lt m.place (r - 1)) (dec_lt (r - 1) m.place);
    }
  where
    here : (r - 1 < n) × IsPair left right a b (r - 1)
    here = f.here (r - 1) (omega arith)

    other : get_or marks (r - 1) false ≡ false → (m : Marked left right n marks a b) → Dec (m.place < r - 1) → Dec (r - 1 < m.place) → ⊥
    other e m (yes l) d =
        C.apart m.place (r - 1) l here.0 (record { one = here.1.one ∙ sym m.pair.one; other = here.1.other ∙ sym m.pair.other })
    other e m (no l) (yes d) =
        C.apart (r - 1) m.place d m.low (record { one = m.pair.one ∙ sym here.1.one; other = m.pair.other ∙ sym here.1.other })
    other e m (no l) (no d) = let x : m.place ≡ r - 1 = omega arith in differ (sym m.mark ∙ ap (λ i. get_or marks i false) x ∙ e)

-- ---- symbols

module _ {k classes left right : List ℕ} {n : ℕ} {inner rest : List Bool} {p q : ℕ} where
  pub leads-same : (x y : Bool) {r : Bool} → get_or k p 0 ≡ get_or k q 0 → Says (Marked left right n inner (get_or classes (2 * p + 2) 0) (get_or classes (2 * q + 2) 0)) x
      → Says (Marked left right n rest (get_or classes (2 * p + 1) 0) (get_or classes (2 * q + 1) 0)) y → r ≡ (x && y) → Says (Leading k classes left right n inner rest p q) r
  leads-same true true e a b d = subst (Says (Leading k classes left right n inner rest p q)) (sym d) (says-yes (record { same = e; inside = a.yes refl; after = b.yes refl }))
  leads-same true false e a b d = subst (Says (Leading k classes left right n inner rest p q)) (sym d) (says-no (λ l. b.not refl l.after))
  leads-same false y e a b d = subst (Says (Leading k classes left right n inner rest p q)) (sym d) (says-no (λ l. a.not refl l.inside))

  pub leads-other : (get_or k p 0 ≡ get_or k q 0 → ⊥) → Says (Leading k classes left right n inner rest p q) false
  leads-other z = says-no (λ l. z l.same)

module _ {k classes left right : List ℕ} {n : ℕ} {inner rest : List Bool} {p : ℕ} {qs : List ℕ} {j count x : ℕ} where
  pub with-here : j < count → x ≡ get_or qs j 0 → Says (Leading k classes left right n inner rest p x) true → Says (SomeWith k classes left right n inner rest p qs count) true
  with-here l e s = says-yes (record { place = j; low = l; leads = subst (Leading k classes left right n inner rest p) e (s.yes refl) })

pub not-here : {k classes left right : List ℕ} {n : ℕ} {inner rest : List Bool} {p x y : ℕ} → x ≡ y → Says (Leading k classes left right n inner rest p x) false
    → Leading k classes left right n inner rest p y → ⊥
not-here {k} {classes} {left} {right} {n} {inner} {rest} {p} e s l = s.not refl (subst (Leading k classes left right n inner rest p) (sym e) l)

pub with-nowhere : {k classes left right : List ℕ} {n : ℕ} {inner rest : List Bool} {p : ℕ} {qs : List ℕ} {count : ℕ}
    → ((j : ℕ) → j < count → Leading k classes left right n inner rest p (get_or qs j 0) → ⊥) → Says (SomeWith k classes left right n inner rest p qs count) false
with-nowhere z = says-no (λ s. z s.place s.low s.leads)

module _ {k classes left right : List ℕ} {n : ℕ} {inner rest : List Bool} {ps qs : List ℕ} {i ones others x : ℕ} where
  pub of-here : i < ones → x ≡ get_or ps i 0 → Says (SomeWith k classes left right n inner rest x qs others) true → Says (SomeOf k classes left right n inner rest ps ones qs others) true
  of-here l e s = says-yes (record { place = i; low = l; leads = subst (λ x. SomeWith k classes left right n inner rest x qs others) e (s.yes refl) })

pub of-not-here : {k classes left right : List ℕ} {n : ℕ} {inner rest : List Bool} {qs : List ℕ} {others x y : ℕ} → x ≡ y → Says (SomeWith k classes left right n inner rest x qs others) false
    → SomeWith k classes left right n inner rest y qs others → ⊥
of-not-here {k} {classes} {left} {right} {n} {inner} {rest} {qs} {others} e s l = s.not refl (subst (λ x. SomeWith k classes left right n inner rest x qs others) (sym e) l)

pub of-nowhere : {k classes left right : List ℕ} {n : ℕ} {inner rest : List Bool} {ps qs : List ℕ} {ones others : ℕ}
    → ((i : ℕ) → i < ones → SomeWith k classes left right n inner rest (get_or ps i 0) qs others → ⊥) → Says (SomeOf k classes left right n inner rest ps ones qs others) false
of-nowhere z = says-no (λ s. z s.place s.low s.leads)

-- what holds of none below i and not of i holds of none below the next
pub none_more : {P : ℕ → Type 0} {i : ℕ} → ((j : ℕ) → j < i → P j → ⊥) → (P i → ⊥) → (j : ℕ) → j < i + 1 → P j → ⊥
none_more {P} {i} z y j l p = go (dec_lt j i)
  where
    go : Dec (j < i) → ⊥
    go (yes h) = z j h p
    go (no h) = let e : j ≡ i = omega arith in y (subst P e p)
