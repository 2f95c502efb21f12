-- Pairs listed one behind the other: laws for one pair, and for lists that grow one after the other.
use Prim.Native.Nat.{ℕ, ◌+◌, ◌*◌, ◌-◌, ◌<◌, ◌≤◌}
use mathlib.Core.Path.{◌≡◌, refl, sym, ◌∙◌, ap, subst}
use mathlib.Core.Logic.{◌⊎◌, inl, inr}
use mathlib.Core.List.{List}
use native.Mathlib.Omega.{arith}
use native.Mathlib.Decide.{dec_lt, ℕ_discrete}
use lib.ListN.{get_or, set}
use lib.Seq.{get_or-set_same, get_or-set_other}
use Rattle.language.specs.Limits.{walked_pairs}
use Rattle.clash.specs.Chains.{Chained, Found, Kept, Grown, Met}
use Rattle.clash.specs.Walking.{Twin, TwinWith, TwinOf}

same_kept : {left right : List ℕ} {n : ℕ} → Kept left right n left right
same_kept = record { lefts = λ i h. refl; rights = λ i h. refl }

-- ---- one pair

pub met-full : {left right : List ℕ} {n a b : ℕ} → walked_pairs < n → Met left right n a b left right n
met-full h = record { more = omega arith; kept = same_kept; new = λ i l m. absurd (omega arith); there = λ l. absurd (omega arith) }

pub met-old : {left right : List ℕ} {n a b r : ℕ} → Found left right n a b r → (r ≡ 0 → ⊥) → Met left right n a b left right n
met-old {left} {right} {n} {a} {b} {r} f z =
    record {
      more = omega arith;
      kept = same_kept;
      new = λ i l m. absurd (omega arith);
      there = λ l x y e.
          let (h, s) = f.here (r - 1) (omega arith) in
          (r - 1, h, record { one = s.one ∙ sym e.0; other = s.other ∙ sym e.1 });
    }

module _ {left right links heads : List ℕ} {n : ℕ} (a b : ℕ) (C : Chained left right links heads n) (u : n ≤ walked_pairs) where
  abbrev left' : List ℕ
  left' = set left n a

  abbrev right' : List ℕ
  right' = set right n b

  left-new : get_or left' n 0 ≡ a
  left-new = let e = C.lefts in get_or-set_same left n a 0 (omega arith)

  right_new : get_or right' n 0 ≡ b
  right_new = let e = C.rights in get_or-set_same right n b 0 (omega arith)

  left-old : (i : ℕ) → i < n → get_or left' i 0 ≡ get_or left i 0
  left-old i l = get_or-set_other left n i a 0 (omega arith)

  right-old : (i : ℕ) → i < n → get_or right' i 0 ≡ get_or right i 0
  right-old i l = get_or-set_other right n i b 0 (omega arith)

  pub met-new : Met left right n a b left' right' (n + 1)
  met-new =
      record {
        more = omega arith;
        kept = record { lefts = left-old; rights = right-old };
        new = λ i l m. let e : i ≡ n = omega arith in (ap (λ i. get_or left' i 0) e ∙ left-new, ap (λ i. get_or right' i 0) e ∙ right_new);
        there = λ l x y e. (n, omega arith, record { one = left-new ∙ sym e.0; other = right_new ∙ sym e.1 });
      }

pub met-add : {left right links heads left' right' : List ℕ} {n a b : ℕ} → Chained left right links heads n → n ≤ walked_pairs
    → left' ≡ set left n a → right' ≡ set right n b → Met left right n a b left' right' (n + 1)
met-add {a = a} {b = b} C u d e = rw (d, e) (met-new a b C u)

-- ---- one after the other

pub grown-none : {T : ℕ → ℕ → Type 0} {left right : List ℕ} {n : ℕ} → ((a b : ℕ) → T a b → ⊥) → Grown T left right n left right n
grown-none z = record { more = omega arith; kept = same_kept; new = λ i l m. absurd (omega arith); there = λ l a b t. absurd (z a b t) }

module _ {T U Q : ℕ → ℕ → Type 0} {left right left' right' left'' right'' : List ℕ} {n m l : ℕ} (g : Grown T left right n left' right' m) (h : Grown U left' right' m left'' right'' l)
    (cases : (a b : ℕ) → Q a b → T a b ⊎ U a b) (one : (a b : ℕ) → T a b → Q a b) (two : (a b : ℕ) → U a b → Q a b) where
  new_then : (i : ℕ) → n ≤ i → i < l → Q (get_or left'' i 0) (get_or right'' i 0)
  new_then i x y = go (dec_lt i m)
    where
      go : Dec (i < m) → Q (get_or left'' i 0) (get_or right'' i 0)
      go (yes z) =
          subst (λ a. Q a (get_or right'' i 0)) (sym (h.kept.lefts i z))
          (subst (λ b. Q (get_or left' i 0) b) (sym (h.kept.rights i z)) (one (get_or left' i 0) (get_or right' i 0) (g.new i x z)))
      go (no z) = two (get_or left'' i 0) (get_or right'' i 0) (h.new i (omega arith) y)

  pub grown-then : Grown Q left right n left'' right'' l
  grown-then =
      record {
        more = let x = g.more in let y = h.more in omega arith;
        kept = record {
          lefts = λ i x. let y = g.more in h.kept.lefts i (omega arith) ∙ g.kept.lefts i x;
          rights = λ i x. let y = g.more in h.kept.rights i (omega arith) ∙ g.kept.rights i x;
        };
        new = new_then;
        there = λ x a b v. let y = h.more in elim (cases a b v) [
          | inl t ↦
              let (i, z, s) = g.there (omega arith) a b t in
              (i, omega arith, record { one = h.kept.lefts i z ∙ s.one; other = h.kept.rights i z ∙ s.other })
          | inr u ↦ h.there x a b u
        ];
      }

-- ---- where symbols lead to

-- two symbols that are one
pub twin-same : {k classes left right left' right' left'' right'' : List ℕ} {p q n m l : ℕ} → get_or k p 0 ≡ get_or k q 0
    → Met left right n (get_or classes (2 * p + 2) 0) (get_or classes (2 * q + 2) 0) left' right' m
    → Met left' right' m (get_or classes (2 * p + 1) 0) (get_or classes (2 * q + 1) 0) left'' right'' l → Grown (Twin k classes p q) left right n left'' right'' l
twin-same e g h = grown-then g h (λ a b v. v.pair) (λ a b t. record { same = e; pair = inl t }) (λ a b t. record { same = e; pair = inr t })

pub twin-other : {k classes left right : List ℕ} {p q n : ℕ} → (get_or k p 0 ≡ get_or k q 0 → ⊥) → Grown (Twin k classes p q) left right n left right n
twin-other z = grown-none (λ a b t. z t.same)

-- one more of the list
module _ {k classes left right left' right' left'' right'' qs : List ℕ} {n m l p j x : ℕ} where
  pub with-more : Grown (TwinWith k classes p qs j) left right n left' right' m → x ≡ get_or qs j 0 → Grown (Twin k classes p x) left' right' m left'' right'' l
      → Grown (TwinWith k classes p qs (j + 1)) left right n left'' right'' l
  with-more g e h =
      grown-then g h (λ a b v. go a b v (ℕ_discrete v.place j)) (λ a b t. record { place = t.place; low = let z = t.low in omega arith; twin = t.twin })
      (λ a b t. record { place = j; low = omega arith; twin = subst (λ q. Twin k classes p q a b) e t })
    where
      go : (a b : ℕ) (v : TwinWith k classes p qs (j + 1) a b) → Dec (v.place ≡ j) → TwinWith k classes p qs j a b ⊎ Twin k classes p x a b
      go a b v (yes d) = inr (subst (λ q. Twin k classes p q a b) (ap (λ i. get_or qs i 0) d ∙ sym e) v.twin)
      go a b v (no d) = let z = v.low in inl (record { place = v.place; low = omega arith; twin = v.twin })

pub with_none : {k classes left right qs : List ℕ} {n p : ℕ} → Grown (TwinWith k classes p qs 0) left right n left right n
with_none = grown-none (λ a b t. let z = t.low in omega arith)

module _ {k classes left right left' right' left'' right'' ps qs : List ℕ} {n m l c i x : ℕ} where
  pub of-more : Grown (TwinOf k classes ps i qs c) left right n left' right' m → x ≡ get_or ps i 0 → Grown (TwinWith k classes x qs c) left' right' m left'' right'' l
      → Grown (TwinOf k classes ps (i + 1) qs c) left right n left'' right'' l
  of-more g e h =
      grown-then g h (λ a b v. go a b v (ℕ_discrete v.place i)) (λ a b t. record { place = t.place; low = let z = t.low in omega arith; twin = t.twin })
      (λ a b t. record { place = i; low = omega arith; twin = subst (λ p. TwinWith k classes p qs c a b) e t })
    where
      go : (a b : ℕ) (v : TwinOf k classes ps (i + 1) qs c a b) → Dec (v.place ≡ i) → TwinOf k classes ps i qs c a b ⊎ TwinWith k classes x qs c a b
      go a b v (yes d) = inr (subst (λ p. TwinWith k classes p qs c a b) (ap (λ i. get_or ps i 0) d ∙ sym e) v.twin)
      go a b v (no d) = let z = v.low in inl (record { place = v.place; low = omega arith; twin = v.twin })

pub of_none : {k classes left right ps qs : List ℕ} {n c : ℕ} → Grown (TwinOf k classes ps 0 qs c) left right n left right n
of_none = grown-none (λ a b t. let z = t.low in omega arith)

pub with-to : {k classes left right left' right' qs : List ℕ} {n m p i j : ℕ} → i ≡ j → Grown (TwinWith k classes p qs i) left right n left' right' m
    → Grown (TwinWith k classes p qs j) left right n left' right' m
with-to {k} {classes} {left} {right} {left'} {right'} {qs} {n} {m} {p} e g = subst (λ i. Grown (TwinWith k classes p qs i) left right n left' right' m) e g

pub of-to : {k classes left right left' right' ps qs : List ℕ} {n m c i j : ℕ} → i ≡ j → Grown (TwinOf k classes ps i qs c) left right n left' right' m
    → Grown (TwinOf k classes ps j qs c) left right n left' right' m
of-to {k} {classes} {left} {right} {left'} {right'} {ps} {qs} {n} {m} {c} e g = subst (λ i. Grown (TwinOf k classes ps i qs c) left right n left' right' m) e g
