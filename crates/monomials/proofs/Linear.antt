-- The linear form laid open is the linear form: the same first terms in the same order, and the words of each rest.
use Prim.Native.Nat.{ℕ, suc, ◌+◌}
use mathlib.Core.Path.{◌≡◌, refl, ap, sym, subst, ◌∙◌}
use mathlib.Core.Bool.{Bool, true, false}
use mathlib.Core.List.{List, [], ◌∷◌, ◌++◌, map, map-append, map-map, append-nil, append_assoc}
use native.Mathlib.Omega.{arith}
use Rattle.language.specs.Kinds.{pick}
use Rattle.language.specs.Trees.{Expr, eps, cat, alt, star, over}
use Rattle.language.specs.Writing.{expr_words}
use Rattle.rules.specs.Looks.{is_eps}
use Rattle.rules.specs.Expressions.{nullable, Monomial, joined, linear, ◌⊙◌}
use Rattle.monomials.specs.Loose.{Loose, met, joins, opening, rest_words}

-- a rest r of n parts, whose words in a row are ws
pub data Rest (r : Expr) (n : ℕ) (ws : List ℕ) : Type 0 where
  none : r ≡ eps → n ≡ 0 → ws ≡ [] → Rest r n ws
  some : (j : ℕ) → is_eps r ≡ false → n ≡ suc j → expr_words r ≡ joins j ++ ws → Rest r n ws

rest-words : {r : Expr} {n : ℕ} {ws : List ℕ} → Rest r n ws → expr_words r ≡ opening n ++ ws
rest-words {r} {n} {ws} (none e z w) = rw (e, z, w)
rest-words {r} {n} {ws} (some j e z w) = w ∙ ap (λ n. opening n ++ ws) (sym z)

rest_more : {r : Expr} {n : ℕ} {ws : List ℕ} (R : Expr) → is_eps R ≡ false → Rest r n ws → Rest (pick (is_eps r) R (cat r R)) (suc n) (ws ++ expr_words R)
rest_more {r} {n} {ws} R f (none e z w) = rw (e, w) (some n f refl (rw z))
rest_more {r} {n} {ws} R f (some j e z w) =
    rw e (some n refl refl (rw (w, z) (ap (λ l. 7001 ∷ l) (append_assoc (joins j) ws (expr_words R)))))

-- the same first term, and a rest of these parts
pub record Fits (m : Monomial) (n : Loose) : Type 0 where
  pub name : m.name ≡ n.name
  pub inner : m.inner ≡ n.inner
  pub rest : Rest m.rest n.parts n.words

pub rest_of : {m : Monomial} {n : Loose} → Fits m n → expr_words m.rest ≡ rest_words n
rest_of f = rest-words f.rest

pub data Pairs : List Monomial → List Loose → Type 0 where
  done : Pairs [] []
  pair : {m : Monomial} {n : Loose} {l : List Monomial} {p : List Loose} → Fits m n → Pairs l p → Pairs (m ∷ l) (n ∷ p)

pairs-append : {l l' : List Monomial} {p p' : List Loose} → Pairs l p → Pairs l' p' → Pairs (l ++ l') (p ++ p')
pairs-append done b = b
pairs-append (pair f a) b = pair f (pairs-append a b)

-- g adds n parts to each rest, whose words in a row are ws
record Adds (g : Monomial → Monomial) (n : ℕ) (ws : List ℕ) : Type 0 where
  pub name : (m : Monomial) → (g m).name ≡ m.name
  pub inner : (m : Monomial) → (g m).inner ≡ m.inner
  pub rest : (m : Monomial) {j : ℕ} {vs : List ℕ} → Rest m.rest j vs → Rest (g m).rest (j + n) (vs ++ ws)

adds_none : Adds (λ m. m) 0 []
adds_none = record { name = λ m. refl; inner = λ m. refl; rest = λ m {j} {vs} r. let z : j + 0 ≡ j = omega arith in rw (z, append-nil) r }

adds-more : {g : Monomial → Monomial} {n : ℕ} {ws : List ℕ} (R : Expr) → is_eps R ≡ false → Adds g n ws → Adds (λ m. g (joined R m)) (suc n) (expr_words R ++ ws)
adds-more {g} {n} {ws} R e a =
    record {
      name = λ m. a.name (joined R m);
      inner = λ m. a.inner (joined R m);
      rest = λ m {j} {vs} r.
          let z : suc j + n ≡ j + suc n = omega arith in
          rw (← z, ← append_assoc vs (expr_words R) ws) (a.rest (joined R m) (rest_more R e r));
    }

pairs-same : {l l' : List Monomial} {p : List Loose} → l' ≡ l → Pairs l p → Pairs l' p
pairs-same e a = rw e a

pairs-if : (l : List Monomial) {p : List Loose} (g : Monomial → Monomial) (b : Bool) → Pairs (map g l) p → Pairs (map g (pick b l [])) (pick b p [])
pairs-if l g true a = a
pairs-if l g false a = done

-- that it holds of R
abbrev Paired : Expr → Type 0
Paired R = (g : Monomial → Monomial) (n : ℕ) (ws : List ℕ) → Adds g n ws → Pairs (map g (linear R)) (met R n ws)

pairs_first : (a b : Expr) (g : Monomial → Monomial) (n : ℕ) (ws : List ℕ) (e : Bool) → is_eps b ≡ e → Adds g n ws → Paired a
    → Pairs (map g (pick e (linear a) (map (joined b) (linear a)))) (met a (pick e n (suc n)) (pick e ws (expr_words b ++ ws)))
pairs_first a b g n ws true z d p = p g n ws d
pairs_first a b g n ws false z d p = pairs-same (map-map g (joined b) (linear a)) (p (λ m. g (joined b m)) (suc n) (expr_words b ++ ws) (adds-more b z d))

pairs-by : (R : Expr) → Paired R
pairs-by eps g n ws d = done
pairs-by (cat a b) g n ws d =
    pairs-same (map-append g (linear a ⊙ b) (pick (nullable a) (linear b) []))
    (pairs-append (pairs_first a b g n ws (is_eps b) refl d (pairs-by a)) (pairs-if (linear b) g (nullable a) (pairs-by b g n ws d)))
pairs-by (alt a b) g n ws d = pairs-same (map-append g (linear a) (linear b)) (pairs-append (pairs-by a g n ws d) (pairs-by b g n ws d))
pairs-by (star a) g n ws d = pairs_first a (star a) g n ws false refl d (pairs-by a)
pairs-by (over f a) g n ws d =
    let m : Monomial = record { name = f; inner = a; rest = eps } in
    let z : 0 + n ≡ n = omega arith in
    pair (record { name = d.name m; inner = d.inner m; rest = subst (λ j. Rest (g m).rest j ws) z (d.rest m (none refl refl refl)) }) done

map_same : (l : List Monomial) → map (λ m. m) l ≡ l
map_same [] = refl
map_same (m ∷ l) = ap (λ l. m ∷ l) (map_same l)

pub pairs : (R : Expr) → Pairs (linear R) (met R 0 [])
pairs R = pairs-same (sym (map_same (linear R))) (pairs-by R (λ m. m) 0 [] adds_none)

-- two lists of results are the same where each two that stand together are
pub results_same : {l : List Monomial} {p : List Loose} (f : Monomial → List ℕ) (g : Loose → List ℕ) → ((m : Monomial) (n : Loose) → Fits m n → f m ≡ g n)
    → Pairs l p → map f l ≡ map g p
results_same f g e done = refl
results_same f g e (pair {m = m} {n = n} h a) = rw (e m n h, results_same f g e a)
