-- A literal among others: where it stands first, one literal more, and the earliest that stands there again.
use mathlib.Core.Path.{◌≡◌, refl, sym, ap, ◌∙◌}
use mathlib.Core.Bool.{Bool, true, false, ◌||◌, false≢true, true≢false}
use mathlib.Core.List.{[], ◌∷◌, ◌++◌}
use mathlib.Core.Logic.{◌⊎◌, inl, inr}
use Prim.Native.Nat.{ℕ, ◌+◌, ◌≤◌, min}
use native.Mathlib.Nat.{min-eq_left, min-eq_right}
use native.Mathlib.Omega.{arith}
use lib.ListN.{length, length-append}
use Rattle.language.specs.Kinds.{pick}
use Rattle.language.specs.Trees.{Literal, Conj, same_literal}
use Rattle.language.specs.Writing.{literal_words, conj_words}
use Rattle.folding.specs.Twice.{again, until_same, first_twice}
use Rattle.folding.proofs.Same.{same_refl, same-is, same-sym}

-- ---- among some literals and one more

pub or-false : (a b : Bool) → (a || b) ≡ false → (a ≡ false) × (b ≡ false)
or-false true b e = absurd (true≢false e)
or-false false b e = (refl, e)

pub again-more : (l : Literal) (c d : Conj) → again l c ≡ true → again l (c ++ d) ≡ true
again-more l [] d e = absurd (false≢true e)
again-more l (m ∷ c) d e = go (same_literal l m) e (again-more l c d)
  where
    go : (b : Bool) → (b || again l c) ≡ true → (again l c ≡ true → again l (c ++ d) ≡ true) → (b || again l (c ++ d)) ≡ true
    go true e ih = refl
    go false e ih = ih e

pub again-last : (l : Literal) (c : Conj) → again l (c ++ (l ∷ [])) ≡ true
again-last l [] = rw (same_refl l)
again-last l (m ∷ c) = go (same_literal l m) (again-last l c)
  where
    go : (b : Bool) → again l (c ++ (l ∷ [])) ≡ true → (b || again l (c ++ (l ∷ []))) ≡ true
    go true e = refl
    go false e = e

-- one that stands among them and one more stands among them, or is the one
pub again-either : (l : Literal) (c : Conj) (m : Literal) → again l (c ++ (m ∷ [])) ≡ true → (again l c ≡ true) ⊎ (l ≡ m)
again-either l [] m e = go (same_literal l m) refl e
  where
    go : (b : Bool) → same_literal l m ≡ b → (b || false) ≡ true → (again l [] ≡ true) ⊎ (l ≡ m)
    go true d e = inr (same-is l m d)
    go false d e = absurd (false≢true e)
again-either l (n ∷ c) m e = go (same_literal l n) e (again-either l c m)
  where
    go : (b : Bool) → (b || again l (c ++ (m ∷ []))) ≡ true → (again l (c ++ (m ∷ [])) ≡ true → (again l c ≡ true) ⊎ (l ≡ m)) → ((b || again l c) ≡ true) ⊎ (l ≡ m)
    go true e ih = inl refl
    go false e ih = ih e

-- the first place is the same with more behind
pub until-more : (l : Literal) (c d : Conj) → again l c ≡ true → until_same l (c ++ d) ≡ until_same l c
until-more l [] d e = absurd (false≢true e)
until-more l (m ∷ c) d e = go (same_literal l m) e (until-more l c d)
  where
    go : (b : Bool) → (b || again l c) ≡ true → (again l c ≡ true → until_same l (c ++ d) ≡ until_same l c)
        → pick b 0 (length (literal_words m) + until_same l (c ++ d)) ≡ pick b 0 (length (literal_words m) + until_same l c)
    go true e ih = refl
    go false e ih = ap (λ n. length (literal_words m) + n) (ih e)

-- and where it does not stand among them, they are all passed
pub until-past : (l : Literal) (c d : Conj) → again l c ≡ false → until_same l (c ++ d) ≡ length (conj_words c) + until_same l d
until-past l [] d e = omega arith
until-past l (m ∷ c) d e =
    let p = or-false (same_literal l m) (again l c) e in
    let i = until-past l c d p.1 in
    let j = length-append (literal_words m) (conj_words c) in
    ap (λ b. pick b 0 (length (literal_words m) + until_same l (c ++ d))) p.0 ∙ omega arith

pub until-last : (l : Literal) (c : Conj) → again l c ≡ false → until_same l (c ++ (l ∷ [])) ≡ length (conj_words c)
until-last l c e = let z = until-past l c (l ∷ []) e in let y = ap (λ b. pick b 0 (length (literal_words l) + 0)) (same_refl l) in omega arith

-- ---- where it stands first

pub record Cut (l : Literal) (c : Conj) (n : ℕ) : Type 0 where
  pub before : Conj
  pub behind : Conj
  pub whole : c ≡ before ++ (l ∷ behind)
  pub place : n ≡ length (conj_words before)

pub cut : (l : Literal) (c : Conj) → again l c ≡ true → Cut l c (until_same l c)
cut l [] e = absurd (false≢true e)
cut l (m ∷ c) e = go (same_literal l m) refl e (cut l c)
  where
    go : (b : Bool) → same_literal l m ≡ b → (b || again l c) ≡ true → (again l c ≡ true → Cut l c (until_same l c)) → Cut l (m ∷ c) (pick b 0 (length (literal_words m) + until_same l c))
    go true d e ih = record { before = []; behind = c; whole = ap (λ x. x ∷ c) (sym (same-is l m d)); place = refl }
    go false d e ih =
        let r = ih e in
        record {
          before = m ∷ r.before;
          behind = r.behind;
          whole = ap (λ k. m ∷ k) r.whole;
          place = let z = r.place in let y = length-append (literal_words m) (conj_words r.before) in omega arith;
        }

-- ---- the earliest that stands there again, from a place on; d, where none does

abbrev pub twice_from : ℕ → ℕ → Conj → ℕ
twice_from d at [] = d
twice_from d at (l ∷ k) = pick (again l k) at (twice_from d (at + length (literal_words l)) k)

pub twice-is : (d at : ℕ) (c : Conj) → d ≡ at + length (conj_words c) → twice_from d at c ≡ at + first_twice c
twice-is d at [] e = e
twice-is d at (l ∷ k) e =
    let n = length-append (literal_words l) (conj_words k) in
    go (again l k) (twice-is d (at + length (literal_words l)) k (omega arith))
  where
    go : (b : Bool) → twice_from d (at + length (literal_words l)) k ≡ at + length (literal_words l) + first_twice k
        → pick b at (twice_from d (at + length (literal_words l)) k) ≡ at + pick b 0 (length (literal_words l) + first_twice k)
    go true ih = omega arith
    go false ih = omega arith

pub twice-within : (d at : ℕ) (c : Conj) → at + length (conj_words c) ≤ d → (at ≤ twice_from d at c) × (twice_from d at c ≤ d)
twice-within d at [] h = (omega arith, omega arith)
twice-within d at (l ∷ k) h =
    let n = length-append (literal_words l) (conj_words k) in
    go (again l k) (twice-within d (at + length (literal_words l)) k (omega arith)) (omega arith)
  where
    go : (b : Bool) → (at + length (literal_words l) ≤ twice_from d (at + length (literal_words l)) k) × (twice_from d (at + length (literal_words l)) k ≤ d) → at ≤ d
        → (at ≤ pick b at (twice_from d (at + length (literal_words l)) k)) × (pick b at (twice_from d (at + length (literal_words l)) k) ≤ d)
    go true ih h = (omega arith, h)
    go false ih h = (let z = ih.0 in omega arith, ih.1)

-- one literal more: it stands there again behind its first place
one_more : (a s s' g : Bool) (at n u x x' : ℕ) → s ≡ s' → at ≤ x → x' ≡ pick g (min x (at + n + u)) x
    → pick (a || (s || false)) at x' ≡ pick (s' || g) (min (pick a at x) (at + pick s' 0 (n + u))) (pick a at x)
one_more true s true g at n u x x' e h d = sym (min-eq_left (omega arith))
one_more true s false true at n u x x' e h d = sym (min-eq_left (omega arith))
one_more true s false false at n u x x' e h d = refl
one_more false true true g at n u x x' e h d = let z = min-eq_right {n = at + 0} {m = x} (omega arith) in omega arith
one_more false true false g at n u x x' e h d = absurd (true≢false e)
one_more false false true g at n u x x' e h d = absurd (false≢true e)
one_more false false false g at n u x x' e h d = d ∙ ap (λ m. pick g (min x m) x) (omega arith)

again-append : (l : Literal) (c d : Conj) → again l (c ++ d) ≡ (again l c || again l d)
again-append l [] d = refl
again-append l (m ∷ c) d = go (same_literal l m) (again-append l c d)
  where
    go : (b : Bool) → again l (c ++ d) ≡ (again l c || again l d) → (b || again l (c ++ d)) ≡ (b || again l c || again l d)
    go true e = refl
    go false e = e

pub twice-more : (d at : ℕ) (c : Conj) (l : Literal) → at + length (conj_words c) ≤ d
    → twice_from d at (c ++ (l ∷ [])) ≡ pick (again l c) (min (twice_from d at c) (at + until_same l c)) (twice_from d at c)
twice-more d at [] l h = refl
twice-more d at (m ∷ k) l h =
    let n = length-append (literal_words m) (conj_words k) in
    let low = (twice-within d (at + length (literal_words m)) k (omega arith)).0 in
    ap (λ b. pick b at (twice_from d (at + length (literal_words m)) (k ++ (l ∷ [])))) (again-append m k (l ∷ []))
    ∙ one_more (again m k) (same_literal m l) (same_literal l m) (again l k) at (length (literal_words m)) (until_same l k) _ _ (same-sym m l) (omega arith)
    (twice-more d (at + length (literal_words m)) k l (omega arith))
