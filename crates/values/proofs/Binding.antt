-- What an equation binds a variable to, from the words of the variables that its sides solve.
use Prim.Native.Nat.{ℕ, ◌+◌, ◌<◌, ◌≤◌}
use mathlib.Core.Path.{◌≡◌, refl, sym, ap, ◌∙◌}
use mathlib.Core.Bool.{Bool, true, false, not, ◌||◌}
use mathlib.Core.List.{List, [], ◌++◌}
use mathlib.Core.Option.{Option, none, some}
use native.Mathlib.Omega.{arith}
use Rattle.std.specs.Prelude.{Some, None}
use Rattle.std.specs.Prelude as std
use lib.Dec.{eqb}
use lib.ListN.{length, get_or, length-drop}
use borrow.Author.Tests.{eq-eqb, ne_eqb}
use Rattle.language.specs.Limits.{desk}
use Rattle.language.specs.Trees.{Hedge, Literal, eqn, mem, Conj, Var, tv, hv, fv, eq_v, holds, in_conj}
use Rattle.language.specs.Writing.{literal_words, conj_words}
use Rattle.rules.specs.Solved.{or_else, given, variable, alone, solves}
use Rattle.rules.specs.Example.{binds, bound}
use Rattle.rules.proofs.Answers.{Where}
use Rattle.views.specs.Views.{Sees}
use Rattle.views.specs.declared.View.{View}
use Rattle.views.specs.Variables.{variable_word, fine_var}
use Rattle.views.specs.Standing.{LiteralAt}
use Rattle.views.proofs.Sides.{side-stands}
use Rattle.views.proofs.Members.{eqb-base}
use Rattle.words.proofs.Parts.{word-of}
use Rattle.values.specs.Lines.{Named, Word, Held, held, unheld}
use Rattle.values.specs.Binding.{sole_word, BoundBy, to, free}
use Rattle.values.specs.declared.Variable.{Variable}
use Rattle.values.specs.declared.bindings.Part.{Part}
use Rattle.values.proofs.Walks.{literal-here}
use Rattle.alone.proofs.Sides.{side-fine, word_some}

-- different words are of different variables
pub eqb-words : (u v : Var) → fine_var desk u → fine_var desk v → eqb (variable_word u) (variable_word v) ≡ eq_v u v
eqb-words (tv x) (tv y) f g = eqb-base 1000 x.0 y.0
eqb-words (tv x) (hv q) f g = ne_eqb (1000 + x.0) (2000 + q.0) (omega arith)
eqb-words (tv x) (fv Y) f g = ne_eqb (1000 + x.0) (4000 + Y.0) (omega arith)
eqb-words (hv p) (tv y) f g = ne_eqb (2000 + p.0) (1000 + y.0) (omega arith)
eqb-words (hv p) (hv q) f g = eqb-base 2000 p.0 q.0
eqb-words (hv p) (fv Y) f g = ne_eqb (2000 + p.0) (4000 + Y.0) (omega arith)
eqb-words (fv X) (tv y) f g = ne_eqb (4000 + X.0) (1000 + y.0) (omega arith)
eqb-words (fv X) (hv q) f g = ne_eqb (4000 + X.0) (2000 + q.0) (omega arith)
eqb-words (fv X) (fv Y) f g = eqb-base 4000 X.0 Y.0

-- ---- one side

module _ (K : Conj) (r : Hedge) where
  -- where a side solves a variable, the other side is what it is equal to
  sole : (m : Option Var) → Where (fine_var desk) m → (v : Var) (x y : ℕ) → Word v x → y ≡ sole_word (alone K r m) → binds v (alone K r m) ≡ given (eqb y x) r
  sole none f v x y w e = ap (λ b. given b r) (sym (ne_eqb y x (λ z. word_some v (sym w.is ∙ sym z ∙ e))))
  sole (some u) f v x y w e = by (not (holds u r || in_conj u K)) e
    where
      by : (b : Bool) → y ≡ sole_word (given b (u, r)) → binds v (given b (u, r)) ≡ given (eqb y x) r
      by true e = ap (λ b. given b r) (sym (ap (λ z. eqb z x) e ∙ ap (eqb (variable_word u)) w.is ∙ eqb-words u v f w.fine))
      by false e = ap (λ b. given b r) (sym (ne_eqb y x (λ z. word_some v (sym w.is ∙ sym z ∙ e))))

-- ---- both sides

first : (a : Option (Var × Hedge)) (more : Unit {0} → Option (Var × Hedge)) → (sole_word a ≡ 0 → ⊥) → or_else a more ≡ a
first none more n = absurd (n refl)
first (some b) more n = refl

second : (a : Option (Var × Hedge)) (more : Unit {0} → Option (Var × Hedge)) → sole_word a ≡ 0 → or_else a more ≡ more tt
second none more n = refl
second (some b) more n = absurd (word_some b.0 n)

module _ {k : List ℕ} {u : View} {before behind : Conj} {l r : Hedge} {v : Var} {x y : ℕ} (s : Sees k u before l r behind) (w : Word v x)
    (e : y ≡ sole_word (alone (before ++ behind) r (variable l r))) where
  on-left : binds v (alone (before ++ behind) r (variable l r)) ≡ given (eqb y x) r
  on-left = sole (before ++ behind) r (variable l r) (side-fine l r s.left.fine) v x y w e

  pub bound-left : y ≡ x → BoundBy k (binds v (solves (before ++ behind) (eqn l r))) (Some (record { from = u.r.from; to = u.r.to }))
  bound-left z =
      to r s.right.beyond
      (ap (binds v) (first (alone (before ++ behind) r (variable l r)) _ (λ n. word_some v (sym w.is ∙ sym z ∙ e ∙ n))) ∙ on-left ∙ ap (λ b. given b r) (eq-eqb y x z))
      (side-stands s.right) s.right.to

  pub free-left : (y ≡ x → ⊥) → (y ≡ 0 → ⊥) → BoundBy k (binds v (solves (before ++ behind) (eqn l r))) None
  free-left z n =
      free (ap (binds v) (first (alone (before ++ behind) r (variable l r)) _ (λ q. n (e ∙ q))) ∙ on-left ∙ ap (λ b. given b r) (ne_eqb y x z))

  module _ {t : View} {z : ℕ} (q : Sees k t before r l behind) (n : y ≡ 0) (d : z ≡ sole_word (alone (before ++ behind) l (variable r l))) where
    on-right : binds v (solves (before ++ behind) (eqn l r)) ≡ given (eqb z x) l
    on-right =
        ap (binds v) (second (alone (before ++ behind) r (variable l r)) _ (sym e ∙ n))
        ∙ sole (before ++ behind) l (variable r l) (side-fine r l s.right.fine) v x z w d

    pub bound-right : z ≡ x → BoundBy k (binds v (solves (before ++ behind) (eqn l r))) (Some (record { from = t.r.from; to = t.r.to }))
    bound-right i = to l q.right.beyond (on-right ∙ ap (λ b. given b l) (eq-eqb z x i)) (side-stands q.right) q.right.to

    pub free-right : (z ≡ x → ⊥) → BoundBy k (binds v (solves (before ++ behind) (eqn l r))) None
    free-right i = free (on-right ∙ ap (λ b. given b l) (ne_eqb z x i))

-- ---- the literal

-- what is told of the equation at a place
abbrev pub Seen : List ℕ → ℕ → View → Type 0
Seen k at u = (before : Conj) (l r : Hedge) (behind : Conj) → LiteralAt k at before (eqn l r) behind → Sees k u before l r behind

abbrev pub Swaps : View → View → Type 0
Swaps u t = (k : List ℕ) (before behind : Conj) (l r : Hedge) → Sees k u before l r behind → Sees k t before r l behind

-- what is told of the side seen first
abbrev pub Solves : List ℕ → View → ℕ → Type 0
Solves k u y = (before : Conj) (l r : Hedge) (behind : Conj) → Sees k u before l r behind → y ≡ sole_word (alone (before ++ behind) r (variable l r))

module _ {k : List ℕ} {at : ℕ} {before behind : Conj} where
  starts : {l : Literal} → LiteralAt k at before l behind → get_or k at 0 ≡ get_or (literal_words l ++ conj_words behind) 0 0
  starts {l} a = word-of k at (literal_words l ++ conj_words behind) (literal-here a)

  inside : (l : Literal) → LiteralAt k at before l behind → at < length k
  inside (eqn l r) a = omega (arith, length-drop at k, ap length (literal-here a))
  inside (mem h R) a = omega (arith, length-drop at k, ap length (literal-here a))

  pub bound-past : {b : std.Option Part} {l : Literal} (v : Var) → length k ≤ at → LiteralAt k at before l behind → BoundBy k (binds v (solves (before ++ behind) l)) b
  bound-past {b} {l} v i a = absurd (let n = inside l a in omega arith)

  pub free_other : (l : Literal) (v : Var) → LiteralAt k at before l behind → (get_or k at 0 ≡ 5000 → ⊥) → BoundBy k (binds v (solves (before ++ behind) l)) None
  free_other (eqn l r) v a n = absurd (n (starts a))
  free_other (mem h R) v a n = free refl

  module _ (v : Var) {x : ℕ} {u : View} {y : ℕ} (z : get_or k at 0 ≡ 5000) (s : Seen k at u) (e : Solves k u y) where
    pub in_left : (l : Literal) → LiteralAt k at before l behind → Word v x → y ≡ x → BoundBy k (binds v (solves (before ++ behind) l)) (Some (record { from = u.r.from; to = u.r.to }))
    in_left (eqn l r) a w i = let q = s before l r behind a in bound-left q w (e before l r behind q) i
    in_left (mem h R) a w i = absurd (let g = starts a in omega arith)

    pub not_left : (l : Literal) → LiteralAt k at before l behind → Word v x → (y ≡ x → ⊥) → (y ≡ 0 → ⊥) → BoundBy k (binds v (solves (before ++ behind) l)) None
    not_left (eqn l r) a w i n = let q = s before l r behind a in free-left q w (e before l r behind q) i n
    not_left (mem h R) a w i n = free refl

    module _ {t : View} {c : ℕ} (n : y ≡ 0) (p : Swaps u t) (d : Solves k t c) where
      pub in_right : (l : Literal) → LiteralAt k at before l behind → Word v x → c ≡ x → BoundBy k (binds v (solves (before ++ behind) l)) (Some (record { from = t.r.from; to = t.r.to }))
      in_right (eqn l r) a w i =
          let q = s before l r behind a in
          let o = p k before behind l r q in
          bound-right q w (e before l r behind q) o n (d before r l behind o) i
      in_right (mem h R) a w i = absurd (let g = starts a in omega arith)

      pub not_right : (l : Literal) → LiteralAt k at before l behind → Word v x → (c ≡ x → ⊥) → BoundBy k (binds v (solves (before ++ behind) l)) None
      not_right (eqn l r) a w i =
          let q = s before l r behind a in
          let o = p k before behind l r q in
          free-right q w (e before l r behind q) o n (d before r l behind o) i
      not_right (mem h R) a w i = free refl

-- ---- the line

pub bound-held : {k : List ℕ} {c : Conj} {v : Var} {x : Variable} {at : ℕ} {p : std.Option ℕ} {b : std.Option Part} → Named v x → Held k c v p → p ≡ Some at
    → ((before : Conj) (l : Literal) (behind : Conj) (u : Var) → LiteralAt k at before l behind → Named u x → BoundBy k (binds u (solves (before ++ behind) l)) b) → BoundBy k (bound v [] c) b
bound-held {k} {c} {v} {x} {at} {p} {b} w (held {at = i} before l behind a e) d g =
    let z : i ≡ at = cc in
    let q : LiteralAt k at before l behind = rw z at a in
    rw e (g before l behind v q w)
bound-held w (unheld e) d g = let z : ◌≡◌ {A = ℕ} 0 1 = cc in absurd (omega arith)

pub bound-nowhere : {k : List ℕ} {c : Conj} {v : Var} {p : std.Option ℕ} → Held k c v p → p ≡ None → BoundBy k (bound v [] c) None
bound-nowhere (held before l behind a e) d = let z : ◌≡◌ {A = ℕ} 0 1 = cc in absurd (omega arith)
bound-nowhere (unheld e) d = free e
