-- Marking a hedge variable, and what the marks say once a part is gone through.
use mathlib.Core.Path.{◌≡◌, refl, sym, subst, ap, ◌∙◌}
use mathlib.Core.Bool.{Bool, true, false, ◌||◌}
use mathlib.Core.List.{List, [], ◌∷◌}
use Prim.Native.Nat.{ℕ, zero, suc, ◌+◌, ◌<◌}
use native.Mathlib.Omega.{arith}
use lib.Dec.{eqb}
use lib.ListN.{length, get_or, set, length-set}
use lib.Seq.{get_or-set_same, get_or-set_other}
use borrow.Author.Tests.{eqb-true, eqb-false}
use Rattle.std.specs.Prelude.{Some, None}
use Rattle.language.specs.declared.HedgeVar.{HedgeVar}
use Rattle.language.specs.declared.Kind.{Kind}
use Rattle.language.specs.declared.Kind.TheVariants.{End, Term, Run, Symbol, Function, Equation, Membership, Eps, Cat, Alt, Star, Other}
use Rattle.language.specs.Limits.{desk}
use Rattle.language.specs.Kinds.{kind_of}
use Rattle.language.proofs.Words.{Is, end, term, run, symbol, function, equation, membership, eps, cat, alt, star, other, is}
use Rattle.language.proofs.Arms.{Among, each-kind}
use Rattle.words.specs.Spans.{member}
use Rattle.results.specs.Marked.{marked_by, marked, Marked}

-- ---- what the kind of a word says of its mark

-- a hedge variable, by its word
variable : (x : ℕ) (p : HedgeVar) → kind_of desk x ≡ Run p → (p.0 < desk.each) × (x ≡ 2000 + p.0)
variable x p e = go (subst (Is desk x) e (is desk x))
  where
    go : Is desk x (Run p) → (p.0 < desk.each) × (x ≡ 2000 + p.0)
    go (run p b f) = (b, f)

module _ (s : List Bool) (x : ℕ) {k : Kind} (e : k ≡ kind_of desk x) where
  pub marked-run : (p : HedgeVar) → k ≡ Run p → get_or s p.0 false ≡ marked s x
  unfolding marked
  marked-run p g = ap (marked_by s) (sym g ∙ e)

  pub marked-none : Among (0 ∷ 1 ∷ 3 ∷ 4 ∷ 5 ∷ 6 ∷ 7 ∷ 8 ∷ 9 ∷ 10 ∷ 11 ∷ []) k → false ≡ marked s x
  unfolding marked
  marked-none o =
      each-kind (0 ∷ 1 ∷ 3 ∷ 4 ∷ 5 ∷ 6 ∷ 7 ∷ 8 ∷ 9 ∷ 10 ∷ 11 ∷ []) (λ j. false ≡ marked_by s j) refl (λ v. refl) tt (λ v. refl) (λ v. refl) refl refl refl refl refl refl refl k o ∙ ap (marked_by s) e

pub in_place : (x : ℕ) {k : Kind} → k ≡ kind_of desk x → (p : HedgeVar) → k ≡ Run p → p.0 < desk.each
in_place x e p g = (variable x p (sym e ∙ g)).0

-- one mark more
mark-word : (s : List Bool) (y : ℕ) (p : HedgeVar) → length s ≡ desk.each → kind_of desk y ≡ Run p → (x : ℕ) → marked (set s p.0 true) x ≡ (eqb y x || marked s x)
unfolding marked
mark-word s y p l k x = go (eqb y x) refl
  where
    here : (p.0 < desk.each) × (y ≡ 2000 + p.0)
    here = variable y p k

    apart : {j : Kind} → Is desk x j → (y ≡ x → ⊥) → marked_by (set s p.0 true) j ≡ marked_by s j
    apart (run q b f) ne = get_or-set_other s p.0 q.0 true false (λ same. let h = here.1 in ne (omega arith))
    apart (end f) ne = refl
    apart (term v b f) ne = refl
    apart (symbol v b f) ne = refl
    apart (function v b f) ne = refl
    apart (equation f) ne = refl
    apart (membership f) ne = refl
    apart (eps f) ne = refl
    apart (cat f) ne = refl
    apart (alt f) ne = refl
    apart (star f) ne = refl
    apart other ne = refl

    go : (b : Bool) → eqb y x ≡ b → marked_by (set s p.0 true) (kind_of desk x) ≡ (b || marked_by s (kind_of desk x))
    go true e =
        ap (marked_by (set s p.0 true)) (ap (kind_of desk) (sym (eqb-true y x e)) ∙ k)
        ∙ get_or-set_same s p.0 true false (subst (λ n. p.0 < n) (sym l) here.0)
    go false e = apart (is desk x) (eqb-false y x e)

or_swap : (a b c : Bool) → ((b || a) || c) ≡ (a || (b || c))
or_swap true true c = refl
or_swap true false c = refl
or_swap false true c = refl
or_swap false false c = refl

-- of the words `all` the words `rest` are still to be marked
pub record Marking (s : List Bool) (rest all : List ℕ) : Type 0 where
  pub size : length s ≡ desk.each
  pub told : (x : ℕ) → (marked s x || member x rest) ≡ member x all

abbrev blank : List Bool → Bool
blank [] = true
blank (true ∷ s) = false
blank (false ∷ s) = blank s

blank-at : (s : List Bool) → blank s ≡ true → (i : ℕ) → get_or s i false ≡ false
blank-at [] e i = refl
blank-at (true ∷ s) e i = absurd (let z : ◌≡◌ {A = ℕ} 0 1 = cc in omega arith)
blank-at (false ∷ s) e zero = refl
blank-at (false ∷ s) e (suc i) = blank-at s e i

pub none-marked : (s : List Bool) (all : List ℕ) → length s ≡ desk.each → blank s ≡ true → Marking s all all
unfolding marked
none-marked s all l e = record { size = l; told = λ x. ap (λ b. b || member x all) (none x) }
  where
    by_kind : (k : Kind) → marked_by s k ≡ false
    by_kind (Run p) = blank-at s e p.0
    by_kind End = refl
    by_kind (Term v) = refl
    by_kind (Symbol v) = refl
    by_kind (Function v) = refl
    by_kind Equation = refl
    by_kind Membership = refl
    by_kind Eps = refl
    by_kind Cat = refl
    by_kind Alt = refl
    by_kind Star = refl
    by_kind Other = refl

    none : (x : ℕ) → marked s x ≡ false
    none x = by_kind (kind_of desk x)

module _ {s : List Bool} {rest all : List ℕ} (m : Marking s rest all) where
  pub marking_step : (y : ℕ) (more : List ℕ) → rest ≡ y ∷ more → {k : Kind} → k ≡ kind_of desk y → (p : HedgeVar) → k ≡ Run p → Marking (set s p.0 true) more all
  marking_step y more e j p g = record {
    size = length-set s p.0 true ∙ m.size;
    told = λ x.
        ap (λ b. b || member x more) (mark-word s y p m.size (sym j ∙ g) x) ∙ or_swap (marked s x) (eqb y x) (member x more)
        ∙ sym (ap (λ l. marked s x || member x l) e) ∙ m.told x;
  }

  pub marking-done : rest ≡ [] → Marked all (Some s)
  marking-done e = record {
    told = λ set d x.
        let z : s ≡ set = cc in
        subst (λ s. marked s x ≡ member x all) z (or-none (marked s x) ∙ sym (ap (λ l. marked s x || member x l) e) ∙ m.told x);
  }
    where
      or-none : (b : Bool) → b ≡ (b || false)
      or-none true = refl
      or-none false = refl

-- where they are others too, nothing is said
pub not-only : (all : List ℕ) → Marked all None
not-only all = record { told = λ set e x. absurd (let z : ◌≡◌ {A = ℕ} 0 1 = cc in omega arith) }
