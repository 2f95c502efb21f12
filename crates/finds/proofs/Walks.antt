-- A walk along the elements of a hedge, and what each step of it keeps.
use mathlib.Core.Path.{◌≡◌, refl, ap, ◌∙◌}
use mathlib.Core.Bool.{Bool, true, false, not}
use mathlib.Core.List.{List}
use Prim.Native.Nat.{ℕ, suc, ◌+◌, ◌<◌}
use native.Mathlib.Omega.{arith}
use lib.Dec.{eqb}
use lib.ListN.{length, get_or, length-append}
use Rattle.language.specs.Limits.{desk}
use Rattle.language.specs.Trees.{symbol, fvar, Hedge, ε, tvar, hvar, node, ◌⧺◌}
use Rattle.language.specs.Fine.{fine_hedge}
use Rattle.language.proofs.Words.{kind-end, kind-term, kind-run, kind-symbol, kind-function}
use Rattle.rules.specs.Looks.{empty, has_term, all_terms}
use Rattle.views.specs.Looks.{head, tail, body_words}
use Rattle.words.specs.Spans.{element_end}
use Rattle.views.specs.Standing.{Stands}
use Rattle.finds.specs.Walks.{begins_by, term_word, runs_by, run_word, size}
use Rattle.views.proofs.Words.{body-join, first_word}
use Rattle.words.proofs.Spans.{element-more}
use Rattle.views.proofs.Spans.{stands_word, stands-next, stands-place}
use Rattle.views.proofs.Looks.{empty-word}

-- ---- which words begin what

abbrev pub begins_term : Hedge → Bool
begins_term ε = false
begins_term (tvar x r) = true
begins_term (hvar p r) = false
begins_term (node f c r) = true

abbrev pub begins_run : Hedge → Bool
begins_run ε = false
begins_run (tvar x r) = false
begins_run (hvar p r) = true
begins_run (node f c r) = false

first_run : (h : Hedge) → fine_hedge desk h → run_word (first_word h) ≡ begins_run h
unfolding run_word
first_run ε f = ap runs_by (kind-end desk)
first_run (tvar x r) f = ap runs_by (kind-term desk x f.0)
first_run (hvar p r) f = ap runs_by (kind-run desk p f.0)
first_run (node (symbol g) c r) f = ap runs_by (kind-symbol desk g f.0)
first_run (node (fvar X) c r) f = ap runs_by (kind-function desk X f.0)

first-term : (h : Hedge) → fine_hedge desk h → term_word (first_word h) ≡ begins_term h
unfolding term_word
first-term ε f = ap begins_by (kind-end desk)
first-term (tvar x r) f = ap begins_by (kind-term desk x f.0)
first-term (hvar p r) f = ap begins_by (kind-run desk p f.0)
first-term (node (symbol g) c r) f = ap begins_by (kind-symbol desk g f.0)
first-term (node (fvar X) c r) f = ap begins_by (kind-function desk X f.0)

-- the same of the word that stands where h does
module _ {k : List ℕ} {i : ℕ} {h : Hedge} {beyond : List ℕ} {x : ℕ} (s : Stands k i h beyond) (e : x ≡ get_or k i 0) where
  pub word-run : run_word x ≡ begins_run h
  word-run = ap run_word (e ∙ stands_word s) ∙ first_run h s.fine

  pub word-term : term_word x ≡ begins_term h
  word-term = ap term_word (e ∙ stands_word s) ∙ first-term h s.fine

  pub word-empty : eqb x 0 ≡ empty h
  word-empty = ap (λ n. eqb n 0) (e ∙ stands_word s) ∙ empty-word h

-- ---- the walk

-- at i, after the elements `done`, stands what is left; P holds of the two
pub record Passed (k : List ℕ) (at i : ℕ) (beyond : List ℕ) (P : Hedge → Hedge → Type 0) : Type 0 where
  pub done : Hedge
  pub left : Hedge
  pub place : i ≡ at + length (body_words done)
  pub here : Stands k i left beyond
  pub keeps : P done left

pub pass-start : {k : List ℕ} {at : ℕ} {h : Hedge} {beyond : List ℕ} {P : Hedge → Hedge → Type 0} → Stands k at h beyond → P ε h → Passed k at at beyond P
pass-start {k} {at} {h} s p = record { done = ε; left = h; place = omega arith; here = s; keeps = p }

pub pass_on : {k : List ℕ} {at i e : ℕ} {beyond : List ℕ} {P Q : Hedge → Hedge → Type 0} → e ≡ element_end k i → Passed k at i beyond P
    → ((done left : Hedge) → Stands k i left beyond → P done left → Q (done ⧺ head left) (tail left)) → Passed k at e beyond Q
pass_on {k} {at} {i} {e} {beyond} {P} {Q} d s step = record {
  done = s.done ⧺ head s.left;
  left = tail s.left;
  place =
      let a = d ∙ stands-place s.here in
      let b = s.place in
      let l = ap length (body-join s.done (head s.left)) ∙ length-append (body_words s.done) (body_words (head s.left)) in
      omega arith;
  here = rw d (stands-next s.here);
  keeps = step s.done s.left s.here s.keeps;
}

-- past the first element
pub pass-first : {k : List ℕ} {at e : ℕ} {h : Hedge} {beyond : List ℕ} {Q : Hedge → Hedge → Type 0} → e ≡ element_end k at → Stands k at h beyond → Q (head h) (tail h) → Passed k at e beyond Q
pass-first {k} {at} {e} {h} d s q = record { done = head h; left = tail h; place = d ∙ stands-place s; here = rw d (stands-next s); keeps = q }

-- a step goes on
pub goes_on : (k : List ℕ) (i : ℕ) {x e : ℕ} → x ≡ get_or k i 0 → e ≡ element_end k i → (x ≡ 0 → ⊥) → (i < e) × (i < length k)
goes_on k i {x} {e} a b nz = let z = element-more k i (λ q. nz (a ∙ q)) in (omega arith, omega arith)

pub run-some : (x : ℕ) → run_word x ≡ true → x ≡ 0 → ⊥
unfolding run_word
run-some x e z = let a = ap run_word z ∙ ap runs_by (kind-end desk) in let y : ◌≡◌ {A = ℕ} 0 1 = cc in omega arith

pub term-some : (x : ℕ) → term_word x ≡ true → x ≡ 0 → ⊥
unfolding term_word
term-some x e z = let a = ap term_word z ∙ ap begins_by (kind-end desk) in let y : ◌≡◌ {A = ℕ} 0 1 = cc in omega arith

-- ---- terms, hedge variables

pub has_term-on : (h : Hedge) → begins_run h ≡ true → has_term (tail h) ≡ has_term h
has_term-on ε e = refl
has_term-on (tvar x r) e = absurd (let y : ◌≡◌ {A = ℕ} 0 1 = cc in omega arith)
has_term-on (hvar p r) e = refl
has_term-on (node f c r) e = absurd (let y : ◌≡◌ {A = ℕ} 0 1 = cc in omega arith)

pub has_term-end : (h : Hedge) → begins_run h ≡ false → not (empty h) ≡ has_term h
has_term-end ε e = refl
has_term-end (tvar x r) e = refl
has_term-end (hvar p r) e = absurd (let y : ◌≡◌ {A = ℕ} 0 1 = cc in omega arith)
has_term-end (node f c r) e = refl

pub all_terms-on : (h : Hedge) → begins_term h ≡ true → (all_terms (tail h) ≡ all_terms h) × (suc (size (tail h)) ≡ size h)
all_terms-on ε e = absurd (let y : ◌≡◌ {A = ℕ} 0 1 = cc in omega arith)
all_terms-on (tvar x r) e = (refl, refl)
all_terms-on (hvar p r) e = absurd (let y : ◌≡◌ {A = ℕ} 0 1 = cc in omega arith)
all_terms-on (node f c r) e = (refl, refl)

pub all_terms-end : (h : Hedge) → begins_term h ≡ false → (empty h ≡ all_terms h) × (empty h ≡ true → size h ≡ 0)
all_terms-end ε e = (refl, λ _. refl)
all_terms-end (tvar x r) e = absurd (let y : ◌≡◌ {A = ℕ} 0 1 = cc in omega arith)
all_terms-end (hvar p r) e = (refl, λ z. absurd (let y : ◌≡◌ {A = ℕ} 0 1 = cc in omega arith))
all_terms-end (node f c r) e = absurd (let y : ◌≡◌ {A = ℕ} 0 1 = cc in omega arith)
