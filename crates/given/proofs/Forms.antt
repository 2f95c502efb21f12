-- The forms of the values, one by one, and that each value has its form.
use Prim.Native.Nat.{ℕ, suc, ◌+◌, ◌-◌, ◌<◌, ◌≤◌}
use mathlib.Core.Path.{◌≡◌, refl, sym, ap, ◌∙◌}
use mathlib.Core.Bool.{Bool, true, false, ◌&&◌}
use mathlib.Core.List.{List, [], ◌∷◌, ◌++◌}
use mathlib.Core.Option.{Option, none, some}
use native.Mathlib.Omega.{arith}
use lib.Dec.{ltb, eqb}
use lib.ListN.{length, get_or, drop, length-append, get_or-append, drop_of_length-le, replicate, length-replicate, get_or-replicate}
use lib.Seq.{drop-cons, get_or-append-add}
use borrow.Author.Tests.{lt-ltb, le-ltb, ltb-true, ltb-false}
use Rattle.language.specs.Limits.{desk}
use Rattle.language.specs.Trees.{Counts}
use Rattle.language.specs.Reading.{read_hedge}
use Rattle.language.specs.Question.{laid_out, parts}
use Rattle.language.proofs.Offsets.{table-count}
use Rattle.language.proofs.Walks.{passes}
use Rattle.meaning.specs.Complete.{Complete}
use Rattle.meaning.specs.Values.{Form, a_term, a_hedge, a_name, forms, variables, value_of, with_value, values_of}
use Rattle.given.specs.Checking.{is_some, of_form, form_at, Judged, OneTerm, all_of_form}
use Rattle.given.proofs.Plain.{complete-words, name-size}

-- ---- the form at a number

get_d-left : (xs ys : List Form) (d : Form) (i : ℕ) → i < length xs → get_or (xs ++ ys) i d ≡ get_or xs i d
get_d-left xs ys d i p = get_or-append xs ys d i p

get_d-right : (xs ys : List Form) (d : Form) (i : ℕ) → length xs ≤ i → get_or (xs ++ ys) i d ≡ get_or ys (i - length xs) d
get_d-right xs ys d i p = ap (λ j. get_or (xs ++ ys) j d) (let z : i ≡ length xs + (i - length xs) = omega arith in z) ∙ get_or-append-add xs ys (i - length xs) d

module _ (n : Counts) where
  pub at-term : (i : ℕ) → i < n.terms → form_at n i ≡ a_term
  at-term i p = rw (lt-ltb i n.terms p)

  pub at-hedge : (i : ℕ) → n.terms ≤ i → i < n.terms + n.hedges → form_at n i ≡ a_hedge
  at-hedge i p q = rw (le-ltb i n.terms p, lt-ltb i (n.terms + n.hedges) q)

  pub at_name : (i : ℕ) → n.terms + n.hedges ≤ i → form_at n i ≡ a_name
  at_name i q = rw (le-ltb i n.terms (omega arith), le-ltb i (n.terms + n.hedges) q)

  abbrev others : List Form
  others = replicate n.hedges a_hedge ++ replicate n.functions a_name

  pub forms-length : length (forms n) ≡ variables n
  forms-length =
      let a = length-append (replicate n.terms a_term) others in
      let b = length-append (replicate n.hedges a_hedge) (replicate n.functions a_name) in
      omega (arith, length-replicate n.terms a_term, length-replicate n.hedges a_hedge, length-replicate n.functions a_name)

  pub form-is : (i : ℕ) → i < variables n → (b c : Bool) → ltb i n.terms ≡ b → ltb i (n.terms + n.hedges) ≡ c → get_or (forms n) i a_term ≡ form_at n i
  form-is i p true c e g =
      let l = ltb-true i n.terms e in
      get_d-left (replicate n.terms a_term) others a_term i (omega (arith, length-replicate n.terms a_term)) ∙ get_or-replicate n.terms i a_term a_term l ∙ sym (at-term i l)
  form-is i p false true e g =
      let l = ltb-false i n.terms e in
      let m = ltb-true i (n.terms + n.hedges) g in
      let t = length-replicate n.terms a_term in
      get_d-right (replicate n.terms a_term) others a_term i (omega arith)
      ∙ get_d-left (replicate n.hedges a_hedge) (replicate n.functions a_name) a_term (i - length (replicate n.terms a_term)) (omega (arith, length-replicate n.hedges a_hedge))
      ∙ get_or-replicate n.hedges (i - length (replicate n.terms a_term)) a_hedge a_term (omega arith)
      ∙ sym (at-hedge i l m)
  form-is i p false false e g =
      let m = ltb-false i (n.terms + n.hedges) g in
      let t = length-replicate n.terms a_term in
      let h = length-replicate n.hedges a_hedge in
      get_d-right (replicate n.terms a_term) others a_term i (omega arith)
      ∙ get_d-right (replicate n.hedges a_hedge) (replicate n.functions a_name) a_term (i - length (replicate n.terms a_term)) (omega arith)
      ∙ get_or-replicate n.functions (i - length (replicate n.terms a_term) - length (replicate n.hedges a_hedge)) a_name a_term (omega arith)
      ∙ sym (at_name i m)

  pub forms-cons : (i : ℕ) → i < variables n → drop i (forms n) ≡ form_at n i ∷ drop (suc i) (forms n)
  forms-cons i p = drop-cons (forms n) i a_term (omega (arith, forms-length)) ∙ ap (λ f. f ∷ drop (suc i) (forms n)) (form-is i p (ltb i n.terms) (ltb i (n.terms + n.hedges)) refl refl)

-- ---- whether a value has its form

module _ (n : Counts) (ws : List ℕ) (i : ℕ) {b : Bool} (j : Judged n ws b) where
  pub fits-none : b ≡ false → false ≡ of_form n (form_at n i) ws
  fits-none e = sym (j.not_plain e (form_at n i))

  pub fits-term : b ≡ true → i < n.terms → {r : Bool} → OneTerm ws r → r ≡ of_form n (form_at n i) ws
  fits-term e l o = let p = j.plain e in o.each p.h p.g p.it ∙ sym (ap (λ f. of_form n f ws) (at-term n i l) ∙ p.form a_term)

  pub fits-hedge : b ≡ true → n.terms ≤ i → i < n.terms + n.hedges → true ≡ of_form n (form_at n i) ws
  fits-hedge e l m = let p = j.plain e in sym (ap (λ f. of_form n f ws) (at-hedge n i l m) ∙ p.form a_hedge)

  pub fits-name : b ≡ true → n.terms + n.hedges ≤ i → eqb (length ws) 3 ≡ of_form n (form_at n i) ws
  fits-name e m =
      let p = j.plain e in
      ap (λ l. eqb (length l) 3) (p.it.words ∙ complete-words p.h p.g p.it.is) ∙ name-size p.g ∙ sym (ap (λ f. of_form n f ws) (at_name n i m) ∙ p.form a_name)

-- ---- the values, one after another

with-some : (v : Option Complete) (vs : Option (List Complete)) → (is_some v && is_some vs) ≡ is_some (with_value v vs)
with-some none vs = refl
with-some (some v) none = refl
with-some (some v) (some vs) = refl

-- whether the value numbered i has its form
abbrev pub value_test : Counts → ℕ → List ℕ → Bool
value_test n i ws = of_form n (form_at n i) ws

values-pass : (n : Counts) (i : ℕ) (ps : List (List ℕ)) → i + length ps ≡ variables n → passes (value_test n) i ps ≡ is_some (values_of desk n (drop i (forms n)) ps)
unfolding passes of_form
values-pass n i [] e =
    let z : length (forms n) ≤ i = omega (arith, forms-length n) in
    sym (ap (λ fs. is_some (values_of desk n fs [])) (drop_of_length-le (forms n) z))
values-pass n i (p ∷ ps) e =
    ap (λ b. of_form n (form_at n i) p && b) (values-pass n (suc i) ps (omega arith))
    ∙ with-some (value_of n (form_at n i) (length p) (read_hedge desk p)) (values_of desk n (drop (suc i) (forms n)) ps)
    ∙ ap (λ fs. is_some (values_of desk n fs (p ∷ ps))) (sym (forms-cons n i (omega arith)))

pub all_pass : (n : Counts) (ws : List ℕ) (m : ℕ) → m ≡ variables n → laid_out 1 m ws ≡ true → passes (value_test n) 0 (parts 1 m ws) ≡ all_of_form n ws
unfolding all_of_form
all_pass n ws m e l = values-pass n 0 (parts 1 m ws) (omega (arith, table-count 1 m ws l)) ∙ ap (λ k. is_some (values_of desk n (forms n) (parts 1 k ws))) e
