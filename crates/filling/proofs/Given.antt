-- What is known of a filling that is not refused: each of its values stands in its words, and has its form.
use Prim.Native.Nat.{ℕ, zero, suc, ◌+◌, ◌<◌, ◌≤◌}
use mathlib.Core.Path.{◌≡◌, refl, sym, ap, subst, ◌∙◌}
use mathlib.Core.Bool.{Bool, true, false, ◌&&◌}
use mathlib.Core.List.{List, [], ◌∷◌}
use mathlib.Core.Option.{Option, none, some}
use native.Mathlib.Omega.{arith}
use lib.Dec.{leb, eqb}
use lib.ListN.{length, get_or}
use borrow.Author.Tests.{leb-true, eqb-true}
use Rattle.language.specs.declared.Refusal.{Refusal}
use Rattle.language.specs.declared.Refusal.TheVariants.{FillingLayout, FillingValue}
use Rattle.language.specs.Limits.{desk}
use Rattle.language.specs.Trees.{Hedge, Counts}
use Rattle.language.specs.Reading.{Got, got, stop, read_hedge}
use Rattle.language.specs.Question.{laid_out, parts, declared}
use Rattle.language.specs.Between.{between}
use Rattle.language.proofs.Bools.{both_true}
use Rattle.language.proofs.Offsets.{laid-length, part-is, table-part}
use Rattle.meaning.specs.Complete.{Complete, nil, complete_words}
use Rattle.meaning.specs.Meaning.{Filling}
use Rattle.meaning.specs.Values.{complete, Form, a_term, fits, fitting, forms, variables, value_of, with_value, values_of, filling, Given, gives, refuses, read_filling}
use Rattle.filling.specs.Showing.{offset, ending}
use Rattle.given.specs.Checking.{form_at}
use Rattle.given.proofs.Plain.{its-words, complete-words}
use Rattle.given.proofs.Forms.{at-term, at_name, forms-length, form-is}
use Rattle.filling.proofs.Values.{Values}

-- ---- one value

none≢ : {A B : Type 0} {a : A} → ◌≡◌ {A = Option A} none (some a) → B
none≢ e = absurd (let z : ◌≡◌ {A = ℕ} 0 1 = cc in omega arith)

fitted : (f : Form) (o : Option Complete) (g : Complete) → fitting f o ≡ some g → (o ≡ some g) × (fits f g ≡ true)
fitted f none g e = none≢ e
fitted f (some u) g e = on (fits f u) refl e
  where
    on : (b : Bool) → fits f u ≡ b → elim b [ true ↦ some u | false ↦ none ] ≡ some g → (some u ≡ some g) × (fits f g ≡ true)
    on false i e = none≢ e
    on true i e = let z : u ≡ g = cc in (e, ap (fits f) (sym z) ∙ i)

value-is : (n : Counts) (f : Form) (ws : List ℕ) (g : Complete) → value_of n f (length ws) (read_hedge desk ws) ≡ some g → (ws ≡ complete_words g) × (fits f g ≡ true)
value-is n f ws g e = on (read_hedge desk ws) refl e
  where
    on : (x : Got Hedge) → read_hedge desk ws ≡ x → value_of n f (length ws) x ≡ some g → (ws ≡ complete_words g) × (fits f g ≡ true)
    on (stop k) i e = none≢ e
    on (got h k) i e = test (eqb k (length ws) && declared n h) refl e
      where
        test : (b : Bool) → (eqb k (length ws) && declared n h) ≡ b → elim b [ true ↦ fitting f (complete h) | false ↦ none ] ≡ some g → (ws ≡ complete_words g) × (fits f g ≡ true)
        test false j e = none≢ e
        test true j e =
            let t = both_true (eqb k (length ws)) (declared n h) j in
            let (is, fit) = fitted f (complete h) g e in
            ((its-words n ws h k i (eqb-true k (length ws) t.0)).1 ∙ complete-words h g is, fit)

-- ---- all values

value-at : (n : Counts) (fs : List Form) (ps : List (List ℕ)) (vs : List Complete) → values_of desk n fs ps ≡ some vs → (i : ℕ) → i < length fs
    → (get_or ps i [] ≡ complete_words (get_or vs i nil)) × (fits (get_or fs i a_term) (get_or vs i nil) ≡ true)
value-at n [] ps vs e i p = absurd (omega arith)
value-at n (f ∷ fs) [] vs e i p = none≢ e
value-at n (f ∷ fs) (ws ∷ ps) vs e i p = on (value_of n f (length ws) (read_hedge desk ws)) refl (values_of desk n fs ps) (value-at n fs ps) e
  where
    on : (x : Option Complete) → value_of n f (length ws) (read_hedge desk ws) ≡ x
        → (y : Option (List Complete)) → ((us : List Complete) → y ≡ some us → (j : ℕ) → j < length fs → (get_or ps j [] ≡ complete_words (get_or us j nil)) × (fits (get_or fs j a_term) (get_or us j nil) ≡ true))
        → with_value x y ≡ some vs → (get_or (ws ∷ ps) i [] ≡ complete_words (get_or vs i nil)) × (fits (get_or (f ∷ fs) i a_term) (get_or vs i nil) ≡ true)
    on none a y r e = none≢ e
    on (some u) a none r e = none≢ e
    on (some u) a (some us) r e = let z : (u ∷ us) ≡ vs = cc in subst (λ vs. (get_or (ws ∷ ps) i [] ≡ complete_words (get_or vs i nil)) × (fits (get_or (f ∷ fs) i a_term) (get_or vs i nil) ≡ true)) z (at i p)
      where
        at : (i : ℕ) → i < length (f ∷ fs) → (get_or (ws ∷ ps) i [] ≡ complete_words (get_or (u ∷ us) i nil)) × (fits (get_or (f ∷ fs) i a_term) (get_or (u ∷ us) i nil) ≡ true)
        at zero p = value-is n f ws u a
        at (suc j) p = r us refl j (omega arith)

-- ---- where each stands

module _ (m : ℕ) (fs : List ℕ) (laid : laid_out 1 m fs ≡ true) where
  filling-part : (i : ℕ) → i < m → (get_or (parts 1 m fs) i [] ≡ between (offset fs i) (ending fs i) fs) × (i + 2 < length fs) × (ending fs i ≤ length fs)
  filling-part i p =
      let l = laid-length 1 m fs laid in
      let r = table-part 1 m fs laid i (i + 1) (i + 2) p (omega arith) (omega arith) in
      (part-is r, omega arith, r.high)

-- ---- the filling

-- what was read: its layout is right, and these are its values
pub record Was (n : Counts) (fs : List ℕ) (ρ : Filling) : Type 0 where
  pub vs : List Complete
  pub few : length fs ≤ desk.filling
  pub laid : laid_out 1 (variables n) fs ≡ true
  pub read : values_of desk n (forms n) (parts 1 (variables n) fs) ≡ some vs
  pub is : ρ ≡ filling n vs

refused≢ : {A : Type 0} {r : Refusal} {ρ : Filling} → refuses r ≡ gives ρ → A
refused≢ e = absurd (let z : ◌≡◌ {A = ℕ} 0 1 = cc in omega arith)

module _ (n : Counts) (fs : List ℕ) (ρ : Filling) where
  abbrev layout : Bool
  layout = leb (length fs) desk.filling && eqb (get_or fs 0 0) (variables n) && laid_out 1 (variables n) fs

  abbrev of_values : Option (List Complete) → Given
  of_values o = elim o [ none ↦ refuses FillingValue | some vs ↦ gives (filling n vs) ]

  abbrev of_layout : Bool → Given
  of_layout b = elim b [ false ↦ refuses FillingLayout | true ↦ of_values (values_of desk n (forms n) (parts 1 (variables n) fs)) ]

  opened : read_filling desk n fs ≡ of_layout layout
  unfolding read_filling
  opened = refl

  pub was : read_filling desk n fs ≡ gives ρ → Was n fs ρ
  was e = on layout refl (sym opened ∙ e)
    where
      values : layout ≡ true → (o : Option (List Complete)) → values_of desk n (forms n) (parts 1 (variables n) fs) ≡ o → of_values o ≡ gives ρ → Was n fs ρ
      values l none r e = refused≢ e
      values l (some vs) r e =
          let a = both_true (leb (length fs) desk.filling && eqb (get_or fs 0 0) (variables n)) (laid_out 1 (variables n) fs) l in
          let b = both_true (leb (length fs) desk.filling) (eqb (get_or fs 0 0) (variables n)) a.0 in
          record { vs = vs; few = leb-true (length fs) desk.filling b.0; laid = a.1; read = r; is = cc }

      on : (b : Bool) → layout ≡ b → of_layout b ≡ gives ρ → Was n fs ρ
      on false l e = refused≢ e
      on true l e = values l (values_of desk n (forms n) (parts 1 (variables n) fs)) refl e

  pub has-values : (w : Was n fs ρ) → Values n fs w.vs
  has-values w = record {
    each = λ i p.
        let (part, there, inside) = filling-part (variables n) fs w.laid i p in
        record { there = there; inside = inside; words = sym part ∙ (it i p).0 };
    a-term = λ i p. subst (λ f. fits f (get_or w.vs i nil) ≡ true) (form i (omega arith) ∙ at-term n i p) (it i (omega arith)).1;
    a-name = λ i p q. subst (λ f. fits f (get_or w.vs i nil) ≡ true) (form i q ∙ at_name n i p) (it i q).1;
  }
    where
      it : (i : ℕ) → i < variables n → (get_or (parts 1 (variables n) fs) i [] ≡ complete_words (get_or w.vs i nil)) × (fits (get_or (forms n) i a_term) (get_or w.vs i nil) ≡ true)
      it i p = value-at n (forms n) (parts 1 (variables n) fs) w.vs w.read i (omega (arith, forms-length n))

      form : (i : ℕ) → i < variables n → get_or (forms n) i a_term ≡ form_at n i
      form i p = form-is n i p _ _ refl refl
