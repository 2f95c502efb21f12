-- Going along a line keeps where it ends.
use Prim.Native.Nat.{ℕ, ◌+◌, ◌<◌, ◌≤◌}
use mathlib.Core.Path.{◌≡◌, refl, sym, ap, subst, ◌∙◌}
use mathlib.Core.List.{List, []}
use native.Mathlib.Numerals.{add-one}
use native.Mathlib.Omega.{arith}
use lib.ListN.{length, get_or, drop, length-drop, drop_of_length-le}
use lib.Seq.{drop-cons}
use borrow.Author.Tests.{eq-eqb, ne_eqb}
use Rattle.cases.specs.Lines.{from_line_end, Ends}

module _ (text : List ℕ) (at : ℕ) where
  pub record Along (i : ℕ) : Type 0 where
    pub on : at ≤ i
    pub same : from_line_end (drop i text) ≡ from_line_end (drop at text)

  pub starts : Along at
  starts = record { on = omega arith; same = refl }

  module _ {i : ℕ} (a : Along i) where
    pub passes : i < length text → (get_or text i 0 ≡ 10 → ⊥) → Along (i + 1)
    unfolding from_line_end
    passes p n = record {
      on = let z = a.on in omega arith;
      same = ap (λ k. from_line_end (drop k text)) (add-one i) ∙ sym (ap from_line_end (drop-cons text i 0 p) ∙ rw (ne_eqb (get_or text i 0) 10 n)) ∙ a.same;
    }

    pub ends-here : i < length text → get_or text i 0 ≡ 10 → Ends text at i
    unfolding from_line_end
    ends-here p e =
        let here : from_line_end (drop i text) ≡ drop i text = ap from_line_end (drop-cons text i 0 p) ∙ (rw (eq-eqb (get_or text i 0) 10 e)) ∙ sym (drop-cons text i 0 p) in
        record {
          place = let z = ap length (sym a.same ∙ here) ∙ length-drop i text in omega (arith, z);
          inside = omega arith;
          ahead = λ q. a.on;
        }

    pub ends_last : length text ≤ i → Ends text at (length text)
    unfolding from_line_end
    ends_last p =
        let none : from_line_end (drop i text) ≡ [] = ap from_line_end (drop_of_length-le text p) in
        record {
          place = let z = ap length (sym a.same ∙ none) in omega (arith, z);
          inside = omega arith;
          ahead = λ q. q;
        }

    -- a line without an end ends where the text does
    pub ends-as : {e : ℕ} → e ≡ length text → length text ≤ i → Ends text at e
    ends-as {e} q p = subst (Ends text at) (sym q) (ends_last p)
