-- Finding the end of a term without variables, one word at a time.
use Prim.Native.Nat.{ℕ, ◌+◌, ◌-◌, ◌<◌, ◌≤◌}
use mathlib.Core.Path.{◌≡◌, refl, sym, ap, ◌∙◌}
use mathlib.Core.List.{List, [], ◌∷◌}
use mathlib.Core.Option.{Option, none, some}
use native.Mathlib.Numerals.{add-one}
use native.Mathlib.Omega.{arith}
use lib.ListN.{length, get_or, drop, drop_of_length-le}
use lib.Seq.{drop-cons, drop-drop}
use borrow.Author.Tests.{eq-eqb, ne_eqb}
use Rattle.language.specs.declared.Kind.{Kind}
use Rattle.language.specs.declared.Kind.TheVariants.{End, Symbol}
use Rattle.language.specs.declared.Sym.{Sym}
use Rattle.language.specs.Limits.{desk}
use Rattle.language.specs.Kinds.{kind_of}
use Rattle.language.proofs.Arms.{Among, each-kind}
use Rattle.filling.specs.Showing.{more, closes_on, closes, or_one, term_size, TermEnd}

-- At i, with so many hedges to close: what is still to come makes up the term's words.
pub record Closing (ws : List ℕ) (at depth i : ℕ) : Type 0 where
  pub on : at < i
  pub inside : i ≤ length ws
  pub some-depth : 0 < depth
  pub few : depth ≤ i
  pub same : or_one (i - at) (closes depth (drop i ws)) ≡ term_size (drop at ws)

module _ {ws : List ℕ} {at : ℕ} where
  pub closing-starts : at < length ws → Closing ws at 1 (at + 1)
  unfolding term_size
  closing-starts p = record {
    on = omega arith;
    inside = omega arith;
    some-depth = omega arith;
    few = omega arith;
    same = let e : at + 1 - at ≡ 1 = omega arith in rw (e, drop-drop 1 at ws);
  }

  module _ {depth i : ℕ} (c : Closing ws at depth i) where
    closes_here : i < length ws → (k : Kind) → k ≡ kind_of desk (get_or ws i 0) → closes depth (drop i ws) ≡ closes_on depth k (λ d. closes d (drop (i + 1) ws))
    unfolding closes
    closes_here p k e = rw (add-one, e, drop-cons ws i 0 p)

    further : (o : Option ℕ) → or_one (i - at) (more o) ≡ or_one (i + 1 - at) o
    further none = refl
    further (some k) = omega (arith, c.on)

    alone : closes depth (drop i ws) ≡ none → TermEnd ws at (at + 1)
    alone e = record { size = ap (λ n. at + n) (sym (ap (or_one (i - at)) e) ∙ c.same); on = omega arith; inside = omega (arith, c.on, c.inside) }

    pub closing-done : i < length ws → (k : Kind) → k ≡ kind_of desk (get_or ws i 0) → k ≡ End → depth ≡ 1 → TermEnd ws at (i + 1)
    closing-done p k e g d =
        let one : closes depth (drop i ws) ≡ some 1 = closes_here p End (sym g ∙ e) ∙ rw (eq-eqb depth 1 d) in
        let size : i - at + 1 ≡ term_size (drop at ws) = sym (ap (or_one (i - at)) one) ∙ c.same in
        record { size = omega (arith, c.on); on = omega (arith, c.on); inside = omega arith }

    pub closing-less : i < length ws → (k : Kind) → k ≡ kind_of desk (get_or ws i 0) → k ≡ End → (depth ≡ 1 → ⊥) → Closing ws at (depth - 1) (i + 1)
    closing-less p k e g d = record {
      on = omega (arith, c.on);
      inside = omega arith;
      some-depth = omega (arith, c.some-depth);
      few = omega (arith, c.few);
      same =
          let less : closes depth (drop i ws) ≡ more (closes (depth - 1) (drop (i + 1) ws)) = closes_here p End (sym g ∙ e) ∙ rw (ne_eqb depth 1 d) in
          sym (further (closes (depth - 1) (drop (i + 1) ws))) ∙ ap (or_one (i - at)) (sym less) ∙ c.same;
    }

    pub closing-more : {f : Sym} → i < length ws → (k : Kind) → k ≡ kind_of desk (get_or ws i 0) → k ≡ Symbol f → Closing ws at (depth + 1) (i + 1)
    closing-more {f} p k e g = record {
      on = omega (arith, c.on);
      inside = omega arith;
      some-depth = omega arith;
      few = omega (arith, c.few);
      same = sym (further (closes (depth + 1) (drop (i + 1) ws))) ∙ ap (or_one (i - at)) (sym (closes_here p (Symbol f) (sym g ∙ e))) ∙ c.same;
    }

    pub closing-stops : i < length ws → (k : Kind) → k ≡ kind_of desk (get_or ws i 0) → Among (1 ∷ 2 ∷ 4 ∷ 5 ∷ 6 ∷ 7 ∷ 8 ∷ 9 ∷ 10 ∷ 11 ∷ []) k → TermEnd ws at (at + 1)
    closing-stops p k e o =
        alone (closes_here p k e
        ∙ each-kind (1 ∷ 2 ∷ 4 ∷ 5 ∷ 6 ∷ 7 ∷ 8 ∷ 9 ∷ 10 ∷ 11 ∷ []) (λ k. closes_on depth k (λ d. closes d (drop (i + 1) ws)) ≡ none)
        tt (λ x. refl) (λ x. refl) tt (λ x. refl) refl refl refl refl refl refl refl k o)

    pub closing-past : length ws ≤ i → TermEnd ws at (at + 1)
    unfolding closes
    closing-past p = alone (ap (closes depth) (drop_of_length-le ws p))
