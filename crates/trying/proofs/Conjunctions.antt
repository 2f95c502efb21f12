-- A conjunction, literal by literal.
use Prim.Native.Nat.{ℕ, suc, ◌+◌, ◌-◌, ◌<◌, ◌≤◌}
use mathlib.Core.Path.{◌≡◌, refl, sym, ap, ◌∙◌}
use mathlib.Core.Bool.{true}
use mathlib.Core.List.{List, [], ◌∷◌, ◌++◌}
use native.Mathlib.Omega.{arith}
use lib.ListN.{length, take, drop, length-append, length-drop}
use lib.Seq.{take_at, drop_at, drop-drop}
use Rattle.language.specs.declared.Kind.TheVariants.{Equation, Membership}
use Rattle.language.specs.Limits.{desk}
use Rattle.language.specs.Trees.{Literal, eqn, mem, Conj, Counts}
use Rattle.language.specs.Writing.{hedge_words, expr_words, literal_words, conj_words}
use Rattle.language.specs.Fine.{fine_literal}
use Rattle.language.specs.Question.{declared, declared_e, declared_l, declared_c}
use Rattle.language.specs.Reading.{read_literal}
use Rattle.language.specs.Between.{between}
use Rattle.language.proofs.Bools.{both_true}
use Rattle.language.proofs.Words.{kind-equation, kind-membership}
use Rattle.language.proofs.Laws.{literals-read}
use Rattle.language.proofs.Undeclared.{literal-declared}
use Rattle.meaning.specs.Complete.{complete_words}
use Rattle.meaning.specs.Meaning.{Filling, fill}
use Rattle.rules.specs.Calls.{filled_size}
use Rattle.std.specs.Prelude.{Result, Ok, Err}
use Rattle.trees.specs.Places.{placed}
use Rattle.filling.specs.Showing.{filled, Shows}
use Rattle.filling.proofs.Values.{declared-shows}
use Rattle.filling.proofs.Becomes.{filled-word, filled-parts, expr-becomes}
use Rattle.filling.proofs.Given.{was, has-values}
use Rattle.trying.specs.Tasks.{LiteralEnd, ALiteral, AConj}
use Rattle.trying.proofs.Parts.{becomes}

-- ---- where a literal ends

module _ (ws : List ℕ) (at : ℕ) where
  ends : (l : Literal) (k : Conj) → fine_literal desk l → drop at ws ≡ literal_words l ++ conj_words k → placed at (read_literal desk (drop at ws)) ≡ Ok (at + length (literal_words l))
  unfolding placed
  ends l k f e = ap (λ l. placed at (read_literal desk l)) e ∙ ap (placed at) ((literals-read desk).read_back l (conj_words k) f)

  pub literal-next : {r : Result ℕ ℕ} {q : ℕ} → r ≡ placed at (read_literal desk (drop at ws)) → r ≡ Ok q → LiteralEnd ws at q
  literal-next {r} {q} p e = record { each = λ l k f w. let z : Ok q ≡ Ok (at + length (literal_words l)) = sym e ∙ p ∙ ends l k f w in cc }

  pub literal-stop : {r : Result ℕ ℕ} {q : ℕ} → r ≡ placed at (read_literal desk (drop at ws)) → r ≡ Err q → LiteralEnd ws at q
  literal-stop {r} {q} p e = record { each = λ l k f w. absurd (let x : Err q ≡ Ok (at + length (literal_words l)) = sym e ∙ p ∙ ends l k f w in let z : ◌≡◌ {A = ℕ} 0 1 = cc in omega arith) }

-- ---- the next literal

some_words : (l : Literal) → 0 < length (literal_words l)
some_words (eqn l r) = omega arith
some_words (mem h R) = omega arith

pub record Next-literal (n : Counts) (fs ws : List ℕ) (i end : ℕ) (k : Conj) (ρ : Filling) : Type 0 where
  pub l : Literal
  pub later : Conj
  pub is : k ≡ l ∷ later
  pub literal : ALiteral n fs (between i end ws) l ρ
  pub rest : AConj n fs (drop end ws) later ρ
  pub on : i < end
  pub inside : end ≤ length ws

pub next-literal : (n : Counts) (fs ws : List ℕ) (i end : ℕ) (k : Conj) (ρ : Filling) → LiteralEnd ws i end → i < length ws → AConj n fs (drop i ws) k ρ → Next-literal n fs ws i end k ρ
next-literal n fs ws i end [] ρ e p x = absurd (omega (arith, ap length x.words, length-drop i ws))
next-literal n fs ws i end (l ∷ k) ρ e p x =
    let (fl, fk) = x.fine in
    let (dl, dk) = both_true (declared_l n l) (declared_c n k) x.known in
    let q : end ≡ i + length (literal_words l) = e.each l k fl x.words in
    let s = some_words l in
    let a = ap length x.words in
    let b = length-append (literal_words l) (conj_words k) in
    let d = length-drop i ws in
    let here : between i end ws ≡ literal_words l = ap (take (end - i)) x.words ∙ take_at (literal_words l) (conj_words k) (end - i) (omega arith) in
    let after : drop end ws ≡ conj_words k =
    ap (λ n. drop n ws) (let z : end ≡ i + (end - i) = omega arith in z) ∙ sym (drop-drop (end - i) i ws) ∙ ap (drop (end - i)) x.words ∙ drop_at (literal_words l) (conj_words k) (end - i) (omega arith) in
    record {
      l = l;
      later = k;
      is = refl;
      literal = record { given = x.given; words = here; fine = fl; known = dl; short = omega (arith, ap length here, x.short) };
      rest = record { symbol = x.symbol; given = x.given; words = after; fine = fk; known = dk; short = omega (arith, length-drop end ws, x.short) };
      on = omega arith;
      inside = omega arith;
    }

-- ---- a literal filled in

module _ (n : Counts) (fs ws : List ℕ) (l : Literal) (ρ : Filling) (x : ALiteral n fs ws l ρ) {t h : ℕ} (p : t ≡ n.terms) (q : h ≡ n.hedges) where
  pub literal-shows : Shows t h fs ws
  literal-shows = rw (p, q, x.words) (declared-shows n (has-values n fs ρ (was n fs ρ x.given)) (literal_words l) (literal-declared desk n l x.fine ∙ x.known))

  pub filling-few : length fs ≤ desk.filling
  filling-few = (was n fs ρ x.given).few

  size_of : (l : Literal) → fine_literal desk l → declared_l n l ≡ true → length (filled t h fs (literal_words l)) ≡ filled_size ρ l
  size_of (eqn a b) f d =
      let (da, db) = both_true (declared n a) (declared n b) d in
      ap length (filled-word t h fs 5000 Equation _ _ (kind-equation desk) (filled-parts t h fs (hedge_words a) (hedge_words b) _ _ (becomes n fs ρ x.given p q a f.0 da) (becomes n fs ρ x.given p q b f.1 db)))
      ∙ ap suc (length-append (complete_words (fill ρ a)) (complete_words (fill ρ b)))
  size_of (mem a R) f d =
      let (da, d_r) = both_true (declared n a) (declared_e n R) d in
      ap length (filled-word t h fs 6000 Membership _ _ (kind-membership desk) (filled-parts t h fs (hedge_words a) (expr_words R) _ _ (becomes n fs ρ x.given p q a f.0 da) (expr-becomes t h fs R f.1)))
      ∙ ap suc (length-append (complete_words (fill ρ a)) (expr_words R))

  pub literal-size : length (filled t h fs ws) ≡ filled_size ρ l
  literal-size = ap (λ l. length (filled t h fs l)) x.words ∙ size_of l x.fine x.known
