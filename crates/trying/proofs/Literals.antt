-- A literal's words: where its first hedge ends.
use Prim.Native.Nat.{ℕ, ◌+◌}
use mathlib.Core.Path.{◌≡◌, sym, ap, ◌∙◌}
use mathlib.Core.List.{List, ◌++◌}
use native.Mathlib.Omega.{arith}
use lib.ListN.{length, drop}
use Rattle.language.specs.Limits.{desk}
use Rattle.language.specs.Trees.{Hedge, Literal, eqn, mem}
use Rattle.language.specs.Writing.{hedge_words, expr_words, literal_words}
use Rattle.language.specs.Fine.{fine_hedge, fine_literal}
use Rattle.language.specs.Reading.{read_hedge}
use Rattle.language.proofs.Laws.{hedges-read}
use Rattle.std.specs.Prelude.{Result, Ok, Err}
use Rattle.trees.specs.Places.{placed}
use Rattle.trying.specs.Tasks.{first_hedge, FirstEnd}

module _ (ws : List ℕ) where
  hedge-end : (h : Hedge) (rest : List ℕ) → fine_hedge desk h → drop 1 ws ≡ hedge_words h ++ rest → placed 1 (read_hedge desk (drop 1 ws)) ≡ Ok (1 + length (hedge_words h))
  unfolding placed
  hedge-end h rest f e = ap (λ l. placed 1 (read_hedge desk l)) e ∙ ap (placed 1) ((hedges-read desk).read_back h rest f)

  ends : (l : Literal) → fine_literal desk l → ws ≡ literal_words l → placed 1 (read_hedge desk (drop 1 ws)) ≡ Ok (1 + length (hedge_words (first_hedge l)))
  ends (eqn l r) f e = hedge-end l (hedge_words r) f.0 (ap (drop 1) e)
  ends (mem h R) f e = hedge-end h (expr_words R) f.0 (ap (drop 1) e)

  pub first_next : {r : Result ℕ ℕ} {q : ℕ} → r ≡ placed 1 (read_hedge desk (drop 1 ws)) → r ≡ Ok q → FirstEnd ws q
  first_next {r} {q} p e = record { each = λ l f w. let z : Ok q ≡ Ok (1 + length (hedge_words (first_hedge l))) = sym e ∙ p ∙ ends l f w in cc }

  pub first-stop : {r : Result ℕ ℕ} {q : ℕ} → r ≡ placed 1 (read_hedge desk (drop 1 ws)) → r ≡ Err q → FirstEnd ws q
  first-stop {r} {q} p e = record { each = λ l f w. absurd (let x : Err q ≡ Ok (1 + length (hedge_words (first_hedge l))) = sym e ∙ p ∙ ends l f w in let z : ◌≡◌ {A = ℕ} 0 1 = cc in omega arith) }
