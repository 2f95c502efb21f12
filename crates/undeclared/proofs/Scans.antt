-- The words passed one by one, until one is not declared.
use mathlib.Core.Path.{◌≡◌, refl, sym, ap, ◌∙◌}
use mathlib.Core.Bool.{Bool, true, false, ◌&&◌}
use mathlib.Core.List.{List, [], ◌∷◌}
use Prim.Native.Nat.{ℕ, suc, ◌+◌, ◌<◌, ◌≤◌}
use native.Mathlib.Omega.{arith}
use lib.ListN.{length, drop, get_or, drop_of_length-le}
use Rattle.language.specs.declared.Kind.{Kind}
use Rattle.language.specs.Limits.{desk}
use Rattle.language.specs.Kinds.{pick, kind_of}
use Rattle.language.specs.Trees.{Counts}
use Rattle.language.specs.Undeclared.{declared_kind, declared_word, declared_words, undeclared_at}
use Rattle.language.proofs.Arms.{Among, each-kind}
use Rattle.trees.proofs.Placing.{here}
use Rattle.std.specs.Prelude.{Some, None}
use Rattle.undeclared.specs.Scanning.{first_undeclared}

module _ (n : Counts) where
  pub declared-as : (w : ℕ) (k k' : Kind) → k ≡ kind_of desk w → k ≡ k' → declared_kind n k' ≡ declared_word desk n w
  unfolding declared_word
  declared-as w k k' e i = ap (declared_kind n) (sym i ∙ e)

  -- a word without a number
  pub declared-none : (w : ℕ) (k : Kind) → k ≡ kind_of desk w → Among (0 ∷ 5 ∷ 6 ∷ 7 ∷ 8 ∷ 9 ∷ 10 ∷ 11 ∷ []) k → true ≡ declared_word desk n w
  unfolding declared_word
  declared-none w k e o = each-kind (0 ∷ 5 ∷ 6 ∷ 7 ∷ 8 ∷ 9 ∷ 10 ∷ 11 ∷ []) (λ k. true ≡ declared_kind n k) refl tt tt tt tt refl refl refl refl refl refl refl k o ∙ ap (declared_kind n) e

  module _ (w : List ℕ) (at : ℕ) where
    pub scan-done : length w ≤ at → None ≡ first_undeclared desk n at (drop at w)
    unfolding first_undeclared
    scan-done p = ap (first_undeclared desk n at) (sym (drop_of_length-le w p))

    scan-one : at < length w → first_undeclared desk n at (drop at w) ≡ pick (declared_word desk n (get_or w at 0)) (first_undeclared desk n (at + 1) (drop (at + 1) w)) (Some at)
    unfolding first_undeclared
    scan-one p = ap (first_undeclared desk n at) (here w at p)

    pub scan-on : at < length w → declared_word desk n (get_or w at 0) ≡ true → first_undeclared desk n (at + 1) (drop (at + 1) w) ≡ first_undeclared desk n at (drop at w)
    scan-on p e = sym (scan-one p ∙ ap (λ b. pick b (first_undeclared desk n (at + 1) (drop (at + 1) w)) (Some at)) e)

    pub scan-here : at < length w → declared_word desk n (get_or w at 0) ≡ false → Some at ≡ first_undeclared desk n at (drop at w)
    scan-here p e = sym (scan-one p ∙ ap (λ b. pick b (first_undeclared desk n (at + 1) (drop (at + 1) w)) (Some at)) e)

  -- all words are declared just where the scan finds none that is not
  pub scan-clean : (at : ℕ) (ws : List ℕ) → first_undeclared desk n at ws ≡ None → declared_words desk n ws ≡ true
  unfolding first_undeclared declared_words
  scan-clean at [] e = refl
  scan-clean at (w ∷ ws) e = on (declared_word desk n w) (scan-clean (at + 1) ws) e
    where
      on : (b : Bool) → (first_undeclared desk n (at + 1) ws ≡ None → declared_words desk n ws ≡ true) → pick b (first_undeclared desk n (at + 1) ws) (Some at) ≡ None → (b && declared_words desk n ws) ≡ true
      on true h e = h e
      on false h e = absurd (let z : ◌≡◌ {A = ℕ} 0 1 = cc in omega arith)

  -- and what it finds is the first
  pub scan-finds : (at : ℕ) (ws : List ℕ) (p : ℕ) → first_undeclared desk n at ws ≡ Some p → (declared_words desk n ws ≡ false) × (p ≡ at + undeclared_at desk n ws)
  unfolding first_undeclared declared_words undeclared_at
  scan-finds at [] p e = absurd (let z : ◌≡◌ {A = ℕ} 0 1 = cc in omega arith)
  scan-finds at (w ∷ ws) p e = on (declared_word desk n w) (scan-finds (at + 1) ws p) e
    where
      on : (b : Bool) → (first_undeclared desk n (at + 1) ws ≡ Some p → (declared_words desk n ws ≡ false) × (p ≡ at + 1 + undeclared_at desk n ws))
          → pick b (first_undeclared desk n (at + 1) ws) (Some at) ≡ Some p
          → ((b && declared_words desk n ws) ≡ false) × (p ≡ at + pick b (suc (undeclared_at desk n ws)) 0)
      on true h e = let (d, q) = h e in (d, omega arith)
      on false h e = (refl, let z : at ≡ p = cc in omega arith)
