-- The conjunctions of a question, part by part.
use mathlib.Core.Path.{◌≡◌, refl, ap, ◌∙◌}
use mathlib.Core.List.{List, [], ◌∷◌}
use Prim.Native.Nat.{ℕ, suc, ◌+◌, ◌≤◌}
use native.Mathlib.Omega.{arith}
use lib.ListN.{length}
use Rattle.language.specs.Limits.{desk}
use Rattle.language.specs.Trees.{Conj}
use Rattle.language.specs.Reading.{Got, got, stop, read_conj}
use Rattle.language.specs.Question.{with_conj, read_all}
use Rattle.language.specs.Between.{between}
use Rattle.language.proofs.Laws.{conjunctions-read}
use Rattle.language.proofs.Offsets.{length-between}
use Rattle.std.specs.Prelude.{Result, Ok, Err, is_ok, true, false}
use Rattle.trees.specs.Places.{placed}
use Rattle.trees.proofs.Placing.{placed-after}

-- which of the two a result is
pub ok-of : (r : Result ℕ ℕ) → true ≡ is_ok r → (q : ℕ) × (r ≡ Ok q)
ok-of (Ok q) e = (q, refl)
ok-of (Err q) e = absurd (let z : ◌≡◌ {A = ℕ} 0 1 = cc in omega arith)

pub err-of : (r : Result ℕ ℕ) → false ≡ is_ok r → (q : ℕ) × (r ≡ Err q)
err-of (Ok q) e = absurd (let z : ◌≡◌ {A = ℕ} 0 1 = cc in omega arith)
err-of (Err q) e = (q, refl)

-- what is still to be read, of the parts from the one that begins at `from`
abbrev pub to_read : ℕ → ℕ → List (List ℕ) → Result ℕ ℕ
to_read i from ps = placed from (read_all desk ps)

module _ (i from to : ℕ) (ws : List ℕ) (part : (from ≤ to) × (to ≤ length ws)) where
  -- a part is read, and ends where the next begins
  pub part-read : (r : ℕ) → placed 0 (read_conj desk (between from to ws)) ≡ Ok r → (ps : List (List ℕ)) → to_read i from (between from to ws ∷ ps) ≡ to_read (suc i) to ps
  part-read r e ps = on (read_conj desk (between from to ws)) refl e
    where
      on : (g : Got Conj) → read_conj desk (between from to ws) ≡ g → placed 0 g ≡ Ok r → placed from (with_conj g (read_all desk ps)) ≡ placed to (read_all desk ps)
      on (got k m) i e =
          let f = (conjunctions-read desk).found (between from to ws) k m i in
          placed-after from m (λ (ks : List Conj). k ∷ ks) (read_all desk ps)
          ∙ ap (λ at. placed at (read_all desk ps)) (let z : from + m ≡ to = omega (arith, f.1, length-between from to ws part.1) in z)
      on (stop m) i e = absurd (let z : ◌≡◌ {A = ℕ} 0 1 = unfold placed in cc in omega arith)

  module _ (more : ℕ) (e : placed 0 (read_conj desk (between from to ws)) ≡ Err more) where
    stops : read_conj desk (between from to ws) ≡ stop more
    stops = on (read_conj desk (between from to ws)) e
      where
        on : (g : Got Conj) → placed 0 g ≡ Err more → g ≡ stop more
        on (got k m) e = absurd (let z : ◌≡◌ {A = ℕ} 0 1 = unfold placed in cc in omega arith)
        on (stop m) e = ap stop (let z : 0 + m ≡ more = unfold placed in cc in omega arith)

    -- it stops within the part
    pub part-within : from + more ≤ to
    part-within = omega (arith, ((conjunctions-read desk).goes_on (between from to ws) more stops).0, length-between from to ws part.1)

    pub part-stops : (ps : List (List ℕ)) → to_read i from (between from to ws ∷ ps) ≡ Err (from + more)
    unfolding placed
    part-stops ps = ap (λ g. placed from (with_conj g (read_all desk ps))) stops

pub none_left : (from : ℕ) → Ok from ≡ placed from (read_all desk [])
unfolding placed
none_left from = ap Ok (omega arith)
