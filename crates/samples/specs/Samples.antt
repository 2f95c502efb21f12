-- The sample of an expression that stands in words, whatever the words are.
use Rattle.std.specs.Prelude.{ℕ, ◌+◌, ◌*◌, ◌≤◌, ◌≡◌, ◌||◌, List, [], ◌∷◌, ◌++◌, eqb, leb, length, get_or, drop}
use Rattle.language.specs.Kinds.{pick}
use Rattle.expressions.specs.Passing.{asks, reach}
use Rattle.samples.specs.declared.Sample.{Sample}
use Rattle.samples.specs.declared.Wrote.{Wrote}
use Rattle.samples.specs.Laid.{Laid}

-- the words of a sample without the 0 at its end, by the expression's first word and the samples of the expressions that follow it
unfoldable pub body_by : ℕ → List ℕ → List ℕ → List ℕ
body_by x a b = pick (eqb x 7000 || eqb x 7003) [] (pick (leb x 6999) (x ∷ (a ++ (0 ∷ []))) (pick (eqb x 7001) (a ++ b) a))

-- those of the expressions in a row; one that breaks off has none
unfoldable pub bodies : List ℕ → List (List ℕ)
bodies [] = []
bodies (x ∷ ws) = body_by x (get_or (bodies ws) 0 []) (get_or (bodies ws) 1 []) ∷ drop (asks x) (bodies ws)

unfoldable pub body_at : List ℕ → ℕ → List ℕ
body_at k at = get_or (bodies (drop at k)) 0 []

-- the place after the expression at `at`
unfoldable pub end_at : List ℕ → ℕ → ℕ
end_at k at = at + reach 1 (drop at k)

-- s tells of what stands in k at `at`
pub record Measured (k : List ℕ) (at : ℕ) (s : Sample) : Type 0 where
  pub after : at ≤ s.end
  pub within : at ≤ length k → s.end ≤ length k
  pub short : 2 * at + s.words ≤ 2 * s.end
  pub few : s.words ≤ 2 * length k
  pub end : s.end ≡ end_at k at
  pub words : s.words ≡ length (body_at k at)

-- the sample of what stands in k at `at` is written from `to` on
pub record Written (k : List ℕ) (at : ℕ) (old : List ℕ) (to : ℕ) (new : List ℕ) (w : Wrote) : Type 0 where
  pub after : at ≤ w.end
  pub end : w.end ≡ end_at k at
  pub laid : Laid old to (body_at k at) new w.to
