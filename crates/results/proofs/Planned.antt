-- A plan's results, by its ways.
use mathlib.Core.Path.{◌≡◌, refl, sym, subst, ap, ◌∙◌}
use mathlib.Core.List.{List, [], ◌∷◌, append-nil}
use Prim.Native.Nat.{ℕ}
use native.Mathlib.Omega.{arith}
use Rattle.std.specs.Prelude.{Option}
use Rattle.plans.specs.Results.{ways_from, results_of}
use Rattle.frames.specs.Frames.{in_frame, in_frames}
use Rattle.plans.specs.Sizes.{sized_from, sized, Ready}
use Rattle.plans.specs.declared.Plan.{Plan}
use Rattle.plans.specs.declared.Ways.{Ways}
use Rattle.slices.specs.Written.{Wrote}
use Rattle.slices.proofs.Still.{wrote_as}

-- one result in a row
pub framed-one : (number : ℕ) (w : List ℕ) → in_frames number (w ∷ []) ≡ in_frame number w
framed-one number w = append-nil (in_frame number w)

module _ (k : List ℕ) (p : Plan) (w : Ways) (e : p.ways ≡ w) where
  abbrev results : List (List ℕ)
  results = ways_from k p.first p.second w

  planned : results_of k p ≡ results
  unfolding results_of
  planned = ap (ways_from k p.first p.second) e

  pub sized-by : {s : Option ℕ} → s ≡ sized_from 0 results → s ≡ sized (results_of k p)
  unfolding sized
  sized-by h = h ∙ ap sized (sym planned)

  pub ready_by : {number : ℕ} {out : List ℕ} {at : ℕ} → Ready number (results_of k p) out at → Ready number results out at
  ready_by {number} {out} {at} r = subst (λ ws. Ready number ws out at) planned r

  pub wrote_by : (number : ℕ) {out : List ℕ} {at : ℕ} {new : List ℕ} {e : ℕ} → Wrote out at (in_frames number results) new e → Wrote out at (in_frames number (results_of k p)) new e
  wrote_by number w = wrote_as (ap (in_frames number) planned) w

-- nothing is written
pub wrote_none : (l : List ℕ) (at : ℕ) → Wrote l at [] l at
wrote_none l at = record { end = omega arith; list = refl }
