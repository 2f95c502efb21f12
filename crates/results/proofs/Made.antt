-- A result, piece by piece.
use mathlib.Core.Path.{◌≡◌, refl, sym, ap, ◌∙◌}
use mathlib.Core.List.{List, [], ◌++◌}
use Prim.Native.Nat.{ℕ, suc, ◌+◌, ◌*◌, ◌-◌, ◌<◌, ◌≤◌}
use native.Mathlib.Omega.{arith}
use lib.ListN.{length, get_or, length-append}
use lib.Seq.{slice}
use Rattle.language.specs.Limits.{desk}
use Rattle.plans.specs.Results.{changed, piece_words, slot_at, pieces_from}
use Rattle.plans.specs.declared.Piece.{Piece}
use Rattle.plans.specs.declared.Piece.TheVariants.{Word, Copy, Put, ToCut, PutFromCut, Each, Ordered, Named}
use Rattle.plans.specs.declared.Slot.{Slot}
use Rattle.plans.specs.declared.Recipe.{Recipe}
use Rattle.results.specs.declared.replacing.Swap.{Swap}
use Rattle.results.specs.Marked.{bare}
use Rattle.orders.proofs.Orders.{ordered-short}
use Rattle.orders.proofs.Renamed.{length-renamed}
use Rattle.slices.proofs.Parts.{Split, part-short}
use Rattle.results.proofs.Replaced.{put-short, length-empty-each}

-- the recipe of these pieces and this substitution
abbrev pub whole : List Slot → Swap → Recipe
whole slots s = record { slots = slots; old = s.old; until = s.until; new = s.new }

-- a recipe's substitution
abbrev pub swap_of : Recipe → Swap
swap_of r = record { old = r.old; until = r.until; new = r.new }

module _ (k : List ℕ) (r : Recipe) (cut nth : ℕ) where
  -- a piece does not depend on the other pieces
  pub piece-bare : (p : Piece) → piece_words k r cut nth p ≡ piece_words k (bare (swap_of r)) cut nth p
  unfolding changed
  piece-bare (Word x) = refl
  piece-bare (Copy a b) = refl
  piece-bare (Put a b) = refl
  piece-bare (ToCut a) = refl
  piece-bare (PutFromCut b) = refl
  piece-bare (Each a b) = refl
  piece-bare (Ordered a n) = refl
  piece-bare (Named a b) = refl

  -- the pieces from the i-th on
  abbrev pub from : ℕ → List ℕ
  from i = pieces_from (12 - i) i k r cut nth

  module _ (i : ℕ) where
    pub made-step : i < 12 → Split (from i) (piece_words k r cut nth (slot_at r i)) (from (i + 1))
    made-step h = let e : 12 - i ≡ suc (12 - (i + 1)) = omega arith in record { eq = ap (λ n. pieces_from n i k r cut nth) e }

    -- the same, of the piece by itself
    pub bare_step : i < 12 → Split (from i) (piece_words k (bare (swap_of r)) cut nth (slot_at r i)) (from (i + 1))
    bare_step h = record { eq = (made-step h).eq ∙ ap (λ ws. ws ++ from (i + 1)) (piece-bare (slot_at r i)) }

    pub made_none : 12 ≤ i → from i ≡ []
    made_none h = let e : 12 - i ≡ 0 = omega arith in ap (λ n. pieces_from n i k r cut nth) e

    pub made-length : i < 12 → (n : ℕ) → n ≡ length (piece_words k (bare (swap_of r)) cut nth (slot_at r i)) → length (from i) ≡ n + length (from (i + 1))
    made-length h n e = ap length (bare_step h).eq ∙ length-append (piece_words k (bare (swap_of r)) cut nth (slot_at r i)) (from (i + 1)) ∙ ap (λ m. m + length (from (i + 1))) (sym e)

  -- a piece is bounded, so that sums fit
  pub piece-short : (p : Piece) → length k ≤ desk.question → length (piece_words k r cut nth p) ≤ desk.question * desk.question
  unfolding changed
  piece-short (Word x) h = omega arith
  piece-short (Copy a b) h = let z = part-short k a b in omega arith
  piece-short (Put a b) h = put-short k r.old r.new cut a b r.until h
  piece-short (ToCut a) h = let z = part-short k a cut in omega arith
  piece-short (PutFromCut b) h = put-short k r.old r.new cut cut b r.until h
  piece-short (Each a b) h = let z = part-short k a b in let y = length-empty-each (slice a b k) in omega arith
  piece-short (Ordered a n) h = let z = ordered-short k a n nth in omega arith
  piece-short (Named a b) h = let z = part-short k a b in let y = length-renamed (get_or k r.old 0) (3000 + nth) (slice a b k) in omega arith
