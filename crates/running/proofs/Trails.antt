-- The trail of the rest of a run, by what stands first, and the words noted so far.
use Prim.Native.Nat.{ℕ, zero, suc, ◌+◌, ◌*◌, ◌-◌, ◌<◌, ◌≤◌}
use native.Mathlib.Omega.{arith}
use mathlib.Core.Path.{◌≡◌, refl, sym, ap, ◌∙◌}
use mathlib.Core.List.{List, [], ◌∷◌, ◌++◌, append_assoc, append-nil}
use lib.ListN.{length, drop, length-append, length-drop}
use Rattle.language.specs.declared.Signature.{Signature}
use Rattle.language.specs.Limits.{desk}
use Rattle.language.specs.Kinds.{pick}
use Rattle.language.specs.Trees.{Conj}
use Rattle.rules.specs.Reply.{nothing, results, stops}
use Rattle.rules.specs.Step.{Spot, Found, search, step}
use Rattle.rules.specs.Run.{Numbered, all_of}
use Rattle.rules.proofs.Steps.{each-nothing}
use Rattle.replay.specs.Trail.{traced, trail_from, trail_words}
use Rattle.noting.specs.Noting.{three_at}
use Rattle.noting.proofs.Laws.{noted_more, spot-length}
use Rattle.courses.specs.declared.Course.{Course}
use Rattle.courses.specs.declared.Course.TheVariants.{First, Noted, Told}
use Rattle.running.specs.Turning.{Noting, Trailed, TrailEnds}

-- the room keeps its length
pub noting-length : (whole : List Spot) (old : List ℕ) (σ : Signature) (n : ℕ) (w : List Numbered) (now : List ℕ) → Noting whole old σ n w now → length now ≡ length old
noting-length whole old σ n w now p =
    let a = ap length p.words ∙ length-append (trail_words p.done) (drop (3 * n) old) in
    let b = spot-length p.done in
    let d = length-drop (3 * n) old in
    let e = p.count in
    let f = p.fits in
    omega arith

module _ (σ : Signature) (c : Numbered) (w : List Numbered) where
  abbrev by : (List Numbered → List Spot) → Found → List Spot
  by go f = elim f [ results s ↦ s.0 ∷ go (all_of c.number s.1 ++ w) | nothing ↦ traced σ go w | stops r ↦ [] ]

  trail-line : (d : ℕ) → search σ c.literals ≡ nothing → trail_from σ d (c ∷ w) ≡ trail_from σ d w
  trail-line zero e = refl
  trail-line (suc d) e = ap (by (trail_from σ d)) e

  trail-step : (d : ℕ) (s : Spot) (ks : List Conj) → search σ c.literals ≡ results (s, ks) → trail_from σ (suc d) (c ∷ w) ≡ s ∷ trail_from σ d (all_of c.number ks ++ w)
  trail-step d s ks e = ap (by (trail_from σ d)) e

  no-search : step σ c.literals ≡ nothing → search σ c.literals ≡ nothing
  unfolding step
  no-search e = each-nothing _ (search σ c.literals) e

  -- a line leaves it
  pub trailed-line : (course : Course) (whole : List Spot) (old : List ℕ) (n : ℕ) (now : List ℕ) → step σ c.literals ≡ nothing → Trailed course whole old σ n (c ∷ w) now
      → Trailed course whole old σ n w now
  trailed-line First whole old n now e p = p
  trailed-line Told whole old n now e p = p
  trailed-line Noted whole old n now e p = record {
    done = p.done;
    count = p.count;
    words = p.words;
    fits = p.fits;
    rest = p.rest ∙ ap (λ t. p.done ++ t) (trail-line (desk.steps - n) (no-search e));
  }

  -- a step that is noted
  pub noting-step : (whole : List Spot) (old : List ℕ) (n : ℕ) (now : List ℕ) (s : Spot) (ks : List Conj) → n < desk.steps → search σ c.literals ≡ results (s, ks)
      → Noting whole old σ n (c ∷ w) now → 3 * n + 3 ≤ length old
      → (m : ℕ) → m ≡ n + 1 → Noting whole old σ m (all_of c.number ks ++ w) (three_at now (3 * n) s.rule s.literal (pick s.swapped 1 0))
  noting-step whole old n now s ks h e p g m f = record {
    done = p.done ++ (s ∷ []);
    count = let z = length-append p.done (s ∷ []) in let y = p.count in omega arith;
    words =
        noted_more p.done s old now n (spot-length p.done ∙ ap (λ i. 3 * i) p.count) g p.words
        ∙ ap (λ i. trail_words (p.done ++ (s ∷ [])) ++ drop (3 * i) old) (let z : suc n ≡ m = omega arith in z);
    fits = omega arith;
    rest =
        p.rest ∙ ap (λ d. p.done ++ trail_from σ d (c ∷ w)) (let z : desk.steps - n ≡ suc (desk.steps - m) = omega arith in z)
        ∙ ap (λ t. p.done ++ t) (trail-step (desk.steps - m) s ks e) ∙ sym (append_assoc p.done (s ∷ []) (trail_from σ (desk.steps - m) (all_of c.number ks ++ w)));
  }

none-traced : (σ : Signature) (d : ℕ) → trail_from σ d [] ≡ []
none-traced σ zero = refl
none-traced σ (suc d) = refl

-- nothing waits
pub trailed-ends : (course : Course) (whole : List Spot) (old : List ℕ) (σ : Signature) (n : ℕ) (now : List ℕ) → Trailed course whole old σ n [] now → TrailEnds course whole old n now
trailed-ends First whole old σ n now p = p
trailed-ends Told whole old σ n now p = p
trailed-ends Noted whole old σ n now p =
    let e : whole ≡ p.done = p.rest ∙ ap (λ t. p.done ++ t) (none-traced σ (desk.steps - n)) ∙ append-nil p.done in
    (p.words ∙ ap (λ t. trail_words t ++ drop (3 * n) old) (sym e), ap length e ∙ p.count)
