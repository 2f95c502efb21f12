-- Solving with a trail: as solving, but for 29.
use Prim.Native.Nat.{ℕ, zero, suc, ◌+◌, ◌*◌, ◌≤◌}
use mathlib.Core.Path.{◌≡◌, refl, ap, ◌∙◌}
use mathlib.Core.Logic.{◌⊎◌, inl, inr}
use mathlib.Core.Bool.{Bool, true, false}
use mathlib.Core.List.{List, [], ◌∷◌, ◌++◌}
use native.Mathlib.Omega.{arith}
use lib.Dec.{ltb}
use borrow.Author.Tests.{ltb-false, ltb-true}
use Rattle.language.specs.declared.Refusal.{Refusal}
use Rattle.language.specs.declared.Refusal.TheVariants.{LongResult, LongWaiting, LineRoom, StepLimit, LongWalk, TrailRoom}
use Rattle.language.specs.declared.Signature.{Signature}
use Rattle.language.specs.Limits.{Limits}
use Rattle.language.specs.Trees.{Conj}
use Rattle.rules.specs.Reply.{Reply, nothing, results, stops}
use Rattle.rules.specs.Step.{step}
use Rattle.rules.specs.Run.{Numbered, all_of, numbered, any_long, waiting_size, lines_fit, Outcome, finished, refused, checked, lined, turn, run_from, run_by, run}
use Rattle.rules.proofs.Stopping.{RunStopsBy, run-stops-by}
use Rattle.replay.specs.Trail.{written, run_writing, run_trail}
use Rattle.replay.proofs.Accepted.{from-anywhere}

differ : {A : Type 0} {ls : List Numbered} {n : ℕ} {r : Refusal} → ◌≡◌ {A = Outcome} (refused r) (finished ls n) → A
differ e = let z : ◌≡◌ {A = ℕ} 0 1 = cc in absurd (omega arith)

-- ---- two runs side by side

-- what holds of a refusal given by both
module _ (P : Outcome → Outcome → Type 0) (stopped : (r : Refusal) → P (refused r) (refused r)) (L : Limits) (σ : Signature) where
  fitted : (b : Bool) (x y : Outcome) → P x y → P (elim b [ true ↦ x | false ↦ refused LineRoom ]) (elim b [ true ↦ y | false ↦ refused LineRoom ])
  fitted true x y h = h
  fitted false x y h = stopped LineRoom

  tested : (b : Bool) (r : Refusal) (x y : Outcome) → P x y → P (elim b [ true ↦ refused r | false ↦ x ]) (elim b [ true ↦ refused r | false ↦ y ])
  tested true r x y h = stopped r
  tested false r x y h = h

  -- of the ends and of what follows a step, it holds of a turn
  turns : (go on : List Numbered → List Conj → List Numbered → Outcome) (n : ℕ) → ((ls : List Numbered) → P (finished ls n) (finished ls n))
      → ((ls : List Numbered) (ks : List Conj) (w : List Numbered) → P (go ls ks w) (on ls ks w)) → (w ls : List Numbered) → P (turn L (step σ) go n ls w) (turn L (step σ) on n ls w)
  turns go on n ends h [] ls = ends ls
  turns go on n ends h (k ∷ w) ls = taken (step σ k.literals) (turns go on n ends h w (ls ++ (k ∷ [])))
    where
      taken : (r : Reply (List Conj)) → P (turn L (step σ) go n (ls ++ (k ∷ [])) w) (turn L (step σ) on n (ls ++ (k ∷ [])) w)
          → P (elim r [ results ks ↦ go ls ks (all_of k.number ks ++ w) | nothing ↦ lined L (ls ++ (k ∷ [])) (λ more. turn L (step σ) go n more w) | stops r ↦ refused r ])
          (elim r [ results ks ↦ on ls ks (all_of k.number ks ++ w) | nothing ↦ lined L (ls ++ (k ∷ [])) (λ more. turn L (step σ) on n more w) | stops r ↦ refused r ])
      taken nothing q = fitted (lines_fit L (ls ++ (k ∷ []))) _ _ q
      taken (results ks) q = h ls ks (all_of k.number ks ++ w)
      taken (stops r) q = stopped r

  -- and of what is written, where it holds after 29 was looked for
  writes : (room n : ℕ) (go on : List Numbered → Outcome) (ks : List Conj) (w : List Numbered)
      → P (elim (ltb room (3 * suc n)) [ true ↦ refused TrailRoom | false ↦ go w ]) (on w) → P (written L room n ks w go) (checked L ks w on)
  writes room n go on ks w h = tested (any_long L ks) LongResult _ _ (tested (ltb L.room (waiting_size w)) LongWaiting _ _ h)

-- ---- with and without a trail

module _ (L : Limits) (σ : Signature) (room : ℕ) where
  -- With a trail it is as without, or 29; it is as without where that finishes and the room takes three words a step; and where it finishes the room does.
  abbrev Trails : Outcome → Outcome → Type 0
  Trails o p =
      ((o ≡ p) ⊎ (o ≡ refused TrailRoom)) × ((ls : List Numbered) (m : ℕ) → p ≡ finished ls m → 3 * m ≤ room → o ≡ p)
      × ((ls : List Numbered) (m : ℕ) → o ≡ finished ls m → 3 * m ≤ room)

  both-stop : (r : Refusal) → Trails (refused r) (refused r)
  both-stop r = (inl refl, (λ ls m e f. refl), λ ls m e. differ e)

  both_end : (n : ℕ) → 3 * n ≤ room → (ls : List Numbered) → Trails (finished ls n) (finished ls n)
  both_end n h ls = (inl refl, (λ ms m e f. refl), λ ms m e. let z : n ≡ m = cc in omega arith)

  -- no step is left to the ceiling, or the room is looked at
  with-room : (d n : ℕ) (ls w : List Numbered) → (3 * suc n ≤ room → Trails (run_writing L σ room d (suc n) ls w) (run_from L (step σ) d (suc n) ls w))
      → Trails (elim (ltb room (3 * suc n)) [ true ↦ refused TrailRoom | false ↦ run_writing L σ room d (suc n) ls w ]) (run_from L (step σ) d (suc n) ls w)
  with-room d n ls w h = go (ltb room (3 * suc n)) refl
    where
      go : (b : Bool) → ltb room (3 * suc n) ≡ b → Trails (elim b [ true ↦ refused TrailRoom | false ↦ run_writing L σ room d (suc n) ls w ]) (run_from L (step σ) d (suc n) ls w)
      go true e = (
        inr refl,
        (λ ms m f s. let z = (from-anywhere σ L d (suc n) ls w ms m f).1 in let y = ltb-true room (3 * suc n) e in absurd (omega arith)),
        λ ms m f. differ f,
      )
      go false e = h (ltb-false room (3 * suc n) e)

  side_by_side : (d n : ℕ) (ls w : List Numbered) → 3 * n ≤ room → Trails (run_writing L σ room d n ls w) (run_from L (step σ) d n ls w)
  unfolding run_writing run_from
  side_by_side zero n ls w h = turns Trails both-stop L σ _ _ n (both_end n h) (λ _ _ _. both-stop StepLimit) w ls
  side_by_side (suc d) n ls w h =
      turns Trails both-stop L σ _ _ n (both_end n h)
      (λ ms ks v. writes Trails both-stop L σ room n (run_writing L σ room d (suc n) ms) (run_from L (step σ) d (suc n) ms) ks v (with-room d n ms v (λ s. side_by_side d (suc n) ms v s))) w ls

  -- with room for all steps that are left there is no 29
  abbrev Same : Outcome → Outcome → Type 0
  Same o p = o ≡ p

  roomy : (d n : ℕ) (ls w : List Numbered) → 3 * (n + d) ≤ room → run_writing L σ room d n ls w ≡ run_from L (step σ) d n ls w
  unfolding run_writing run_from
  roomy zero n ls w h = turns Same (λ _. refl) L σ (λ _ _ _. refused StepLimit) (λ _ _ _. refused StepLimit) n (λ _. refl) (λ _ _ _. refl) w ls
  roomy (suc d) n ls w h = turns Same (λ _. refl) L σ _ _ n (λ _. refl) (λ ms ks v. writes Same (λ _. refl) L σ room n (run_writing L σ room d (suc n) ms) (run_from L (step σ) d (suc n) ms) ks v (more ms v (roomy d (suc n) ms v (omega arith)))) w ls
    where
      more : (ms v : List Numbered) → run_writing L σ room d (suc n) ms v ≡ run_from L (step σ) d (suc n) ms v
          → elim (ltb room (3 * suc n)) [ true ↦ refused TrailRoom | false ↦ run_writing L σ room d (suc n) ms v ] ≡ run_from L (step σ) d (suc n) ms v
      more ms v e = go (ltb room (3 * suc n)) refl
        where
          go : (b : Bool) → ltb room (3 * suc n) ≡ b → elim b [ true ↦ refused TrailRoom | false ↦ run_writing L σ room d (suc n) ms v ] ≡ run_from L (step σ) d (suc n) ms v
          go true f = let y = ltb-true room (3 * suc n) f in absurd (omega arith)
          go false f = e

module _ (L : Limits) (σ : Signature) (room : ℕ) (w : List Conj) where
  -- Solving with a trail comes to what solving comes to, or to 29.
  pub run-or-29 : (run_trail L σ room w ≡ run L σ w) ⊎ (run_trail L σ room w ≡ refused TrailRoom)
  unfolding run_trail run run_by
  run-or-29 = (side_by_side L σ room L.steps 0 [] (numbered 0 w) (omega arith)).0

  -- Where solving finishes and the room takes three words a step, solving with a trail finishes in the same way,
  pub run-with-room : (ls : List Numbered) (n : ℕ) → run L σ w ≡ finished ls n → 3 * n ≤ room → run_trail L σ room w ≡ finished ls n
  unfolding run_trail run run_by
  run-with-room ls n e s = (side_by_side L σ room L.steps 0 [] (numbered 0 w) (omega arith)).1 ls n e s ∙ e

  fits : (ls : List Numbered) (n : ℕ) → run_trail L σ room w ≡ finished ls n → 3 * n ≤ room
  unfolding run_trail
  fits ls n e = (side_by_side L σ room L.steps 0 [] (numbered 0 w) (omega arith)).2 ls n e

  -- and only there.
  pub trail-run : (ls : List Numbered) (n : ℕ) → run_trail L σ room w ≡ finished ls n → (run L σ w ≡ finished ls n) × (3 * n ≤ room)
  trail-run ls n e = (same run-or-29, fits ls n e)
    where
      same : (run_trail L σ room w ≡ run L σ w) ⊎ (run_trail L σ room w ≡ refused TrailRoom) → run L σ w ≡ finished ls n
      same (inl d) = cc
      same (inr d) = let z : ◌≡◌ {A = Outcome} (refused TrailRoom) (finished ls n) = cc in differ z

  -- With room for as many steps as the ceiling allows there is no 29.
  pub never-29 : 3 * L.steps ≤ room → run_trail L σ room w ≡ run L σ w
  unfolding run_trail run run_by
  never-29 s = roomy L σ room L.steps 0 [] (numbered 0 w) (omega arith)

-- What holds of 7 to 10, 21 and 29 holds of the refusal of solving with a trail.
pub trail-stops-by : (P : Refusal → Type 0) → P LongResult → P LongWaiting → P LineRoom → P StepLimit → P LongWalk → P TrailRoom
    → (L : Limits) (σ : Signature) (room : ℕ) (w : List Conj) → RunStopsBy P (run_trail L σ room w)
trail-stops-by P seven eight nine ten walk room-29 L σ room w = go (run-or-29 L σ room w)
  where
    go : (run_trail L σ room w ≡ run L σ w) ⊎ (run_trail L σ room w ≡ refused TrailRoom) → RunStopsBy P (run_trail L σ room w)
    go (inl e) = rw e (run-stops-by P seven eight nine ten walk L σ w)
    go (inr e) = rw e room-29

-- ---- in a step: a rule's own refusal (21), 10, 7, 8, 29

module _ (L : Limits) (σ : Signature) (room n : ℕ) (k : Numbered) (ls w : List Numbered) where
  abbrev After : ℕ → Outcome
  After d = run_writing L σ room d n ls (k ∷ w)

  abbrev reply : (List Numbered → List Conj → List Numbered → Outcome) → Reply (List Conj) → Outcome
  reply go m = elim m [ results ks ↦ go ls ks (all_of k.number ks ++ w) | nothing ↦ lined L (ls ++ (k ∷ [])) (λ more. turn L (step σ) go n more w) | stops r ↦ refused r ]

  -- whether a step is left or not
  pub first-its-own : (d : ℕ) (r : Refusal) → step σ k.literals ≡ stops r → After d ≡ refused r
  unfolding run_writing
  first-its-own zero r e = ap (reply (λ _ _ _. refused StepLimit)) e
  first-its-own (suc d) r e = ap (reply (λ more ks wait. written L room n ks wait (run_writing L σ room d (suc n) more))) e

  pub then-10 : (ks : List Conj) → step σ k.literals ≡ results ks → After zero ≡ refused StepLimit
  unfolding run_writing
  then-10 ks e = ap (reply (λ _ _ _. refused StepLimit)) e

  pub a-step : (d : ℕ) (ks : List Conj) → step σ k.literals ≡ results ks → After (suc d) ≡ written L room n ks (all_of k.number ks ++ w) (run_writing L σ room d (suc n) ls)
  unfolding run_writing
  a-step d ks e = ap (reply (λ more ks wait. written L room n ks wait (run_writing L σ room d (suc n) more))) e

  -- by the three tests
  abbrev told : ℕ → Bool → Bool → Bool → List Conj → Outcome
  told d long full short ks =
      elim long [
        | true ↦ refused LongResult
        | false ↦
            elim full [
              | true ↦ refused LongWaiting
              | false ↦ elim short [ true ↦ refused TrailRoom | false ↦ run_writing L σ room d (suc n) ls (all_of k.number ks ++ w) ]
            ]
      ]

  module _ (d : ℕ) (ks : List Conj) (e : step σ k.literals ≡ results ks) where
    abbrev full : Bool
    full = ltb L.room (waiting_size (all_of k.number ks ++ w))

    abbrev short : Bool
    short = ltb room (3 * suc n)

    pub then-7 : any_long L ks ≡ true → After (suc d) ≡ refused LongResult
    then-7 a = a-step d ks e ∙ ap (λ x. told d x full short ks) a

    pub then-8 : any_long L ks ≡ false → full ≡ true → After (suc d) ≡ refused LongWaiting
    then-8 a b = a-step d ks e ∙ ap (λ x. told d x full short ks) a ∙ ap (λ x. told d false x short ks) b

    pub then-29 : any_long L ks ≡ false → full ≡ false → short ≡ true → After (suc d) ≡ refused TrailRoom
    then-29 a b c = a-step d ks e ∙ ap (λ x. told d x full short ks) a ∙ ap (λ x. told d false x short ks) b ∙ ap (λ x. told d false false x ks) c

    pub then-on : any_long L ks ≡ false → full ≡ false → short ≡ false → After (suc d) ≡ run_writing L σ room d (suc n) ls (all_of k.number ks ++ w)
    then-on a b c = a-step d ks e ∙ ap (λ x. told d x full short ks) a ∙ ap (λ x. told d false x short ks) b ∙ ap (λ x. told d false false x ks) c
