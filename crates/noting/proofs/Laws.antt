-- The words of a trail, one step more.
use Prim.Native.Nat.{ℕ, suc, ◌+◌, ◌*◌, ◌<◌, ◌≤◌}
use native.Mathlib.Omega.{arith}
use mathlib.Core.Path.{◌≡◌, refl, sym, ap, ◌∙◌}
use mathlib.Core.Bool.{Bool, true, false}
use mathlib.Core.List.{List, [], ◌∷◌, ◌++◌, append_assoc}
use lib.ListN.{length, drop, set, length-set, length-drop}
use lib.Seq.{drop-drop}
use Rattle.std.specs.Int.{from_bool}
use Rattle.language.specs.Kinds.{pick}
use Rattle.rules.specs.Step.{Spot}
use Rattle.replay.specs.Trail.{spot_words, trail_words}
use Rattle.noting.specs.Noting.{three_at}

trail_more : (t u : List Spot) → trail_words (t ++ u) ≡ trail_words t ++ trail_words u
trail_more [] u = refl
trail_more (s ∷ t) u = ap (λ ws. spot_words s ++ ws) (trail_more t u)

-- the word of a side: 1 where the sides are swapped, else 0
pub side_word : (swap : Bool) → from_bool swap ≡ pick swap 1 0
side_word true = refl
side_word false = refl

-- a word that is set leaves the length
pub within : (ws : List ℕ) (i x j : ℕ) → j < length ws → j < length (set ws i x)
within ws i x j h = let z = length-set ws i x in omega arith

-- behind some words
set-behind : (us ws : List ℕ) (i x : ℕ) → set (us ++ ws) (length us + i) x ≡ us ++ set ws i x
set-behind [] ws i x = ap (λ j. set ws j x) (let z : 0 + i ≡ i = omega arith in z)
set-behind (u ∷ us) ws i x = ap (λ j. set (u ∷ (us ++ ws)) j x) (let z : suc (length us) + i ≡ suc (length us + i) = omega arith in z) ∙ ap (λ v. u ∷ v) (set-behind us ws i x)

three : (ws : List ℕ) (a b c : ℕ) → 3 ≤ length ws → set (set (set ws 0 a) 1 b) 2 c ≡ a ∷ b ∷ c ∷ drop 3 ws
three [] a b c h = absurd (omega arith)
three (x ∷ []) a b c h = absurd (omega arith)
three (x ∷ y ∷ []) a b c h = absurd (omega arith)
three (x ∷ y ∷ z ∷ ws) a b c h = refl

three-behind : (us ws : List ℕ) (from a b c : ℕ) → from ≡ length us → 3 ≤ length ws → three_at (us ++ ws) from a b c ≡ us ++ (a ∷ b ∷ c ∷ drop 3 ws)
three-behind us ws from a b c e h =
    ap (λ m. set (set (set (us ++ ws) m a) (from + 1) b) (from + 2) c) (let z : from ≡ length us + 0 = omega arith in z)
    ∙ ap (λ v. set (set v (from + 1) b) (from + 2) c) (set-behind us ws 0 a)
    ∙ ap (λ m. set (set (us ++ set ws 0 a) m b) (from + 2) c) (ap (λ m. m + 1) e)
    ∙ ap (λ v. set v (from + 2) c) (set-behind us (set ws 0 a) 1 b)
    ∙ ap (λ m. set (us ++ set (set ws 0 a) 1 b) m c) (ap (λ m. m + 2) e)
    ∙ set-behind us (set (set ws 0 a) 1 b) 2 c
    ∙ ap (λ v. us ++ v) (three ws a b c h)

-- so many steps are there, and behind them the room is as it was: so with one more
pub noted_more : (done : List Spot) (s : Spot) (old trail : List ℕ) (made : ℕ) → length (trail_words done) ≡ 3 * made → 3 * made + 3 ≤ length old
    → trail ≡ trail_words done ++ drop (3 * made) old
    → three_at trail (3 * made) s.rule s.literal (pick s.swapped 1 0) ≡ trail_words (done ++ (s ∷ [])) ++ drop (3 * suc made) old
noted_more done s old trail made e h d =
    ap (λ ws. three_at ws (3 * made) s.rule s.literal (pick s.swapped 1 0)) d
    ∙ three-behind (trail_words done) (drop (3 * made) old) (3 * made) s.rule s.literal (pick s.swapped 1 0) (sym e) (let z = length-drop (3 * made) old in omega arith)
    ∙ ap (λ ws. trail_words done ++ (s.rule ∷ s.literal ∷ pick s.swapped 1 0 ∷ ws)) (drop-drop 3 (3 * made) old ∙ ap (λ n. drop n old) (let z : 3 * made + 3 ≡ 3 * suc made = omega arith in z))
    ∙ sym (append_assoc (trail_words done) (spot_words s) (drop (3 * suc made) old))
    ∙ ap (λ ws. ws ++ drop (3 * suc made) old) (sym (trail_more done (s ∷ [])))

pub spot-length : (t : List Spot) → length (trail_words t) ≡ 3 * length t
spot-length [] = refl
spot-length (s ∷ t) = let z = spot-length t in omega arith
