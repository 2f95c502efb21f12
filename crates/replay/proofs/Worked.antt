-- Trails on paper: what the desk writes, what a replay makes of that and of what others wrote, by computation.
use mathlib.Core.Path.{◌≡◌, refl}
use mathlib.Core.List.{List, [], ◌∷◌}
use mathlib.Core.Bool.{true, false}
use Rattle.language.specs.declared.Refusal.TheVariants.{BadStep, ShortTrail, LongTrail, TrailRoom}
use Rattle.language.specs.Limits.{desk}
use Rattle.language.specs.Trees.{Conj, eqn, mem, is_unordered, any_unordered}
use Rattle.rules.specs.Walk.{reached, long_walk, shared, common_hedge, common_term}
use Rattle.rules.specs.Rules.{◌>>=◌, check}
use Rattle.rules.specs.Places.{at_r1, at_fold, at_f3, at_f5, at_d0, at_e1, at_e3, at_m2, at_clash}
use Rattle.rules.specs.Step.{search, step, step_at}
use Rattle.rules.specs.Run.{finished, refused}
use Rattle.rules.specs.Table.{four_ordered, a, b, f, x, bᴱ, P4, P10, P12}
use Rattle.replay.specs.Trail.{trail, trail_words, run_writing, run_trail}
use Rattle.replay.specs.Replay.{replay_from, replay}

-- "for each step three words": of P4 one step of E3, of P10 one fold, of P12 the linear form and the clash.
pub trails-written :
    (trail_words (trail desk four_ordered P4.question) ≡ at_e3 ∷ 0 ∷ 0 ∷ [])
    × (trail_words (trail desk four_ordered P10.question) ≡ at_fold ∷ 0 ∷ 0 ∷ [])
    × (trail_words (trail desk four_ordered P12.question) ≡ at_m2 ∷ 0 ∷ 0 ∷ at_clash ∷ 0 ∷ 0 ∷ [])
    × (trail_words (trail desk four_ordered ((eqn a x ∷ mem x bᴱ ∷ []) ∷ [])) ≡ at_e1 ∷ 0 ∷ 1 ∷ at_f5 ∷ 1 ∷ 0 ∷ [])
unfolding is_unordered any_unordered ◌>>=◌ check reached long_walk shared common_hedge common_term search trail
trails-written = (refl, refl, refl, refl)

-- ---- a trail by another hand: x = a, f(x) = f(b)

abbrev asked : List Conj
asked = (eqn x a ∷ eqn (f x) (f b) ∷ []) ∷ []

-- The desk begins with D0 at the second literal. "It accepts a step wherever the named rule applies, first or not": here E1 comes first, and F3 in
-- place of the desk's own way; both come to none.
pub by-another-hand :
    (trail_words (trail desk four_ordered asked) ≡ at_d0 ∷ 1 ∷ 0 ∷ at_e1 ∷ 0 ∷ 0 ∷ at_f3 ∷ 1 ∷ 0 ∷ [])
    × (replay desk four_ordered false (at_d0 ∷ 1 ∷ 0 ∷ at_e1 ∷ 0 ∷ 0 ∷ at_f3 ∷ 1 ∷ 0 ∷ []) asked ≡ finished [] 3)
    × (replay desk four_ordered false (at_e1 ∷ 0 ∷ 0 ∷ at_d0 ∷ 1 ∷ 0 ∷ at_f3 ∷ 1 ∷ 0 ∷ []) asked ≡ finished [] 3)
    × (replay desk four_ordered false (at_e1 ∷ 0 ∷ 0 ∷ at_d0 ∷ 1 ∷ 1 ∷ at_f3 ∷ 1 ∷ 1 ∷ []) asked ≡ finished [] 3)
unfolding is_unordered any_unordered ◌>>=◌ check reached long_walk shared common_hedge common_term search step step_at trail replay_from replay
by-another-hand = (refl, refl, refl, refl)

-- "26 step doesn't apply, a third word that is neither 0 nor 1 or is 1 on a membership included": D0 at the first literal, E1 from the other side, a third
-- word of 2, a rule or a literal that is not there, R1 where the sides are not the same, the fold from the other side.
pub not-applying :
    (replay desk four_ordered false (at_d0 ∷ 0 ∷ 0 ∷ []) asked ≡ refused BadStep)
    × (replay desk four_ordered false (at_e1 ∷ 0 ∷ 1 ∷ []) asked ≡ refused BadStep)
    × (replay desk four_ordered false (at_d0 ∷ 1 ∷ 2 ∷ []) asked ≡ refused BadStep)
    × (replay desk four_ordered false (at_d0 ∷ 2 ∷ 0 ∷ []) asked ≡ refused BadStep)
    × (replay desk four_ordered false (34 ∷ 0 ∷ 0 ∷ []) asked ≡ refused BadStep)
    × (replay desk four_ordered false (at_r1 ∷ 0 ∷ 0 ∷ []) asked ≡ refused BadStep)
    × (replay desk four_ordered false (at_m2 ∷ 0 ∷ 1 ∷ []) P12.question ≡ refused BadStep)
    × (replay desk four_ordered false (at_fold ∷ 0 ∷ 1 ∷ []) P10.question ≡ refused BadStep)
unfolding is_unordered any_unordered ◌>>=◌ check reached long_walk shared common_hedge common_term search step step_at replay_from replay
not-applying = (refl, refl, refl, refl, refl, refl, refl, refl)

-- "27 trail ends early or within a step; 28 trail goes on after the end"
pub too-short-or-long :
    (replay desk four_ordered false [] asked ≡ refused ShortTrail)
    × (replay desk four_ordered false (at_d0 ∷ 1 ∷ 0 ∷ []) asked ≡ refused ShortTrail)
    × (replay desk four_ordered false (at_d0 ∷ 1 ∷ []) asked ≡ refused ShortTrail)
    × (replay desk four_ordered false (at_d0 ∷ 1 ∷ 0 ∷ at_e1 ∷ 0 ∷ 0 ∷ at_f3 ∷ 1 ∷ 0 ∷ at_f3 ∷ 1 ∷ 0 ∷ []) asked ≡ refused LongTrail)
    × (replay desk four_ordered false (at_d0 ∷ 1 ∷ 0 ∷ at_e1 ∷ 0 ∷ 0 ∷ at_f3 ∷ 1 ∷ 0 ∷ 0 ∷ []) asked ≡ refused LongTrail)
    × (replay desk four_ordered true (at_d0 ∷ 1 ∷ 0 ∷ at_e1 ∷ 0 ∷ 0 ∷ at_f3 ∷ 1 ∷ 0 ∷ []) asked ≡ refused LongTrail)
unfolding is_unordered any_unordered ◌>>=◌ check reached long_walk shared common_hedge common_term search step step_at replay_from replay
too-short-or-long = (refl, refl, refl, refl, refl, refl)

-- "29 when the trail passes the room lent for it": a room of exactly three words a step is enough.
pub room-for-a-trail : (run_trail desk four_ordered 8 asked ≡ refused TrailRoom) × (run_trail desk four_ordered 9 asked ≡ finished [] 3)
unfolding is_unordered any_unordered ◌>>=◌ check reached long_walk shared common_hedge common_term search step run_writing run_trail
room-for-a-trail = (refl, refl)
