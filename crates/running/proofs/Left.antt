-- The rest of a run, by what stands first: on each course.
use Prim.Native.Nat.{ℕ, zero, suc, ◌+◌, ◌*◌, ◌-◌, ◌<◌, ◌≤◌}
use native.Mathlib.Omega.{arith}
use mathlib.Core.Path.{◌≡◌, refl, sym, ap, ◌∙◌}
use mathlib.Core.Bool.{Bool, true, false, ◌||◌}
use mathlib.Core.List.{List, [], ◌∷◌, ◌++◌}
use mathlib.Core.Option.{Option, none, some}
use lib.Dec.{ltb}
use lib.ListN.{length, drop, length-drop, get_or}
use lib.Seq.{drop-drop, get_or-drop}
use Rattle.language.specs.declared.Refusal.{Refusal}
use Rattle.language.specs.declared.Refusal.TheVariants.{LongResult, LongWaiting, LineRoom, StepLimit, BadStep, ShortTrail, LongTrail, TrailRoom}
use Rattle.language.specs.declared.Signature.{Signature}
use Rattle.language.specs.Limits.{desk}
use Rattle.language.specs.Kinds.{pick}
use Rattle.language.specs.Trees.{Conj}
use Rattle.rules.specs.Reply.{Reply, nothing, results, stops}
use Rattle.rules.specs.Step.{Spot, step, step_at}
use Rattle.rules.specs.Run.{Numbered, all_of, any_long, waiting_size, lines_fit, Outcome, finished, refused, checked, lined, turn, run_from}
use Rattle.replay.specs.Trail.{written, run_writing}
use Rattle.replay.specs.Replay.{Triple, triples, left_over, spot_of, retraced, at, replay_from}
use Rattle.telling.specs.Telling.{triple_of, named_reply}
use Rattle.word_bytes.specs.Bytes.{words_of, half_word}
use Rattle.word_bytes.proofs.Pairs.{length-words_of, half-left, none-half}
use Rattle.courses.specs.declared.Course.{Course}
use Rattle.courses.specs.declared.Course.TheVariants.{First, Noted, Told}
use Rattle.running.specs.Courses.{left, goes}

module _ (told : List ℕ) (room : ℕ) (σ : Signature) (n : ℕ) (ls : List Numbered) (k : Numbered) (w : List Numbered) where
  abbrev Going : Type 0
  Going = List Numbered → List Conj → List Numbered → Outcome

  -- what becomes of the results of a step: none may be made, or the run goes on with so many steps left
  abbrev ceiling : Going
  ceiling = λ more ks wait. refused StepLimit

  abbrev stepping : ℕ → Going
  stepping d = λ more ks wait. checked desk ks wait (run_from desk (step σ) d (suc n) more)

  abbrev noting : ℕ → Going
  noting d = λ more ks wait. written desk room n ks wait (run_writing desk σ room d (suc n) more)

  abbrev turned : Going → Reply (List Conj) → Outcome
  turned go m = elim m [ results ks ↦ go ls ks (all_of k.number ks ++ w) | nothing ↦ lined desk (ls ++ (k ∷ [])) (λ ms. turn desk (step σ) go n ms w) | stops r ↦ refused r ]

  abbrev fitted : Outcome → Bool → Outcome
  fitted o b = elim b [ true ↦ o | false ↦ refused LineRoom ]

  abbrev Retracing : Type 0
  Retracing = List Numbered → Numbered → List Numbered → Outcome

  abbrev traced : Retracing → (List Numbered → Outcome) → Reply (List Conj) → Outcome
  traced go end m = elim m [ results ks ↦ go ls k w | nothing ↦ lined desk (ls ++ (k ∷ [])) (λ more. retraced desk σ go end more w) | stops r ↦ refused r ]

  -- ---- no rule applies

  module _ (e : step σ k.literals ≡ nothing) (b : Bool) (f : lines_fit desk (ls ++ (k ∷ [])) ≡ b) where
    turn-line : (go : Going) → turn desk (step σ) go n ls (k ∷ w) ≡ fitted (turn desk (step σ) go n (ls ++ (k ∷ [])) w) b
    turn-line go = ap (turned go) e ∙ ap (fitted (turn desk (step σ) go n (ls ++ (k ∷ [])) w)) f

    trace-line : (go : Retracing) (end : List Numbered → Outcome) → retraced desk σ go end ls (k ∷ w) ≡ fitted (retraced desk σ go end (ls ++ (k ∷ [])) w) b
    trace-line go end = ap (traced go end) e ∙ ap (fitted (retraced desk σ go end (ls ++ (k ∷ [])) w)) f

    run-line : (d : ℕ) → run_from desk (step σ) d n ls (k ∷ w) ≡ fitted (run_from desk (step σ) d n (ls ++ (k ∷ [])) w) b
    unfolding run_from
    run-line zero = turn-line ceiling
    run-line (suc d) = turn-line (stepping d)

    write-line : (d : ℕ) → run_writing desk σ room d n ls (k ∷ w) ≡ fitted (run_writing desk σ room d n (ls ++ (k ∷ [])) w) b
    unfolding run_writing
    write-line zero = turn-line ceiling
    write-line (suc d) = turn-line (noting d)

    replay-line : (over : Bool) (ts : List Triple) → replay_from desk σ over n ts ls (k ∷ w) ≡ fitted (replay_from desk σ over n ts (ls ++ (k ∷ [])) w) b
    unfolding replay_from
    replay-line over [] = trace-line _ _
    replay-line over (t ∷ ts) = trace-line _ _

    pub left-line : (course : Course) → left course told room σ n ls (k ∷ w) ≡ fitted (left course told room σ n (ls ++ (k ∷ [])) w) b
    left-line First = run-line (desk.steps - n)
    left-line Noted = write-line (desk.steps - n)
    left-line Told = replay-line (half_word told || left_over (words_of told)) (triples (drop (3 * n) (words_of told)))

  -- ---- it cannot be told whether one applies

  module _ (x : Refusal) (e : step σ k.literals ≡ stops x) where
    turn-stops : (go : Going) → turn desk (step σ) go n ls (k ∷ w) ≡ refused x
    turn-stops go = ap (turned go) e

    run-stops : (d : ℕ) → run_from desk (step σ) d n ls (k ∷ w) ≡ refused x
    unfolding run_from
    run-stops zero = turn-stops ceiling
    run-stops (suc d) = turn-stops (stepping d)

    write-stops : (d : ℕ) → run_writing desk σ room d n ls (k ∷ w) ≡ refused x
    unfolding run_writing
    write-stops zero = turn-stops ceiling
    write-stops (suc d) = turn-stops (noting d)

    replay-stops : (over : Bool) (ts : List Triple) → replay_from desk σ over n ts ls (k ∷ w) ≡ refused x
    unfolding replay_from
    replay-stops over [] = ap (traced _ _) e
    replay-stops over (t ∷ ts) = ap (traced _ _) e

    pub left-stops : (course : Course) → left course told room σ n ls (k ∷ w) ≡ refused x
    left-stops First = run-stops (desk.steps - n)
    left-stops Noted = write-stops (desk.steps - n)
    left-stops Told = replay-stops (half_word told || left_over (words_of told)) (triples (drop (3 * n) (words_of told)))

  -- ---- a rule applies, and its results are ks

  module _ (ks : List Conj) (e : step σ k.literals ≡ results ks) where
    turn_step : (go : Going) → turn desk (step σ) go n ls (k ∷ w) ≡ go ls ks (all_of k.number ks ++ w)
    turn_step go = ap (turned go) e

    run_none : run_from desk (step σ) 0 n ls (k ∷ w) ≡ refused StepLimit
    unfolding run_from
    run_none = turn_step ceiling

    write-none : run_writing desk σ room 0 n ls (k ∷ w) ≡ refused StepLimit
    unfolding run_writing
    write-none = turn_step ceiling

    run-one : (d : ℕ) → run_from desk (step σ) (suc d) n ls (k ∷ w) ≡ checked desk ks (all_of k.number ks ++ w) (run_from desk (step σ) d (suc n) ls)
    unfolding run_from
    run-one d = turn_step (stepping d)

    write-one : (d : ℕ) → run_writing desk σ room (suc d) n ls (k ∷ w) ≡ written desk room n ks (all_of k.number ks ++ w) (run_writing desk σ room d (suc n) ls)
    unfolding run_writing
    write-one d = turn_step (noting d)

    trace-step : (go : Retracing) (end : List Numbered → Outcome) → retraced desk σ go end ls (k ∷ w) ≡ go ls k w
    trace-step go end = ap (traced go end) e

    replay-short : (over : Bool) → replay_from desk σ over n [] ls (k ∷ w) ≡ refused ShortTrail
    unfolding replay_from
    replay-short over = trace-step _ _

    replay-next : (over : Bool) (t : Triple) (ts : List Triple) → replay_from desk σ over n (t ∷ ts) ls (k ∷ w) ≡ at desk σ (spot_of t) k w (replay_from desk σ over (suc n) ts ls)
    unfolding replay_from
    replay-next over t ts = trace-step _ _

    -- all steps are made
    module _ (h : desk.steps ≤ n) where
      none_left : desk.steps - n ≡ 0
      none_left = omega arith

      pub first-none : left First told room σ n ls (k ∷ w) ≡ refused StepLimit
      first-none = ap (λ d. run_from desk (step σ) d n ls (k ∷ w)) none_left ∙ run_none

      pub noted-none : left Noted told room σ n ls (k ∷ w) ≡ refused StepLimit
      noted-none = ap (λ d. run_writing desk σ room d n ls (k ∷ w)) none_left ∙ write-none

    -- some are left
    module _ (h : n < desk.steps) where
      some_left : desk.steps - n ≡ suc (desk.steps - suc n)
      some_left = omega arith

      pub first_step : left First told room σ n ls (k ∷ w) ≡ goes First told room σ n ls ks (all_of k.number ks ++ w)
      first_step = ap (λ d. run_from desk (step σ) d n ls (k ∷ w)) some_left ∙ run-one (desk.steps - suc n)

      pub noted_step : left Noted told room σ n ls (k ∷ w) ≡ goes Noted told room σ n ls ks (all_of k.number ks ++ w)
      noted_step = ap (λ d. run_writing desk σ room d n ls (k ∷ w)) some_left ∙ write-one (desk.steps - suc n)

    -- the trail's next words
    abbrev over : Bool
    over = half_word told || left_over (words_of told)

    pub told-short : triples (drop (3 * n) (words_of told)) ≡ [] → left Told told room σ n ls (k ∷ w) ≡ refused ShortTrail
    told-short d = ap (λ ts. replay_from desk σ over n ts ls (k ∷ w)) d ∙ replay-short over

    module _ (t : Triple) (ts : List Triple) (d : triples (drop (3 * n) (words_of told)) ≡ t ∷ ts) where
      abbrev named : (List Numbered → Outcome) → Option Spot → Outcome
      named go o = at desk σ o k w go

      abbrev by-reply : (List Numbered → Outcome) → Reply (List Conj) → Outcome
      by-reply go m = elim m [ results js ↦ checked desk js (all_of k.number js ++ w) go | nothing ↦ refused BadStep | stops r ↦ refused r ]

      -- where a place is named or not
      reply-at : (go : List Numbered → Outcome) (o : Option Spot) → named go o ≡ by-reply go (elim o [ none ↦ nothing | some s ↦ step_at σ s k.literals ])
      reply-at go none = refl
      reply-at go (some s) = refl

      told-next : left Told told room σ n ls (k ∷ w) ≡ by-reply (replay_from desk σ over (suc n) ts ls) (named_reply σ t k.literals)
      told-next = ap (λ us. replay_from desk σ over n us ls (k ∷ w)) d ∙ replay-next over t ts ∙ reply-at (replay_from desk σ over (suc n) ts ls) (spot_of t)

      pub told-wrong : named_reply σ t k.literals ≡ nothing → left Told told room σ n ls (k ∷ w) ≡ refused BadStep
      told-wrong f = told-next ∙ ap (by-reply (replay_from desk σ over (suc n) ts ls)) f

      pub told-stopped : (x : Refusal) → named_reply σ t k.literals ≡ stops x → left Told told room σ n ls (k ∷ w) ≡ refused x
      told-stopped x f = told-next ∙ ap (by-reply (replay_from desk σ over (suc n) ts ls)) f

      pub told-step : (js : List Conj) → named_reply σ t k.literals ≡ results js → triples (drop (3 * suc n) (words_of told)) ≡ ts
          → left Told told room σ n ls (k ∷ w) ≡ goes Told told room σ n ls js (all_of k.number js ++ w)
      told-step js f g =
          told-next ∙ ap (by-reply (replay_from desk σ over (suc n) ts ls)) f
          ∙ ap (λ us. checked desk js (all_of k.number js ++ w) (replay_from desk σ over (suc n) us ls)) (sym g)

-- ---- after a step

module _ (told : List ℕ) (room : ℕ) (σ : Signature) (n : ℕ) (ls : List Numbered) (ks : List Conj) (v : List Numbered) where
  abbrev tested : Outcome → Bool → Bool → Outcome
  tested o long full = elim long [ true ↦ refused LongResult | false ↦ elim full [ true ↦ refused LongWaiting | false ↦ o ] ]

  abbrev spaced : Bool → Outcome
  spaced short = elim short [ true ↦ refused TrailRoom | false ↦ left Noted told room σ (suc n) ls v ]

  -- 7
  pub goes-long : (course : Course) → any_long desk ks ≡ true → goes course told room σ n ls ks v ≡ refused LongResult
  goes-long First a = ap (λ x. tested (left First told room σ (suc n) ls v) x (ltb desk.room (waiting_size v))) a
  goes-long Noted a = ap (λ x. tested (spaced (ltb room (3 * suc n))) x (ltb desk.room (waiting_size v))) a
  goes-long Told a = ap (λ x. tested (left Told told room σ (suc n) ls v) x (ltb desk.room (waiting_size v))) a

  -- 8
  pub goes-full : (course : Course) → any_long desk ks ≡ false → ltb desk.room (waiting_size v) ≡ true → goes course told room σ n ls ks v ≡ refused LongWaiting
  goes-full First a b = ap (λ x. tested (left First told room σ (suc n) ls v) x (ltb desk.room (waiting_size v))) a ∙ ap (λ x. tested (left First told room σ (suc n) ls v) false x) b
  goes-full Noted a b = ap (λ x. tested (spaced (ltb room (3 * suc n))) x (ltb desk.room (waiting_size v))) a ∙ ap (λ x. tested (spaced (ltb room (3 * suc n))) false x) b
  goes-full Told a b =
      ap (λ x. tested (left Told told room σ (suc n) ls v) x (ltb desk.room (waiting_size v))) a ∙ ap (λ x. tested (left Told told room σ (suc n) ls v) false x) b

  -- 29, or on
  module _ (a : any_long desk ks ≡ false) (b : ltb desk.room (waiting_size v) ≡ false) where
    pub first_on : goes First told room σ n ls ks v ≡ left First told room σ (suc n) ls v
    first_on = ap (λ x. tested (left First told room σ (suc n) ls v) x (ltb desk.room (waiting_size v))) a ∙ ap (λ x. tested (left First told room σ (suc n) ls v) false x) b

    pub told-on : goes Told told room σ n ls ks v ≡ left Told told room σ (suc n) ls v
    told-on =
        ap (λ x. tested (left Told told room σ (suc n) ls v) x (ltb desk.room (waiting_size v))) a ∙ ap (λ x. tested (left Told told room σ (suc n) ls v) false x) b

    noted-tested : goes Noted told room σ n ls ks v ≡ spaced (ltb room (3 * suc n))
    noted-tested = ap (λ x. tested (spaced (ltb room (3 * suc n))) x (ltb desk.room (waiting_size v))) a ∙ ap (λ x. tested (spaced (ltb room (3 * suc n))) false x) b

    pub noted-short : ltb room (3 * suc n) ≡ true → goes Noted told room σ n ls ks v ≡ refused TrailRoom
    noted-short c = noted-tested ∙ ap spaced c

    pub noted-on : ltb room (3 * suc n) ≡ false → goes Noted told room σ n ls ks v ≡ left Noted told room σ (suc n) ls v
    noted-on c = noted-tested ∙ ap spaced c

-- ---- words that are left of a trail

pub no-triples : (told : List ℕ) → length told < 3 → triples told ≡ []
no-triples [] h = refl
no-triples (a ∷ []) h = refl
no-triples (a ∷ b ∷ []) h = refl
no-triples (a ∷ b ∷ c ∷ ws) h = absurd (omega arith)

first-triple : (ws : List ℕ) → 3 ≤ length ws → triples ws ≡ triple_of (get_or ws 0 0) (get_or ws 1 0) (get_or ws 2 0) ∷ triples (drop 3 ws)
first-triple [] h = absurd (omega arith)
first-triple (a ∷ []) h = absurd (omega arith)
first-triple (a ∷ b ∷ []) h = absurd (omega arith)
first-triple (a ∷ b ∷ c ∷ ws) h = refl

pub next-triple : (told : List ℕ) (from : ℕ) → from + 3 ≤ length told
    → triples (drop from told) ≡ triple_of (get_or told from 0) (get_or told (from + 1) 0) (get_or told (from + 2) 0) ∷ triples (drop 3 (drop from told))
next-triple told from h =
    first-triple (drop from told) (let z = length-drop from told in omega arith)
    ∙ ap (λ a. triple_of a (get_or (drop from told) 1 0) (get_or (drop from told) 2 0) ∷ triples (drop 3 (drop from told)))
    (get_or-drop from told 0 0 ∙ ap (λ j. get_or told j 0) (let z : from + 0 ≡ from = omega arith in z))
    ∙ ap (λ b. triple_of (get_or told from 0) b (get_or (drop from told) 2 0) ∷ triples (drop 3 (drop from told))) (get_or-drop from told 1 0)
    ∙ ap (λ d. triple_of (get_or told from 0) (get_or told (from + 1) 0) d ∷ triples (drop 3 (drop from told))) (get_or-drop from told 2 0)

none_of : (ws : List ℕ) → length ws ≡ 0 → ws ≡ []
none_of [] e = refl
none_of (a ∷ ws) e = absurd (omega arith)

over-three : (n : ℕ) (ws : List ℕ) → ((us : List ℕ) → 3 * n ≤ length us → left_over (drop (3 * n) us) ≡ left_over us) → 3 * suc n ≤ length ws
    → left_over (drop (3 * n) (drop 3 ws)) ≡ left_over ws
over-three n [] f h = absurd (omega arith)
over-three n (a ∷ []) f h = absurd (omega arith)
over-three n (a ∷ b ∷ []) f h = absurd (omega arith)
over-three n (a ∷ b ∷ c ∷ ws) f h = f ws (omega arith)

-- after whole steps the same words are left over
over-drop : (n : ℕ) (ws : List ℕ) → 3 * n ≤ length ws → left_over (drop (3 * n) ws) ≡ left_over ws
over-drop zero ws h = refl
over-drop (suc n) ws h =
    ap (λ m. left_over (drop m ws)) (let z : 3 * suc n ≡ 3 + 3 * n = omega arith in z) ∙ ap left_over (sym (drop-drop (3 * n) 3 ws)) ∙ over-three n ws (over-drop n) h

rest-triples : (ws : List ℕ) (t : Triple) (ts : List Triple) → triples ws ≡ t ∷ ts → (triples (drop 3 ws) ≡ ts) × (3 ≤ length ws)
rest-triples [] t ts e = absurd (let z : ◌≡◌ {A = ℕ} 0 1 = cc in omega arith)
rest-triples (a ∷ []) t ts e = absurd (let z : ◌≡◌ {A = ℕ} 0 1 = cc in omega arith)
rest-triples (a ∷ b ∷ []) t ts e = absurd (let z : ◌≡◌ {A = ℕ} 0 1 = cc in omega arith)
rest-triples (a ∷ b ∷ c ∷ ws) t ts e = (cc, omega arith)

-- the steps behind the next
pub next-rest : (told : List ℕ) (n : ℕ) (t : Triple) (ts : List Triple) → 3 * n ≤ length told → triples (drop (3 * n) told) ≡ t ∷ ts
    → (triples (drop (3 * suc n) told) ≡ ts) × (3 * n + 3 ≤ length told)
next-rest told n t ts h e =
    let (a, b) = rest-triples (drop (3 * n) told) t ts e in (
      ap (λ m. triples (drop m told)) (let z : 3 * suc n ≡ 3 * n + 3 = omega arith in z) ∙ ap triples (sym (drop-drop 3 (3 * n) told)) ∙ a,
      let z = length-drop (3 * n) told in omega arith,
    )

either : (b : Bool) → (b || true) ≡ true
either true = refl
either false = refl

-- ---- nothing waits

module _ (told : List ℕ) (room : ℕ) (σ : Signature) (n : ℕ) (ls : List Numbered) where
  run_ends : (d : ℕ) → run_from desk (step σ) d n ls [] ≡ finished ls n
  unfolding run_from
  run_ends zero = refl
  run_ends (suc d) = refl

  write-ends : (d : ℕ) → run_writing desk σ room d n ls [] ≡ finished ls n
  unfolding run_writing
  write-ends zero = refl
  write-ends (suc d) = refl

  pub first_ends : left First told room σ n ls [] ≡ finished ls n
  first_ends = run_ends (desk.steps - n)

  pub noted-ends : left Noted told room σ n ls [] ≡ finished ls n
  noted-ends = write-ends (desk.steps - n)

  replay-ends : (over : Bool) (ts : List Triple) → ts ≡ [] → over ≡ false → replay_from desk σ over n ts ls [] ≡ finished ls n
  unfolding replay_from
  replay-ends over [] e f = ap (λ b. pick b (refused LongTrail) (finished ls n)) f
  replay-ends over (t ∷ ts) e f = absurd (let z : ◌≡◌ {A = ℕ} 0 1 = cc in omega arith)

  replay-over : (over : Bool) (ts : List Triple) → (over ≡ true) → replay_from desk σ over n ts ls [] ≡ refused LongTrail
  unfolding replay_from
  replay-over over [] f = ap (λ b. pick b (refused LongTrail) (finished ls n)) f
  replay-over over (t ∷ ts) f = refl

  replay-more : (over : Bool) (t : Triple) (ts : List Triple) → replay_from desk σ over n (t ∷ ts) ls [] ≡ refused LongTrail
  unfolding replay_from
  replay-more over t ts = refl

  -- by the bytes of the trail
  module _ (h : 6 * n ≤ length told) where
    abbrev words : List ℕ
    words = words_of told

    words-made : 3 * n ≤ length words
    words-made = let z = length-words_of told in omega arith

    -- the words left over are those behind the steps made
    left_over_lem : (ws : List ℕ) → drop (3 * n) words ≡ ws → left_over words ≡ left_over ws
    left_over_lem ws e = sym (over-drop n words words-made) ∙ ap left_over e

    pub told-ends : length told ≤ 6 * n → left Told told room σ n ls [] ≡ finished ls n
    told-ends g =
        let e : drop (3 * n) words ≡ [] = none_of (drop (3 * n) words) (let z = length-drop (3 * n) words in let y = length-words_of told in omega arith) in
        replay-ends (half_word told || left_over words) (triples (drop (3 * n) words)) (ap triples e)
        (ap (λ b. b || left_over words) (none-half told (3 * n) (omega arith)) ∙ left_over_lem [] e)

    pub told_more : 6 * n < length told → left Told told room σ n ls [] ≡ refused LongTrail
    told_more g = go (drop (3 * n) words) refl
      where
        over : left_over words ≡ true → left Told told room σ n ls [] ≡ refused LongTrail
        over e = replay-over (half_word told || left_over words) (triples (drop (3 * n) words)) (ap (λ b. half_word told || b) e ∙ either (half_word told))

        go : (ws : List ℕ) → drop (3 * n) words ≡ ws → left Told told room σ n ls [] ≡ refused LongTrail
        go [] e =
            let z = ap length e in
            let y = length-drop (3 * n) words in
            let x = length-words_of told in
            replay-over (half_word told || left_over words) (triples (drop (3 * n) words)) (ap (λ b. b || left_over words) (half-left told (3 * n) (omega arith)))
        go (a ∷ []) e = over (left_over_lem (a ∷ []) e)
        go (a ∷ b ∷ []) e = over (left_over_lem (a ∷ b ∷ []) e)
        go (a ∷ b ∷ c ∷ ws) e = ap (λ us. replay_from desk σ (half_word told || left_over words) n (triples us) ls []) e ∙ replay-more (half_word told || left_over words) _ (triples ws)
