-- The run, turn after turn: its end stays the same, and a measure falls.
use Prim.Native.Nat.{ℕ, ◌+◌, ◌-◌, ◌<◌, ◌≤◌}
use native.Mathlib.Omega.{arith}
use mathlib.Core.Path.{◌≡◌, refl, sym, ap, ◌∙◌, subst}
use mathlib.Core.List.{List, [], ◌∷◌}
use lib.ListN.{length}
use Rattle.std.specs.Prelude.{Result, Ok, Err}
use Rattle.language.specs.declared.Refusal.{Refusal}
use Rattle.language.specs.declared.Refusal.TheVariants.{LongTrail}
use Rattle.language.specs.Limits.{desk}
use Rattle.rules.specs.Step.{Spot}
use Rattle.rules.specs.Run.{Numbered, Outcome, refused}
use Rattle.frames.specs.Frames.{frame, framed_length}
use Rattle.running.specs.declared.moves.State.{State}
use Rattle.running.proofs.Going.{waiting_kept, lined-kept, first-size, first_fits, open-fits, end_fits, work-fits, answer-fits}
use Rattle.courses.specs.declared.Course.{Course}
use Rattle.around.specs.declared.Ran.{Ran}
use Rattle.running.specs.Courses.{Guided, ran_of, Finishes, done, goes_on}
use Rattle.running.specs.Turning.{Guide, guide, left_of, Under, measure, Turns, on, stop, Awaits, Ends, ended, given-up}
use Rattle.running.proofs.Trails.{trailed-ends}

-- a run whose end is o
pub record Gone (g : Guide) (old_work old_answer : List ℕ) (o : Outcome) (s : State) (work answer out : List ℕ) : Type 0 where
  pub lines : List Numbered
  pub waits : List Numbered
  pub under : Under g old_work old_answer lines waits s work answer out
  pub same : left_of g s lines waits ≡ o

-- what a turn asks
abbrev pub Ready : Course → List ℕ → State → List ℕ → List ℕ → List ℕ → Type 0
Ready course told s work answer out =
    ((s.at + frame + framed_length work s.at ≤ desk.room) × (framed_length work s.at ≤ desk.question) × (desk.room ≤ length work) × (s.tally.«open» ≤ s.tally.lines) × (s.tally.end ≤ desk.room) × (desk.room ≤ length answer))
    × Awaits course told s work answer out

module _ (course : Course) (told old : List ℕ) (whole : List Spot) (old_work old_answer : List ℕ) (o : Outcome) (s : State) (work answer out : List ℕ)
    (gone : Gone (guide course told old whole) old_work old_answer o s work answer out) where
  abbrev g : Guide
  g = guide course told old whole

  -- one waits first
  first_of : (Q : Type 0) → s.at < desk.room
      → ((ls : List Numbered) (c : Numbered) (w : List Numbered) → Under g old_work old_answer ls (c ∷ w) s work answer out → left_of g s ls (c ∷ w) ≡ o → Q) → Q
  first_of Q h f = go gone.waits gone.under gone.same
    where
      go : (w : List Numbered) → Under g old_work old_answer gone.lines w s work answer out → left_of g s gone.lines w ≡ o → Q
      go [] u e = absurd (let z = u.running.waiting.place in omega arith)
      go (c ∷ w) u e = f gone.lines c w u e

  pub turn-ready : s.at < desk.room → Ready course told s work answer out
  turn-ready h = first_of _ h λ ls c w u e.
      let p = u.running in
      let n = first-size old_work old_answer ls c w s work answer p in
      let b = first_fits old_work old_answer ls c w s work answer p in
      let k = p.short.0 in (
        (
          omega arith,
          omega arith,
          work-fits old_work old_answer ls c w s work answer p,
          open-fits old_work old_answer ls c w s work answer p,
          end_fits old_work old_answer ls c w s work answer p,
          answer-fits old_work old_answer ls c w s work answer p,
        ),
        record { old = old; whole = whole; old_work = old_work; old_answer = old_answer; lines = ls; first = c; rest = w; under = u },
      )

  pub still-guided : Guided course told s.steps
  still-guided = gone.under.guided

  pub run-over : desk.room ≤ s.at → (r : Result Ran Refusal) → Finishes told course s r → Ends g o old_work old_answer r work answer out
  unfolding left_of
  run-over h r f = go gone.waits gone.under gone.same f
    where
      go : (w : List Numbered) → Under g old_work old_answer gone.lines w s work answer out → left_of g s gone.lines w ≡ o → Finishes told course s r
          → Ends g o old_work old_answer r work answer out
      go [] u e (done er d) =
          ended (ran_of s) gone.lines er (sym e ∙ d (length old) gone.lines) u.running.lined (waiting_kept old_work s.at [] work u.running.waiting)
          (trailed-ends course whole old s.signature s.steps out u.trailed)
      go [] u e (goes_on er d) =
          given-up LongTrail er (sym e ∙ d (length old) gone.lines) (waiting_kept old_work s.at [] work u.running.waiting) (lined-kept old_answer gone.lines s.tally answer u.running.lined)
      go (c ∷ w) u e f = absurd (let z = u.running.waiting.place in omega arith)

  module _ (h : s.at < desk.room) (r : Result State Refusal) (work' answer' out' : List ℕ)
      (f : (old : List ℕ) (whole : List Spot) (old_work old_answer : List ℕ) (ls : List Numbered) (c : Numbered) (w : List Numbered) → Under (guide course told old whole) old_work old_answer ls (c ∷ w) s work answer out
      → Turns (guide course told old whole) old_work old_answer ls (c ∷ w) s r work' answer' out') where
    module _ (t : State) (er : r ≡ Ok t) where
      moved : (Gone g old_work old_answer o t work' answer' out') × (measure course told t < measure course told s)
      moved = first_of _ h λ ls c w u e. go ls c w e (f old whole old_work old_answer ls c w u)
        where
          go : (ls : List Numbered) (c : Numbered) (w : List Numbered) → left_of g s ls (c ∷ w) ≡ o → Turns g old_work old_answer ls (c ∷ w) s r work' answer' out'
              → (Gone g old_work old_answer o t work' answer' out') × (measure course told t < measure course told s)
          go ls c w e (on x ms v d q same less) =
              let z : x ≡ t = cc in
              subst (λ x. (Gone g old_work old_answer o x work' answer' out') × (measure course told x < measure course told s)) z (record { lines = ms; waits = v; under = q; same = same ∙ e }, less)
          go ls c w e (stop x d y k l) = absurd (let z : ◌≡◌ {A = ℕ} 0 1 = cc in omega arith)

      pub gone-on : Gone g old_work old_answer o t work' answer' out'
      gone-on = moved.0

      pub gone-less : measure course told t < measure course told s
      gone-less = moved.1

    pub gone-stop : (x : Refusal) → r ≡ Err x → Ends g o old_work old_answer (Err x) work' answer' out'
    gone-stop x er = first_of _ h λ ls c w u e. go ls c w e (f old whole old_work old_answer ls c w u)
      where
        go : (ls : List Numbered) (c : Numbered) (w : List Numbered) → left_of g s ls (c ∷ w) ≡ o → Turns g old_work old_answer ls (c ∷ w) s r work' answer' out'
            → Ends g o old_work old_answer (Err x) work' answer' out'
        go ls c w e (on y ms v d q same less) = absurd (let z : ◌≡◌ {A = ℕ} 0 1 = cc in omega arith)
        go ls c w e (stop y d z k l) = let i : y ≡ x = cc in given-up x refl (sym e ∙ sym z ∙ ap refused i) k l

pub ends_as : {g : Guide} {o p : Outcome} {old_work old_answer : List ℕ} {r : Result Ran Refusal} {work answer out : List ℕ} → o ≡ p → Ends g o old_work old_answer r work answer out → Ends g p old_work old_answer r work answer out
ends_as {g = g} {old_work = old_work} {old_answer} {r} {work} {answer} {out} e d = subst (λ o. Ends g o old_work old_answer r work answer out) e d
