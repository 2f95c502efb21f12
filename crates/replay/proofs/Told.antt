-- What a caller is told of trails: solving with one, replaying one, the example with one.
use Prim.Native.Nat.{ℕ, ◌*◌, ◌≤◌}
use mathlib.Core.Path.{◌≡◌, refl, ap, ◌∙◌}
use mathlib.Core.Logic.{◌↔◌}
use mathlib.Core.Bool.{Bool, true, false}
use mathlib.Core.List.{List, []}
use native.Mathlib.Omega.{arith}
use lib.Dec.{ltb}
use lib.ListN.{length}
use Rattle.language.specs.declared.Refusal.TheVariants.{ShortSlice}
use Rattle.language.specs.Limits.{Limits}
use Rattle.language.specs.Trees.{signature, Question}
use Rattle.language.specs.Question.{Asked, asks, refuses, read_question, counts_of, alternatives_of}
use Rattle.meaning.specs.Meaning.{Filling, MeetsOne, MeetsQuestion}
use Rattle.rules.specs.Reply.{nothing}
use Rattle.rules.specs.Step.{step}
use Rattle.rules.specs.Run.{Numbered, EachLine, unnumbered, Outcome, finished, refused, run}
use Rattle.rules.specs.Answer.{Solving, answered, unread, given-up, ran, solving_of, solving}
use Rattle.rules.specs.Calls.{shows}
use Rattle.exact.specs.Numbers.{MeetsAt, MeetsNumbered}
use Rattle.exact.proofs.Declared.{read-declared, named-declared}
use Rattle.lines.specs.Fillings.{WordsMeet}
use Rattle.lines.proofs.Shown.{of-solving, words-meet, read-counts}
use Rattle.lines.proofs.Lines.{example-written-line}
use Rattle.replay.specs.Trail.{trail, run_trail}
use Rattle.replay.specs.Replay.{replay}
use Rattle.replay.specs.Calls.{lent, solving_trail_of, solving_trail, trail_of, replaying_of, replaying, showing_trail}
use Rattle.replay.proofs.Along.{replay-keeps}
use Rattle.replay.proofs.Accepted.{trail-accepted, trail-long, three-words}
use Rattle.replay.proofs.Replayed.{replay-numbered, replay-exact, replay-rests}
use Rattle.replay.proofs.Trailed.{run-with-room, trail-run}

differ : {A : Type 0} (x y : Solving) (f : Solving → ℕ) → x ≡ y → f x ≡ 0 → f y ≡ 1 → A
differ x y f e a b = let z : f x ≡ f y = ap f e in absurd (omega arith)

abbrev which : Solving → ℕ
which (answered ls n) = 1
which (unread r) = 0
which (given-up r) = 0

-- by whether each slice is too short
abbrev long : Bool → Bool → Solving → Solving
long a b s = elim a [ true ↦ unread ShortSlice | false ↦ elim b [ true ↦ unread ShortSlice | false ↦ s ] ]

-- both slices are long enough where there is an answer
lent_is : (L : Limits) (work answer : ℕ) (s : Solving) (ls : List Numbered) (n : ℕ) → lent L work answer s ≡ answered ls n
    → (s ≡ answered ls n) × ((t : Solving) → lent L work answer t ≡ t)
lent_is L work answer s ls n e = go (ltb work L.room) refl (ltb answer L.room) refl e
  where
    go : (a : Bool) → ltb work L.room ≡ a → (b : Bool) → ltb answer L.room ≡ b → long a b s ≡ answered ls n → (s ≡ answered ls n) × ((t : Solving) → lent L work answer t ≡ t)
    go true x b y e = differ (unread ShortSlice) (answered ls n) which e refl refl
    go false x true y e = differ (unread ShortSlice) (answered ls n) which e refl refl
    go false x false y e = (e, λ t. ap (λ a. long a (ltb answer L.room) t) x ∙ ap (λ b. long false b t) y)

ran-is : (o : Outcome) (ls : List Numbered) (n : ℕ) → ran o ≡ answered ls n → o ≡ finished ls n
ran-is (finished ms m) ls n e = cc
ran-is (refused r) ls n e = differ (given-up r) (answered ls n) which e refl refl

-- ---- an answer is of a question that was read

pub replayed-run : (L : Limits) (work answer : ℕ) (half : Bool) (trail ws : List ℕ) (ls : List Numbered) (n : ℕ) → replaying L work answer half trail ws ≡ answered ls n
    → (q : Question) × (read_question L ws ≡ asks q) × (replay L (signature q.counts) half trail q.alternatives ≡ finished ls n)
unfolding replaying
replayed-run L work answer half trail ws ls n e = of-asked (read_question L ws) refl (lent_is L work answer (replaying_of L half trail (read_question L ws)) ls n e).0
  where
    of-asked : (a : Asked) → read_question L ws ≡ a → replaying_of L half trail a ≡ answered ls n
        → (q : Question) × (read_question L ws ≡ asks q) × (replay L (signature q.counts) half trail q.alternatives ≡ finished ls n)
    of-asked (asks q) d e = (q, d, ran-is (replay L (signature q.counts) half trail q.alternatives) ls n e)
    of-asked (refuses r) d e = differ (unread r) (answered ls n) which e refl refl

pub trailed-run : (L : Limits) (work answer room : ℕ) (ws : List ℕ) (ls : List Numbered) (n : ℕ) → solving_trail L work answer room ws ≡ answered ls n
    → (q : Question) × (read_question L ws ≡ asks q) × (run_trail L (signature q.counts) room q.alternatives ≡ finished ls n)
unfolding solving_trail
trailed-run L work answer room ws ls n e = of-asked (read_question L ws) refl (lent_is L work answer (solving_trail_of L room (read_question L ws)) ls n e).0
  where
    of-asked : (a : Asked) → read_question L ws ≡ a → solving_trail_of L room a ≡ answered ls n
        → (q : Question) × (read_question L ws ≡ asks q) × (run_trail L (signature q.counts) room q.alternatives ≡ finished ls n)
    of-asked (asks q) d e = (q, d, ran-is (run_trail L (signature q.counts) room q.alternatives) ls n e)
    of-asked (refuses r) d e = differ (unread r) (answered ls n) which e refl refl

-- ---- demand 3, whoever wrote the trail

-- by number,
pub replayed-numbered : (L : Limits) (work answer : ℕ) (half : Bool) (trail ws : List ℕ) (ls : List Numbered) (s : ℕ) → replaying L work answer half trail ws ≡ answered ls s
    → (q : Question) × (read_question L ws ≡ asks q) × ((ρ : Filling) (n : ℕ) → MeetsAt (signature q.counts) ρ n q.alternatives ↔ MeetsNumbered (signature q.counts) ρ n ls)
replayed-numbered L work answer half trail ws ls s e =
    let (q, asked, ran) = replayed-run L work answer half trail ws ls s e in
    (q, asked, replay-numbered (signature q.counts) L half trail q.alternatives ls s ran)

-- and as a whole;
pub replayed-exact : (L : Limits) (work answer : ℕ) (half : Bool) (trail ws : List ℕ) (ls : List Numbered) (n : ℕ) → replaying L work answer half trail ws ≡ answered ls n
    → (q : Question) × (read_question L ws ≡ asks q) × ((ρ : Filling) → MeetsQuestion ρ q ↔ MeetsOne (signature q.counts) ρ (unnumbered ls))
replayed-exact L work answer half trail ws ls n e =
    let (q, asked, ran) = replayed-run L work answer half trail ws ls n e in
    (q, asked, replay-exact (signature q.counts) L half trail q.alternatives ls n ran)

-- "none" is said only rightly: the night shift's case.
pub replayed-none : (L : Limits) (work answer : ℕ) (half : Bool) (trail ws : List ℕ) (n : ℕ) → replaying L work answer half trail ws ≡ answered [] n
    → (q : Question) × (read_question L ws ≡ asks q) × ((ρ : Filling) → ¬ MeetsQuestion ρ q)
replayed-none L work answer half trail ws n e = let (q, asked, same) = replayed-exact L work answer half trail ws [] n e in (q, asked, λ ρ m. (same ρ).0 m)

-- to no line does a rule apply;
pub replayed-rests : (L : Limits) (work answer : ℕ) (half : Bool) (trail ws : List ℕ) (ls : List Numbered) (n : ℕ) → replaying L work answer half trail ws ≡ answered ls n
    → (q : Question) × (read_question L ws ≡ asks q) × EachLine (λ k. step (signature q.counts) k ≡ nothing) ls
replayed-rests L work answer half trail ws ls n e =
    let (q, asked, ran) = replayed-run L work answer half trail ws ls n e in
    (q, asked, replay-rests (signature q.counts) L half trail q.alternatives ls n ran)

-- and the words that the example with a trail shows are a filling of the question that was asked, and it meets the question.
pub shown-trail-meets : (L : Limits) (old : Bool) (work answer room line : ℕ) (half : Bool) (trail ws fs : List ℕ) → showing_trail L old work answer room line half trail ws ≡ shows fs
    → (q : Question) × (read_question L ws ≡ asks q) × WordsMeet L q.counts fs q.alternatives
unfolding showing_trail
shown-trail-meets L old work answer room line half trail ws fs e =
    let s = of-solving L old (counts_of ws) room line fs (replaying L work answer half trail ws) e in
    let (q, asked, ran) = replayed-run L work answer half trail ws s.lines s.steps s.was-answered in
    let (counts, declared) = read-declared L ws q asked in
    let σ = signature q.counts in (
      q,
      asked,
      words-meet L old q.counts (counts_of ws) fs s.literals q.alternatives counts s.written s.fits
          (example-written-line L old q.counts (alternatives_of ws) q.alternatives s.lines (rw counts (read-counts L ws q asked))
          (replay-keeps σ _ (named-declared q.counts) L half trail q.alternatives s.lines s.steps ran declared)
          (replay-rests σ L half trail q.alternatives s.lines s.steps ran)
          (replay-exact σ L half trail q.alternatives s.lines s.steps ran)
          line (record { number = s.number; literals = s.literals }) s.there s.is-solved),
    )

-- ---- the desk's own trail

-- Where solving answers and the room takes three words a step, solving with a trail answers so too,
pub trailed : (L : Limits) (work answer room : ℕ) (ws : List ℕ) (ls : List Numbered) (n : ℕ) → solving L work answer ws ≡ answered ls n → 3 * n ≤ room
    → solving_trail L work answer room ws ≡ answered ls n
unfolding solving solving_trail
trailed L work answer room ws ls n e s = go (read_question L ws) (lent_is L work answer (solving_of L (read_question L ws)) ls n e).0 (lent_is L work answer (solving_of L (read_question L ws)) ls n e).1
  where
    go : (a : Asked) → solving_of L a ≡ answered ls n → ((t : Solving) → lent L work answer t ≡ t) → lent L work answer (solving_trail_of L room a) ≡ answered ls n
    go (asks q) d f =
        f (solving_trail_of L room (asks q))
        ∙ ap ran (run-with-room L (signature q.counts) room q.alternatives ls n (ran-is (run L (signature q.counts) q.alternatives) ls n d) s)
    go (refuses r) d f = differ (unread r) (answered ls n) which d refl refl

-- and only there;
pub untrailed : (L : Limits) (work answer room : ℕ) (ws : List ℕ) (ls : List Numbered) (n : ℕ) → solving_trail L work answer room ws ≡ answered ls n
    → (solving L work answer ws ≡ answered ls n) × (3 * n ≤ room) × (length (trail_of L (read_question L ws)) ≡ 3 * n)
unfolding solving solving_trail
untrailed L work answer room ws ls n e = go (read_question L ws) (lent_is L work answer (solving_trail_of L room (read_question L ws)) ls n e).0 (lent_is L work answer (solving_trail_of L room (read_question L ws)) ls n e).1
  where
    go : (a : Asked) → solving_trail_of L room a ≡ answered ls n → ((t : Solving) → lent L work answer t ≡ t)
        → (lent L work answer (solving_of L a) ≡ answered ls n) × (3 * n ≤ room) × (length (trail_of L a) ≡ 3 * n)
    go (asks q) d f =
        let σ = signature q.counts in
        let (r, s) = trail-run L σ room q.alternatives ls n (ran-is (run_trail L σ room q.alternatives) ls n d) in
        (f (solving_of L (asks q)) ∙ ap ran r, s, three-words (trail L σ q.alternatives) ∙ ap (λ m. 3 * m) (trail-long L σ q.alternatives ls n r))
    go (refuses r) d f = differ (unread r) (answered ls n) which d refl refl

-- and "the trail of every answered solve is accepted and gives the same lines".
pub own-trail-accepted : (L : Limits) (work answer : ℕ) (ws : List ℕ) (ls : List Numbered) (n : ℕ) → solving L work answer ws ≡ answered ls n
    → replaying L work answer false (trail_of L (read_question L ws)) ws ≡ answered ls n
unfolding solving replaying
own-trail-accepted L work answer ws ls n e =
    go (read_question L ws) (lent_is L work answer (solving_of L (read_question L ws)) ls n e).0 (lent_is L work answer (solving_of L (read_question L ws)) ls n e).1
  where
    go : (a : Asked) → solving_of L a ≡ answered ls n → ((t : Solving) → lent L work answer t ≡ t) → lent L work answer (replaying_of L false (trail_of L a) a) ≡ answered ls n
    go (asks q) d f =
        f (replaying_of L false (trail_of L (asks q)) (asks q))
        ∙ ap ran (trail-accepted L (signature q.counts) q.alternatives ls n (ran-is (run L (signature q.counts) q.alternatives) ls n d))
    go (refuses r) d f = differ (unread r) (answered ls n) which d refl refl
