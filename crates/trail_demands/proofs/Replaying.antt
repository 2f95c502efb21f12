-- What is shown of any call of desk_replay that came back.
use Prim.Native.Nat.{ℕ, ◌*◌, ◌/◌}
use mathlib.Core.Path.{◌≡◌, refl, sym, ap, subst, ◌∙◌}
use mathlib.Core.Logic.{inl, inr}
use mathlib.Core.Bool.{Bool, true, false}
use mathlib.Core.List.{List, [], ◌∷◌, ◌++◌, map}
use native.Mathlib.Omega.{arith}
use lib.Dec.{lit≤, ltb}
use lib.ListN.{length, drop}
use Rattle.language.specs.declared.Refusal.{Refusal}
use Rattle.language.specs.declared.Refusal.TheVariants.{ShortSlice}
use Rattle.language.specs.declared.Signature.{Signature}
use Rattle.language.specs.Limits.{desk}
use Rattle.language.specs.Numbers.{number_of}
use Rattle.language.specs.Trees.{signature}
use Rattle.language.specs.Question.{Asked, asks, refuses, read_question}
use Rattle.rules.specs.Reply.{nothing}
use Rattle.rules.specs.Step.{step}
use Rattle.rules.specs.Solved.{solved}
use Rattle.rules.specs.Run.{Numbered, EachLine, Outcome, finished, refused}
use Rattle.rules.specs.Answer.{Solving, answered, unread, given-up, ran, answer_words}
use Rattle.rules.proofs.Steps.{named-at-sides}
use Rattle.rules.proofs.Stopping.{RunStopsBy}
use Rattle.exact.proofs.Declared.{read-declared, named-declared}
use Rattle.lines.specs.Matching.{Matching, KeepsMatching}
use Rattle.lines.proofs.Lines.{rules-keep-matching, matching-line-solved}
use Rattle.word_bytes.specs.Bytes.{words_of, words_in, half_word, bytes_of}
use Rattle.answer_example.specs.Answers.{Answer}
use Rattle.host.specs.Host as host
use Rattle.host.proofs.Refusals.{Between, Early, early}
use Rattle.replay.specs.Replay.{replay}
use Rattle.replay.specs.Calls.{lent, replaying_of, replaying}
use Rattle.replay.proofs.Along.{replay-keeps}
use Rattle.replay.proofs.Refused.{replay-stops-by}
use Rattle.replay.proofs.Replayed.{replay-numbered, replay-exact, replay-rests}
use Rattle.replay.proofs.Told.{replayed-run}
use Rattle.trail_example.proofs.Finished.{retraced-end}
use Rattle.trail_host.specs.Host.{replaying_bytes}
use Rattle.demands.specs.Columns.{column, zeroed}
use Rattle.demands.specs.Answers.{numbered_of}
use Rattle.demands.specs.HostTells.{left_in_bytes}
use Rattle.demands.proofs.Between.{not-zero}
use Rattle.demands.proofs.Columns.{early-column}
use Rattle.demands.proofs.Hosting.{words-before}
use Rattle.demands.proofs.Promising.{Kept, marks-of, each-line-of, exact-of}
use Rattle.demands.proofs.Reading.{as_line, answer_back, numbered-back}
use Rattle.trail_demands.specs.Calls.{DeskReplay}
use Rattle.trail_demands.specs.Tells.{Accepted, ReplayingNumber, DeskReplayTells}
use Rattle.trail_demands.specs.Tells as tells

-- ---- demand 3 of a replay, whoever wrote the trail

-- matching is kept by a step at any named place, and a matching line that no rule applies to is solved
each-solved : (σ : Signature) (ls : List Numbered) → EachLine Matching ls → EachLine (λ k. step σ k ≡ nothing) ls → EachLine (λ k. solved k ≡ true) ls
each-solved σ [] m q = tt
each-solved σ (k ∷ ls) m q = (matching-line-solved σ k.literals m.0 q.0, each-solved σ ls m.1 q.1)

pub replay-kept : (work answer : ℕ) (half : Bool) (trail question : List ℕ) (ls : List Numbered) (n : ℕ) → replaying desk work answer half trail question ≡ answered ls n → Kept question ls
replay-kept work answer half trail question ls n e =
    let (q, asked, ran) = replayed-run desk work answer half trail question ls n e in
    let σ = signature q.counts in
    let rests = replay-rests σ desk half trail q.alternatives ls n ran in
    record {
      asked = q;
      question-read = asked;
      same = λ ρ. replay-exact σ desk half trail q.alternatives ls n ran ρ;
      numbered = λ ρ m. replay-numbered σ desk half trail q.alternatives ls n ran ρ m;
      quiet = rests;
      declared = replay-keeps σ _ (named-declared q.counts) desk half trail q.alternatives ls n ran (read-declared desk question q asked).1;
      matched = λ m.
          each-solved σ ls (replay-keeps σ Matching (λ s k ks p d. named-at-sides KeepsMatching σ (rules-keep-matching σ) s k ks d p) desk half trail q.alternatives ls n ran m) rests;
    }

-- ---- which refusals there are

abbrev Late : Refusal → Type 0
Late r = ReplayingNumber (number_of r) × (column r ≡ zeroed)

abbrev Stops : Solving → Type 0
Stops (answered ls n) = Unit {0}
Stops (unread r) = Between 1 6 r
Stops (given-up r) = Late r

stops-run : (o : Outcome) → RunStopsBy Late o → Stops (ran o)
stops-run (finished ls n) h = tt
stops-run (refused r) h = h

stops-asked : (half : Bool) (trail : List ℕ) (a : Asked) → Early a → Stops (replaying_of desk half trail a)
stops-asked half trail (asks q) h =
    stops-run (replay desk (signature q.counts) half trail q.alternatives)
    (replay-stops-by Late (inl (lit≤ tt), refl) (inl (lit≤ tt), refl) (inl (lit≤ tt), refl) (inr (inl refl), refl) (inr (inr (lit≤ tt, lit≤ tt)), refl)
    (inr (inr (lit≤ tt, lit≤ tt)), refl) (inr (inr (lit≤ tt, lit≤ tt)), refl) desk (signature q.counts) half trail q.alternatives)
stops-asked half trail (refuses r) h = h

stops-tested : (b : Bool) (s : Solving) → Stops s → Stops (elim b [ true ↦ unread ShortSlice | false ↦ s ])
stops-tested true s h = (lit≤ tt, lit≤ tt)
stops-tested false s h = h

stops-lent : (work answer : ℕ) (s : Solving) → Stops s → Stops (lent desk work answer s)
stops-lent work answer s h = stops-tested (ltb work desk.room) (elim (ltb answer desk.room) [ true ↦ unread ShortSlice | false ↦ s ]) (stops-tested (ltb answer desk.room) s h)

-- ---- the call

module _ (c : DeskReplay) where
  abbrev words : List ℕ
  words = words_in c.question

  abbrev comes : Solving
  comes = replaying desk desk.room (length c.answer / 2) (half_word c.trail) (words_of c.trail) words

  accepted : (ls : List Numbered) (n : ℕ) → comes ≡ answered ls n → c.answer_left ≡ bytes_of (answer_words desk ls) ++ drop (2 * desk.room) c.answer
      → (a : Accepted words (words_of c.answer_left)) × (a.lines ≡ map as_line ls)
  accepted ls n d f =
      let k = replay-kept desk.room (length c.answer / 2) (half_word c.trail) (words_of c.trail) words ls n d in
      let s = retraced-end desk.room (length c.answer / 2) (half_word c.trail) (words_of c.trail) words ls n d in
      let there : Answer (words_of c.answer_left) ls = record {
        few = s.few;
        size = s.size;
        rest = words_of (drop (2 * desk.room) c.answer);
        words = ap words_of f ∙ words-before (answer_words desk ls) (drop (2 * desk.room) c.answer);
        lines = s.lines;
      } in (
        record {
          asked = k.asked;
          question-read = k.question-read;
          lines = map as_line ls;
          answer-read = answer_back there;
          marks = marks-of ls;
          rests = each-line-of (λ l. step (signature k.asked.counts) l.literals ≡ nothing) (λ j. step (signature k.asked.counts) j ≡ nothing) (λ j q. q) ls k.quiet;
          exact = exact-of k;
        },
        refl,
      )

  -- what the call came to, where it is accepted
  pub record Replays : Type 0 where
    pub ls : List Numbered
    pub n : ℕ
    pub replayed : comes ≡ answered ls n
    pub left : c.answer_left ≡ bytes_of (answer_words desk ls) ++ drop (2 * desk.room) c.answer
    pub there : Accepted words (words_of c.answer_left)
    pub lines : there.lines ≡ map as_line ls

  pub replays : c.number ≡ 0 → Replays
  unfolding replaying_bytes host.solve_number host.solve_leaves
  replays z = by comes refl c.said.0 c.said.1
    where
      by : (v : Solving) → comes ≡ v → c.number ≡ host.solve_number v → c.answer_left ≡ host.solve_leaves desk v c.answer → Replays
      by (answered ls n) d e f = let (a, g) = accepted ls n d f in record { ls = ls; n = n; replayed = d; left = f; there = a; lines = g }
      by (unread r) d e f = not-zero r (sym e ∙ z)
      by (given-up r) d e f = not-zero r (sym e ∙ z)

  stops : Stops comes
  unfolding replaying
  stops =
      stops-lent desk.room (length c.answer / 2) (replaying_of desk (half_word c.trail) (words_of c.trail) (read_question desk words))
      (stops-asked (half_word c.trail) (words_of c.trail) (read_question desk words) (early desk words))

  pub replay-tells : DeskReplayTells c
  unfolding replaying_bytes host.solve_number host.solve_leaves
  replay-tells = by comes refl c.said.0 c.said.1
    where
      by : (v : Solving) → comes ≡ v → c.number ≡ host.solve_number v → c.answer_left ≡ host.solve_leaves desk v c.answer → DeskReplayTells c
      by (answered ls n) d e f =
          let (a, g) = accepted ls n d f in
          tells.accepts e a (f ∙ ap (λ ks. bytes_of (answer_words desk ks) ++ drop (2 * desk.room) c.answer) (sym (ap numbered_of g ∙ numbered-back ls)))
      by (unread r) d e f =
          let b : Stops (unread r) = subst Stops d stops in
          tells.refuses r e (inl (let h = b.1 in omega arith)) (f ∙ sym (ap (λ k. left_in_bytes k c.answer c.answer) (early-column r b.1)))
      by (given-up r) d e f =
          let b : Stops (given-up r) = subst Stops d stops in
          tells.refuses r e b.0 (f ∙ sym (ap (λ k. left_in_bytes k c.answer c.answer) b.1))
