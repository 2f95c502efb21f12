-- Which step is made next on each course, and that the run goes on from its results.
use Prim.Native.Nat.{ℕ, ◌+◌, ◌*◌, ◌<◌, ◌≤◌}
use native.Mathlib.Omega.{arith}
use mathlib.Core.Path.{◌≡◌, refl, sym, ap, ◌∙◌, subst}
use mathlib.Core.Bool.{Bool, true, false}
use mathlib.Core.List.{List, [], ◌∷◌}
use mathlib.Core.Option.{Option, none, some}
use lib.Dec.{leb}
use lib.ListN.{length, drop, length-drop, get_or}
use borrow.Author.Tests.{leb-true, leb-false}
use Rattle.std.specs.Prelude.{Result, Ok, Err}
use Rattle.language.specs.declared.Refusal.{Refusal}
use Rattle.language.specs.declared.Refusal.TheVariants.{StepLimit, ShortTrail, BadStep, LongTrail}
use Rattle.language.specs.declared.Signature.{Signature}
use Rattle.language.specs.Limits.{desk}
use Rattle.language.specs.Kinds.{pick}
use Rattle.language.specs.Trees.{Conj}
use Rattle.language.specs.Fine.{fine_conj}
use Rattle.rules.specs.Each.{Each}
use Rattle.rules.specs.Reply.{Reply, nothing, results, stops}
use Rattle.rules.specs.Places.{no_rule}
use Rattle.rules.specs.Step.{Spot, step, step_at, search}
use Rattle.rules.specs.Run.{Numbered}
use Rattle.rules.proofs.FineSteps.{step-fine, named-fine}
use Rattle.replay.specs.Replay.{Triple, triples, spot_of}
use Rattle.search.specs.declared.Best.{Best}
use Rattle.search.specs.Ranking.{Found, nowhere, halted, somewhere}
use Rattle.search.proofs.Pass.{searched}
use Rattle.telling.specs.Telling.{triple_of, named_reply, named, chosen_by, Applies}
use Rattle.telling.proofs.Laws.{chosen_is, named-applies}
use Rattle.word_bytes.specs.Bytes.{words_of}
use Rattle.word_bytes.proofs.Pairs.{length-words_of}
use Rattle.running.specs.declared.moves.State.{State}
use Rattle.courses.specs.declared.Course.{Course}
use Rattle.courses.specs.declared.Course.TheVariants.{First, Noted, Told}
use Rattle.running.specs.Courses.{Guided, next_of, under_ceiling, Chooses, refuses, makes, ran_of, Finishes, done, goes_on}
use Rattle.running.proofs.Left.{first-none, noted-none, first_step, noted_step, told-short, told-wrong, told-stopped, told-step, no-triples, next-triple, next-rest, first_ends, noted-ends, told-ends, told_more}

module _ (told : List ℕ) (room : ℕ) (σ : Signature) (n : ℕ) (c : Numbered) (fine : fine_conj desk c.literals) (few : σ.symbols ≤ desk.each)
    (b : Best) (low : b.rank < no_rule) (found : Found σ c.literals b.rank b.at b.swap) where
  -- what was found: its results, and how it applies
  record Finds : Type 0 where
    ks : List Conj
    applies : Applies σ c.literals b ks
    stepped : step σ c.literals ≡ results ks
    traced : search σ c.literals ≡ results (record { rule = b.rank; literal = length applies.before; swapped = b.swap }, ks)

  finds : Finds
  finds = go found
    where
      go : Found σ c.literals b.rank b.at b.swap → Finds
      go (nowhere e d) = absurd (omega arith)
      go (halted e d) = absurd (omega arith)
      go (somewhere before l behind ks e q m a d) = record {
        ks = ks;
        applies = record { before = before; l = l; behind = behind; whole = e; place = q; makes = a };
        stepped = searched σ c.literals _ d;
        traced = d;
      }

  fine-results : Each (fine_conj desk) finds.ks
  fine-results = step-fine desk σ few c.literals finds.ks fine finds.stepped

  pub chosen-first : (r : Result Best Refusal) → r ≡ under_ceiling b n → Chooses First told room σ n c r
  chosen-first r e = go (leb desk.steps n) refl
    where
      go : (x : Bool) → leb desk.steps n ≡ x → Chooses First told room σ n c r
      go true d = refuses StepLimit (e ∙ ap {B = Result Best Refusal} (λ x. pick x (Err StepLimit) (Ok b)) d) (λ ls w. first-none told room σ n ls c w finds.ks finds.stepped (leb-true desk.steps n d))
      go false d =
          makes b finds.ks (e ∙ ap {B = Result Best Refusal} (λ x. pick x (Err StepLimit) (Ok b)) d) finds.applies
          (λ ls w. first_step told room σ n ls c w finds.ks finds.stepped (leb-false desk.steps n d)) (leb-false desk.steps n d) fine-results tt

  pub chosen-noted : (r : Result Best Refusal) → r ≡ under_ceiling b n → Chooses Noted told room σ n c r
  chosen-noted r e = go (leb desk.steps n) refl
    where
      go : (x : Bool) → leb desk.steps n ≡ x → Chooses Noted told room σ n c r
      go true d = refuses StepLimit (e ∙ ap {B = Result Best Refusal} (λ x. pick x (Err StepLimit) (Ok b)) d) (λ ls w. noted-none told room σ n ls c w finds.ks finds.stepped (leb-true desk.steps n d))
      go false d =
          makes b finds.ks (e ∙ ap {B = Result Best Refusal} (λ x. pick x (Err StepLimit) (Ok b)) d) finds.applies
          (λ ls w. noted_step told room σ n ls c w finds.ks finds.stepped (leb-false desk.steps n d)) (leb-false desk.steps n d) fine-results (low, finds.traced)

  -- the results of what three words name are fine
  named-results : (t : Triple) (js : List Conj) → named_reply σ t c.literals ≡ results js → Each (fine_conj desk) js
  named-results t js e = go (spot_of t) e
    where
      go : (o : Option Spot) → elim o [ none ↦ nothing | some s ↦ step_at σ s c.literals ] ≡ results js → Each (fine_conj desk) js
      go none e = absurd (let z : ◌≡◌ {A = ℕ} 0 1 = cc in omega arith)
      go (some s) e = named-fine desk σ few s c.literals js fine e

  module _ (r : Result Best Refusal) (h : 6 * n ≤ length told) (e : r ≡ next_of σ c.literals (triples (drop (3 * n) (words_of told)))) where
    -- what the next three words come to
    told-next : (t : Triple) (ts : List Triple) → triples (drop (3 * n) (words_of told)) ≡ t ∷ ts → (m : Reply (List Conj)) → named_reply σ t c.literals ≡ m → Chooses Told told room σ n c r
    told-next t ts d nothing m =
        refuses BadStep (e ∙ ap (next_of σ c.literals) d ∙ sym (chosen_is σ c.literals t nothing m))
        (λ ls w. told-wrong told room σ n ls c w finds.ks finds.stepped t ts d m)
    told-next t ts d (stops x) m =
        refuses x (e ∙ ap (next_of σ c.literals) d ∙ sym (chosen_is σ c.literals t (stops x) m))
        (λ ls w. told-stopped told room σ n ls c w finds.ks finds.stepped t ts d x m)
    told-next t ts d (results js) m =
        let z = length-words_of told in
        let (u, v) = next-rest (words_of told) n t ts (omega arith) d in
        makes (named c.literals t) js (e ∙ ap (next_of σ c.literals) d ∙ sym (chosen_is σ c.literals t (results js) m)) (named-applies σ c.literals t js m)
        (λ ls w. told-step told room σ n ls c w finds.ks finds.stepped t ts d js m u) (omega arith) (named-results t js m) tt

    pub chosen-told : Chooses Told told room σ n c r
    chosen-told = go (triples (drop (3 * n) (words_of told))) refl
      where
        go : (ts : List Triple) → triples (drop (3 * n) (words_of told)) ≡ ts → Chooses Told told room σ n c r
        go [] d = refuses ShortTrail (e ∙ ap (next_of σ c.literals) d) (λ ls w. told-short told room σ n ls c w finds.ks finds.stepped d)
        go (t ∷ ts) d = told-next t ts d (named_reply σ t c.literals) refl

-- ---- the next of a trail in bytes

module _ (σ : Signature) (c : Conj) (told : List ℕ) (made : ℕ) where
  pub none_told : length told < 6 * made + 6 → Err ShortTrail ≡ next_of σ c (triples (drop (3 * made) (words_of told)))
  none_told h = sym (ap (next_of σ c) (no-triples (drop (3 * made) (words_of told)) (let z = length-drop (3 * made) (words_of told) in let y = length-words_of told in omega arith)))

  pub next-told : (a b d : ℕ) → 6 * made + 6 ≤ length told → a ≡ get_or (words_of told) (3 * made) 0 → b ≡ get_or (words_of told) (3 * made + 1) 0 → d ≡ get_or (words_of told) (3 * made + 2) 0
      → chosen_by σ c (triple_of a b d) ≡ next_of σ c (triples (drop (3 * made) (words_of told)))
  next-told a b d h ea eb ed =
      ap (λ x. chosen_by σ c (triple_of x b d)) ea ∙ ap (λ x. chosen_by σ c (triple_of (get_or (words_of told) (3 * made) 0) x d)) eb
      ∙ ap (λ x. chosen_by σ c (triple_of (get_or (words_of told) (3 * made) 0) (get_or (words_of told) (3 * made + 1) 0) x)) ed
      ∙ sym (ap (next_of σ c) (next-triple (words_of told) (3 * made) (let y = length-words_of told in omega arith)))

-- ---- what a course is known to be

pub of-course : (P : Course → Type 0) (course x : Course) → course ≡ x → P x → P course
of-course P course x e p = subst P (sym e) p

-- ---- the end

pub ends-first : (told : List ℕ) (course : Course) (s : State) → course ≡ First → Finishes told course s (Ok (ran_of s))
ends-first told course s e = subst (λ x. Finishes told x s (Ok (ran_of s))) (sym e) (done refl (λ room ls. first_ends told room s.signature s.steps ls))

pub ends-noted : (told : List ℕ) (course : Course) (s : State) → course ≡ Noted → Finishes told course s (Ok (ran_of s))
ends-noted told course s e = subst (λ x. Finishes told x s (Ok (ran_of s))) (sym e) (done refl (λ room ls. noted-ends told room s.signature s.steps ls))

module _ (told : List ℕ) (course : Course) (s : State) (e : course ≡ Told) (g : Guided course told s.steps) where
  here : 6 * s.steps ≤ length told
  here = subst (λ x. Guided x told s.steps) e g

  pub ends_more : 6 * s.steps < length told → Finishes told course s (Err LongTrail)
  ends_more i = subst (λ x. Finishes told x s (Err LongTrail)) (sym e) (goes_on refl (λ room ls. told_more told room s.signature s.steps ls here i))

  pub ends-told : length told ≤ 6 * s.steps → Finishes told course s (Ok (ran_of s))
  ends-told i = subst (λ x. Finishes told x s (Ok (ran_of s))) (sym e) (done refl (λ room ls. told-ends told room s.signature s.steps ls here i))
