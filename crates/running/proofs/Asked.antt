-- A question that was read: its parts are the words of its conjunctions, each fine and short, and the run begins with them.
use Prim.Native.Nat.{ℕ, suc, ◌+◌, ◌-◌, ◌≤◌}
use native.Mathlib.Omega.{arith}
use mathlib.Core.Path.{◌≡◌, refl, sym, ap, ◌∙◌, subst}
use mathlib.Core.Bool.{true}
use mathlib.Core.List.{List, [], ◌∷◌, map}
use lib.Dec.{leb}
use lib.ListN.{length, drop, get_or, length-take, length-drop}
use borrow.Author.Tests.{leb-true}
use Rattle.language.specs.Limits.{desk}
use Rattle.language.specs.declared.Signature.{Signature}
use Rattle.language.specs.Trees.{Conj, signature, Question}
use Rattle.language.specs.Writing.{conj_words}
use Rattle.language.specs.Fine.{fine_conj}
use Rattle.language.specs.Question.{offsets, parts_from, parts, laid_out, length_fits, counts_of, asks, read_question}
use Rattle.language.proofs.Bools.{both_true}
use Rattle.language.proofs.Alternatives.{fine_all, read-all}
use Rattle.language.proofs.Asking.{Passed, passed, ranges}
use Rattle.waiting.specs.Waiting.{in_order, Laid}
use Rattle.waiting.proofs.Blocks.{laid-wait}
use Rattle.answers.specs.declared.Tally.{Tally}
use Rattle.answers.specs.Lined.{Lined}
use Rattle.reader.proofs.Answers.{question-asked}
use Rattle.reader.specs.Checking.{checked}
use Rattle.std.specs.Prelude.{Ok}
use Rattle.rules.specs.Run.{numbered, size}
use Rattle.rules.specs.Each.{Each}
use Rattle.rules.proofs.Invariant.{each-numbered}
use Rattle.running.specs.Running.{Running}
use Rattle.running.proofs.Lengths.{blocks-order}
use Rattle.courses.specs.declared.Course.{Course}
use Rattle.courses.specs.declared.Course.TheVariants.{First, Noted, Told}
use Rattle.running.specs.Courses.{left, Guided}
use Rattle.replay.specs.Trail.{trail}
use Rattle.running.specs.Turning.{guide, left_of, Trailed, Under, signature_of, conjunctions_of}

-- no part is longer than the whole
short-parts : (n from : ℕ) (os ws : List ℕ) → length ws ≤ n → Each (λ b. length b ≤ n) (parts_from from os ws)
short-parts n from [] ws h = tt
short-parts n from (to ∷ os) ws h =
    (let e = length-take (to - from) ws in omega arith, short-parts n to os (drop (to - from) ws) (let e = length-drop (to - from) ws in omega arith))

short-conjunctions : (ks : List Conj) → Each (λ b. length b ≤ desk.question) (map conj_words ks) → Each (λ k. size k ≤ desk.question) ks
short-conjunctions [] p = tt
short-conjunctions (k ∷ ks) p = (p.0, short-conjunctions ks p.1)

each-fine : (ks : List Conj) → fine_all desk ks → Each (fine_conj desk) ks
each-fine [] p = tt
each-fine (k ∷ ks) p = (p.0, each-fine ks p.1)

module _ (ws : List ℕ) (e : Ok tt ≡ checked (read_question desk ws)) where
  asked : (q : Question) × (read_question desk ws ≡ asks q)
  asked = question-asked ws e

  checks : Passed desk ws asked.0
  checks = passed desk ws asked.0 asked.1

  pub asked-fits : length ws ≤ desk.question
  unfolding length_fits
  asked-fits = leb-true (length ws) desk.question (both_true (leb 6 (length ws)) (leb (length ws) desk.question) checks.length-fits).1

  pub asked-long : 5 ≤ length ws
  unfolding length_fits
  asked-long = let z = leb-true 6 (length ws) (both_true (leb 6 (length ws)) (leb (length ws) desk.question) checks.length-fits).0 in omega arith

  pub asked-laid : laid_out 5 (get_or ws 4 0) ws ≡ true
  asked-laid = checks.laid_out

  abbrev asks-for : List Conj
  asks-for = conjunctions_of (read_question desk ws)

  asked-read : fine_all desk asks-for × (parts 5 (get_or ws 4 0) ws ≡ map conj_words asks-for)
  asked-read =
      subst (λ a. fine_all desk (conjunctions_of a) × (parts 5 (get_or ws 4 0) ws ≡ map conj_words (conjunctions_of a))) (sym asked.1)
      (read-all desk (parts 5 (get_or ws 4 0) ws) asked.0.alternatives checks.words checks.read)

  asked-short : Each (λ b. length b ≤ desk.question) (parts 5 (get_or ws 4 0) ws)
  unfolding parts
  asked-short =
      short-parts desk.question (5 + suc (get_or ws 4 0)) (drop 1 (offsets 5 (get_or ws 4 0) ws)) (drop (5 + suc (get_or ws 4 0)) ws)
      (let z = asked-fits in let y = length-drop (5 + suc (get_or ws 4 0)) ws in omega arith)

  pub asked-signature : signature_of (read_question desk ws) ≡ signature (counts_of ws)
  asked-signature = ap signature_of asked.1 ∙ ap signature (passed desk ws asked.0 asked.1).counts

  -- the run begins
  begins : (old_work old_answer work answer : List ℕ) (at : ℕ) (t : Tally) (σ : Signature) → σ ≡ signature_of (read_question desk ws) → desk.room ≤ length old_work → desk.room ≤ length old_answer → length answer ≡ length old_answer
      → Laid old_work at (in_order 0 (parts 5 (get_or ws 4 0) ws)) work → Lined old_answer [] t answer
      → Running old_work old_answer [] (numbered 0 asks-for) (record { at = at; steps = 0; tally = t; signature = σ }) work answer
  begins old_work old_answer work answer at t σ signed room space kept w l =
      let r = asked-read in
      record {
        few = let r = (ranges desk ws asked.0 asked.1).symbols in let z = ap (λ (s : Signature). s.symbols) (signed ∙ asked-signature) in omega arith;
        waiting = laid-wait old_work at _ work room (subst (λ bs. Laid old_work at bs work) (ap (in_order 0) r.1 ∙ blocks-order 0 asks-for) w);
        lined = l;
        fine = each-numbered (fine_conj desk) 0 asks-for (each-fine asks-for r.0);
        short = each-numbered (λ k. size k ≤ desk.question) 0 asks-for (short-conjunctions asks-for (subst (Each (λ b. length b ≤ desk.question)) r.1 asked-short));
        room = room;
        kept = kept;
        space = space;
      }

  -- no step is noted yet
  none-noted : (course : Course) (out : List ℕ) → Trailed course (trail desk (signature_of (read_question desk ws)) asks-for) out (signature_of (read_question desk ws)) 0 (numbered 0 asks-for) out
  unfolding trail
  none-noted First out = refl
  none-noted Told out = refl
  none-noted Noted out = record { done = []; count = refl; words = refl; fits = omega arith; rest = refl }

  none_made : (course : Course) (told : List ℕ) → Guided course told 0
  none_made First told = tt
  none_made Noted told = tt
  none_made Told told = omega arith

  pub under-way : (course : Course) (told out old_work old_answer work answer : List ℕ) (at : ℕ) (t : Tally) (σ : Signature) → σ ≡ signature_of (read_question desk ws) → desk.room ≤ length old_work → desk.room ≤ length old_answer
      → length answer ≡ length old_answer → Laid old_work at (in_order 0 (parts 5 (get_or ws 4 0) ws)) work → Lined old_answer [] t answer
      → Under (guide course told out (trail desk (signature_of (read_question desk ws)) asks-for)) old_work old_answer [] (numbered 0 asks-for) (record { at = at; steps = 0; tally = t; signature = σ }) work answer out
  under-way course told out old_work old_answer work answer at t σ signed room space kept w l = record {
    running = begins old_work old_answer work answer at t σ signed room space kept w l;
    trailed = subst (λ σ. Trailed course (trail desk (signature_of (read_question desk ws)) asks-for) out σ 0 (numbered 0 asks-for) out) (sym signed) (none-noted course out);
    guided = none_made course told;
  }

  pub begin-left : (course : Course) (told out : List ℕ) (at : ℕ) (t : Tally) (σ : Signature) → σ ≡ signature_of (read_question desk ws)
      → left_of (guide course told out (trail desk (signature_of (read_question desk ws)) asks-for)) (record { at = at; steps = 0; tally = t; signature = σ }) [] (numbered 0 asks-for)
      ≡ left course told (length out) (signature_of (read_question desk ws)) 0 [] (numbered 0 asks-for)
  unfolding left_of
  begin-left course told out at t σ e = ap (λ σ. left course told (length out) σ 0 [] (numbered 0 asks-for)) e
