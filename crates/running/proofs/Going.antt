-- The moves of a run in the slices: what stands first, a line more or 9, and the results of a step or 7, 8.
use Prim.Native.Nat.{ℕ, ◌+◌, ◌-◌, ◌<◌, ◌≤◌}
use native.Mathlib.Omega.{arith}
use native.Mathlib.Decide.{dec_le}
use mathlib.Core.Path.{◌≡◌, refl, sym, ap, ◌∙◌, subst}
use mathlib.Core.Bool.{false}
use mathlib.Core.List.{List, [], ◌∷◌, ◌++◌, map, map-append}
use lib.Dec.{ltb}
use lib.ListN.{length, drop}
use lib.Seq.{slice, sets, drop-drop, drop_at}
use borrow.Author.Tests.{lt-ltb, le-ltb}
use Rattle.std.specs.Prelude.{Some, Result, Ok, Err}
use Rattle.language.specs.declared.Refusal.{Refusal}
use Rattle.language.specs.declared.Refusal.TheVariants.{LineRoom}
use Rattle.language.specs.Limits.{desk}
use Rattle.language.specs.Trees.{Conj}
use Rattle.language.specs.Writing.{conj_words}
use Rattle.language.specs.Fine.{fine_conj}
use Rattle.rules.specs.Each.{Each}
use Rattle.rules.specs.Run.{Numbered, all_of, size, waiting_size}
use Rattle.rules.specs.Answer.{answer_words}
use Rattle.rules.proofs.Each.{each-++}
use Rattle.frames.specs.Frames.{frame, Block, framed, all_with, in_frames, framed_length, framed_number}
use Rattle.plans.specs.Sizes.{sized}
use Rattle.taking.proofs.Sizing.{sized-fits, fits-exact, fits-past, over-any_long, fits-any_long}
use Rattle.waiting.specs.Waiting.{Waiting}
use Rattle.waiting.proofs.Blocks.{laid, first-length, first-number, first_block, first-room, rest-wait}
use Rattle.answers.specs.declared.Tally.{Tally}
use Rattle.answers.specs.Lined.{line_head, Lined}
use Rattle.answers.proofs.Rows.{count-more, lines-size-more, open-most, length-answer}
use Rattle.running.specs.declared.moves.State.{State}
use Rattle.taking.specs.Taking.{Took}
use Rattle.taking.specs.Taking as took
use Rattle.running.specs.Running.{block_of, Running, Kept, stepped, Lines, more, full, Made, long, room, on}
use Rattle.running.proofs.Lengths.{waiting-append, words-waiting, blocks-all, each_of, short-words, lines_fit_lem, lines-many, lines-past}

-- ---- the words past the room

pub waiting_kept : (old : List ℕ) (at : ℕ) (bs : List Block) (new : List ℕ) → Waiting old at bs new → Kept old new
waiting_kept old at bs new p =
    ap (λ n. drop n new) (let z = p.place in let y : desk.room ≡ at + length (framed bs) = omega arith in y)
    ∙ sym (drop-drop (length (framed bs)) at new) ∙ ap (drop (length (framed bs))) p.words ∙ drop_at (framed bs) (drop desk.room old) (length (framed bs)) refl

pub lined-kept : (old : List ℕ) (ls : List Numbered) (t : Tally) (new : List ℕ) → Lined old ls t new → Kept old new
lined-kept old ls t new p = ap (drop desk.room) p.words ∙ drop_at (answer_words desk ls) (drop desk.room old) desk.room (length-answer ls p.few p.room)

module _ (old_work old_answer : List ℕ) (ls : List Numbered) (c : Numbered) (w : List Numbered) (s : State) (work answer : List ℕ)
    (p : Running old_work old_answer ls (c ∷ w) s work answer) where
  -- ---- what stands first

  pub first-size : framed_length work s.at ≡ length (conj_words c.literals)
  first-size = first-length old_work s.at (block_of c) (map block_of w) work p.waiting

  pub first_of : framed_number work s.at ≡ c.number
  first_of = first-number old_work s.at (block_of c) (map block_of w) work p.waiting

  pub first-words : slice (s.at + frame) (s.at + frame + length (conj_words c.literals)) work ≡ conj_words c.literals
  first-words = first_block old_work s.at (block_of c) (map block_of w) work p.waiting

  pub first_fits : s.at + frame + length (conj_words c.literals) ≤ desk.room
  first_fits = let z = first-room old_work s.at (block_of c) (map block_of w) work p.waiting in omega arith

  pub open-fits : s.tally.«open» ≤ s.tally.lines
  open-fits = let a = p.lined.«open» in let b = p.lined.lines in let d = open-most ls in omega arith

  pub end_fits : s.tally.end ≤ desk.room
  end_fits = let a = p.lined.end in let b = p.lined.room in omega arith

  pub work-fits : desk.room ≤ length work
  work-fits = let a = p.waiting.size in let b = p.room in omega arith

  pub answer-fits : desk.room ≤ length answer
  answer-fits = let a = p.kept in let b = p.space in omega arith

  kept-work : Kept old_work work
  kept-work = waiting_kept old_work s.at _ work p.waiting

  pub kept-answer : Kept old_answer answer
  kept-answer = lined-kept old_answer ls s.tally answer p.lined

  module _ (k : List ℕ) (ek : k ≡ conj_words c.literals) (next : ℕ) (en : next ≡ s.at + frame + length k) where
    rests : Waiting old_work next (map block_of w) work
    rests =
        subst (λ n. Waiting old_work n (map block_of w) work) (ap (λ l. s.at + frame + length l) (sym ek) ∙ sym en)
        (rest-wait old_work s.at (block_of c) (map block_of w) work p.waiting)

    -- ---- a line

    pub many-lines : desk.lines ≤ s.tally.lines → Lines old_work old_answer ls c w s (Err LineRoom) work answer
    many-lines h = full refl (lines-many (ls ++ (c ∷ [])) (let a = p.lined.lines in let b = count-more ls c in omega arith)) kept-work kept-answer

    pub long-line : s.tally.lines < desk.lines → desk.room < s.tally.end + line_head + length k → Lines old_work old_answer ls c w s (Err LineRoom) work answer
    long-line h g =
        let a = p.lined.lines in
        let b = p.lined.end in
        let m = count-more ls c in
        let n = lines-size-more ls c in
        let l = ap length ek in
        full refl (lines-past (ls ++ (c ∷ [])) (omega arith) (omega arith)) kept-work kept-answer

    pub next-line : (u : Tally) (new : List ℕ) → length new ≡ length answer → Lined old_answer (ls ++ (c ∷ [])) u new
        → Lines old_work old_answer ls c w s (Ok (record { at = next; steps = s.steps; tally = u; signature = s.signature })) work new
    next-line u new same l =
        more (record { at = next; steps = s.steps; tally = u; signature = s.signature }) refl
        (record {
          few = p.few;
          waiting = rests;
          lined = l;
          fine = p.fine.1;
          short = p.short.1;
          room = p.room;
          kept = same ∙ p.kept;
          space = p.space;
        }) refl refl (omega arith) (lines_fit_lem (ls ++ (c ∷ [])) l.few l.room)

    -- ---- the results of a step

    module _ (ks : List Conj) (fine : Each (fine_conj desk) ks) (ws : List (List ℕ)) (ew : ws ≡ map conj_words ks) where
      module _ (n : ℕ) (f : sized ws ≡ Some n) where
        together : waiting_size (all_of c.number ks ++ w) + next ≡ length (in_frames c.number ws) + desk.room
        together =
            let a = waiting-append (all_of c.number ks) w in
            let b = words-waiting (all_of c.number ks) ∙ ap (λ l. length (framed l)) (sym (blocks-all c.number ks)) ∙ ap (λ l. length (in_frames c.number l)) (sym ew) in
            let d = words-waiting w in
            let q = rests.place in
            omega arith

        past : next < n → desk.room < waiting_size (all_of c.number ks ++ w)
        past g = elim (dec_le n desk.room) [
          | yes m ↦ (let x = fits-exact c.number ws n f m in let t = together in omega arith)
          | no m ↦ (let x = fits-past c.number ws n f (omega arith) in let t = together in let q = rests.place in omega arith)
        ]

        module _ (at : ℕ) (new : List ℕ) (g : at + n ≡ next) (d : new ≡ sets work at (in_frames c.number ws)) where
          within : length (in_frames c.number ws) ≡ n
          within = let q = rests.place in fits-exact c.number ws n f (omega arith)

          step-on : (m : ℕ) → Running old_work old_answer ls (all_of c.number ks ++ w) (stepped s at m) new answer
          step-on m =
              let x = within in
              let q = rests.place in
              record {
                few = p.few;
                waiting =
                    subst (λ bs. Waiting old_work at bs new)
                    (ap (λ l. all_with c.number l ++ map block_of w) ew ∙ ap (λ l. l ++ map block_of w) (blocks-all c.number ks) ∙ sym (map-append block_of (all_of c.number ks) w))
                    (laid old_work next (map block_of w) work rests p.room (all_with c.number ws) at new (omega arith) d);
                lined = p.lined;
                fine = each-++ _ (all_of c.number ks) w (each_of (fine_conj desk) c.number ks fine) p.fine.1;
                short = each-++ _ (all_of c.number ks) w (each_of (λ k. size k ≤ desk.question) c.number ks (short-words ks (rw ew at (sized-fits ws n f).short))) p.short.1;
                room = p.room;
                kept = p.kept;
                space = p.space;
              }

          holds : ltb desk.room (waiting_size (all_of c.number ks ++ w)) ≡ false
          holds = let x = within in let q = rests.place in let t = together in le-ltb desk.room (waiting_size (all_of c.number ks ++ w)) (omega arith)

          below : at ≤ desk.room
          below = let q = rests.place in omega arith

      -- what taking the step left
      pub took-made : (r : Result ℕ Refusal) (new : List ℕ) → Took c.number ws work next r new → Made old_work old_answer ls c w s ks r new answer
      took-made r new (took.long e o y) = long e (over-any_long ks ws ew o) (ap (drop desk.room) y ∙ kept-work) kept-answer
      took-made r new (took.room m e o i y) =
          room e (fits-any_long ks ws ew m o) (lt-ltb desk.room (waiting_size (all_of c.number ks ++ w)) (past m o i)) (ap (drop desk.room) y ∙ kept-work) kept-answer
      took-made r new (took.done m at e o i y) = on at e (step-on m o at new i y) (fits-any_long ks ws ew m o) (holds m o at new i y) (below m o at new i y)
