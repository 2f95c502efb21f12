-- What is shown of any call of desk_day that came back.
use Prim.Native.Nat.{ℕ, ◌+◌, ◌*◌, ◌/◌, ◌≤◌}
use mathlib.Core.Path.{◌≡◌, refl, sym, ap, ◌∙◌}
use mathlib.Core.Bool.{Bool, true, false}
use mathlib.Core.List.{List, [], ◌∷◌, ◌++◌}
use native.Mathlib.Omega.{arith}
use lib.Dec.{leb}
use lib.ListN.{length, take, drop, get_or}
use lib.Seq.{take_at, drop_at}
use borrow.Author.Tests.{leb-true, leb-false}
use Rattle.language.specs.declared.Refusal.{Refusal}
use Rattle.language.specs.declared.Refusal.TheVariants.{SheetLayout, LongAnswers}
use Rattle.language.specs.Kinds.{pick}
use Rattle.language.specs.Limits.{desk}
use Rattle.language.specs.Numbers.{number_of}
use Rattle.language.specs.Question.{read_question}
use Rattle.rules.specs.Run.{Numbered, lines_at, lines_size}
use Rattle.rules.specs.Answer.{Solving, answered, unread, given-up, solving_of, solving, answer_words}
use Rattle.word_bytes.specs.Bytes.{words_of, words_in, bytes_of}
use Rattle.word_bytes.proofs.Pairs.{length-bytes_of}
use Rattle.sheets.specs.Layout.{count_of, sheet_laid, sheet_parts}
use Rattle.sheets.specs.Day.{Day, answers_of, answer_part}
use Rattle.sheets.specs.Day as of-day
use Rattle.sheets.proofs.RoundTrip.{count-on, parts-on, laid-back}
use Rattle.day.specs.Leaves.{day_number, room_leaves}
use Rattle.day.proofs.Headers.{laid-few}
use Rattle.day.proofs.Ends.{some_number, answered-fits, answered-told}
use Rattle.day.proofs.Rooms.{answers-count, answer-of}
use Rattle.day.proofs.Days.{no-sheet, a-sheet}
use Rattle.host.specs.Host as host
use Rattle.host.proofs.Solves.{long-answer}
use Rattle.demands.specs.HostCalls.{DeskSolve, DeskDay}
use Rattle.demands.specs.DayTells.{by_itself, day_words, AnswersIn, DeskDayTells, unlaid, too_long}
use Rattle.demands.specs.DayTells as tells
use Rattle.demands.proofs.Hosting.{words-before}

-- ---- what desk_solve leaves is the answer's part

-- an answer begins with the number of its lines
first-word : (ls : List Numbered) (rest : List ℕ) → get_or (answer_words desk ls ++ rest) 0 0 ≡ length ls
unfolding answer_words
first-word ls rest = refl

answered-part : (ls : List Numbered) (n : ℕ) (rest ws : List ℕ) → (length ls ≤ desk.lines) × (lines_at desk + lines_size ls ≤ desk.room) → ws ≡ answer_words desk ls ++ rest
    → answer_part desk (answered ls n) ≡ by_itself 0 ws
answered-part ls n rest ws f e =
    let told = answered-told ls n rest ws f.0 f.1 e in
    let first : get_or ws 0 0 ≡ length ls = ap (λ w. get_or w 0 0) e ∙ first-word ls rest in
    sym (told.part (get_or ws (length ls + 2) 0) refl).2 ∙ ap (λ m. 0 ∷ take (get_or ws (m + 2) 0) ws) (sym first)

refused-part : (r : Refusal) (ws : List ℕ) → number_of r ∷ [] ≡ by_itself (number_of r) ws
refused-part r ws = sym (ap (λ b. number_of r ∷ pick b (take (get_or ws (get_or ws 0 0 + 2) 0) ws) []) (some_number r))

module _ (s : DeskSolve) (long : 2 * desk.room ≤ length s.answer) where
  abbrev comes : Solving
  comes = solving_of desk (read_question desk (words_in s.question))

  -- two slices that are long enough
  in-own : solving desk desk.room desk.room (words_in s.question) ≡ comes
  unfolding solving
  in-own = refl

  by_itself_lem : answer_part desk (solving desk desk.room desk.room (words_in s.question)) ≡ by_itself s.number (words_of s.answer_left)
  unfolding host.solve_number host.solve_leaves
  by_itself_lem =
      let same = long-answer s.question (length s.answer) long in
      by comes in-own (s.said.0 ∙ ap host.solve_number same) (s.said.1 ∙ ap (λ (v : Solving). host.solve_leaves desk v s.answer) same)
    where
      by : (v : Solving) → solving desk desk.room desk.room (words_in s.question) ≡ v → s.number ≡ host.solve_number v → s.answer_left ≡ host.solve_leaves desk v s.answer
          → answer_part desk (solving desk desk.room desk.room (words_in s.question)) ≡ by_itself s.number (words_of s.answer_left)
      by (answered ls n) d e f =
          ap (answer_part desk) d
          ∙ answered-part ls n (words_of (drop (2 * desk.room) s.answer)) (words_of s.answer_left) (answered-fits desk.room desk.room (words_in s.question) ls n d)
          (ap words_of f ∙ words-before (answer_words desk ls) (drop (2 * desk.room) s.answer))
          ∙ ap (λ m. by_itself m (words_of s.answer_left)) (sym e)
      by (unread r) d e f = ap (answer_part desk) d ∙ refused-part r (words_of s.answer_left) ∙ ap (λ m. by_itself m (words_of s.answer_left)) (sym e)
      by (given-up r) d e f = ap (answer_part desk) d ∙ refused-part r (words_of s.answer_left) ∙ ap (λ m. by_itself m (words_of s.answer_left)) (sym e)

-- ---- desk_day

module _ (c : DeskDay) where
  abbrev asked : List ℕ
  asked = words_in c.sheet

  abbrev parts : List (List ℕ)
  parts = answers_of desk desk.room desk.room (sheet_parts asked)

  comes-no : sheet_laid desk asked ≡ false → host.day_bytes desk (length c.room) c.sheet ≡ of-day.unread SheetLayout
  unfolding host.day_bytes
  comes-no e = no-sheet desk.room desk.room (length c.room / 2) asked (omega arith) (omega arith) e

  comes-yes : sheet_laid desk asked ≡ true → (b : Bool) → b ≡ leb (length (day_words c.sheet)) (length c.room / 2)
      → host.day_bytes desk (length c.room) c.sheet ≡ elim b [ true ↦ of-day.answers (day_words c.sheet) | false ↦ of-day.given-up LongAnswers ]
  unfolding host.day_bytes
  comes-yes e b d = a-sheet desk.room desk.room (length c.room / 2) asked (omega arith) (omega arith) e b d

  answers-in : sheet_laid desk asked ≡ true → length (day_words c.sheet) ≤ length c.room / 2
      → c.room_left ≡ bytes_of (day_words c.sheet) ++ drop (2 * length (day_words c.sheet)) c.room → AnswersIn c
  answers-in e fit f =
      let behind : List ℕ = words_of (drop (2 * length (day_words c.sheet)) c.room) in
      let left : words_of c.room_left ≡ day_words c.sheet ++ behind = ap words_of f ∙ words-before (day_words c.sheet) (drop (2 * length (day_words c.sheet)) c.room) in
      let many = answers-count desk.room desk.room asked in
      let few = laid-few asked e in
      record {
        words = length (day_words c.sheet);
        fit = omega arith;
        laid =
            ap (λ l. sheet_laid desk (take (length (day_words c.sheet)) l)) left
            ∙ ap (sheet_laid desk) (take_at (day_words c.sheet) behind (length (day_words c.sheet)) refl) ∙ laid-back parts desk (omega arith);
        count = ap count_of left ∙ count-on parts behind ∙ many;
        rest = ap (drop (2 * length (day_words c.sheet))) f ∙ drop_at (bytes_of (day_words c.sheet)) (drop (2 * length (day_words c.sheet)) c.room) (2 * length (day_words c.sheet)) (length-bytes_of (day_words c.sheet));
        each = λ i p s same long.
            ap (λ l. get_or (sheet_parts l) i []) left ∙ ap (λ ps. get_or ps i []) (parts-on parts behind) ∙ sym (answer-of desk.room desk.room asked i p)
            ∙ ap (λ q. answer_part desk (solving desk desk.room desk.room q)) (sym same) ∙ by_itself_lem s long;
      }

  by-room : sheet_laid desk asked ≡ true → (b : Bool) → leb (length (day_words c.sheet)) (length c.room / 2) ≡ b → DeskDayTells c
  by-room e false d =
      let k = comes-yes e false (sym d) in
      too_long (c.said.0 ∙ ap day_number k) e (leb-false _ _ d) (c.said.1 ∙ ap (λ (x : Day). room_leaves x c.room) k)
  by-room e true d =
      let k = comes-yes e true (sym d) in
      tells.answered (c.said.0 ∙ ap day_number k) e (answers-in e (leb-true _ _ d) (c.said.1 ∙ ap (λ (x : Day). room_leaves x c.room) k))

  by-header : (b : Bool) → sheet_laid desk asked ≡ b → DeskDayTells c
  by-header false e = let k = comes-no e in unlaid (c.said.0 ∙ ap day_number k) e (c.said.1 ∙ ap (λ (x : Day). room_leaves x c.room) k)
  by-header true e = by-room e (leb (length (day_words c.sheet)) (length c.room / 2)) refl

  pub day-tells : DeskDayTells c
  day-tells = by-header (sheet_laid desk asked) refl

each_of : (c : DeskDay) → c.number ≡ 0 → DeskDayTells c → AnswersIn c
each_of c z (unlaid e l r) = absurd (omega arith)
each_of c z (too_long e l m r) = absurd (omega arith)
each_of c z (tells.answered e l a) = a

pub day-answers : (c : DeskDay) → c.number ≡ 0 → AnswersIn c
day-answers c z = each_of c z (day-tells c)
