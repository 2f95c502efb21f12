-- What is shown of any call on bytes that came back.
use Prim.Native.Nat.{ℕ, ◌+◌, ◌*◌, ◌/◌, ◌%◌, ◌≤◌}
use mathlib.Core.Path.{◌≡◌, refl, sym, ap, subst, ◌∙◌}
use mathlib.Core.Logic.{◌⊎◌, inl, inr}
use mathlib.Core.Bool.{Bool, true, false}
use mathlib.Core.List.{List, [], ◌∷◌, ◌++◌, map}
use native.Mathlib.Omega.{arith}
use lib.ListN.{length, drop}
use Rattle.language.specs.declared.Refusal.{Refusal}
use Rattle.language.specs.declared.Refusal.TheVariants.{LongLiteral}
use Rattle.language.specs.Numbers.{number_of}
use Rattle.language.specs.Limits.{desk}
use Rattle.language.specs.Trees.{Question}
use Rattle.language.specs.Question.{asks, read_question, counts_of}
use Rattle.rules.specs.Run.{Numbered}
use Rattle.rules.specs.Answer.{Solving, answered, unread, given-up, solving, answer_words}
use Rattle.rules.specs.Calls.{Trying, decides, too_long, trying_with, trying_of, trying, Showing, shows, denied, line_at, shown, showing_of, showing}
use Rattle.rules.specs.Calls as calls
use Rattle.meaning.specs.Meaning.{Filling, MeetsQuestion}
use Rattle.meaning.specs.Values.{Given, gives, read_filling}
use Rattle.meaning.specs.Values as values
use Rattle.exact.proofs.Declared.{read-declared}
use Rattle.line_example.specs.Shown.{result_of, room_of}
use Rattle.answer_example.specs.Answers.{Answer}
use Rattle.word_bytes.specs.Bytes.{words_of, bytes_of, words_in}
use Rattle.host.specs.Host as host
use Rattle.try_host.specs.Host as try_host
use Rattle.host.specs.Numbers.{asks_old}
use Rattle.language.proofs.Numbering.{each_number}
use Rattle.host.proofs.Refusals.{InRange, in-range}
use Rattle.word_bytes.proofs.Pairs.{length-words_of, words-from}
use Rattle.demands.specs.Answers.{numbered_of, nth_line}
use Rattle.demands.specs.Promises.{Promised, Told}
use Rattle.demands.specs.HostCalls.{DeskSolve, DeskTry, DeskExample}
use Rattle.demands.specs.HostTells.{left_in_bytes, DeskSolveTells, DeskTryTells, DeskTryAgrees, host_number, BytesTold, DeskExampleTells}
use Rattle.demands.specs.HostTells as tells
use Rattle.demands.proofs.Reading.{as_line, numbered-back}
use Rattle.demands.proofs.Promising.{From, promise, tell}
use Rattle.demands.proofs.Between.{stands, not-zero, long-enough, one_answer}
use Rattle.demands.proofs.Columns.{early-column, late-column}
use Rattle.demands.proofs.Judging.{SolveJudged, solve-judged, TryJudged, try-judged}

-- ---- words in front of other bytes

pub words-before : (ws bs : List ℕ) → words_of (bytes_of ws ++ bs) ≡ ws ++ words_of bs
unfolding words_of bytes_of
words-before [] bs = refl
words-before (w ∷ ws) bs =
    let e : w % 256 + 256 * (w / 256) ≡ w = omega arith in
    ap (λ (v : ℕ). v ∷ words_of (bytes_of ws ++ bs)) e ∙ ap (λ (l : List ℕ). w ∷ l) (words-before ws bs)

-- ---- desk_solve

module _ (c : DeskSolve) where
  abbrev words : List ℕ
  words = words_in c.question

  abbrev comes : Solving
  comes = solving desk desk.room (length c.answer / 2) words

  -- an answer, and what solving came to
  record Solves : Type 0 where
    ls : List Numbered
    n : ℕ
    solved : comes ≡ answered ls n
    from : From words (words_of c.answer_left) ls n

  from-so : (ls : List Numbered) (n : ℕ) → comes ≡ answered ls n → c.answer_left ≡ bytes_of (answer_words desk ls) ++ drop (2 * desk.room) c.answer
      → From words (words_of c.answer_left) ls n
  from-so ls n d f =
      let s = stands desk.room (length c.answer / 2) words [] ls n d in
      let there : Answer (words_of c.answer_left) ls = record {
        few = s.few;
        size = s.size;
        rest = words_of (drop (2 * desk.room) c.answer);
        words = ap words_of f ∙ words-before (answer_words desk ls) (drop (2 * desk.room) c.answer);
        lines = s.lines;
      } in
      promise desk.room (length c.answer / 2) words ls n d (words_of c.answer_left) there

  solves : c.number ≡ 0 → Solves
  unfolding host.solving_bytes host.solve_number host.solve_leaves
  solves z = by comes refl c.said.0 c.said.1
    where
      by : (v : Solving) → comes ≡ v → c.number ≡ host.solve_number v → c.answer_left ≡ host.solve_leaves desk v c.answer → Solves
      by (answered ls n) d e f = record { ls = ls; n = n; solved = d; from = from-so ls n d f }
      by (unread r) d e f = not-zero r (sym e ∙ z)
      by (given-up r) d e f = not-zero r (sym e ∙ z)

  pub solve-promises : c.number ≡ 0 → Promised words (words_of c.answer_left)
  solve-promises z = (solves z).from.promised

  pub solve-tells : DeskSolveTells c
  unfolding host.solving_bytes host.solve_number host.solve_leaves
  solve-tells = by comes refl c.said.0 c.said.1 (solve-judged desk.room (length c.answer / 2) words)
    where
      by : (v : Solving) → comes ≡ v → c.number ≡ host.solve_number v → c.answer_left ≡ host.solve_leaves desk v c.answer
          → SolveJudged desk.room (length c.answer / 2) words v → DeskSolveTells c
      by (answered ls n) d e f j =
          let s = from-so ls n d f in
          tells.answers e s.promised (f ∙ ap (λ ks. bytes_of (answer_words desk ks) ++ drop (2 * desk.room) c.answer) (sym (ap numbered_of s.lines ∙ numbered-back ls)))
      by (unread r) d e f j =
          let b : InRange (unread r) = subst InRange d (in-range desk _ _ _) in
          tells.DeskSolveTells.refuses r e (inl (omega (arith, b.1))) j (f ∙ sym (ap (λ k. left_in_bytes k c.answer c.answer) (early-column r b.1)))
      by (given-up r) d e f j =
          let b : InRange (given-up r) = subst InRange d (in-range desk _ _ _) in
          tells.DeskSolveTells.refuses r e b.1 j (f ∙ sym (ap (λ k. left_in_bytes k c.answer c.answer) (late-column r b.0 b.1)))

-- ---- desk_example

room-words : (s : Showing) (old new : List ℕ) → new ≡ host.show_leaves s old → words_of new ≡ room_of s (words_of old)
unfolding host.show_leaves
room-words (shows ws) old new e = ap words_of e ∙ words-before ws (drop (2 * length ws) old) ∙ ap (λ l. ws ++ l) (words-from old (length ws))
room-words (denied r) old new e = ap words_of e

number-result : (s : Showing) → host.show_number s ≡ host_number (result_of s)
unfolding host.show_number
number-result (shows ws) = refl
number-result (denied r) = refl

module _ (c : DeskExample) where
  abbrev asked-for : List ℕ
  asked-for = words_in c.question

  -- by the lines of the answer to the question
  record ToldFrom (ls : List Numbered) (n : ℕ) : Type 0 where
    answer : List ℕ
    from : From asked-for answer ls n
    tells : BytesTold (asks_old c.old) from.promised.asked.counts (nth_line c.line from.promised.lines) c.room c.number c.room_left

  told-from : (ls : List Numbered) (n : ℕ) → solving desk desk.room desk.room asked-for ≡ answered ls n → ToldFrom ls n
  unfolding host.showing_bytes showing
  told-from ls n d =
      let q = asked-for in
      let f = promise desk.room desk.room q ls n d _ (stands desk.room desk.room q [] ls n d) in
      let counts = (read-declared desk q f.promised.asked f.promised.question-read).0 in
      let t = tell desk.room desk.room q ls n d (asks_old c.old) c.line (words_of c.room) in
      let sh : Showing = shown desk (asks_old c.old) (counts_of q) (length c.room / 2) (line_at c.line ls) in
      let is-sh : showing_of desk (asks_old c.old) (counts_of q) (length c.room / 2) c.line (solving desk desk.room desk.room q) ≡ sh = ap (showing_of desk (asks_old c.old) (counts_of q) (length c.room / 2) c.line) d in
      let u : Told (asks_old c.old) (counts_of q) (words_of c.room) (nth_line c.line (map as_line ls)) (result_of sh) (room_of sh (words_of c.room)) = rw length-words_of at t in
      record {
        answer = _;
        from = f;
        tells = record {
          result = result_of sh;
          is = c.said.0 ∙ ap host.show_number is-sh ∙ number-result sh;
          tells = rw (room-words sh c.room c.room_left (c.said.1 ∙ ap (λ x. host.show_leaves x c.room) is-sh), f.lines, counts) u;
        };
      }

  pub example-tells : DeskExampleTells c
  unfolding host.showing_bytes showing host.show_number host.show_leaves
  example-tells = by (solving desk desk.room desk.room asked-for) refl c.said.0 c.said.1 (solve-judged desk.room desk.room asked-for)
    where
      by : (v : Solving) → solving desk desk.room desk.room asked-for ≡ v
          → c.number ≡ host.show_number (showing_of desk (asks_old c.old) (counts_of asked-for) (length c.room / 2) c.line v)
          → c.room_left ≡ host.show_leaves (showing_of desk (asks_old c.old) (counts_of asked-for) (length c.room / 2) c.line v) c.room
          → SolveJudged desk.room desk.room asked-for v → DeskExampleTells c
      by (answered ls n) d e f j = let t = told-from ls n d in tells.told t.answer t.from.promised t.tells
      by (unread r) d e f j =
          let b : InRange (unread r) = subst InRange d (in-range desk _ _ _) in
          tells.DeskExampleTells.refuses r e (inl (omega (arith, b.1))) j f
      by (given-up r) d e f j =
          let b : InRange (given-up r) = subst InRange d (in-range desk _ _ _) in
          tells.DeskExampleTells.refuses r e b.1 j f

pub example-follows : (s : DeskSolve) (z : s.number ≡ 0) (c : DeskExample) → s.question ≡ c.question → (p : Promised (words_in s.question) (words_of s.answer_left))
    → BytesTold (asks_old c.old) p.asked.counts (nth_line c.line p.lines) c.room c.number c.room_left
example-follows s z c same p =
    let v = solves s z in
    let d : solving desk desk.room desk.room (asked-for c) ≡ answered v.ls v.n =
    long-enough desk.room (length s.answer / 2) desk.room desk.room (asked-for c) v.ls v.n
    (ap (λ b. solving desk desk.room (length s.answer / 2) (words_in b)) (sym same) ∙ v.solved) (omega arith) (omega arith) in
    let t = told-from c v.ls v.n d in
    let w = one_answer (ap words_in same) p t.from.promised in
    rw (w.0, w.1) t.tells

-- ---- desk_try

pub try-tells : (t : DeskTry) → DeskTryTells t
unfolding try_host.trying_bytes try_host.TryNumber
try-tells t = by (trying desk desk.room (words_in t.question) (words_in t.filling)) t.said (try-judged desk.room (words_in t.question) (words_in t.filling))
  where
    decided : {P : Type 0} {n : ℕ} → ((n ≡ 101) × P) ⊎ ((n ≡ 100) × (P → ⊥)) → (n ≡ 101) ⊎ (n ≡ 100)
    decided (inl a) = inl a.0
    decided (inr a) = inr a.0

    by : (v : Trying) → try_host.TryNumber v t.number → TryJudged desk.room (words_in t.question) (words_in t.filling) v → DeskTryTells t
    by (decides q ρ) o j = tells.decides (decided o)
    by (calls.unread r) o j = tells.DeskTryTells.refuses r o j
    by (calls.given-up r) o j = tells.DeskTryTells.refuses r o j

module _ (q : Question) (fs : List ℕ) (n : ℕ) (high : 100 ≤ n) where
  -- the words are read as a filling, and the number is what the meaning says of it
  abbrev Decides : Type 0
  Decides = (ρ : Filling) × (read_filling desk q.counts fs ≡ gives ρ) × (((n ≡ 101) × MeetsQuestion ρ q) ⊎ ((n ≡ 100) × (MeetsQuestion ρ q → ⊥)))

  refuses-low : {A : Type 0} (r : Refusal) → n ≡ number_of r → A
  refuses-low r e = absurd (let b = each_number r in omega arith)

  by_size : (ρ : Filling) → read_filling desk q.counts fs ≡ gives ρ → (b : Bool) → try_host.TryNumber (elim b [ true ↦ calls.given-up LongLiteral | false ↦ decides q ρ ]) n → Decides
  unfolding try_host.TryNumber
  by_size ρ g true o = refuses-low LongLiteral o
  by_size ρ g false o = (ρ, g, o)

  by-given : (g : Given) → read_filling desk q.counts fs ≡ g → try_host.TryNumber (trying_with desk q g) n → Decides
  unfolding try_host.TryNumber
  by-given (gives ρ) e o = by_size ρ e (too_long desk ρ q.alternatives) o
  by-given (values.refuses x) e o = refuses-low x o

  decided-so : (ws : List ℕ) → read_question desk ws ≡ asks q → try_host.TryNumber (trying desk desk.room ws fs) n → Decides
  unfolding trying
  decided-so ws asked o = by-given (read_filling desk q.counts fs) refl (subst (λ a. try_host.TryNumber (trying_of desk a fs) n) asked o)

pub try-agrees : (t : DeskTry) {bytes answer : List ℕ} → t.question ≡ bytes → (p : Promised (words_in bytes) answer) → DeskTryAgrees p t.filling t.number
unfolding try_host.trying_bytes
try-agrees t same p =
    let found : (h : 100 ≤ t.number) → Decides p.asked (words_in t.filling) t.number h =
    λ h. decided-so p.asked (words_in t.filling) t.number h (words_in t.question) (ap (λ b. read_question desk (words_in b)) same ∙ p.question-read) t.said in
    record {
      yes = λ e. let (ρ, read, a) = found (omega arith) in (ρ, read, (p.exact.same ρ).0 (yes-meets e a));
      no = λ e. let (ρ, read, a) = found (omega arith) in (ρ, read, λ m. no-meets e a ((p.exact.same ρ).1 m));
    }
  where
    yes-meets : {P : Type 0} {n : ℕ} → n ≡ 101 → ((n ≡ 101) × P) ⊎ ((n ≡ 100) × (P → ⊥)) → P
    yes-meets e (inl a) = a.1
    yes-meets e (inr a) = absurd (let d = a.0 in omega arith)

    no-meets : {P : Type 0} {n : ℕ} → n ≡ 100 → ((n ≡ 101) × P) ⊎ ((n ≡ 100) × (P → ⊥)) → P → ⊥
    no-meets e (inl a) = absurd (let d = a.0 in omega arith)
    no-meets e (inr a) = a.1
