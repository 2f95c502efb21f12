-- What the calls for a pair return, from what was told of its question.
use Prim.Native.Nat.{ℕ, ◌+◌, ◌-◌, ◌≤◌}
use mathlib.Core.Path.{◌≡◌, refl, sym, ap, ap₂, subst, ◌∙◌}
use mathlib.Core.Bool.{Bool, true, false, ◌&&◌, and-false}
use mathlib.Core.List.{List, [], ◌∷◌, ◌++◌}
use native.Mathlib.Omega.{arith}
use borrow.Author.Tests.{eq-eqb, ne_eqb, ltb-true, ltb-false, lt-leb}
use lib.Dec.{leb, ltb}
use lib.ListN.{length, get_or, take, length-append, length-map}
use lib.Seq.{sets, sets-eq, take_at}
use Rattle.language.specs.Limits.{desk}
use Rattle.language.specs.Kinds.{pick}
use Rattle.language.specs.Between.{between}
use Rattle.language.specs.declared.Refusal.TheVariants.{QuestionLength}
use Rattle.language.specs.Question.{length_fits, refuses, read_question}
use Rattle.language.proofs.Bools.{both_true}
use Rattle.language.proofs.Questions.{bad-length}
use Rattle.rules.specs.Run.{Numbered}
use Rattle.rules.specs.Answer.{unread, solving_of, solving}
use Rattle.rules.specs.Calls.{shows, showing}
use Rattle.outcomes.specs.declared.Solved.{Solved}
use Rattle.outcomes.specs.Numbers.{SolveNumbers, outcome_number, solved_numbers}
use Rattle.solver.specs.Leaves.{told_leaves}
use Rattle.example.specs.Exhibits.{told_exhibits}
use Rattle.host.proofs.Shows.{Fits, fits}
use Rattle.filling.specs.Showing as places
use Rattle.filling.specs.Showing.{filled}
use Rattle.demands.proofs.Between.{long-solving}
use Rattle.word_bytes.specs.Bytes.{bytes_of}
use Rattle.patterns.specs.declared.Pair.{Pair}
use Rattle.patterns.specs.Blanks.{blanks_in, counted, nothing, numbered_by, apart}
use Rattle.patterns.specs.Terms.{one_term}
use Rattle.std.specs.Prelude.{Result, Ok, Err}
use Rattle.patterns.specs.declared.Unasked.{Unasked}
use Rattle.patterns.specs.declared.Unasked.TheVariants.{TooMany, TooLong}
use Rattle.patterns.specs.Pairs.{of_both, too_many, pair_words, asked, asked_words, asked_leaves}
use Rattle.patterns.proofs.OneTerm.{one-term}
use Rattle.pairing.specs.Meeting as meetings
use Rattle.pairing.specs.Meeting.{Meeting, refused, first_settled, reported, early, shown_by, meeting_by, meeting_of, meeting}
use Rattle.pairing.specs.Lent.{Told, marked_from}
use Rattle.pairing.specs.Here.{Here, PairHere, Known}
use Rattle.pairing.proofs.Settling.{Lines, solve-refused, solve-answered, Filled, example-refused, example-shown}
use Rattle.pairing.proofs.Showing.{shown-pair, pair-shows}

-- ---- the pair's words

pub pair-length : (word : ℕ) (ps qs : List ℕ) → length (pair_words word ps qs) ≡ 10 + (length ps + length qs)
unfolding pair_words
pair-length word ps qs =
    let a = length-map ps (numbered_by nothing (blanks_in ps)) in
    let b = length-map qs (numbered_by (counted word (blanks_in ps)) (blanks_in qs)) in
    let c = length-append (apart nothing ps) (0 ∷ (apart (counted word (blanks_in ps)) qs ++ (0 ∷ []))) in
    let d = length-append (apart (counted word (blanks_in ps)) qs) (0 ∷ []) in
    omega arith

first_part : (word : ℕ) (ps qs : List ℕ) → between 8 (8 + length ps) (pair_words word ps qs) ≡ apart nothing ps
unfolding pair_words
first_part word ps qs =
    let l = apart nothing ps ++ (0 ∷ (apart (counted word (blanks_in ps)) qs ++ (0 ∷ []))) in
    ap (λ n. take n l) (let z : 8 + length ps - 8 ≡ length ps = omega arith in z) ∙ take_at (apart nothing ps) _ (length ps) (length-map ps (numbered_by nothing (blanks_in ps)))

-- a number alone, and an untouched room
pub just : (n : ℕ) (at : ℕ) (room : List ℕ) (r : ℕ) (m : Meeting) → m ≡ refused n → r ≡ n → Told m at room r room
unfolding bytes_of
just n at room r m e f = subst (λ m. Told m at room r room) (sym e) (f, refl)

-- ---- the example

module _ (q w a own w' a' own' : List ℕ) (line : ℕ) (r : ℕ × ℕ × ℕ) (lw : length w ≡ desk.room) (la : length a ≡ desk.room) (lo : length own ≡ desk.filling)
    (e : ◌≡◌ {A = (ℕ × ℕ × ℕ) × List ℕ × List ℕ × List ℕ} (r, w', a', own') (told_exhibits line false q w a own)) (p : Pair) where
  pub show-refused : (word : ℕ) (ps qs : List ℕ) → Here word ps qs q p → (size at k m : ℕ) (room : List ℕ) → k ≡ r.0 → (k ≡ 0 → ⊥) → m ≡ k → Told (shown_by size word ps qs line) at room m room
  show-refused word ps qs x size at k m room ek nz em =
      just k at room m (shown_by size word ps qs line)
      (subst (λ q. reported size (of_both word ps qs) (apart nothing ps) (showing desk false desk.room desk.room desk.filling line q) ≡ refused k) x.words
      (example-refused q w a own w' a' own' line r lw la lo e size (of_both word ps qs) (apart nothing ps) k ek nz))
      em

  module _ (z : r.0 ≡ 0) (k : ℕ) (ek : k ≡ r.2) where
    abbrev found : Filled q w a own w' a' own' line r lw la lo e k
    found = example-shown q w a own w' a' own' line r lw la lo e z k ek

    pub show-few : k ≤ desk.filling
    show-few =
        let f = found in
        let g : Fits desk.filling (shows f.words) = subst (Fits desk.filling) f.shown (fits false desk.room desk.room desk.filling line q) in
        let s = f.size in
        omega (arith, g.0)

    pub show-inside : PairHere q p → 8 + p.first ≤ length q
    show-inside x = let h = x.here in let l = ap length h.words ∙ pair-length x.word x.one x.other in let s = h.size in omega arith

    filling-is : between 0 k own' ≡ found.words
    filling-is = ap (λ n. take n own') (let y : k - 0 ≡ k = omega arith in y) ∙ found.there

    pattern-is : (word : ℕ) (ps qs : List ℕ) → Here word ps qs q p → between 8 (8 + p.first) q ≡ apart nothing ps
    pattern-is word ps qs x = ap₂ (λ (n : ℕ) (l : List ℕ). between 8 (8 + n) l) x.size x.words ∙ first_part word ps qs

    pub show-shows : PairHere q p → places.Shows p.terms p.hedges (between 0 k own') (between 8 (8 + p.first) q)
    show-shows x =
        let h = x.here in
        let a = one-term x.one h.first in
        let b = one-term x.other h.second in
        let s = shown-pair x.word x.one x.other a.term b.term a.pattern b.pattern h.few line found.words (ap (showing desk false desk.room desk.room desk.filling line) (sym h.words) ∙ found.shown) in
        rw (h.terms, h.hedges, filling-is, pattern-is x.word x.one x.other h)
        (pair-shows x.word x.one x.other a.term b.term a.pattern b.pattern h.few s)

    pub show-sizes : PairHere q p → (length (between 0 k own') ≤ desk.filling) × (length (between 8 (8 + p.first) q) ≤ desk.question)
    show-sizes x =
        let h = x.here in
        let f = found in
        let a = ap length filling-is in
        let s = f.size in
        let few = show-few in
        let b = ap length (pattern-is x.word x.one x.other h) ∙ length-map x.one (numbered_by nothing (blanks_in x.one)) in
        let inside = show-inside x in
        let size = h.size in
        let short = h.short in
        (omega arith, omega arith)

    pub show-told : (word : ℕ) (ps qs : List ℕ) → Here word ps qs q p → (size at m : ℕ) (room room' : List ℕ)
        → Told (meetings.fits size (filled p.terms p.hedges (between 0 k own') (between 8 (8 + p.first) q))) at room m room' → Told (shown_by size word ps qs line) at room m room'
    show-told word ps qs x size at m room room' t =
        let same : meetings.fits size (filled p.terms p.hedges (between 0 k own') (between 8 (8 + p.first) q)) ≡ shown_by size word ps qs line =
        rw (x.terms, x.hedges, filling-is, pattern-is word ps qs x)
        (sym (ap (reported size (of_both word ps qs) (apart nothing ps)) (ap (showing desk false desk.room desk.room desk.filling line) (sym x.words) ∙ found.shown))) in
        subst (λ y. Told y at room m room') same t

-- ---- the solver's answer

module _ (q w a w' a' : List ℕ) (s : Solved) (lw : length w ≡ desk.room) (la : length a ≡ desk.room)
    (e : ◌≡◌ {A = SolveNumbers × List ℕ × List ℕ} (solved_numbers s, w', a') (told_leaves (solving desk (length w) (length a) q) w a)) (size at : ℕ) (room : List ℕ) (word : ℕ) (ps qs : List ℕ) where
  abbrev Comes : ℕ → List ℕ → Type 0
  Comes r new = Told (meeting_of size word ps qs (solving desk desk.room desk.room q)) at room r new

  pub settle-refused : (k m : ℕ) → k ≡ outcome_number s.outcome → (k ≡ 0 → ⊥) → m ≡ k → Comes m room
  settle-refused k m ek nz em = just k at room m _ (solve-refused q w a w' a' s lw la e size word ps qs k ek nz) em

  module _ (z : outcome_number s.outcome ≡ 0) (lines : ℕ) (el : lines ≡ get_or a' 0 0) where
    abbrev answers : Lines q w a w' a' s lw la e
    answers = solve-answered q w a w' a' s lw la e z

    by_lines : (r : ℕ) (new : List ℕ) → Told (meeting_by size word ps qs answers.lines) at room r new → Comes r new
    by_lines r new t = subst (λ v. Told (meeting_of size word ps qs v) at room r new) (sym answers.comes) t

    pub settle-none : lines ≡ 0 → Comes 100 room
    unfolding bytes_of
    settle-none n = by_lines 100 room (on answers.lines (sym (el ∙ answers.how-many) ∙ n))
      where
        on : (ls : List Numbered) → length ls ≡ 0 → Told (meeting_by size word ps qs ls) at room 100 room
        on [] d = (refl, refl)
        on (k ∷ ks) d = absurd (omega arith)

    module _ (some-line : lines ≡ 0 → ⊥) (i : ℕ) (ei : i ≡ marked_from a' 0 lines) where
      first : i ≡ first_settled answers.lines
      first = ei ∙ ap (marked_from a' 0) el ∙ answers.first

      pub settle-open : i ≡ lines → Comes 101 room
      unfolding bytes_of
      settle-open d = by_lines 101 room (on answers.lines (el ∙ answers.how-many) first)
        where
          on : (ls : List Numbered) → lines ≡ length ls → i ≡ first_settled ls → Told (meeting_by size word ps qs ls) at room 101 room
          on [] b c = absurd (some-line b)
          on (k ∷ ks) b c = rw (eq-eqb (first_settled (k ∷ ks)) (length (k ∷ ks)) (sym c ∙ d ∙ b)) (refl, refl)

      pub settle-shown : (i ≡ lines → ⊥) → (r : ℕ) (new : List ℕ) → Told (shown_by size word ps qs i) at room r new → Comes r new
      settle-shown d r new t = by_lines r new (on answers.lines (el ∙ answers.how-many) first)
        where
          on : (ls : List Numbered) → lines ≡ length ls → i ≡ first_settled ls → Told (meeting_by size word ps qs ls) at room r new
          on [] b c = absurd (some-line b)
          on (k ∷ ks) b c =
              rw (ne_eqb (first_settled (k ∷ ks)) (length (k ∷ ks)) (λ f. d (c ∙ f ∙ sym b)))
              (subst (λ j. Told (shown_by size word ps qs j) at room r new) c t)

-- ---- the pair

module _ (size word : ℕ) (ps qs : List ℕ) (at : ℕ) (room : List ℕ) where
  abbrev Pairs : ℕ → List ℕ → Type 0
  Pairs r new = Told (meeting size word ps qs) at room r new

  abbrev long : Bool
  long = ltb desk.question (10 + (length ps + length qs))

  -- what was answered of the question, by the two tests
  module _ (p : Pair) where
    abbrev answer : Bool → Bool → Result Pair Unasked
    answer b l = pick b (Err TooMany) (pick l (Err TooLong) (Ok p))

    many-only : (b l : Bool) → answer b l ≡ Err TooMany → b ≡ true
    many-only true l e = refl
    many-only false true e = absurd (let z : ◌≡◌ {A = ℕ} 0 1 = cc in omega arith)
    many-only false false e = absurd (let z : ◌≡◌ {A = ℕ} 0 1 = cc in omega arith)

    long-only : (b l : Bool) → answer b l ≡ Err TooLong → (b ≡ false) × (l ≡ true)
    long-only true l e = absurd (let z : ◌≡◌ {A = ℕ} 0 1 = cc in omega arith)
    long-only false true e = (refl, refl)
    long-only false false e = absurd (let z : ◌≡◌ {A = ℕ} 0 1 = cc in omega arith)

    asks-only : (b l : Bool) (x : Pair) → answer b l ≡ Ok x → (b ≡ false) × (l ≡ false) × (p ≡ x)
    asks-only true l x e = absurd (let z : ◌≡◌ {A = ℕ} 0 1 = cc in omega arith)
    asks-only false true x e = absurd (let z : ◌≡◌ {A = ℕ} 0 1 = cc in omega arith)
    asks-only false false x e = (refl, refl, cc)

  abbrev whole : Pair
  whole = record { len = 10 + (length ps + length qs); first = length ps; terms = (of_both word ps qs).terms; hedges = (of_both word ps qs).hedges; fair = one_term ps && one_term qs }

  opened : asked word ps qs ≡ answer whole (too_many (of_both word ps qs)) long
  unfolding asked
  opened = refl

  pub pair-many : asked word ps qs ≡ Err TooMany → Pairs 25 room
  unfolding meeting bytes_of
  pair-many e = rw (many-only whole (too_many (of_both word ps qs)) long (sym opened ∙ e)) (refl, refl)

  either : (b : Bool) → Told (pick b (refused 2) (refused 2)) at room 2 room
  unfolding bytes_of
  either true = (refl, refl)
  either false = (refl, refl)

  -- a question that is too long is refused with 2, whatever the patterns are
  pub pair-long : asked word ps qs ≡ Err TooLong → Pairs 2 room
  unfolding meeting bytes_of length_fits
  pair-long e =
      let (few, l) = long-only whole (too_many (of_both word ps qs)) long (sym opened ∙ e) in
      let n = pair-length word ps qs in
      let over = ltb-true desk.question (10 + (length ps + length qs)) l in
      let c : leb (length (pair_words word ps qs)) desk.question ≡ false = lt-leb (length (pair_words word ps qs)) desk.question (omega arith) in
      let b : length_fits desk (pair_words word ps qs) ≡ false = rw c (and-false (leb 6 (length (pair_words word ps qs)))) in
      let r : read_question desk (pair_words word ps qs) ≡ refuses QuestionLength = bad-length desk (pair_words word ps qs) b in
      let v : solving desk desk.room desk.room (pair_words word ps qs) ≡ unread QuestionLength = long-solving desk.room desk.room (pair_words word ps qs) (omega arith) (omega arith) ∙ ap (solving_of desk) r in
      rw (few, v, r) (either (one_term ps && one_term qs))

  pub asks-so : (p : Pair) (question : List ℕ) → asked word ps qs ≡ Ok p → question ≡ pair_words word ps qs → Known word ps qs question p × (p.len ≡ length (pair_words word ps qs))
  asks-so p question e w =
      let (few, l, same) = asks-only whole (too_many (of_both word ps qs)) long p (sym opened ∙ e) in
      let n = pair-length word ps qs in
      let m = ap length w in
      let under = ltb-false desk.question (10 + (length ps + length qs)) l in (
        subst (Known word ps qs question) same (record { words = w; few = few; fair = refl; first = refl; terms = refl; hedges = refl; short = omega arith }),
        subst (λ (p : Pair). p.len ≡ length (pair_words word ps qs)) same (sym n),
      )

  module _ (question : List ℕ) (p : Pair) (k : Known word ps qs question p) where
    pub not-fair : p.fair ≡ false → (r : ℕ) → r ≡ early (read_question desk question) → Pairs r room
    unfolding meeting bytes_of
    not-fair f r e = rw (k.few, sym k.fair ∙ f) (e ∙ ap (λ q. early (read_question desk q)) k.words, refl)

    pub fair-here : p.fair ≡ true → Here word ps qs question p
    fair-here f =
        let (a, b) = both_true (one_term ps) (one_term qs) (sym k.fair ∙ f) in
        record { words = k.words; few = k.few; first = a; second = b; size = k.first; terms = k.terms; hedges = k.hedges; short = k.short }

    pub fair-so : p.fair ≡ true → (r : ℕ) (new : List ℕ) → Told (meeting_of size word ps qs (solving desk desk.room desk.room question)) at room r new → Pairs r new
    unfolding meeting
    fair-so f r new t = rw (k.few, sym k.fair ∙ f) (subst (λ q. Told (meeting_of size word ps qs (solving desk desk.room desk.room q)) at room r new) k.words t)

  -- the words that were written
  module _ (p : Pair) (e : asked word ps qs ≡ Ok p) (q q' : List ℕ) (lq : length q ≡ desk.question) (eq : q' ≡ asked_leaves word ps qs q) where
    pub asks-inside : p.len ≤ desk.question
    asks-inside = let (k, n) = asks-so p (pair_words word ps qs) e refl in let s = k.short in omega arith

    pub asks-words : between 0 p.len q' ≡ pair_words word ps qs
    unfolding asked_leaves
    asks-words =
        let (k, n) = asks-so p (pair_words word ps qs) e refl in
        let s = k.short in
        let w : q' ≡ sets q 0 (pair_words word ps qs) = eq ∙ ap (λ a. sets q 0 (asked_words a (pair_words word ps qs))) e in
        ap (λ m. take m q') ((let z : p.len - 0 ≡ p.len = omega arith in z) ∙ n) ∙ ap (take (length (pair_words word ps qs))) (w ∙ sets-eq (pair_words word ps qs) q 0 (omega arith)) ∙ take_at (pair_words word ps qs) _ (length (pair_words word ps qs)) refl

    pub asks-known : Known word ps qs (between 0 p.len q') p
    asks-known = (asks-so p (between 0 p.len q') e asks-words).0
