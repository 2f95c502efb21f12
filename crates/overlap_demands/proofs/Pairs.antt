-- What the number of a pair says.
use Prim.Native.Nat.{ℕ, ◌+◌, ◌*◌, ◌/◌, ◌<◌, ◌≤◌}
use mathlib.Core.Path.{◌≡◌, refl, sym, ap, subst, ◌∙◌}
use mathlib.Core.Bool.{Bool, true, false, ◌&&◌}
use mathlib.Core.List.{List, [], ◌∷◌, ◌++◌}
use native.Mathlib.Omega.{arith}
use borrow.Author.Tests.{ltb-false}
use lib.Dec.{eqb, leb, ltb}
use lib.ListN.{length, take, drop}
use lib.Seq.{sets, take_at, drop_at}
use Rattle.language.specs.Limits.{desk}
use Rattle.language.specs.Kinds.{pick}
use Rattle.language.specs.Numbers.{number_of}
use Rattle.language.specs.Question.{Asked, asks, refuses, read_question}
use Rattle.language.proofs.Numbering.{each_number}
use Rattle.word_bytes.specs.Bytes.{words_of, words_in, bytes_of}
use Rattle.word_bytes.proofs.Pairs.{length-bytes_of, words-of-bytes, words-up-to, written}
use Rattle.meaning.specs.Complete.{Complete}
use Rattle.rules.specs.Run.{Numbered}
use Rattle.rules.specs.Answer.{Solving, answered, unread, given-up, solving}
use Rattle.rules.specs.Calls.{Showing, shows, denied, showing}
use Rattle.filling.specs.Showing.{filled}
use Rattle.patterns.specs.Blanks.{nothing, apart}
use Rattle.patterns.specs.Terms.{one_term}
use Rattle.patterns.specs.Pairs.{of_both, too_many, pair_words}
use Rattle.pairing.specs.Meeting.{Meeting, cannot, can, unsettled, refused, first_settled, fits, reported, early, shown_by, meeting_by, meeting_of, meeting}
use Rattle.pairing.specs.Lent.{meeting_number, report_of}
use Rattle.pairing.proofs.Promises.{cannot-is-none, can-matches}
use Rattle.overlap.specs.Table.{word_from}
use Rattle.overlap_demands.specs.Calls.{OverlapPair}
use Rattle.overlap_demands.specs.Promises.{BothMatch, ReportIn}

-- ---- a refusal's number is less than every other, and a report is no longer than its room

pub record Fair (room : ℕ) (m : Meeting) : Type 0 where
  pub low : (n : ℕ) → m ≡ refused n → n < 100
  pub short : length (report_of m) ≤ room

number-low : (room n : ℕ) → n < 100 → Fair room (refused n)
number-low room n p = record { low = λ k e. let z : n ≡ k = cc in omega arith; short = omega arith }

module _ (room word : ℕ) (ps qs : List ℕ) where
  said-fair : (m : Meeting) → ((n : ℕ) → m ≡ refused n → ⊥) → length (report_of m) ≤ room → Fair room m
  said-fair m never p = record { low = λ n e. absurd (never n e); short = p }

  fits-fair : (ws : List ℕ) → Fair room (fits room ws)
  fits-fair ws = on (ltb room (length ws)) refl
    where
      on : (b : Bool) → ltb room (length ws) ≡ b → Fair room (pick b (refused 16) (can ws))
      on true e = number-low room 16 (omega arith)
      on false e = said-fair (can ws) (λ n d. let z : ◌≡◌ {A = ℕ} 0 1 = cc in omega arith) (ltb-false room (length ws) e)

  shown-fair : (s : Showing) → Fair room (reported room (of_both word ps qs) (apart nothing ps) s)
  shown-fair (shows fs) = fits-fair (filled (of_both word ps qs).terms (of_both word ps qs).hedges fs (apart nothing ps))
  shown-fair (denied r) = number-low room (number_of r) (let z = each_number r in omega (arith, z.1))

  lines-fair : (ls : List Numbered) → Fair room (meeting_by room word ps qs ls)
  lines-fair [] = said-fair cannot (λ n d. let z : ◌≡◌ {A = ℕ} 0 1 = cc in omega arith) (omega arith)
  lines-fair (k ∷ ks) = on (eqb (first_settled (k ∷ ks)) (length (k ∷ ks)))
    where
      on : (b : Bool) → Fair room (pick b unsettled (shown_by room word ps qs (first_settled (k ∷ ks))))
      on true = said-fair unsettled (λ n d. let z : ◌≡◌ {A = ℕ} 0 1 = cc in omega arith) (omega arith)
      on false = shown-fair (showing desk false desk.room desk.room desk.filling (first_settled (k ∷ ks)) (pair_words word ps qs))

  solved-fair : (v : Solving) → Fair room (meeting_of room word ps qs v)
  solved-fair (answered ls n) = lines-fair ls
  solved-fair (unread r) = number-low room (number_of r) (let z = each_number r in omega (arith, z.1))
  solved-fair (given-up r) = number-low room (number_of r) (let z = each_number r in omega (arith, z.1))

  early-low : (a : Asked) → early a < 100
  early-low (asks q) = omega arith
  early-low (refuses r) = on (leb (number_of r) 3)
    where
      on : (b : Bool) → pick b (number_of r) 5 < 100
      on true = let z = each_number r in omega (arith, z.1)
      on false = omega arith

  pub meeting-fair : Fair room (meeting room word ps qs)
  unfolding meeting
  meeting-fair = on (too_many (of_both word ps qs)) (one_term ps && one_term qs)
    where
      on : (b f : Bool) → Fair room (pick b (refused 25) (pick f (meeting_of room word ps qs (solving desk desk.room desk.room (pair_words word ps qs))) (refused (early (read_question desk (pair_words word ps qs))))))
      on true f = number-low room 25 (omega arith)
      on false true = solved-fair (solving desk desk.room desk.room (pair_words word ps qs))
      on false false = number-low room (early (read_question desk (pair_words word ps qs))) (early-low (read_question desk (pair_words word ps qs)))

-- ---- what comes back

is-cannot : (room : ℕ) (m : Meeting) → Fair room m → meeting_number m ≡ 100 → m ≡ cannot
is-cannot room cannot f e = refl
is-cannot room unsettled f e = absurd (let z : ◌≡◌ {A = ℕ} 101 100 = e in omega arith)
is-cannot room (can ws) f e = absurd (omega arith)
is-cannot room (refused n) f e = absurd (omega (arith, f.low n refl))

is-can : (room : ℕ) (m : Meeting) → Fair room m → (n : ℕ) → meeting_number m ≡ 200 + n → (ws : List ℕ) × (m ≡ can ws) × (length ws ≡ n)
is-can room cannot f n e = absurd (omega arith)
is-can room unsettled f n e = absurd (omega arith)
is-can room (can ws) f n e = (ws, refl, omega arith)
is-can room (refused k) f n e = absurd (omega (arith, f.low k refl))

no-report : (room : ℕ) (m : Meeting) → Fair room m → meeting_number m < 200 → report_of m ≡ []
no-report room cannot f e = refl
no-report room unsettled f e = refl
no-report room (can ws) f e = absurd (omega arith)
no-report room (refused n) f e = refl

module _ (c : OverlapPair) where
  abbrev size : ℕ
  size = length c.room / 2

  abbrev m : Meeting
  m = meeting size (word_from c.word₀) (words_in c.first) (words_in c.second)

  fair : Fair size m
  fair = meeting-fair size (word_from c.word₀) (words_in c.first) (words_in c.second)

  pub none-matches : c.number ≡ 100 → (report : Complete) → BothMatch c report → ⊥
  none-matches e report b =
      cannot-is-none size (word_from c.word₀) (words_in c.first) (words_in c.second) (is-cannot size m fair (sym c.said.0 ∙ e)) report b.first b.second

  pub report-in : (n : ℕ) → c.number ≡ 200 + n → ReportIn c n
  report-in n e =
      let (ws, is, l) = is-can size m fair n (sym c.said.0 ∙ e) in
      let x = can-matches size (word_from c.word₀) (words_in c.first) (words_in c.second) ws is in
      let short : length ws ≤ size = subst (λ (m : Meeting). length (report_of m) ≤ size) is fair.short in
      let left : c.room_left ≡ bytes_of ws ++ drop (2 * length ws) c.room = c.said.1 ∙ ap (λ (m : Meeting). sets c.room 0 (bytes_of (report_of m))) is ∙ written c.room ws (omega arith) in
      let lb = length-bytes_of ws in
      let front : take n (words_of c.room_left) ≡ ws =
      ap (λ b. take n (words_of b)) left ∙ sym (words-up-to (bytes_of ws ++ drop (2 * length ws) c.room) n)
      ∙ ap words_of (take_at (bytes_of ws) (drop (2 * length ws) c.room) (2 * n) (omega arith)) ∙ words-of-bytes ws in
      record {
        fit = omega arith;
        report = x.report;
        words = ap (λ l. l ++ (0 ∷ [])) front ∙ x.words;
        matched = record { first = x.first; second = x.second };
        rest = ap (drop (2 * n)) left ∙ drop_at (bytes_of ws) (drop (2 * length ws) c.room) (2 * n) (omega arith) ∙ ap (λ k. drop (2 * k) c.room) l;
      }

  pub room-stays : c.number < 200 → c.room_left ≡ c.room
  unfolding bytes_of
  room-stays p = c.said.1 ∙ ap (λ ws. sets c.room 0 (bytes_of ws)) (no-report size m fair (subst (λ n. n < 200) c.said.0 p))
