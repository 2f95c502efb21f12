-- The filling that an example shows for a pair has a value for every blank of the first pattern, and makes both patterns the same report.
use Prim.Native.Nat.{ℕ, zero, suc}
use mathlib.Core.Path.{◌≡◌, refl, sym, ap, subst, ◌∙◌}
use mathlib.Core.Logic.{inl, inr}
use mathlib.Core.Bool.{true, false}
use mathlib.Core.List.{List, [], ◌∷◌, ◌++◌}
use mathlib.Core.Option.{some}
use native.Mathlib.Omega.{arith}
use lib.ListN.{length, take, drop, replicate, length-replicate}
use lib.Seq.{take_at}
use Rattle.std.specs.Prelude.{Ok}
use Rattle.language.specs.Limits.{desk}
use Rattle.language.specs.declared.Signature.{Signature}
use Rattle.language.specs.Trees.{Hedge, Counts, signature, Question}
use Rattle.language.specs.Writing.{hedge_words}
use Rattle.language.specs.Fine.{fine_hedge}
use Rattle.language.specs.Question.{declared, declared_q, asks, read_question}
use Rattle.language.proofs.Words.{kind-end}
use Rattle.language.specs.Undeclared.{declared_words}
use Rattle.language.proofs.Bools.{both_true}
use Rattle.language.proofs.Asking.{passed}
use Rattle.language.proofs.Undeclared.{declared-append, hedge-declared}
use Rattle.meaning.specs.Complete.{complete_words, Same}
use Rattle.meaning.specs.Meaning.{Filling, fill, MeetsQuestion}
use Rattle.meaning.specs.Values.{gives, read_filling}
use Rattle.meaning.proofs.Same.{same-sym, same-≡, same-trans}
use Rattle.rules.specs.Answer.{solving}
use Rattle.rules.specs.Calls.{Showing, shows, showing}
use Rattle.outcomes.specs.declared.Solved.{Solved}
use Rattle.line_example.specs.Shown.{numbers_of, room_of}
use Rattle.example.specs.Exhibits.{told_exhibits}
use Rattle.solver.specs.Leaves.{leaves}
use Rattle.lines.specs.Fillings.{Agree}
use Rattle.filling.specs.Showing as places
use Rattle.filling.specs.Showing.{word_on, filled}
use Rattle.filling.proofs.Given.{was, has-values}
use Rattle.filling.proofs.Values.{declared-shows}
use Rattle.filling.proofs.Becomes.{filled-append, hedge-becomes}
use Rattle.demands.specs.Answers.{Line, MeetsLine, MeetsLines, nth_line}
use Rattle.demands.specs.Promises.{Promised, example_of}
use Rattle.demands.specs.Examples.{Example}
use Rattle.demands.proofs.Demands.{shows-only-so}
use Rattle.patterns.specs.Blanks.{blanks_in, counted, nothing, apart}
use Rattle.patterns.specs.Terms.{Pattern, Matches}
use Rattle.patterns.specs.Pairs.{of_both, too_many, pair_words}
use Rattle.patterns.specs.Renamed.{first_of, second_of, pair_asks}
use Rattle.patterns.proofs.Renumbering.{back, back-fills}
use Rattle.patterns.proofs.Asking.{few, apart_words, fine-first, pair-asked}

-- ---- an example that is shown, as a call that came back

abbrev clear : ℕ → List ℕ
clear n = replicate n 0

module _ (q : List ℕ) (line : ℕ) (fs : List ℕ) (e : showing desk false desk.room desk.room desk.filling line q ≡ shows fs) where
  abbrev slices : Solved × List ℕ × List ℕ
  slices = leaves (solving desk (length (clear desk.room)) (length (clear desk.room)) q) (clear desk.room) (clear desk.room)

  lengths : showing desk false (length (clear desk.room)) (length (clear desk.room)) (length (clear desk.filling)) line q ≡ shows fs
  lengths = rw (length-replicate {A = ℕ} desk.room 0, length-replicate {A = ℕ} desk.filling 0) e

  said : ◌≡◌ {A = (ℕ × ℕ × ℕ) × List ℕ × List ℕ × List ℕ} ((0, 0, length fs), slices.1, slices.2, fs ++ drop (length fs) (clear desk.filling))
      (told_exhibits line false q (clear desk.room) (clear desk.room) (clear desk.filling))
  unfolding told_exhibits
  said = sym (ap (λ (s : Showing). (numbers_of s, slices.1, slices.2, room_of s (clear desk.filling))) lengths)

  abbrev left : Example
  left = record {
    question = q;
    line = line;
    old_sheets = false;
    work = clear desk.room;
    answer = clear desk.room;
    room = clear desk.filling;
    returned = Ok (length fs);
    work_left = slices.1;
    answer_left = slices.2;
    room_left = fs ++ drop (length fs) (clear desk.filling);
    said = said;
  }

-- ---- the pair

meets-nth : (σ : Signature) (ρ : Filling) (i : ℕ) (ls : List Line) (l : Line) → nth_line i ls ≡ some l → MeetsLine σ ρ l → MeetsLines σ ρ ls
meets-nth σ ρ i [] l e m = absurd (let z : ◌≡◌ {A = ℕ} 0 1 = cc in omega arith)
meets-nth σ ρ zero (k ∷ ls) l e m = let z : k ≡ l = cc in inl (subst (MeetsLine σ ρ) (sym z) m)
meets-nth σ ρ (suc i) (k ∷ ls) l e m = inr (meets-nth σ ρ i ls l e m)

end-filled : (t h : ℕ) (fs : List ℕ) → filled t h fs (0 ∷ []) ≡ 0 ∷ []
unfolding filled
end-filled t h fs = ap (λ k. word_on t h fs 0 k ++ []) (kind-end desk)

-- what is known of an example of the pair that is shown
pub record ShownPair (word : ℕ) (ps qs : List ℕ) (h k : Hedge) (line : ℕ) (fs : List ℕ) : Type 0 where
  pub answer : List ℕ
  pub promised : Promised (pair_words word ps qs) answer
  pub settled : Line
  pub there : nth_line line promised.lines ≡ some settled
  pub mark : settled.mark ≡ 1
  pub filling : Filling
  pub read : read_filling desk (of_both word ps qs) fs ≡ gives filling
  pub agrees : Agree (of_both word ps qs) filling (example_of false (of_both word ps qs) settled)
  pub declares : declared (of_both word ps qs) (first_of ps h) ≡ true
  pub same : Same (signature (of_both word ps qs)) (fill filling (first_of ps h)) (fill filling (second_of word ps qs k))

module _ (word : ℕ) (ps qs : List ℕ) (h k : Hedge) (p : Pattern ps h) (q : Pattern qs k) (ok : too_many (of_both word ps qs) ≡ false) where
  abbrev n : Counts
  n = of_both word ps qs

  pub both-declared : (x : Question) → read_question desk (pair_words word ps qs) ≡ asks x → (declared n (first_of ps h) ≡ true) × (declared n (second_of word ps qs k) ≡ true)
  both-declared x r =
      let is = pair-asked word ps qs h k p q ok x r in
      let w = passed desk (pair_words word ps qs) x r in
      let d = subst (λ (y : Question). declared_q y.counts y.alternatives ≡ true) is (subst (λ (c : Counts). declared_q c x.alternatives ≡ true) (sym w.counts) w.declared) in
      both_true (declared n (first_of ps h)) (declared n (second_of word ps qs k))
      (both_true _ true (both_true _ true d).0).0

  pub shown-pair : (line : ℕ) (fs : List ℕ) → showing desk false desk.room desk.room desk.filling line (pair_words word ps qs) ≡ shows fs → ShownPair word ps qs h k line fs
  shown-pair line fs e =
      let (o, l, there, mark, s) = shows-only-so (left (pair_words word ps qs) line fs e) (length fs) refl in
      let is = pair-asked word ps qs h k p q ok o.asked o.question-read in
      let room : take (length fs) (fs ++ drop (length fs) (clear desk.filling)) ≡ fs = take_at fs (drop (length fs) (clear desk.filling)) (length fs) refl in
      let counts = ap (λ (x : Question). x.counts) is in
      let met = subst (λ (x : Question). MeetsQuestion s.filling x) is ((o.exact.same s.filling).1 (meets-nth (signature o.asked.counts) s.filling line o.lines l there s.meets)) in
      record {
        answer = _;
        promised = o;
        settled = l;
        there = there;
        mark = mark;
        filling = s.filling;
        read = subst (λ (c : Counts). read_filling desk c fs ≡ gives s.filling) counts (ap (read_filling desk o.asked.counts) (sym room) ∙ s.read);
        agrees = subst (λ (c : Counts). Agree c s.filling (example_of false c l)) counts s.agrees;
        declares = (both-declared o.asked o.question-read).0;
        same = on s.filling met;
      }
    where
      on : (ρ : Filling) → MeetsQuestion ρ (pair_asks word ps qs h k) → Same (signature n) (fill ρ (first_of ps h)) (fill ρ (second_of word ps qs k))
      on ρ (inl m) = m.0
      on ρ (inr x') = elim x' [ ]

  module _ {line : ℕ} {fs : List ℕ} (x : ShownPair word ps qs h k line fs) where
    words : hedge_words (first_of ps h) ≡ apart nothing ps ++ (0 ∷ [])
    words = apart_words nothing ps h p

    fine : fine_hedge desk (first_of ps h)
    fine = fine-first word ps qs h k p q (few n ok)

    -- every blank of the first pattern has a value
    pub pair-shows : places.Shows n.terms n.hedges fs (apart nothing ps)
    pair-shows =
        let d : declared_words desk n (apart nothing ps ++ (0 ∷ [])) ≡ true = ap (declared_words desk n) (sym words) ∙ hedge-declared desk n (first_of ps h) fine ∙ x.declares in
        let e = both_true (declared_words desk n (apart nothing ps)) (declared_words desk n (0 ∷ [])) (sym (declared-append desk n (apart nothing ps) (0 ∷ [])) ∙ d) in
        declared-shows n (has-values n fs x.filling (was n fs x.filling x.read)) (apart nothing ps) e.0

    -- the first pattern's words filled in are those of its tree filled by the example
    pub report-words : filled n.terms n.hedges fs (apart nothing ps) ++ (0 ∷ []) ≡ complete_words (fill x.filling (first_of ps h))
    report-words =
        let w = was n fs x.filling x.read in
        ap (λ l. filled n.terms n.hedges fs (apart nothing ps) ++ l) (sym (end-filled n.terms n.hedges fs))
        ∙ sym (filled-append n.terms n.hedges fs (apart nothing ps) (0 ∷ []))
        ∙ ap (filled n.terms n.hedges fs) (sym words)
        ∙ hedge-becomes (has-values n fs x.filling w) (first_of ps h) fine x.declares
        ∙ ap (λ ρ. complete_words (fill ρ (first_of ps h))) (sym w.is)

    -- and both patterns match that report
    pub both-match-it : Matches (signature n) ps (fill x.filling (first_of ps h)) × Matches (signature n) qs (fill x.filling (first_of ps h))
    both-match-it = (
      record { term = h; pattern = p; filling = back nothing (blanks_in ps) x.filling; same = same-≡ (signature n) _ _ (back-fills nothing (blanks_in ps) x.filling h) },
      record {
        term = k;
        pattern = q;
        filling = back (counted word (blanks_in ps)) (blanks_in qs) x.filling;
        same = same-trans (signature n) _ (fill x.filling (second_of word ps qs k)) _ (same-≡ (signature n) _ _ (back-fills (counted word (blanks_in ps)) (blanks_in qs) x.filling k)) (same-sym (signature n) _ _ x.same);
      },
    )
