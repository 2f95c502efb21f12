-- What each answer of a pair promises.
use Prim.Native.Nat.{ℕ, ◌≤◌}
use mathlib.Core.Path.{◌≡◌, refl, sym, ap, subst, ◌∙◌}
use mathlib.Core.Logic.{inl}
use mathlib.Core.Bool.{Bool, true, false, ◌&&◌}
use mathlib.Core.List.{List, [], ◌∷◌, ◌++◌}
use native.Mathlib.Omega.{arith}
use lib.Dec.{eqb, ltb}
use lib.ListN.{length, replicate, length-replicate}
use Rattle.language.specs.Limits.{desk}
use Rattle.language.specs.Kinds.{pick}
use Rattle.language.specs.Trees.{Counts, signature, Question}
use Rattle.language.specs.Question.{asks, read_question}
use Rattle.language.proofs.Bools.{both_true}
use Rattle.language.proofs.Asking.{passed, ranges}
use Rattle.meaning.specs.Complete.{Complete, complete_words, Same}
use Rattle.meaning.specs.Meaning.{Filling, fill, MeetsQuestion}
use Rattle.meaning.proofs.Same.{same-sym, same-≡, same-trans}
use Rattle.rules.specs.Answer.{answer_words, zeros, overwritten, Solving, answered, unread, given-up, solving}
use Rattle.rules.specs.Calls.{Showing, shows, denied, showing}
use Rattle.outcomes.specs.declared.Outcome.TheVariants.{NoLine}
use Rattle.solver.specs.Leaves.{told_leaves}
use Rattle.filling.specs.Showing.{filled}
use Rattle.demands.proofs.Demands.{none-is-none}
use Rattle.patterns.specs.Blanks.{blanks_in, counted, nothing, apart}
use Rattle.patterns.specs.Terms.{one_term, Matches}
use Rattle.patterns.specs.Pairs.{of_both, too_many, pair_words}
use Rattle.patterns.specs.Renamed.{first_of, second_of}
use Rattle.patterns.proofs.OneTerm.{Term-of, one-term}
use Rattle.patterns.proofs.Renumbering.{joint, joint-first, joint-second}
use Rattle.patterns.proofs.Asking.{held-here, pair-asked}
use Rattle.patterns.proofs.Taming.{tame, tame-same, tamed, tamed-named, tamed-fills}
use Rattle.pairing.specs.Meeting.{Meeting, cannot, can, unsettled, refused, first_settled, reported, early, shown_by, meeting_of, meeting}
use Rattle.pairing.proofs.Showing.{both-declared, shown-pair, report-words, both-match-it}

module _ (room word : ℕ) (ps qs : List ℕ) where
  abbrev v : Solving
  v = solving desk desk.room desk.room (pair_words word ps qs)

  -- an answer that is no number came from the solver's answer to two terms
  record Asked (m : Meeting) : Type 0 where
    few : too_many (of_both word ps qs) ≡ false
    fair : (one_term ps && one_term qs) ≡ true
    comes : meeting_of room word ps qs v ≡ m

  open_up : (m : Meeting) → ((n : ℕ) → refused n ≡ m → ⊥) → meeting room word ps qs ≡ m → Asked m
  unfolding meeting
  open_up m never e = on (too_many (of_both word ps qs)) (one_term ps && one_term qs) refl refl e
    where
      on : (b f : Bool) → too_many (of_both word ps qs) ≡ b → (one_term ps && one_term qs) ≡ f
          → pick b (refused 25) (pick f (meeting_of room word ps qs v) (refused (early (read_question desk (pair_words word ps qs))))) ≡ m → Asked m
      on true f x y d = absurd (never 25 d)
      on false true x y d = record { few = x; fair = y; comes = d }
      on false false x y d = absurd (never _ d)

  -- ---- '"Cannot meet" may be given only if no complete report matches both.'

  none-solved : (n : ℕ) → v ≡ answered [] n → (asked : Question) × (read_question desk (pair_words word ps qs) ≡ asks asked) × ((ρ : Filling) → ¬ MeetsQuestion ρ asked)
  none-solved n e =
      let d : solving desk (length (replicate {A = ℕ} desk.room 0)) (length (replicate {A = ℕ} desk.room 0)) (pair_words word ps qs) ≡ answered [] n = rw (length-replicate {A = ℕ} desk.room 0) e in
      none-is-none (record {
        question = pair_words word ps qs;
        work = replicate desk.room 0;
        answer = replicate desk.room 0;
        returned = record { outcome = NoLine; lines = 0; «open» = 0; steps = n };
        work_left = overwritten desk (zeros desk) (replicate desk.room 0);
        answer_left = overwritten desk (answer_words desk []) (replicate desk.room 0);
        said = sym (ap (λ (v : Solving). told_leaves v (replicate desk.room 0) (replicate desk.room 0)) d);
      }) refl

  pub cannot-is-none : meeting room word ps qs ≡ cannot → (report : Complete) → Matches (signature (of_both word ps qs)) ps report → Matches (signature (of_both word ps qs)) qs report → ⊥
  cannot-is-none e g a b = let o = open_up cannot (λ n d. let z : ◌≡◌ {A = ℕ} 0 1 = cc in omega arith) e in on o.few v refl o.comes
    where
      settled : (t : Bool) (m : Meeting) → (m ≡ cannot → ⊥) → pick t unsettled m ≡ cannot → ⊥
      settled true m n d = let z : ◌≡◌ {A = ℕ} 0 1 = cc in omega arith
      settled false m n d = n d

      shown : (s : Showing) → reported room (of_both word ps qs) (apart nothing ps) s ≡ cannot → ⊥
      shown (denied r) d = let z : ◌≡◌ {A = ℕ} 0 1 = cc in omega arith
      shown (shows fs) d = by (ltb room (length (filled (of_both word ps qs).terms (of_both word ps qs).hedges fs (apart nothing ps)))) d
        where
          by : (t : Bool) → pick t (refused 16) (can (filled (of_both word ps qs).terms (of_both word ps qs).hedges fs (apart nothing ps))) ≡ cannot → ⊥
          by true d = let z : ◌≡◌ {A = ℕ} 0 1 = cc in omega arith
          by false d = let z : ◌≡◌ {A = ℕ} 0 1 = cc in omega arith

      on : too_many (of_both word ps qs) ≡ false → (w : Solving) → v ≡ w → meeting_of room word ps qs w ≡ cannot → ⊥
      on few (answered [] n) d x =
          let (q, r, none) = none-solved n d in
          let is = pair-asked word ps qs a.term b.term a.pattern b.pattern few q r in
          let ρ = joint (blanks_in ps) (blanks_in qs) a.filling b.filling in
          let first = joint-first word (blanks_in ps) (blanks_in qs) a.filling b.filling a.term (held-here nothing ps a.term a.pattern) in
          let second = joint-second word (blanks_in ps) (blanks_in qs) a.filling b.filling b.term (held-here (counted word (blanks_in ps)) qs b.term b.pattern) in
          let σ = signature (of_both word ps qs) in
          let meets : Same σ (fill ρ (first_of ps a.term)) (fill ρ (second_of word ps qs b.term)) =
          same-trans σ _ (fill a.filling a.term) _ (same-≡ σ _ _ first) (same-trans σ _ g _ a.same (same-trans σ _ (fill b.filling b.term) _ (same-sym σ _ _ b.same) (same-≡ σ _ _ (sym second)))) in
          let (d₁, d₂) = both-declared word ps qs a.term b.term a.pattern b.pattern few q r in
          let one : 1 ≤ σ.symbols = subst (λ (x : Counts). 1 ≤ x.symbols) (sym (passed desk (pair_words word ps qs) q r).counts ∙ ap (λ (x : Question). x.counts) is) (ranges desk (pair_words word ps qs) q r).symbol in
          let ρ' = tamed σ ρ in
          let tame-meets : Same σ (fill ρ' (first_of ps a.term)) (fill ρ' (second_of word ps qs b.term)) =
          same-trans σ _ (tame σ (fill ρ (first_of ps a.term))) _ (same-≡ σ _ _ (tamed-fills (of_both word ps qs) ρ (first_of ps a.term) d₁))
          (same-trans σ _ (tame σ (fill ρ (second_of word ps qs b.term))) _ (tame-same σ _ _ meets) (same-≡ σ _ _ (sym (tamed-fills (of_both word ps qs) ρ (second_of word ps qs b.term) d₂)))) in
          none ρ' (subst (λ (x : Question). MeetsQuestion ρ' x) (sym is) (inl (tame-meets, tamed-named σ ρ one)))
      on few (answered (k ∷ ks) n) d x = settled (eqb (first_settled (k ∷ ks)) (length (k ∷ ks))) (shown_by room word ps qs (first_settled (k ∷ ks))) (shown (showing desk false desk.room desk.room desk.filling (first_settled (k ∷ ks)) (pair_words word ps qs))) x
      on few (unread r) d x = let z : ◌≡◌ {A = ℕ} 0 1 = cc in omega arith
      on few (given-up r) d x = let z : ◌≡◌ {A = ℕ} 0 1 = cc in omega arith

  -- ---- '"can meet" with a report that both match'

  -- the words, with an end mark, are those of a complete report that matches both patterns
  pub record CanMeet (ws : List ℕ) : Type 0 where
    pub report : Complete
    pub words : ws ++ (0 ∷ []) ≡ complete_words report
    pub first : Matches (signature (of_both word ps qs)) ps report
    pub second : Matches (signature (of_both word ps qs)) qs report

  module _ (few : too_many (of_both word ps qs) ≡ false) (h : Term-of ps) (k : Term-of qs) (ws : List ℕ) where
    shown-can : (line : ℕ) (s : Showing) → showing desk false desk.room desk.room desk.filling line (pair_words word ps qs) ≡ s
        → reported room (of_both word ps qs) (apart nothing ps) s ≡ can ws → CanMeet ws
    shown-can line (denied r) c d = absurd (let z : ◌≡◌ {A = ℕ} 0 1 = cc in omega arith)
    shown-can line (shows fs) c d = by (ltb room (length (filled (of_both word ps qs).terms (of_both word ps qs).hedges fs (apart nothing ps)))) d
      where
        by : (t : Bool) → pick t (refused 16) (can (filled (of_both word ps qs).terms (of_both word ps qs).hedges fs (apart nothing ps))) ≡ can ws → CanMeet ws
        by true d = absurd (let z : ◌≡◌ {A = ℕ} 0 1 = cc in omega arith)
        by false d =
            let z : filled (of_both word ps qs).terms (of_both word ps qs).hedges fs (apart nothing ps) ≡ ws = cc in
            let x = shown-pair word ps qs h.term k.term h.pattern k.pattern few line fs c in
            let (a, b) = both-match-it word ps qs h.term k.term h.pattern k.pattern few x in
            record {
              report = fill x.filling (first_of ps h.term);
              words = ap (λ l. l ++ (0 ∷ [])) (sym z) ∙ report-words word ps qs h.term k.term h.pattern k.pattern few x;
              first = a;
              second = b;
            }

    solved-can : (w : Solving) → meeting_of room word ps qs w ≡ can ws → CanMeet ws
    solved-can (answered [] n) d = absurd (let z : ◌≡◌ {A = ℕ} 0 1 = cc in omega arith)
    solved-can (answered (l ∷ ls) n) d = by (eqb (first_settled (l ∷ ls)) (length (l ∷ ls))) d
      where
        by : (t : Bool) → pick t unsettled (shown_by room word ps qs (first_settled (l ∷ ls))) ≡ can ws → CanMeet ws
        by true d = absurd (let z : ◌≡◌ {A = ℕ} 0 1 = cc in omega arith)
        by false d = shown-can (first_settled (l ∷ ls)) (showing desk false desk.room desk.room desk.filling (first_settled (l ∷ ls)) (pair_words word ps qs)) refl d
    solved-can (unread r) d = absurd (let z : ◌≡◌ {A = ℕ} 0 1 = cc in omega arith)
    solved-can (given-up r) d = absurd (let z : ◌≡◌ {A = ℕ} 0 1 = cc in omega arith)

  pub can-matches : (ws : List ℕ) → meeting room word ps qs ≡ can ws → CanMeet ws
  can-matches ws e =
      let o = open_up (can ws) (λ n d. let z : ◌≡◌ {A = ℕ} 0 1 = cc in omega arith) e in
      let (a, b) = both_true (one_term ps) (one_term qs) o.fair in
      solved-can o.few (one-term ps a) (one-term qs b) ws v o.comes
