-- "Questions with u = 0 answer as before": where no symbol is unordered, the new rules never apply and the changed ones are as they were, so a step has
-- the results that it had, and a run its lines and steps. The marks are made of the lines alone.
use Prim.Native.Nat.{ℕ, zero, suc, ◌<◌}
use mathlib.Core.Path.{◌≡◌, refl, sym, ap, ◌∙◌}
use mathlib.Core.Bool.{Bool, true, false, not}
use mathlib.Core.List.{List, [], ◌∷◌, ◌++◌, map}
use mathlib.Core.Option.{Option, none, some}
use native.Mathlib.Omega.{arith}
use lib.Dec.{ltb}
use lib.ListN.{get_or}
use Rattle.language.specs.declared.Refusal.{Refusal}
use Rattle.language.specs.declared.Refusal.TheVariants.{ShortSlice, LongResult, LongWaiting, LineRoom, StepLimit}
use Rattle.language.specs.Limits.{Limits, walked_pairs}
use Rattle.language.specs.declared.Signature.{Signature}
use Rattle.language.specs.Trees.{Functor, symbol, fvar, Hedge, Expr, Literal, eqn, mem, Conj, Counts, signature, is_unordered, any_unordered, eq_s, eq_f, eq_x, same_words}
use Rattle.language.specs.Question.{Asked, asks, refuses, read_question}
use Rattle.language.proofs.Asking.{passed}
use Rattle.language.proofs.Header.{first-word-before}
use Rattle.meaning.proofs.Same.{none-unordered, any-unordered-none}
use Rattle.rules.specs.Looks.{lone_node, as_symbol, as_blank, as_over}
use Rattle.rules.specs.Reply.{Reply, nothing, results, stops, PairRule}
use Rattle.rules.specs.Rules.{Answer, EqRule, InRule, Rule, on_eqn, on_mem, on_pair, ◌>>=◌, check, Del2, D1, keeps_order, D0, E7, M11, M12, Clash, rules}
use Rattle.rules.specs.Step.{or_next, each, placed, results_at, Spot, Found, found, earliest, first, search, Step, step}
use Rattle.rules.specs.Run.{Numbered, all_of, numbered, any_long, waiting_size, lines_fit, Outcome, refused, lined, turn, run_from, run_by, run, checked}
use Rattle.rules.specs.Answer.{Solving, unread, ran, solving_of, solving}
use Rattle.rules.specs.Clash.{all_ordered}
use Rattle.rules.proofs.Clashing.{clash-same}
use Rattle.rules.specs.Ordered.{ordered_d0, ordered_m11, ordered_clash, ordered_rules, ordered_step, ordered_solving_of, ordered_solving}

-- ---- line by line

same-look : {A : Type 0} (m : Option A) (f g : A → Answer) → ((a : A) → f a ≡ g a) → (m >>= f) ≡ (m >>= g)
unfolding ◌>>=◌
same-look none f g h = refl
same-look (some a) f g h = h a

no-look : {A : Type 0} (m : Option A) (f : A → Answer) → ((a : A) → f a ≡ none) → (m >>= f) ≡ none
unfolding ◌>>=◌
no-look none f h = refl
no-look (some a) f h = h a

-- a test that fails, and one that holds
failed : (b : Bool) (f : Unit {0} → Answer) → b ≡ false → (check b >>= f) ≡ none
unfolding ◌>>=◌ check
failed true f e = absurd (let z : ◌≡◌ {A = ℕ} 0 1 = cc in omega arith)
failed false f e = refl

held : (b : Bool) (f : Unit {0} → Answer) → b ≡ true → (check b >>= f) ≡ f tt
unfolding ◌>>=◌ check
held true f e = refl
held false f e = absurd (let z : ◌≡◌ {A = ℕ} 0 1 = cc in omega arith)

module _ (σ : Signature) (ordered : σ.unordered ≡ 0) where
  -- ---- the rules

  Del2-never : (K : Conj) (l r : Hedge) → Del2 σ K l r ≡ none
  Del2-never K l r =
      no-look (lone_node l) _ λ a. no-look (lone_node r) _ λ b. no-look (as_symbol a.0) _ λ f. no-look (as_symbol b.0) _ λ g.
      no-look (check (eq_s f g)) _ λ _. failed (is_unordered σ f) _ (none-unordered σ ordered f)

  D1-never : (K : Conj) (l r : Hedge) → D1 σ K l r ≡ none
  D1-never K l r =
      no-look (lone_node l) _ λ a. no-look (lone_node r) _ λ b. no-look (as_symbol a.0) _ λ f. no-look (as_symbol b.0) _ λ g.
      no-look (check (eq_s f g)) _ λ _. failed (is_unordered σ f) _ (none-unordered σ ordered f)

  E7-never : (K : Conj) (l r : Hedge) → E7 σ K l r ≡ none
  E7-never K l r =
      no-look (lone_node l) _ λ a. no-look (as_blank a.0) _ λ X. no-look (lone_node r) _ λ b. no-look (as_blank b.0) _ λ Y.
      no-look (check (eq_x X Y)) _ λ _. no-look (check (not (same_words a.1 b.1))) _ λ _. failed (any_unordered σ) _ (any-unordered-none σ ordered)

  M12-never : (K : Conj) (h : Hedge) (R : Expr) → M12 σ K h R ≡ none
  M12-never K h R =
      no-look (lone_node h) _ λ a. no-look (as_symbol a.0) _ λ f. no-look (as_over R) _ λ g.
      no-look (check (eq_s f g.0)) _ λ _. failed (is_unordered σ f) _ (none-unordered σ ordered f)

  keeps-order : (F : Functor) → keeps_order σ F ≡ true
  keeps-order (symbol f) = ap not (none-unordered σ ordered f)
  keeps-order (fvar X) = ap not (any-unordered-none σ ordered)

  D0-as-before : (K : Conj) (l r : Hedge) → D0 σ K l r ≡ ordered_d0 K l r
  D0-as-before K l r =
      same-look (lone_node l) _ _ λ a. same-look (lone_node r) _ _ λ b. same-look (check (eq_f a.0 b.0)) _ _ λ _. held (keeps_order σ a.0) _ (keeps-order a.0)

  M11-as-before : (K : Conj) (h : Hedge) (R : Expr) → M11 σ K h R ≡ ordered_m11 K h R
  M11-as-before K h R =
      same-look (lone_node h) _ _ λ a. same-look (as_symbol a.0) _ _ λ f. same-look (as_over R) _ _ λ g. same-look (check (eq_s f g.0)) _ _ λ _.
      held (not (is_unordered σ f)) _ (ap not (none-unordered σ ordered f))

-- ---- one rule at a conjunction

-- what was found, without its place
abbrev results_of : Found → Reply (List Conj)
results_of f = each (λ (s : Spot × List Conj). s.1) f

-- the two rules come to the same at every place; and the rule comes to nothing
abbrev SameRule : Rule → Rule → Type 0
SameRule rule was = (swap : Bool) (before : Conj) (l : Literal) (behind : Conj) → results_at swap rule before l behind ≡ results_at swap was before l behind

abbrev Never : Rule → Type 0
Never rule = (swap : Bool) (before : Conj) (l : Literal) (behind : Conj) → results_at swap rule before l behind ≡ nothing

eqn-same : (rule was : EqRule) → ((K : Conj) (l r : Hedge) → rule K l r ≡ was K l r) → SameRule (on_eqn rule) (on_eqn was)
eqn-same rule was h false before (eqn l r) behind = ap (placed before behind) (h (before ++ behind) l r)
eqn-same rule was h true before (eqn l r) behind = ap (placed before behind) (h (before ++ behind) r l)
eqn-same rule was h false before (mem g R) behind = refl
eqn-same rule was h true before (mem g R) behind = refl

mem-same : (rule was : InRule) → ((K : Conj) (h : Hedge) (R : Expr) → rule K h R ≡ was K h R) → SameRule (on_mem rule) (on_mem was)
mem-same rule was h false before (eqn l r) behind = refl
mem-same rule was h true before (eqn l r) behind = refl
mem-same rule was h false before (mem g R) behind = ap (placed before behind) (h (before ++ behind) g R)
mem-same rule was h true before (mem g R) behind = refl

pair_same : (rule was : PairRule) → ((l : Literal) (behind : Conj) → rule l behind ≡ was l behind) → SameRule (on_pair rule) (on_pair was)
pair_same rule was h false before l behind = ap (each (map (λ (k : Conj). before ++ k))) (h l behind)
pair_same rule was h true before l behind = refl

eqn-never : (rule : EqRule) → ((K : Conj) (l r : Hedge) → rule K l r ≡ none) → Never (on_eqn rule)
eqn-never rule h false before (eqn l r) behind = ap (placed before behind) (h (before ++ behind) l r)
eqn-never rule h true before (eqn l r) behind = ap (placed before behind) (h (before ++ behind) r l)
eqn-never rule h false before (mem g R) behind = refl
eqn-never rule h true before (mem g R) behind = refl

mem-never : (rule : InRule) → ((K : Conj) (h : Hedge) (R : Expr) → rule K h R ≡ none) → Never (on_mem rule)
mem-never rule h false before (eqn l r) behind = refl
mem-never rule h true before (eqn l r) behind = refl
mem-never rule h false before (mem g R) behind = ap (placed before behind) (h (before ++ behind) g R)
mem-never rule h true before (mem g R) behind = refl

-- the same found first, the same found after it
next-same : (f g : Found) (k j : Unit {0} → Found) → results_of f ≡ results_of g → results_of (k tt) ≡ results_of (j tt) → results_of (or_next f k) ≡ results_of (or_next g j)
next-same nothing nothing k j e d = d
next-same nothing (results b) k j e d = absurd (let z : ◌≡◌ {A = ℕ} 0 1 = cc in omega arith)
next-same nothing (stops s) k j e d = absurd (let z : ◌≡◌ {A = ℕ} 0 1 = cc in omega arith)
next-same (results a) nothing k j e d = absurd (let z : ◌≡◌ {A = ℕ} 0 1 = cc in omega arith)
next-same (results a) (results b) k j e d = e
next-same (results a) (stops s) k j e d = e
next-same (stops r) nothing k j e d = absurd (let z : ◌≡◌ {A = ℕ} 0 1 = cc in omega arith)
next-same (stops r) (results b) k j e d = e
next-same (stops r) (stops s) k j e d = e

found-results : (n i : ℕ) (swap : Bool) (m : Reply (List Conj)) → results_of (found n i swap m) ≡ m
found-results n i swap nothing = refl
found-results n i swap (results a) = refl
found-results n i swap (stops r) = refl

earliest-same : (rule was : Rule) → SameRule rule was → (n m i : ℕ) (before k : Conj) → results_of (earliest n rule i before k) ≡ results_of (earliest m was i before k)
earliest-same rule was h n m i before [] = refl
earliest-same rule was h n m i before (l ∷ k) =
    next-same (found n i false (results_at false rule before l k)) (found m i false (results_at false was before l k)) _ _ (at false)
    (next-same (found n i true (results_at true rule before l k)) (found m i true (results_at true was before l k)) _ _ (at true) (earliest-same rule was h n m (suc i) (before ++ (l ∷ [])) k))
  where
    at : (swap : Bool) → results_of (found n i swap (results_at swap rule before l k)) ≡ results_of (found m i swap (results_at swap was before l k))
    at swap = found-results n i swap (results_at swap rule before l k) ∙ h swap before l k ∙ sym (found-results m i swap (results_at swap was before l k))

earliest-never : (rule : Rule) → Never rule → (n i : ℕ) (before k : Conj) → earliest n rule i before k ≡ nothing
earliest-never rule h n i before [] = refl
earliest-never rule h n i before (l ∷ k) = rw (h false before l k, h true before l k) (earliest-never rule h n (suc i) (before ++ (l ∷ [])) k)

-- ---- the lists

-- The second is the first without rules that never apply, and otherwise rule by rule the same.
data AsBefore : List Rule → List Rule → Type 0 where
  end : AsBefore [] []
  kept : {rule was : Rule} {rs qs : List Rule} → SameRule rule was → AsBefore rs qs → AsBefore (rule ∷ rs) (was ∷ qs)
  added : {rule : Rule} {rs qs : List Rule} → Never rule → AsBefore rs qs → AsBefore (rule ∷ rs) qs

first-as-before : (rs qs : List Rule) → AsBefore rs qs → (n m : ℕ) (k : Conj) → results_of (first n rs k) ≡ results_of (first m qs k)
first-as-before [] [] end n m k = refl
first-as-before [] (was ∷ qs) x'' n m k = elim x'' [ ]
first-as-before (rule ∷ rs) (was ∷ qs) (kept h b) n m k =
    next-same (earliest n rule 0 [] k) (earliest m was 0 [] k) _ _ (earliest-same rule was h n m 0 [] k) (first-as-before rs qs b (suc n) (suc m) k)
first-as-before (rule ∷ rs) qs (added h b) n m k =
    ap (λ f. results_of (or_next f (λ _. first (suc n) rs k))) (earliest-never rule h n 0 [] k) ∙ first-as-before rs qs b (suc n) m k

unchanged : (rule : Rule) → SameRule rule rule
unchanged rule swap before l behind = refl

module _ (σ : Signature) (ordered : σ.unordered ≡ 0) where
  as_before : AsBefore (rules σ) ordered_rules
  as_before =
      kept (unchanged _) (kept (unchanged _) (kept (unchanged _)
      (kept (unchanged _) (kept (unchanged _) (kept (unchanged _) (kept (unchanged _) (kept (unchanged _) (kept (unchanged _) (kept (unchanged _)
      (kept (unchanged _) (added (eqn-never (Del2 σ) (Del2-never σ ordered)) (kept (unchanged _)
      (added (eqn-never (D1 σ) (D1-never σ ordered)) (kept (unchanged _) (kept (eqn-same (D0 σ) ordered_d0 (D0-as-before σ ordered))
      (kept (unchanged _) (kept (unchanged _) (kept (unchanged _) (kept (unchanged _) (kept (unchanged _) (kept (unchanged _) (added (eqn-never (E7 σ) (E7-never σ ordered))
      (kept (unchanged _) (kept (unchanged _) (kept (unchanged _) (kept (unchanged _) (kept (unchanged _) (kept (unchanged _) (kept (unchanged _) (kept (unchanged _)
      (kept (mem-same (M11 σ) ordered_m11 (M11-as-before σ ordered)) (added (mem-never (M12 σ) (M12-never σ ordered))
      (kept (pair_same (Clash σ) ordered_clash (clash-same (is_unordered σ) all_ordered (none-unordered σ ordered) walked_pairs)) end)))))))))))))))))))))))))))))))))

  pub step-as-before : (k : Conj) → step σ k ≡ ordered_step k
  unfolding step search ordered_step
  step-as-before k = first-as-before (rules σ) ordered_rules as_before 0 0 k

-- ---- the run

-- where two steps come to the same at every conjunction, so do their runs
module _ (by was : Step) (same : (k : Conj) → by k ≡ was k) (L : Limits) where
  turn-same : (go on : List Numbered → List Conj → List Numbered → Outcome) → ((ls : List Numbered) (ks : List Conj) (w : List Numbered) → go ls ks w ≡ on ls ks w)
      → (n : ℕ) (ls w : List Numbered) → turn L by go n ls w ≡ turn L was on n ls w
  turn-same go on h n ls [] = refl
  turn-same go on h n ls (k ∷ w) =
      ap {B = Outcome} (λ m. elim m [ results ks ↦ go ls ks (all_of k.number ks ++ w) | nothing ↦ lined L (ls ++ (k ∷ [])) (λ ms. turn L by go n ms w) | stops r ↦ refused r ]) (same k.literals)
      ∙ taken (was k.literals) (fits (lines_fit L (ls ++ (k ∷ []))) (turn-same go on h n (ls ++ (k ∷ [])) w))
    where
      fits : (b : Bool) {o p : Outcome} → o ≡ p → ◌≡◌ {A = Outcome} (elim b [ true ↦ o | false ↦ refused LineRoom ]) (elim b [ true ↦ p | false ↦ refused LineRoom ])
      fits true e = e
      fits false e = refl

      taken : (m : Reply (List Conj)) → lined L (ls ++ (k ∷ [])) (λ ms. turn L by go n ms w) ≡ lined L (ls ++ (k ∷ [])) (λ ms. turn L was on n ms w)
          → ◌≡◌ {A = Outcome} (elim m [ results ks ↦ go ls ks (all_of k.number ks ++ w) | nothing ↦ lined L (ls ++ (k ∷ [])) (λ ms. turn L by go n ms w) | stops r ↦ refused r ])
          (elim m [ results ks ↦ on ls ks (all_of k.number ks ++ w) | nothing ↦ lined L (ls ++ (k ∷ [])) (λ ms. turn L was on n ms w) | stops r ↦ refused r ])
      taken nothing line = line
      taken (results ks) line = h ls ks (all_of k.number ks ++ w)
      taken (stops r) line = refl

  from-same : (d n : ℕ) (ls w : List Numbered) → run_from L by d n ls w ≡ run_from L was d n ls w
  unfolding run_from
  from-same zero n ls w = turn-same (λ ms ks v. refused StepLimit) (λ ms ks v. refused StepLimit) (λ ms ks v. refl) n ls w
  from-same (suc d) n ls w = turn-same (λ ms ks v. checked L ks v (run_from L by d (suc n) ms)) (λ ms ks v. checked L ks v (run_from L was d (suc n) ms)) (λ ms ks v. passed (any_long L ks) LongResult (passed (ltb L.room (waiting_size v)) LongWaiting (from-same d (suc n) ms v))) n ls w
    where
      passed : (b : Bool) (r : Refusal) {o p : Outcome} → o ≡ p → ◌≡◌ {A = Outcome} (elim b [ true ↦ refused r | false ↦ o ]) (elim b [ true ↦ refused r | false ↦ p ])
      passed true r e = refl
      passed false r e = e

  pub run-same-steps : (w : List Conj) → run_by L by w ≡ run_by L was w
  unfolding run_by
  run-same-steps w = from-same L.steps 0 [] (numbered 0 w)

-- "Questions with u = 0 answer as before": the same lines and steps, or the same refusal, under any limits.
pub run-as-before : (σ : Signature) → σ.unordered ≡ 0 → (L : Limits) (w : List Conj) → run L σ w ≡ run_by L ordered_step w
unfolding run
run-as-before σ ordered L w = run-same-steps (step σ) ordered_step (step-as-before σ ordered) L w

-- ---- in words

of-asked : (L : Limits) (ws : List ℕ) → get_or ws 0 0 < 256 → (a : Asked) → read_question L ws ≡ a → solving_of L a ≡ ordered_solving_of L a
of-asked L ws few (asks q) e =
    ap ran (run-as-before (signature q.counts) (ap (λ (n : Counts). n.unordered) (passed L ws q e).counts ∙ (first-word-before ws few).1) L q.alternatives)
of-asked L ws few (refuses r) e = refl

-- So a question whose first word is a number of symbols alone, as it was written before, is solved as before, to the same lines with the same marks, in
-- the same steps, or to the same refusal.
pub solving-as-before : (L : Limits) (work answer : ℕ) (ws : List ℕ) → get_or ws 0 0 < 256 → solving L work answer ws ≡ ordered_solving L work answer ws
unfolding solving ordered_solving
solving-as-before L work answer ws few = long (ltb work L.room) (ltb answer L.room)
  where
    long : (a b : Bool)
        → ◌≡◌ {A = Solving} (elim a [ true ↦ unread ShortSlice | false ↦ elim b [ true ↦ unread ShortSlice | false ↦ solving_of L (read_question L ws) ] ])
        (elim a [ true ↦ unread ShortSlice | false ↦ elim b [ true ↦ unread ShortSlice | false ↦ ordered_solving_of L (read_question L ws) ] ])
    long true b = refl
    long false true = refl
    long false false = of-asked L ws few (read_question L ws) refl
