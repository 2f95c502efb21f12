-- A step at a named place, by the literal that stands there.
use Prim.Native.Nat.{ℕ, zero, suc, ◌<◌, ◌≤◌}
use native.Mathlib.Omega.{arith}
use mathlib.Core.Path.{◌≡◌, refl, sym, ap, ◌∙◌}
use mathlib.Core.Bool.{Bool, true, false, true≢false}
use mathlib.Core.List.{List, [], ◌∷◌, ◌++◌, map, append_assoc, append-nil}
use mathlib.Core.Option.{Option, none, some}
use lib.Dec.{eqb, ltb}
use lib.ListN.{length, length-append}
use borrow.Author.Tests.{ne_eqb, ltb-true, ltb-false}
use Rattle.std.specs.Prelude.{Result, Ok, Err}
use Rattle.language.specs.declared.Refusal.{Refusal}
use Rattle.language.specs.declared.Refusal.TheVariants.{BadStep, LongWalk}
use Rattle.language.specs.declared.Signature.{Signature}
use Rattle.language.specs.Limits.{desk}
use Rattle.language.specs.Fine.{fine_conj}
use Rattle.language.specs.Kinds.{pick}
use Rattle.language.specs.Trees.{Literal, eqn, mem, Conj}
use Rattle.language.specs.Writing.{literal_words, conj_words}
use Rattle.rules.specs.Reply.{Reply, nothing, results, stops}
use Rattle.rules.specs.Rules.{Answer, Rule, on_eqn, on_mem, on_pair, rules}
use Rattle.rules.specs.Ranks.{at_eqn, at_mem, answer_at, eqn_answer, mem_answer}
use Rattle.rules.specs.Step.{or_next, each, placed, results_at, Spot, literal_at, rule_at, step_at}
use Rattle.rules.specs.Places.{at_clash}
use Rattle.clash.specs.declared.Verdict.{Verdict}
use Rattle.clash.specs.declared.Verdict.TheVariants.{Shares, Clashes, Long}
use Rattle.clashes.specs.Pairs.{reply_of, answer_of}
use Rattle.clashes.proofs.Replies.{clash-replies}
use Rattle.views.specs.Standing.{LiteralAt}
use Rattle.views.proofs.LiteralWalks.{literal-some, stands_here}
use Rattle.literals.specs.Places.{words_before}
use Rattle.naming.specs.Naming.{makes, place_at, named_at}
use Rattle.naming.proofs.Laws.{unmade}
use Rattle.replay.specs.Replay.{Triple}
use Rattle.search.specs.declared.Best.{Best}
use Rattle.search.specs.Ranking.{pair_at, pair_answer, side_results}
use Rattle.telling.specs.Telling.{triple_of, named_reply, named, chosen_of, chosen_by, Applies, ClashNamed, unnamed, too_long, clashes}

-- ---- the literal of a number

-- it stands there between the others
pub record Standing (i : ℕ) (c : Conj) : Type 0 where
  pub before : Conj
  pub l : Literal
  pub behind : Conj
  pub whole : c ≡ before ++ (l ∷ behind)
  pub place : words_before i c ≡ length (conj_words before)
  pub count : i ≡ length before

pub stands : (i : ℕ) (c : Conj) → words_before i c < length (conj_words c) → Standing i c
stands i [] h = absurd (omega arith)
stands zero (l ∷ c) h = record { before = []; l = l; behind = c; whole = refl; place = refl; count = refl }
stands (suc i) (l ∷ c) h =
    let s = stands i c (let z = length-append (literal_words l) (conj_words c) in omega arith) in
    record {
      before = l ∷ s.before;
      l = s.l;
      behind = s.behind;
      whole = ap (λ k. l ∷ k) s.whole;
      place = let z = s.place in let y = length-append (literal_words l) (conj_words s.before) in omega arith;
      count = ap suc s.count;
    }

-- there is none
none-there : (swap : Bool) (rule : Rule) (i : ℕ) (before c : Conj) → length (conj_words c) ≤ words_before i c → literal_at swap rule i before c ≡ nothing
none-there swap rule i before [] h = refl
none-there swap rule zero before (l ∷ c) h = absurd (let z = length-append (literal_words l) (conj_words c) in let y = literal-some l in omega arith)
none-there swap rule (suc i) before (l ∷ c) h = none-there swap rule i (before ++ (l ∷ [])) c (let z = length-append (literal_words l) (conj_words c) in omega arith)

rule-none : (swap : Bool) (i n : ℕ) (rs : List Rule) (c : Conj) → length (conj_words c) ≤ words_before i c → rule_at swap i n rs c ≡ nothing
rule-none swap i n [] c h = refl
rule-none swap i zero (rule ∷ rs) c h = none-there swap rule i [] c h
rule-none swap i (suc n) (rule ∷ rs) c h = rule-none swap i n rs c h

-- the rule at it
literal-here : (swap : Bool) (rule : Rule) (i : ℕ) (done before : Conj) (l : Literal) (behind : Conj) → i ≡ length before
    → literal_at swap rule i done (before ++ (l ∷ behind)) ≡ results_at swap rule (done ++ before) l behind
literal-here swap rule zero done [] l behind e = ap (λ d. results_at swap rule d l behind) (sym (append-nil done))
literal-here swap rule zero done (m ∷ before) l behind e = absurd (omega arith)
literal-here swap rule (suc i) done [] l behind e = absurd (omega arith)
literal-here swap rule (suc i) done (m ∷ before) l behind e =
    literal-here swap rule i (done ++ (m ∷ [])) before l behind (omega arith) ∙ ap (λ d. results_at swap rule d l behind) (append_assoc done (m ∷ []) before)

rule-here : (swap : Bool) (i n : ℕ) (rs : List Rule) (before : Conj) (l : Literal) (behind : Conj) → i ≡ length before
    → rule_at swap i n rs (before ++ (l ∷ behind)) ≡ place_at rs n swap before l behind
rule-here swap i n [] before l behind e = refl
rule-here swap i zero (rule ∷ rs) before l behind e = literal-here swap rule i [] before l behind e
rule-here swap i (suc n) (rule ∷ rs) before l behind e = rule-here swap i n rs before l behind e

module _ (σ : Signature) (n i : ℕ) (swap : Bool) where
  abbrev spot : Spot
  spot = record { rule = n; literal = i; swapped = swap }

  pub step-nowhere : (c : Conj) → length (conj_words c) ≤ words_before i c → step_at σ spot c ≡ nothing
  unfolding step_at
  step-nowhere c h = rule-none swap i n (rules σ) c h

  pub step-here : (c : Conj) (s : Standing i c) → step_at σ spot c ≡ named_at σ swap n s.before s.l s.behind
  unfolding step_at named_at
  step-here c s = ap (rule_at swap i n (rules σ)) s.whole ∙ rule-here swap i n (rules σ) s.before s.l s.behind s.count

-- ---- its results are those of the side

module _ (before behind : Conj) where
  abbrev side_of : List Rule → ℕ → Bool → Literal → Answer
  side_of rs n swap (eqn l r) = pick swap (answer_at (λ rule. at_eqn rule (before ++ behind) r l) rs n) (answer_at (λ rule. at_eqn rule (before ++ behind) l r) rs n)
  side_of rs n swap (mem h R) = answer_at (λ rule. at_mem rule (before ++ behind) h R) rs n

  abbrev both : List Rule → ℕ → Bool → Literal → Reply (List Conj)
  both rs n swap l = or_next (placed before behind (side_of rs n swap l)) (λ _. each (map (λ (k : Conj). before ++ k)) (pair_at rs n l behind))

  no : {A : Type 0} {ks : List Conj} → ◌≡◌ {A = Reply (List Conj)} nothing (results ks) → A
  no e = absurd (let z : ◌≡◌ {A = ℕ} 0 1 = cc in omega arith)

  first_of : (m : Reply (List Conj)) (k : Unit {0} → Reply (List Conj)) (ks : List Conj) → m ≡ results ks → or_next m k ≡ results ks
  first_of m k ks e = ap (λ m. or_next m k) e

  sides-make : (rs : List Rule) (n : ℕ) (swap : Bool) (l : Literal) (ks : List Conj) → place_at rs n swap before l behind ≡ results ks → both rs n swap l ≡ results ks
  sides-make [] n swap l ks e = no e
  sides-make (on_eqn rule ∷ rs) zero true (eqn l r) ks e = first_of _ _ ks e
  sides-make (on_eqn rule ∷ rs) zero false (eqn l r) ks e = first_of _ _ ks e
  sides-make (on_eqn rule ∷ rs) zero true (mem h R) ks e = no e
  sides-make (on_eqn rule ∷ rs) zero false (mem h R) ks e = no e
  sides-make (on_mem rule ∷ rs) zero true (eqn l r) ks e = no e
  sides-make (on_mem rule ∷ rs) zero false (eqn l r) ks e = no e
  sides-make (on_mem rule ∷ rs) zero true (mem h R) ks e = no e
  sides-make (on_mem rule ∷ rs) zero false (mem h R) ks e = first_of _ _ ks e
  sides-make (on_pair rule ∷ rs) zero true l ks e = no e
  sides-make (on_pair rule ∷ rs) zero false (eqn l r) ks e = e
  sides-make (on_pair rule ∷ rs) zero false (mem h R) ks e = e
  sides-make (rule ∷ rs) (suc n) true (eqn l r) ks e = sides-make rs n true (eqn l r) ks e
  sides-make (rule ∷ rs) (suc n) false (eqn l r) ks e = sides-make rs n false (eqn l r) ks e
  sides-make (rule ∷ rs) (suc n) true (mem h R) ks e = sides-make rs n true (mem h R) ks e
  sides-make (rule ∷ rs) (suc n) false (mem h R) ks e = sides-make rs n false (mem h R) ks e

  pub named-side : (σ : Signature) (swap : Bool) (n : ℕ) (l : Literal) (ks : List Conj) → named_at σ swap n before l behind ≡ results ks → side_results σ swap n before l behind ≡ results ks
  unfolding named_at eqn_answer mem_answer pair_answer
  named-side σ swap n (eqn l r) ks e = sides-make (rules σ) n swap (eqn l r) ks e
  named-side σ swap n (mem h R) ks e = sides-make (rules σ) n swap (mem h R) ks e

-- ---- the clash

module _ (σ : Signature) (before : Conj) (l : Literal) (behind : Conj) where
  -- it has no other side
  clash-turned : (swap : Bool) → swap ≡ true → named_at σ swap at_clash before l behind ≡ nothing
  unfolding named_at
  clash-turned swap e = ap (λ w. place_at (rules σ) at_clash w before l behind) e

  clash-replied : (swap : Bool) (v : Verdict) → swap ≡ false → reply_of σ l behind ≡ v → named_at σ swap at_clash before l behind ≡ each (map (λ (k : Conj). before ++ k)) (answer_of v)
  unfolding named_at
  clash-replied swap v e d = ap (λ w. place_at (rules σ) at_clash w before l behind) e ∙ ap (each (map (λ (k : Conj). before ++ k))) (clash-replies σ l behind ∙ ap answer_of d)

  module _ (at : ℕ) (swap : Bool) where
    pub clash-other-side : swap ≡ true → ClashNamed σ at swap before l behind (Err BadStep)
    clash-other-side e = unnamed refl (clash-turned swap e)

    module _ (e : swap ≡ false) (v : Verdict) (f : v ≡ reply_of σ l behind) where
      pub clash-shares : v ≡ Shares → ClashNamed σ at swap before l behind (Err BadStep)
      clash-shares d = unnamed refl (clash-replied swap Shares e (sym f ∙ d))

      pub clash-long : v ≡ Long → ClashNamed σ at swap before l behind (Err LongWalk)
      clash-long d = too_long refl (clash-replied swap Long e (sym f ∙ d))

      pub clash-here : v ≡ Clashes → ClashNamed σ at swap before l behind (Ok (record { rank = at_clash; at = at; swap = swap }))
      clash-here d = clashes refl (clash-replied swap Clashes e (sym f ∙ d))

-- ---- what three words name

abbrev side-told : Bool → Bool → ℕ → ℕ → Option Spot
side-told zero? one? n i = pick zero? (some (record { rule = n; literal = i; swapped = false })) (pick one? (some (record { rule = n; literal = i; swapped = true })) none)

pub no-side : (σ : Signature) (n i d : ℕ) (c : Conj) → 1 < d → named_reply σ (triple_of n i d) c ≡ nothing
no-side σ n i d c h =
    ap {B = Reply (List Conj)} (λ b. elim (side-told b (eqb d 1) n i) [ none ↦ nothing | some s ↦ step_at σ s c ]) (ne_eqb d 0 (λ e. omega arith))
    ∙ ap {B = Reply (List Conj)} (λ b. elim (side-told false b n i) [ none ↦ nothing | some s ↦ step_at σ s c ]) (ne_eqb d 1 (λ e. omega arith))

pub a-side : (σ : Signature) (n i d : ℕ) (c : Conj) → d ≤ 1 → named_reply σ (triple_of n i d) c ≡ step_at σ (record { rule = n; literal = i; swapped = eqb d 1 }) c
a-side σ n i zero c h = refl
a-side σ n i (suc zero) c h = refl
a-side σ n i (suc (suc d)) c h = absurd (omega arith)

-- ---- put together

makes-results : (m : Reply (List Conj)) → makes m ≡ true → (ks : List Conj) × (m ≡ results ks)
makes-results nothing e = absurd (true≢false (sym e))
makes-results (results ks) e = (ks, refl)
makes-results (stops r) e = absurd (true≢false (sym e))

-- the step is the one that is named
pub chosen_is : (σ : Signature) (c : Conj) (t : Triple) (m : Reply (List Conj)) → named_reply σ t c ≡ m → chosen_of (named c t) m ≡ chosen_by σ c t
unfolding chosen_by
chosen_is σ c t m e = sym (ap (chosen_of (named c t)) e)

module _ (σ : Signature) (k : List ℕ) (c : Conj) (fine : fine_conj desk c) (words : k ≡ conj_words c) (n i d rank at : ℕ) (h : d ≤ 1) (en : rank ≡ n) (ea : at ≡ words_before i c) where
  abbrev t : Triple
  t = triple_of n i d

  best : record { rank = rank; at = at; swap = eqb d 1 } ≡ named c t
  best = ap (λ m. record { rank = m; at = at; swap = eqb d 1 }) en ∙ ap (λ m. record { rank = n; at = m; swap = eqb d 1 }) ea

  pub past_all : length k ≤ at → Err BadStep ≡ chosen_by σ c t
  past_all g = chosen_is σ c t nothing (a-side σ n i d c h ∙ step-nowhere σ n i (eqb d 1) c (let z = ap length words in omega arith))

  module _ (g : at < length k) where
    pub here : Standing i c
    here = stands i c (let z = ap length words in omega arith)

    pub literal-at : LiteralAt k at here.before here.l here.behind
    literal-at = stands_here k c fine words at here.before here.l here.behind here.whole (ea ∙ here.place)

    reply-is : named_reply σ t c ≡ named_at σ (eqb d 1) rank here.before here.l here.behind
    reply-is = a-side σ n i d c h ∙ step-here σ n i (eqb d 1) c here ∙ ap (λ m. named_at σ (eqb d 1) m here.before here.l here.behind) (sym en)

    -- the clash
    pub told-clash : (r : Result Best Refusal) → rank ≡ at_clash
        → ((before : Conj) (l : Literal) (behind : Conj) → LiteralAt k at before l behind → ClashNamed σ at (eqb d 1) before l behind r) → r ≡ chosen_by σ c t
    told-clash r e f = go (f here.before here.l here.behind literal-at)
      where
        reply : named_reply σ t c ≡ named_at σ (eqb d 1) at_clash here.before here.l here.behind
        reply = reply-is ∙ ap (λ m. named_at σ (eqb d 1) m here.before here.l here.behind) e

        go : ClashNamed σ at (eqb d 1) here.before here.l here.behind r → r ≡ chosen_by σ c t
        go (unnamed x m) = x ∙ chosen_is σ c t nothing (reply ∙ m)
        go (too_long x m) = x ∙ chosen_is σ c t (stops LongWalk) (reply ∙ m)
        go (clashes x m) = x ∙ ap {B = Result Best Refusal} (λ m. Ok (record { rank = m; at = at; swap = eqb d 1 })) (sym e) ∙ ap {B = Result Best Refusal} Ok best ∙ chosen_is σ c t (results []) (reply ∙ m)

    module _ (b : Bool) (f : (before : Conj) (l : Literal) (behind : Conj) → LiteralAt k at before l behind → b ≡ makes (named_at σ (eqb d 1) rank before l behind)) where
      pub told_named : b ≡ true → Ok (record { rank = rank; at = at; swap = eqb d 1 }) ≡ chosen_by σ c t
      told_named e =
          let (ks, m) = makes-results (named_at σ (eqb d 1) rank here.before here.l here.behind) (sym (f here.before here.l here.behind literal-at) ∙ e) in
          ap {B = Result Best Refusal} Ok best ∙ chosen_is σ c t (results ks) (reply-is ∙ m)

      pub told-wrong : (rank ≡ at_clash → ⊥) → b ≡ false → Err BadStep ≡ chosen_by σ c t
      told-wrong z e = chosen_is σ c t nothing (reply-is ∙ unmade here.before here.behind σ rank z here.l (eqb d 1) (sym (f here.before here.l here.behind literal-at) ∙ e))

pub no-such-side : (σ : Signature) (c : Conj) (n i d : ℕ) → 1 < d → Err BadStep ≡ chosen_by σ c (triple_of n i d)
no-such-side σ c n i d h = chosen_is σ c (triple_of n i d) nothing (no-side σ n i d c h)

-- ---- what is named applies

module _ (σ : Signature) (c : Conj) (t : Triple) (ks : List Conj) (e : named_reply σ t c ≡ results ks) where
  clashing : {A : Type 0} → named_reply σ t c ≡ nothing → A
  clashing d = absurd (let z = sym d ∙ e in let y : ◌≡◌ {A = ℕ} 0 1 = cc in omega arith)

  module _ (h : t.side ≤ 1) where
    abbrev side : Bool
    side = eqb t.side 1

    by_place : (b : Bool) → ltb (words_before t.literal c) (length (conj_words c)) ≡ b → Applies σ c (named c t) ks
    by_place false d = clashing (a-side σ t.rule t.literal t.side c h ∙ step-nowhere σ t.rule t.literal side c (ltb-false _ _ d))
    by_place true d =
        let s = stands t.literal c (ltb-true _ _ d) in
        record {
          before = s.before;
          l = s.l;
          behind = s.behind;
          whole = s.whole;
          place = s.place;
          makes =
              named-side s.before s.behind σ side t.rule s.l ks
              (sym (step-here σ t.rule t.literal side c s) ∙ sym (a-side σ t.rule t.literal t.side c h) ∙ e);
        }

  by_side : (b : Bool) → ltb 1 t.side ≡ b → Applies σ c (named c t) ks
  by_side true d = clashing (no-side σ t.rule t.literal t.side c (ltb-true _ _ d))
  by_side false d = by_place (ltb-false _ _ d) (ltb (words_before t.literal c) (length (conj_words c))) refl

  -- where three words come to results, their rule applies at the literal that they name
  pub named-applies : Applies σ c (named c t) ks
  named-applies = by_side (ltb 1 t.side) refl
