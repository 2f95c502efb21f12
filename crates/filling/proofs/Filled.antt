-- Showing one value after another makes up what the words become.
use Prim.Native.Nat.{ℕ, suc, ◌+◌, ◌-◌, ◌*◌, ◌<◌, ◌≤◌}
use mathlib.Core.Path.{◌≡◌, refl, sym, ap, ◌∙◌}
use mathlib.Core.Bool.{Bool, true, false}
use mathlib.Core.List.{List, [], ◌∷◌, ◌++◌}
use mathlib.Core.Option.{Option, none, some}
use native.Mathlib.Nat.{add-zero}
use native.Mathlib.Numerals.{one-add}
use native.Mathlib.Omega.{arith}
use lib.Dec.{eqb}
use lib.ListN.{length, get_or, take, drop, length-append, length-take, length-drop, drop_of_length-le}
use lib.Seq.{get_or-drop, drop-drop, length-take-le}
use Rattle.language.specs.declared.Kind.{Kind}
use Rattle.language.specs.declared.Kind.TheVariants.{End, Term, Run, Symbol, Function, Equation, Membership, Eps, Cat, Alt, Star, Other}
use Rattle.language.specs.Limits.{desk}
use Rattle.language.specs.Kinds.{pick, kind_of}
use Rattle.language.specs.Between.{between}
use Rattle.filling.specs.Showing.{offset, ending, body_at, name_at, more, closes_on, closes, or_one, term_size, shown_on, shown, step_on, word_on, filled}

none≢ : {k : ℕ} → ◌≡◌ {A = Option ℕ} none (some k) → ⊥
none≢ e = let z : ◌≡◌ {A = ℕ} 0 1 = cc in omega arith

-- what `more` came from
fewer : (o : Option ℕ) (k : ℕ) → more o ≡ some k → (j : ℕ) × (o ≡ some j) × (k ≡ suc j)
fewer none k e = absurd (none≢ e)
fewer (some j) k e = (j, refl, cc)

module _ (t h : ℕ) (fs : List ℕ) where
  -- words that close hedges are their own
  abbrev Same : List ℕ → ℕ → Type 0
  Same ws k = (k ≤ length ws) × (filled t h fs ws ≡ take k ws ++ filled t h fs (drop k ws))

  one : (w : ℕ) (ws : List ℕ) (k : ℕ) → word_on t h fs w (kind_of desk w) ≡ w ∷ [] → Same ws k → Same (w ∷ ws) (suc k)
  unfolding filled
  one w ws k e s = (omega (arith, s.0), rw (e) (ap (λ l. w ∷ l) s.1))

  abbrev Closed : List ℕ → Type 0
  Closed ws = (d j : ℕ) → closes d ws ≡ some j → Same ws j

  closed : (d : ℕ) (ws : List ℕ) (k : ℕ) → closes d ws ≡ some k → Same ws k
  unfolding closes
  closed d [] k e = absurd (none≢ e)
  closed d (w ∷ ws) k e = on (λ d j. closed d ws j) (kind_of desk w) refl e
    where
      again : Closed ws → (d : ℕ) → word_on t h fs w (kind_of desk w) ≡ w ∷ [] → more (closes d ws) ≡ some k → Same (w ∷ ws) k
      again rest d z q = let (j, p, r) = fewer (closes d ws) k q in rw r (one w ws j z (rest d j p))

      at-end : Closed ws → (b : Bool) → word_on t h fs w (kind_of desk w) ≡ w ∷ [] → pick b (some 1) (more (closes (d - 1) ws)) ≡ some k → Same (w ∷ ws) k
      at-end rest true z q = let r : k ≡ suc 0 = cc in rw r (one w ws 0 z (omega arith, refl))
      at-end rest false z q = again rest (d - 1) z q

      on : Closed ws → (kind : Kind) → kind_of desk w ≡ kind → closes_on d kind (λ d. closes d ws) ≡ some k → Same (w ∷ ws) k
      on rest End g q = at-end rest (eqb d 1) (ap (word_on t h fs w) g) q
      on rest (Symbol f) g q = again rest (d + 1) (ap (word_on t h fs w) g) q
      on rest (Term x) g q = absurd (none≢ q)
      on rest (Run x) g q = absurd (none≢ q)
      on rest (Function x) g q = absurd (none≢ q)
      on rest Equation g q = absurd (none≢ q)
      on rest Membership g q = absurd (none≢ q)
      on rest Eps g q = absurd (none≢ q)
      on rest Cat g q = absurd (none≢ q)
      on rest Alt g q = absurd (none≢ q)
      on rest Star g q = absurd (none≢ q)
      on rest Other g q = absurd (none≢ q)

  -- a symbol's words are their own
  symbol-same : (w : ℕ) (ws : List ℕ) → word_on t h fs w (kind_of desk w) ≡ w ∷ [] → Same (w ∷ ws) (term_size (w ∷ ws))
  unfolding term_size
  symbol-same w ws e = on (closes 1 ws) refl
    where
      on : (o : Option ℕ) → closes 1 ws ≡ o → Same (w ∷ ws) (or_one 1 o)
      on none p = one w ws 0 e (omega arith, refl)
      on (some k) p = rw (one-add k) (one w ws k e (closed 1 ws k p))

  -- and it has one
  term-some : (ws : List ℕ) → 0 < term_size ws
  unfolding term_size
  term-some ws = on (closes 1 (drop 1 ws))
    where
      on : (o : Option ℕ) → 0 < or_one 1 o
      on none = omega arith
      on (some k) = omega arith

  -- ---- the first of some words

  -- what was shown, of how many words
  pub record First (us : List ℕ) (v : List ℕ) (k : ℕ) : Type 0 where
    pub on : 0 < k
    pub inside : k ≤ length us
    pub rest : v ++ filled t h fs (drop k us) ≡ filled t h fs us
    pub few : (n : ℕ) → length fs ≤ n → length us ≤ n → length v ≤ n

  part-few : (a e : ℕ) (ws : List ℕ) → length (between a e ws) ≤ length ws
  part-few a e ws = omega (arith, length-take (e - a) (drop a ws), length-drop a ws)

  body-few : (i : ℕ) → length (body_at fs i) ≤ length fs
  body-few i = part-few (offset fs i) (ending fs i - 1) fs

  name-few : (i : ℕ) → length (name_at fs i) ≤ length fs
  name-few i = part-few (offset fs i) (offset fs i + 1) fs

  first : (w : ℕ) (ws : List ℕ) → First (w ∷ ws) (shown t h fs (w ∷ ws)) (step_on (length (shown t h fs (w ∷ ws))) (kind_of desk w))
  unfolding shown filled
  first w ws = on (kind_of desk w) refl
    where
      -- a word that is its own
      own : (k : Kind) → kind_of desk w ≡ k → word_on t h fs w k ≡ w ∷ [] → First (w ∷ ws) (w ∷ []) 1
      own k g z = record { on = omega arith; inside = omega arith; rest = rw (g, z) refl; few = λ n p q. omega arith }

      value : (k : Kind) → kind_of desk w ≡ k → (v : List ℕ) → word_on t h fs w k ≡ v → length v ≤ length fs → First (w ∷ ws) v 1
      value k g v z p = record { on = omega arith; inside = omega arith; rest = rw (g, z) refl; few = λ n q r. omega arith }

      on : (k : Kind) → kind_of desk w ≡ k → First (w ∷ ws) (shown_on t h fs (w ∷ ws) k) (step_on (length (shown_on t h fs (w ∷ ws) k)) k)
      on (Term x) g = value (Term x) g (body_at fs x.0) refl (body-few x.0)
      on (Run x) g = value (Run x) g (body_at fs (t + x.0)) refl (body-few (t + x.0))
      on (Function x) g = value (Function x) g (name_at fs (t + h + x.0)) refl (name-few (t + h + x.0))
      on (Symbol f) g =
          let s = symbol-same w ws (ap (word_on t h fs w) g) in
          let n = length-take-le (term_size (w ∷ ws)) (w ∷ ws) s.0 in
          record {
            on = omega (arith, term-some (w ∷ ws));
            inside = omega (arith, s.0);
            rest = ap (λ m. take (term_size (w ∷ ws)) (w ∷ ws) ++ filled t h fs (drop m (w ∷ ws))) n ∙ sym s.1;
            few = λ m p q. omega (arith, s.0);
          }
      on End g = own End g refl
      on Equation g = own Equation g refl
      on Membership g = own Membership g refl
      on Eps g = own Eps g refl
      on Cat g = own Cat g refl
      on Alt g = own Alt g refl
      on Star g = own Star g refl
      on Other g = own Other g refl

  -- ---- the word at a place

  pub first-at : (ws : List ℕ) (at n : ℕ) → at < length ws → n ≡ length (shown t h fs (drop at ws)) → First (drop at ws) (shown t h fs (drop at ws)) (step_on n (kind_of desk (get_or ws at 0)))
  first-at ws at n p e =
      let z : get_or (drop at ws) 0 0 ≡ get_or ws at 0 = get_or-drop at ws 0 0 ∙ ap (λ i. get_or ws i 0) (add-zero at) in
      rw (e, ← z) (on (drop at ws) (omega (arith, length-drop at ws)))
    where
      on : (us : List ℕ) → 0 < length us → First us (shown t h fs us) (step_on (length (shown t h fs us)) (kind_of desk (get_or us 0 0)))
      on [] q = absurd (omega arith)
      on (u ∷ us) q = first u us

  -- ---- counting them

  pub record Counted (ws : List ℕ) (at total : ℕ) : Type 0 where
    pub inside : at ≤ length ws
    pub few : total ≤ (desk.filling + desk.question) * at
    pub same : total + length (filled t h fs (drop at ws)) ≡ length (filled t h fs ws)

  pub counted-starts : (ws : List ℕ) → Counted ws 0 0
  counted-starts ws = record { inside = omega arith; few = omega arith; same = omega arith }

  module _ {ws : List ℕ} {at total : ℕ} (c : Counted ws at total) (p : at < length ws) where
    pub counted-fits : {v : List ℕ} → length fs ≤ desk.filling → length ws ≤ desk.question → v ≡ shown t h fs (drop at ws) → (length v ≤ desk.filling + desk.question) × (total ≤ (desk.filling + desk.question) * desk.question)
    counted-fits {v} q r e =
        let f = first-at ws at (length v) p (ap length e) in
        let fits : length (shown t h fs (drop at ws)) ≤ desk.filling + desk.question = f.few (desk.filling + desk.question) (omega arith) (omega (arith, length-drop at ws)) in
        (omega (arith, ap length e), omega (arith, c.few))

    pub counted-on : {v : List ℕ} {k : ℕ} → length fs ≤ desk.filling → length ws ≤ desk.question → v ≡ shown t h fs (drop at ws) → k ≡ step_on (length v) (kind_of desk (get_or ws at 0)) → Counted ws (at + k) (total + length v) × (0 < k)
    counted-on {v} {k} q r e g =
        let f : First (drop at ws) (shown t h fs (drop at ws)) k = rw g (first-at ws at (length v) p (ap length e)) in
        let rest = ap length f.rest in
        let fits = counted-fits q r e in
        let d = length-drop at ws in (
          record {
            inside = omega (arith, f.inside);
            few = omega (arith, c.few, f.on);
            same = rw (← drop-drop k at ws) (omega (arith, c.same, ap length e, length-append (shown t h fs (drop at ws)) (filled t h fs (drop k (drop at ws)))));
          },
          f.on,
        )

  pub counted-ends : {ws : List ℕ} {at total : ℕ} → Counted ws at total → length ws ≤ at → total ≡ length (filled t h fs ws)
  unfolding filled
  counted-ends {ws} {at} c p = let z : length (filled t h fs (drop at ws)) ≡ 0 = rw (drop_of_length-le ws p) refl in omega (arith, c.same)
