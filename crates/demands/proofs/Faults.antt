-- Which number is given, and when: a question is refused exactly for its first fault, and a number has one place.
use Prim.Native.Nat.{ℕ, ◌+◌, ◌<◌, ◌≤◌}
use mathlib.Core.Path.{◌≡◌, refl, sym, ap, ◌∙◌}
use mathlib.Core.Logic.{◌⊎◌, inl, inr}
use mathlib.Core.Bool.{Bool, true, false, ◌&&◌}
use mathlib.Core.List.{List}
use native.Mathlib.Omega.{arith}
use borrow.Author.Tests.{leb-true, leb-false}
use lib.Dec.{leb, eqb}
use lib.ListN.{length, drop}
use Rattle.language.specs.declared.Refusal.{Refusal}
use Rattle.language.specs.declared.Refusal.TheVariants.{QuestionLength, CountRange, BadOffset, NotLiterals, Undeclared}
use Rattle.language.specs.Limits.{desk}
use Rattle.language.specs.Kinds.{pick}
use Rattle.language.specs.Numbers.{number_of, place_of}
use Rattle.language.specs.Trees.{Conj, Counts}
use Rattle.language.specs.Reading.{Got, got, stop}
use Rattle.language.specs.Undeclared.{undeclared_at}
use Rattle.language.specs.Question.{Asked, asks, refuses, read_question, counts_of, alternatives_of, body_at, length_fits, counts_fit, laid_out, parts, read_all, declared_q}
use Rattle.language.proofs.Bools.{both_true}
use Rattle.demands.specs.Table.{OutOfRange, QuestionFault, bad-length, bad-count, bad-offset, not-literals, undeclared, First}

-- ---- tests and what they say

-- one of two tests fails
pub either-false : (a b : Bool) → (a && b) ≡ false → (a ≡ false) ⊎ (b ≡ false)
either-false true b e = inr e
either-false false b e = inl refl

-- a test of two numbers
over-bound : (a b : ℕ) → leb a b ≡ false → b < a
over-bound a b e = leb-false a b e

within-bound : (a b : ℕ) → leb a b ≡ true → b < a → ⊥
within-bound a b e l = let p : a ≤ b = leb-true a b e in omega arith

length-off : (ws : List ℕ) → length_fits desk ws ≡ false → (length ws < 6) ⊎ (desk.question < length ws)
unfolding length_fits
length-off ws e = go (either-false (leb 6 (length ws)) (leb (length ws) desk.question) e)
  where
    go : (leb 6 (length ws) ≡ false) ⊎ (leb (length ws) desk.question ≡ false) → (length ws < 6) ⊎ (desk.question < length ws)
    go (inl f) = inl (over-bound 6 (length ws) f)
    go (inr f) = inr (over-bound (length ws) desk.question f)

length-on : (ws : List ℕ) → length_fits desk ws ≡ true → (length ws < 6) ⊎ (desk.question < length ws) → ⊥
unfolding length_fits
length-on ws e (inl l) = within-bound 6 (length ws) (both_true (leb 6 (length ws)) (leb (length ws) desk.question) e).0 l
length-on ws e (inr l) = within-bound (length ws) desk.question (both_true (leb 6 (length ws)) (leb (length ws) desk.question) e).1 l

module _ (n : Counts) (c : ℕ) where
  -- the tests of the counts, up to each of them
  abbrev t₂ : Bool
  t₂ = leb 1 n.symbols && leb n.symbols desk.each

  abbrev t₂₂ : Bool
  t₂₂ = t₂ && leb n.unordered n.symbols

  abbrev t₃ : Bool
  t₃ = t₂₂ && leb n.terms desk.each

  abbrev t₄ : Bool
  t₄ = t₃ && leb n.hedges desk.each

  abbrev t₅ : Bool
  t₅ = t₄ && leb n.functions desk.each

  count-off : counts_fit desk n c ≡ false → OutOfRange n c
  unfolding counts_fit
  count-off e = go₆ (either-false t₅ (leb c desk.alternatives) e)
    where
      go₂ : (leb 1 n.symbols ≡ false) ⊎ (leb n.symbols desk.each ≡ false) → OutOfRange n c
      go₂ (inl f) = inl (over-bound 1 n.symbols f)
      go₂ (inr f) = inr (inl (over-bound n.symbols desk.each f))

      go₂₂ : (t₂ ≡ false) ⊎ (leb n.unordered n.symbols ≡ false) → OutOfRange n c
      go₂₂ (inl e) = go₂ (either-false (leb 1 n.symbols) (leb n.symbols desk.each) e)
      go₂₂ (inr f) = inr (inr (inl (over-bound n.unordered n.symbols f)))

      go₃ : (t₂₂ ≡ false) ⊎ (leb n.terms desk.each ≡ false) → OutOfRange n c
      go₃ (inl e) = go₂₂ (either-false t₂ (leb n.unordered n.symbols) e)
      go₃ (inr f) = inr (inr (inr (inl (over-bound n.terms desk.each f))))

      go₄ : (t₃ ≡ false) ⊎ (leb n.hedges desk.each ≡ false) → OutOfRange n c
      go₄ (inl e) = go₃ (either-false t₂₂ (leb n.terms desk.each) e)
      go₄ (inr f) = inr (inr (inr (inr (inl (over-bound n.hedges desk.each f)))))

      go₅ : (t₄ ≡ false) ⊎ (leb n.functions desk.each ≡ false) → OutOfRange n c
      go₅ (inl e) = go₄ (either-false t₃ (leb n.hedges desk.each) e)
      go₅ (inr f) = inr (inr (inr (inr (inr (inl (over-bound n.functions desk.each f))))))

      go₆ : (t₅ ≡ false) ⊎ (leb c desk.alternatives ≡ false) → OutOfRange n c
      go₆ (inl e) = go₅ (either-false t₄ (leb n.functions desk.each) e)
      go₆ (inr f) = inr (inr (inr (inr (inr (inr (over-bound c desk.alternatives f))))))

  count-on : counts_fit desk n c ≡ true → OutOfRange n c → ⊥
  unfolding counts_fit
  count-on e =
      let (e₅, f) = both_true t₅ (leb c desk.alternatives) e in
      let (e₄, x) = both_true t₄ (leb n.functions desk.each) e₅ in
      let (e₃, h) = both_true t₃ (leb n.hedges desk.each) e₄ in
      let (e₂₂, t) = both_true t₂₂ (leb n.terms desk.each) e₃ in
      let (e₂, u) = both_true t₂ (leb n.unordered n.symbols) e₂₂ in
      let (a, s) = both_true (leb 1 n.symbols) (leb n.symbols desk.each) e₂ in
      go a s u t h x f
    where
      go : leb 1 n.symbols ≡ true → leb n.symbols desk.each ≡ true → leb n.unordered n.symbols ≡ true → leb n.terms desk.each ≡ true → leb n.hedges desk.each ≡ true
          → leb n.functions desk.each ≡ true → leb c desk.alternatives ≡ true → OutOfRange n c → ⊥
      go a s u t h x f (inl l) = within-bound 1 n.symbols a l
      go a s u t h x f (inr (inl l)) = within-bound n.symbols desk.each s l
      go a s u t h x f (inr (inr (inl l))) = within-bound n.unordered n.symbols u l
      go a s u t h x f (inr (inr (inr (inl l)))) = within-bound n.terms desk.each t l
      go a s u t h x f (inr (inr (inr (inr (inl l))))) = within-bound n.hedges desk.each h l
      go a s u t h x f (inr (inr (inr (inr (inr (inl l)))))) = within-bound n.functions desk.each x l
      go a s u t h x f (inr (inr (inr (inr (inr (inr l)))))) = within-bound c desk.alternatives f l

-- ---- the question

module _ (ws : List ℕ) where
  abbrev Fault : Refusal → Type 0
  Fault = QuestionFault ws

  -- where the tests of smaller numbers pass, a fault has at least this number
  from-2 : (d : Refusal) → Fault d → 2 ≤ number_of d
  from-2 d (bad-length e _) = let z = ap number_of e in omega arith
  from-2 d (bad-count e _) = let z = ap number_of e in omega arith
  from-2 d (bad-offset e _) = let z = ap number_of e in omega arith
  from-2 d (not-literals n e _) = let z = ap number_of e in omega arith
  from-2 d (undeclared e _ _ _ _) = let z = ap number_of e in omega arith

  module _ (l : length_fits desk ws ≡ true) where
    from-3 : (d : Refusal) → Fault d → 3 ≤ number_of d
    from-3 d (bad-length e o) = absurd (length-on ws l o)
    from-3 d (bad-count e _) = let z = ap number_of e in omega arith
    from-3 d (bad-offset e _) = let z = ap number_of e in omega arith
    from-3 d (not-literals n e _) = let z = ap number_of e in omega arith
    from-3 d (undeclared e _ _ _ _) = let z = ap number_of e in omega arith

    module _ (c : counts_fit desk (counts_of ws) (alternatives_of ws) ≡ true) where
      from-4 : (d : Refusal) → Fault d → 4 ≤ number_of d
      from-4 d (bad-length e o) = absurd (length-on ws l o)
      from-4 d (bad-count e o) = absurd (count-on (counts_of ws) (alternatives_of ws) c o)
      from-4 d (bad-offset e _) = let z = ap number_of e in omega arith
      from-4 d (not-literals n e _) = let z = ap number_of e in omega arith
      from-4 d (undeclared e _ _ _ _) = let z = ap number_of e in omega arith

      module _ (o : laid_out 5 (alternatives_of ws) ws ≡ true) where
        no_bool : {A : Type 0} {b : Bool} → b ≡ true → b ≡ false → A
        no_bool p q = absurd (let z : ◌≡◌ {A = ℕ} 0 1 = cc in omega arith)

        no-reading : {A : Type 0} {x : Got (List Conj)} {ks : List Conj} {m n : ℕ} → x ≡ got ks m → x ≡ stop n → A
        no-reading p q = absurd (let z : ◌≡◌ {A = ℕ} 0 1 = cc in omega arith)

        from-5 : (d : Refusal) → Fault d → 5 ≤ number_of d
        from-5 d (bad-length e x) = absurd (length-on ws l x)
        from-5 d (bad-count e x) = absurd (count-on (counts_of ws) (alternatives_of ws) c x)
        from-5 d (bad-offset e x) = no_bool o x
        from-5 d (not-literals n e _) = let z = ap number_of e in omega arith
        from-5 d (undeclared e _ _ _ _) = let z = ap number_of e in omega arith

        module _ (ks : List Conj) (k : ℕ) (r : read_all desk (parts 5 (alternatives_of ws) ws) ≡ got ks k) where
          from-6 : (d : Refusal) → Fault d → 6 ≤ number_of d
          from-6 d (bad-length e x) = absurd (length-on ws l x)
          from-6 d (bad-count e x) = absurd (count-on (counts_of ws) (alternatives_of ws) c x)
          from-6 d (bad-offset e x) = no_bool o x
          from-6 d (not-literals n e x) = no-reading r x
          from-6 d (undeclared e _ _ _ _) = let z = ap number_of e in omega arith

          none_left : declared_q (counts_of ws) ks ≡ true → (d : Refusal) → Fault d → ⊥
          none_left u d (bad-length e x) = length-on ws l x
          none_left u d (bad-count e x) = count-on (counts_of ws) (alternatives_of ws) c x
          none_left u d (bad-offset e x) = no_bool o x
          none_left u d (not-literals n e x) = no-reading r x
          none_left u d (undeclared e js j x y) = let z : ks ≡ js = same r x in no_bool u (rw z y)
            where
              same : {x : Got (List Conj)} {i j : List Conj} {m n : ℕ} → x ≡ got i m → x ≡ got j n → i ≡ j
              same p q = cc

  first_of : (e : Refusal) → Fault e → ((d : Refusal) → Fault d → number_of e ≤ number_of d) → First Fault e
  first_of e h b = record { here = h; none_before = λ d p f. let q = b d f in omega arith }

  -- the first fault, or none
  abbrev pub Judged : Asked → Type 0
  Judged (asks q) = (d : Refusal) → Fault d → ⊥
  Judged (refuses r) = First Fault r

  -- the place of an undeclared number
  abbrev missing : ℕ
  missing = body_at ws + undeclared_at desk (counts_of ws) (drop (body_at ws) ws)

  -- what each test leads to
  abbrev at-declared : List Conj → Bool → Asked
  at-declared ks b = elim b [ false ↦ refuses (Undeclared missing) | true ↦ asks (record { counts = counts_of ws; alternatives = ks }) ]

  abbrev at_read : Got (List Conj) → Asked
  at_read g = elim g [ stop n ↦ refuses (NotLiterals (body_at ws + n)) | got ks n ↦ at-declared ks (declared_q (counts_of ws) ks) ]

  abbrev at-laid : Bool → Asked
  at-laid b = elim b [ false ↦ refuses BadOffset | true ↦ at_read (read_all desk (parts 5 (alternatives_of ws) ws)) ]

  abbrev at-counts : Bool → Asked
  at-counts b = elim b [ false ↦ refuses CountRange | true ↦ at-laid (laid_out 5 (alternatives_of ws) ws) ]

  abbrev at_length : Bool → Asked
  at_length b = elim b [ false ↦ refuses QuestionLength | true ↦ at-counts (counts_fit desk (counts_of ws) (alternatives_of ws)) ]

  pub question-judged : Judged (read_question desk ws)
  unfolding read_question
  question-judged = on-length (length_fits desk ws) refl
    where
      on-declared : (l : length_fits desk ws ≡ true) (c : counts_fit desk (counts_of ws) (alternatives_of ws) ≡ true) (o : laid_out 5 (alternatives_of ws) ws ≡ true) (ks : List Conj) (k : ℕ)
          → read_all desk (parts 5 (alternatives_of ws) ws) ≡ got ks k → (b : Bool) → declared_q (counts_of ws) ks ≡ b → Judged (at-declared ks b)
      on-declared l c o ks k r false d = first_of (Undeclared missing) (undeclared refl ks k r d) (from-6 l c o ks k r)
      on-declared l c o ks k r true d = none_left l c o ks k r d

      on_read : (l : length_fits desk ws ≡ true) (c : counts_fit desk (counts_of ws) (alternatives_of ws) ≡ true) (o : laid_out 5 (alternatives_of ws) ws ≡ true)
          → (g : Got (List Conj)) → read_all desk (parts 5 (alternatives_of ws) ws) ≡ g → Judged (at_read g)
      on_read l c o (stop n) r = first_of (NotLiterals (body_at ws + n)) (not-literals n refl r) (from-5 l c o)
      on_read l c o (got ks k) r = on-declared l c o ks k r (declared_q (counts_of ws) ks) refl

      on-laid : (l : length_fits desk ws ≡ true) (c : counts_fit desk (counts_of ws) (alternatives_of ws) ≡ true) (b : Bool) → laid_out 5 (alternatives_of ws) ws ≡ b → Judged (at-laid b)
      on-laid l c false o = first_of BadOffset (bad-offset refl o) (from-4 l c)
      on-laid l c true o = on_read l c o (read_all desk (parts 5 (alternatives_of ws) ws)) refl

      on-counts : (l : length_fits desk ws ≡ true) (b : Bool) → counts_fit desk (counts_of ws) (alternatives_of ws) ≡ b → Judged (at-counts b)
      on-counts l false c = first_of CountRange (bad-count refl (count-off (counts_of ws) (alternatives_of ws) c)) (from-3 l)
      on-counts l true c = on-laid l c (laid_out 5 (alternatives_of ws) ws) refl

      on-length : (b : Bool) → length_fits desk ws ≡ b → Judged (at_length b)
      on-length false l = first_of QuestionLength (bad-length refl (length-off ws l)) from-2
      on-length true l = on-counts l (counts_fit desk (counts_of ws) (alternatives_of ws)) refl

  -- ---- a number has one place

  abbrev stopped : Got (List Conj) → ℕ
  stopped (stop n) = n
  stopped (got ks n) = 0

  abbrev pub place_for : ℕ → ℕ
  place_for n = pick (eqb n 5) (body_at ws + stopped (read_all desk (parts 5 (alternatives_of ws) ws))) (pick (eqb n 6) missing 0)

  pub fault-place : (d : Refusal) → QuestionFault ws d → place_of d ≡ place_for (number_of d)
  fault-place d (bad-length e _) = ap place_of e ∙ sym (ap (λ r. place_for (number_of r)) e)
  fault-place d (bad-count e _) = ap place_of e ∙ sym (ap (λ r. place_for (number_of r)) e)
  fault-place d (bad-offset e _) = ap place_of e ∙ sym (ap (λ r. place_for (number_of r)) e)
  fault-place d (not-literals n e r) = ap place_of e ∙ ap (λ g. body_at ws + stopped g) (sym r) ∙ sym (ap (λ r. place_for (number_of r)) e)
  fault-place d (undeclared e _ _ _ _) = ap place_of e ∙ sym (ap (λ r. place_for (number_of r)) e)
