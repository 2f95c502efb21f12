-- The report's words: how many they are at most, and each turn of writing their bytes.
use Prim.Native.Nat.{ℕ, suc, ◌+◌, ◌-◌, ◌*◌, ◌/◌, ◌%◌, ◌<◌, ◌≤◌}
use mathlib.Core.Path.{◌≡◌, refl, sym, ap, ap₂, subst, ◌∙◌}
use mathlib.Core.List.{List, [], ◌∷◌, ◌++◌, append-nil}
use native.Mathlib.Omega.{arith}
use native.Mathlib.Nat.{zero-add}
use native.Mathlib.Numerals.{add-one}
use borrow.Author.Tests.{eq-eqb, ne_eqb, le-leb, lt-leb, lt-ltb, le-ltb}
use lib.Dec.{eqb}
use lib.ListN.{length, get_or, take, drop, length-append, length-take, length-drop, drop_of_length-le}
use lib.Seq.{sets, drop-cons, length-sets, sets-eq, take_at}
use Rattle.std.specs.Prelude.{Result}
use Rattle.language.specs.declared.Refusal.{Refusal}
use Rattle.language.specs.declared.Kind.{Kind}
use Rattle.language.specs.declared.Kind.TheVariants.{End, Term, Run, Symbol, Function, Equation, Membership, Eps, Cat, Alt, Star, Other}
use Rattle.language.specs.Between.{between}
use Rattle.language.specs.Limits.{desk}
use Rattle.language.specs.Kinds.{pick, kind_of}
use Rattle.language.specs.Numbers.{number_of}
use Rattle.language.specs.Question.{Asked, asks, refuses}
use Rattle.language.proofs.Stores.{sets-append}
use Rattle.outcomes.specs.Numbers.{checked_numbers, checked_number}
use Rattle.reader.specs.Checking.{asked_number, asked_numbers}
use Rattle.demands.proofs.Between.{not-zero}
use Rattle.filling.specs.Showing.{offset, ending, word_on, filled, ShowsOn, Shows, Written}
use Rattle.word_bytes.specs.Bytes.{bytes_of}
use Rattle.word_bytes.proofs.Pairs.{length-bytes_of}
use Rattle.pairing.specs.Meeting.{fits, early}
use Rattle.pairing.specs.Lent.{Told, marked_from}

-- ---- how many words

module _ (t h : ℕ) (fs : List ℕ) where
  part-few : (a e : ℕ) → length (between a e fs) ≤ length fs
  part-few a e = omega (arith, length-take (e - a) (drop a fs), length-drop a fs)

  word-few : (w : ℕ) (k : Kind) → length (word_on t h fs w k) ≤ length fs + 1
  word-few w (Term x) = let z = part-few (offset fs x.0) (ending fs x.0 - 1) in omega arith
  word-few w (Run p) = let z = part-few (offset fs (t + p.0)) (ending fs (t + p.0) - 1) in omega arith
  word-few w (Function X) = let z = part-few (offset fs (t + h + X.0)) (offset fs (t + h + X.0) + 1) in omega arith
  word-few w (Symbol f) = omega arith
  word-few w End = omega arith
  word-few w Equation = omega arith
  word-few w Membership = omega arith
  word-few w Eps = omega arith
  word-few w Cat = omega arith
  word-few w Alt = omega arith
  word-few w Star = omega arith
  word-few w Other = omega arith

  pub one-few : (w : ℕ) → length (filled t h fs (w ∷ [])) ≤ length fs + 1
  unfolding filled
  one-few w = let a = length-append (word_on t h fs w (kind_of desk w)) [] in let b = word-few w (kind_of desk w) in omega arith

  pub filled-cons : (w : ℕ) (ws : List ℕ) → filled t h fs (w ∷ ws) ≡ filled t h fs (w ∷ []) ++ filled t h fs ws
  unfolding filled
  filled-cons w ws = ap (λ l. l ++ filled t h fs ws) (sym (append-nil (word_on t h fs w (kind_of desk w))))

  pub filled_none : filled t h fs [] ≡ []
  unfolding filled
  filled_none = refl

  filled-few : (ws : List ℕ) (m : ℕ) → length fs + 1 ≤ m → length (filled t h fs ws) ≤ m * length ws
  filled-few [] m p = let z = ap length filled_none in omega (arith, z)
  filled-few (w ∷ ws) m p =
      let a = ap length (filled-cons w ws) ∙ length-append (filled t h fs (w ∷ [])) (filled t h fs ws) in
      let b = one-few w in
      let c = filled-few ws m p in
      omega arith

  pub report-few : (ws : List ℕ) → length fs ≤ desk.filling → length ws ≤ desk.question → length (filled t h fs ws) ≤ (desk.filling + desk.question) * desk.question
  report-few ws p q = let z = filled-few ws (desk.filling + desk.question) (omega arith) in omega arith

  -- ---- a turn of writing

  -- the pattern's word i alone
  pub one_at : (ws : List ℕ) (i : ℕ) → i < length ws → between i (i + 1) ws ≡ get_or ws i 0 ∷ []
  one_at ws i p =
      let z : i + 1 - i ≡ 1 = omega arith in
      ap (λ n. take n (drop i ws)) z ∙ ap (take 1) (drop-cons ws i 0 p)

  pub one-shows : (ws : List ℕ) (i : ℕ) → i < length ws → Shows t h fs ws → Shows t h fs (between i (i + 1) ws)
  one-shows ws i p s = subst (Shows t h fs) (sym (one_at ws i p)) (record { each = λ j q. let z : j ≡ 0 = omega arith in subst (λ j. ShowsOn t h fs (kind_of desk (get_or (get_or ws i 0 ∷ []) j 0))) (sym z) (s.each i p) })

  pub one-fits : (ws : List ℕ) (i : ℕ) → i < length ws → length (filled t h fs (between i (i + 1) ws)) ≤ length fs + 1
  one-fits ws i p = rw (one_at ws i p) (one-few (get_or ws i 0))

  here : (ws : List ℕ) (i : ℕ) → i < length ws → filled t h fs (drop i ws) ≡ filled t h fs (between i (i + 1) ws) ++ filled t h fs (drop (i + 1) ws)
  here ws i p = ap (filled t h fs) (drop-cons ws i 0 p) ∙ filled-cons (get_or ws i 0) (drop (suc i) ws) ∙ ap₂ (λ (u : List ℕ) (j : ℕ). filled t h fs u ++ filled t h fs (drop j ws)) (sym (one_at ws i p)) (sym (add-one i))

bytes-append : (us vs : List ℕ) → bytes_of (us ++ vs) ≡ bytes_of us ++ bytes_of vs
unfolding bytes_of
bytes-append [] vs = refl
bytes-append (u ∷ us) vs = ap (λ (l : List ℕ). (u % 256) ∷ ((u / 256) ∷ l)) (bytes-append us vs)

-- the room, when i words of the pattern are written up to the place `to`
pub record Writing (t h : ℕ) (fs ws room : List ℕ) (at i to : ℕ) (new : List ℕ) : Type 0 where
  pub inside : i ≤ length ws
  pub len : length new ≡ length room
  pub place : to + length (filled t h fs (drop i ws)) ≡ at + length (filled t h fs ws)
  pub same : sets new (2 * to) (bytes_of (filled t h fs (drop i ws))) ≡ sets room (2 * at) (bytes_of (filled t h fs ws))

module _ (t h : ℕ) (fs ws room : List ℕ) (at : ℕ) where
  pub writing-starts : Writing t h fs ws room at 0 at room
  writing-starts = record { inside = omega arith; len = refl; place = refl; same = refl }

  module _ (i to : ℕ) (new : List ℕ) (x : Writing t h fs ws room at i to new) (p : i < length ws) where
    abbrev value : List ℕ
    value = filled t h fs (between i (i + 1) ws)

    abbrev rest : List ℕ
    rest = filled t h fs (drop (i + 1) ws)

    sum : length (filled t h fs (drop i ws)) ≡ length value + length rest
    sum = ap length (here t h fs ws i p) ∙ length-append value rest

    pub writing-room : 2 * (at + length (filled t h fs ws)) ≤ length room → 2 * (to + length value) ≤ length new
    writing-room q = let a = x.place in let b = x.len in let c = sum in omega arith

    -- the scratch holds the value, and its bytes are put
    module _ (n : ℕ) (old scratch : List ℕ) (few : length fs ≤ desk.filling) (size : desk.room ≤ length old) (w : Written t h fs (between i (i + 1) ws) old 0 scratch n) where
      held : between 0 n scratch ≡ value
      held =
          let fit = one-fits t h fs ws i p in
          ap (λ m. take m scratch) ((let z : n - 0 ≡ n = omega arith in z) ∙ w.place ∙ zero-add (length value)) ∙ ap (take (length value)) (w.words ∙ sets-eq value old 0 (omega arith)) ∙ take_at value _ (length value) refl

      pub writing-inside : n ≤ length old
      writing-inside = let fit = one-fits t h fs ws i p in let e = w.place in omega arith

      pub writing-puts : 2 * (at + length (filled t h fs ws)) ≤ length room → 2 * (to + length (between 0 n scratch)) ≤ length new
      writing-puts q = let l = ap length held in let z = writing-room q in omega arith

      pub writing-next : 2 * (at + length (filled t h fs ws)) ≤ length room → 2 * (to + n) ≤ length room
      writing-next q = let e : n ≡ length value = w.place ∙ zero-add (length value) in let z = writing-room q in let l = x.len in omega arith

      pub writing-on : (new' : List ℕ) → new' ≡ sets new (2 * to) (bytes_of (between 0 n scratch)) → Writing t h fs ws room at (i + 1) (to + n) new'
      writing-on new' en =
          let size : n ≡ length value = w.place ∙ zero-add (length value) in
          let lv = ap length held in
          let lb = length-bytes_of value in
          let z : 2 * (to + n) ≡ 2 * to + length (bytes_of value) = omega arith in
          let e : sets new' (2 * (to + n)) (bytes_of rest) ≡ sets new (2 * to) (bytes_of (filled t h fs (drop i ws))) =
          (ap₂ (λ (l : List ℕ) (j : ℕ). sets l j (bytes_of rest)) (en ∙ ap (λ l. sets new (2 * to) (bytes_of l)) held) z
          ∙ sym (sets-append (bytes_of value) (bytes_of rest) new (2 * to)) ∙ ap (sets new (2 * to)) (sym (bytes-append value rest) ∙ ap bytes_of (sym (here t h fs ws i p)))) in
          record {
            inside = omega arith;
            len = ap length en ∙ length-sets new (2 * to) (bytes_of (between 0 n scratch)) ∙ x.len;
            place = let a = x.place in let c = sum in omega arith;
            same = e ∙ x.same;
          }

  pub writing-ends : (i to : ℕ) (new : List ℕ) → Writing t h fs ws room at i to new → length ws ≤ i → new ≡ sets room (2 * at) (bytes_of (filled t h fs ws))
  unfolding bytes_of
  writing-ends i to new x p = sym (rw (drop_of_length-le ws p, filled_none t h fs) refl) ∙ x.same

-- ---- the report

module _ (size : ℕ) (ws : List ℕ) (at : ℕ) (room : List ℕ) where
  abbrev Comes : ℕ → List ℕ → Type 0
  Comes r new = Told (fits size ws) at room r new

  pub too_long : (n : ℕ) → n ≡ length ws → size < n → Comes 16 room
  unfolding bytes_of
  too_long n e p = rw (lt-ltb size (length ws) (omega arith)) (refl, refl)

  pub shown-here : (n m : ℕ) (new : List ℕ) → n ≡ length ws → m ≡ n → n ≤ size → new ≡ sets room (2 * at) (bytes_of ws) → Comes (200 + m) new
  shown-here n m new e f p g = rw (le-ltb size (length ws) (omega arith)) (ap (λ k. 200 + k) (f ∙ e), g)

-- ---- 2 or 3, and else 5

module _ (a : Asked) (c : Result (Unit {0}) Refusal) (e : checked_numbers c ≡ asked_numbers a) (k : ℕ) (ek : k ≡ checked_number c) where
  number : k ≡ asked_number a
  unfolding asked_numbers
  number = ek ∙ ap (λ (x : ℕ × ℕ). x.0) e

  pub early-fine : k ≡ 0 → 5 ≡ early a
  early-fine z = on a (sym number ∙ z)
    where
      on : (a : Asked) → asked_number a ≡ 0 → 5 ≡ early a
      on (asks q) d = refl
      on (refuses r) d = not-zero r d

  pub early-so : (k ≡ 0 → ⊥) → k ≤ 3 → (n : ℕ) → n ≡ k → n ≡ early a
  early-so z l n f = on a number
    where
      on : (a : Asked) → k ≡ asked_number a → n ≡ early a
      on (asks q) d = absurd (z d)
      on (refuses r) d = f ∙ d ∙ sym (rw (le-leb (number_of r) 3 (omega arith)) refl)

  pub early-late : (k ≡ 0 → ⊥) → 3 < k → 5 ≡ early a
  early-late z l = on a number
    where
      on : (a : Asked) → k ≡ asked_number a → 5 ≡ early a
      on (asks q) d = absurd (z d)
      on (refuses r) d = sym (rw (lt-leb (number_of r) 3 (omega arith)) refl)

-- ---- the first line that is marked settled

module _ (ws : List ℕ) (i n : ℕ) (p : i < n) where
  abbrev mark : ℕ
  mark = get_or ws (get_or ws (i + 2) 0) 0

  left : (j : ℕ) → j ≡ n - i - 1 → marked_from ws i (n - i) ≡ pick (eqb mark 1) i (marked_from ws (i + 1) j)
  unfolding marked_from
  left j e = let z : n - i ≡ suc j = omega arith in rw (z, add-one i)

  pub mark-here : mark ≡ 1 → i ≡ marked_from ws i (n - i)
  mark-here e = sym (left (n - i - 1) refl ∙ rw (eq-eqb mark 1 e) refl)

  pub mark-not : (mark ≡ 1 → ⊥) → marked_from ws (i + 1) (n - (i + 1)) ≡ marked_from ws i (n - i)
  mark-not e = sym (left (n - (i + 1)) (omega arith) ∙ rw (ne_eqb mark 1 e) refl)

pub mark-end : (ws : List ℕ) (i n : ℕ) → n ≤ i → i ≡ marked_from ws i (n - i)
unfolding marked_from
mark-end ws i n p = let z : n - i ≡ 0 = omega arith in rw z refl

pub marks-start : (ws : List ℕ) (n : ℕ) → marked_from ws 0 (n - 0) ≡ marked_from ws 0 n
marks-start ws n = let z : n - 0 ≡ n = omega arith in ap (marked_from ws 0) z
