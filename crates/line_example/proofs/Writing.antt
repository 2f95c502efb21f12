-- A filling measured and written, kind by kind.
use Prim.Native.Nat.{ℕ, ◌+◌, ◌<◌, ◌≤◌}
use mathlib.Core.Path.{◌≡◌, refl, sym, ap, ◌∙◌}
use mathlib.Core.Bool.{Bool, true, false, ◌||◌}
use mathlib.Core.List.{List, [], ◌∷◌, ◌++◌, append_assoc}
use native.Mathlib.Omega.{arith}
use lib.Dec.{ltb}
use lib.ListN.{length, drop, length-append}
use lib.Seq.{sets-eq}
use borrow.Author.Tests.{lt-ltb, le-ltb}
use Rattle.std.specs.Prelude.{Ok, Err}
use Rattle.language.specs.declared.Refusal.TheVariants.{LongExample}
use Rattle.language.specs.declared.Sym.{Sym}
use Rattle.language.specs.Limits.{desk}
use Rattle.language.specs.Trees.{Conj, Counts, Var, tv, hv, fv}
use Rattle.meaning.specs.Values.{variables, joined, offsets_of, filling_words}
use Rattle.rules.specs.Example.{example}
use Rattle.rules.specs.Calls.{Showing, shows, denied, fitted}
use Rattle.samples.specs.Laid.{Laid}
use Rattle.samples.proofs.Laid.{laid-row, laid_as}
use Rattle.values.specs.Lines.{Line}
use Rattle.values.specs.Values.{Settled}
use Rattle.line_example.specs.Rows.{Makes, values_by, starts, KindLength, KindStarts, KindWritten}
use Rattle.line_example.specs.declared.sorts.Sort.TheVariants.{Terms, Runs, Functions}
use Rattle.line_example.specs.declared.sorts.Row.{Row}
use Rattle.line_example.specs.Shown.{result_of, room_of}
use Rattle.line_example.specs.Fillings.{values_of, table_of, Counted, FillingLength, TableWritten, ValuesWritten, LineShown}
use Rattle.line_example.proofs.Tables.{joined-row, starts-row, offsets-starts, length-offsets, length-values}
use Rattle.line_example.proofs.Examples.{filling-words}

-- ---- the three kinds

abbrev a_term : ℕ → Var
a_term x = tv (record { 0 = x })

abbrev a_hedge : ℕ → Var
a_hedge p = hv (record { 0 = p })

abbrev a_name : ℕ → Var
a_name X = fv (record { 0 = X })

make-terms : (count : ℕ) → count ≤ desk.each → Makes a_term Terms count
make-terms count l j i = record { fine = omega arith; is = refl }

make-hedges : (count : ℕ) → count ≤ desk.each → Makes a_hedge Runs count
make-hedges count l j i = record { fine = omega arith; is = refl }

make-names : (count : ℕ) → count ≤ desk.each → Makes a_name Functions count
make-names count l j i = record { fine = omega arith; is = refl }

-- ---- by the numbers that the code has

abbrev T : Sym → Conj → ℕ → List (List ℕ)
T any c count = values_by any c a_term 0 count

abbrev H : Sym → Conj → ℕ → List (List ℕ)
H any c count = values_by any c a_hedge 0 count

abbrev F : Sym → Conj → ℕ → List (List ℕ)
F any c count = values_by any c a_name 0 count

module _ {terms hedges functions : ℕ} (any : Sym) (c : Conj) (n : Counts) (q : Counted n terms hedges functions) where
  values-are : values_of any c n ≡ T any c terms ++ (H any c hedges ++ F any c functions)
  unfolding values_of
  values-are =
      ap (λ i. T any c i ++ (H any c n.hedges ++ F any c n.functions)) q.terms
      ∙ ap (λ i. T any c terms ++ (H any c i ++ F any c n.functions)) q.hedges
      ∙ ap (λ i. T any c terms ++ (H any c hedges ++ F any c i)) q.functions

  joined-are : joined (values_of any c n) ≡ joined (T any c terms) ++ (joined (H any c hedges) ++ joined (F any c functions))
  joined-are = ap joined values-are ∙ joined-row (T any c terms) (H any c hedges ++ F any c functions) ∙ ap (λ l. joined (T any c terms) ++ l) (joined-row (H any c hedges) (F any c functions))

  size-are : length (joined (values_of any c n)) ≡ length (joined (T any c terms)) + (length (joined (H any c hedges)) + length (joined (F any c functions)))
  size-are =
      ap length joined-are ∙ length-append (joined (T any c terms)) (joined (H any c hedges) ++ joined (F any c functions))
      ∙ ap (λ i. length (joined (T any c terms)) + i) (length-append (joined (H any c hedges)) (joined (F any c functions)))

  count-are : length (values_of any c n) ≡ terms + (hedges + functions)
  count-are =
      ap length values-are ∙ length-append (T any c terms) (H any c hedges ++ F any c functions) ∙ ap (λ i. length (T any c terms) + i) (length-append (H any c hedges) (F any c functions))
      ∙ ap (λ i. i + (length (H any c hedges) + length (F any c functions))) (length-values any c a_term terms)
      ∙ ap (λ i. terms + (i + length (F any c functions))) (length-values any c a_hedge hedges)
      ∙ ap (λ i. terms + (hedges + i)) (length-values any c a_name functions)

  variables-are : variables n ≡ terms + (hedges + functions)
  variables-are = let a = q.terms in let b = q.hedges in let d = q.functions in omega arith

  table-length : length (table_of any c n) ≡ terms + (hedges + functions) + 2
  unfolding table_of
  table-length = let e = length-offsets (variables n + 2) (values_of any c n) in let d = count-are in omega arith

  table-are : (at : ℕ) → at ≡ variables n + 2 → table_of any c n ≡ (variables n ∷ []) ++ (starts at (T any c terms) ++ (starts (at + length (joined (T any c terms))) (H any c hedges)
      ++ (starts (at + length (joined (T any c terms)) + length (joined (H any c hedges))) (F any c functions) ++ ((at + length (joined (values_of any c n))) ∷ []))))
  unfolding table_of
  table-are at e =
      ap (λ l. variables n ∷ l) (ap (λ i. offsets_of i (values_of any c n)) (sym e) ∙ offsets-starts at (values_of any c n)
      ∙ ap (λ l. l ++ ((at + length (joined (values_of any c n))) ∷ [])) (ap (starts at) values-are ∙ starts-row at (T any c terms) (H any c hedges ++ F any c functions)
      ∙ ap (λ l. starts at (T any c terms) ++ l) (starts-row (at + length (joined (T any c terms))) (H any c hedges) (F any c functions)))
      ∙ append_assoc (starts at (T any c terms)) _ _
      ∙ ap (λ l. starts at (T any c terms) ++ l) (append_assoc (starts (at + length (joined (T any c terms))) (H any c hedges)) _ _))

-- ---- measured

module _ {k : List ℕ} {terms hedges functions : ℕ} (ts : terms ≤ desk.each) (hs : hedges ≤ desk.each) (fs : functions ≤ desk.each) where
  pub filling-length : {a b d : ℕ} → KindLength k Terms terms a → KindLength k Runs hedges b → KindLength k Functions functions d
      → FillingLength k terms hedges functions (terms + hedges + functions + 2 + a + b + d)
  filling-length {a} {b} {d} A B D = record {
    few = let x = A.few in let y = B.few in let z = D.few in omega arith;
    each = λ any c n s t q.
        let x = A.each any c a_term s t (make-terms terms ts) in
        let y = B.each any c a_hedge s t (make-hedges hedges hs) in
        let z = D.each any c a_name s t (make-names functions fs) in
        let u = size-are any c n q in
        let v = table-length any c n q in
        omega arith;
  }

  -- ---- written

  pub values-written : {any : Sym} {old one two new : List ℕ} {at i j e : ℕ} → KindWritten k Terms terms any old at one i → KindWritten k Runs hedges any one i two j → KindWritten k Functions functions any two j new e
      → ValuesWritten k terms hedges functions any old at new e
  values-written {any} A B D = record {
    each = λ c n s t q. laid_as (sym (joined-are any c n q))
        (laid-row (joined (T any c terms)) (joined (H any c hedges) ++ joined (F any c functions)) (A.each c a_term s t (make-terms terms ts))
        (laid-row (joined (H any c hedges)) (joined (F any c functions)) (B.each c a_hedge s t (make-hedges hedges hs)) (D.each c a_name s t (make-names functions fs))));
  }

  pub table-written : {old zero one two three new : List ℕ} {x y m e : ℕ} {r u v : Row} → (terms + hedges + functions < 65536 → x ≡ terms + hedges + functions) → Laid old 0 (x ∷ []) zero m
      → KindStarts k Terms terms zero m (terms + hedges + functions + 2) one r → KindStarts k Runs hedges one r.to r.next two u → KindStarts k Functions functions two u.to u.next three v
      → (v.next < 65536 → y ≡ v.next) → Laid three v.to (y ∷ []) new e
      → TableWritten k terms hedges functions old 0 new e
  table-written {x = x} {y = y} {r = r} {u = u} {v = v} X l A B D Y z = record {
    each = λ any c n s t q small.
        let at = terms + hedges + functions + 2 in
        let w = variables-are any c n q in
        let p = size-are any c n q in
        let a = A.next any c a_term s t (make-terms terms ts) in
        let b = B.next any c a_hedge s t (make-hedges hedges hs) in
        let d = D.next any c a_name s t (make-names functions fs) in
        let x-is : x ≡ variables n = X (omega arith) ∙ omega arith in
        let y-is : y ≡ at + length (joined (values_of any c n)) = Y (omega arith) ∙ omega arith in
        let r-is : r.next ≡ at + length (joined (T any c terms)) = a in
        let u-is : u.next ≡ at + length (joined (T any c terms)) + length (joined (H any c hedges)) = omega arith in
        laid_as (sym (table-are any c n q at (omega arith)))
        (laid-row (variables n ∷ []) _ (laid_as (ap (λ i. i ∷ []) x-is) l)
        (laid-row (starts at (T any c terms)) _ (A.each any c a_term s t (make-terms terms ts) (omega arith))
        (laid-row (starts (at + length (joined (T any c terms))) (H any c hedges)) _ (laid_as (ap (λ i. starts i (H any c hedges)) r-is) (B.each any c a_hedge s t (make-hedges hedges hs) (omega arith)))
        (laid-row (starts (at + length (joined (T any c terms)) + length (joined (H any c hedges))) (F any c functions)) _ (laid_as (ap (λ i. starts i (F any c functions)) u-is) (D.each any c a_name s t (make-names functions fs) (omega arith)))
        (laid_as (ap (λ i. i ∷ []) y-is) z)))));
  }

-- ---- shown

-- by whether it is too long
abbrev by : List ℕ → Bool → Showing
by ws b = elim b [ true ↦ denied LongExample | false ↦ shows ws ]

too_long : (room : ℕ) (ws : List ℕ) → desk.filling < length ws → fitted desk room ws ≡ denied LongExample
too_long room ws i = ap (λ b. by ws (b || ltb room (length ws))) (lt-ltb desk.filling (length ws) i)

no_room : (room : ℕ) (ws : List ℕ) → room < length ws → fitted desk room ws ≡ denied LongExample
no_room room ws i = ap (λ b. by ws (ltb desk.filling (length ws) || b)) (lt-ltb room (length ws) i) ∙ either (ltb desk.filling (length ws))
  where
    either : (b : Bool) → by ws (b || true) ≡ denied LongExample
    either true = refl
    either false = refl

has_room : (room : ℕ) (ws : List ℕ) → length ws ≤ desk.filling → length ws ≤ room → fitted desk room ws ≡ shows ws
has_room room ws i j =
    ap (λ b. by ws (b || ltb room (length ws))) (le-ltb desk.filling (length ws) i)
    ∙ ap (by ws) (le-ltb room (length ws) j)

module _ {k : List ℕ} {terms hedges functions r : ℕ} (m : FillingLength k terms hedges functions r) where
  length-is : (any : Sym) (c : Conj) (n : Counts) → Line k c → Settled c → Counted n terms hedges functions → r ≡ length (filling_words n (example any c))
  length-is any c n s t q = m.each any c n s t q ∙ sym (ap length (filling-words any c t n) ∙ length-append (table_of any c n) (joined (values_of any c n)))

  refused : {any : Sym} {old : List ℕ} → ((ws : List ℕ) → r ≡ length ws → fitted desk (length old) ws ≡ denied LongExample) → LineShown k terms hedges functions any old old (Err LongExample)
  refused {any} {old} f = record {
    result = λ c n s t q. ap result_of (sym (f (filling_words n (example any c)) (length-is any c n s t q)));
    room = λ c n s t q. ap (λ z. room_of z old) (sym (f (filling_words n (example any c)) (length-is any c n s t q)));
  }

  pub shown-long : {any : Sym} {old : List ℕ} → desk.filling < r → LineShown k terms hedges functions any old old (Err LongExample)
  shown-long {any} {old} i = refused (λ ws e. too_long (length old) ws (omega arith))

  pub shown-full : {any : Sym} {old : List ℕ} → length old < r → LineShown k terms hedges functions any old old (Err LongExample)
  shown-full {any} {old} i = refused (λ ws e. no_room (length old) ws (omega arith))

  pub shown-all : {any : Sym} {old mid new : List ℕ} {e d : ℕ} → r ≤ desk.filling → r ≤ length old → TableWritten k terms hedges functions old 0 mid e → ValuesWritten k terms hedges functions any mid e new d
      → LineShown k terms hedges functions any old new (Ok r)
  shown-all {any} {old} {mid} {new} i j a b = record {
    result = λ c n s t q.
        let z = length-is any c n s t q in
        ap Ok z ∙ ap result_of (sym (has_room (length old) (filling_words n (example any c)) (omega arith) (omega arith)));
    room = λ c n s t q.
        let z = length-is any c n s t q in
        let ws = filling_words n (example any c) in
        let y = m.each any c n s t q in
        let w = size-all c n s t q in
        let l = laid_as (sym (filling-words any c t n)) (laid-row (table_of any c n) (joined (values_of any c n)) (a.each any c n s t q (omega arith)) (b.each c n s t q)) in
        let o : 0 + length ws ≡ length ws = omega arith in
        l.list ∙ sets-eq ws old 0 (omega arith) ∙ ap (λ i. ws ++ drop i old) o ∙ ap (λ v. room_of v old) (sym (has_room (length old) ws (omega arith) (omega arith)));
  }
    where
      size-all : (c : Conj) (n : Counts) → Line k c → Settled c → Counted n terms hedges functions → length (table_of any c n) ≡ variables n + 2
      size-all c n s t q = table-length any c n q ∙ ap (λ i. i + 2) (sym (variables-are any c n q))
