-- The values of the variables of one kind, one after the other.
use Prim.Native.Nat.{ℕ, suc, ◌+◌, ◌*◌, ◌-◌, ◌<◌, ◌≤◌}
use mathlib.Core.Path.{◌≡◌, refl, sym, subst, ap, ◌∙◌}
use mathlib.Core.List.{List, [], ◌∷◌, map}
use native.Mathlib.Omega.{arith}
use lib.ListN.{length, length-append}
use Rattle.language.specs.declared.Sym.{Sym}
use Rattle.language.specs.Limits.{desk}
use Rattle.language.specs.Trees.{Conj, Var}
use Rattle.meaning.specs.Values.{joined, numbers}
use Rattle.values.specs.declared.Variable.{Variable}
use Rattle.line_example.specs.declared.sorts.Sort.{Sort}
use Rattle.line_example.specs.declared.sorts.Sort.TheVariants.{Terms, Runs, Functions}
use Rattle.samples.specs.Laid.{Laid}
use Rattle.samples.proofs.Laid.{laid_none, laid-row, laid_as}
use Rattle.values.specs.Lines.{var_of, Named, Line}
use Rattle.values.specs.Values.{Settled, value_words, ValueLength}
use Rattle.line_example.specs.Rows.{numbered_of, Makes, values_by, starts, KindLength, KindStarts, KindWritten}

-- ---- the j-th variable

named : (of : Sort) (j : ℕ) → j < desk.each → Named (var_of (numbered_of of j)) (numbered_of of j)
named Terms j h = record { fine = h; is = refl }
named Runs j h = record { fine = h; is = refl }
named Functions j h = record { fine = h; is = refl }

pub named-numbered : (of : Sort) {j count : ℕ} {x : Variable} → j < count → count ≤ desk.each → (j < 65536 → x ≡ numbered_of of j) → Named (var_of x) x
named-numbered of {j} t l e = subst (λ x. Named (var_of x) x) (sym (e (omega arith))) (named of j (omega arith))

-- ---- the values from the j-th on

values-cons : (any : Sym) (c : Conj) (make : ℕ → Var) (j count : ℕ) → j < count → values_by any c make j (count - j) ≡ value_words any c (make j) ∷ values_by any c make (j + 1) (count - (j + 1))
unfolding values_by
values-cons any c make j count i = more (count - j) (count - (j + 1)) (omega arith)
  where
    more : (m n : ℕ) → m ≡ suc n → map (λ i. value_words any c (make i)) (numbers j m) ≡ value_words any c (make j) ∷ map (λ i. value_words any c (make i)) (numbers (j + 1) n)
    more m n e = ap (λ m. map (λ i. value_words any c (make i)) (numbers j m)) e ∙ ap (λ l. value_words any c (make j) ∷ map (λ i. value_words any c (make i)) (numbers l n)) (omega arith)

values-none : (any : Sym) (c : Conj) (make : ℕ → Var) (j count : ℕ) → count ≤ j → values_by any c make j (count - j) ≡ []
unfolding values_by
values-none any c make j count i = let z : count - j ≡ 0 = omega arith in ap (λ m. map (λ i. value_words any c (make i)) (numbers j m)) z

values-all : (any : Sym) (c : Conj) (make : ℕ → Var) (count : ℕ) → values_by any c make 0 (count - 0) ≡ values_by any c make 0 count
values-all any c make count = let z : count - 0 ≡ count = omega arith in ap (values_by any c make 0) z

-- ---- measured

-- n words are counted of the first j values
pub record Summed (k : List ℕ) (of : Sort) (count j n : ℕ) : Type 0 where
  pub within : j ≤ count
  pub few : n ≤ 10000000000 * j
  pub each : (any : Sym) (c : Conj) (make : ℕ → Var) → Line k c → Settled c → Makes make of count
      → n + length (joined (values_by any c make j (count - j))) ≡ length (joined (values_by any c make 0 count))

pub summed-start : {k : List ℕ} {of : Sort} {count : ℕ} → Summed k of count 0 0
summed-start {k} {of} {count} = record {
  within = omega arith;
  few = omega arith;
  each = λ any c make s t m. let e = ap (λ wss. length (joined wss)) (values-all any c make count) in omega arith;
}

module _ {k : List ℕ} {of : Sort} {count j n : ℕ} (a : Summed k of count j n) where
  pub summed-next : {x : Variable} {m : ℕ} → x ≡ numbered_of of j → j < count → ValueLength k x m → Summed k of count (j + 1) (n + m)
  summed-next {x} {m} p i v =
      let f = a.few in
      let g = v.few in
      record {
        within = omega arith;
        few = omega arith;
        each = λ any c make s t q.
            let w = q j i in
            let e = v.each any c (make j) s t (record { fine = w.fine; is = ap var_of p ∙ w.is }) in
            let z = ap (λ wss. length (joined wss)) (values-cons any c make j count i) ∙ length-append (value_words any c (make j)) (joined (values_by any c make (j + 1) (count - (j + 1)))) in
            let y = a.each any c make s t q in
            omega arith;
      }

  pub summed-done : count ≤ desk.each → count ≤ j → KindLength k of count n
  summed-done l i =
      let f = a.few in
      let w = a.within in
      record {
        few = omega arith;
        each = λ any c make s t q.
            let z = ap (λ wss. length (joined wss)) (values-none any c make j count i) in
            let y = a.each any c make s t q in
            omega arith;
      }

-- ---- written

pub record Written (k : List ℕ) (of : Sort) (count : ℕ) (any : Sym) (old : List ℕ) (at j : ℕ) (new : List ℕ) (e : ℕ) : Type 0 where
  pub within : j ≤ count
  pub each : (c : Conj) (make : ℕ → Var) → Line k c → Settled c → Makes make of count → (last : List ℕ) (end : ℕ)
      → Laid new e (joined (values_by any c make j (count - j))) last end → Laid old at (joined (values_by any c make 0 count)) last end

pub written_start : {k : List ℕ} {of : Sort} {count : ℕ} {any : Sym} {old : List ℕ} {at : ℕ} → Written k of count any old at 0 old at
written_start {k} {of} {count} {any} = record {
  within = omega arith;
  each = λ c make s t q last end l. laid_as (ap joined (values-all any c make count)) l;
}

-- what is told of a value that is written
abbrev pub WroteValue : List ℕ → Variable → Sym → List ℕ → ℕ → List ℕ → ℕ → Type 0
WroteValue k x any old at new e = (c : Conj) (v : Var) → Line k c → Settled c → Named v x → Laid old at (value_words any c v) new e

module _ {k : List ℕ} {of : Sort} {count : ℕ} {any : Sym} {old : List ℕ} {at j : ℕ} {new : List ℕ} {e : ℕ} (a : Written k of count any old at j new e) where
  pub written_next : {x : Variable} {next : List ℕ} {m : ℕ} → x ≡ numbered_of of j → j < count → WroteValue k x any new e next m → Written k of count any old at (j + 1) next m
  written_next {x} {next} {m} p i v = record {
    within = omega arith;
    each = λ c make s t q last end l.
        let w = q j i in
        a.each c make s t q last end (laid_as (ap joined (sym (values-cons any c make j count i)))
        (laid-row (value_words any c (make j)) (joined (values_by any c make (j + 1) (count - (j + 1)))) (v c (make j) s t (record { fine = w.fine; is = ap var_of p ∙ w.is })) l));
  }

  pub written-done : count ≤ j → KindWritten k of count any old at new e
  written-done i = record {
    each = λ c make s t q. a.each c make s t q new e (laid_as (ap joined (sym (values-none any c make j count i))) laid_none);
  }

-- ---- where they begin

pub record Started (k : List ℕ) (of : Sort) (count : ℕ) (old : List ℕ) (at offset j : ℕ) (new : List ℕ) (e o : ℕ) : Type 0 where
  pub within : j ≤ count
  pub few : o ≤ offset + 10000000000 * j
  pub next : (any : Sym) (c : Conj) (make : ℕ → Var) → Line k c → Settled c → Makes make of count
      → o + length (joined (values_by any c make j (count - j))) ≡ offset + length (joined (values_by any c make 0 count))
  pub each : (any : Sym) (c : Conj) (make : ℕ → Var) → Line k c → Settled c → Makes make of count → offset + length (joined (values_by any c make 0 count)) < 65536
      → (last : List ℕ) (end : ℕ) → Laid new e (starts o (values_by any c make j (count - j))) last end → Laid old at (starts offset (values_by any c make 0 count)) last end

pub started-start : {k : List ℕ} {of : Sort} {count : ℕ} {old : List ℕ} {at offset : ℕ} → Started k of count old at offset 0 old at offset
started-start {k} {of} {count} {old} {at} {offset} = record {
  within = omega arith;
  few = omega arith;
  next = λ any c make s t m. let e = ap (λ wss. length (joined wss)) (values-all any c make count) in omega arith;
  each = λ any c make s t q i last end l. laid_as (ap (starts offset) (values-all any c make count)) l;
}

module _ {k : List ℕ} {of : Sort} {count : ℕ} {old : List ℕ} {at offset j : ℕ} {new : List ℕ} {e o : ℕ} (a : Started k of count old at offset j new e o) where
  pub started-next : {x : Variable} {y n : ℕ} {next : List ℕ} {m : ℕ} → x ≡ numbered_of of j → j < count → (o < 65536 → y ≡ o) → Laid new e (y ∷ []) next m → ValueLength k x n
      → Started k of count old at offset (j + 1) next m (o + n)
  started-next {x} {y} {n} {next} {m} p i h l v =
      let f = a.few in
      let g = v.few in
      record {
        within = omega arith;
        few = omega arith;
        next = λ any c make s t q. follows any c make s t q;
        each = λ any c make s t q r last end d.
            let u = a.next any c make s t q in
            let z : o < 65536 = omega arith in
            let b = joined_is any c make s t q in
            a.each any c make s t q r last end (laid_as (ap (starts o) (sym (values-cons any c make j count i)))
            (laid-row (o ∷ []) (starts (o + length (value_words any c (make j))) (values_by any c make (j + 1) (count - (j + 1)))) (laid_as (ap (λ y. y ∷ []) (h z)) l)
            (laid_as (ap (λ n. starts (o + n) (values_by any c make (j + 1) (count - (j + 1)))) (size any c make s t q)) d)));
      }
    where
      size : (any : Sym) (c : Conj) (make : ℕ → Var) → Line k c → Settled c → Makes make of count → n ≡ length (value_words any c (make j))
      size any c make s t q = let w = q j i in v.each any c (make j) s t (record { fine = w.fine; is = ap var_of p ∙ w.is })

      joined_is : (any : Sym) (c : Conj) (make : ℕ → Var) → Line k c → Settled c → Makes make of count
          → length (joined (values_by any c make j (count - j))) ≡ length (value_words any c (make j)) + length (joined (values_by any c make (j + 1) (count - (j + 1))))
      joined_is any c make s t q = ap (λ wss. length (joined wss)) (values-cons any c make j count i) ∙ length-append (value_words any c (make j)) (joined (values_by any c make (j + 1) (count - (j + 1))))

      follows : (any : Sym) (c : Conj) (make : ℕ → Var) → Line k c → Settled c → Makes make of count
          → o + n + length (joined (values_by any c make (j + 1) (count - (j + 1)))) ≡ offset + length (joined (values_by any c make 0 count))
      follows any c make s t q = let e = size any c make s t q in let z = joined_is any c make s t q in let y = a.next any c make s t q in omega arith

  pub started-done : count ≤ desk.each → count ≤ j → KindStarts k of count old at offset new (record { to = e; next = o })
  started-done l i =
      let f = a.few in
      let w = a.within in
      record {
        few = omega arith;
        next = λ any c make s t q. let z = ap (λ wss. length (joined wss)) (values-none any c make j count i) in let y = a.next any c make s t q in omega arith;
        each = λ any c make s t q r. a.each any c make s t q r new e (laid_as (ap (starts o) (sym (values-none any c make j count i))) laid_none);
      }
