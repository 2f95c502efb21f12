-- A part of a line's words, measured and written word by word.
use Prim.Native.Nat.{ℕ, ◌+◌, ◌*◌, ◌-◌, ◌<◌, ◌≤◌}
use mathlib.Core.Path.{◌≡◌, refl, sym, ap, ◌∙◌}
use mathlib.Core.List.{List, [], ◌∷◌}
use mathlib.Core.Logic.{◌⊎◌, inl, inr}
use native.Mathlib.Omega.{arith}
use lib.ListN.{length, get_or, length-append}
use lib.Seq.{slice}
use Rattle.language.specs.declared.TermVar.{TermVar}
use Rattle.language.specs.declared.HedgeVar.{HedgeVar}
use Rattle.language.specs.declared.FunVar.{FunVar}
use Rattle.language.specs.declared.Sym.{Sym}
use Rattle.language.specs.declared.Kind.{Kind}
use Rattle.language.specs.declared.Kind.TheVariants.{Term, Run, Function}
use Rattle.language.specs.Limits.{desk}
use Rattle.language.specs.Kinds.{kind_of}
use Rattle.language.specs.Trees.{Conj, Var, tv, hv, fv}
use Rattle.language.proofs.Arms.{Among, each-kind}
use Rattle.meaning.specs.Values.{root_of}
use Rattle.rules.specs.Example.{sampled, unsolved}
use Rattle.values.specs.declared.Variable.{Variable}
use Rattle.values.specs.declared.Variable.TheVariants as one
use Rattle.samples.specs.Bodies.{body}
use Rattle.samples.specs.Laid.{Laid}
use Rattle.samples.proofs.Laid.{laid_none, laid-row, laid_as}
use Rattle.words.proofs.Parts.{part-cons, part_none, part-past}
use Rattle.values.specs.Lines.{Named, Line}
use Rattle.values.specs.Spelling.{becomes_by, becomes, spelled, HedgeWord, HedgeWords}
use Rattle.values.specs.Values.{Settled, UnsolvedLength, WordLength, PartLength}
use Rattle.values.proofs.Spelling.{becomes-as, named-term, named-run}

-- ---- one word, by its kind

module _ {k : List ℕ} (x : ℕ) {j : Kind} (e : j ≡ kind_of desk x) where
  pub length-term : {n : ℕ} (y : TermVar) → j ≡ Term y → UnsolvedLength k (one.Term y) n → WordLength k x n
  length-term y g u = record { few = u.few; each = λ any c s h. u.each any c (tv y) s (named-term x e y g) ∙ ap length (becomes-as x e (unsolved any c) g) }

  pub length_run : {n : ℕ} (p : HedgeVar) → j ≡ Run p → UnsolvedLength k (one.Run p) n → WordLength k x n
  length_run p g u = record { few = u.few; each = λ any c s h. u.each any c (hv p) s (named-run x e p g) ∙ ap length (becomes-as x e (unsolved any c) g) }

  pub length-other : Among (0 ∷ 3 ∷ 4 ∷ 5 ∷ 6 ∷ 7 ∷ 8 ∷ 9 ∷ 10 ∷ 11 ∷ []) j → WordLength k x 1
  length-other o = record {
    few = omega arith;
    each = λ any c s h.
        each-kind (0 ∷ 3 ∷ 4 ∷ 5 ∷ 6 ∷ 7 ∷ 8 ∷ 9 ∷ 10 ∷ 11 ∷ []) (λ i. 1 ≡ length (becomes_by (unsolved any c) x i)) refl tt tt (λ f. refl) (λ X. refl) refl refl refl refl refl refl refl j o
        ∙ ap length (becomes-as x e (unsolved any c) refl);
  }

-- what is told of a word that is written
abbrev pub WroteWord : Sym → List ℕ → ℕ → List ℕ → ℕ → List ℕ → ℕ → Type 0
WroteWord any k x old at new e = (c : Conj) → Line k c → Settled c → HedgeWord x → Laid old at (becomes (unsolved any c) x) new e

-- what is told of a variable's value that is written
abbrev pub WroteUnsolved : Sym → List ℕ → Variable → List ℕ → ℕ → List ℕ → ℕ → Type 0
WroteUnsolved any k y old at new e = (c : Conj) (v : Var) → Line k c → Named v y → Laid old at (body (unsolved any c v)) new e

module _ (any : Sym) {k : List ℕ} (x : ℕ) {j : Kind} {old new : List ℕ} {at e : ℕ} (d : j ≡ kind_of desk x) where
  pub wrote-term : (y : TermVar) → j ≡ Term y → WroteUnsolved any k (one.Term y) old at new e → WroteWord any k x old at new e
  wrote-term y g l c s t h = laid_as (becomes-as x d (unsolved any c) g) (l c (tv y) s (named-term x d y g))

  pub wrote-run : (p : HedgeVar) → j ≡ Run p → WroteUnsolved any k (one.Run p) old at new e → WroteWord any k x old at new e
  wrote-run p g l c s t h = laid_as (becomes-as x d (unsolved any c) g) (l c (hv p) s (named-run x d p g))

  pub wrote-blank : (X : FunVar) {w : ℕ} → j ≡ Function X → w ≡ 3000 + any.0 → Laid old at (w ∷ []) new e → WroteWord any k x old at new e
  wrote-blank X {w} g z l c s t h =
      laid_as (ap (λ y. y ∷ []) z ∙ ap (λ m. (3000 + (root_of (sampled any (fv X) m)).0) ∷ []) (sym (t.names X)) ∙ becomes-as x d (unsolved any c) g) l

  pub wrote-other : Among (0 ∷ 3 ∷ 5 ∷ 6 ∷ 7 ∷ 8 ∷ 9 ∷ 10 ∷ 11 ∷ []) j → Laid old at (x ∷ []) new e → WroteWord any k x old at new e
  wrote-other o l c s t h =
      laid_as
      (each-kind (0 ∷ 3 ∷ 5 ∷ 6 ∷ 7 ∷ 8 ∷ 9 ∷ 10 ∷ 11 ∷ []) (λ i. x ∷ [] ≡ becomes_by (unsolved any c) x i) refl tt tt (λ f. refl) tt refl refl refl refl refl refl refl j o
      ∙ becomes-as x d (unsolved any c) refl)
      l

-- ---- a part

-- n words are counted up to i
pub record Counted (k : List ℕ) (from to i n : ℕ) : Type 0 where
  pub after : from ≤ i
  pub few : n ≤ 131074 * (i - from)
  pub within : (i ≤ length k) ⊎ (i ≡ from)
  pub each : (any : Sym) (c : Conj) → Line k c → HedgeWords (slice from to k)
      → HedgeWords (slice i to k) × (n + length (spelled (becomes (unsolved any c)) (slice i to k)) ≡ length (spelled (becomes (unsolved any c)) (slice from to k)))

pub count-start : {k : List ℕ} {from to : ℕ} → Counted k from to from 0
count-start = record { after = omega arith; few = omega arith; within = inr refl; each = λ any c s h. (h, omega arith) }

module _ {k : List ℕ} {from to i n : ℕ} (a : Counted k from to i n) where
  pub count_room : {m : ℕ} → length k ≤ 65536 → i < length k → WordLength k (get_or k i 0) m → n + m ≤ 10000000000
  count_room b j w = let f = a.few in let g = w.few in let l = a.after in omega arith

  pub count_next : {m : ℕ} → i < to → i < length k → WordLength k (get_or k i 0) m → length k ≤ 65536 → Counted k from to (i + 1) (n + m)
  count_next {m} j l w b =
      let g = w.few in
      let f = a.few in
      let o = a.after in
      record {
        after = omega arith;
        few = omega arith;
        within = inl (omega arith);
        each = λ any c s h.
            let (p, e) = a.each any c s h in
            let z = part-cons k i to j l in
            let q = rw z at p in
            let y = ap (λ ws. length (spelled (becomes (unsolved any c)) ws)) z ∙ length-append (becomes (unsolved any c) (get_or k i 0)) (spelled (becomes (unsolved any c)) (slice (i + 1) to k)) in
            let t = w.each any c s q.0 in
            (q.1, omega arith);
      }

  few-all : length k ≤ 65536 → n ≤ 10000000000
  few-all b = by a.within
    where
      by : (i ≤ length k) ⊎ (i ≡ from) → n ≤ 10000000000
      by (inl l) = let f = a.few in let o = a.after in omega arith
      by (inr e) = let f = a.few in omega arith

  at-end : length k ≤ 65536 → slice i to k ≡ [] → PartLength k from to n
  at-end b z = record {
    few = few-all b;
    each = λ any c s h. let (p, e) = a.each any c s h in let y = ap (λ ws. length (spelled (becomes (unsolved any c)) ws)) z in omega arith;
  }

  pub count-done : length k ≤ 65536 → to ≤ i → PartLength k from to n
  count-done b j = at-end b (part_none k i to j)

  pub count_past : length k ≤ 65536 → length k ≤ i → PartLength k from to n
  count_past b j = at-end b (part-past k i to j)

-- the words up to i are written, and those from i on are still to come
pub record Writing (any : Sym) (k : List ℕ) (from to : ℕ) (old : List ℕ) (at i : ℕ) (new : List ℕ) (e : ℕ) : Type 0 where
  pub each : (c : Conj) → Line k c → Settled c → HedgeWords (slice from to k)
      → HedgeWords (slice i to k) × ((last : List ℕ) (end : ℕ) → Laid new e (spelled (becomes (unsolved any c)) (slice i to k)) last end
      → Laid old at (spelled (becomes (unsolved any c)) (slice from to k)) last end)

pub writing_start : {any : Sym} {k : List ℕ} {from to : ℕ} {old : List ℕ} {at : ℕ} → Writing any k from to old at from old at
writing_start = record { each = λ c s t h. (h, λ last end l. l) }

module _ {any : Sym} {k : List ℕ} {from to : ℕ} {old : List ℕ} {at i : ℕ} {new : List ℕ} {e : ℕ} (a : Writing any k from to old at i new e) where
  pub writing-next : {next : List ℕ} {m : ℕ} → i < to → i < length k → WroteWord any k (get_or k i 0) new e next m → Writing any k from to old at (i + 1) next m
  writing-next {next} {m} j l w = record {
    each = λ c s t h.
        let (p, go) = a.each c s t h in
        let z = part-cons k i to j l in
        let q = rw z at p in (
          q.1,
          λ last end r. go last end (laid_as (ap (spelled (becomes (unsolved any c))) (sym z))
              (laid-row (becomes (unsolved any c) (get_or k i 0)) (spelled (becomes (unsolved any c)) (slice (i + 1) to k)) (w c s t q.0) r)),
        );
  }

  finish : slice i to k ≡ [] → (c : Conj) → Line k c → Settled c → HedgeWords (slice from to k) → Laid old at (spelled (becomes (unsolved any c)) (slice from to k)) new e
  finish z c s t h = (a.each c s t h).1 new e (laid_as (ap (spelled (becomes (unsolved any c))) (sym z)) laid_none)

  pub writing-done : to ≤ i → (c : Conj) → Line k c → Settled c → HedgeWords (slice from to k) → Laid old at (spelled (becomes (unsolved any c)) (slice from to k)) new e
  writing-done j = finish (part_none k i to j)

  pub writing-past : length k ≤ i → (c : Conj) → Line k c → Settled c → HedgeWords (slice from to k) → Laid old at (spelled (becomes (unsolved any c)) (slice from to k)) new e
  writing-past j = finish (part-past k i to j)
