-- The value of a variable: the hedge that it is bound to, filled in, or what it takes unsolved.
use Prim.Native.Nat.{ℕ, ◌+◌, ◌≤◌}
use mathlib.Core.Path.{◌≡◌, refl, sym, ap, subst, ◌∙◌}
use mathlib.Core.List.{List, [], ◌∷◌, ◌++◌}
use mathlib.Core.Option.{Option, none, some}
use native.Mathlib.Omega.{arith}
use lib.ListN.{length, length-append}
use Rattle.std.specs.Prelude.{Some, None}
use Rattle.std.specs.Prelude as std
use Rattle.std.proofs.lemmas.Option.{same_Some}
use lib.Seq.{slice}
use Rattle.language.specs.declared.TermVar.{TermVar}
use Rattle.language.specs.declared.Sym.{Sym}
use Rattle.language.specs.Trees.{Hedge, Expr, Conj, Var, tv}
use Rattle.language.specs.Writing.{hedge_words}
use Rattle.meaning.specs.Complete.{nil, tree, complete_words}
use Rattle.meaning.specs.Values.{root_of, children_of}
use Rattle.rules.specs.Example.{expression_of, sampled, unsolved, bound, followed}
use Rattle.samples.specs.Bodies.{body}
use Rattle.samples.specs.Laid.{Laid}
use Rattle.samples.proofs.Bodies.{words-body}
use Rattle.samples.proofs.Laid.{laid-row, laid_as}
use Rattle.views.specs.Standing.{Stands}
use Rattle.words.proofs.Parts.{part_of}
use Rattle.values.specs.Lines.{Named, Line}
use Rattle.values.specs.Binding.{BoundBy, to, free}
use Rattle.values.specs.declared.Variable.{Variable}
use Rattle.values.specs.declared.bindings.Part.{Part}
use Rattle.values.specs.Spelling.{becomes, spelled, HedgeWords}
use Rattle.values.specs.Values.{Settled, value_words, UnsolvedLength, PartLength, ValueLength}
use Rattle.values.proofs.Spelling.{hedge-words, filled-words}

-- a term variable's unsolved value is one term
single-sample : (any : Sym) (c : Conj) (x : TermVar) (m : Option Expr) → Settled c → expression_of (tv x) c ≡ m → sampled any (tv x) m ≡ tree (root_of (sampled any (tv x) m)) (children_of (sampled any (tv x) m)) nil
single-sample any c x none t e = refl
single-sample any c x (some R) t e = let (f, S, d) = t.terms x R e in rw d refl

pub single : (any : Sym) (c : Conj) → Settled c → (x : TermVar) → unsolved any c (tv x) ≡ tree (root_of (unsolved any c (tv x))) (children_of (unsolved any c (tv x))) nil
single any c t x = single-sample any c x (expression_of (tv x) c) t refl

-- what is told of what a variable is bound to
abbrev pub Bounds : List ℕ → Variable → std.Option Part → Type 0
Bounds k x b = (c : Conj) (v : Var) → Line k c → Named v x → BoundBy k (bound v [] c) b

-- the hedge that stands there
record There (k : List ℕ) (p : Part) (m : Option Hedge) : Type 0 where
  h : Hedge
  beyond : List ℕ
  is : m ≡ some h
  stands : Stands k p.from h beyond
  end : p.to ≡ p.from + length (hedge_words h)

there : {k : List ℕ} {m : Option Hedge} {b : std.Option Part} {p : Part} → BoundBy k m b → b ≡ Some p → There k p m
there {k} {m} {b} {p} (to {p = q} h beyond e s d) z =
    subst (λ (o : Part). There k o m) (same_Some q p z) (record { h = h; beyond = beyond; is = e; stands = s; end = d })
there (free e) z = let y : ◌≡◌ {A = ℕ} 0 1 = cc in absurd (omega arith)

not_there : {k : List ℕ} {m : Option Hedge} {b : std.Option Part} → BoundBy k m b → b ≡ None → m ≡ none
not_there (to h beyond e s d) z = let y : ◌≡◌ {A = ℕ} 0 1 = cc in absurd (omega arith)
not_there (free e) z = e

module _ {k : List ℕ} {x : Variable} {b : std.Option Part} (t : Bounds k x b) where
  module _ {p : Part} (z : b ≡ Some p) (c : Conj) (v : Var) (s : Line k c) (q : Settled c) (w : Named v x) where
    part-is : slice p.from p.to k ≡ hedge_words (there (t c v s w) z).h
    part-is = let a = there (t c v s w) z in part_of k p.from p.to (hedge_words a.h) a.beyond a.stands.here a.end

    part-words : HedgeWords (slice p.from p.to k)
    part-words = rw part-is (hedge-words (there (t c v s w) z).h (there (t c v s w) z).stands.fine)

    bound-words : (any : Sym) → value_words any c v ≡ spelled (becomes (unsolved any c)) (slice p.from p.to k)
    unfolding value_words
    bound-words any =
        let a = there (t c v s w) z in
        ap (λ m. complete_words (followed any c v m)) a.is ∙ filled-words (unsolved any c) (single any c q) a.h a.stands.fine ∙ ap (spelled (becomes (unsolved any c))) (sym part-is)

  free-words : b ≡ None → (any : Sym) (c : Conj) (v : Var) → Line k c → Named v x → value_words any c v ≡ body (unsolved any c v) ++ (0 ∷ [])
  unfolding value_words
  free-words z any c v s w = ap (λ m. complete_words (followed any c v m)) (not_there (t c v s w) z) ∙ words-body (unsolved any c v)

  pub bound-length : {p : Part} {n : ℕ} → b ≡ Some p → PartLength k p.from p.to n → ValueLength k x n
  bound-length z l = record {
    few = l.few;
    each = λ any c v s q w. l.each any c s (part-words z c v s q w) ∙ ap length (sym (bound-words z c v s q w any));
  }

  pub free-length : {n : ℕ} → b ≡ None → length k ≤ 65536 → UnsolvedLength k x n → ValueLength k x (n + 1)
  free-length z l u = record {
    few = let f = u.few in omega arith;
    each = λ any c v s q w. let a = u.each any c v s w in let e = ap length (free-words z any c v s w) ∙ length-append (body (unsolved any c v)) (0 ∷ []) in omega arith;
  }

  module _ (any : Sym) {old new : List ℕ} {at e : ℕ} where
    pub bound-laid : {p : Part} → b ≡ Some p
        → ((c : Conj) → Line k c → Settled c → HedgeWords (slice p.from p.to k) → Laid old at (spelled (becomes (unsolved any c)) (slice p.from p.to k)) new e)
        → (c : Conj) (v : Var) → Line k c → Settled c → Named v x → Laid old at (value_words any c v) new e
    bound-laid z f c v s q w = laid_as (sym (bound-words z c v s q w any)) (f c s q (part-words z c v s q w))

    pub free-laid : {mid : List ℕ} {m : ℕ} → b ≡ None → ((c : Conj) (v : Var) → Line k c → Named v x → Laid old at (body (unsolved any c v)) mid m) → Laid mid m (0 ∷ []) new e
        → (c : Conj) (v : Var) → Line k c → Settled c → Named v x → Laid old at (value_words any c v) new e
    free-laid z f l c v s q w = laid_as (sym (free-words z any c v s w)) (laid-row (body (unsolved any c v)) (0 ∷ []) (f c v s w) l)
