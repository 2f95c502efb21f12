-- The value of a variable that no equation solves: its expression's sample, or the default.
use Prim.Native.Nat.{ℕ, ◌+◌, ◌≤◌}
use mathlib.Core.Path.{◌≡◌, refl, sym, ap, ◌∙◌}
use mathlib.Core.Bool.{Bool, true, false}
use mathlib.Core.List.{List, [], ◌∷◌}
use mathlib.Core.Option.{none}
use native.Mathlib.Omega.{arith}
use Rattle.std.specs.Prelude.{Some, None}
use Rattle.std.specs.Prelude as std
use lib.ListN.{length}
use Rattle.language.specs.declared.Sym.{Sym}
use Rattle.language.specs.Trees.{Conj, Var, tv, hv, fv}
use Rattle.rules.specs.Example.{default, expression_of, sampled, unsolved}
use Rattle.rules.specs.Expressions.{sample}
use Rattle.samples.specs.Bodies.{body}
use Rattle.samples.specs.Laid.{Laid}
use Rattle.samples.specs.Samples.{Measured, Written}
use Rattle.samples.specs.declared.Sample.{Sample}
use Rattle.samples.specs.declared.Wrote.{Wrote}
use Rattle.samples.proofs.Laid.{laid_none, laid-row, laid_as}
use Rattle.samples.proofs.Standing.{body-here}
use Rattle.values.specs.Lines.{var_of, Named, Line, Found, Expressed, expressed, unexpressed}
use Rattle.values.specs.declared.Variable.{Variable}
use Rattle.values.specs.Spelling.{runs}
use Rattle.values.specs.Values.{UnsolvedLength}

-- ---- the default

default-size : (any : Sym) (b : Bool) (v : Var) → b ≡ runs v → (b ≡ true → 0 ≡ length (body (default any v))) × (b ≡ false → 2 ≡ length (body (default any v)))
default-size any b (tv x) e = (λ t. absurd (let z : ◌≡◌ {A = Bool} true false = sym t ∙ e in let y : ◌≡◌ {A = ℕ} 0 1 = cc in omega arith), λ _. refl)
default-size any b (hv p) e = (λ _. refl, λ t. absurd (let z : ◌≡◌ {A = Bool} true false = sym e ∙ t in let y : ◌≡◌ {A = ℕ} 0 1 = cc in omega arith))
default-size any b (fv X) e = (λ t. absurd (let z : ◌≡◌ {A = Bool} true false = sym t ∙ e in let y : ◌≡◌ {A = ℕ} 0 1 = cc in omega arith), λ _. refl)

-- what is told of a variable
abbrev pub Runs : Variable → Bool → Type 0
Runs x b = (v : Var) → Named v x → b ≡ runs v

pub runs-named : {x : Variable} {b : Bool} → b ≡ runs (var_of x) → Runs x b
runs-named e v w = e ∙ ap runs w.is

module _ {x : Variable} {b : Bool} (r : Runs x b) where
  pub default_none : b ≡ true → (any : Sym) (v : Var) → Named v x → 0 ≡ length (body (default any v))
  default_none t any v w = (default-size any b v (r v w)).0 t

  pub default-two : b ≡ false → (any : Sym) (v : Var) → Named v x → 2 ≡ length (body (default any v))
  default-two t any v w = (default-size any b v (r v w)).1 t

  pub default-empty : (any : Sym) {old : List ℕ} {at : ℕ} → b ≡ true → (v : Var) → Named v x → Laid old at (body (default any v)) old at
  default-empty any {old} {at} t v w = laid_as (sym (nothing v (sym (r v w) ∙ t))) laid_none
    where
      nothing : (v : Var) → runs v ≡ true → body (default any v) ≡ []
      nothing (tv x) e = absurd (let y : ◌≡◌ {A = ℕ} 0 1 = cc in omega arith)
      nothing (hv p) e = refl
      nothing (fv X) e = absurd (let y : ◌≡◌ {A = ℕ} 0 1 = cc in omega arith)

  pub default-laid : (any : Sym) {old mid new : List ℕ} {at m e d : ℕ} → b ≡ false → d ≡ 3000 + any.0 → Laid old at (d ∷ []) mid m → Laid mid m (0 ∷ []) new e
      → (v : Var) → Named v x → Laid old at (body (default any v)) new e
  default-laid any {d = d} t z p q v w = laid_as (ap (λ y. y ∷ 0 ∷ []) z ∙ sym (two v (sym (r v w) ∙ t))) (laid-row (d ∷ []) (0 ∷ []) p q)
    where
      two : (v : Var) → runs v ≡ false → body (default any v) ≡ (3000 + any.0) ∷ 0 ∷ []
      two (tv x) e = refl
      two (hv p) e = absurd (let y : ◌≡◌ {A = ℕ} 0 1 = cc in omega arith)
      two (fv X) e = refl

-- ---- with an expression, and without

-- what is told of a variable's expression
abbrev pub Expresses : List ℕ → Variable → std.Option ℕ → Type 0
Expresses k x p = (c : Conj) (v : Var) → Line k c → Named v x → Expressed k c v p

found_at : {k : List ℕ} {c : Conj} {v : Var} {p : std.Option ℕ} {e : ℕ} → Expressed k c v p → p ≡ Some e → Found k e (expression_of v c)
found_at {k} {c} {v} {p} {e} (expressed {e = i} f) d = let z : i ≡ e = cc in rw z at f
found_at (unexpressed f) d = let z : ◌≡◌ {A = ℕ} 0 1 = cc in absurd (omega arith)

not_found : {k : List ℕ} {c : Conj} {v : Var} {p : std.Option ℕ} → Expressed k c v p → p ≡ None → expression_of v c ≡ none
not_found (expressed f) d = let z : ◌≡◌ {A = ℕ} 0 1 = cc in absurd (omega arith)
not_found (unexpressed f) d = f

module _ {k : List ℕ} {x : Variable} {p : std.Option ℕ} (t : Expresses k x p) where
  module _ {e : ℕ} (d : p ≡ Some e) where
    as-sample : (any : Sym) (c : Conj) (v : Var) (s : Line k c) (w : Named v x) → unsolved any c v ≡ sample (found_at (t c v s w) d).R
    as-sample any c v s w = ap (sampled any v) (found_at (t c v s w) d).is

    pub sample-length : {m : Sample} → Measured k e m → UnsolvedLength k x m.words
    sample-length {m} a = record {
      few = let f = a.few in omega arith;
      each = λ any c v s w. let f = found_at (t c v s w) d in a.words ∙ ap length (body-here f.here) ∙ ap (λ g. length (body g)) (sym (as-sample any c v s w));
    }

    pub sample-laid : (any : Sym) {old new : List ℕ} {at : ℕ} {m : Wrote} → Written k e old at new m → (c : Conj) (v : Var) → Line k c → Named v x → Laid old at (body (unsolved any c v)) new m.to
    sample-laid any a c v s w = let f = found_at (t c v s w) d in laid_as (body-here f.here ∙ ap body (sym (as-sample any c v s w))) a.laid

  module _ (d : p ≡ None) where
    as-default : (any : Sym) (c : Conj) (v : Var) → Line k c → Named v x → unsolved any c v ≡ default any v
    as-default any c v s w = ap (sampled any v) (not_found (t c v s w) d)

    pub default-length : {n : ℕ} → (n ≤ 2) × ((any : Sym) (v : Var) → Named v x → n ≡ length (body (default any v))) → UnsolvedLength k x n
    default-length f = record {
      few = let i = f.0 in omega arith;
      each = λ any c v s w. f.1 any v w ∙ ap (λ g. length (body g)) (sym (as-default any c v s w));
    }

    pub default-written : (any : Sym) {old new : List ℕ} {at e : ℕ} → ((v : Var) → Named v x → Laid old at (body (default any v)) new e) → (c : Conj) (v : Var) → Line k c → Named v x → Laid old at (body (unsolved any c v)) new e
    default-written any f c v s w = laid_as (ap body (sym (as-default any c v s w))) (f v w)
