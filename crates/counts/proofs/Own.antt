-- A variable that an equation has in one place: it is among the other literals exactly if the table counts it more than once.
use mathlib.Core.Path.{◌≡◌, refl, sym, ap, ◌∙◌}
use mathlib.Core.Bool.{Bool, true, false, not, ◌||◌}
use mathlib.Core.List.{List, ◌∷◌, ◌++◌}
use Prim.Native.Nat.{ℕ, ◌+◌, ◌<◌}
use native.Mathlib.Omega.{arith}
use lib.Dec.{eqb, ltb}
use lib.ListN.{get_or}
use borrow.Author.Tests.{eq-eqb}
use Rattle.language.specs.Limits.{desk}
use Rattle.language.specs.Kinds.{pick}
use Rattle.language.specs.declared.TermVar.{TermVar}
use Rattle.language.specs.declared.HedgeVar.{HedgeVar}
use Rattle.language.specs.declared.FunVar.{FunVar}
use Rattle.language.specs.Trees.{fvar, Hedge, ε, tvar, hvar, node, eps, Literal, eqn, mem, Conj, Var, tv, hv, fv, holds, in_conj}
use Rattle.language.specs.Writing.{conj_words}
use Rattle.language.specs.Fine.{fine_conj}
use Rattle.views.specs.Variables.{variable_word, fine_var}
use Rattle.views.specs.Standing.{LiteralAt}
use Rattle.views.proofs.Words.{words_append}
use Rattle.rules.proofs.FineParts.{fine-append}
use Rattle.counts.specs.Counts.{count_hedge}
use Rattle.counts.specs.Tables.{table, count_at, afresh, Tallied, Beside}
use Rattle.counts.proofs.Times.{times-conj, count-append, some-conj, some-hedge, none_of, more-than-one, just-one}
use Rattle.counts.proofs.Added.{counted, at-afresh}

pub record Own (v : Var) (l r : Hedge) : Type 0 where
  pub once : count_hedge v l + count_hedge v r ≡ 1

pub among-others : {t : List ℕ} {K : Conj} {l r : Hedge} (v : Var) → Beside t K l r → fine_var desk v → Own v l r → {x : ℕ} → x ≡ variable_word v → ltb 1 (count_at t x) ≡ in_conj v K
among-others {t} {K} {l} {r} v b f o {x} e =
    ap (λ y. ltb 1 (count_at t y)) e ∙ more-than-one (count_at t (variable_word v)) (some-conj v K) (let p = b.count v f in let q = o.once in omega arith)

-- ---- variables that are there once

not-held : (v : Var) (h : Hedge) → holds v h ≡ false → count_hedge v h ≡ 0
not-held v h e = none_of (some-hedge v h) e

bit : {b : Bool} (c : Bool) → b ≡ c → ◌≡◌ {A = ℕ} (pick b 1 0) (pick c 1 0)
bit c e = ap (λ z. pick z 1 0) e

pub own-term : (x : TermVar) (r : Hedge) → holds (tv x) r ≡ false → Own (tv x) (tvar x ε) r
own-term x r e = record { once = let a = bit true (eq-eqb x.0 x.0 refl) in let b = not-held (tv x) r e in omega arith }

pub own-run : (p : HedgeVar) (r : Hedge) → holds (hv p) r ≡ false → Own (hv p) (hvar p ε) r
own-run p r e = record { once = let a = bit true (eq-eqb p.0 p.0 refl) in let b = not-held (hv p) r e in omega arith }

pub own-blank : (X : FunVar) (r : Hedge) → holds (fv X) r ≡ false → Own (fv X) (node (fvar X) ε ε) r
own-blank X r e = record { once = let a = bit true (eq-eqb X.0 X.0 refl) in let b = not-held (fv X) r e in omega arith }

-- and seen from the other side
pub own-turned : {v : Var} {l r : Hedge} → Own v l r → Own v r l
own-turned {v} {l} {r} o = record { once = let q = o.once in omega arith }

-- nor anywhere else exactly if it is counted once
pub nowhere-else : {t : List ℕ} {K : Conj} {l r : Hedge} (v : Var) → Beside t K l r → fine_var desk v → count_hedge v l ≡ 1 → eqb (count_at t (variable_word v)) 1 ≡ not (holds v r || in_conj v K)
nowhere-else {t} {K} {l} {r} v b f o = just-one (count_at t (variable_word v)) (some-conj v (mem r eps ∷ K)) (let p = b.count v f in omega arith)

-- ---- from the table of a conjunction to an equation in it

pub beside : {t : List ℕ} (before : Conj) (l r : Hedge) (behind : Conj) → Tallied t (before ++ (eqn l r ∷ behind)) → Beside t (before ++ behind) l r
beside before l r behind y = record { count = λ v f. let a = y.count v f in let b = count-append v before (eqn l r ∷ behind) in let d = count-append v before behind in omega arith }

pub beside-turned : {t : List ℕ} {K : Conj} {l r : Hedge} → Beside t K l r → Beside t K r l
beside-turned b = record { count = λ v f. let a = b.count v f in omega arith }

-- a variable's word has a place in the table
pub low : (v : Var) → fine_var desk v → variable_word v < table
low (tv x) g = omega arith
low (hv p) g = omega arith
low (fv X) g = omega arith

-- words counted afresh count every variable
pub tallied : (c : Conj) → fine_conj desk c → (t : List ℕ) → t ≡ afresh (conj_words c) → Tallied t c
tallied c f t e = record { count = λ v g. sym (counted (variable_word v) t (low v g)) ∙ ap (λ s. get_or s (variable_word v) 0) e ∙ at-afresh (variable_word v) (low v g) (conj_words c) ∙ times-conj v g c f }

-- the table of a conjunction's words counts every variable of it, wherever a literal stands
pub counted-here : {k : List ℕ} {at : ℕ} {before : Conj} {l : Literal} {behind : Conj} {t : List ℕ} → LiteralAt k at before l behind → t ≡ afresh k → Tallied t (before ++ (l ∷ behind))
counted-here {before = before} {l} {behind} {t} p e =
    tallied (before ++ (l ∷ behind)) (fine-append desk before (l ∷ behind) p.fine_before (p.fine, p.fine_behind)) t (e ∙ ap afresh (p.words ∙ sym (words_append before (l ∷ behind))))

pub beside-here : {k : List ℕ} {at : ℕ} {before : Conj} {l r : Hedge} {behind : Conj} {t : List ℕ} → LiteralAt k at before (eqn l r) behind → t ≡ afresh k → Beside t (before ++ behind) l r
beside-here {before = before} {l} {r} {behind} p e = beside before l r behind (counted-here p e)
