-- Memberships counted literal by literal; a lone variable by the table.
use Prim.Native.Nat.{ℕ, suc, ◌+◌, ◌-◌, ◌<◌, ◌≤◌}
use native.Mathlib.Omega.{arith}
use native.Mathlib.Decide.{dec_lt}
use mathlib.Core.Path.{◌≡◌, refl, sym, ap, ◌∙◌}
use mathlib.Core.Bool.{Bool, true, false, not, ◌||◌}
use mathlib.Core.List.{List, [], ◌∷◌, ◌++◌}
use mathlib.Core.Option.{Option, none, some}
use lib.Dec.{eqb}
use lib.ListN.{length, get_or, drop, length-drop, replicate, length-replicate, get_or-replicate, get_or-eq_default}
use lib.Seq.{slice, length-slice}
use borrow.Author.Tests.{eq-eqb, ne_eqb}
use Rattle.language.specs.Kinds.{pick}
use Rattle.language.specs.Limits.{desk}
use Rattle.language.specs.Trees.{Hedge, ε, tvar, hvar, node, symbol, fvar, Expr, Literal, eqn, mem, Conj, Var, tv, fv, holds, in_conj}
use Rattle.language.specs.Writing.{literal_words, conj_words}
use Rattle.language.specs.Fine.{fine_conj}
use Rattle.rules.specs.Solved.{given, variable, alone, is_some, is_term, is_functor, in_member, lone_var, only_member}
use Rattle.rules.proofs.Answers.{Where}
use Rattle.rules.proofs.FineParts.{fine-append}
use Rattle.words.specs.Places.{begins, until_literal}
use Rattle.words.proofs.Parts.{part_of, word-of}
use Rattle.views.specs.declared.View.{View}
use Rattle.views.specs.declared.Shape.{Shape}
use Rattle.views.specs.Looks.{look_of}
use Rattle.views.specs.Views.{Sees, Shows}
use Rattle.views.specs.Variables.{variable_word, fine_var}
use Rattle.views.specs.Standing.{LiteralAt}
use Rattle.views.proofs.Words.{words_append}
use Rattle.views.proofs.Seen.{literal-here, literal-next}
use Rattle.counts.specs.Counts.{count_hedge}
use Rattle.counts.specs.Tables.{times, table, count_at, added, Beside}
use Rattle.counts.proofs.Times.{Some, times-short, times-literal, some-hedge, some_or, just-one}
use Rattle.counts.proofs.Times as times-laws
use Rattle.counts.proofs.Added.{at_added, length-added, counted}
use Rattle.counts.proofs.Own.{low, nowhere-else}
use Rattle.alone.specs.Lone.{word_of, lone_word, side_variable, lone_variable}
use Rattle.alone.proofs.Sides.{side-look, side-fine, lone-look, lone-fine, word-lone, word_some}
use Rattle.solved.specs.Members.{count_members, InMembers, member_in}

-- ---- counted literal by literal

count-both : (v : Var) (a b : Conj) → count_members v (a ++ b) ≡ count_members v a + count_members v b
count-both v [] b = omega arith
count-both v (eqn l r ∷ a) b = count-both v a b
count-both v (mem h R ∷ a) b = let h = count-both v a b in omega arith

-- b says whether the count is not 0
some-members : (v : Var) (c : Conj) → Some (in_member v c) (count_members v c)
some-members v [] = times-laws.none refl
some-members v (eqn l r ∷ c) = some-members v c
some-members v (mem h R ∷ c) = some_or (some-hedge v h) (some-members v c)

-- a count grows by no more than there are words
pub added-short : (ws t : List ℕ) → length t ≡ table → (x : ℕ) → get_or (added ws t) x 0 ≤ get_or t x 0 + length ws
added-short ws t e x = go (dec_lt x table)
  where
    go : Dec (x < table) → get_or (added ws t) x 0 ≤ get_or t x 0 + length ws
    go (yes h) = let a = at_added x h ws t e in let b = times-short x ws in omega arith
    go (no h) = let z = get_or-eq_default (added ws t) 0 {n = x} (let l = length-added ws t in omega arith) in omega arith

module _ (k t : List ℕ) (i next : ℕ) where
  pub in-length : length (member_in k i next t) ≡ length t
  in-length = go (eqb (get_or k i 0) 6000)
    where
      go : (b : Bool) → length (pick b (added (slice i next k) t) t) ≡ length t
      go true = length-added (slice i next k) t
      go false = refl

  pub in-short : length t ≡ table → next ≤ length k → i ≤ next → (x : ℕ) → get_or (member_in k i next t) x 0 ≤ get_or t x 0 + (next - i)
  in-short e p q x = go (eqb (get_or k i 0) 6000)
    where
      go : (b : Bool) → get_or (pick b (added (slice i next k) t) t) x 0 ≤ get_or t x 0 + (next - i)
      go true = let a = added-short (slice i next k) t e x in let l = length-slice i next k p in omega arith
      go false = omega arith

  pub member-counted : get_or k i 0 ≡ 6000 → added (slice i next k) t ≡ member_in k i next t
  member-counted e = sym (ap (λ b. pick b (added (slice i next k) t) t) (eq-eqb (get_or k i 0) 6000 e))

  pub none-counted : (get_or k i 0 ≡ 6000 → ⊥) → t ≡ member_in k i next t
  none-counted e = sym (ap (λ b. pick b (added (slice i next k) t) t) (ne_eqb (get_or k i 0) 6000 e))

-- the next literal begins within the words
until-short : (ws : List ℕ) → until_literal ws ≤ length ws
unfolding until_literal
until-short [] = omega arith
until-short (x ∷ ws) = go (begins x) (until-short ws)
  where
    go : (b : Bool) → until_literal ws ≤ length ws → pick b 0 (suc (until_literal ws)) ≤ suc (length ws)
    go true h = omega arith
    go false h = omega arith

pub next-within : (k : List ℕ) (i next : ℕ) → i < length k → next ≡ i + 1 + until_literal (drop (i + 1) k) → (i < next) × (next ≤ length k)
next-within k i next p e = let h = until-short (drop (i + 1) k) in let l = length-drop (i + 1) k in (omega arith, omega arith)

-- the literals `done` are counted
pub counts-on : {k t : List ℕ} {i next : ℕ} {done : Conj} {l : Literal} {rest : Conj} → LiteralAt k i done l rest → next ≡ i + 1 + until_literal (drop (i + 1) k) → length t ≡ table
    → InMembers t done → InMembers (member_in k i next t) (done ++ (l ∷ []))
counts-on {k} {t} {i} {next} {done} {l} {rest} p n e m = record { count = λ v f. at v f l p ∙ sym (count-both v done (l ∷ [])) }
  where
    size : (l : Literal) → LiteralAt k i done l rest → slice i next k ≡ literal_words l
    size l p = part_of k i next (literal_words l) (conj_words rest) (literal-here p) (n ∙ literal-next p)

    at : (v : Var) → fine_var desk v → (l : Literal) → LiteralAt k i done l rest → count_at (member_in k i next t) (variable_word v) ≡ count_members v done + count_members v (l ∷ [])
    at v f (eqn a b) p =
        ap (λ s. count_at s (variable_word v)) (sym (none-counted k t i next (λ z. let y = word-of k i (literal_words (eqn a b) ++ conj_words rest) (literal-here p) in omega arith)))
        ∙ m.count v f ∙ (let z : count_members v done ≡ count_members v done + 0 = omega arith in z)
    at v f (mem h R) p =
        let c = ap (λ s. count_at s (variable_word v)) (sym (member-counted k t i next (word-of k i (literal_words (mem h R) ++ conj_words rest) (literal-here p)))) in
        let a = sym (counted (variable_word v) (added (slice i next k) t) (low v f)) ∙ at_added (variable_word v) (low v f) (slice i next k) t e in
        let b = ap (times (variable_word v)) (size (mem h R) p) ∙ times-literal v f (mem h R) p.fine in
        let d = counted (variable_word v) t (low v f) ∙ m.count v f in
        c ∙ (let z : count_at (added (slice i next k) t) (variable_word v) ≡ count_members v done + (count_hedge v h + 0) = omega arith in z)

pub counts-none : {t : List ℕ} → t ≡ replicate table 0 → InMembers t []
counts-none {t} e = record { count = λ v f. sym (counted (variable_word v) t (low v f)) ∙ ap (λ s. get_or s (variable_word v) 0) e ∙ get_or-replicate {A = ℕ} table (variable_word v) 0 0 (low v f) }

pub none-short : {t : List ℕ} → t ≡ replicate table 0 → (x : ℕ) → get_or t x 0 ≤ 0
none-short {t} e x = go (dec_lt x table)
  where
    go : Dec (x < table) → get_or t x 0 ≤ 0
    go (yes h) = let z = ap (λ s. get_or s x 0) e ∙ get_or-replicate {A = ℕ} table x 0 0 h in omega arith
    go (no h) = let z = get_or-eq_default t 0 {n = x} (let l = ap length e ∙ length-replicate {A = ℕ} table 0 in omega arith) in omega arith

-- the counts of a whole, wherever a literal stands in it
pub members-here : {k : List ℕ} {at : ℕ} {before : Conj} {l : Literal} {behind : Conj} {t : List ℕ} → LiteralAt k at before l behind
    → ((c : Conj) → fine_conj desk c → k ≡ conj_words c → InMembers t c) → InMembers t (before ++ (l ∷ behind))
members-here {before = before} {l} {behind} p f = f (before ++ (l ∷ behind)) (fine-append desk before (l ∷ behind) p.fine_before (p.fine, p.fine_behind)) (p.words ∙ sym (words_append before (l ∷ behind)))

-- ---- a lone variable is there once

same-var : (n : ℕ) → ◌≡◌ {A = ℕ} (pick (eqb n n) 1 0) 1
same-var n = ap (λ b. pick b 1 0) (eq-eqb n n refl)

-- where a test of a tree that is not empty fails, nothing is given
own-side : (l r : Hedge) → Where (λ v. count_hedge v l ≡ 1) (variable l r)
own-side ε r = tt
own-side (tvar x ε) r = go (is_term r)
  where
    go : (b : Bool) → Where (λ v. count_hedge v (tvar x ε) ≡ 1) (given b (tv x))
    go true = let z = same-var x.0 in omega arith
    go false = tt
own-side (tvar x (tvar y s)) r = tt
own-side (tvar x (hvar y s)) r = tt
own-side (tvar x (node f c s)) r = tt
own-side (hvar p ε) r = let z = same-var p.0 in omega arith
own-side (hvar p (tvar y s)) r = tt
own-side (hvar p (hvar y s)) r = tt
own-side (hvar p (node f c s)) r = tt
own-side (node (symbol f) c s) r = tt
own-side (node (fvar X) ε ε) r = go (is_functor r)
  where
    go : (b : Bool) → Where (λ v. count_hedge v (node (fvar X) ε ε) ≡ 1) (given b (fv X))
    go true = let z = same-var X.0 in omega arith
    go false = tt
own-side (node (fvar X) ε (tvar y s)) r = tt
own-side (node (fvar X) ε (hvar y s)) r = tt
own-side (node (fvar X) ε (node f c s)) r = tt
own-side (node (fvar X) (tvar y c) s) r = tt
own-side (node (fvar X) (hvar y c) s) r = tt
own-side (node (fvar X) (node f d c) s) r = tt

own-lone : (h : Hedge) → Where (λ v. count_hedge v h ≡ 1) (lone_var h)
own-lone ε = tt
own-lone (tvar x ε) = let z = same-var x.0 in omega arith
own-lone (tvar x (tvar y s)) = tt
own-lone (tvar x (hvar y s)) = tt
own-lone (tvar x (node f c s)) = tt
own-lone (hvar p ε) = let z = same-var p.0 in omega arith
own-lone (hvar p (tvar y s)) = tt
own-lone (hvar p (hvar y s)) = tt
own-lone (hvar p (node f c s)) = tt
own-lone (node f c s) = tt

given-some : {A : Type 0} (b : Bool) (a : A) → is_some (given b a) ≡ b
given-some true a = refl
given-some false a = refl

-- ---- a side of an equation

module _ {k : List ℕ} {v : View} {before : Conj} {l r : Hedge} {behind : Conj} (s : Sees k v before l r behind) (x : ℕ) (ex : x ≡ lone_word (side_variable v.l.look v.r.look)) where
  side-word : x ≡ word_of (variable l r)
  side-word = ex ∙ ap lone_word (ap (λ a. side_variable a v.r.look) s.left.look ∙ ap (side_variable (look_of l)) s.right.look ∙ side-look l r) ∙ word-lone (variable l r)

  pub no-side : x ≡ 0 → false ≡ is_some (alone (before ++ behind) r (variable l r))
  no-side z = go (variable l r) side-word
    where
      go : (o : Option Var) → x ≡ word_of o → false ≡ is_some (alone (before ++ behind) r o)
      go none e = refl
      go (some w) e = absurd (word_some w (sym e ∙ z))

  pub lone-side : {t : List ℕ} → (x ≡ 0 → ⊥) → Beside t (before ++ behind) l r → eqb (count_at t x) 1 ≡ is_some (alone (before ++ behind) r (variable l r))
  lone-side {t} n b = go (variable l r) side-word (side-fine l r s.left.fine) (own-side l r)
    where
      go : (o : Option Var) → x ≡ word_of o → Where (fine_var desk) o → Where (λ w. count_hedge w l ≡ 1) o → eqb (count_at t x) 1 ≡ is_some (alone (before ++ behind) r o)
      go none e f g = absurd (n e)
      go (some w) e f g = ap (λ y. eqb (count_at t y) 1) e ∙ nowhere-else w b f g ∙ sym (given-some (not (holds w r || in_conj w (before ++ behind))) (w, r))

-- ---- a membership among the other literals

module _ {k : List ℕ} {s : Shape} {before : Conj} {h : Hedge} {R : Expr} {behind : Conj} (q : Shows k s before h R behind) (x : ℕ) (ex : x ≡ lone_word (lone_variable s.h.look)) where
  word-is : x ≡ word_of (lone_var h)
  word-is = ex ∙ ap lone_word (ap lone_variable q.hedge.look ∙ lone-look h) ∙ word-lone (lone_var h)

  pub no-lone : x ≡ 0 → false ≡ only_member (before ++ behind) (lone_var h)
  no-lone z = go (lone_var h) word-is
    where
      go : (o : Option Var) → x ≡ word_of o → false ≡ only_member (before ++ behind) o
      go none e = refl
      go (some v) e = absurd (word_some v (sym e ∙ z))

  pub only_here : {t : List ℕ} → (x ≡ 0 → ⊥) → InMembers t (before ++ (mem h R ∷ behind)) → eqb (count_at t x) 1 ≡ only_member (before ++ behind) (lone_var h)
  only_here {t} n m = go (lone_var h) word-is (lone-fine h q.hedge.fine) (own-lone h)
    where
      go : (o : Option Var) → x ≡ word_of o → Where (fine_var desk) o → Where (λ w. count_hedge w h ≡ 1) o → eqb (count_at t x) 1 ≡ only_member (before ++ behind) o
      go none e f g = absurd (n e)
      go (some v) e f g =
          ap (λ y. eqb (count_at t y) 1) e
          ∙ just-one (count_at t (variable_word v)) (some-members v (before ++ behind))
          (let a = m.count v f in let b = count-both v before (mem h R ∷ behind) in let d = count-both v before behind in omega arith)
