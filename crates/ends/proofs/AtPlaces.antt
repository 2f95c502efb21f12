-- Every rule, wherever it applies, leaves conjunctions that are below the one it is applied to.
use Prim.Native.Nat.{◌+◌, ◌≤◌, ◌<◌}
use mathlib.Core.Path.{◌≡◌, refl, ap}
use mathlib.Core.Logic.{◌⊎◌, inl, inr}
use mathlib.Core.Bool.{Bool, true, false}
use mathlib.Core.List.{List, [], ◌∷◌, ◌++◌, map}
use mathlib.Core.Option.{none, some}
use native.Mathlib.Omega.{arith}
use Rattle.language.specs.declared.Signature.{Signature}
use Rattle.language.specs.Trees.{Expr, eps, cat, alt, star, over, Literal, eqn, mem, Conj, Var}
use Rattle.rules.specs.Substitution.{put_c}
use Rattle.rules.specs.Reply.{PairRule}
use Rattle.rules.specs.Rules.{Branch, plain, elims, Answer, Rule, on_eqn, on_mem, on_pair}
use Rattle.rules.specs.Step.{place, placed, results_at}
use Rattle.rules.specs.Each.{Each}
use Rattle.rules.specs.Sides.{AtSides}
use Rattle.rules.proofs.Each.{each_map, each-imp}
use Rattle.rules.proofs.Answers.{Answers}
use Rattle.rules.proofs.Steps.{Gives, gives-results, gives-imp, gives-each, OnSides, on_sides}
use Rattle.rules.proofs.Folding.{Struck, here, further}
use Rattle.exact.specs.Made.{MadeE, MadeL, MadeC}
use Rattle.exact.proofs.Made.{made-++}
use Rattle.exact.proofs.MadeByRules.{MadeBranch, MadeAnswer, MakesEqn, MakesMem}
use Rattle.ends.specs.Measure.{occ_l, occ_c, own, own_c, settled, hedges_l, hedges, rest_l, rest, Below}
use Rattle.ends.proofs.Sums.{occ-++, own-++, hedges-++, rest-++, owns-once, literal-weighs}
use Rattle.ends.proofs.Putting.{Apart, apart, made-apart-all, put-keeps-all, own-stays, clear-all}
use Rattle.ends.proofs.Falls.{LeftAlone, Lighter, Settles, Vanishes, Falls, FallsEqn, FallsMem, falls-swapped}
use Rattle.ends.proofs.Counting.{settled_is, is-settled, unsettled-no-more, unsettled-fewer, In, in-literal}

-- ---- at one literal

module _ (σ : Signature) (before : Conj) (l : Literal) (behind : Conj) where
  abbrev K : Conj
  K = before ++ behind

  abbrev whole : Conj
  whole = before ++ (l ∷ behind)

  occ-whole : (v : Var) → (occ_c v whole ≡ occ_l v l + occ_c v K) × (occ_c v K ≡ occ_c v before + occ_c v behind)
  occ-whole v = let x = occ-++ v before (l ∷ behind) in let y = occ-++ v before behind in (omega arith, y)

  own-whole : (v : Var) → (own_c v whole ≡ own v l + own_c v K) × (own_c v K ≡ own_c v before + own_c v behind)
  own-whole v = let x = own-++ v before (l ∷ behind) in let y = own-++ v before behind in (omega arith, y)

  -- a settled variable does not stand in the literal
  not-here : (v : Var) → LeftAlone K l → settled whole v ≡ true → (occ_l v l ≡ 0) × (own v l ≡ 0)
  not-here v a e =
      let (x, y) = settled_is whole v e in
      let p = (occ-whole v).0 in let q = (own-whole v).0 in let r = owns-once v K in
      elim (a v) [ inl z ↦ (omega arith, z) | inr z ↦ absurd (omega arith) ]

  -- what stands for the literal is made of other variables
  abbrev Others : Branch → Type 0
  Others b = (v : Var) → occ_l v l ≡ 0 → MadeBranch σ (Apart v) (λ _ _ _. tt) b

  none-there : (v : Var) (k : Conj) → MadeC (Apart v) k → (occ_c v k ≡ 0) × (own_c v k ≡ 0)
  none-there v k m = let x = made-apart-all v k m in let y = owns-once v k in (x, omega arith)

  stays : (b : Branch) → Falls K l b → Others b → (v : Var) → settled whole v ≡ true → settled (place before behind b) v ≡ true
  stays (plain ls) f o v e =
      let (x, y) = settled_is whole v e in
      let (n, m) = not-here v f.0 e in
      let (c, d) = none-there v ls (o v n) in
      let p = occ-whole v in let q = own-whole v in
      let a = occ-++ v before (ls ++ behind) in let b = occ-++ v ls behind in
      let g = own-++ v before (ls ++ behind) in let h = own-++ v ls behind in
      is-settled (before ++ (ls ++ behind)) v (let i = p.0 in let j = p.1 in omega arith) (let i = q.0 in let j = q.1 in omega arith)
  stays (elims es ls s) f o v e =
      let (x, y) = settled_is whole v e in
      let (n, m) = not-here v f.0 e in
      let made = o v n in
      let leaves = f.1.0 v n in
      let (c, d) = none-there v es made.0 in
      let (t, u) = none-there v ls made.1 in
      let p = occ-whole v in let q = own-whole v in
      let k₁ = put_c s before in let k₂ = put_c s ls in let k₃ = put_c s behind in
      let a = occ-++ v k₁ (es ++ (k₂ ++ k₃)) in let a₁ = occ-++ v es (k₂ ++ k₃) in let a₂ = occ-++ v k₂ k₃ in
      let g = own-++ v k₁ (es ++ (k₂ ++ k₃)) in let g₁ = own-++ v es (k₂ ++ k₃) in let g₂ = own-++ v k₂ k₃ in
      let z₁ = put-keeps-all v s leaves made.2 before in let z₂ = put-keeps-all v s leaves made.2 ls in let z₃ = put-keeps-all v s leaves made.2 behind in
      let w₁ = own-stays v s leaves made.2 f.1.1 before in let w₃ = own-stays v s leaves made.2 f.1.1 behind in
      let all = owns-once v (k₁ ++ (es ++ (k₂ ++ k₃))) in
      let o₁ = let i = p.0 in let j = p.1 in let r : occ_c v (k₁ ++ (es ++ (k₂ ++ k₃))) ≡ 1 = omega arith in r in
      is-settled (k₁ ++ (es ++ (k₂ ++ k₃))) v o₁ (let i = q.0 in let j = q.1 in omega arith)

  -- ---- below

  module _ (vs : List Var) (in_vs : MadeL (In vs) l) where
    plain-lighter : (ls : Conj) → Lighter ls l → (hedges (before ++ (ls ++ behind)) < hedges whole) ⊎ ((hedges (before ++ (ls ++ behind)) ≤ hedges whole) × (rest (before ++ (ls ++ behind)) < rest whole))
    plain-lighter ls h =
        let a = hedges-++ before (ls ++ behind) in let b = hedges-++ ls behind in let c = hedges-++ before (l ∷ behind) in
        let d = rest-++ before (ls ++ behind) in let e = rest-++ ls behind in let f = rest-++ before (l ∷ behind) in
        elim h [ inl p ↦ inl (omega arith) | inr p ↦ (let x = p.0 in let y = p.1 in inr (omega arith, omega arith)) ]

    was_loose : (es : Conj) (s : _) (t : Settles K l es s) → settled whole t.v ≡ false
    was_loose es s t = go (settled whole t.v) refl
      where
        go : (b : Bool) → settled whole t.v ≡ b → b ≡ false
        go true e =
            let (x, y) = settled_is whole t.v e in
            let p = (occ-whole t.v).0 in let q = (own-whole t.v).0 in let r = owns-once t.v K in let n = t.there in
            absurd (elim t.loose [ inl z ↦ (let u : ⊥ = omega arith in u) | inr z ↦ (let u : ⊥ = omega arith in u) ])
        go false e = refl

    below : (b : Branch) → Falls K l b → Others b → Below vs (place before behind b) whole
    below (plain ls) f o = inr (unsettled-no-more (place before behind (plain ls)) whole (stays (plain ls) f o) vs, plain-lighter ls f.1)
    below (elims es ls s) f o = go f.2
      where
        go : Settles K l es s ⊎ Vanishes l es ls s → Below vs (place before behind (elims es ls s)) whole
        go (inl t) = inl (unsettled-fewer (place before behind (elims es ls s)) whole (stays (elims es ls s) f o) vs t.v (in-literal vs t.v l in_vs t.there) (was_loose es s t) now)
          where
            now : settled (place before behind (elims es ls s)) t.v ≡ true
            now =
                let v = t.v in
                let k₁ = put_c s before in let k₂ = put_c s ls in let k₃ = put_c s behind in
                let a = occ-++ v k₁ (es ++ (k₂ ++ k₃)) in let a₁ = occ-++ v es (k₂ ++ k₃) in let a₂ = occ-++ v k₂ k₃ in
                let g = own-++ v k₁ (es ++ (k₂ ++ k₃)) in let g₁ = own-++ v es (k₂ ++ k₃) in let g₂ = own-++ v k₂ k₃ in
                let z₁ = clear-all v s t.clears before in let z₂ = clear-all v s t.clears ls in let z₃ = clear-all v s t.clears behind in
                let w₁ = owns-once v k₁ in let w₂ = owns-once v k₂ in let w₃ = owns-once v k₃ in
                let x = t.once in let y = t.alone in
                is-settled (k₁ ++ (es ++ (k₂ ++ k₃))) v (omega arith) (omega arith)
        go (inr t) =
            let k₁ = put_c s before in let k₂ = put_c s ls in let k₃ = put_c s behind in
            let a = hedges-++ k₁ (es ++ (k₂ ++ k₃)) in let a₁ = hedges-++ es (k₂ ++ k₃) in let a₂ = hedges-++ k₂ k₃ in
            let b = hedges-++ before (l ∷ behind) in
            let x = t.shorter before in let y = t.shorter behind in let z = t.equations in let w = t.weighed in
            let n = ap (λ c. hedges (put_c s c)) t.nothing-else in
            inr (unsettled-no-more (place before behind (elims es ls s)) whole (stays (elims es ls s) f o) vs, inl (omega arith))

    -- ---- what a rule of one literal answers

    at_literal : (w : Answer) → Answers (Each (Falls K l)) w → ((v : Var) → occ_l v l ≡ 0 → MadeAnswer σ (Apart v) (λ _ _ _. tt) w)
        → Gives (Each (λ j. Below vs j whole)) (placed before behind w)
    at_literal none f o = tt
    at_literal (some bs) f o = go bs f.given (λ v e. (o v e).given)
      where
        go : (bs : List Branch) → Each (Falls K l) bs → ((v : Var) → occ_l v l ≡ 0 → Each (MadeBranch σ (Apart v) (λ _ _ _. tt)) bs) → Each (λ j. Below vs j whole) (map (place before behind) bs)
        go [] f o = tt
        go (b ∷ bs) f o = (below b f.0 (λ v e. (o v e).0), go bs f.1 (λ v e. (o v e).1))

-- ---- a literal that stands twice

struck-occ : {l : Literal} {k j : Conj} (v : Var) → Struck l k j → (occ_c v k ≡ occ_l v l + occ_c v j) × (own_c v k ≡ own v l + own_c v j)
struck-occ v here = (refl, refl)
struck-occ v (further s) = let (x, y) = struck-occ v s in (omega arith, omega arith)

struck-weight : {l : Literal} {k j : Conj} → Struck l k j → (hedges k ≡ hedges_l l + hedges j) × (rest k ≡ rest_l l + rest j)
struck-weight here = (refl, refl)
struck-weight (further s) = let (x, y) = struck-weight s in (omega arith, omega arith)

pub fold-below : (vs : List Var) (before : Conj) (l : Literal) (behind k : Conj) → Struck l behind k → Below vs (before ++ (l ∷ k)) (before ++ (l ∷ behind))
fold-below vs before l behind k s = inr (
  unsettled-no-more (before ++ (l ∷ k)) (before ++ (l ∷ behind)) still vs,
  let (x, y) = struck-weight s in let w = literal-weighs l in
      let a = hedges-++ before (l ∷ behind) in let b = hedges-++ before (l ∷ k) in let c = rest-++ before (l ∷ behind) in let d = rest-++ before (l ∷ k) in
      inr (omega arith, omega arith),
)
  where
    still : (v : Var) → settled (before ++ (l ∷ behind)) v ≡ true → settled (before ++ (l ∷ k)) v ≡ true
    still v e =
        let (x, y) = settled_is (before ++ (l ∷ behind)) v e in
        let (p, q) = struck-occ v s in
        let a = occ-++ v before (l ∷ behind) in let b = occ-++ v before (l ∷ k) in let c = own-++ v before (l ∷ behind) in let d = own-++ v before (l ∷ k) in
        let n = owns-once v (l ∷ []) in
        is-settled (before ++ (l ∷ k)) v (omega arith) (omega arith)

-- ---- a rule

module _ (σ : Signature) (vs : List Var) where
  -- of a rule of two literals, what it leaves is below
  abbrev pub FallsPair : PairRule → Type 0
  FallsPair rule = (before : Conj) (l : Literal) (behind : Conj) → Gives (Each (λ (k : Conj). Below vs (before ++ k) (before ++ (l ∷ behind)))) (rule l behind)

  abbrev pub RuleFalls : Rule → Type 0
  RuleFalls (on_eqn rule) = FallsEqn rule × ((v : Var) → MakesEqn σ (Apart v) (λ _ _ _. tt) rule)
  RuleFalls (on_mem rule) = FallsMem rule × ((v : Var) → MakesMem σ (Apart v) (λ _ _ _. tt) rule)
  RuleFalls (on_pair rule) = FallsPair rule

  -- where all variables are among these, each result is below
  abbrev pub Falling : Conj → List Conj → Type 0
  Falling k ks = MadeC (In vs) k → Each (λ j. Below vs j k) ks

  apart-expr : (v : Var) (R : Expr) → MadeE (Apart v) R
  apart-expr v eps = tt
  apart-expr v (cat a b) = (apart-expr v a, apart-expr v b)
  apart-expr v (alt a b) = (apart-expr v a, apart-expr v b)
  apart-expr v (star a) = apart-expr v a
  apart-expr v (over f a) = (tt, apart-expr v a)

  on-each-side : (rule : Rule) → RuleFalls rule → (before : Conj) (l : Literal) (behind : Conj) → MadeC (In vs) (before ++ (l ∷ behind))
      → OnSides (Each (λ j. Below vs j (before ++ (l ∷ behind)))) before behind rule l
  on-each-side (on_eqn rule) p before (eqn l r) behind m =
      let n = ((made-++ (In vs) before (eqn l r ∷ behind)).0 m).1.0 in (
        at_literal σ before (eqn l r) behind vs n (rule (before ++ behind) l r) (p.0 (before ++ behind) l r) (λ v e. p.1 v (before ++ behind) l r (apart v l (omega arith)) (apart v r (omega arith))),
        at_literal σ before (eqn l r) behind vs n (rule (before ++ behind) r l) (swapped (rule (before ++ behind) r l) (p.0 (before ++ behind) r l))
            (λ v e. p.1 v (before ++ behind) r l (apart v r (omega arith)) (apart v l (omega arith))),
      )
    where
      swapped : (w : Answer) → Answers (Each (Falls (before ++ behind) (eqn r l))) w → Answers (Each (Falls (before ++ behind) (eqn l r))) w
      swapped none a = record { given = tt }
      swapped (some bs) a = record { given = each-imp (Falls (before ++ behind) (eqn r l)) (Falls (before ++ behind) (eqn l r)) (falls-swapped (before ++ behind) l r) bs a.given }
  on-each-side (on_eqn rule) p before (mem h R) behind m = tt
  on-each-side (on_mem rule) p before (eqn l r) behind m = tt
  on-each-side (on_mem rule) p before (mem h R) behind m =
      at_literal σ before (mem h R) behind vs ((made-++ (In vs) before (mem h R ∷ behind)).0 m).1.0 (rule (before ++ behind) h R) (p.0 (before ++ behind) h R)
      (λ v e. p.1 v (before ++ behind) h R (apart v h e) (apart-expr v R))
  on-each-side (on_pair rule) p before l behind m =
      gives-each (Each (λ j. Below vs j (before ++ (l ∷ behind)))) (map (λ (k : Conj). before ++ k)) (rule l behind)
      (gives-imp (Each (λ (k : Conj). Below vs (before ++ k) (before ++ (l ∷ behind)))) _ (rule l behind)
      (λ ks q. each_map (λ (k : Conj). Below vs (before ++ k) (before ++ (l ∷ behind))) (λ j. Below vs j (before ++ (l ∷ behind))) (λ (k : Conj). before ++ k) (λ k b. b) ks q)
      (p before l behind))

  pub rule-falls : (rule : Rule) → RuleFalls rule → AtSides Falling rule
  rule-falls rule p swap before l behind ks e m =
      gives-results (Each (λ j. Below vs j (before ++ (l ∷ behind)))) (results_at swap rule before l behind) ks
      (on_sides (Each (λ j. Below vs j (before ++ (l ∷ behind)))) before behind rule l (on-each-side rule p before l behind m) swap) e
