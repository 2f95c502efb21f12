-- A literal, as the code reads it: an equation or a membership.
use Prim.Native.Nat.{ℕ, suc, ◌<◌, ◌≤◌}
use native.Mathlib.Omega.{arith}
use mathlib.Core.Path.{◌≡◌, refl, sym, ap, ap₂, ◌∙◌, subst}
use mathlib.Core.Bool.{Bool, true, false, not, ◌&&◌}
use mathlib.Core.List.{List, [], ◌∷◌}
use mathlib.Core.Option.{some}
use lib.ListN.{length, drop, set, length-set}
use lib.Seq.{sets, set_comm, set-set}
use lib.Dec.{eqb}
use borrow.Author.Tests.{eq-eqb, eqb-true, not-true, not-false}
use Rattle.language.proofs.Bools.{both_true}
use Rattle.language.specs.Limits.{Limits}
use Rattle.language.specs.Trees.{Hedge, Expr, Literal, eqn, mem}
use Rattle.language.specs.Writing.{hedge_words, expr_words, literal_words}
use Rattle.grammar.specs.Tokens.{Token, equals, name_token}
use Rattle.grammar.specs.Grammar.{begins, Spells, choice, Means, in_sym, Says, equal, member}
use Rattle.texts.specs.Numbering.{Naming, name_hedge, name_expr, name_literal}
use Rattle.texts.proofs.Hedges.{Calm}
use Rattle.lexing.specs.declared.Piece.{Piece}
use Rattle.lexing.specs.Bytes.{others, name_from, sort_of}
use Rattle.lexing.specs.Pieces.{here, front, next_of}
use Rattle.text_names.specs.Shelves.{numbering}
use Rattle.flat.specs.Flat.{flat_side}
use Rattle.walking.specs.declared.Way.{Way}
use Rattle.walking.specs.Walking.{Left, Walked}
use Rattle.room_words.specs.Rooms.{Put, Wrote}
use Rattle.room_words.proofs.Rooms.{put-wrote, wrote_then}
use Rattle.backwards.proofs.Cutting.{Over}
use Rattle.text_words.specs.Literals.{equals_of, in_name, in_of, ReadSide, ReadExpression, ReadLiteral, Start}
use Rattle.text_words.proofs.Ends.{equals-front, symbol-front, not-equals, not-symbol}
use Rattle.text_words.proofs.Sides.{behind, front-here, no-side, piece, side-got, side-is, some_same, to_high, to_low}

-- the first word put in last
head-last : {room room' : List ℕ} {n r : ℕ} {us : List ℕ} (a w : ℕ) → Wrote room n (a ∷ us) r room' → Wrote room n (w ∷ us) r (set room' n w)
head-last {room} {room'} {n} {r} {us} a w k = record {
  place = k.place;
  len = length-set room' n w ∙ k.len;
  words = λ q. ap (λ l. set l n w) (k.words q) ∙ over room n us;
}
  where
    past : (room us : List ℕ) (n m : ℕ) → m < n → set (sets room n us) m w ≡ sets (set room m w) n us
    past room [] n m p = refl
    past room (u ∷ us) n m p = past (set room n u) us (suc n) m (omega arith) ∙ ap (λ l. sets l (suc n) us) (set_comm room n m u w (λ e. omega arith))

    over : (room : List ℕ) (n : ℕ) (us : List ℕ) → set (sets room n (a ∷ us)) n w ≡ sets room n (w ∷ us)
    over room n us = past (set room n a) us (suc n) n (omega arith) ∙ ap (λ l. sets l (suc n) us) (set-set room n a w)

true-false : {A : Type 0} {b : Bool} → b ≡ true → b ≡ false → A
true-false e f = absurd (let z : ◌≡◌ {A = ℕ} 0 1 = cc in omega arith)

tail-same : {x y : Token} {us vs : List Token} → x ∷ us ≡ y ∷ vs → us ≡ vs
tail-same e = cc

equals-name : {A : Type 0} {us vs : List Token} {x : ℕ} → equals ∷ us ≡ name_token x ∷ vs → A
equals-name e = absurd (let z : ◌≡◌ {A = ℕ} 0 1 = cc in omega arith)

module _ (L : Limits) (text names : List ℕ) {room : List ℕ} {at n : ℕ} (s : Start L text names room at n) {k : ℕ} {room₁ : List ℕ} (h₀ : Put room n (0 ∷ []) k room₁) {l : Way} {room₂ : List ℕ}
    {left : Left} (d : Walked text (flat_side (numbering L text names)) left room₁ at k l room₂) where
  h : Wrote room n (0 ∷ []) k room₁
  h = put-wrote h₀

  abbrev σ : Naming
  σ = numbering L text names

  len-two : length room₂ ≡ length room
  len-two = d.len ∙ h.len

  pub no-literal : not l.ok ≡ true → ReadLiteral (numbering L text names) text room at n (record { ok = false; at = at; n = n }) room₂
  no-literal o = record {
    low = omega arith;
    high = s.high;
    same = refl;
    fits = s.place;
    len = len-two;
    good = λ y. absurd (let z : ◌≡◌ {A = ℕ} 0 1 = cc in omega arith);
    bad = λ y a ts us b m v. on a ts us b m;
  }
    where
      on : (a : Literal) (ts us : List Token) → here text at ≡ some ts → Says a ts us → ⊥
      on (eqn x y) ts us b (equal e f) = no-side σ d ts b (not-true l.ok o) e tt
      on (mem x R) ts us b (member e f) = no-side σ d ts b (not-true l.ok o) e tt

  module _ (o : not l.ok ≡ false) {p : Piece} (e : p ≡ next_of text l.at) where
    after : (us : List Token) × (here text l.at ≡ some us)
    after = behind σ d s.clean.0 s.clean.1

    front-after : front p.mark (name_from (drop p.from text)) (here text p.to) ≡ some after.0
    front-after = front-here text l.at d.high e after.0 after.1

    left_is : (ts : List Token) → here text at ≡ some ts → {x : Hedge} {vs : List Token} → Spells (begins false) x ts vs → Calm vs → after.0 ≡ vs
    left_is ts b q c = side-is σ d ts b (not-false l.ok o) after.0 after.1 q c

    here-one : 1 ≤ l.n
    here-one =
        let g = (d.good (not-false l.ok o)).2.place in
        let f = h.place in
        let q = s.begun in
        let t = s.place in
        let x = h.len in
        omega arith

    starts : (vs : List Token) → here text p.to ≡ some vs → Start L text names room₂ p.to l.n
    starts vs b = record {
      high = to_high text l.at d.high e;
      shelves = s.shelves;
      begun = here-one;
      place = let q = d.fits in let x = d.len in omega arith;
      short = let x = len-two in let q = s.short in omega arith;
      clean = (vs, b);
    }

    below : at ≤ p.to
    below = let x = d.low in let y = to_low text l.at d.high e in omega arith

    same_line : others (drop at text) ≡ others (drop p.to text)
    same_line = d.same ∙ (piece text l.at d.high e).same

    left-written : (x : Hedge) → Wrote room₁ k (hedge_words (name_hedge σ x)) l.n room₂ → Wrote room n (0 ∷ hedge_words (name_hedge σ x)) l.n room₂
    left-written x w = wrote_then s.place h w

    -- an equation
    module _ {c : Bool} (f : c ≡ equals_of p.mark) where
      module _ (t : c ≡ true) where
        eq : (vs : List Token) × (here text p.to ≡ some vs) × (after.0 ≡ equals ∷ vs)
        eq = equals-front p.mark (name_from (drop p.from text)) (here text p.to) after.0 front-after (sym f ∙ t)

        pub right-starts : Start L text names room₂ p.to l.n
        right-starts = starts eq.0 eq.1

        equation-set : {r : Way} {room₃ : List ℕ} → ReadSide (numbering L text names) text room₂ p.to l.n r room₃ → ReadLiteral (numbering L text names) text room at n r (set room₃ n 5000)
        equation-set {r} {room₃} w = record {
          low = let x = below in let y = w.low in omega arith;
          high = w.high;
          same = same_line ∙ w.same;
          fits = let x = w.fits in let y = len-two in omega arith;
          len = length-set room₃ n 5000 ∙ w.len ∙ len-two;
          good = λ y. made (w.good y);
          bad = λ y a ts us b m v. unmade y a ts us b m v;
        }
          where
            made : (a : Hedge) × (vs : List Token) × (us : List Token) × (here text p.to ≡ some vs) × (here text r.at ≡ some us) × Spells (begins false) a vs us × Over us × Wrote room₂ l.n (hedge_words (name_hedge σ a)) r.n room₃
                → (a : Literal) × (ts : List Token) × (us : List Token) × (here text at ≡ some ts) × (here text r.at ≡ some us) × Says a ts us × Over us × Wrote room n (literal_words (name_literal σ a)) r.n (set room₃ n 5000)
            made g =
                let z : g.1 ≡ eq.0 = some_same g.3 eq.1 in
                let u : after.0 ≡ equals ∷ g.1 = eq.2 ∙ ap (λ vs. equals ∷ vs) (sym z) in
                let left = side-got σ d s.clean.0 s.clean.1 (not-false l.ok o) (equals ∷ g.1) (after.1 ∙ ap some u) tt in (
                  eqn left.0 g.0,
                  s.clean.0,
                  g.2,
                  s.clean.1,
                  g.4,
                  equal left.1 g.5,
                  g.6,
                  head-last 0 5000 (wrote_then s.place (left-written left.0 left.2) g.7),
                )

            unmade : r.ok ≡ false → (a : Literal) (ts us : List Token) → here text at ≡ some ts → Says a ts us → Over us → ⊥
            unmade y (eqn x z) ts us b (equal {us = ws} m q) v = w.bad y z ws us (eq.1 ∙ ap some (tail-same (sym eq.2 ∙ left_is ts b m tt))) q v
            unmade y (mem x R) ts us b (member m q) v = equals-name (sym eq.2 ∙ left_is ts b m tt)

        pub an-equation : {r : Way} {room₃ room₄ : List ℕ} → ReadSide (numbering L text names) text room₂ p.to l.n r room₃ → room₄ ≡ set room₃ n 5000 → ReadLiteral (numbering L text names) text room at n r room₄
        an-equation {r} w q = subst (ReadLiteral σ text room at n r) (sym q) (equation-set w)

      -- neither = nor in; and `in`
      module _ (t : c ≡ false) {j : Bool} (g : j ≡ in_of text p.mark p.from) where
        pub neither : not j ≡ true → ReadLiteral (numbering L text names) text room at n (record { ok = false; at = at; n = n }) room₂
        unfolding in_of in_name
        neither q = record {
          low = omega arith;
          high = s.high;
          same = refl;
          fits = s.place;
          len = len-two;
          good = λ y. absurd (let z : ◌≡◌ {A = ℕ} 0 1 = cc in omega arith);
          bad = λ y a ts us b m v. on a ts us b m;
        }
          where
            is-in : sort_of p.mark ≡ 1 → name_from (drop p.from text) ≡ in_sym.0 → in_of text p.mark p.from ≡ true
            is-in x y = ap₂ ◌&&◌ (eq-eqb (sort_of p.mark) 1 x) (eq-eqb (name_from (drop p.from text)) in_sym.0 y)

            on : (a : Literal) (ts us : List Token) → here text at ≡ some ts → Says a ts us → ⊥
            on (eqn x y) ts us b (equal {us = ws} m f') = not-equals p.mark (name_from (drop p.from text)) (here text p.to) after.0 ws front-after (sym f ∙ t) (left_is ts b m tt)
            on (mem x R) ts us b (member {us = ws} m f') =
                let w = not-symbol p.mark (name_from (drop p.from text)) in_sym.0 (here text p.to) after.0 ws front-after (left_is ts b m tt) in
                true-false (is-in w.0 w.1) (sym g ∙ not-true j q)

        module _ (q : not j ≡ false) where
          sorted : (sort_of p.mark ≡ 1) × (name_from (drop p.from text) ≡ in_sym.0)
          unfolding in_of in_name
          sorted = let w = both_true (eqb (sort_of p.mark) 1) (eqb (name_from (drop p.from text)) in_sym.0) (sym g ∙ not-false j q) in (eqb-true (sort_of p.mark) 1 w.0, eqb-true (name_from (drop p.from text)) in_sym.0 w.1)

          word : (vs : List Token) × (here text p.to ≡ some vs) × (after.0 ≡ name_token in_sym.0 ∷ vs)
          word =
              let w = symbol-front p.mark (name_from (drop p.from text)) (here text p.to) after.0 front-after sorted.0 in
              (w.0, w.1, w.2 ∙ ap (λ x. name_token x ∷ w.0) sorted.1)

          pub expression-starts : Start L text names room₂ p.to l.n
          expression-starts = starts word.0 word.1

          membership-set : {r : Way} {room₃ : List ℕ} → ReadExpression (numbering L text names) text room₂ p.to l.n r room₃ → ReadLiteral (numbering L text names) text room at n r (set room₃ n 6000)
          membership-set {r} {room₃} w = record {
            low = let x = below in let y = w.low in omega arith;
            high = w.high;
            same = same_line ∙ w.same;
            fits = let x = w.fits in let y = len-two in omega arith;
            len = length-set room₃ n 6000 ∙ w.len ∙ len-two;
            good = λ y. made (w.good y);
            bad = λ y a ts us b m v. unmade y a ts us b m v;
          }
            where
              made : (a : Expr) × (vs : List Token) × (us : List Token) × (here text p.to ≡ some vs) × (here text r.at ≡ some us) × Means choice a vs us × Over us × Wrote room₂ l.n (expr_words (name_expr σ a)) r.n room₃
                  → (a : Literal) × (ts : List Token) × (us : List Token) × (here text at ≡ some ts) × (here text r.at ≡ some us) × Says a ts us × Over us × Wrote room n (literal_words (name_literal σ a)) r.n (set room₃ n 6000)
              made g =
                  let z : g.1 ≡ word.0 = some_same g.3 word.1 in
                  let u : after.0 ≡ name_token in_sym.0 ∷ g.1 = word.2 ∙ ap (λ vs. name_token in_sym.0 ∷ vs) (sym z) in
                  let left = side-got σ d s.clean.0 s.clean.1 (not-false l.ok o) (name_token in_sym.0 ∷ g.1) (after.1 ∙ ap some u) tt in (
                    mem left.0 g.0,
                    s.clean.0,
                    g.2,
                    s.clean.1,
                    g.4,
                    member left.1 g.5,
                    g.6,
                    head-last 0 6000 (wrote_then s.place (left-written left.0 left.2) g.7),
                  )

              unmade : r.ok ≡ false → (a : Literal) (ts us : List Token) → here text at ≡ some ts → Says a ts us → Over us → ⊥
              unmade y (eqn x z) ts us b (equal m q) v = equals-name (sym (left_is ts b m tt) ∙ word.2)
              unmade y (mem x R) ts us b (member {us = ws} m q) v = w.bad y R ws us (word.1 ∙ ap some (tail-same (sym word.2 ∙ left_is ts b m tt))) q v

          pub a-membership : {r : Way} {room₃ room₄ : List ℕ} → ReadExpression (numbering L text names) text room₂ p.to l.n r room₃ → room₄ ≡ set room₃ n 6000 → ReadLiteral (numbering L text names) text room at n r room₄
          a-membership {r} w x = subst (ReadLiteral σ text room at n r) (sym x) (membership-set w)
