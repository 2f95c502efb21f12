-- The right side of an equation, an expression and a literal, as the code reads them.
use Prim.Native.Nat.{ℕ, suc, ◌+◌, ◌-◌, ◌<◌, ◌≤◌, min}
use native.Mathlib.Omega.{arith}
use mathlib.Core.Path.{◌≡◌, refl, sym, ap, ap₂, ◌∙◌, subst}
use mathlib.Core.Bool.{Bool, true, false, not}
use mathlib.Core.List.{List, [], ◌∷◌, ◌++◌, append_assoc}
use mathlib.Core.Option.{some}
use lib.ListN.{length, drop, take, length-append}
use lib.Seq.{sets, sets-eq, length-sets}
use borrow.Author.Tests.{not-true, not-false}
use borrow.Rule.Slice.PartMut.{put_mid, Post-is}
use Rattle.language.specs.Limits.{Limits}
use Rattle.language.specs.Between.{between}
use Rattle.language.proofs.Offsets.{length-between}
use Rattle.language.specs.Trees.{Hedge, Expr, eps, cat, alt, star, over}
use Rattle.language.specs.Writing.{hedge_words, expr_words}
use Rattle.grammar.specs.Tokens.{Token, one, run, functor, equals, comma, opens, closes, plus, times, Tokens}
use Rattle.grammar.specs.Grammar.{begins, Spells, choice, Means}
use Rattle.texts.specs.Parsing.{Res, got, stop}
use Rattle.texts.specs.Numbering.{Naming, name_hedge, name_expr}
use Rattle.texts.proofs.Hedges.{Calm}
use Rattle.texts.proofs.Expressions.{Ends, ends-calm}
use Rattle.lexing.specs.declared.Piece.{Piece}
use Rattle.lexing.specs.Bytes.{name_from}
use Rattle.lexing.specs.Pieces.{here, front, next_of, Next}
use Rattle.lexing.proofs.Pieces.{next-law}
use Rattle.text_names.specs.Shelves.{numbering, Shelves}
use Rattle.flat.specs.Flat.{flat_side, flat_expr}
use Rattle.flat.proofs.Sides.{flat-side-spelt, flat-side-read}
use Rattle.flat.proofs.Shapes.{size, flat-expr-spelt, flat-expr-read}
use Rattle.walking.specs.declared.Way.{Way}
use Rattle.walking.specs.Walking.{reads, got_at, Left, Walked}
use Rattle.room_words.specs.Rooms.{Wrote}
use Rattle.shapes.specs.Scanned.{Scanned}
use Rattle.flat.specs.Filling.{operand_on}
use Rattle.backwards.proofs.Cutting.{Over, Stands, stands}
use Rattle.expression_words.specs.Seen.{Expression, whole}
use Rattle.text_words.specs.Literals.{over_of, ReadSide, ReadExpression, Start}
use Rattle.text_words.proofs.Ends.{over-front, not-over, clean_at}

pub over-ends : (us : List Token) → Over us → Ends us
over-ends [] o = tt
over-ends (one x ∷ us) o = o
over-ends (run p ∷ us) o = o
over-ends (functor g ∷ us) o = o
over-ends (equals ∷ us) o = o
over-ends (comma ∷ us) o = tt
over-ends (opens ∷ us) o = o
over-ends (closes ∷ us) o = tt
over-ends (plus ∷ us) o = o
over-ends (times ∷ us) o = o

got_same : {A : Type 0} {r : Res A} {a b : A} {us vs : List Token} → r ≡ got a us → r ≡ got b vs → us ≡ vs
got_same e f = cc

stop-got : {A : Type 0} {B : Type 0} {r : Res A} {a : A} {us : List Token} → r ≡ stop → r ≡ got a us → B
stop-got {A} {B} e f = absurd (let z : ◌≡◌ {A = ℕ} 0 1 = cc in omega arith)

size-named : (ρ : Naming) (R : Expr) → length (expr_words (name_expr ρ R)) ≡ size R
size-named ρ eps = refl
size-named ρ (cat a b) = ap suc (length-append (expr_words (name_expr ρ a)) (expr_words (name_expr ρ b)) ∙ ap₂ ◌+◌ (size-named ρ a) (size-named ρ b) ∙ sym (length-append (expr_words a) (expr_words b)))
size-named ρ (alt a b) = ap suc (length-append (expr_words (name_expr ρ a)) (expr_words (name_expr ρ b)) ∙ ap₂ ◌+◌ (size-named ρ a) (size-named ρ b) ∙ sym (length-append (expr_words a) (expr_words b)))
size-named ρ (star a) = ap suc (size-named ρ a)
size-named ρ (over f a) = ap suc (size-named ρ a)

pub some_same : {o : Tokens} {us vs : List Token} → o ≡ some us → o ≡ some vs → us ≡ vs
some_same e f = cc

-- ---- what stands behind a place

module _ (text : List ℕ) (at : ℕ) (high : at ≤ length text) {p : Piece} (e : p ≡ next_of text at) where
  pub piece : Next text at p
  piece = subst (Next text at) (sym e) (next-law text at high)

  abbrev name : ℕ
  name = name_from (drop p.from text)

  pub front-here : (us : List Token) → here text at ≡ some us → front p.mark (name_from (drop p.from text)) (here text p.to) ≡ some us
  front-here us d = sym piece.reads ∙ d

  pub to_high : p.to ≤ length text
  to_high = piece.high

  pub to_low : at ≤ p.to
  to_low = let a = piece.low in let b = piece.through in omega arith

-- ---- a side, where no bracket opens behind it

module _ (ρ : Naming) {text room : List ℕ} {at n : ℕ} {w : Way} {left : Left} {room' : List ℕ} (k : Walked text (flat_side ρ) left room at n w room') (ts : List Token) (b : here text at ≡ some ts) where
  pub behind : (us : List Token) × (here text w.at ≡ some us)
  behind = clean_at text at w.at k.low k.high k.same ts b

  pub side-got : w.ok ≡ true → (us : List Token) → here text w.at ≡ some us → Calm us → (h : Hedge) × Spells (begins false) h ts us × Wrote room n (hedge_words (name_hedge ρ h)) w.n room'
  side-got o us d c =
      let g = k.good o in
      let e : flat_side ρ ts ≡ got g.0 us = ap (reads (flat_side ρ)) (sym b) ∙ g.1 ∙ ap (got_at g.0) d in
      let s = flat-side-spelt ρ ts us g.0 e in
      let r = flat-side-read ρ s.1 c in
      let z : g.0 ≡ hedge_words (name_hedge ρ s.0) = words_same e r in
      (s.0, s.1, subst (λ ws. Wrote room n ws w.n room') z g.2)
    where
      words_same : {r : Res (List ℕ)} {us vs : List ℕ} {xs ys : List Token} → r ≡ got us xs → r ≡ got vs ys → us ≡ vs
      words_same e f = cc

  -- what a side that is spelt there says of what stands behind
  pub side-is : w.ok ≡ true → (us : List Token) → here text w.at ≡ some us → {h : Hedge} {vs : List Token} → Spells (begins false) h ts vs → Calm vs → us ≡ vs
  side-is o us d s c =
      let g = k.good o in
      let e : flat_side ρ ts ≡ got g.0 us = ap (reads (flat_side ρ)) (sym b) ∙ g.1 ∙ ap (got_at g.0) d in
      got_same e (flat-side-read ρ s c)

  pub no-side : w.ok ≡ false → {h : Hedge} {vs : List Token} → Spells (begins false) h ts vs → Calm vs → ⊥
  no-side o s c = stop-got (ap (reads (flat_side ρ)) (sym b) ∙ k.bad o) (flat-side-read ρ s c)

-- ---- the right side of an equation

module _ (L : Limits) (text names : List ℕ) {room : List ℕ} {at n : ℕ} (s : Start L text names room at n) {w : Way} {left : Left} {room' : List ℕ} (k : Walked text (flat_side (numbering L text names)) left room at n w room') where
  abbrev ρ : Naming
  ρ = numbering L text names

  pub no-right-side : not w.ok ≡ true → ReadSide (numbering L text names) text room at n w room'
  no-right-side o = record {
    low = k.low;
    high = k.high;
    same = k.same;
    fits = k.fits;
    len = k.len;
    good = λ y. absurd (let z : ◌≡◌ {A = ℕ} 0 1 = cc (not-true w.ok o) in omega arith);
    bad = λ y h ts us b d v. no-side ρ k ts b (not-true w.ok o) d (ends-calm us (over-ends us v));
  }

  pub right_side : not w.ok ≡ false → {p : Piece} → p ≡ next_of text w.at → {c : Bool} → c ≡ over_of p.mark → ReadSide (numbering L text names) text room at n (record { ok = c; at = w.at; n = w.n }) room'
  right_side o {p} e {c} f =
      let t = s.clean in
      let u = behind ρ k t.0 t.1 in
      let v = front-here text w.at k.high e u.0 u.1 in
      let y = not-false w.ok o in
      record {
        low = k.low;
        high = k.high;
        same = k.same;
        fits = k.fits;
        len = k.len;
        good = λ x.
            let ov = over-front p.mark _ (here text p.to) u.0 v (sym f ∙ x) in
            let g = side-got ρ k t.0 t.1 y u.0 u.1 (ends-calm u.0 (over-ends u.0 ov)) in
            (g.0, t.0, u.0, t.1, u.1, g.1, ov, g.2);
        bad = λ x h ts us b d ov.
            let z : us ≡ u.0 = sym (side-is ρ k ts b y u.0 u.1 d (ends-calm us (over-ends us ov))) in
            not-over p.mark _ (here text p.to) u.0 v (sym f ∙ x) (subst Over z ov);
      }

-- ---- an expression

module _ (L : Limits) (text names : List ℕ) {room : List ℕ} {at n : ℕ} (s : Start L text names room at n) {w : Way} (k : Scanned L text at w) where
  abbrev τ : Naming
  τ = numbering L text names

  expr-behind : (us : List Token) × (here text w.at ≡ some us)
  expr-behind = clean_at text at w.at k.low k.high k.same s.clean.0 s.clean.1

  pub no-expression : not w.ok ≡ true → ReadExpression (numbering L text names) text room at n (record { ok = false; at = at; n = n }) room
  no-expression o = record {
    low = omega arith;
    high = s.high;
    same = refl;
    fits = s.place;
    len = refl;
    good = λ y. absurd (let z : ◌≡◌ {A = ℕ} 0 1 = cc in omega arith);
    bad = λ y R ts us b m v. stop-got (ap (reads flat_expr) (sym b) ∙ k.bad (not-true w.ok o)) (flat-expr-read m (over-ends us v));
  }

  module _ (o : not w.ok ≡ false) {p : Piece} (e : p ≡ next_of text w.at) {c : Bool} (f : c ≡ over_of p.mark) where
    flat-here : (ts : List Token) → here text at ≡ some ts → flat_expr ts ≡ got (k.good (not-false w.ok o)).0 expr-behind.0
    flat-here ts b = let g = k.good (not-false w.ok o) in ap (reads flat_expr) (sym b) ∙ g.1 ∙ ap (got_at g.0) expr-behind.1

    pub not-ended : not c ≡ true → ReadExpression (numbering L text names) text room at n (record { ok = false; at = at; n = n }) room
    not-ended q = record {
      low = omega arith;
      high = s.high;
      same = refl;
      fits = s.place;
      len = refl;
      good = λ y. absurd (let z : ◌≡◌ {A = ℕ} 0 1 = cc in omega arith);
      bad = λ y R ts us b m v.
          let z : us ≡ expr-behind.0 = got_same (flat-expr-read m (over-ends us v)) (flat-here ts b) in
          not-over p.mark _ (here text p.to) expr-behind.0 (front-here text w.at k.high e expr-behind.0 expr-behind.1) (sym f ∙ not-true c q) (subst Over z v);
    }

    module _ (q : not c ≡ false) where
      over-here : Over expr-behind.0
      over-here = over-front p.mark _ (here text p.to) expr-behind.0 (front-here text w.at k.high e expr-behind.0 expr-behind.1) (sym f ∙ not-false c q)

      expr-here : (R : Expr) × Means choice R s.clean.0 expr-behind.0
      expr-here = flat-expr-spelt s.clean.0 expr-behind.0 (k.good (not-false w.ok o)).0 (flat-here s.clean.0 s.clean.1)

      counted : (k.good (not-false w.ok o)).0 ≡ size expr-here.0
      counted = number_same (flat-here s.clean.0 s.clean.1) (flat-expr-read expr-here.1 (over-ends expr-behind.0 over-here))
        where
          number_same : {r : Res ℕ} {a b : ℕ} {us vs : List Token} → r ≡ got a us → r ≡ got b vs → a ≡ b
          number_same e f = cc

      many : length (expr_words (name_expr τ expr-here.0)) ≡ (k.good (not-false w.ok o)).0
      many = size-named τ expr-here.0 ∙ sym counted

      capped : w.n ≡ min (L.question + 1) (length (expr_words (name_expr τ expr-here.0)))
      capped = (k.good (not-false w.ok o)).2 ∙ ap (min (L.question + 1)) (sym many)

      -- no room for it
      pub expression-full : length room - n < w.n → ReadExpression (numbering L text names) text room at n (record { ok = true; at = w.at; n = length room }) room
      expression-full x = record {
        low = k.low;
        high = k.high;
        same = k.same;
        fits = omega arith;
        len = refl;
        good = λ y. (expr-here.0, s.clean.0, expr-behind.0, s.clean.1, expr-behind.1, expr-here.1, over-here, full (length (expr_words (name_expr τ expr-here.0))) capped refl);
        bad = λ y. absurd (let z : ◌≡◌ {A = ℕ} 0 1 = cc in omega arith);
      }
        where
          full : (m : ℕ) → w.n ≡ min (L.question + 1) m → {ws : List ℕ} → length ws ≡ m → Wrote room n ws (length room) room
          full m c {ws} l =
              let more : length room < n + m = let p = s.place in omega arith in
              record { place = omega arith; len = refl; words = λ q. absurd (omega arith) }

      module _ (x : w.n ≤ length room - n) where
        fitting : w.n ≡ length (expr_words (name_expr τ expr-here.0))
        fitting = let c = capped in let p = s.place in let b = s.begun in let h = s.short in omega arith

        stood : Stands τ text at w.at expr-here.0
        stood = stands τ text at w.at k.low k.high k.same s.clean.1 expr-behind.1 expr-here.1 over-here

        -- what writing it asks of a part of the room that is as long
        to_write : (part : List ℕ) → length part ≡ w.n → Expression (numbering L text names) text at w.at part
        to_write part l = record {
          low = k.low;
          high = k.high;
          ends = stood.ends;
          fits = let h = stood.heavy in let g = fitting in omega arith;
          long = ap length stood.words ∙ sym fitting ∙ sym l;
        }

        pub writable : {part : List ℕ} → length part ≡ w.n → Shelves L names × Expression (numbering L text names) text at w.at part × (length part ≤ L.question + 1)
        writable {part} l = let pl = s.place in let h = s.short in (s.shelves, to_write part l, omega arith)

        pub expression-written : {part : List ℕ} → part ≡ operand_on (whole (numbering L text names) text at w.at)
            → ReadExpression (numbering L text names) text room at n (record { ok = true; at = w.at; n = n + w.n }) (put_mid n (n + w.n - n) room part)
        expression-written {part} y =
            let pl = s.place in
            let room' = put_mid n (n + w.n - n) room part in
            let z : room' ≡ take n room ++ part ++ drop (n + w.n) room = ap (λ l. take n room ++ (part ++ l)) (Post-is n (n + w.n) room (omega arith)) ∙ sym (append_assoc (take n room) part (drop (n + w.n) room)) in
            let words = y ∙ stood.words in
            let all : room' ≡ sets room n (expr_words (name_expr τ expr-here.0)) =
            z ∙ ap₂ (λ ws e. take n room ++ ws ++ drop e room) words (ap (λ m. n + m) fitting) ∙ sym (sets-eq (expr_words (name_expr τ expr-here.0)) room n (let g = fitting in omega arith)) in
            let wr : Wrote room n (expr_words (name_expr τ expr-here.0)) (n + w.n) room' = record {
              place = let g = fitting in omega arith;
              len = ap length all ∙ length-sets room n (expr_words (name_expr τ expr-here.0));
              words = λ q. all;
            } in
            record {
              low = k.low;
              high = k.high;
              same = k.same;
              fits = omega arith;
              len = wr.len;
              good = λ v. (expr-here.0, s.clean.0, expr-behind.0, s.clean.1, expr-behind.1, expr-here.1, over-here, wr);
              bad = λ v. absurd (let u : ◌≡◌ {A = ℕ} 0 1 = cc in omega arith);
            }

-- the part of the room for an expression that fits
pub part-long : {L : Limits} {text names room : List ℕ} {at n m : ℕ} → Start L text names room at n → m ≤ length room - n → length (between n (n + m) room) ≡ m
part-long {L} {text} {names} {room} {at} {n} {m} s p = length-between n (n + m) room (let h = s.place in omega arith) ∙ (let z : n + m - n ≡ m = omega arith in z)
