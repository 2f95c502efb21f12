-- Literals with commas between them, and lines.
use Prim.Native.Nat.{ℕ, ◌-◌, ◌<◌, ◌≤◌}
use native.Mathlib.Omega.{arith}
use mathlib.Core.Path.{◌≡◌, refl, sym, ap, ◌∙◌, subst}
use mathlib.Core.Bool.{true, false, not}
use mathlib.Core.List.{List, [], ◌∷◌, ◌++◌, append_assoc}
use mathlib.Core.Option.{some}
use lib.ListN.{length, drop}
use borrow.Author.Tests.{not-true, not-false}
use Rattle.language.specs.Limits.{Limits}
use Rattle.language.specs.Trees.{Literal, Conj}
use Rattle.language.specs.Writing.{literal_words, conj_words}
use Rattle.grammar.specs.Tokens.{Token, one, run, functor, equals, comma, opens, closes, plus, times, Tokens}
use Rattle.grammar.specs.Grammar.{Says, Literals, final, another, Line, asks_nothing, asks}
use Rattle.texts.specs.Numbering.{Naming, name_literal, name_conj}
use Rattle.texts.proofs.Readings.{literal-read}
use Rattle.lexing.specs.declared.Piece.{Piece}
use Rattle.lexing.specs.Bytes.{others}
use Rattle.lexing.specs.Pieces.{here, next_of}
use Rattle.text_names.specs.Shelves.{numbering}
use Rattle.walking.specs.declared.Way.{Way}
use Rattle.room_words.specs.Rooms.{Wrote}
use Rattle.room_words.proofs.Rooms.{wrote_then, wrote_none}
use Rattle.backwards.proofs.Cutting.{Over}
use Rattle.text_words.specs.Literals.{ReadLiteral, Start}
use Rattle.text_words.proofs.Sides.{over-ends}
use Rattle.text_words.specs.Conjunctions.{turn_of, Nothing, ReadLiterals, ReadLine}
use Rattle.text_words.proofs.Pairs.{piece, past, end-here, not_end, comma-here}

some_same : {o : Tokens} {us vs : List Token} → o ≡ some us → o ≡ some vs → us ≡ vs
some_same e f = cc

nothing-behind : (l : List ℕ) → l ++ [] ≡ l
nothing-behind [] = refl
nothing-behind (n ∷ l) = ap (λ z. n ∷ z) (nothing-behind l)

-- ---- what is over goes on with a comma, or not at all

over-comma : (us : List Token) → Over us → (us ≡ [] → ⊥) → (vs : List Token) × (us ≡ comma ∷ vs)
over-comma [] o n = absurd (n refl)
over-comma (one x ∷ us) o n = absurd o
over-comma (run p ∷ us) o n = absurd o
over-comma (functor g ∷ us) o n = absurd o
over-comma (equals ∷ us) o n = absurd o
over-comma (comma ∷ us) o n = (us, refl)
over-comma (opens ∷ us) o n = absurd o
over-comma (closes ∷ us) o n = absurd o
over-comma (plus ∷ us) o n = absurd o
over-comma (times ∷ us) o n = absurd o

-- a literal has one reading
one-literal : {a b : Literal} {ts us vs : List Token} → Says a ts us → Over us → Says b ts vs → Over vs → (a ≡ b) × (us ≡ vs)
one-literal {a} {b} {ts} {us} {vs} m o n q = let e = literal-read m (over-ends us o) in let f = literal-read n (over-ends vs q) in let g = sym e ∙ f in (cc, cc)

first_of : {k : Conj} {ts : List Token} → Literals k ts → (l : Literal) × (us : List Token) × Says l ts us × Over us
first_of (final {l} {ts} m) = (l, [], m, tt)
first_of (another {l} {k} {ts} {us} m d) = (l, comma ∷ us, m, tt)

-- where a comma stands behind the first literal, others follow
others-of : {k : Conj} {ts : List Token} → Literals k ts → (l : Literal) (us : List Token) → Says l ts (comma ∷ us) → (r : Conj) × (k ≡ l ∷ r) × Literals r us
others-of (final {l} {ts} m) a us n = absurd (let w = (one-literal m tt n tt).1 in let z = ap length w in omega arith)
others-of (another {l} {k} {ts} {us = vs} m d) a us n = let w = one-literal m tt n tt in (k, ap (λ x. x ∷ k) w.0, subst (Literals k) (let z : vs ≡ us = tail w.1 in z) d)
  where
    tail : {us vs : List Token} → comma ∷ us ≡ comma ∷ vs → us ≡ vs
    tail e = cc

-- ---- the words of conjunctions one behind the other

words-++ : (ρ : Naming) (a b : Conj) → conj_words (name_conj ρ (a ++ b)) ≡ conj_words (name_conj ρ a) ++ conj_words (name_conj ρ b)
words-++ ρ [] b = refl
words-++ ρ (l ∷ a) b = ap (λ ws. literal_words (name_literal ρ l) ++ ws) (words-++ ρ a b) ∙ sym (append_assoc (literal_words (name_literal ρ l)) (conj_words (name_conj ρ a)) (conj_words (name_conj ρ b)))

words_snoc : (ρ : Naming) (a : Conj) (l : Literal) → conj_words (name_conj ρ a) ++ literal_words (name_literal ρ l) ≡ conj_words (name_conj ρ (a ++ (l ∷ [])))
words_snoc ρ a l = sym (words-++ ρ a (l ∷ []) ∙ ap (λ ws. conj_words (name_conj ρ a) ++ ws) (nothing-behind (literal_words (name_literal ρ l))))

-- ---- the loop over literals

module _ (L : Limits) (text names room : List ℕ) (at n : ℕ) where
  abbrev ρ : Naming
  ρ = numbering L text names

  pub record Going (i k : ℕ) (room' : List ℕ) : Type 0 where
    pub start : Start L text names room at n
    pub now : Start L text names room' i k
    pub low : at ≤ i
    pub same : others (drop at text) ≡ others (drop i text)
    pub len : length room' ≡ length room
    pub done : Conj
    pub wrote : Wrote room n (conj_words (name_conj (numbering L text names) done)) k room'
    pub joins : (r : Conj) (us : List Token) → here text i ≡ some us → Literals r us → Literals (done ++ r) start.clean.0
    pub back : (k : Conj) → Literals k start.clean.0 → (r : Conj) × (us : List Token) × (here text i ≡ some us) × (k ≡ done ++ r) × Literals r us

  pub literals-start : Start L text names room at n → Going at n room
  literals-start p = record {
    start = p;
    now = p;
    low = omega arith;
    same = refl;
    len = refl;
    done = [];
    wrote = wrote_none p.place;
    joins = λ r us e q. subst (Literals r) (some_same e p.clean.1) q;
    back = λ k q. (k, p.clean.0, p.clean.1, refl, q);
  }

  module _ {i k : ℕ} {room' : List ℕ} (g : Going i k room') {w : Way} {room'' : List ℕ} (r : ReadLiteral (numbering L text names) text room' i k w room'') where
    pub literals-bad : not w.ok ≡ true → ReadLiterals (numbering L text names) text room at n (record { ok = false; at = i; n = k }) room''
    literals-bad f = record {
      low = g.low;
      high = g.now.high;
      same = λ y. absurd (let z : ◌≡◌ {A = ℕ} 0 1 = cc in omega arith);
      fits = let p = g.now.place in let l = g.len in omega arith;
      len = r.len ∙ g.len;
      ends = λ y. absurd (let z : ◌≡◌ {A = ℕ} 0 1 = cc in omega arith);
      good = λ y. absurd (let z : ◌≡◌ {A = ℕ} 0 1 = cc in omega arith);
      bad = λ y k ts e q.
          let b = g.back k (subst (Literals k) (some_same e g.start.clean.1) q) in
          let f' = first_of b.4 in
          r.bad (not-true w.ok f) f'.0 b.1 f'.1 b.2 f'.2 f'.3;
    }

    module _ (f : not w.ok ≡ false) {p : Piece} (e : p ≡ next_of text w.at) {c : ℕ} (h : c ≡ turn_of p.mark) where
      got-literal : (a : Literal) × (ts : List Token) × (us : List Token) × (here text i ≡ some ts) × (here text w.at ≡ some us) × Says a ts us × Over us × Wrote room' k (literal_words (name_literal ρ a)) w.n room''
      got-literal = r.good (not-false w.ok f)

      all-written : Wrote room n (conj_words (name_conj ρ (g.done ++ (got-literal.0 ∷ [])))) w.n room''
      all-written = subst (λ ws. Wrote room n ws w.n room'') (words_snoc ρ g.done got-literal.0) (wrote_then g.start.place g.wrote got-literal.7)

      pub literals_end : c ≡ 1 → ReadLiterals (numbering L text names) text room at n (record { ok = true; at = p.to; n = w.n }) room''
      literals_end z =
          let x = past text w.at r.high e in
          let y = end-here text w.at r.high e h z in
          record {
            low = let a = g.low in let b = r.low in omega arith;
            high = x.1;
            same = λ ◌'. g.same ∙ r.same ∙ (piece text w.at r.high e).same;
            fits = let a = r.fits in let b = g.len in omega arith;
            len = r.len ∙ g.len;
            ends = λ ◌'. y.1;
            good = λ ◌'. (
              g.done ++ (got-literal.0 ∷ []),
              g.start.clean.0,
              g.start.clean.1,
              g.joins (got-literal.0 ∷ []) got-literal.1 got-literal.3 (final (subst (Says got-literal.0 got-literal.1) (some_same got-literal.4 y.0) got-literal.5)),
              all-written,
            );
            bad = λ ◌'. absurd (let v : ◌≡◌ {A = ℕ} 0 1 = cc in omega arith);
          }

      module _ (z : c ≡ 1 → ⊥) where
        goes : (vs : List Token) × (got-literal.2 ≡ comma ∷ vs)
        goes = over-comma got-literal.2 got-literal.6 (λ q. not_end text w.at r.high e h z (got-literal.4 ∙ ap some q))

        says : Says got-literal.0 got-literal.1 (comma ∷ goes.0)
        says = subst (Says got-literal.0 got-literal.1) goes.1 got-literal.5

        behind-comma : (here text p.to ≡ some goes.0) × (w.at < p.to)
        behind-comma = comma-here text w.at r.high e goes.0 (got-literal.4 ∙ ap some goes.1)

        pub literals-less : length text - p.to < length text - i
        literals-less = let a = behind-comma.1 in let b = r.low in let x = past text w.at r.high e in omega arith

        pub literals-on : Going p.to w.n room''
        literals-on = record {
          start = g.start;
          now = record {
            high = (past text w.at r.high e).1;
            shelves = g.start.shelves;
            begun = let a = got-literal.7.place in let b = g.now.begun in let c = g.now.place in omega arith;
            place = let a = r.fits in let b = r.len in omega arith;
            short = let a = r.len in let b = g.now.short in omega arith;
            clean = (goes.0, behind-comma.0);
          };
          low = let a = g.low in let b = r.low in let v = past text w.at r.high e in omega arith;
          same = g.same ∙ r.same ∙ (piece text w.at r.high e).same;
          len = r.len ∙ g.len;
          done = g.done ++ (got-literal.0 ∷ []);
          wrote = all-written;
          joins = λ q us v m.
              subst (λ k. Literals k g.start.clean.0) (sym (append_assoc g.done (got-literal.0 ∷ []) q))
              (g.joins (got-literal.0 ∷ q) got-literal.1 got-literal.3 (another says (subst (Literals q) (some_same v behind-comma.0) m)));
          back = λ k m.
              let b = g.back k m in
              let u : b.1 ≡ got-literal.1 = some_same b.2 got-literal.3 in
              let v = others-of (subst (Literals b.0) u b.4) got-literal.0 goes.0 says in
              (v.0, goes.0, behind-comma.0, b.3 ∙ ap (λ x. g.done ++ x) v.1 ∙ sym (append_assoc g.done (got-literal.0 ∷ []) v.0), v.2);
        }

-- ---- a line

module _ (L : Limits) (text names : List ℕ) {room : List ℕ} {at n : ℕ} (s : Start L text names room at n) {w : Way} (q : Nothing text at w) where
  pub line-nothing : w.ok ≡ true → ReadLine (numbering L text names) text room at n (record { ok = true; at = w.at; n = n }) room
  line-nothing f = record {
    low = q.low;
    high = q.high;
    same = λ y. q.same f;
    fits = s.place;
    len = refl;
    ends = λ y. q.ends f;
    good = λ y. ([], opens ∷ closes ∷ [], q.good f, asks_nothing, wrote_none s.place);
    bad = λ y. absurd (let z : ◌≡◌ {A = ℕ} 0 1 = cc in omega arith);
  }

  pub line-literals : w.ok ≡ false → {r : Way} {room' : List ℕ} → ReadLiterals (numbering L text names) text room at n r room' → ReadLine (numbering L text names) text room at n r room'
  line-literals f {r} {room'} l = record {
    low = l.low;
    high = l.high;
    same = l.same;
    fits = l.fits;
    len = l.len;
    ends = l.ends;
    good = λ y. let g = l.good y in (g.0, g.1, g.2, asks g.3, g.4);
    bad = λ y k ts e m. on y k ts e m;
  }
    where
      on : r.ok ≡ false → (k : Conj) (ts : List Token) → here text at ≡ some ts → Line k ts → ⊥
      on y k ts e asks_nothing = q.bad f e
      on y k ts e (asks m) = l.bad y k ts e m
