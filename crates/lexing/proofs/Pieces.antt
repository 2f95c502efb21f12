-- The token that stands first behind the blanks, put together from its bytes.
use Prim.Native.Nat.{ℕ, ◌+◌, ◌<◌, ◌≤◌}
use native.Mathlib.Omega.{arith}
use mathlib.Core.Path.{◌≡◌, refl, sym, ap, ap₂, ◌∙◌, subst}
use mathlib.Core.Bool.{Bool, true, false}
use mathlib.Core.List.{List, [], ◌∷◌}
use mathlib.Core.Option.{none, some}
use lib.Dec.{eqb}
use lib.ListN.{length, drop, get_or, drop_of_length-le, length-drop}
use lib.Seq.{drop-drop}
use borrow.Author.Tests.{eqb-true, eqb-false, eq-eqb, ne_eqb}
use Rattle.language.specs.Kinds.{pick}
use Rattle.language.specs.Trees.{fvar}
use Rattle.grammar.specs.Tokens.{Token, one, run, functor, name_byte, begins_name, puts, renamed, name_token, marked, star_or, tokens}
use Rattle.lexing.specs.declared.Mark.{Mark}
use Rattle.lexing.specs.declared.Mark.TheVariants.{End, Bad, Symbol, One, Run, Function, Equals, Comma, Opens, Closes, Plus, Times}
use Rattle.lexing.specs.Bytes.{line, others, name_from, name_length, blanks, mark_of, sort_of, alone}
use Rattle.lexing.specs.Pieces.{here, front, piece, marked_of, piece_of, at_byte, next_of, Skipped, Next}
use Rattle.lexing.proofs.Laws.{others-go, reading, read_byte, no_name, some-name, renamed-puts, name-read, name-others, name-within, standing, skipped}

nothing : tokens (line []) ≡ some []
unfolding tokens line
nothing = refl

newline : (b : ℕ) (bs : List ℕ) → b ≡ 10 → tokens (line (b ∷ bs)) ≡ some []
unfolding tokens line
newline b bs e = rw (eq-eqb b 10 e)

-- only a letter or digit begins a name
symbol-mark : (b : ℕ) → Symbol ≡ mark_of b → name_byte b ≡ true
unfolding mark_of
symbol-mark b e = on (name_byte b) refl e
  where
    not_so : (t u v w x y z a : Bool) → Symbol ≡ pick t One (pick u Run (pick v Function (pick w Equals (pick x Comma (pick y Opens (pick z Closes (pick a Plus Bad))))))) → ⊥
    not_so true u v w x y z a e = let n = ap sort_of e in omega arith
    not_so false true v w x y z a e = let n = ap sort_of e in omega arith
    not_so false false true w x y z a e = let n = ap sort_of e in omega arith
    not_so false false false true x y z a e = let n = ap sort_of e in omega arith
    not_so false false false false true y z a e = let n = ap sort_of e in omega arith
    not_so false false false false false true z a e = let n = ap sort_of e in omega arith
    not_so false false false false false false true a e = let n = ap sort_of e in omega arith
    not_so false false false false false false false true e = let n = ap sort_of e in omega arith
    not_so false false false false false false false false e = let n = ap sort_of e in omega arith

    on : (t : Bool) → name_byte b ≡ t → Symbol ≡ pick t Symbol (pick (eqb b 63) One (pick (eqb b 42) Run (pick (eqb b 37) Function (pick (eqb b 61) Equals (pick (eqb b 44) Comma (pick (eqb b 40) Opens (pick (eqb b 41) Closes (pick (eqb b 43) Plus Bad)))))))) → name_byte b ≡ true
    on true f e = f
    on false f e = absurd (not_so (eqb b 63) (eqb b 42) (eqb b 37) (eqb b 61) (eqb b 44) (eqb b 40) (eqb b 41) (eqb b 43) e)

-- a star is no byte's mark: it is what * is without a name
no-times : (b : ℕ) → Times ≡ mark_of b → ⊥
unfolding mark_of
no-times b e = go (name_byte b) (eqb b 63) (eqb b 42) (eqb b 37) (eqb b 61) (eqb b 44) (eqb b 40) (eqb b 41) (eqb b 43) e
  where
    tick : Mark → ℕ
    tick End = 0
    tick Bad = 0
    tick Symbol = 0
    tick One = 0
    tick Run = 0
    tick Function = 0
    tick Equals = 0
    tick Comma = 0
    tick Opens = 0
    tick Closes = 0
    tick Plus = 0
    tick Times = 1

    go : (s t u v w x y z a : Bool) → Times ≡ pick s Symbol (pick t One (pick u Run (pick v Function (pick w Equals (pick x Comma (pick y Opens (pick z Closes (pick a Plus Bad)))))))) → ⊥
    go true t u v w x y z a e = let n = ap tick e in omega arith
    go false true u v w x y z a e = let n = ap tick e in omega arith
    go false false true v w x y z a e = let n = ap tick e in omega arith
    go false false false true w x y z a e = let n = ap tick e in omega arith
    go false false false false true x y z a e = let n = ap tick e in omega arith
    go false false false false false true y z a e = let n = ap tick e in omega arith
    go false false false false false false true z a e = let n = ap tick e in omega arith
    go false false false false false false false true a e = let n = ap tick e in omega arith
    go false false false false false false false false true e = let n = ap tick e in omega arith
    go false false false false false false false false false e = let n = ap tick e in omega arith

module _ (text : List ℕ) (at i : ℕ) (s : Skipped text at i) where
  pub at-end : length text ≤ i → Next text at (piece End i i)
  at-end p = record {
    low = s.low;
    through = omega arith;
    high = s.high;
    reads = s.reads ∙ ap (λ l. tokens (line l)) (drop_of_length-le text p) ∙ nothing;
    same = s.same;
    moves = λ e. absurd (e refl);
    ends = λ e q. absurd (omega arith);
  }

  pub at-newline : i < length text → get_or text i 0 ≡ 10 → Next text at (piece End i i)
  at-newline p n = record {
    low = s.low;
    through = omega arith;
    high = s.high;
    reads = s.reads ∙ ap (λ l. tokens (line l)) (standing text i p) ∙ newline (get_or text i 0) (drop (i + 1) text) n;
    same = s.same;
    moves = λ e. absurd (e refl);
    ends = λ e q. n;
  }

  module _ (p : i < length text) (n : get_or text i 0 ≡ 10 → ⊥) where
    abbrev rest : List ℕ
    rest = drop (i + 1) text

    others-on : others (drop at text) ≡ others (drop (i + 1) text)
    others-on = s.same ∙ ap others (standing text i p) ∙ others-go (get_or text i 0) (drop (i + 1) text) (ne_eqb (get_or text i 0) 10 n)

    none_here : here text at ≡ none → Next text at (piece Bad i i)
    none_here e = record {
      low = s.low;
      through = omega arith;
      high = s.high;
      reads = e;
      same = s.same;
      moves = λ f. absurd (f refl);
      ends = λ f q. absurd (let z : ◌≡◌ {A = ℕ} 0 1 = cc in omega arith);
    }

    plain_here : (m : Mark) → (m ≡ End → ⊥) → here text at ≡ front m (name_from (drop i text)) (here text (i + 1)) → Next text at (piece m i (i + 1))
    plain_here m u e = record {
      low = s.low;
      through = omega arith;
      high = omega arith;
      reads = e;
      same = others-on;
      moves = λ f. let z = s.low in omega arith;
      ends = λ f q. absurd (u f);
    }

    symbol-here : begins_name (drop i text) ≡ true → Next text at (piece Symbol i (i + name_length (drop i text)))
    symbol-here e =
        let w = name-within (drop i text) in
        let l = length-drop i text in
        let g = some-name (drop i text) e in
        let o = s.low in record {
          low = s.low;
          through = omega arith;
          high = omega arith;
          reads = s.reads ∙ name-read (drop i text) e ∙ ap (λ k. puts (name_token (name_from (drop i text))) (tokens (line k))) (drop-drop (name_length (drop i text)) i text);
          same = s.same ∙ name-others (drop i text) ∙ ap others (drop-drop (name_length (drop i text)) i text);
          moves = λ f. omega arith;
          ends = λ f q. absurd (let z : ◌≡◌ {A = ℕ} 0 1 = cc in omega arith);
        }

    whole : (m : Mark) → (m ≡ End → ⊥) → here text at ≡ front m (name_from (drop (i + 1) text)) (here text (i + 1 + name_length (drop (i + 1) text)))
        → Next text at (piece m (i + 1) (i + 1 + name_length (drop (i + 1) text)))
    whole m u e =
        let w = name-within (drop (i + 1) text) in
        let l = length-drop (i + 1) text in
        let o = s.low in record {
          low = omega arith;
          through = omega arith;
          high = omega arith;
          reads = e;
          same = others-on ∙ name-others (drop (i + 1) text) ∙ ap others (drop-drop (name_length (drop (i + 1) text)) (i + 1) text);
          moves = λ f. omega arith;
          ends = λ f q. absurd (u f);
        }

    marked-here : (m : Mark) → (m ≡ End → ⊥) → (alone m ≡ End → ⊥)
        → (begins_name (drop (i + 1) text) ≡ true → here text at ≡ front m (name_from (drop (i + 1) text)) (here text (i + 1 + name_length (drop (i + 1) text))))
        → (begins_name (drop (i + 1) text) ≡ false → here text at ≡ front (alone m) (name_from (drop (i + 1) text)) (here text (i + 1)))
        → Next text at (marked_of text m (i + 1))
    unfolding marked_of
    marked-here m u v x y = on (begins_name (drop (i + 1) text)) refl
      where
        on : (t : Bool) → begins_name (drop (i + 1) text) ≡ t → Next text at (piece (pick (eqb (name_length (drop (i + 1) text)) 0) (alone m) m) (i + 1) (i + 1 + name_length (drop (i + 1) text)))
        on true e =
            let g = some-name (drop (i + 1) text) e in
            subst (λ t. Next text at (piece (pick t (alone m) m) (i + 1) (i + 1 + name_length (drop (i + 1) text)))) (sym (ne_eqb (name_length (drop (i + 1) text)) 0 (λ z. omega arith))) (whole m u (x e))
        on false e =
            let g = (no_name (drop (i + 1) text) e).1 in
            subst (λ t. Next text at (piece (pick t (alone m) m) (i + 1) (i + 1 + name_length (drop (i + 1) text)))) (sym (eq-eqb (name_length (drop (i + 1) text)) 0 g))
            (whole (alone m) v (y e ∙ ap (λ k. front (alone m) (name_from (drop (i + 1) text)) (here text k)) (let z : i + 1 ≡ i + 1 + name_length (drop (i + 1) text) = omega arith in z)))

    name-behind : (f : ℕ → Token) → begins_name (drop (i + 1) text) ≡ true → renamed f (tokens (line (drop (i + 1) text))) ≡ puts (f (name_from (drop (i + 1) text))) (here text (i + 1 + name_length (drop (i + 1) text)))
    name-behind f e =
        ap (renamed f) (name-read (drop (i + 1) text) e) ∙ renamed-puts f (name_from (drop (i + 1) text)) (tokens (line (drop (name_length (drop (i + 1) text)) (drop (i + 1) text))))
        ∙ ap (λ l. puts (f (name_from (drop (i + 1) text))) (tokens (line l))) (drop-drop (name_length (drop (i + 1) text)) (i + 1) text)

    first : (m : Mark) → m ≡ mark_of (get_or text i 0) → here text at ≡ reading m (get_or text i 0) (begins_name (drop (i + 1) text)) (here text (i + 1))
    first m e =
        s.reads ∙ ap (λ l. tokens (line l)) (standing text i p) ∙ read_byte (get_or text i 0) (drop (i + 1) text) (ne_eqb (get_or text i 0) 10 n) (s.stops p)
        ∙ ap (λ k. reading k (get_or text i 0) (begins_name (drop (i + 1) text)) (here text (i + 1))) (sym e)

    pub by-mark : (m : Mark) → m ≡ mark_of (get_or text i 0) → Next text at (piece_of text m i)
    unfolding piece_of marked star_or
    by-mark End e = none_here (first End e)
    by-mark Bad e = none_here (first Bad e)
    by-mark Symbol e = symbol-here (ap begins_name (standing text i p) ∙ symbol-mark (get_or text i 0) e)
    by-mark One e = marked-here One (λ z. let y = ap sort_of z in omega arith) (λ z. let y : ◌≡◌ {A = ℕ} 0 1 = cc in omega arith)
        (λ t. first One e ∙ ap (λ z. marked (λ n. one (record { 0 = n })) z (here text (i + 1))) t ∙ name-behind (λ n. one (record { 0 = n })) t)
        (λ t. first One e ∙ ap (λ z. marked (λ n. one (record { 0 = n })) z (here text (i + 1))) t)
    by-mark Run e = marked-here Run (λ z. let y = ap sort_of z in omega arith) (λ z. let y = ap sort_of z in omega arith)
        (λ t. first Run e ∙ ap (λ z. star_or z (here text (i + 1))) t ∙ name-behind (λ n. run (record { 0 = n })) t)
        (λ t. first Run e ∙ ap (λ z. star_or z (here text (i + 1))) t)
    by-mark Function e = marked-here Function (λ z. let y = ap sort_of z in omega arith) (λ z. let y : ◌≡◌ {A = ℕ} 0 1 = cc in omega arith)
        (λ t. first Function e ∙ ap (λ z. marked (λ n. functor (fvar (record { 0 = n }))) z (here text (i + 1))) t ∙ name-behind (λ n. functor (fvar (record { 0 = n }))) t)
        (λ t. first Function e ∙ ap (λ z. marked (λ n. functor (fvar (record { 0 = n }))) z (here text (i + 1))) t)
    by-mark Equals e = plain_here Equals (λ z. let y = ap sort_of z in omega arith) (first Equals e)
    by-mark Comma e = plain_here Comma (λ z. let y = ap sort_of z in omega arith) (first Comma e)
    by-mark Opens e = plain_here Opens (λ z. let y = ap sort_of z in omega arith) (first Opens e)
    by-mark Closes e = plain_here Closes (λ z. let y = ap sort_of z in omega arith) (first Closes e)
    by-mark Plus e = plain_here Plus (λ z. let y = ap sort_of z in omega arith) (first Plus e)
    by-mark Times e = absurd (no-times (get_or text i 0) e)

-- The token that the code gives is the first of the line.
pub next-law : (text : List ℕ) (at : ℕ) → at ≤ length text → Next text at (next_of text at)
unfolding next_of at_byte
next-law text at p = let s = skipped text at p in on s (eqb (at + blanks (drop at text)) (length text)) refl (eqb (get_or text (at + blanks (drop at text)) 0) 10) refl
  where
    less : (a b : ℕ) → a ≤ b → (a ≡ b → ⊥) → a < b
    less a b p n = omega arith

    on : Skipped text at (at + blanks (drop at text)) → (t : Bool) → eqb (at + blanks (drop at text)) (length text) ≡ t → (u : Bool) → eqb (get_or text (at + blanks (drop at text)) 0) 10 ≡ u
        → Next text at (pick t (piece End (length text) (length text)) (pick u (piece End (at + blanks (drop at text)) (at + blanks (drop at text))) (piece_of text (mark_of (get_or text (at + blanks (drop at text)) 0)) (at + blanks (drop at text)))))
    on s true e u f = let z = eqb-true (at + blanks (drop at text)) (length text) e in subst (λ k. Next text at (piece End k k)) z (at-end text at (at + blanks (drop at text)) s (omega arith))
    on s false e true f = let z = eqb-false (at + blanks (drop at text)) (length text) e in let h = s.high in at-newline text at (at + blanks (drop at text)) s (less (at + blanks (drop at text)) (length text) h z) (eqb-true (get_or text (at + blanks (drop at text)) 0) 10 f)
    on s false e false f = let z = eqb-false (at + blanks (drop at text)) (length text) e in let h = s.high in by-mark text at (at + blanks (drop at text)) s (less (at + blanks (drop at text)) (length text) h z) (eqb-false (get_or text (at + blanks (drop at text)) 0) 10 f) (mark_of (get_or text (at + blanks (drop at text)) 0)) refl

-- ---- as the code puts them together

module _ (text : List ℕ) (m : Mark) (at : ℕ) where
  pub without : {to : ℕ} {k : Mark} → to ≡ at + name_length (drop at text) → to ≡ at → k ≡ alone m → piece k at to ≡ marked_of text m at
  unfolding marked_of
  without {to} {k} e z a = ap₂ (λ k to. piece k at to) (a ∙ sym (ap (λ t. pick t (alone m) m) (eq-eqb (name_length (drop at text)) 0 (omega arith)))) e

  pub with-name : {to : ℕ} → to ≡ at + name_length (drop at text) → (to ≡ at → ⊥) → piece m at to ≡ marked_of text m at
  unfolding marked_of
  with-name {to} e z = ap₂ (λ k to. piece k at to) (sym (ap (λ t. pick t (alone m) m) (ne_eqb (name_length (drop at text)) 0 (λ y. z (omega arith))))) e

  module _ {s : ℕ} (e : s ≡ sort_of m) where
    pub no-token : s ≡ 0 → piece Bad at at ≡ piece_of text m at
    unfolding piece_of
    no-token z = rw (eq-eqb (sort_of m) 0 (sym e ∙ z))

    pub a-name : {to : ℕ} → (s ≡ 0 → ⊥) → s ≡ 1 → to ≡ at + name_length (drop at text) → piece m at to ≡ piece_of text m at
    unfolding piece_of
    a-name y z t = ap (piece m at) t ∙ rw (ne_eqb (sort_of m) 0 (λ x. y (e ∙ x)), eq-eqb (sort_of m) 1 (sym e ∙ z))

    pub a-mark : {r : _} → (s ≡ 0 → ⊥) → (s ≡ 1 → ⊥) → s ≡ 2 → r ≡ marked_of text m (at + 1) → r ≡ piece_of text m at
    unfolding piece_of
    a-mark x y z t = t ∙ rw (ne_eqb (sort_of m) 0 (λ w. x (e ∙ w)), ne_eqb (sort_of m) 1 (λ w. y (e ∙ w)), eq-eqb (sort_of m) 2 (sym e ∙ z))

    pub by_itself : (s ≡ 0 → ⊥) → (s ≡ 1 → ⊥) → (s ≡ 2 → ⊥) → piece m at (at + 1) ≡ piece_of text m at
    unfolding piece_of
    by_itself x y z = rw (ne_eqb (sort_of m) 0 (λ w. x (e ∙ w)), ne_eqb (sort_of m) 1 (λ w. y (e ∙ w)), ne_eqb (sort_of m) 2 (λ w. z (e ∙ w)))

module _ (text : List ℕ) (at : ℕ) {i : ℕ} (e : i ≡ at + blanks (drop at text)) where
  pub end-of-text : i ≡ length text → piece End i i ≡ next_of text at
  unfolding next_of
  end-of-text z = ap (λ k. piece End k k) z ∙ rw (eq-eqb (at + blanks (drop at text)) (length text) (sym e ∙ z))

  module _ (n : i ≡ length text → ⊥) where
    on-byte : at_byte text i ≡ next_of text at
    unfolding next_of
    on-byte = ap (at_byte text) e ∙ rw (ne_eqb (at + blanks (drop at text)) (length text) (λ z. n (e ∙ z)))

    pub end-of-line : get_or text i 0 ≡ 10 → piece End i i ≡ next_of text at
    unfolding at_byte
    end-of-line z = sym (ap (λ t. pick t (piece End i i) (piece_of text (mark_of (get_or text i 0)) i)) (eq-eqb (get_or text i 0) 10 z)) ∙ on-byte

    pub a-token : (get_or text i 0 ≡ 10 → ⊥) → {m : Mark} {r : _} → m ≡ mark_of (get_or text i 0) → r ≡ piece_of text m i → r ≡ next_of text at
    unfolding at_byte
    a-token z f g = g ∙ ap (λ m. piece_of text m i) f ∙ sym (ap (λ t. pick t (piece End i i) (piece_of text (mark_of (get_or text i 0)) i)) (ne_eqb (get_or text i 0) 10 z)) ∙ on-byte

    pub short : at ≤ length text → i < length text
    short p = let h = (skipped text at p).high in omega arith
