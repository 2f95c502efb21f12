-- A line token by token, and a text line by line.
use Prim.Native.Nat.{ℕ, suc, ◌+◌, ◌-◌, ◌<◌, ◌≤◌}
use native.Mathlib.Omega.{arith}
use mathlib.Core.Path.{◌≡◌, refl, sym, ap, ◌∙◌, subst}
use mathlib.Core.Bool.{Bool, true, false, not}
use mathlib.Core.List.{List, [], ◌∷◌}
use mathlib.Core.Option.{Option, none, some}
use lib.Dec.{eqb}
use lib.ListN.{length, drop, get_or, drop_of_length-le}
use borrow.Author.Tests.{eq-eqb, ne_eqb, eqb-true, not-true, not-false}
use Rattle.std.specs.Prelude.{Some, None}
use Rattle.std.specs.Prelude as std
use Rattle.language.specs.Kinds.{pick}
use Rattle.language.specs.Trees.{fvar}
use Rattle.grammar.specs.Tokens.{Token, one, run, functor, equals, comma, opens, closes, plus, times, Tokens, puts, name_token}
use Rattle.grammar.specs.Grammar.{lines_of}
use Rattle.lexing.specs.declared.Mark.{Mark}
use Rattle.lexing.specs.declared.Mark.TheVariants.{End, Bad, Symbol, One, Run, Function, Equals, Comma, Opens, Closes, Plus, Times}
use Rattle.lexing.specs.declared.Piece.{Piece}
use Rattle.lexing.specs.Bytes.{others, name_from, sort_of}
use Rattle.lexing.specs.Pieces.{here, front, next_of, Next}
use Rattle.lexing.proofs.Laws.{standing}
use Rattle.lexing.proofs.Pieces.{next-law}
use Rattle.backwards.proofs.Cutting.{lines_split}
use Rattle.text_survey.specs.declared.Seen.{Seen}
use Rattle.text_survey.specs.Surveys.{counts, survey_of, step_of, token_on, line_from, line_on, LineSeen, look_of, Surveyed}
use Rattle.text_survey.specs.Surveys as Surveys

-- ---- the tokens from a place on, with a token before them

a-token : (m : Mark) (x : ℕ) (o : Tokens) → step_of m ≡ 2 → (t : Token) × (front m x o ≡ puts t o)
a-token End x o e = absurd (omega arith)
a-token Bad x o e = absurd (omega arith)
a-token Symbol x o e = (name_token x, refl)
a-token One x o e = (one (record { 0 = x }), refl)
a-token Run x o e = (run (record { 0 = x }), refl)
a-token Function x o e = (functor (fvar (record { 0 = x })), refl)
a-token Equals x o e = (equals, refl)
a-token Comma x o e = (comma, refl)
a-token Opens x o e = (opens, refl)
a-token Closes x o e = (closes, refl)
a-token Plus x o e = (plus, refl)
a-token Times x o e = (times, refl)

no-token : (m : Mark) (x : ℕ) (o : Tokens) → (step_of m ≡ 2 → ⊥) → front m x o ≡ pick (eqb (step_of m) 1) (some []) none
no-token End x o e = refl
no-token Bad x o e = refl
no-token Symbol x o e = absurd (e refl)
no-token One x o e = absurd (e refl)
no-token Run x o e = absurd (e refl)
no-token Function x o e = absurd (e refl)
no-token Equals x o e = absurd (e refl)
no-token Comma x o e = absurd (e refl)
no-token Opens x o e = absurd (e refl)
no-token Closes x o e = absurd (e refl)
no-token Plus x o e = absurd (e refl)
no-token Times x o e = absurd (e refl)

moving : (m : Mark) → step_of m ≡ 2 → sort_of m ≡ 0 → ⊥
moving End e f = omega arith
moving Bad e f = omega arith
moving Symbol e f = omega arith
moving One e f = omega arith
moving Run e f = omega arith
moving Function e f = omega arith
moving Equals e f = omega arith
moving Comma e f = omega arith
moving Opens e f = omega arith
moving Closes e f = omega arith
moving Plus e f = omega arith
moving Times e f = omega arith

ending : (m : Mark) → step_of m ≡ 1 → m ≡ End
ending End e = refl
ending Bad e = absurd (omega arith)
ending Symbol e = absurd (omega arith)
ending One e = absurd (omega arith)
ending Run e = absurd (omega arith)
ending Function e = absurd (omega arith)
ending Equals e = absurd (omega arith)
ending Comma e = absurd (omega arith)
ending Opens e = absurd (omega arith)
ending Closes e = absurd (omega arith)
ending Plus e = absurd (omega arith)
ending Times e = absurd (omega arith)

puts_none : (t : Token) (o : Tokens) → o ≡ none → puts t o ≡ none
puts_none t o e = ap (puts t) e

-- ---- a line

module _ (text : List ℕ) where
  same-most : {m m' : ℕ} (b : Bool) (i : ℕ) → m ≡ m' → line_from text m b i ≡ line_from text m' b i
  same-most b i e = ap (λ m. line_from text m b i) e

  module _ (m i : ℕ) (b : Bool) {p : Piece} (e : p ≡ next_of text i) where
    step-token : line_from text (suc m) b i ≡ token_on (line_from text m) b p
    unfolding line_from
    step-token = ap (token_on (line_from text m) b) (sym e)

    step-on : step_of p.mark ≡ 2 → line_from text (suc m) b i ≡ line_from text m true p.to
    step-on z = step-token ∙ rw (eq-eqb (step_of p.mark) 2 z)

    step-ends : (step_of p.mark ≡ 2 → ⊥) → line_from text (suc m) b i ≡ record { ok = eqb (step_of p.mark) 1; some = b; to = p.to }
    step-ends z = step-token ∙ rw (ne_eqb (step_of p.mark) 2 z)

pub record Going (text : List ℕ) (at i : ℕ) (b : Bool) : Type 0 where
  pub low : at ≤ i
  pub high : i ≤ length text
  pub same : others (drop at text) ≡ others (drop i text)
  pub begin : b ≡ false → here text at ≡ here text i
  pub more : b ≡ true → (ts : List Token) → here text i ≡ some ts → (u : Token) × (us : List Token) × (here text at ≡ some (u ∷ us))
  pub none_left : here text i ≡ none → here text at ≡ none
  pub most : ℕ
  pub enough : length text ≤ i + most
  pub tells : line_from text (suc most) b i ≡ line_on text at

pub line-starts : {text : List ℕ} {at : ℕ} → at ≤ length text → Going text at at false
line-starts {text} h = record {
  low = omega arith;
  high = h;
  same = refl;
  begin = λ e. refl;
  more = λ e. absurd (let z : ◌≡◌ {A = ℕ} 0 1 = cc in omega arith);
  none_left = λ e. e;
  most = length text;
  enough = omega arith;
  tells = refl;
}

module _ {text : List ℕ} {at i : ℕ} {b : Bool} (g : Going text at i b) {p : Piece} (e : p ≡ next_of text i) {s : ℕ} (f : s ≡ step_of p.mark) where
  n : Next text i p
  n = subst (Next text i) (sym e) (next-law text i g.high)

  moved : s ≡ 2 → i < p.to
  moved z = n.moves (moving p.mark (sym f ∙ z))

  pub line-less : s ≡ 2 → length text - p.to < length text - i
  line-less z = let m = moved z in let h = n.high in omega arith

  pub line_on_lem : s ≡ 2 → Going text at p.to true
  line_on_lem z =
      let t = a-token p.mark (name_from (drop p.from text)) (here text p.to) (sym f ∙ z) in
      let r : here text i ≡ puts t.0 (here text p.to) = n.reads ∙ t.1 in
      record {
        low = let x = g.low in let y = n.low in let w = n.through in omega arith;
        high = n.high;
        same = g.same ∙ n.same;
        begin = λ y. absurd (let z : ◌≡◌ {A = ℕ} 0 1 = cc in omega arith);
        more = λ y ts d. on b refl ts d t.0 r;
        none_left = λ d. g.none_left (r ∙ puts_none t.0 (here text p.to) d);
        most = g.most - 1;
        enough = let m = moved z in let q = g.enough in let h = n.high in omega arith;
        tells = same-most text true p.to (let m = moved z in let q = g.enough in let h = n.high in let y : suc (g.most - 1) ≡ g.most = omega arith in y) ∙ sym (step-on text g.most i b e (sym f ∙ z)) ∙ g.tells;
      }
    where
      on : (c : Bool) → b ≡ c → (ts : List Token) → here text p.to ≡ some ts → (t : Token) → here text i ≡ puts t (here text p.to) → (u : Token) × (us : List Token) × (here text at ≡ some (u ∷ us))
      on true q ts d t r = g.more q (t ∷ ts) (r ∙ ap (puts t) d)
      on false q ts d t r = (t, ts, g.begin q ∙ r ∙ ap (puts t) d)

  pub line-ends : (s ≡ 2 → ⊥) → LineSeen text at (record { ok = eqb s 1; some = b; to = p.to })
  line-ends z = record {
    low = let x = g.low in let y = n.low in let w = n.through in omega arith;
    high = n.high;
    same = g.same ∙ n.same;
    ends = λ y. n.ends (ending p.mark (sym f ∙ eqb-true s 1 y));
    empty = λ y q. g.begin q ∙ last y;
    full = λ y q. g.more q [] (last y);
    bad = λ y. g.none_left (r ∙ ap (λ c. pick c (some []) none) (ap (λ k. eqb k 1) (sym f) ∙ y));
    tells = ap (λ k. record { ok = eqb k 1; some = b; to = p.to }) f ∙ sym (step-ends text g.most i b e (λ y. z (f ∙ y))) ∙ g.tells;
  }
    where
      r : here text i ≡ pick (eqb (step_of p.mark) 1) (some []) none
      r = n.reads ∙ no-token p.mark (name_from (drop p.from text)) (here text p.to) (λ y. z (f ∙ y))

      last : eqb s 1 ≡ true → here text i ≡ some []
      last y = r ∙ ap (λ c. pick c (some []) none) (ap (λ k. eqb k 1) (sym f) ∙ y)

-- ---- a text

pub behind-newline : (text : List ℕ) (i : ℕ) → i < length text → get_or text i 0 ≡ 10 → others (drop i text) ≡ lines_of (drop (i + 1) text)
unfolding others
behind-newline text i p e = ap others (standing text i p) ∙ rw (eq-eqb (get_or text i 0) 10 e)

pub none-behind : (text : List ℕ) (i : ℕ) → length text ≤ i → others (drop i text) ≡ []
unfolding others
none-behind text i p = ap others (drop_of_length-le text p)

abbrev more : ℕ → Option ℕ → Option ℕ
more n none = none
more n (some m) = some (n + m)

pub record Lining (text : List ℕ) (at many : ℕ) : Type 0 where
  pub high : at ≤ length text
  pub few : many ≤ at
  pub lives : survey_of (lines_of text) ≡ more many (survey_of (lines_of (drop at text)))

more-none : (o : Option ℕ) → o ≡ more 0 o
more-none none = refl
more-none (some n) = ap some (omega arith)

more-another : (n : ℕ) (o : Option ℕ) → more n (Surveys.another o) ≡ more (n + 1) o
more-another n none = refl
more-another n (some m) = ap some (omega arith)

pub survey-starts : (text : List ℕ) → Lining text 0 0
survey-starts text = record { high = omega arith; few = omega arith; lives = more-none (survey_of (lines_of text)) }

module _ {text : List ℕ} {at many : ℕ} (g : Lining text at many) {l : Seen} (s : LineSeen text at l) where
  split : survey_of (lines_of (drop at text)) ≡ counts (here text at) (survey_of (others (drop l.to text)))
  unfolding survey_of
  split = ap survey_of (lines_split (drop at text)) ∙ ap (λ ls. counts (here text at) (survey_of ls)) s.same

  pub survey-bad : not l.ok ≡ true → Surveyed text None
  survey-bad f = record {
    few = λ n y. absurd (let z : ◌≡◌ {A = ℕ} 0 1 = cc in omega arith);
    good = λ n y. absurd (let z : ◌≡◌ {A = ℕ} 0 1 = cc in omega arith);
    bad = λ y. broken;
    tells = sym (ap look_of broken);
  }
    where
      broken : survey_of (lines_of text) ≡ none
      broken = g.lives ∙ ap (more many) (split ∙ ap (λ o. counts o (survey_of (others (drop l.to text)))) (s.bad (not-true l.ok f)))

  module _ (f : not l.ok ≡ false) where
    counted : {k : ℕ} → k ≡ pick l.some (many + 1) many → survey_of (lines_of text) ≡ more k (survey_of (others (drop l.to text)))
    counted {k} e = on l.some refl
      where
        on : (b : Bool) → l.some ≡ b → survey_of (lines_of text) ≡ more k (survey_of (others (drop l.to text)))
        on true q =
            let w = s.full (not-false l.ok f) q in
            g.lives ∙ ap (more many) (split ∙ ap (λ o. counts o (survey_of (others (drop l.to text)))) w.2) ∙ more-another many (survey_of (others (drop l.to text)))
            ∙ ap (λ m. more m (survey_of (others (drop l.to text)))) (sym (e ∙ ap (λ b. pick b (many + 1) many) q))
        on false q =
            g.lives ∙ ap (more many) (split ∙ ap (λ o. counts o (survey_of (others (drop l.to text)))) (s.empty (not-false l.ok f) q))
            ∙ ap (λ m. more m (survey_of (others (drop l.to text)))) (sym (e ∙ ap (λ b. pick b (many + 1) many) q))

    few-more : {k : ℕ} → k ≡ pick l.some (many + 1) many → k ≤ many + 1
    few-more {k} e = on l.some e
      where
        on : (b : Bool) → k ≡ pick b (many + 1) many → k ≤ many + 1
        on true e = omega arith
        on false e = omega arith

    pub survey-ends : {k : ℕ} → k ≡ pick l.some (many + 1) many → length text ≤ l.to → Surveyed text (Some k)
    unfolding survey_of
    survey-ends {k} e p = record {
      few = λ n y. let a = g.few in let b = g.high in let c = few-more e in let d = counted-as y in omega arith;
      good = λ n y. all ∙ ap some (counted-as y);
      bad = λ y. absurd (let z : ◌≡◌ {A = ℕ} 0 1 = cc in omega arith);
      tells = sym (ap look_of all);
    }
      where
        counted-as : {n : ℕ} → ◌≡◌ {A = std.Option ℕ} (Some k) (Some n) → k ≡ n
        counted-as y = cc

        nothing : more k (survey_of []) ≡ some k
        nothing = ap some (omega arith)

        all : survey_of (lines_of text) ≡ some k
        all = counted e ∙ ap (λ ls. more k (survey_of ls)) (none-behind text l.to p) ∙ nothing

    pub survey-on : {k : ℕ} → k ≡ pick l.some (many + 1) many → l.to < length text → Lining text (l.to + 1) k
    survey-on {k} e p = record {
      high = omega arith;
      few = let a = g.few in let b = s.low in let c = few-more e in omega arith;
      lives = counted e ∙ ap (λ ls. more k (survey_of ls)) (behind-newline text l.to p (s.ends (not-false l.ok f) p));
    }

pub one-yes : {yes' : Bool} (n : ℕ) → yes' ≡ true → n + 1 ≡ pick yes' (n + 1) n
one-yes {yes'} n e = sym (ap (λ b. pick b (n + 1) n) e)

pub one-no : {yes' : Bool} (n : ℕ) → yes' ≡ false → n ≡ pick yes' (n + 1) n
one-no {yes'} n e = sym (ap (λ b. pick b (n + 1) n) e)
