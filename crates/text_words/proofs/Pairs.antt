-- Two brackets and nothing else; and the end of a line.
use Prim.Native.Nat.{ℕ, ◌<◌, ◌≤◌}
use native.Mathlib.Omega.{arith}
use mathlib.Core.Path.{◌≡◌, refl, sym, ap, ◌∙◌, subst}
use mathlib.Core.Bool.{true, false}
use mathlib.Core.List.{List, [], ◌∷◌}
use mathlib.Core.Option.{some}
use lib.ListN.{length, drop, get_or}
use Rattle.language.specs.Trees.{fvar}
use Rattle.grammar.specs.Tokens.{Token, one, run, functor, equals, comma, opens, closes, plus, times, Tokens, puts, name_token}
use Rattle.lexing.specs.declared.Mark.{Mark}
use Rattle.lexing.specs.declared.Mark.TheVariants.{End, Bad, Symbol, One, Run, Function, Equals, Comma, Opens, Closes, Plus, Times}
use Rattle.lexing.specs.declared.Piece.{Piece}
use Rattle.lexing.specs.Bytes.{name_from, sort_of}
use Rattle.lexing.specs.Pieces.{here, front, next_of, Next}
use Rattle.lexing.proofs.Pieces.{next-law}
use Rattle.walking.specs.declared.Way.{Way}
use Rattle.backwards.proofs.Reading.{puts-some}
use Rattle.text_words.specs.Conjunctions.{turn_of, Nothing}

tail-same : {x y : Token} {us vs : List Token} → x ∷ us ≡ y ∷ vs → us ≡ vs
tail-same e = cc

-- ---- what each is

pub is-end : (m : Mark) → turn_of m ≡ 1 → m ≡ End
is-end End e = refl
is-end Bad e = absurd (omega arith)
is-end Symbol e = absurd (omega arith)
is-end One e = absurd (omega arith)
is-end Run e = absurd (omega arith)
is-end Function e = absurd (omega arith)
is-end Equals e = absurd (omega arith)
is-end Comma e = absurd (omega arith)
is-end Opens e = absurd (omega arith)
is-end Closes e = absurd (omega arith)
is-end Plus e = absurd (omega arith)
is-end Times e = absurd (omega arith)

is-opens : (m : Mark) → turn_of m ≡ 2 → m ≡ Opens
is-opens End e = absurd (omega arith)
is-opens Bad e = absurd (omega arith)
is-opens Symbol e = absurd (omega arith)
is-opens One e = absurd (omega arith)
is-opens Run e = absurd (omega arith)
is-opens Function e = absurd (omega arith)
is-opens Equals e = absurd (omega arith)
is-opens Comma e = absurd (omega arith)
is-opens Opens e = refl
is-opens Closes e = absurd (omega arith)
is-opens Plus e = absurd (omega arith)
is-opens Times e = absurd (omega arith)

is-closes : (m : Mark) → turn_of m ≡ 3 → m ≡ Closes
is-closes End e = absurd (omega arith)
is-closes Bad e = absurd (omega arith)
is-closes Symbol e = absurd (omega arith)
is-closes One e = absurd (omega arith)
is-closes Run e = absurd (omega arith)
is-closes Function e = absurd (omega arith)
is-closes Equals e = absurd (omega arith)
is-closes Comma e = absurd (omega arith)
is-closes Opens e = absurd (omega arith)
is-closes Closes e = refl
is-closes Plus e = absurd (omega arith)
is-closes Times e = absurd (omega arith)

-- and what it is where it stands first
no_end : (m : Mark) (x : ℕ) (o : Tokens) → front m x o ≡ some [] → turn_of m ≡ 1
no_end End x o e = refl
no_end Bad x o e = absurd (let z : ◌≡◌ {A = ℕ} 0 1 = cc in omega arith)
no_end Symbol x o e = let w = puts-some (name_token x) o [] e in absurd (let z = ap length w.2 in omega arith)
no_end One x o e = let w = puts-some (one (record { 0 = x })) o [] e in absurd (let z = ap length w.2 in omega arith)
no_end Run x o e = let w = puts-some (run (record { 0 = x })) o [] e in absurd (let z = ap length w.2 in omega arith)
no_end Function x o e = let w = puts-some (functor (fvar (record { 0 = x }))) o [] e in absurd (let z = ap length w.2 in omega arith)
no_end Equals x o e = let w = puts-some (equals) o [] e in absurd (let z = ap length w.2 in omega arith)
no_end Comma x o e = let w = puts-some (comma) o [] e in absurd (let z = ap length w.2 in omega arith)
no_end Opens x o e = let w = puts-some (opens) o [] e in absurd (let z = ap length w.2 in omega arith)
no_end Closes x o e = let w = puts-some (closes) o [] e in absurd (let z = ap length w.2 in omega arith)
no_end Plus x o e = let w = puts-some (plus) o [] e in absurd (let z = ap length w.2 in omega arith)
no_end Times x o e = let w = puts-some (times) o [] e in absurd (let z = ap length w.2 in omega arith)

no-opens : (m : Mark) (x : ℕ) (o : Tokens) (us : List Token) → front m x o ≡ some (opens ∷ us) → (turn_of m ≡ 2) × (o ≡ some us)
no-opens End x o us e = absurd (let z : ◌≡◌ {A = ℕ} 0 1 = cc in omega arith)
no-opens Bad x o us e = absurd (let z : ◌≡◌ {A = ℕ} 0 1 = cc in omega arith)
no-opens Symbol x o us e = let w = puts-some (name_token x) o (opens ∷ us) e in absurd (let z : ◌≡◌ {A = ℕ} 0 1 = cc w.2 in omega arith)
no-opens One x o us e = let w = puts-some (one (record { 0 = x })) o (opens ∷ us) e in absurd (let z : ◌≡◌ {A = ℕ} 0 1 = cc w.2 in omega arith)
no-opens Run x o us e = let w = puts-some (run (record { 0 = x })) o (opens ∷ us) e in absurd (let z : ◌≡◌ {A = ℕ} 0 1 = cc w.2 in omega arith)
no-opens Function x o us e = let w = puts-some (functor (fvar (record { 0 = x }))) o (opens ∷ us) e in absurd (let z : ◌≡◌ {A = ℕ} 0 1 = cc w.2 in omega arith)
no-opens Equals x o us e = let w = puts-some (equals) o (opens ∷ us) e in absurd (let z : ◌≡◌ {A = ℕ} 0 1 = cc w.2 in omega arith)
no-opens Comma x o us e = let w = puts-some (comma) o (opens ∷ us) e in absurd (let z : ◌≡◌ {A = ℕ} 0 1 = cc w.2 in omega arith)
no-opens Opens x o us e = let w = puts-some opens o (opens ∷ us) e in (refl, w.1 ∙ ap some (tail-same (sym w.2)))
no-opens Closes x o us e = let w = puts-some (closes) o (opens ∷ us) e in absurd (let z : ◌≡◌ {A = ℕ} 0 1 = cc w.2 in omega arith)
no-opens Plus x o us e = let w = puts-some (plus) o (opens ∷ us) e in absurd (let z : ◌≡◌ {A = ℕ} 0 1 = cc w.2 in omega arith)
no-opens Times x o us e = let w = puts-some (times) o (opens ∷ us) e in absurd (let z : ◌≡◌ {A = ℕ} 0 1 = cc w.2 in omega arith)

no-closes : (m : Mark) (x : ℕ) (o : Tokens) (us : List Token) → front m x o ≡ some (closes ∷ us) → (turn_of m ≡ 3) × (o ≡ some us)
no-closes End x o us e = absurd (let z : ◌≡◌ {A = ℕ} 0 1 = cc in omega arith)
no-closes Bad x o us e = absurd (let z : ◌≡◌ {A = ℕ} 0 1 = cc in omega arith)
no-closes Symbol x o us e = let w = puts-some (name_token x) o (closes ∷ us) e in absurd (let z : ◌≡◌ {A = ℕ} 0 1 = cc w.2 in omega arith)
no-closes One x o us e = let w = puts-some (one (record { 0 = x })) o (closes ∷ us) e in absurd (let z : ◌≡◌ {A = ℕ} 0 1 = cc w.2 in omega arith)
no-closes Run x o us e = let w = puts-some (run (record { 0 = x })) o (closes ∷ us) e in absurd (let z : ◌≡◌ {A = ℕ} 0 1 = cc w.2 in omega arith)
no-closes Function x o us e = let w = puts-some (functor (fvar (record { 0 = x }))) o (closes ∷ us) e in absurd (let z : ◌≡◌ {A = ℕ} 0 1 = cc w.2 in omega arith)
no-closes Equals x o us e = let w = puts-some (equals) o (closes ∷ us) e in absurd (let z : ◌≡◌ {A = ℕ} 0 1 = cc w.2 in omega arith)
no-closes Comma x o us e = let w = puts-some (comma) o (closes ∷ us) e in absurd (let z : ◌≡◌ {A = ℕ} 0 1 = cc w.2 in omega arith)
no-closes Opens x o us e = let w = puts-some (opens) o (closes ∷ us) e in absurd (let z : ◌≡◌ {A = ℕ} 0 1 = cc w.2 in omega arith)
no-closes Closes x o us e = let w = puts-some closes o (closes ∷ us) e in (refl, w.1 ∙ ap some (tail-same (sym w.2)))
no-closes Plus x o us e = let w = puts-some (plus) o (closes ∷ us) e in absurd (let z : ◌≡◌ {A = ℕ} 0 1 = cc w.2 in omega arith)
no-closes Times x o us e = let w = puts-some (times) o (closes ∷ us) e in absurd (let z : ◌≡◌ {A = ℕ} 0 1 = cc w.2 in omega arith)

pub a-comma : (m : Mark) (x : ℕ) (o : Tokens) (us : List Token) → front m x o ≡ some (comma ∷ us) → (m ≡ Comma) × (o ≡ some us)
a-comma End x o us e = absurd (let z : ◌≡◌ {A = ℕ} 0 1 = cc in omega arith)
a-comma Bad x o us e = absurd (let z : ◌≡◌ {A = ℕ} 0 1 = cc in omega arith)
a-comma Symbol x o us e = let w = puts-some (name_token x) o (comma ∷ us) e in absurd (let z : ◌≡◌ {A = ℕ} 0 1 = cc w.2 in omega arith)
a-comma One x o us e = let w = puts-some (one (record { 0 = x })) o (comma ∷ us) e in absurd (let z : ◌≡◌ {A = ℕ} 0 1 = cc w.2 in omega arith)
a-comma Run x o us e = let w = puts-some (run (record { 0 = x })) o (comma ∷ us) e in absurd (let z : ◌≡◌ {A = ℕ} 0 1 = cc w.2 in omega arith)
a-comma Function x o us e = let w = puts-some (functor (fvar (record { 0 = x }))) o (comma ∷ us) e in absurd (let z : ◌≡◌ {A = ℕ} 0 1 = cc w.2 in omega arith)
a-comma Equals x o us e = let w = puts-some (equals) o (comma ∷ us) e in absurd (let z : ◌≡◌ {A = ℕ} 0 1 = cc w.2 in omega arith)
a-comma Comma x o us e = let w = puts-some comma o (comma ∷ us) e in (refl, w.1 ∙ ap some (tail-same (sym w.2)))
a-comma Opens x o us e = let w = puts-some (opens) o (comma ∷ us) e in absurd (let z : ◌≡◌ {A = ℕ} 0 1 = cc w.2 in omega arith)
a-comma Closes x o us e = let w = puts-some (closes) o (comma ∷ us) e in absurd (let z : ◌≡◌ {A = ℕ} 0 1 = cc w.2 in omega arith)
a-comma Plus x o us e = let w = puts-some (plus) o (comma ∷ us) e in absurd (let z : ◌≡◌ {A = ℕ} 0 1 = cc w.2 in omega arith)
a-comma Times x o us e = let w = puts-some (times) o (comma ∷ us) e in absurd (let z : ◌≡◌ {A = ℕ} 0 1 = cc w.2 in omega arith)

-- ---- at a place

module _ (text : List ℕ) (at : ℕ) (high : at ≤ length text) {p : Piece} (e : p ≡ next_of text at) where
  pub piece : Next text at p
  piece = subst (Next text at) (sym e) (next-law text at high)

  pub past : (at ≤ p.to) × (p.to ≤ length text)
  past = let a = piece.low in let b = piece.through in (omega arith, piece.high)

  pub end-here : {k : ℕ} → k ≡ turn_of p.mark → k ≡ 1 → (here text at ≡ some []) × (p.to < length text → get_or text p.to 0 ≡ 10)
  end-here f z = let m = is-end p.mark (sym f ∙ z) in (piece.reads ∙ ap (λ k. front k (name_from (drop p.from text)) (here text p.to)) m, (λ q. piece.ends m q))

  pub not_end : {k : ℕ} → k ≡ turn_of p.mark → (k ≡ 1 → ⊥) → here text at ≡ some [] → ⊥
  not_end f n d = n (f ∙ no_end p.mark _ (here text p.to) (sym piece.reads ∙ d))

  pub comma-here : (us : List Token) → here text at ≡ some (comma ∷ us) → (here text p.to ≡ some us) × (at < p.to)
  comma-here us d =
      let w = a-comma p.mark (name_from (drop p.from text)) (here text p.to) us (sym piece.reads ∙ d) in
      (w.1, piece.moves (λ z. let y = ap sort_of w.0 in omega arith))

  opens-here : {k : ℕ} → k ≡ turn_of p.mark → k ≡ 2 → here text at ≡ puts opens (here text p.to)
  opens-here f z = piece.reads ∙ ap (λ k. front k (name_from (drop p.from text)) (here text p.to)) (is-opens p.mark (sym f ∙ z))

  closes_here : {k : ℕ} → k ≡ turn_of p.mark → k ≡ 3 → here text at ≡ puts closes (here text p.to)
  closes_here f z = piece.reads ∙ ap (λ k. front k (name_from (drop p.from text)) (here text p.to)) (is-closes p.mark (sym f ∙ z))

-- ---- two brackets

abbrev no : ℕ → Way
no at = record { ok = false; at = at; n = 0 }

refused : {text : List ℕ} {at : ℕ} → at ≤ length text → (here text at ≡ some (opens ∷ closes ∷ []) → ⊥) → Nothing text at (record { ok = false; at = at; n = 0 })
refused h n = record {
  low = omega arith;
  high = h;
  same = λ z. absurd (let y : ◌≡◌ {A = ℕ} 0 1 = cc in omega arith);
  ends = λ z. absurd (let y : ◌≡◌ {A = ℕ} 0 1 = cc in omega arith);
  good = λ z. absurd (let y : ◌≡◌ {A = ℕ} 0 1 = cc in omega arith);
  bad = λ z d. n d;
}

module _ (text : List ℕ) (at : ℕ) (high : at ≤ length text) {p : Piece} (e : p ≡ next_of text at) {i : ℕ} (f : i ≡ turn_of p.mark) where
  pub none-opens : (i ≡ 2 → ⊥) → Nothing text at (record { ok = false; at = at; n = 0 })
  none-opens n = refused high (λ d. n (f ∙ (no-opens p.mark _ (here text p.to) (closes ∷ []) (sym (piece text at high e).reads ∙ d)).0))

  module _ (a : i ≡ 2) {q : Piece} (g : q ≡ next_of text p.to) {j : ℕ} (h : j ≡ turn_of q.mark) where
    first-high : p.to ≤ length text
    first-high = (past text at high e).1

    behind-first : here text at ≡ some (opens ∷ closes ∷ []) → here text p.to ≡ some (closes ∷ [])
    behind-first d = (no-opens p.mark _ (here text p.to) (closes ∷ []) (sym (piece text at high e).reads ∙ d)).1

    pub none-closes : (j ≡ 3 → ⊥) → Nothing text at (record { ok = false; at = at; n = 0 })
    none-closes n = refused high (λ d. n (h ∙ (no-closes q.mark _ (here text q.to) [] (sym (piece text p.to first-high g).reads ∙ behind-first d)).0))

    module _ (b : j ≡ 3) {r : Piece} (t : r ≡ next_of text q.to) {k : ℕ} (u : k ≡ turn_of r.mark) where
      second-high : q.to ≤ length text
      second-high = (past text p.to first-high g).1

      pub none-ends : (k ≡ 1 → ⊥) → Nothing text at (record { ok = false; at = at; n = 0 })
      none-ends n = refused high (λ d. not_end text q.to second-high t u n (no-closes q.mark _ (here text q.to) [] (sym (piece text p.to first-high g).reads ∙ behind-first d)).1)

      pub is-nothing : k ≡ 1 → Nothing text at (record { ok = true; at = r.to; n = 0 })
      is-nothing c =
          let x = past text at high e in
          let y = past text p.to first-high g in
          let z = past text q.to second-high t in
          record {
            low = omega arith;
            high = omega arith;
            same = λ ◌'. (piece text at high e).same ∙ (piece text p.to first-high g).same ∙ (piece text q.to second-high t).same;
            ends = λ ◌'. (end-here text q.to second-high t u c).1;
            good = λ ◌'. opens-here text at high e f a ∙ ap (puts opens) (closes_here text p.to first-high g h b ∙ ap (puts closes) (end-here text q.to second-high t u c).0);
            bad = λ ◌'. absurd (let v : ◌≡◌ {A = ℕ} 0 1 = cc in omega arith);
          }
