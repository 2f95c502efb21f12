-- An expression where it stands in a text: its bytes are those of its tokens and no others, so read backwards they give its words.
use Prim.Native.Nat.{ℕ, zero, suc, ◌+◌, ◌-◌, ◌*◌, ◌≤◌}
use native.Mathlib.Omega.{arith}
use mathlib.Core.Path.{◌≡◌, refl, sym, ap, ap₂, ◌∙◌, subst}
use mathlib.Core.Bool.{Bool, true, false}
use mathlib.Core.List.{List, [], ◌∷◌, ◌++◌}
use mathlib.Core.Option.{none, some}
use lib.Dec.{eqb}
use lib.ListN.{length, take, drop, get_or, length-append}
use Rattle.language.specs.Kinds.{pick}
use Rattle.language.specs.Between.{between}
use Rattle.language.specs.Trees.{symbol, fvar, Expr}
use Rattle.language.specs.Writing.{expr_words}
use Rattle.language.proofs.Offsets.{between_cons}
use Rattle.grammar.specs.Tokens.{Token, one, run, functor, equals, comma, opens, closes, plus, times, name_byte, blank, begins_name, Tokens, puts, renamed, name_token, letter, marked, star_or, byte, tokens}
use Rattle.grammar.specs.Grammar.{choice, Means, lines_of, ahead}
use Rattle.texts.specs.Numbering.{Naming, name_expr}
use Rattle.lexing.specs.Bytes.{line, others, name_from, name_length}
use Rattle.lexing.specs.Pieces.{here}
use Rattle.lexing.proofs.Laws.{line-go, others-go, begins-line, standing, name-read}
use Rattle.flat.specs.Filling.{operand_on, turns, nothing}
use Rattle.flat.proofs.Filling as Filling
use Rattle.backwards.specs.Backward.{one-if, owed_in, taken, backwards, weight}
use Rattle.backwards.proofs.Plain.{Plain, plain-part}
use Rattle.backwards.proofs.Reading.{NoEnd, read_back, all-taken, puts-some}
use Rattle.backwards.proofs.Weight.{length-operand}

-- ---- tokens one behind the other

abbrev joins : Tokens → Tokens → Tokens
joins none o = none
joins (some ts) none = none
joins (some ts) (some us) = some (ts ++ us)

puts-joins : (t : Token) (a b : Tokens) → puts t (joins a b) ≡ joins (puts t a) b
puts-joins t none b = refl
puts-joins t (some ts) none = refl
puts-joins t (some ts) (some us) = refl

-- a name stands first
abbrev Some : Tokens → Type 0
Some none = Unit {0}
Some (some []) = ⊥
Some (some (t ∷ ts)) = Unit {0}

renamed-joins : (f : ℕ → Token) (a b : Tokens) → Some a → renamed f (joins a b) ≡ joins (renamed f a) b
renamed-joins f none b s = refl
renamed-joins f (some []) b s = absurd s
renamed-joins f (some (one x ∷ ts)) none s = refl
renamed-joins f (some (one x ∷ ts)) (some us) s = refl
renamed-joins f (some (run p ∷ ts)) none s = refl
renamed-joins f (some (run p ∷ ts)) (some us) s = refl
renamed-joins f (some (functor (symbol x) ∷ ts)) none s = refl
renamed-joins f (some (functor (symbol x) ∷ ts)) (some us) s = refl
renamed-joins f (some (functor (fvar X) ∷ ts)) none s = refl
renamed-joins f (some (functor (fvar X) ∷ ts)) (some us) s = refl
renamed-joins f (some (equals ∷ ts)) none s = refl
renamed-joins f (some (equals ∷ ts)) (some us) s = refl
renamed-joins f (some (comma ∷ ts)) none s = refl
renamed-joins f (some (comma ∷ ts)) (some us) s = refl
renamed-joins f (some (opens ∷ ts)) none s = refl
renamed-joins f (some (opens ∷ ts)) (some us) s = refl
renamed-joins f (some (closes ∷ ts)) none s = refl
renamed-joins f (some (closes ∷ ts)) (some us) s = refl
renamed-joins f (some (plus ∷ ts)) none s = refl
renamed-joins f (some (plus ∷ ts)) (some us) s = refl
renamed-joins f (some (times ∷ ts)) none s = refl
renamed-joins f (some (times ∷ ts)) (some us) s = refl

letter-joins : (b : ℕ) (n : Bool) (a o : Tokens) → (n ≡ true → Some a) → letter b n (joins a o) ≡ joins (letter b n a) o
unfolding letter
letter-joins b true a o s = renamed-joins (λ n. name_token (b + 256 * n)) a o (s refl)
letter-joins b false a o s = puts-joins (name_token b) a o

marked-joins : (f : ℕ → Token) (n : Bool) (a o : Tokens) → (n ≡ true → Some a) → marked f n (joins a o) ≡ joins (marked f n a) o
unfolding marked
marked-joins f true a o s = renamed-joins f a o (s refl)
marked-joins f false a o s = refl

star-joins : (n : Bool) (a o : Tokens) → (n ≡ true → Some a) → star_or n (joins a o) ≡ joins (star_or n a) o
unfolding star_or
star-joins true a o s = renamed-joins (λ n. run (record { 0 = n })) a o (s refl)
star-joins false a o s = puts-joins times a o

pick-joins : (t : Bool) (x y x' y' o : Tokens) → x ≡ joins x' o → y ≡ joins y' o → pick t x y ≡ joins (pick t x' y') o
pick-joins true x y x' y' o e f = e
pick-joins false x y x' y' o e f = f

byte-joins : (b : ℕ) (n : Bool) (a o : Tokens) → (n ≡ true → Some a) → byte b n (joins a o) ≡ joins (byte b n a) o
unfolding byte
byte-joins b n a o s =
    pick-joins (name_byte b) _ _ (letter b n a) _ o (letter-joins b n a o s)
    (pick-joins (blank b) _ _ a _ o refl
    (pick-joins (eqb b 63) _ _ (marked (λ n. one (record { 0 = n })) n a) _ o (marked-joins (λ n. one (record { 0 = n })) n a o s)
    (pick-joins (eqb b 42) _ _ (star_or n a) _ o (star-joins n a o s)
    (pick-joins (eqb b 37) _ _ (marked (λ n. functor (fvar (record { 0 = n }))) n a) _ o (marked-joins (λ n. functor (fvar (record { 0 = n }))) n a o s)
    (pick-joins (eqb b 61) _ _ (puts equals a) _ o (puts-joins equals a o)
    (pick-joins (eqb b 44) _ _ (puts comma a) _ o (puts-joins comma a o)
    (pick-joins (eqb b 40) _ _ (puts opens a) _ o (puts-joins opens a o)
    (pick-joins (eqb b 41) _ _ (puts closes a) _ o (puts-joins closes a o)
    (pick-joins (eqb b 43) _ _ (puts plus a) none o (puts-joins plus a o) refl)))))))))

-- a name makes a token
some-puts : (t : Token) (o : Tokens) → Some (puts t o)
some-puts t none = tt
some-puts t (some ts) = tt

some-renamed : (f : ℕ → Token) (o : Tokens) → Some (renamed f o)
some-renamed f none = tt
some-renamed f (some []) = tt
some-renamed f (some (one x ∷ ts)) = tt
some-renamed f (some (run p ∷ ts)) = tt
some-renamed f (some (functor (symbol x) ∷ ts)) = tt
some-renamed f (some (functor (fvar X) ∷ ts)) = tt
some-renamed f (some (equals ∷ ts)) = tt
some-renamed f (some (comma ∷ ts)) = tt
some-renamed f (some (opens ∷ ts)) = tt
some-renamed f (some (closes ∷ ts)) = tt
some-renamed f (some (plus ∷ ts)) = tt
some-renamed f (some (times ∷ ts)) = tt

name-some : (bs : List ℕ) → begins_name bs ≡ true → Some (tokens bs)
unfolding tokens byte letter
name-some [] e = absurd (let z : ◌≡◌ {A = ℕ} 0 1 = cc in omega arith)
name-some (b ∷ bs) e = on (begins_name bs)
  where
    on : (n : Bool) → Some (byte b n (tokens bs))
    on true = rw e (some-renamed (λ n. name_token (b + 256 * n)) (tokens bs))
    on false = rw e (some-puts (name_token b) (tokens bs))

begins-++ : (p r : List ℕ) → begins_name r ≡ false → begins_name (p ++ r) ≡ begins_name p
begins-++ [] r e = e
begins-++ (b ∷ p) r e = refl

-- The tokens of some bytes and of those behind them, where no name goes on.
pub tokens-++ : (p r : List ℕ) → begins_name r ≡ false → tokens (p ++ r) ≡ joins (tokens p) (tokens r)
unfolding tokens
tokens-++ [] r e = alone (tokens r)
  where
    alone : (o : Tokens) → o ≡ joins (some []) o
    alone none = refl
    alone (some ts) = refl
tokens-++ (b ∷ p) r e =
    ap₂ (byte b) (begins-++ p r e) (tokens-++ p r e)
    ∙ byte-joins b (begins_name p) (tokens p) (tokens r) (name-some p)

-- ---- no end of a line between two places

pub lines_split : (bs : List ℕ) → lines_of bs ≡ line bs ∷ others bs
unfolding lines_of line others
lines_split [] = refl
lines_split (b ∷ bs) = on (eqb b 10) (lines_split bs)
  where
    on : (t : Bool) → lines_of bs ≡ line bs ∷ others bs → pick t ([] ∷ lines_of bs) (ahead b (lines_of bs)) ≡ pick t [] (b ∷ line bs) ∷ pick t (lines_of bs) (others bs)
    on true i = refl
    on false i = ap (ahead b) i

others-end : (b : ℕ) (bs : List ℕ) → eqb b 10 ≡ true → length (others (b ∷ bs)) ≡ suc (length (others bs))
unfolding others
others-end b bs e = ap (λ t. length (pick t (lines_of bs) (others bs))) e ∙ ap length (lines_split bs)

fewer-one : (b : ℕ) (bs : List ℕ) → length (others bs) ≤ length (others (b ∷ bs))
fewer-one b bs = on (eqb b 10) refl
  where
    on : (t : Bool) → eqb b 10 ≡ t → length (others bs) ≤ length (others (b ∷ bs))
    on true e = let z = others-end b bs e in omega arith
    on false e = let z = ap length (others-go b bs e) in omega arith

module _ (text : List ℕ) (to : ℕ) (high : to ≤ length text) where
  fewer : (k at : ℕ) → at + k ≡ to → length (others (drop to text)) ≤ length (others (drop at text))
  fewer zero at p = let z = ap (λ n. length (others (drop n text))) (let y : at ≡ to = omega arith in y) in omega arith
  fewer (suc k) at p =
      let i = fewer k (at + 1) (omega arith) in
      let s = ap (λ bs. length (others bs)) (standing text at (omega arith)) in
      let f = fewer-one (get_or text at 0) (drop (at + 1) text) in
      omega arith

  pub none_between : (k at : ℕ) → at + k ≡ to → length (others (drop at text)) ≡ length (others (drop to text)) → NoEnd (between at to text)
  none_between zero at p e = subst NoEnd (ap (λ n. take n (drop at text)) (let z : 0 ≡ to - at = omega arith in z)) tt
  none_between (suc k) at p e =
      subst NoEnd (sym (between_cons at to text (omega arith) high)) (on (eqb (get_or text at 0) 10) refl (λ d. none_between k (at + 1) (omega arith) d))
    where
      on : (t : Bool) → eqb (get_or text at 0) 10 ≡ t → (length (others (drop (at + 1) text)) ≡ length (others (drop to text)) → NoEnd (between (at + 1) to text)) → NoEnd (get_or text at 0 ∷ between (at + 1) to text)
      on true c i =
          absurd (
          let s = ap (λ bs. length (others bs)) (standing text at (omega arith)) in
          let f = fewer k (at + 1) (omega arith) in
          let z = others-end (get_or text at 0) (drop (at + 1) text) c in
          omega arith)
      on false c i =
          let s = ap (λ bs. length (others bs)) (standing text at (omega arith)) in
          let z = ap length (others-go (get_or text at 0) (drop (at + 1) text) c) in
          (c, i (omega arith))

  -- so the line from the one place is those bytes, and the line from the other
  line-cut : (k at : ℕ) → at + k ≡ to → NoEnd (between at to text) → line (drop at text) ≡ between at to text ++ line (drop to text)
  line-cut zero at p n =
      ap (λ m. line (drop m text)) (let z : at ≡ to = omega arith in z)
      ∙ ap (λ m. take m (drop at text) ++ line (drop to text)) (let z : 0 ≡ to - at = omega arith in z)
  line-cut (suc k) at p n =
      let c = between_cons at to text (omega arith) high in
      let m = subst NoEnd c n in
      ap line (standing text at (omega arith)) ∙ line-go (get_or text at 0) (drop (at + 1) text) m.0
      ∙ ap (λ l. get_or text at 0 ∷ l) (line-cut k (at + 1) (omega arith) m.1)
      ∙ ap (λ l. l ++ line (drop to text)) (sym c)

line-none : (bs : List ℕ) → NoEnd bs → line bs ≡ bs
unfolding line
line-none [] n = refl
line-none (b ∷ bs) n = ap (λ t. pick t [] (b ∷ line bs)) n.0 ∙ ap (λ l. b ∷ l) (line-none bs n.1)

-- ---- the tokens between

same-behind : (xs ps us : List Token) → xs ++ us ≡ ps ++ us → xs ≡ ps
same-behind [] [] us e = refl
same-behind [] (p ∷ ps) us e = absurd (let l = ap length e in let m = length-append ps us in omega arith)
same-behind (x ∷ xs) [] us e = absurd (let l = ap length e in let m = length-append xs us in omega arith)
same-behind (x ∷ xs) (p ∷ ps) us e = let z : x ≡ p = cc in let y : xs ++ us ≡ ps ++ us = cc in ap₂ (λ a l. a ∷ l) z (same-behind xs ps us y)

joins-back : (a : Tokens) (ps us : List Token) → joins a (some us) ≡ some (ps ++ us) → a ≡ some ps
joins-back none ps us e = absurd (let z : ◌≡◌ {A = ℕ} 0 1 = cc in omega arith)
joins-back (some xs) ps us e = ap some (same-behind xs ps us (let z : xs ++ us ≡ ps ++ us = cc in z))

abbrev pub Over : List Token → Type 0
Over [] = Unit {0}
Over (one x ∷ ts) = ⊥
Over (run p ∷ ts) = ⊥
Over (functor g ∷ ts) = ⊥
Over (equals ∷ ts) = ⊥
Over (comma ∷ ts) = Unit {0}
Over (opens ∷ ts) = ⊥
Over (closes ∷ ts) = ⊥
Over (plus ∷ ts) = ⊥
Over (times ∷ ts) = ⊥

-- where a literal ends, no name begins
pub no-name-over : (bs : List ℕ) (us : List Token) → tokens (line bs) ≡ some us → Over us → begins_name bs ≡ false
no-name-over bs us e o = on (begins_name bs) refl
  where
    on : (t : Bool) → begins_name bs ≡ t → t ≡ false
    on true f = let w = puts-some (name_token (name_from bs)) (tokens (line (drop (name_length bs) bs))) us (sym (name-read bs f) ∙ e) in absurd (subst Over w.2 o)
    on false f = refl

-- An expression from one place to another: its words, and as many of them as are written and owed.
pub record Stands (ρ : Naming) (text : List ℕ) (at to : ℕ) (R : Expr) : Type 0 where
  pub ends : begins_name (drop to text) ≡ false
  pub words : operand_on (taken ρ (between at to text) (backwards ρ (between at to text) nothing)) ≡ expr_words (name_expr ρ R)
  pub heavy : weight (taken ρ (between at to text) (backwards ρ (between at to text) nothing)) ≡ length (expr_words (name_expr ρ R))

pub stands : (ρ : Naming) (text : List ℕ) (at to : ℕ) → at ≤ to → to ≤ length text → others (drop at text) ≡ others (drop to text)
    → {R : Expr} {ts us : List Token} → here text at ≡ some ts → here text to ≡ some us → Means choice R ts us → Over us → Stands ρ text at to R
unfolding weight
stands ρ text at to low high same {R} {ts} {us} e d m o =
    let q = between at to text in
    let n = none_between text to high (to - at) at (omega arith) (ap length same) in
    let b = no-name-over (drop to text) us d o in
    let w = Filling.part ρ m in
    let v = plain-part m in
    let ps = w.0 in
    let c = ap tokens (line-cut text to high (to - at) at (omega arith) n) ∙ tokens-++ q (line (drop to text)) (begins-line (drop to text) ∙ b) in
    let t : tokens q ≡ some ps = joins-back (tokens q) ps us (ap (joins (tokens q)) (sym d) ∙ sym c ∙ e ∙ ap some w.1) in
    let p : Plain ps = subst Plain (same-behind v.0 ps us (sym v.1 ∙ w.1)) v.2 in
    let r = read_back ρ nothing q ps n (ap tokens (line-none q n) ∙ t) p in
    let f = all-taken ρ nothing q ps r in
    let k = w.2 nothing refl refl refl tt in
    let z = k.0 ∙ nothing-behind (expr_words (name_expr ρ R)) in
    let g = turns ρ ps nothing in
    let lo = length-operand g in
    let lz = ap length z in
    let it = ap one-if k.1.0 in
    let ow = ap owed_in k.1.2 in
    record {
      ends = b;
      words = ap operand_on f ∙ z;
      heavy = ap weight f ∙ (let y : length g.words + (g.stars + one-if g.operand + one-if g.item) + owed_in g.owed ≡ length (expr_words (name_expr ρ R)) = omega arith in y);
    }
  where
    nothing-behind : (l : List ℕ) → l ++ [] ≡ l
    nothing-behind [] = refl
    nothing-behind (n ∷ l) = ap (λ z. n ∷ z) (nothing-behind l)
