-- The names of tokens, of a line and of a text, each on its shelf.
use Prim.Native.Nat.{ℕ, ◌+◌, ◌*◌, ◌-◌, ◌<◌, ◌≤◌}
use native.Mathlib.Omega.{arith}
use mathlib.Core.Path.{◌≡◌, refl, sym, ap, ap₂, ◌∙◌, subst}
use mathlib.Core.Bool.{Bool, true, false, not}
use mathlib.Core.List.{List, [], ◌∷◌, ◌++◌, map}
use mathlib.Core.Option.{none, some}
use lib.Dec.{eqb}
use lib.ListN.{length, drop, get_or, drop_of_length-le}
use lib.Seq.{ext_get_or, get_or-take, get_or-drop}
use borrow.Author.Tests.{eq-eqb, lt-ltb, le-ltb}
use Rattle.language.specs.Limits.{Limits}
use Rattle.language.specs.Kinds.{pick}
use Rattle.language.specs.Between.{between}
use Rattle.language.specs.Trees.{Conj}
use Rattle.language.proofs.Offsets.{length-between}
use Rattle.grammar.specs.Tokens.{Token, Tokens, puts, tokens}
use Rattle.grammar.specs.Grammar.{Lines, no_line, blank, line, lines_of, ahead}
use Rattle.texts.specs.Numbering.{Class, symbols, terms, hedges, functions, at_s, at_t, at_h, at_x, in_all}
use Rattle.lexing.specs.declared.Mark.{Mark}
use Rattle.lexing.specs.declared.Mark.TheVariants.{End, Bad, Symbol, One, Run, Function, Equals, Comma, Opens, Closes, Plus, Times}
use Rattle.lexing.specs.declared.Piece.{Piece}
use Rattle.lexing.specs.Bytes.{others, name_from, sort_of}
use Rattle.lexing.specs.Bytes as Bytes
use Rattle.lexing.specs.Pieces.{here, front, next_of, Next}
use Rattle.lexing.proofs.Laws.{standing}
use Rattle.lexing.proofs.Pieces.{next-law}
use Rattle.text_names.specs.Shelves.{name_at, listed, width, shelf_of, Shelf, Shelves, entering, enter_all, Entered, enter_on}
use Rattle.text_names.proofs.Shelving.{enter-law}
use Rattle.collecting.specs.Collecting.{names_in, own, behind, shelf_at, took_on, LineOn, line-ends, line-goes, LinesOn, last_line, one_more, Took, LineTaken, Taken}
use Rattle.collecting.proofs.Names.{names-in-line, conj-behind}

module _ (L : Limits) (text : List ℕ) where
  -- ---- a shelf on which nothing changed

  listed_same : (names names' : List ℕ) (base : ℕ) → Shelf L names base → length names' ≡ length names → ((i : ℕ) → base ≤ i → i < base + width L → get_or names' i 0 ≡ get_or names i 0)
      → listed text names' base ≡ listed text names base
  unfolding listed
  listed_same names names' base s e f =
      let w = s.within in
      let k = s.few in
      let count = f base (omega arith) (omega arith) in
      ap (λ n. map (name_at text) (between (base + 1) (base + 1 + n) names')) count
      ∙ ap (map (name_at text)) (ext_get_or 0 (between (base + 1) (base + 1 + get_or names base 0) names') (between (base + 1) (base + 1 + get_or names base 0) names) (same_length names names' base w k e) (one_by_one names names' base w k e f))
    where
      same_length : (names names' : List ℕ) (base : ℕ) → base + width L ≤ length names → get_or names base 0 ≤ L.each + 1 → length names' ≡ length names
          → length (between (base + 1) (base + 1 + get_or names base 0) names') ≡ length (between (base + 1) (base + 1 + get_or names base 0) names)
      same_length names names' base w k e = length-between (base + 1) (base + 1 + get_or names base 0) names' (omega arith) ∙ sym (length-between (base + 1) (base + 1 + get_or names base 0) names (omega arith))

      one_by_one : (names names' : List ℕ) (base : ℕ) → base + width L ≤ length names → get_or names base 0 ≤ L.each + 1 → length names' ≡ length names → ((i : ℕ) → base ≤ i → i < base + width L → get_or names' i 0 ≡ get_or names i 0)
          → (i : ℕ) → i < length (between (base + 1) (base + 1 + get_or names base 0) names') → get_or (between (base + 1) (base + 1 + get_or names base 0) names') i 0 ≡ get_or (between (base + 1) (base + 1 + get_or names base 0) names) i 0
      one_by_one names names' base w k e f i p =
          let l = length-between (base + 1) (base + 1 + get_or names base 0) names' (omega arith) in
          let q : i < base + 1 + get_or names base 0 - (base + 1) = omega arith in
          get_or-take (base + 1 + get_or names base 0 - (base + 1)) (drop (base + 1) names') i 0 q ∙ get_or-drop (base + 1) names' i 0
          ∙ f (base + 1 + i) (omega arith) (omega arith)
          ∙ sym (get_or-take (base + 1 + get_or names base 0 - (base + 1)) (drop (base + 1) names) i 0 q ∙ get_or-drop (base + 1) names i 0)

  -- ---- a name on one shelf

  module _ (names : List ℕ) (s : Shelves L names) (at : ℕ) where
    module _ (names' : List ℕ) where
      keeps : (base : ℕ) → Entered L text names base at names' → (c : Class) → ((i : ℕ) → shelf_of L c ≤ i → i < shelf_of L c + width L → get_or names' i 0 ≡ get_or names i 0)
          → Shelf L names' (shelf_of L c) × (listed text names' (shelf_of L c) ≡ listed text names (shelf_of L c))
      keeps base e c f =
          let w = (s c).within in
          let l = e.len in
          let k = f (shelf_of L c) (omega arith) (omega arith) in
          let few = (s c).few in
          (record { within = omega arith; few = subst (λ n. n ≤ L.each + 1) (sym k) few }, listed_same names names' (shelf_of L c) (s c) e.len f)

      new : (c : Class) → Entered L text names (shelf_of L c) at names' → Shelf L names' (shelf_of L c)
      new c e = let w = (s c).within in let l = e.len in record { within = omega arith; few = e.few }

      -- the shelf of each class, where one of them has a name more
      module _ (to : Class) (e : Entered L text names (shelf_of L to) at names') where
        lower : (c : Class) → shelf_of L c + width L ≤ shelf_of L to → Shelf L names' (shelf_of L c) × (listed text names' (shelf_of L c) ≡ listed text names (shelf_of L c))
        lower c p = keeps (shelf_of L to) e c (λ i q r. e.low i (omega arith))

        higher : (c : Class) → shelf_of L to + width L ≤ shelf_of L c → Shelf L names' (shelf_of L c) × (listed text names' (shelf_of L c) ≡ listed text names (shelf_of L c))
        higher c p = keeps (shelf_of L to) e c (λ i q r. e.high i (omega arith))

      abbrev One' : Class → Mark → Bool → Type 0
      One' c m b = Shelf L names' (shelf_of L c) × (listed text names' (shelf_of L c) ≡ enter_all L (listed text names (shelf_of L c)) (own c b m (name_at text at)))

      took : (m : Mark) (b : Bool) → names' ≡ took_on L text names m b at → length names' ≡ length names → ((c : Class) → One' c m b) → Took L text names m b at names'
      took m b o l f = record { on = o; len = l; shelves = λ c. (f c).0; each = λ c. (f c).1 }

      by-term : (b : Bool) → Entered L text names (shelf_of L terms) at names' → (c : Class) → One' c One b
      unfolding enter_all
      by-term b e symbols = higher terms e symbols (omega arith)
      by-term b e terms = (new terms e, e.here)
      by-term b e hedges = higher terms e hedges (omega arith)
      by-term b e functions = higher terms e functions (omega arith)

      by-run : (b : Bool) → Entered L text names (shelf_of L hedges) at names' → (c : Class) → One' c Run b
      unfolding enter_all
      by-run b e symbols = higher hedges e symbols (omega arith)
      by-run b e terms = lower hedges e terms (omega arith)
      by-run b e hedges = (new hedges e, e.here)
      by-run b e functions = higher hedges e functions (omega arith)

      by-symbol : Entered L text names (shelf_of L symbols) at names' → (c : Class) → One' c Symbol false
      unfolding enter_all
      by-symbol e symbols = (new symbols e, e.here)
      by-symbol e terms = lower symbols e terms (omega arith)
      by-symbol e hedges = lower symbols e hedges (omega arith)
      by-symbol e functions = higher symbols e functions (omega arith)

      by-function : (b : Bool) → Entered L text names (shelf_of L functions) at names' → (c : Class) → One' c Function b
      unfolding enter_all
      by-function b e symbols = lower functions e symbols (omega arith)
      by-function b e terms = lower functions e terms (omega arith)
      by-function b e hedges = lower functions e hedges (omega arith)
      by-function b e functions = (new functions e, e.here)

      -- a name entered on the shelf of its mark
      taken-on : (m : Mark) (b : Bool) → names' ≡ took_on L text names m b at → shelf_at L m b < 4 * width L → Entered L text names (shelf_at L m b) at names' → Took L text names m b at names'
      taken-on End b o p e = absurd (omega arith)
      taken-on Bad b o p e = absurd (omega arith)
      taken-on Symbol true o p e = absurd (omega arith)
      taken-on Symbol false o p e = took Symbol false o e.len (by-symbol e)
      taken-on One b o p e = took One b o e.len (by-term b e)
      taken-on Run b o p e = took Run b o e.len (by-run b e)
      taken-on Function b o p e = took Function b o e.len (by-function b e)
      taken-on Equals b o p e = absurd (omega arith)
      taken-on Comma b o p e = absurd (omega arith)
      taken-on Opens b o p e = absurd (omega arith)
      taken-on Closes b o p e = absurd (omega arith)
      taken-on Plus b o p e = absurd (omega arith)
      taken-on Times b o p e = absurd (omega arith)

      taken_at : {m : Mark} {b : Bool} {x : ℕ} → names' ≡ took_on L text names m b at → x ≡ shelf_at L m b → x < 4 * width L → Entered L text names x at names' → Took L text names m b at names'
      taken_at {m} {b} {x} o e p t = taken-on m b o (subst (λ n. n < 4 * width L) e p) (subst (λ n. Entered L text names n at names') e t)

    -- and none
    nothing-new : (m : Mark) (b : Bool) → names ≡ took_on L text names m b at → ((c : Class) → own c b m (name_at text at) ≡ []) → Took L text names m b at names
    unfolding enter_all
    nothing-new m b o f = record { on = o; len = refl; shelves = s; each = λ c. sym (ap (enter_all L (listed text names (shelf_of L c))) (f c)) }

    -- what the code does is what it says, either way
    on_none : (m : Mark) (b : Bool) → 4 * width L ≤ shelf_at L m b → names ≡ took_on L text names m b at
    unfolding took_on
    on_none m b p = sym (ap (λ z. pick z (enter_on L text names (shelf_at L m b) at) names) (le-ltb (shelf_at L m b) (4 * width L) p))

    on-shelves : (m : Mark) (b : Bool) → shelf_at L m b < 4 * width L → enter_on L text names (shelf_at L m b) at ≡ took_on L text names m b at
    unfolding took_on
    on-shelves m b p = sym (ap (λ z. pick z (enter_on L text names (shelf_at L m b) at) names) (lt-ltb (shelf_at L m b) (4 * width L) p))

    not-taken-on : (m : Mark) (b : Bool) → names ≡ took_on L text names m b at → 4 * width L ≤ shelf_at L m b → Took L text names m b at names
    not-taken-on End b o p = nothing-new End b o (λ c. refl)
    not-taken-on Bad b o p = nothing-new Bad b o (λ c. refl)
    not-taken-on Symbol true o p = nothing-new Symbol true o (λ c. refl)
    not-taken-on Symbol false o p = absurd (omega arith)
    not-taken-on One b o p = absurd (omega arith)
    not-taken-on Run b o p = absurd (omega arith)
    not-taken-on Function b o p = absurd (omega arith)
    not-taken-on Equals b o p = nothing-new Equals b o (λ c. refl)
    not-taken-on Comma b o p = nothing-new Comma b o (λ c. refl)
    not-taken-on Opens b o p = nothing-new Opens b o (λ c. refl)
    not-taken-on Closes b o p = nothing-new Closes b o (λ c. refl)
    not-taken-on Plus b o p = nothing-new Plus b o (λ c. refl)
    not-taken-on Times b o p = nothing-new Times b o (λ c. refl)

    pub not_taken : {m : Mark} {b : Bool} {x : ℕ} → x ≡ shelf_at L m b → 4 * width L ≤ x → Took L text names m b at names
    not_taken {m} {b} e p = let q = subst (λ n. 4 * width L ≤ n) e p in not-taken-on m b (on_none m b q) q

    on-shelf : (m : Mark) (b : Bool) → shelf_at L m b < 4 * width L → Shelf L names (shelf_at L m b)
    on-shelf End b p = absurd (omega arith)
    on-shelf Bad b p = absurd (omega arith)
    on-shelf Symbol true p = absurd (omega arith)
    on-shelf Symbol false p = s symbols
    on-shelf One b p = s terms
    on-shelf Run b p = s hedges
    on-shelf Function b p = s functions
    on-shelf Equals b p = absurd (omega arith)
    on-shelf Comma b p = absurd (omega arith)
    on-shelf Opens b p = absurd (omega arith)
    on-shelf Closes b p = absurd (omega arith)
    on-shelf Plus b p = absurd (omega arith)
    on-shelf Times b p = absurd (omega arith)

    pub its-shelf : (m : Mark) (b : Bool) {x : ℕ} → x ≡ shelf_at L m b → x < 4 * width L → Shelf L names x
    its-shelf m b e p = subst (Shelf L names) (sym e) (on-shelf m b (subst (λ n. n < 4 * width L) e p))

    pub taken : {m : Mark} {b : Bool} {x : ℕ} {names' : List ℕ} → x ≡ shelf_at L m b → x < 4 * width L → names' ≡ enter_on L text names x at → Took L text names m b at names'
    taken {m} {b} {x} {names'} e p t = taken_at names' (t ∙ ap (λ n. enter_on L text names n at) e ∙ on-shelves m b (subst (λ n. n < 4 * width L) e p)) e p (subst (Entered L text names x at) (sym t) (enter-law L text names x at (its-shelf m b e p)))

  -- ---- a line

  all-++ : (t l k : List ℕ) → enter_all L (enter_all L t l) k ≡ enter_all L t (l ++ k)
  unfolding enter_all
  all-++ t [] k = refl
  all-++ t (n ∷ l) k = all-++ (entering L n t) l k

  none-some : {A : Type 0} {ts : List Token} → ◌≡◌ {A = Tokens} none (some ts) → A
  none-some e = absurd (let z : ◌≡◌ {A = ℕ} 0 1 = cc in omega arith)

  -- the first token and the rest
  puts-some : (t : Token) (o : Tokens) (ts : List Token) → puts t o ≡ some ts → (us : List Token) × (o ≡ some us) × (ts ≡ t ∷ us)
  puts-some t none ts e = none-some e
  puts-some t (some us) ts e = (us, refl, (let z : ts ≡ t ∷ us = cc in z))

  own_first : (c : Class) (b : Bool) (m : Mark) (n : ℕ) (o : Tokens) (ts : List Token) → (sort_of m ≡ 0 → ⊥) → front m n o ≡ some ts → (us : List Token) × (o ≡ some us) × (names_in c b ts ≡ own c b m n ++ names_in c (behind m b) us)
  own_first c b End n o ts s e = absurd (s refl)
  own_first c b Bad n o ts s e = absurd (s refl)
  own_first c b Symbol n o ts s e = let w = puts-some _ o ts e in (w.0, w.1, ap (names_in c b) w.2 ∙ by_bit b w.0)
    where
      at-s : (c : Class) (k : List ℕ) → at_s c n k ≡ at_s c n [] ++ k
      at-s symbols k = refl
      at-s terms k = refl
      at-s hedges k = refl
      at-s functions k = refl

      by_bit : (b : Bool) (us : List Token) → pick b (names_in c false us) (at_s c n (names_in c true us)) ≡ pick b [] (at_s c n []) ++ names_in c (not b) us
      by_bit true us = refl
      by_bit false us = at-s c (names_in c true us)
  own_first c b One n o ts s e = let w = puts-some _ o ts e in (w.0, w.1, ap (names_in c b) w.2 ∙ at-t c (names_in c true w.0))
    where
      at-t : (c : Class) (k : List ℕ) → at_t c n k ≡ at_t c n [] ++ k
      at-t symbols k = refl
      at-t terms k = refl
      at-t hedges k = refl
      at-t functions k = refl
  own_first c b Run n o ts s e = let w = puts-some _ o ts e in (w.0, w.1, ap (names_in c b) w.2 ∙ at-h c (names_in c true w.0))
    where
      at-h : (c : Class) (k : List ℕ) → at_h c n k ≡ at_h c n [] ++ k
      at-h symbols k = refl
      at-h terms k = refl
      at-h hedges k = refl
      at-h functions k = refl
  own_first c b Function n o ts s e = let w = puts-some _ o ts e in (w.0, w.1, ap (names_in c b) w.2 ∙ at_x_lem c (names_in c true w.0))
    where
      at_x_lem : (c : Class) (k : List ℕ) → at_x c n k ≡ at_x c n [] ++ k
      at_x_lem symbols k = refl
      at_x_lem terms k = refl
      at_x_lem hedges k = refl
      at_x_lem functions k = refl
  own_first c b Equals n o ts s e = let w = puts-some _ o ts e in (w.0, w.1, ap (names_in c b) w.2)
  own_first c b Comma n o ts s e = let w = puts-some _ o ts e in (w.0, w.1, ap (names_in c b) w.2)
  own_first c b Opens n o ts s e = let w = puts-some _ o ts e in (w.0, w.1, ap (names_in c b) w.2)
  own_first c b Closes n o ts s e = let w = puts-some _ o ts e in (w.0, w.1, ap (names_in c b) w.2)
  own_first c b Plus n o ts s e = let w = puts-some _ o ts e in (w.0, w.1, ap (names_in c b) w.2)
  own_first c b Times n o ts s e = let w = puts-some _ o ts e in (w.0, w.1, ap (names_in c b) w.2)

  no-tokens : (c : Class) (b : Bool) (m : Mark) (n : ℕ) (o : Tokens) (ts : List Token) → sort_of m ≡ 0 → front m n o ≡ some ts → (m ≡ End) × (names_in c b ts ≡ [])
  no-tokens c b End n o ts s e = (refl, ap (names_in c b) (let z : ts ≡ [] = cc in z))
  no-tokens c b Bad n o ts s e = none-some e
  no-tokens c b Symbol n o ts s e = absurd (omega arith)
  no-tokens c b One n o ts s e = absurd (omega arith)
  no-tokens c b Run n o ts s e = absurd (omega arith)
  no-tokens c b Function n o ts s e = absurd (omega arith)
  no-tokens c b Equals n o ts s e = absurd (omega arith)
  no-tokens c b Comma n o ts s e = absurd (omega arith)
  no-tokens c b Opens n o ts s e = absurd (omega arith)
  no-tokens c b Closes n o ts s e = absurd (omega arith)
  no-tokens c b Plus n o ts s e = absurd (omega arith)
  no-tokens c b Times n o ts s e = absurd (omega arith)

  same_some : {o : Tokens} {us vs : List Token} → o ≡ some us → o ≡ some vs → us ≡ vs
  same_some e f = cc

  step-lives : (names' names'' : List ℕ) (b b' : Bool) (m : Mark) (x : ℕ) (o : Tokens) (vs : List Token) → (sort_of m ≡ 0 → ⊥) → front m x o ≡ some vs
      → ((c : Class) → listed text names'' (shelf_of L c) ≡ enter_all L (listed text names' (shelf_of L c)) (own c b m x)) → b' ≡ behind m b
      → (us : List Token) × (o ≡ some us) × ((c : Class) → enter_all L (listed text names'' (shelf_of L c)) (names_in c b' us) ≡ enter_all L (listed text names' (shelf_of L c)) (names_in c b vs))
  step-lives names' names'' b b' m x o vs s e t f =
      let w = own_first terms b m x o vs s e in (
        w.0,
        w.1,
        (λ c.
            ap₂ (λ k d. enter_all L k (names_in c d w.0)) (t c) f
            ∙ all-++ (listed text names' (shelf_of L c)) (own c b m x) (names_in c (behind m b) w.0)
            ∙ ap (enter_all L (listed text names' (shelf_of L c))) (ap (λ k. own c b m x ++ names_in c (behind m b) k) (same_some w.1 (own_first c b m x o vs s e).1) ∙ sym (own_first c b m x o vs s e).2)),
      )

  -- with what is still to come, the shelves are as they are to be
  pub record Going (names : List ℕ) (at : ℕ) (names' : List ℕ) (i : ℕ) (b : Bool) : Type 0 where
    pub on : (n : List ℕ) (r : ℕ) → LineOn L text names' i b n r → LineOn L text names at false n r
    pub low : at ≤ i
    pub high : i ≤ length text
    pub len : length names' ≡ length names
    pub shelves : Shelves L names'
    pub same : others (drop at text) ≡ others (drop i text)
    pub lives : (ts : List Token) → here text at ≡ some ts → (us : List Token) × (here text i ≡ some us)
        × ((c : Class) → enter_all L (listed text names' (shelf_of L c)) (names_in c b us) ≡ enter_all L (listed text names (shelf_of L c)) (names_in c false ts))

  module _ (names : List ℕ) (at : ℕ) where
    pub going-starts : at ≤ length text → Shelves L names → Going names at names at false
    going-starts p s = record { on = λ n r d. d; low = omega arith; high = p; len = refl; shelves = s; same = refl; lives = λ ts e. (ts, e, (λ c. refl)) }

    module _ {names' : List ℕ} {i : ℕ} {b : Bool} (g : Going names at names' i b) {p : Piece} (e₀ : p ≡ next_of text i) where
      n : Next text i p
      n = subst (Next text i) (sym e₀) (next-law text i g.high)

      pub going-ends : {x : ℕ} → x ≡ sort_of p.mark → x ≡ 0 → LineTaken L text names at p.to names'
      unfolding enter_all
      going-ends d z = record {
        on = g.on names' p.to (subst (λ q. LineOn L text names' i b names' q.to) (sym e₀) (line-ends (ap (λ q. sort_of q.mark) (sym e₀) ∙ sym d ∙ z)));
        low = let u = g.low in let v = n.low in let w = n.through in omega arith;
        high = n.high;
        len = g.len;
        shelves = g.shelves;
        same = g.same ∙ n.same;
        ends = λ ts e q. let l = g.lives ts e in n.ends (no-tokens terms b p.mark (name_from (drop p.from text)) (here text p.to) l.0 (sym d ∙ z) (sym n.reads ∙ l.1)).0 q;
        each = λ ts e c. let l = g.lives ts e in ap (enter_all L (listed text names' (shelf_of L c))) (sym (no-tokens c b p.mark (name_from (drop p.from text)) (here text p.to) l.0 (sym d ∙ z) (sym n.reads ∙ l.1)).1) ∙ l.2 c;
      }

      pub going_less : {x : ℕ} → x ≡ sort_of p.mark → (x ≡ 0 → ⊥) → length text - p.to < length text - i
      going_less d z = let m = n.moves (λ y. z (d ∙ y)) in let h = n.high in omega arith

      pub going_on : {x : ℕ} → x ≡ sort_of p.mark → (x ≡ 0 → ⊥) → {names'' : List ℕ} → Took L text names' p.mark b p.from names'' → {b' : Bool} → b' ≡ behind p.mark b → Going names at names'' p.to b'
      going_on d z {names''} t {b'} f = record {
        on = λ k r l. g.on k r (line-goes (λ y. z (d ∙ ap (λ q. sort_of q.mark) e₀ ∙ y))
            (subst (λ q. LineOn L text (took_on L text names' q.mark b q.from) q.to (behind q.mark b) k r) e₀
            (subst (λ v. LineOn L text (took_on L text names' p.mark b p.from) p.to v k r) f (subst (λ v. LineOn L text v p.to b' k r) t.on l))));
        low = let u = g.low in let v = n.low in let w = n.through in omega arith;
        high = n.high;
        len = t.len ∙ g.len;
        shelves = t.shelves;
        same = g.same ∙ n.same;
        lives = λ ts e.
            let l = g.lives ts e in
            let w = step-lives names' names'' b b' p.mark (name_at text p.from) (here text p.to) l.0 (λ y. z (d ∙ y)) (sym n.reads ∙ l.1) t.each f in
            (w.0, w.1, (λ c. w.2 c ∙ l.2 c));
      }

  -- ---- a text

  lines_split : (bs : List ℕ) → lines_of bs ≡ Bytes.line bs ∷ others bs
  unfolding lines_of Bytes.line others
  lines_split [] = refl
  lines_split (b ∷ bs) = on (eqb b 10) (lines_split bs)
    where
      on : (t : Bool) → lines_of bs ≡ Bytes.line bs ∷ others bs → pick t ([] ∷ lines_of bs) (ahead b (lines_of bs)) ≡ pick t [] (b ∷ Bytes.line bs) ∷ pick t (lines_of bs) (others bs)
      on true i = refl
      on false i = ap (ahead b) i

  no-others : others [] ≡ []
  unfolding others
  no-others = refl

  behind-newline : (i : ℕ) → i < length text → get_or text i 0 ≡ 10 → others (drop i text) ≡ lines_of (drop (i + 1) text)
  unfolding others
  behind-newline i p e = ap others (standing text i p) ∙ rw (eq-eqb (get_or text i 0) 10 e)

  -- the first line of some lines, and its names
  first-line : (ks : List Conj) (l : List ℕ) (ls : List (List ℕ)) → Lines ks (l ∷ ls)
      → (ts : List Token) × (tokens l ≡ some ts) × (js : List Conj) × Lines js ls × ((c : Class) → in_all c ks ≡ names_in c false ts ++ in_all c js)
  first-line ks l ls (blank e d) = ([], e, ks, d, (λ c. refl))
  first-line (k ∷ ks) l ls (line {ts = ts} e f d) = (ts, e, ks, d, (λ c. conj-behind c k (in_all c ks) ∙ ap (λ m. m ++ in_all c ks) (sym (names-in-line c f))))

  none_left : (ks : List Conj) → Lines ks [] → ks ≡ []
  none_left [] no_line = refl
  none_left (_ ∷ _) x3 = elim x3 [ ]

  pub record GoingOn (names names' : List ℕ) (at : ℕ) : Type 0 where
    pub on : (n : List ℕ) → LinesOn L text names' at n → LinesOn L text names 0 n
    pub high : at ≤ length text
    pub len : length names' ≡ length names
    pub shelves : Shelves L names'
    pub lives : (ks : List Conj) → Lines ks (lines_of text) → (js : List Conj) × Lines js (lines_of (drop at text)) × ((c : Class) → enter_all L (listed text names' (shelf_of L c)) (in_all c js) ≡ enter_all L (listed text names (shelf_of L c)) (in_all c ks))

  module _ (names : List ℕ) where
    pub text-starts : Shelves L names → GoingOn names names 0
    text-starts s = record { on = λ n d. d; high = omega arith; len = refl; shelves = s; lives = λ ks d. (ks, d, (λ c. refl)) }

    module _ {names' : List ℕ} {at : ℕ} (g : GoingOn names names' at) {names'' : List ℕ} {r : ℕ} (t : LineTaken L text names' at r names'') where
      -- the line just read, of the lines that are left
      one_line : (js : List Conj) → Lines js (lines_of (drop at text))
          → (ts : List Token) × (here text at ≡ some ts) × (is : List Conj) × Lines is (others (drop r text)) × ((c : Class) → enter_all L (listed text names'' (shelf_of L c)) (in_all c is) ≡ enter_all L (listed text names' (shelf_of L c)) (in_all c js))
      one_line js d =
          let f = first-line js (Bytes.line (drop at text)) (others (drop at text)) (subst (Lines js) (lines_split (drop at text)) d) in (
            f.0,
            f.1,
            f.2,
            subst (Lines f.2) t.same f.3,
            (λ c.
                ap (λ l. enter_all L l (in_all c f.2)) (t.each f.0 f.1 c)
                ∙ all-++ (listed text names' (shelf_of L c)) (names_in c false f.0) (in_all c f.2)
                ∙ ap (enter_all L (listed text names' (shelf_of L c))) (sym (f.4 c))),
          )

      pub text-ends : length text ≤ r → Taken L text names names''
      unfolding enter_all
      text-ends p = record {
        on = g.on names'' (last_line t.on p);
        len = t.len ∙ g.len;
        shelves = t.shelves;
        each = λ ks d c.
            let l = g.lives ks d in
            let o = one_line l.0 l.1 in
            let z : o.2 ≡ [] = none_left o.2 (subst (Lines o.2) (ap others (drop_of_length-le text p) ∙ no-others) o.3) in
            ap (λ is. enter_all L (listed text names'' (shelf_of L c)) (in_all c is)) (sym z) ∙ o.4 c ∙ l.2 c;
      }

      pub text-on : r < length text → GoingOn names names'' (r + 1)
      text-on p = record {
        on = λ n d. g.on n (one_more t.on p d);
        high = omega arith;
        len = t.len ∙ g.len;
        shelves = t.shelves;
        lives = λ ks d.
            let l = g.lives ks d in
            let o = one_line l.0 l.1 in
            (o.2, subst (Lines o.2) (behind-newline r p (t.ends o.0 o.1 p)) o.3, (λ c. o.4 c ∙ l.2 c));
      }
