-- The words of a hedge without variables, and which forms it has.
use Prim.Native.Nat.{ℕ, ◌+◌, ◌-◌, ◌<◌, ◌≤◌}
use mathlib.Core.Path.{◌≡◌, refl, sym, ap, ◌∙◌}
use mathlib.Core.Bool.{Bool, true, false, ◌&&◌, and-false, and_assoc}
use mathlib.Core.List.{List, [], ◌∷◌, ◌++◌, append-nil}
use mathlib.Core.Option.{Option, none, some}
use native.Mathlib.Omega.{arith}
use lib.Dec.{eqb}
use native.Mathlib.Numerals.{add-one}
use lib.Seq.{drop-cons}
use lib.ListN.{length, get_or, drop, length-append, drop_of_length-le}
use borrow.Author.Tests.{eq-eqb, ne_eqb}
use Rattle.language.specs.declared.Kind.{Kind}
use Rattle.language.specs.declared.Kind.TheVariants.{End, Term, Run, Symbol, Function}
use Rattle.language.specs.declared.Sym.{Sym}
use Rattle.language.specs.Limits.{desk}
use Rattle.language.specs.Kinds.{kind_of}
use Rattle.language.specs.Trees.{symbol, fvar, Hedge, ε, tvar, hvar, node, Counts}
use Rattle.language.specs.Writing.{hedge_words}
use Rattle.language.specs.Fine.{fine_hedge}
use Rattle.language.specs.Reading.{Got, got, stop, read_hedge}
use Rattle.language.specs.Question.{declared_f, declared}
use Rattle.language.proofs.Words.{kind-end, kind-term, kind-run, kind-symbol, kind-function}
use Rattle.language.proofs.Laws.{hedges-read}
use Rattle.language.proofs.Sizes.{hedge-some}
use Rattle.meaning.specs.Complete.{Complete, nil, tree, complete_words}
use Rattle.meaning.specs.Values.{with_node, complete, Form, a_term, a_name, fits, fitting, value_of}
use Rattle.std.specs.Prelude.{Ok, Err}
use Rattle.trees.specs.Places.{placed}
use Rattle.given.specs.Checking.{is_some, plain_on, plain_words, of_form, Of, Judged, OneTerm}

module _ (s : ℕ) where
  plain-append : (us vs : List ℕ) → plain_words s (us ++ vs) ≡ (plain_words s us && plain_words s vs)
  unfolding plain_words
  plain-append [] vs = refl
  plain-append (u ∷ us) vs = ap (λ b. plain_on s (kind_of desk u) && b) (plain-append us vs) ∙ sym (and_assoc (plain_on s (kind_of desk u)) (plain_words s us) (plain_words s vs))

  plain_word : (w : ℕ) (k : Kind) (ws : List ℕ) → kind_of desk w ≡ k → plain_words s (w ∷ ws) ≡ (plain_on s k && plain_words s ws)
  unfolding plain_words
  plain_word w k ws e = ap (λ k. plain_on s k && plain_words s ws) e

  plain-none : plain_words s [] ≡ true
  unfolding plain_words
  plain-none = refl

-- ---- word by word

module _ (s : ℕ) (ws : List ℕ) (i : ℕ) where
  plain_here : i < length ws → plain_words s (drop i ws) ≡ (plain_on s (kind_of desk (get_or ws i 0)) && plain_words s (drop (i + 1) ws))
  unfolding plain_words
  plain_here p = rw (add-one, drop-cons ws i 0 p)

  pub plain-on : i < length ws → (b : Bool) → b ≡ plain_on s (kind_of desk (get_or ws i 0)) → b ≡ true → plain_words s (drop (i + 1) ws) ≡ plain_words s (drop i ws)
  plain-on p b e t = sym (plain_here p ∙ ap (λ b. b && plain_words s (drop (i + 1) ws)) (sym e ∙ t))

  pub plain-fails : i < length ws → (b : Bool) → b ≡ plain_on s (kind_of desk (get_or ws i 0)) → b ≡ false → false ≡ plain_words s (drop i ws)
  plain-fails p b e t = sym (plain_here p ∙ ap (λ b. b && plain_words s (drop (i + 1) ws)) (sym e ∙ t))

  pub plain_done : length ws ≤ i → true ≡ plain_words s (drop i ws)
  unfolding plain_words
  plain_done p = sym (ap (plain_words s) (drop_of_length-le ws p))

node-some : (f : Sym) (x y : Option Complete) → is_some (with_node f x y) ≡ (is_some x && is_some y)
node-some f none y = refl
node-some f (some c) none = refl
node-some f (some c) (some r) = refl

regroup : (a b c d e : Bool) → (a && ((b && d) && (c && e))) ≡ (((a && b) && c) && (d && e))
regroup false b c d e = refl
regroup true false c d e = refl
regroup true true true d e = refl
regroup true true false d e = and-false d

-- the words are plain just where the hedge is declared and has no variables
plain-hedge : (n : Counts) (h : Hedge) → fine_hedge desk h → plain_words n.symbols (hedge_words h) ≡ (declared n h && is_some (complete h))
plain-hedge n ε i = plain_word n.symbols 0 End [] (kind-end desk) ∙ plain-none n.symbols
plain-hedge n (tvar x r) i = plain_word n.symbols _ (Term x) (hedge_words r) (kind-term desk x i.0) ∙ sym (and-false (declared n (tvar x r)))
plain-hedge n (hvar p r) i = plain_word n.symbols _ (Run p) (hedge_words r) (kind-run desk p i.0) ∙ sym (and-false (declared n (hvar p r)))
plain-hedge n (node (symbol f) c r) i =
    plain_word n.symbols _ (Symbol f) (hedge_words c ++ hedge_words r) (kind-symbol desk f i.0)
    ∙ ap (λ b. declared_f n (symbol f) && b)
    (plain-append n.symbols (hedge_words c) (hedge_words r) ∙ ap (λ b. b && plain_words n.symbols (hedge_words r)) (plain-hedge n c i.1) ∙ ap (λ b. (declared n c && is_some (complete c)) && b) (plain-hedge n r i.2))
    ∙ regroup (declared_f n (symbol f)) (declared n c) (declared n r) (is_some (complete c)) (is_some (complete r))
    ∙ ap (λ b. declared n (node (symbol f) c r) && b) (sym (node-some f (complete c) (complete r)))
plain-hedge n (node (fvar X) c r) i = plain_word n.symbols _ (Function X) (hedge_words c ++ hedge_words r) (kind-function desk X i.0) ∙ sym (and-false (declared n (node (fvar X) c r)))

-- and they are those of the complete hedge
pub complete-words : (h : Hedge) (g : Complete) → complete h ≡ some g → hedge_words h ≡ complete_words g
complete-words ε g e = let z : nil ≡ g = cc in ap complete_words z
complete-words (tvar x r) g e = absurd (let z : ◌≡◌ {A = ℕ} 0 1 = cc in omega arith)
complete-words (hvar p r) g e = absurd (let z : ◌≡◌ {A = ℕ} 0 1 = cc in omega arith)
complete-words (node (symbol f) c r) g e = on (complete c) (complete-words c) (complete r) (complete-words r) e
  where
    on : (x : Option Complete) → ((u : Complete) → x ≡ some u → hedge_words c ≡ complete_words u) → (y : Option Complete) → ((u : Complete) → y ≡ some u → hedge_words r ≡ complete_words u)
        → with_node f x y ≡ some g → hedge_words (node (symbol f) c r) ≡ complete_words g
    on none p y q e = absurd (let z : ◌≡◌ {A = ℕ} 0 1 = cc in omega arith)
    on (some u) p none q e = absurd (let z : ◌≡◌ {A = ℕ} 0 1 = cc in omega arith)
    on (some u) p (some v) q e =
        let z : tree f u v ≡ g = cc in
        ap (λ l. (3000 + f.0) ∷ (l ++ hedge_words r)) (p u refl) ∙ ap (λ l. (3000 + f.0) ∷ (complete_words u ++ l)) (q v refl) ∙ ap complete_words z
complete-words (node (fvar X) c r) g e = absurd (let z : ◌≡◌ {A = ℕ} 0 1 = cc in omega arith)

some_words : (g : Complete) → 0 < length (complete_words g)
some_words nil = omega arith
some_words (tree f c r) = omega arith

-- one name is three words
pub name-size : (g : Complete) → eqb (length (complete_words g)) 3 ≡ fits a_name g
name-size nil = refl
name-size (tree f nil nil) = refl
name-size (tree f nil (tree g c r)) =
    ne_eqb (length (complete_words (tree f nil (tree g c r)))) 3 (let a = length-append (complete_words c) (complete_words r) in let b = some_words c in let d = some_words r in omega arith)
name-size (tree f (tree g c d) r) =
    ne_eqb (length (complete_words (tree f (tree g c d) r))) 3
    (let a = length-append (complete_words (tree g c d)) (complete_words r) in let a2 = length-append (complete_words c) (complete_words d) in let b = some_words c in let e = some_words d in let x = some_words r in omega arith)

-- ---- the forms of what was read

module _ (n : Counts) (ws : List ℕ) where
  of-got : (f : Form) (h : Hedge) (k : ℕ) → read_hedge desk ws ≡ got h k → (b : Bool) → (eqb k (length ws) && declared n h) ≡ b → of_form n f ws ≡ is_some {A = Complete} (elim b [ true ↦ fitting f (complete h) | false ↦ none ])
  unfolding of_form
  of-got f h k e b d = ap (λ x. is_some (value_of n f (length ws) x)) e ∙ ap (λ b. is_some {A = Complete} (elim b [ true ↦ fitting f (complete h) | false ↦ none ])) d

  no-got : (q : ℕ) → read_hedge desk ws ≡ stop q → Judged n ws false
  unfolding of_form
  no-got q e = record { plain = λ z. absurd (let o : ◌≡◌ {A = ℕ} 0 1 = cc in omega arith); not_plain = λ z f. rw e }

  -- a hedge before other words
  not-all : (h : Hedge) (k : ℕ) → read_hedge desk ws ≡ got h k → (k ≡ length ws → ⊥) → Judged n ws false
  not-all h k e x = record {
    plain = λ z. absurd (let o : ◌≡◌ {A = ℕ} 0 1 = cc in omega arith);
    not_plain = λ z f. of-got f h k e false (ap (λ b. b && declared n h) (ne_eqb k (length ws) x));
  }

  fit : (f : Form) (g : Complete) → is_some (fitting f (some g)) ≡ fits f g
  fit f g = on (fits f g)
    where
      on : (b : Bool) → is_some {A = Complete} (elim b [ true ↦ some g | false ↦ none ]) ≡ b
      on true = refl
      on false = refl

  pub its-words : (h : Hedge) (k : ℕ) → read_hedge desk ws ≡ got h k → k ≡ length ws → fine_hedge desk h × (ws ≡ hedge_words h)
  its-words h k e x =
      let f = (hedges-read desk).found ws h k e in
      let z : length ws ≤ k = omega arith in
      (f.0, f.2 ∙ ap (λ l. hedge_words h ++ l) (drop_of_length-le ws z) ∙ append-nil (hedge_words h))

  all : (h : Hedge) (k : ℕ) → read_hedge desk ws ≡ got h k → k ≡ length ws → (r : Bool) → r ≡ plain_words n.symbols ws → Judged n ws r
  all h k e x r p =
      let (fine, words) = its-words h k e x in
      let q : r ≡ (declared n h && is_some (complete h)) = p ∙ ap (plain_words n.symbols) words ∙ plain-hedge n h fine in
      on fine words (declared n h) refl (complete h) refl q
    where
      on : fine_hedge desk h → ws ≡ hedge_words h → (d : Bool) → declared n h ≡ d → (o : Option Complete) → complete h ≡ o → r ≡ (d && is_some o) → Judged n ws r
      on fine words false dd o oo q = record {
        plain = λ z. absurd (let o : ◌≡◌ {A = ℕ} 0 1 = cc in omega arith);
        not_plain = λ z f. of-got f h k e false (ap (λ b. b && declared n h) (eq-eqb k (length ws) x) ∙ dd);
      }
      on fine words true dd none oo q = record {
        plain = λ z. absurd (let o : ◌≡◌ {A = ℕ} 0 1 = cc in omega arith);
        not_plain = λ z f. of-got f h k e true (ap (λ b. b && declared n h) (eq-eqb k (length ws) x) ∙ dd) ∙ ap (λ o. is_some (fitting f o)) oo;
      }
      on fine words true dd (some g) oo q = record {
        plain = λ z. record {
          h = h;
          g = g;
          it = record { fine = fine; is = oo; words = words };
          form = λ f. of-got f h k e true (ap (λ b. b && declared n h) (eq-eqb k (length ws) x) ∙ dd) ∙ ap (λ o. is_some (fitting f o)) oo ∙ fit f g;
        };
        not_plain = λ z. absurd (let o : ◌≡◌ {A = ℕ} 0 1 = cc in omega arith);
      }

  -- ---- from the place where reading ended

  pub judged-stop : (q : ℕ) → placed 0 (read_hedge desk ws) ≡ Err q → Judged n ws false
  unfolding placed
  judged-stop q e = on (read_hedge desk ws) refl e
    where
      on : (x : Got Hedge) → read_hedge desk ws ≡ x → placed 0 x ≡ Err q → Judged n ws false
      on (got h k) i e = absurd (let z : ◌≡◌ {A = ℕ} 0 1 = cc in omega arith)
      on (stop k) i e = no-got k i

  pub judged-short : (q : ℕ) → placed 0 (read_hedge desk ws) ≡ Ok q → (q ≡ length ws → ⊥) → Judged n ws false
  unfolding placed
  judged-short q e x = on (read_hedge desk ws) refl e
    where
      on : (y : Got Hedge) → read_hedge desk ws ≡ y → placed 0 y ≡ Ok q → Judged n ws false
      on (got h k) i e = let z : 0 + k ≡ q = cc in not-all h k i (λ y. x (omega arith))
      on (stop k) i e = absurd (let z : ◌≡◌ {A = ℕ} 0 1 = cc in omega arith)

  pub judged-all : (q : ℕ) → placed 0 (read_hedge desk ws) ≡ Ok q → q ≡ length ws → (r : Bool) → r ≡ plain_words n.symbols ws → Judged n ws r
  unfolding placed
  judged-all q e x r p = on (read_hedge desk ws) refl e
    where
      on : (y : Got Hedge) → read_hedge desk ws ≡ y → placed 0 y ≡ Ok q → Judged n ws r
      on (got h k) i e = let z : 0 + k ≡ q = cc in all h k i (omega arith) r p
      on (stop k) i e = absurd (let z : ◌≡◌ {A = ℕ} 0 1 = cc in omega arith)

-- ---- one term

module _ (ws : List ℕ) where
  pub few_words : length ws < 2 → OneTerm ws false
  few_words p = record { each = λ h g o. on h g o (ap length o.words) }
    where
      on : (h : Hedge) (g : Complete) → Of ws h g → length ws ≡ length (hedge_words h) → false ≡ fits a_term g
      on ε g o e = let z : nil ≡ g = cc o.is in ap (fits a_term) z
      on (tvar x r) g o e = absurd (let z : ◌≡◌ {A = ℕ} 0 1 = cc o.is in omega arith)
      on (hvar x r) g o e = absurd (let z : ◌≡◌ {A = ℕ} 0 1 = cc o.is in omega arith)
      on (node f c r) g o e = absurd (let a = length-append (hedge_words c) (hedge_words r) in let b = hedge-some c in let d = hedge-some r in omega arith)

  -- a symbol, its children, and what follows
  pub record Split (h : Hedge) (g : Complete) : Type 0 where
    pub f : Sym
    pub c : Hedge
    pub r : Hedge
    pub u : Complete
    pub v : Complete
    pub fine : fine_hedge desk c
    pub rest : drop 1 ws ≡ hedge_words c ++ hedge_words r
    pub size : length ws ≡ 1 + length (hedge_words c) + length (hedge_words r)
    pub is-rest : complete r ≡ some v
    pub whole : tree f u v ≡ g

  split : 2 ≤ length ws → (h : Hedge) (g : Complete) → Of ws h g → Split h g
  split p ε g o = absurd (omega (arith, ap length o.words))
  split p (tvar x r) g o = absurd (let z : ◌≡◌ {A = ℕ} 0 1 = cc o.is in omega arith)
  split p (hvar x r) g o = absurd (let z : ◌≡◌ {A = ℕ} 0 1 = cc o.is in omega arith)
  split p (node (fvar X) c r) g o = absurd (let z : ◌≡◌ {A = ℕ} 0 1 = cc o.is in omega arith)
  split p (node (symbol f) c r) g o = on (complete c) refl (complete r) refl o.is
    where
      on : (x : Option Complete) → complete c ≡ x → (y : Option Complete) → complete r ≡ y → with_node f x y ≡ some g → Split (node (symbol f) c r) g
      on none i y j e = absurd (let z : ◌≡◌ {A = ℕ} 0 1 = cc in omega arith)
      on (some u) i none j e = absurd (let z : ◌≡◌ {A = ℕ} 0 1 = cc in omega arith)
      on (some u) i (some v) j e = record {
        f = f;
        c = c;
        r = r;
        u = u;
        v = v;
        fine = o.fine.1;
        rest = ap (drop 1) o.words;
        size = let l = ap length o.words in let a = length-append (hedge_words c) (hedge_words r) in omega arith;
        is-rest = j;
        whole = cc;
      }

  -- the children end where reading them ends
  children-end : (h : Hedge) (g : Complete) (s : Split h g) → placed 1 (read_hedge desk (drop 1 ws)) ≡ Ok (1 + length (hedge_words s.c))
  unfolding placed
  children-end h g s = ap (λ l. placed 1 (read_hedge desk l)) s.rest ∙ ap (placed 1) ((hedges-read desk).read_back s.c (hedge_words s.r) s.fine)

  last : (f : Sym) (u v : Complete) (n m : ℕ) → m ≡ n + length (complete_words v) → eqb n (m - 1) ≡ fits a_term (tree f u v)
  last f u nil n m e = eq-eqb n (m - 1) (omega arith)
  last f u (tree g c r) n m e = ne_eqb n (m - 1) (let a = length-append (complete_words c) (complete_words r) in let b = some_words c in omega arith)

  pub term-next : (q : ℕ) → 2 ≤ length ws → placed 1 (read_hedge desk (drop 1 ws)) ≡ Ok q → OneTerm ws (eqb q (length ws - 1))
  term-next q p e = record {
    each = λ h g o.
        let s = split p h g o in
        let z : 1 + length (hedge_words s.c) ≡ q = cc (children-end h g s) in
        let l = ap length (complete-words s.r s.v s.is-rest) in
        last s.f s.u s.v q (length ws) (omega (arith, s.size)) ∙ ap (fits a_term) s.whole;
  }

  pub term-stop : (q : ℕ) → 2 ≤ length ws → placed 1 (read_hedge desk (drop 1 ws)) ≡ Err q → OneTerm ws false
  term-stop q p e = record { each = λ h g o. absurd (let z : ◌≡◌ {A = ℕ} 0 1 = cc (children-end h g (split p h g o)) in omega arith) }
