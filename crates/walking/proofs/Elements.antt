-- The loop over the elements in brackets, and a side.
use Prim.Native.Nat.{ℕ, zero, suc, ◌+◌, ◌-◌, ◌<◌, ◌≤◌}
use native.Mathlib.Omega.{arith}
use native.Mathlib.Numerals.{add-one}
use mathlib.Core.Path.{◌≡◌, refl, sym, ap, ap₂, ◌∙◌, subst}
use mathlib.Core.Bool.{Bool, true, false, not}
use mathlib.Core.List.{List, [], ◌∷◌, ◌++◌, append_assoc}
use mathlib.Core.Option.{none, some}
use lib.Dec.{eqb}
use lib.ListN.{length, drop}
use lib.Seq.{sets}
use borrow.Author.Tests.{eq-eqb, ne_eqb, eqb-true, not-true, not-false}
use Rattle.language.specs.Limits.{Limits}
use Rattle.language.specs.Kinds.{pick}
use Rattle.grammar.specs.Tokens.{Tokens}
use Rattle.texts.specs.Parsing.{Res, got, stop}
use Rattle.texts.specs.Numbering.{Naming}
use Rattle.lexing.specs.declared.Mark.{Mark}
use Rattle.lexing.specs.declared.Mark.TheVariants.{End, Bad, Symbol, One, Run, Function, Equals, Comma, Opens, Closes, Plus, Times}
use Rattle.lexing.specs.declared.Piece.{Piece}
use Rattle.lexing.specs.Bytes.{others, name_from, sort_of}
use Rattle.lexing.specs.Pieces.{here, next_of, Next}
use Rattle.lexing.proofs.Pieces.{next-law}
use Rattle.flat.specs.declared.State.{State}
use Rattle.flat.specs.declared.State.TheVariants.{Opened, Ready}
use Rattle.flat.specs.Flat.{lay, in_brackets}
use Rattle.text_names.specs.Shelves.{name_at, numbering, Shelves}
use Rattle.room_words.specs.Rooms.{word_if, Put}
use Rattle.room_words.proofs.Rooms.{put-length, put-wrote, put-nothing, put_then}
use Rattle.text_names.specs.Words.{own_word}
use Rattle.walking.specs.Walking.{reads, got_at, role_of, stage_of, allows, state_after, owes, writes, depth_after, last_of, token_words, goes_on, Walked, leaves, behind_words, piece_on, brackets_from, brackets_on}
use Rattle.walking.proofs.Tokens.{token-read, token-refused}

-- ---- what a token writes

pub put_both : (ρ : Naming) (x stage : ℕ) (m : Mark) {room room' room'' : List ℕ} {n k r role w : ℕ} {o h : Bool}
    → n ≤ length room → role ≡ role_of m → o ≡ owes role stage → Put room n (word_if o 0) k room' → w ≡ own_word ρ m x → h ≡ writes role → Put room' k (word_if h w) r room'' → Put room n (token_words ρ stage m x) r room''
put_both ρ x stage m {room} {room'} {room''} {n} {k} {r} {role} {w} {o} {h} p e f a g d b =
    subst (λ l. Put room n l r room'')
    (ap₂ (λ o' z. word_if o' 0 ++ z) (f ∙ ap (λ q. owes q stage) e) (ap₂ word_if (d ∙ ap writes e) g))
    (put_then p a b)

-- ---- the loop

pub behind-opens : (role d : ℕ) → role ≡ 4 → d + 1 ≡ depth_after role d
unfolding depth_after
behind-opens role d e = rw (eq-eqb role 4 e)

pub behind-closes : (role d : ℕ) → (role ≡ 4 → ⊥) → role ≡ 5 → d - 1 ≡ depth_after role d
unfolding depth_after
behind-closes role d n e = rw (ne_eqb role 4 n, eq-eqb role 5 e)

pub behind-other : (role d : ℕ) → (role ≡ 4 → ⊥) → (role ≡ 5 → ⊥) → d ≡ depth_after role d
unfolding depth_after
behind-other role d n e = rw (ne_eqb role 4 n, ne_eqb role 5 e)

pub last-closes : (role d : ℕ) → role ≡ 5 → eqb d 0 ≡ last_of role d
unfolding last_of
last-closes role d e = rw (eq-eqb role 5 e)

pub last-other : (role d : ℕ) → (role ≡ 5 → ⊥) → false ≡ last_of role d
unfolding last_of
last-other role d n = rw (ne_eqb role 5 n)

not-ended : (stage : ℕ) (m : Mark) → sort_of m ≡ 0 → allows (role_of m) stage ≡ true → ⊥
unfolding allows
not-ended stage End z e = let y : ◌≡◌ {A = ℕ} 0 1 = cc in omega arith
not-ended stage Bad z e = let y : ◌≡◌ {A = ℕ} 0 1 = cc in omega arith
not-ended stage Symbol z e = omega arith
not-ended stage One z e = omega arith
not-ended stage Run z e = omega arith
not-ended stage Function z e = omega arith
not-ended stage Equals z e = omega arith
not-ended stage Comma z e = omega arith
not-ended stage Opens z e = omega arith
not-ended stage Closes z e = omega arith
not-ended stage Plus z e = omega arith
not-ended stage Times z e = omega arith

positive : (role d : ℕ) {c : Bool} → c ≡ last_of role d → c ≡ false → role ≡ 5 → 0 < d
unfolding last_of
positive role zero e z y = absurd (let q : ◌≡◌ {A = ℕ} 0 1 = cc (eq-eqb role 5 y) in omega arith)
positive role (suc d) e z y = omega arith

deeper : (role d : ℕ) → depth_after role d ≤ d + 1
unfolding depth_after
deeper role d = on (eqb role 4) (eqb role 5)
  where
    on : (a b : Bool) → pick a (d + 1) (pick b (d - 1) d) ≤ d + 1
    on true b = omega arith
    on false true = omega arith
    on false false = omega arith

module _ (ρ : Naming) where
  -- the last bracket ends it
  at_last : (d : ℕ) (m : Mark) (o : Tokens) → last_of (role_of m) d ≡ true → goes_on ρ d m o ≡ got_at [] o
  unfolding last_of
  at_last zero Closes o e = refl
  at_last (suc d) Closes o e = absurd (let z = eqb-true (suc d) 0 e in omega arith)
  at_last d End o e = absurd (let z : ◌≡◌ {A = ℕ} 0 1 = cc in omega arith)
  at_last d Bad o e = absurd (let z : ◌≡◌ {A = ℕ} 0 1 = cc in omega arith)
  at_last d Symbol o e = absurd (let z : ◌≡◌ {A = ℕ} 0 1 = cc in omega arith)
  at_last d One o e = absurd (let z : ◌≡◌ {A = ℕ} 0 1 = cc in omega arith)
  at_last d Run o e = absurd (let z : ◌≡◌ {A = ℕ} 0 1 = cc in omega arith)
  at_last d Function o e = absurd (let z : ◌≡◌ {A = ℕ} 0 1 = cc in omega arith)
  at_last d Equals o e = absurd (let z : ◌≡◌ {A = ℕ} 0 1 = cc in omega arith)
  at_last d Comma o e = absurd (let z : ◌≡◌ {A = ℕ} 0 1 = cc in omega arith)
  at_last d Opens o e = absurd (let z : ◌≡◌ {A = ℕ} 0 1 = cc in omega arith)
  at_last d Plus o e = absurd (let z : ◌≡◌ {A = ℕ} 0 1 = cc in omega arith)
  at_last d Times o e = absurd (let z : ◌≡◌ {A = ℕ} 0 1 = cc in omega arith)

  -- and after any other token it goes on
  not_last : (d : ℕ) (m : Mark) (o : Tokens) → last_of (role_of m) d ≡ false → goes_on ρ d m o ≡ reads (in_brackets ρ (state_after m) (depth_after (role_of m) d)) o
  unfolding last_of depth_after
  not_last zero Closes o e = absurd (let z : ◌≡◌ {A = ℕ} 0 1 = cc in omega arith)
  not_last (suc d) Closes o e = ap (λ k. reads (in_brackets ρ Ready k) o) (let z : d ≡ suc d - 1 = omega arith in z)
  not_last d Opens o e = ap (λ k. reads (in_brackets ρ Opened k) o) (sym (add-one d))
  not_last d End o e = refl
  not_last d Bad o e = refl
  not_last d Symbol o e = refl
  not_last d One o e = refl
  not_last d Run o e = refl
  not_last d Function o e = refl
  not_last d Equals o e = refl
  not_last d Comma o e = refl
  not_last d Plus o e = refl
  not_last d Times o e = refl

lay-lay : (us vs : List ℕ) (r : Res (List ℕ)) → lay us (lay vs r) ≡ lay (us ++ vs) r
lay-lay us vs (got ws ts) = ap (λ l. got l ts) (sym (append_assoc us vs ws))
lay-lay us vs stop = refl

lay-got : (us : List ℕ) (o : Tokens) → lay us (got_at [] o) ≡ got_at (us ++ []) o
lay-got us none = refl
lay-got us (some ts) = refl

nothing-behind : (l : List ℕ) → l ++ [] ≡ l
nothing-behind [] = refl
nothing-behind (n ∷ l) = ap (λ z. n ∷ z) (nothing-behind l)

-- ---- token by token

module _ (ρ : Naming) (text : List ℕ) where
  same_args : (i : ℕ) {m m' s s' d d' k k' : ℕ} {l l' : List ℕ} → m ≡ m' → s ≡ s' → d ≡ d' → k ≡ k' → l ≡ l' → brackets_from ρ text m s d i k l ≡ brackets_from ρ text m' s' d' i k' l'
  same_args i a b c e f = cc

  module _ (m stage d i k : ℕ) (room : List ℕ) {p : Piece} (e : p ≡ next_of text i) where
    step-piece : brackets_from ρ text (suc m) stage d i k room ≡ piece_on ρ text (brackets_from ρ text m) stage d i k room p
    unfolding brackets_from
    step-piece = ap (piece_on ρ text (brackets_from ρ text m) stage d i k room) (sym e)

    step-refused : allows (role_of p.mark) stage ≡ false → brackets_from ρ text (suc m) stage d i k room ≡ leaves false i k room
    step-refused a = step-piece ∙ rw (a)

    module _ (a : allows (role_of p.mark) stage ≡ true) where
      step-last : last_of (role_of p.mark) d ≡ true → brackets_from ρ text (suc m) stage d i k room ≡ leaves true p.to (behind_words room k (token_words ρ stage p.mark (name_at text p.from))) (sets room k (token_words ρ stage p.mark (name_at text p.from)))
      step-last b = step-piece ∙ rw (a, b)

      step-on : last_of (role_of p.mark) d ≡ false → brackets_from ρ text (suc m) stage d i k room ≡ brackets_from ρ text m (stage_of (state_after p.mark)) (depth_after (role_of p.mark) d) p.to (behind_words room k (token_words ρ stage p.mark (name_at text p.from))) (sets room k (token_words ρ stage p.mark (name_at text p.from)))
      step-on b = step-piece ∙ rw (a, b)

module _ (L : Limits) (text names room : List ℕ) (at n : ℕ) where
  abbrev ρ : Naming
  ρ = numbering L text names

  pub record Going (stage d i k : ℕ) (room' : List ℕ) : Type 0 where
    pub low : at ≤ i
    pub high : i ≤ length text
    pub shallow : d ≤ i
    pub start : n ≤ length room
    pub fits : k ≤ length room'
    pub len : length room' ≡ length room
    pub shelves : Shelves L names
    pub same : others (drop at text) ≡ others (drop i text)
    pub state : State
    pub stage_is : stage ≡ stage_of state
    pub done : List ℕ
    pub so_far : reads (in_brackets (numbering L text names) Opened 0) (here text at) ≡ lay done (reads (in_brackets (numbering L text names) state d) (here text i))
    pub wrote : Put room n done k room'
    pub most : ℕ
    pub enough : length text ≤ i + most
    pub tells : brackets_from (numbering L text names) text (suc most) stage d i k room' ≡ brackets_on (numbering L text names) text at n room

  lay-nil : (r : Res (List ℕ)) → r ≡ lay [] r
  lay-nil (got ws ts) = refl
  lay-nil stop = refl

  pub going-starts : at ≤ length text → n ≤ length room → Shelves L names → Going 0 0 at n room
  going-starts p q s = record {
    low = omega arith;
    high = p;
    shallow = omega arith;
    start = q;
    fits = q;
    len = refl;
    shelves = s;
    same = refl;
    state = Opened;
    stage_is = refl;
    done = [];
    so_far = lay-nil (reads (in_brackets ρ Opened 0) (here text at));
    wrote = put-nothing q;
    most = length text;
    enough = omega arith;
    tells = refl;
  }

  module _ {stage d i k : ℕ} {room' : List ℕ} (g : Going stage d i k room') {p : Piece} (e₀ : p ≡ next_of text i) {role : ℕ} (r : role ≡ role_of p.mark) where
    n' : Next text i p
    n' = subst (Next text i) (sym e₀) (next-law text i g.high)

    abbrev x : ℕ
    x = name_from (drop p.from text)

    allowed-as : {b : Bool} → b ≡ allows role stage → b ≡ allows (role_of p.mark) (stage_of g.state)
    allowed-as e = e ∙ ap₂ allows r g.stage_is

    -- a token that cannot stand there
    pub refuses : {b : Bool} → b ≡ allows role stage → not b ≡ true → Walked text (in_brackets (numbering L text names) Opened 0) (brackets_on (numbering L text names) text at n room) room at n (record { ok = false; at = i; n = k }) room'
    refuses e f = record {
      low = g.low;
      high = g.high;
      same = g.same;
      fits = let u = g.fits in let v = g.len in omega arith;
      len = g.len;
      good = λ z. absurd (let y : ◌≡◌ {A = ℕ} 0 1 = cc in omega arith);
      bad = λ z. g.so_far ∙ ap (λ o. lay g.done (reads (in_brackets ρ g.state d) o)) n'.reads ∙ ap (lay g.done) (token-refused ρ x d g.state p.mark (here text p.to) (sym (allowed-as e) ∙ not-true _ f));
      tells = sym (step-refused ρ text g.most stage d i k room' e₀ (ap (λ j. allows j stage) (sym r) ∙ sym e ∙ not-true _ f)) ∙ g.tells;
    }

    module _ {b : Bool} (a : b ≡ allows role stage) (f : not b ≡ false) {k'' : ℕ} {room'' : List ℕ} (w : Put room' k (token_words (numbering L text names) stage p.mark (name_at text p.from)) k'' room'') where
      abbrev more : List ℕ
      more = token_words ρ (stage_of g.state) p.mark (name_at text p.from)

      wrote-more : Put room n (g.done ++ more) k'' room''
      wrote-more = put_then g.start g.wrote (subst (λ s. Put room' k (token_words ρ s p.mark (name_at text p.from)) k'' room'') g.stage_is w)

      read_more : reads (in_brackets ρ Opened 0) (here text at) ≡ lay (g.done ++ more) (goes_on ρ d p.mark (here text p.to))
      read_more =
          g.so_far ∙ ap (λ o. lay g.done (reads (in_brackets ρ g.state d) o)) n'.reads
          ∙ ap (lay g.done) (token-read ρ x d g.state p.mark (here text p.to) (sym (allowed-as a) ∙ not-false _ f))
          ∙ lay-lay g.done more (goes_on ρ d p.mark (here text p.to))

      allowed-here : allows (role_of p.mark) stage ≡ true
      allowed-here = ap (λ j. allows j stage) (sym r) ∙ sym a ∙ not-false _ f

      last-here : {c t : Bool} → c ≡ last_of role d → c ≡ t → last_of (role_of p.mark) d ≡ t
      last-here e z = ap (λ j. last_of j d) (sym r) ∙ sym e ∙ z

      fits_more : k'' ≤ length room''
      fits_more = let u = w.place in let v = put-length w in omega arith

      pub closes-last : {c : Bool} → c ≡ last_of role d → c ≡ true → Walked text (in_brackets (numbering L text names) Opened 0) (brackets_on (numbering L text names) text at n room) room at n (record { ok = true; at = p.to; n = k'' }) room''
      closes-last e z = record {
        low = let u = g.low in let v = n'.low in let w = n'.through in omega arith;
        high = n'.high;
        same = g.same ∙ n'.same;
        fits = let u = fits_more in let v = put-length w in let y = g.len in omega arith;
        len = put-length w ∙ g.len;
        good = λ y. (g.done ++ more, read_more ∙ ap (lay (g.done ++ more)) (at_last ρ d p.mark (here text p.to) (ap (λ k. last_of k d) (sym r) ∙ sym e ∙ z)) ∙ lay-got (g.done ++ more) (here text p.to) ∙ ap (λ l. got_at l (here text p.to)) (nothing-behind (g.done ++ more)), put-wrote wrote-more);
        bad = λ y. absurd (let q : ◌≡◌ {A = ℕ} 0 1 = cc in omega arith);
        tells = ap₂ (leaves true p.to) w.place w.words ∙ sym (step-last ρ text g.most stage d i k room' e₀ (allowed-here) (last-here e z)) ∙ g.tells;
      }

      moved : i < p.to
      moved = n'.moves (λ z. not-ended stage p.mark z (ap (λ k. allows k stage) (sym r) ∙ sym a ∙ not-false _ f))

      pub less : length text - p.to < length text - i
      less = let m = moved in let h = n'.high in omega arith

      module _ {c : Bool} (e : c ≡ last_of role d) (z : c ≡ false) where
        pub deep-less : d < length text
        deep-less = let m = moved in let h = n'.high in let s = g.shallow in omega arith

        pub deep-enough : role ≡ 5 → 0 < d
        deep-enough = positive role d e z

        pub goes_on_lem : {d'' : ℕ} → d'' ≡ depth_after role d → {s : ℕ} → s ≡ stage_of (state_after p.mark) → Going s d'' p.to k'' room''
        goes_on_lem {d''} h {s} y = record {
          low = let u = g.low in let v = n'.low in let t = n'.through in omega arith;
          high = n'.high;
          shallow = let m = moved in let t = g.shallow in let q = deeper role d in omega arith;
          start = g.start;
          fits = fits_more;
          len = put-length w ∙ g.len;
          shelves = g.shelves;
          same = g.same ∙ n'.same;
          state = state_after p.mark;
          stage_is = y;
          done = g.done ++ more;
          so_far = read_more ∙ ap (lay (g.done ++ more)) (not_last ρ d p.mark (here text p.to) (ap (λ k. last_of k d) (sym r) ∙ sym e ∙ z) ∙ ap (λ k. reads (in_brackets ρ (state_after p.mark) k) (here text p.to)) (ap (λ k. depth_after k d) (sym r) ∙ sym h));
          wrote = wrote-more;
          most = g.most - 1;
          enough = let m = moved in let en = g.enough in let hh = n'.high in omega arith;
          tells = same_args ρ text p.to (let m = moved in let en = g.enough in let hh = n'.high in let q : suc (g.most - 1) ≡ g.most = omega arith in q) y (h ∙ ap (λ j. depth_after j d) r) w.place w.words ∙ sym (step-on ρ text g.most stage d i k room' e₀ allowed-here (last-here e z)) ∙ g.tells;
        }
