-- A side: brackets, a blank, a functor with brackets or without.
use Prim.Native.Nat.{ℕ, ◌+◌, ◌≤◌}
use native.Mathlib.Omega.{arith}
use mathlib.Core.Path.{◌≡◌, refl, sym, ap, ap₂, ◌∙◌, subst}
use mathlib.Core.Bool.{Bool, true, false, not}
use mathlib.Core.List.{List, [], ◌∷◌, ◌++◌}
use mathlib.Core.Option.{none, some}
use lib.ListN.{length, drop}
use lib.Seq.{sets}
use borrow.Author.Tests.{eq-eqb, ne_eqb, not-true, not-false}
use Rattle.language.specs.Limits.{Limits}
use Rattle.grammar.specs.Tokens.{Token, one, run, functor, equals, comma, opens, closes, plus, times, Tokens}
use Rattle.texts.specs.Parsing.{Res, stop}
use Rattle.texts.specs.Numbering.{Naming}
use Rattle.lexing.specs.declared.Mark.{Mark}
use Rattle.lexing.specs.declared.Mark.TheVariants.{End, Bad, Symbol, One, Run, Function, Equals, Comma, Opens, Closes, Plus, Times}
use Rattle.lexing.specs.declared.Piece.{Piece}
use Rattle.lexing.specs.Bytes.{others, name_from}
use Rattle.lexing.specs.Pieces.{here, front, next_of, Next}
use Rattle.lexing.proofs.Pieces.{next-law}
use Rattle.flat.specs.declared.State.TheVariants.{Opened}
use Rattle.flat.specs.Flat.{lay, in_brackets, closed, flat_side}
use Rattle.text_names.specs.Shelves.{name_at, numbering}
use Rattle.room_words.specs.Rooms.{Put}
use Rattle.room_words.proofs.Rooms.{put-length, put-wrote, put_then, wrote_then}
use Rattle.text_names.specs.Words.{own_word}
use Rattle.walking.specs.declared.Way.{Way}
use Rattle.walking.specs.Walking.{reads, got_at, role_of, allows, Walked, behind_functor, Closed, leaves, behind_words, brackets_on, closed_on, behind_by, behind_on, side_by, side_on}

-- ---- over tokens

module _ (ρ : Naming) (x : ℕ) where
  -- behind a functor: a bracket that opens, and anything else
  opened-behind : (m : Mark) (o : Tokens) → role_of m ≡ 4 → reads (behind_functor ρ) (front m x o) ≡ reads (λ ts. closed (in_brackets ρ Opened 0 ts)) o
  opened-behind End o e = absurd (omega arith)
  opened-behind Bad o e = absurd (omega arith)
  opened-behind Symbol o e = absurd (omega arith)
  opened-behind One o e = absurd (omega arith)
  opened-behind Run o e = absurd (omega arith)
  opened-behind Function o e = absurd (omega arith)
  opened-behind Equals o e = absurd (omega arith)
  opened-behind Comma o e = absurd (omega arith)
  opened-behind Opens none e = refl
  opened-behind Opens (some ts) e = refl
  opened-behind Closes o e = absurd (omega arith)
  opened-behind Plus o e = absurd (omega arith)
  opened-behind Times o e = absurd (omega arith)

  alone-behind : (m : Mark) (o : Tokens) → (role_of m ≡ 4 → ⊥) → reads (behind_functor ρ) (front m x o) ≡ got_at (0 ∷ 0 ∷ []) (front m x o)
  alone-behind End o e = refl
  alone-behind Bad o e = refl
  alone-behind Symbol none e = refl
  alone-behind Symbol (some ts) e = refl
  alone-behind One none e = refl
  alone-behind One (some ts) e = refl
  alone-behind Run none e = refl
  alone-behind Run (some ts) e = refl
  alone-behind Function none e = refl
  alone-behind Function (some ts) e = refl
  alone-behind Equals none e = refl
  alone-behind Equals (some ts) e = refl
  alone-behind Comma none e = refl
  alone-behind Comma (some ts) e = refl
  alone-behind Opens o e = absurd (e refl)
  alone-behind Closes none e = refl
  alone-behind Closes (some ts) e = refl
  alone-behind Plus none e = refl
  alone-behind Plus (some ts) e = refl
  alone-behind Times none e = refl
  alone-behind Times (some ts) e = refl

  -- a side: a bracket of its own, nothing that can begin one, a blank, a functor
  own-bracket : (m : Mark) (o : Tokens) → role_of m ≡ 4 → reads (flat_side ρ) (front m x o) ≡ reads (in_brackets ρ Opened 0) o
  own-bracket End o e = absurd (omega arith)
  own-bracket Bad o e = absurd (omega arith)
  own-bracket Symbol o e = absurd (omega arith)
  own-bracket One o e = absurd (omega arith)
  own-bracket Run o e = absurd (omega arith)
  own-bracket Function o e = absurd (omega arith)
  own-bracket Equals o e = absurd (omega arith)
  own-bracket Comma o e = absurd (omega arith)
  own-bracket Opens none e = refl
  own-bracket Opens (some ts) e = refl
  own-bracket Closes o e = absurd (omega arith)
  own-bracket Plus o e = absurd (omega arith)
  own-bracket Times o e = absurd (omega arith)

  no-side : (m : Mark) (o : Tokens) → (role_of m ≡ 4 → ⊥) → allows (role_of m) 1 ≡ false → reads (flat_side ρ) (front m x o) ≡ stop
  unfolding allows
  no-side End o e f = refl
  no-side Bad o e f = refl
  no-side Symbol o e f = absurd (let z : ◌≡◌ {A = ℕ} 0 1 = cc in omega arith)
  no-side One o e f = absurd (let z : ◌≡◌ {A = ℕ} 0 1 = cc in omega arith)
  no-side Run o e f = absurd (let z : ◌≡◌ {A = ℕ} 0 1 = cc in omega arith)
  no-side Function o e f = absurd (let z : ◌≡◌ {A = ℕ} 0 1 = cc in omega arith)
  no-side Equals none e f = refl
  no-side Equals (some ts) e f = refl
  no-side Comma none e f = refl
  no-side Comma (some ts) e f = refl
  no-side Opens o e f = absurd (e refl)
  no-side Closes none e f = refl
  no-side Closes (some ts) e f = refl
  no-side Plus none e f = refl
  no-side Plus (some ts) e f = refl
  no-side Times none e f = refl
  no-side Times (some ts) e f = refl

  a-blank : (m : Mark) (o : Tokens) → role_of m ≡ 1 → reads (flat_side ρ) (front m x o) ≡ got_at (own_word ρ m x ∷ 0 ∷ []) o
  a-blank End o e = absurd (omega arith)
  a-blank Bad o e = absurd (omega arith)
  a-blank Symbol o e = absurd (omega arith)
  a-blank One none e = refl
  a-blank One (some ts) e = refl
  a-blank Run none e = refl
  a-blank Run (some ts) e = refl
  a-blank Function o e = absurd (omega arith)
  a-blank Equals o e = absurd (omega arith)
  a-blank Comma o e = absurd (omega arith)
  a-blank Opens o e = absurd (omega arith)
  a-blank Closes o e = absurd (omega arith)
  a-blank Plus o e = absurd (omega arith)
  a-blank Times o e = absurd (omega arith)

  a-functor : (m : Mark) (o : Tokens) → allows (role_of m) 1 ≡ true → (role_of m ≡ 1 → ⊥) → reads (flat_side ρ) (front m x o) ≡ lay (own_word ρ m x ∷ []) (reads (behind_functor ρ) o)
  unfolding allows
  a-functor End o e f = absurd (let z : ◌≡◌ {A = ℕ} 0 1 = cc in omega arith)
  a-functor Bad o e f = absurd (let z : ◌≡◌ {A = ℕ} 0 1 = cc in omega arith)
  a-functor Symbol none e f = refl
  a-functor Symbol (some []) e f = refl
  a-functor Symbol (some (one y ∷ ts)) e f = refl
  a-functor Symbol (some (run p ∷ ts)) e f = refl
  a-functor Symbol (some (functor g ∷ ts)) e f = refl
  a-functor Symbol (some (equals ∷ ts)) e f = refl
  a-functor Symbol (some (comma ∷ ts)) e f = refl
  a-functor Symbol (some (opens ∷ ts)) e f = refl
  a-functor Symbol (some (closes ∷ ts)) e f = refl
  a-functor Symbol (some (plus ∷ ts)) e f = refl
  a-functor Symbol (some (times ∷ ts)) e f = refl
  a-functor One o e f = absurd (f refl)
  a-functor Run o e f = absurd (f refl)
  a-functor Function none e f = refl
  a-functor Function (some []) e f = refl
  a-functor Function (some (one y ∷ ts)) e f = refl
  a-functor Function (some (run p ∷ ts)) e f = refl
  a-functor Function (some (functor g ∷ ts)) e f = refl
  a-functor Function (some (equals ∷ ts)) e f = refl
  a-functor Function (some (comma ∷ ts)) e f = refl
  a-functor Function (some (opens ∷ ts)) e f = refl
  a-functor Function (some (closes ∷ ts)) e f = refl
  a-functor Function (some (plus ∷ ts)) e f = refl
  a-functor Function (some (times ∷ ts)) e f = refl
  a-functor Equals o e f = absurd (let z : ◌≡◌ {A = ℕ} 0 1 = cc in omega arith)
  a-functor Comma o e f = absurd (let z : ◌≡◌ {A = ℕ} 0 1 = cc in omega arith)
  a-functor Opens o e f = absurd (let z : ◌≡◌ {A = ℕ} 0 1 = cc in omega arith)
  a-functor Closes o e f = absurd (let z : ◌≡◌ {A = ℕ} 0 1 = cc in omega arith)
  a-functor Plus o e f = absurd (let z : ◌≡◌ {A = ℕ} 0 1 = cc in omega arith)
  a-functor Times o e f = absurd (let z : ◌≡◌ {A = ℕ} 0 1 = cc in omega arith)

closed-got : (ws : List ℕ) (o : Tokens) → closed (got_at ws o) ≡ got_at (ws ++ (0 ∷ [])) o
closed-got ws none = refl
closed-got ws (some ts) = refl

closed-reads : (f : List Token → Res (List ℕ)) (o : Tokens) → reads (λ ts. closed (f ts)) o ≡ closed (reads f o)
closed-reads f none = refl
closed-reads f (some ts) = refl

lay-got_at : (us vs : List ℕ) (o : Tokens) → lay us (got_at vs o) ≡ got_at (us ++ vs) o
lay-got_at us vs none = refl
lay-got_at us vs (some ts) = refl

-- ---- what is left, by cases

way-left : {room ws room' : List ℕ} {n r : ℕ} (at : ℕ) → Put room n ws r room' → leaves true at r room' ≡ leaves true at (behind_words room n ws) (sets room n ws)
way-left at p = ap₂ (leaves true at) p.place p.words

module _ (ρ : Naming) (text : List ℕ) (at n : ℕ) (room : List ℕ) (p : Piece) where
  brackets-behind : role_of p.mark ≡ 4 → closed_on (brackets_on ρ text p.to n room) ≡ behind_by ρ text at n room p
  brackets-behind e = rw (eq-eqb (role_of p.mark) 4 e)

  none-behind : (role_of p.mark ≡ 4 → ⊥) → leaves true at (behind_words room n (0 ∷ 0 ∷ [])) (sets room n (0 ∷ 0 ∷ [])) ≡ behind_by ρ text at n room p
  none-behind e = rw (ne_eqb (role_of p.mark) 4 e)

  own-side : role_of p.mark ≡ 4 → brackets_on ρ text p.to n room ≡ side_by ρ text at n room p
  own-side e = rw (eq-eqb (role_of p.mark) 4 e)

  module _ (z : role_of p.mark ≡ 4 → ⊥) where
    no-side-left : allows (role_of p.mark) 1 ≡ false → leaves false at n room ≡ side_by ρ text at n room p
    no-side-left a = rw (ne_eqb (role_of p.mark) 4 z, a)

    module _ (a : allows (role_of p.mark) 1 ≡ true) where
      blank-left : role_of p.mark ≡ 1 → leaves true p.to (behind_words room n (own_word ρ p.mark (name_at text p.from) ∷ 0 ∷ [])) (sets room n (own_word ρ p.mark (name_at text p.from) ∷ 0 ∷ [])) ≡ side_by ρ text at n room p
      blank-left e = rw (ne_eqb (role_of p.mark) 4 z, a, eq-eqb (role_of p.mark) 1 e)

      functor-left : (role_of p.mark ≡ 1 → ⊥) → behind_on ρ text p.to (behind_words room n (own_word ρ p.mark (name_at text p.from) ∷ [])) (sets room n (own_word ρ p.mark (name_at text p.from) ∷ [])) ≡ side_by ρ text at n room p
      functor-left e = rw (ne_eqb (role_of p.mark) 4 z, a, ne_eqb (role_of p.mark) 1 e)

-- ---- in the words

pub not-closed : {room : List ℕ} {w : Way} → not w.ok ≡ true → w.n ≤ length room → Closed room w w room
not-closed {room} {w} e p = record { len = refl; fits = p; at = refl; ok = refl; good = λ f. absurd (let z : ◌≡◌ {A = ℕ} 0 1 = cc (not-true w.ok e) in omega arith); tells = rw (not-true w.ok e) }

pub is-closed : {room room' : List ℕ} {w : Way} {k : ℕ} → not w.ok ≡ false → Put room w.n (0 ∷ []) k room' → Closed room w (record { ok = true; at = w.at; n = k }) room'
is-closed {room} {room'} {w} {k} e p = record { len = put-length p; fits = let z = p.place in omega arith; at = refl; ok = sym (not-false w.ok e); good = λ f. p; tells = ap₂ (leaves true w.at) p.place p.words ∙ rw (not-false w.ok e) }

pub past_next : (text : List ℕ) (at : ℕ) → at ≤ length text → {p : Piece} → p ≡ next_of text at → p.to ≤ length text
past_next text at a {p} e = (subst (Next text at) (sym e) (next-law text at a)).high

module _ (L : Limits) (text names room : List ℕ) (at n : ℕ) (a : at ≤ length text) {p : Piece} (e₀ : p ≡ next_of text at) where
  abbrev ρ : Naming
  ρ = numbering L text names

  n' : Next text at p
  n' = subst (Next text at) (sym e₀) (next-law text at a)

  abbrev x : ℕ
  x = name_from (drop p.from text)

  below : at ≤ p.to
  below = let u = n'.low in let v = n'.through in omega arith

  -- a functor with brackets
  pub with-brackets : {role : ℕ} → role ≡ role_of p.mark → role ≡ 4 → {w r : Way} {room' room'' : List ℕ} → n ≤ length room → Walked text (in_brackets (numbering L text names) Opened 0) (brackets_on (numbering L text names) text p.to n room) room p.to n w room' → Closed room' w r room''
      → Walked text (behind_functor (numbering L text names)) (behind_on (numbering L text names) text at n room) room at n r room''
  with-brackets e z {w} {r} q b c = record {
    low = let u = below in let v = b.low in let t = c.at in omega arith;
    high = let v = b.high in let t = c.at in omega arith;
    same = n'.same ∙ b.same ∙ ap (λ k. others (drop k text)) (sym c.at);
    fits = let u = c.fits in let v = b.len in omega arith;
    len = c.len ∙ b.len;
    good = λ f.
        let g = b.good (sym c.ok ∙ f) in
        (g.0 ++ (0 ∷ []), first ∙ ap closed g.1 ∙ closed-got g.0 (here text w.at) ∙ ap (λ k. got_at (g.0 ++ (0 ∷ [])) (here text k)) (sym c.at), wrote_then q g.2 (put-wrote (c.good (sym c.ok ∙ f))));
    bad = λ f. first ∙ ap closed (b.bad (sym c.ok ∙ f));
    tells = c.tells ∙ ap closed_on b.tells ∙ brackets-behind ρ text at n room p (sym e ∙ z) ∙ ap (behind_by ρ text at n room) e₀;
  }
    where
      first : reads (behind_functor ρ) (here text at) ≡ closed (reads (in_brackets ρ Opened 0) (here text p.to))
      first = ap (reads (behind_functor ρ)) n'.reads ∙ opened-behind ρ x p.mark (here text p.to) (sym e ∙ z) ∙ closed-reads (in_brackets ρ Opened 0) (here text p.to)

  -- and without
  pub without-brackets : {role : ℕ} → role ≡ role_of p.mark → (role ≡ 4 → ⊥) → {k r : ℕ} {room' room'' : List ℕ} → n ≤ length room → Put room n (0 ∷ []) k room' → Put room' k (0 ∷ []) r room''
      → Walked text (behind_functor (numbering L text names)) (behind_on (numbering L text names) text at n room) room at n (record { ok = true; at = at; n = r }) room''
  without-brackets e z {k} {r} q u v = record {
    low = omega arith;
    high = a;
    same = refl;
    fits = let s = v.place in let t = put-length u in omega arith;
    len = put-length v ∙ put-length u;
    good = λ f. (0 ∷ 0 ∷ [], ap (reads (behind_functor ρ)) n'.reads ∙ alone-behind ρ x p.mark (here text p.to) (λ y. z (e ∙ y)) ∙ ap (got_at (0 ∷ 0 ∷ [])) (sym n'.reads), put-wrote (put_then q u v));
    bad = λ f. absurd (let y : ◌≡◌ {A = ℕ} 0 1 = cc in omega arith);
    tells = way-left at (put_then q u v) ∙ none-behind ρ text at n room p (λ y. z (e ∙ y)) ∙ ap (behind_by ρ text at n room) e₀;
  }

  -- ---- a side

  pub in-brackets : {role : ℕ} → role ≡ role_of p.mark → role ≡ 4 → {r : Way} {room' : List ℕ} → Walked text (in_brackets (numbering L text names) Opened 0) (brackets_on (numbering L text names) text p.to n room) room p.to n r room' → Walked text (flat_side (numbering L text names)) (side_on (numbering L text names) text at n room) room at n r room'
  in-brackets e z b = record {
    low = let u = below in let v = b.low in omega arith;
    high = b.high;
    same = n'.same ∙ b.same;
    fits = b.fits;
    len = b.len;
    good = λ f. let g = b.good f in (g.0, first ∙ g.1, g.2);
    bad = λ f. first ∙ b.bad f;
    tells = b.tells ∙ own-side ρ text at n room p (sym e ∙ z) ∙ ap (side_by ρ text at n room) e₀;
  }
    where
      first : reads (flat_side ρ) (here text at) ≡ reads (in_brackets ρ Opened 0) (here text p.to)
      first = ap (reads (flat_side ρ)) n'.reads ∙ own-bracket ρ x p.mark (here text p.to) (sym e ∙ z)

  module _ {role : ℕ} (e : role ≡ role_of p.mark) (z : role ≡ 4 → ⊥) {c : Bool} (d : c ≡ allows role 1) where
    pub none-begins : not c ≡ true → n ≤ length room → Walked text (flat_side (numbering L text names)) (side_on (numbering L text names) text at n room) room at n (record { ok = false; at = at; n = n }) room
    none-begins f q = record {
      low = omega arith;
      high = a;
      same = refl;
      fits = q;
      len = refl;
      good = λ y. absurd (let w : ◌≡◌ {A = ℕ} 0 1 = cc in omega arith);
      bad = λ y. ap (reads (flat_side ρ)) n'.reads ∙ no-side ρ x p.mark (here text p.to) (λ w. z (e ∙ w)) (ap (λ k. allows k 1) (sym e) ∙ sym d ∙ not-true c f);
      tells = no-side-left ρ text at n room p (λ w. z (e ∙ w)) (ap (λ k. allows k 1) (sym e) ∙ sym d ∙ not-true c f) ∙ ap (side_by ρ text at n room) e₀;
    }

    module _ (f : not c ≡ false) (q : n ≤ length room) {w : ℕ} (o : w ≡ own_word (numbering L text names) p.mark (name_at text p.from)) {k : ℕ} {room' : List ℕ} (u : Put room n (w ∷ []) k room') where
      allowed-here : allows (role_of p.mark) 1 ≡ true
      allowed-here = ap (λ k. allows k 1) (sym e) ∙ sym d ∙ not-false c f

      pub blank_side : role ≡ 1 → {r : ℕ} {room'' : List ℕ} → Put room' k (0 ∷ []) r room'' → Walked text (flat_side (numbering L text names)) (side_on (numbering L text names) text at n room) room at n (record { ok = true; at = p.to; n = r }) room''
      blank_side y {r} v = record {
        low = below;
        high = n'.high;
        same = n'.same;
        fits = let s = v.place in let t = put-length u in omega arith;
        len = put-length v ∙ put-length u;
        good = λ h. (w ∷ 0 ∷ [], ap (reads (flat_side ρ)) n'.reads ∙ a-blank ρ x p.mark (here text p.to) (sym e ∙ y) ∙ ap (λ b. got_at (b ∷ 0 ∷ []) (here text p.to)) (sym o), put-wrote (put_then q u v));
        bad = λ h. absurd (let b : ◌≡◌ {A = ℕ} 0 1 = cc in omega arith);
        tells = way-left p.to (put_then q u v) ∙ ap (λ b. leaves true p.to (behind_words room n (b ∷ 0 ∷ [])) (sets room n (b ∷ 0 ∷ []))) o ∙ blank-left ρ text at n room p (λ s. z (e ∙ s)) allowed-here (sym e ∙ y) ∙ ap (side_by ρ text at n room) e₀;
      }

      pub functor-side : (role ≡ 1 → ⊥) → {r : Way} {room'' : List ℕ} → Walked text (behind_functor (numbering L text names)) (behind_on (numbering L text names) text p.to k room') room' p.to k r room'' → Walked text (flat_side (numbering L text names)) (side_on (numbering L text names) text at n room) room at n r room''
      functor-side y {r} b = record {
        low = let s = below in let t = b.low in omega arith;
        high = b.high;
        same = n'.same ∙ b.same;
        fits = let s = b.fits in let t = put-length u in omega arith;
        len = b.len ∙ put-length u;
        good = λ h. let g = b.good h in (w ∷ g.0, first ∙ ap (lay (w ∷ [])) g.1 ∙ lay-got_at (w ∷ []) g.0 (here text r.at), wrote_then q (put-wrote u) g.2);
        bad = λ h. first ∙ ap (lay (w ∷ [])) (b.bad h);
        tells = b.tells ∙ ap₂ (behind_on ρ text p.to) u.place u.words ∙ ap (λ b. behind_on ρ text p.to (behind_words room n (b ∷ [])) (sets room n (b ∷ []))) o ∙ functor-left ρ text at n room p (λ s. z (e ∙ s)) allowed-here (λ s. y (e ∙ s)) ∙ ap (side_by ρ text at n room) e₀;
      }
        where
          first : reads (flat_side ρ) (here text at) ≡ lay (w ∷ []) (reads (behind_functor ρ) (here text p.to))
          first = ap (reads (flat_side ρ)) n'.reads ∙ a-functor ρ x p.mark (here text p.to) (ap (λ k. allows k 1) (sym e) ∙ sym d ∙ not-false c f) (λ s. y (e ∙ s)) ∙ ap (λ b. lay (b ∷ []) (reads (behind_functor ρ) (here text p.to))) (sym o)
