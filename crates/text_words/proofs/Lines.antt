-- The loop over the lines of a text.
use Prim.Native.Nat.{ℕ, ◌+◌, ◌<◌, ◌≤◌}
use native.Mathlib.Omega.{arith}
use mathlib.Core.Path.{◌≡◌, refl, sym, ap, ap₂, ◌∙◌, subst}
use mathlib.Core.Bool.{Bool, true, false, not}
use mathlib.Core.List.{List, [], ◌∷◌, ◌++◌, append_assoc}
use mathlib.Core.Option.{Option, none, some}
use lib.ListN.{length, drop, set, length-set, length-append}
use lib.Seq.{sets}
use borrow.Author.Tests.{not-true, not-false}
use Rattle.std.specs.Prelude.{Some, None}
use Rattle.std.specs.Prelude as std
use Rattle.language.specs.Limits.{Limits}
use Rattle.language.specs.Trees.{Conj}
use Rattle.language.specs.Writing.{conj_words}
use Rattle.grammar.specs.Tokens.{Token, Tokens, tokens}
use Rattle.grammar.specs.Grammar.{Line, Lines, no_line, blank, line, lines_of}
use Rattle.meaning.specs.Values.{joined}
use Rattle.texts.specs.Parsing.{line_of, literals, literal_of, side_of, hedge}
use Rattle.texts.specs.Numbering.{Naming, name_conj}
use Rattle.texts.proofs.Readings.{line_read}
use Rattle.lexing.specs.Bytes.{others}
use Rattle.lexing.specs.Pieces.{here}
use Rattle.text_names.specs.Shelves.{numbering}
use Rattle.walking.specs.declared.Way.{Way}
use Rattle.room_words.specs.Rooms.{Wrote}
use Rattle.backwards.proofs.Cutting.{lines_split}
use Rattle.text_words.specs.Literals.{Start}
use Rattle.text_words.specs.Conjunctions.{ReadLine}
use Rattle.text_survey.specs.declared.Seen.{Seen}
use Rattle.text_survey.specs.Surveys.{counts, survey_of, LineSeen}
use Rattle.text_survey.proofs.Scan.{behind-newline, none-behind}
use Rattle.text_words.specs.declared.Took.{Took}
use Rattle.text_words.specs.Bodies.{words_of, ends_of, LineRead, LineTook, Body, LinesRead, Looped, Lined}
use Rattle.text_words.proofs.Stores.{sets-++, set_before, words_snoc, joined_snoc, ends_snoc, length-ends, length-words}

false-true : {A : Type 0} {b : Bool} → b ≡ false → b ≡ true → A
false-true e f = absurd (let z : ◌≡◌ {A = ℕ} 0 1 = cc in omega arith)

some_same : {o : Tokens} {us vs : List Token} → o ≡ some us → o ≡ some vs → us ≡ vs
some_same e f = cc

pub some-took : {s t : Took} → ◌≡◌ {A = std.Option Took} (Some s) (Some t) → s ≡ t
some-took e = cc

-- ---- one line

module _ {ρ : Naming} {text room : List ℕ} {at i k : ℕ} (has : Bool) where
  pub took-blank : k ≤ length room → not has ≡ true → LineTook ρ text room at i k has (Some (record { i = i; n = k })) room
  took-blank p e = record {
    fits = λ t y. subst (λ (s : Took). s.n ≤ length room) (some-took y) p;
    len = refl;
    blank = λ f. (refl, refl);
    good = λ f t y. false-true (not-true has e) f;
    bad = λ f y. false-true (not-true has e) f;
  }

  module _ {w : Way} {room₁ : List ℕ} (r : ReadLine ρ text room at k w room₁) (e : not has ≡ false) where
    pub took-bad : not w.ok ≡ true → LineTook ρ text room at i k has None room₁
    took-bad f = record {
      fits = λ t y. absurd (let z : ◌≡◌ {A = ℕ} 0 1 = cc in omega arith);
      len = r.len;
      blank = λ q. false-true q (not-false has e);
      good = λ q t y. absurd (let z : ◌≡◌ {A = ℕ} 0 1 = cc in omega arith);
      bad = λ q y c ts d m. r.bad (not-true w.ok f) c ts d m;
    }

    pub took-line : not w.ok ≡ false → {room₂ : List ℕ} → room₂ ≡ set room₁ i w.n → LineTook ρ text room at i k has (Some (record { i = i + 1; n = w.n })) room₂
    took-line f {room₂} s = record {
      fits = λ t y. subst (λ (s : Took). s.n ≤ length room) (some-took y) r.fits;
      len = ap length s ∙ length-set room₁ i w.n ∙ r.len;
      blank = λ q. false-true q (not-false has e);
      good = λ q t y. let g = r.good (not-false w.ok f) in subst (LineRead ρ text room at i k room₂) (some-took y) (g.0, g.1, room₁, g.2, g.3, refl, g.4, s);
      bad = λ q y. absurd (let z : ◌≡◌ {A = ℕ} 0 1 = cc in omega arith);
    }

-- ---- lines, one more

no-conj : (c : Conj) → Line c [] → ⊥
unfolding line_of literals literal_of side_of hedge
no-conj c m = let e = line_read m in let z : ◌≡◌ {A = ℕ} 0 1 = cc in omega arith

first-blank : {ks : List Conj} {l : List ℕ} {ls : List (List ℕ)} → Lines ks (l ∷ ls) → tokens l ≡ some [] → Lines ks ls
first-blank (blank e d) f = d
first-blank (line {k} {ks} {l} {ls} {ts} e m d) f = absurd (no-conj k (subst (Line k) (some_same e f) m))

first-line : {ks : List Conj} {l : List ℕ} {ls : List (List ℕ)} → Lines ks (l ∷ ls) → (t : Token) (ts : List Token) → tokens l ≡ some (t ∷ ts) → (c : Conj) × (js : List Conj) × (ks ≡ c ∷ js) × Line c (t ∷ ts) × Lines js ls
first-line (blank e d) t ts f = absurd (let z = ap length (some_same e f) in omega arith)
first-line (line {k} {ks} {l} {ls} {ts = us} e m d) t ts f = (k, ks, refl, subst (Line k) (some_same e f) m, d)

one_line : {c d : Conj} {ts : List Token} → Line c ts → Line d ts → c ≡ d
one_line m n = let e = line_read m in let f = line_read n in let g = sym e ∙ f in cc

-- ---- the words so far

module _ (ρ : Naming) (room : List ℕ) (first : ℕ) (h : first ≤ length room) where
  body-none : Body ρ room first [] first room
  body-none = record { place = omega arith; words = λ p q. refl }

  body_more : (ks : List Conj) (c : Conj) {k n i : ℕ} {room' room₁ room'' : List ℕ} → length room' ≡ length room → Body ρ room first ks k room' → i ≡ 6 + length ks → Wrote room' k (conj_words (name_conj ρ c)) n room₁ → room'' ≡ set room₁ i n → Body ρ room first (ks ++ (c ∷ [])) n room''
  body_more ks c {k} {n} {i} {room'} {room₁} {room''} l b ie w s = record {
    place = let pl = b.place in let pw = w.place in let sz = size in omega arith;
    words = λ p q.
        let sz = size in
        let lk = length-append ks (c ∷ []) in
        let fit : first + length js < length room = omega arith in
        let old = b.words (omega arith) fit in
        let kk : k ≡ first + length js = let pl = b.place in omega arith in
        let nn : n ≡ first + length js + length ws = let pw = w.place in omega arith in
        let new = w.words (omega arith) in
        let os = ends_of first (words_of ρ ks) in
        let lo = length-ends first (words_of ρ ks) in
        let lw = length-words ρ ks in
        s
        ∙ ap (λ r. set r i n) (new ∙ ap₂ (λ r a. sets r a ws) old kk ∙ sets-++ (sets room 6 os) first js ws)
        ∙ set_before (sets room 6 os) (js ++ ws) first i n (omega arith)
        ∙ ap₂ (λ r us. sets r first us)
        (ap₂ (λ a x. set (sets room 6 os) a x) (let z : i ≡ 6 + length os = omega arith in z) nn ∙ sets-++ room 6 os ((first + length js + length ws) ∷ []) ∙ ap (sets room 6) (sym offs))
        (sym jo);
  }
    where
      js : List ℕ
      js = joined (words_of ρ ks)

      ws : List ℕ
      ws = conj_words (name_conj ρ c)

      jo : joined (words_of ρ (ks ++ (c ∷ []))) ≡ joined (words_of ρ ks) ++ conj_words (name_conj ρ c)
      jo = ap joined (words_snoc ρ ks c) ∙ joined_snoc (words_of ρ ks) (conj_words (name_conj ρ c))

      size : length (joined (words_of ρ (ks ++ (c ∷ [])))) ≡ length (joined (words_of ρ ks)) + length (conj_words (name_conj ρ c))
      size = ap length jo ∙ length-append (joined (words_of ρ ks)) (conj_words (name_conj ρ c))

      offs : ends_of first (words_of ρ (ks ++ (c ∷ []))) ≡ ends_of first (words_of ρ ks) ++ ((first + length (joined (words_of ρ ks)) + length (conj_words (name_conj ρ c))) ∷ [])
      offs = ap (ends_of first) (words_snoc ρ ks c) ∙ ends_snoc first (words_of ρ ks) (conj_words (name_conj ρ c))

-- ---- the loop

module _ (L : Limits) (text names room : List ℕ) (first : ℕ) where
  abbrev ρ : Naming
  ρ = numbering L text names

  pub record Going (at i k : ℕ) (room' : List ℕ) : Type 0 where
    pub lined : Lined L text names room first
    pub len : length room' ≡ length room
    pub high : at ≤ length text
    pub few : i ≤ 6 + at
    pub begun : 1 ≤ k
    pub clean : (m : ℕ) × (survey_of (lines_of (drop at text)) ≡ some m)
    pub done : List Conj
    pub many : i ≡ 6 + length done
    pub body : Body (numbering L text names) room first done k room'
    pub joins : (ks : List Conj) → Lines ks (lines_of (drop at text)) → Lines (done ++ ks) (lines_of text)
    pub back : (ks : List Conj) → Lines ks (lines_of text) → (js : List Conj) × (ks ≡ done ++ js) × Lines js (lines_of (drop at text))

  pub body-starts : Lined L text names room first → Going 0 6 first room
  body-starts p = record {
    lined = p;
    len = refl;
    high = omega arith;
    few = omega arith;
    begun = p.begun;
    clean = p.clean;
    done = [];
    many = refl;
    body = body-none ρ room first p.place;
    joins = λ ks m. m;
    back = λ ks m. (ks, refl, m);
  }

  module _ {at i k : ℕ} {room' : List ℕ} (g : Going at i k room') {l : Seen} (s : LineSeen text at l) where
    counted : counts (here text at) (survey_of (others (drop at text))) ≡ some g.clean.0
    unfolding survey_of
    counted = sym (ap survey_of (lines_split (drop at text))) ∙ g.clean.1

    clean-here : (o : Tokens) → here text at ≡ o → (n : Option ℕ) → counts o n ≡ some g.clean.0 → ((ts : List Token) × (here text at ≡ some ts)) × ((m : ℕ) × (n ≡ some m))
    clean-here none e n f = absurd (let z : ◌≡◌ {A = ℕ} 0 1 = cc in omega arith)
    clean-here (some []) e n f = (([], e), (g.clean.0, f))
    clean-here (some (t ∷ ts)) e none f = absurd (let z : ◌≡◌ {A = ℕ} 0 1 = cc in omega arith)
    clean-here (some (t ∷ ts)) e (some m) f = ((t ∷ ts, e), (m, refl))

    here-clean : ((ts : List Token) × (here text at ≡ some ts)) × ((m : ℕ) × (survey_of (others (drop at text)) ≡ some m))
    here-clean = clean-here (here text at) refl (survey_of (others (drop at text))) counted

    k-place : k ≤ length room
    k-place = let b = g.body.place in omega arith

    seen-ok : l.ok ≡ true
    seen-ok = on l.ok refl
      where
        on : (b : Bool) → l.ok ≡ b → b ≡ true
        on true e = refl
        on false e = absurd (let q = s.bad e in let c = here-clean.0.1 in let z : ◌≡◌ {A = ℕ} 0 1 = cc in omega arith)

    pub starts : Start L text names room' at k × (i ≤ 6 + length text)
    starts =
        let p = k-place in
        let x = g.len in
        let y = g.lined.short in
        let fw = g.few in
        let hi = g.high in
        (record { high = g.high; shelves = g.lined.shelves; begun = g.begun; place = omega arith; short = omega arith; clean = here-clean.0 }, omega arith)

    module _ {o : std.Option Took} {room'' : List ℕ} (q : LineTook (numbering L text names) text room' at i k l.some o room'') where
      pub body-bad : o ≡ None → Looped (numbering L text names) text room first None room''
      body-bad f = record {
        len = q.len ∙ g.len;
        good = λ t y. absurd (let z : ◌≡◌ {A = ℕ} 0 1 = cc in omega arith);
        bad = λ y ks m. on l.some refl ks m;
      }
        where
          on : (b : Bool) → l.some ≡ b → (ks : List Conj) → Lines ks (lines_of text) → ⊥
          on false e ks m = let b = (q.blank e).0 in let z : ◌≡◌ {A = ℕ} 0 1 = cc in omega arith
          on true e ks m =
              let b = g.back ks m in
              let w = s.full seen-ok e in
              let c = first-line (subst (Lines b.0) (lines_split (drop at text)) b.2) w.0 w.1 w.2 in
              q.bad e f c.0 (w.0 ∷ w.1) w.2 c.3

      module _ {t : Took} (f : o ≡ Some t) where
        -- the lines behind this one, with those before it
        pub record After : Type 0 where
          pub done : List Conj
          pub many : t.i ≡ 6 + length done
          pub fewer : t.i ≤ i + 1
          pub begun : 1 ≤ t.n
          pub body : Body (numbering L text names) room first done t.n room''
          pub joins : (ks : List Conj) → Lines ks (others (drop at text)) → Lines (done ++ ks) (lines_of text)
          pub back : (ks : List Conj) → Lines ks (lines_of text) → (js : List Conj) × (ks ≡ done ++ js) × Lines js (others (drop at text))

        after : After
        after = on l.some refl
          where
            on : (b : Bool) → l.some ≡ b → After
            on false e =
                let x = q.blank e in
                let ti : t.i ≡ i = ap (λ (s : Took). s.i) (sym (some-took (sym x.0 ∙ f))) in
                let tn : t.n ≡ k = ap (λ (s : Took). s.n) (sym (some-took (sym x.0 ∙ f))) in
                let em = s.empty seen-ok e in
                record {
                  done = g.done;
                  many = ti ∙ g.many;
                  fewer = let y = ti in omega arith;
                  begun = let y = tn in let z = g.begun in omega arith;
                  body = subst (λ r. Body ρ room first g.done t.n r) (sym x.1) (subst (λ n. Body ρ room first g.done n room') (sym tn) g.body);
                  joins = λ ks m. g.joins ks (subst (Lines ks) (sym (lines_split (drop at text))) (blank em m));
                  back = λ ks m. let b = g.back ks m in (b.0, b.1, first-blank (subst (Lines b.0) (lines_split (drop at text)) b.2) em);
                }
            on true e =
                let x = q.good e t f in
                let w = s.full seen-ok e in
                let ln : Line x.0 (w.0 ∷ w.1) = subst (Line x.0) (some_same x.3 w.2) x.4 in
                record {
                  done = g.done ++ (x.0 ∷ []);
                  many = let y = x.5 in let z = g.many in let a = length-append g.done (x.0 ∷ []) in omega arith;
                  fewer = let y = x.5 in omega arith;
                  begun = let y = x.6.place in let z = g.begun in let p = k-place in let a = g.len in omega arith;
                  body = body_more ρ room first g.lined.place g.done x.0 g.len g.body g.many x.6 x.7;
                  joins = λ ks m.
                      subst (λ js. Lines js (lines_of text)) (sym (append_assoc g.done (x.0 ∷ []) ks))
                      (g.joins (x.0 ∷ ks) (subst (Lines (x.0 ∷ ks)) (sym (lines_split (drop at text))) (line w.2 ln m)));
                  back = λ ks m.
                      let b = g.back ks m in
                      let c = first-line (subst (Lines b.0) (lines_split (drop at text)) b.2) w.0 w.1 w.2 in
                      (c.1, b.1 ∙ ap (λ js. g.done ++ js) (c.2 ∙ ap (λ y. y ∷ c.1) (one_line c.3 ln)) ∙ sym (append_assoc g.done (x.0 ∷ []) c.1), c.4);
                }

        pub body-ends : length text ≤ l.to → Looped (numbering L text names) text room first (Some (record { i = t.i; n = t.n })) room''
        body-ends p =
            let a = after in
            record {
              len = q.len ∙ g.len;
              good = λ u y. subst (LinesRead ρ text room first room'') (some-took y) (a.done, subst (λ ks. Lines ks (lines_of text)) (none_left a.done) (a.joins [] (subst (Lines []) (sym (s.same ∙ none-behind text l.to p)) no_line)), a.body, a.many);
              bad = λ y. absurd (let z : ◌≡◌ {A = ℕ} 0 1 = cc in omega arith);
            }
          where
            none_left : (ks : List Conj) → ks ++ [] ≡ ks
            none_left [] = refl
            none_left (k ∷ ks) = ap (λ js. k ∷ js) (none_left ks)

        pub body-on : l.to < length text → Going (l.to + 1) t.i t.n room''
        body-on p =
            let a = after in
            let nl = behind-newline text l.to p (s.ends seen-ok p) in
            let c = here-clean.1 in
            record {
              lined = g.lined;
              len = q.len ∙ g.len;
              high = omega arith;
              few = let z = a.fewer in let w = g.few in let v = s.low in omega arith;
              begun = a.begun;
              clean = (c.0, ap survey_of (sym (s.same ∙ nl)) ∙ c.1);
              done = a.done;
              many = a.many;
              body = a.body;
              joins = λ ks m. a.joins ks (subst (Lines ks) (sym (s.same ∙ nl)) m);
              back = λ ks m. let b = a.back ks m in (b.0, b.1, subst (Lines b.0) (s.same ∙ nl) b.2);
            }
