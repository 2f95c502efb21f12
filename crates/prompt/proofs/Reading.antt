-- Reading byte by byte: with what is still to come, the words, the line and the room are as they are to be.
use Prim.Native.Nat.{ℕ, ◌+◌, ◌<◌, ◌≤◌, min}
use mathlib.Core.Path.{◌≡◌, refl, sym, ap, ap₂, subst, ◌∙◌}
use mathlib.Core.Bool.{Bool, true, false}
use mathlib.Core.List.{List, [], ◌∷◌, ◌++◌}
use native.Mathlib.Numerals.{add-one}
use native.Mathlib.Omega.{arith, min_cases}
use lib.Dec.{eqb}
use lib.ListN.{length, get_or, drop, length-append, drop_of_length-le}
use lib.Seq.{sets, length-sets, drop-cons}
use Rattle.language.specs.Kinds.{pick}
use Rattle.language.proofs.Stores.{sets-append, set_past, sets-past}
use Rattle.prompt.specs.declared.Mode.{Mode}
use Rattle.prompt.specs.declared.Place.{Place}
use Rattle.prompt.specs.declared.Mode.TheVariants.{Between, Number}
use Rattle.prompt.specs.Texts.{digit, next, is_wrong, begins, after, ended, behind, reads, read_text}
use Rattle.prompt.specs.Parsed.{Put, Parsed}

-- ---- one byte, in the mode that the code found

module _ (b : ℕ) where
  pub as-next : {k m r : Mode} → k ≡ m → r ≡ next m b → r ≡ next k b
  as-next e f = f ∙ ap (λ k. next k b) (sym e)

  module _ {room : List ℕ} {n r : ℕ} {room' : List ℕ} where
    pub as-ended : {k m : Mode} → k ≡ m → Put room n (ended m b) r room' → Put room n (ended k b) r room'
    as-ended e p = subst (λ k. Put room n (ended k b) r room') (sym e) p

    module _ (v : ℕ) {t : Bool} (e : t ≡ digit b) where
      pub word-goes-on : t ≡ true → Put room n [] r room' → Put room n (ended (Number v) b) r room'
      word-goes-on f p = subst (λ t. Put room n (pick t [] (v ∷ [])) r room') (sym f ∙ e) p

      pub word-ended : t ≡ false → Put room n (v ∷ []) r room' → Put room n (ended (Number v) b) r room'
      word-ended f p = subst (λ t. Put room n (pick t [] (v ∷ [])) r room') (sym f ∙ e) p

-- ---- putting words

module _ {room : List ℕ} {n : ℕ} (i : n ≤ length room) where
  pub put-none : Put room n [] n room
  put-none = record { place = omega arith; words = refl }

  pub put_full : (v : ℕ) → length room ≤ n → Put room n (v ∷ []) n room
  put_full v p = record { place = omega arith; words = sym (set_past room n v p) }

  -- what is put then, after what was put
  pub put-more : {us : List ℕ} {m : ℕ} {room' : List ℕ} → Put room n us m room' → (vs : List ℕ) → sets room' m vs ≡ sets room n (us ++ vs)
  put-more {us} {m} {room'} p vs =
      let stored = sets room n us in
      let len : length stored ≡ length room = length-sets room n us in
      ap (λ l. sets l m vs) p.words
      ∙ min_cases (length room) (n + length us) (sets stored m vs ≡ sets stored (n + length us) vs)
      (λ q e. sets-past stored m vs (omega (arith, p.place, len)) ∙ sym (sets-past stored (n + length us) vs (omega (arith, len))))
      (λ q e. ap (λ k. sets stored k vs) (p.place ∙ e))
      ∙ sym (sets-append us vs room n)

-- ---- the text

-- neither the line nor the column is more than one further after a byte
pub one_more : (here : Place) (from b k : ℕ) → here.line ≤ k → here.column ≤ k → ((after here from b).line ≤ k + 1) × ((after here from b).column ≤ k + 1)
unfolding after
one_more here from b k p q = more (eqb b 10)
  where
    more : (t : Bool) → let there : Place = pick t (record { line = here.line + 1; column = 1; from = from }) (record { line = here.line; column = here.column + 1; from = from }) in (there.line ≤ k + 1) × (there.column ≤ k + 1)
    more true = (omega arith, omega arith)
    more false = (omega arith, omega arith)

counted : (room room' room'' : List ℕ) (n m : ℕ) (us vs : List ℕ) → n ≤ length room → length room' ≡ length room → Put room' n us m room''
    → min (length room) (m + length vs) ≡ min (length room) (n + length (us ++ vs))
counted room room' room'' n m us vs f e u = omega (arith, f, e, u.place, length-append us vs)

module _ (text room : List ℕ) where
  pub record Going (at n : ℕ) (here : Place) (mode : Mode) (room' : List ℕ) : Type 0 where
    pub inside : at ≤ length text
    pub lines : here.line ≤ at + 1
    pub columns : here.column ≤ at + 1
    pub fits : n ≤ length room
    pub len : length room' ≡ length room
    pub line : (reads mode here (drop at text)).line ≡ (read_text text).line
    pub column : (reads mode here (drop at text)).column ≡ (read_text text).column
    pub count : min (length room) (n + length (reads mode here (drop at text)).words) ≡ min (length room) (length (read_text text).words)
    pub words : sets room' n (reads mode here (drop at text)).words ≡ sets room 0 (read_text text).words

  pub starts : Going 0 0 (record { line = 1; column = 1; from = 1 }) Between room
  unfolding read_text
  starts = record { inside = omega arith; lines = omega arith; columns = omega arith; fits = omega arith; len = refl; line = refl; column = refl; count = ap (min (length room)) (omega arith); words = refl }

  module _ {at n : ℕ} {here : Place} {mode : Mode} {room' : List ℕ} (g : Going at n here mode room') where
    -- the byte that stands there
    module _ (p : at < length text) where
      abbrev pub b : ℕ
      b = get_or text at 0

      standing : reads mode here (drop at text) ≡ reads mode here (b ∷ drop (at + 1) text)
      standing = ap (reads mode here) (drop-cons text at 0 p ∙ ap (λ k. b ∷ drop k text) (sym (add-one at)))

      pub stops : {r : Bool} → r ≡ is_wrong (next mode b) → r ≡ true → {from : ℕ} → from ≡ begins mode here → Parsed text room (record { words = n; line = here.line; column = from }) room'
      unfolding reads
      stops e t {from} f =
          let it : reads mode here (drop at text) ≡ record { words = []; line = here.line; column = begins mode here } = standing ∙ rw (sym e ∙ t) in
          record {
            count = let z = ap (λ r. min (length room) (n + length r.words)) it in omega (arith, z, g.count, g.fits);
            line = sym (ap (λ r. r.line) it) ∙ g.line;
            column = f ∙ sym (ap (λ r. r.column) it) ∙ g.column;
            words = sym (ap (λ r. sets room' n r.words) it) ∙ g.words;
          }

      pub goes_on : {r : Bool} → r ≡ is_wrong (next mode b) → r ≡ false → {from m : ℕ} {room'' : List ℕ} → from ≡ begins mode here → Put room' n (ended mode b) m room'' → {there : Place} → there ≡ after here from b → {then : Mode} → then ≡ next mode b → Going (at + 1) m there then room''
      unfolding reads
      goes_on {r} e t {from} {m} {room''} f u {there} h {then} i =
          let rest = reads (next mode b) (after here (begins mode here) b) (drop (at + 1) text) in
          let it : reads mode here (drop at text) ≡ behind (ended mode b) rest = standing ∙ rw (sym e ∙ t) in
          let same : reads then there (drop (at + 1) text) ≡ rest = ap₂ (λ k l. reads k l (drop (at + 1) text)) i (h ∙ ap (λ from. after here from b) f) in
          let more = one_more here from b (at + 1) g.lines g.columns in
          record {
            inside = omega arith;
            lines = let z = ap (λ l. l.line) h in omega (arith, z, more.0);
            columns = let z = ap (λ l. l.column) h in omega (arith, z, more.1);
            fits = omega (arith, u.place, g.fits, g.len);
            len = ap length u.words ∙ length-sets room' n (ended mode b) ∙ g.len;
            line = ap (λ r. r.line) same ∙ sym (ap (λ r. r.line) it) ∙ g.line;
            column = ap (λ r. r.column) same ∙ sym (ap (λ r. r.column) it) ∙ g.column;
            count =
                ap (λ r. min (length room) (m + length r.words)) same
                ∙ counted room room' room'' n m (ended mode b) rest.words g.fits g.len u
                ∙ sym (ap (λ r. min (length room) (n + length r.words)) it)
                ∙ g.count;
            words =
                ap (λ r. sets room'' m r.words) same
                ∙ put-more (omega (arith, g.fits, g.len)) u rest.words
                ∙ sym (ap (λ r. sets room' n r.words) it)
                ∙ g.words;
          }

    -- past the last byte
    pub ends : length text ≤ at → {m : ℕ} {room'' : List ℕ} → Put room' n (ended mode 10) m room'' → Parsed text room (record { words = m; line = 0; column = 0 }) room''
    unfolding reads
    ends p u =
        let it : reads mode here (drop at text) ≡ record { words = ended mode 10; line = 0; column = 0 } = ap (reads mode here) (drop_of_length-le text p) in
        record {
          count = u.place ∙ ap (λ k. min k (n + length (ended mode 10))) g.len ∙ sym (ap (λ r. min (length room) (n + length r.words)) it) ∙ g.count;
          line = sym (ap (λ r. r.line) it) ∙ g.line;
          column = sym (ap (λ r. r.column) it) ∙ g.column;
          words = u.words ∙ sym (ap (λ r. sets room' n r.words) it) ∙ g.words;
        }
