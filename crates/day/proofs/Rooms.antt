-- The room while the answers are written: begun with their number and where the first begins, one part more, all of them.
use Prim.Native.Nat.{ℕ, suc, ◌+◌, ◌-◌, ◌*◌, ◌/◌, ◌%◌, ◌<◌, ◌≤◌}
use mathlib.Core.Path.{◌≡◌, refl, sym, ap, ◌∙◌}
use mathlib.Core.Bool.{Bool, true, false}
use mathlib.Core.List.{List, [], ◌∷◌, ◌++◌}
use native.Mathlib.Omega.{arith}
use lib.Dec.{leb}
use lib.ListN.{length, take, drop, get_or, set, length-append, length-map}
use lib.Seq.{sets, length-sets, take-suc, take_all, drop-set-lt, length-take-le}
use borrow.Author.Tests.{le-leb, lt-leb}
use Rattle.language.specs.Limits.{desk}
use Rattle.language.proofs.Offsets.{parts-length}
use Rattle.language.proofs.Stores.{sets-append}
use Rattle.meaning.specs.Values.{offsets_of, joined}
use Rattle.rules.specs.Answer.{solving}
use Rattle.lines.proofs.WrittenTable.{length-offsets}
use Rattle.slices.proofs.Still.{set-sets}
use Rattle.answers.proofs.Rows.{joined-more, offsets-more}
use Rattle.word_bytes.specs.Bytes.{bytes_of}
use Rattle.word_bytes.proofs.Pairs.{length-bytes_of}
use Rattle.word_bytes.proofs.Pairs as pairs
use Rattle.sheets.specs.Layout.{doubled, undoubled, parts_at, count_of, sheet_offsets, sheet_words, sheet_parts}
use Rattle.sheets.specs.Day.{answer_part, answers_of}
use Rattle.sheets.proofs.RoundTrip.{length-doubled, length-sheet}
use Rattle.handing.specs.Handed.{word_bytes}
use Rattle.day.specs.Written.{written, most, Placed, Ended}
use Rattle.day.proofs.Headers.{no}
use Rattle.day.proofs.Cuts.{length-undoubled}

-- ---- runs of words

pub bytes-append : (us vs : List ℕ) → bytes_of (us ++ vs) ≡ bytes_of us ++ bytes_of vs
unfolding bytes_of
bytes-append [] vs = refl
bytes-append (u ∷ us) vs = ap (λ l. (u % 256) ∷ (u / 256) ∷ l) (bytes-append us vs)

doubled-append : (us vs : List ℕ) → doubled (us ++ vs) ≡ doubled us ++ doubled vs
unfolding doubled
doubled-append [] vs = refl
doubled-append (u ∷ us) vs = ap (λ l. (u % 65536) ∷ (u / 65536) ∷ l) (doubled-append us vs)

-- a run before another may come before it
sets-before : (l : List ℕ) (i : ℕ) (us : List ℕ) (j : ℕ) (ws : List ℕ) → i + length us ≤ j → sets (sets l j ws) i us ≡ sets (sets l i us) j ws
sets-before l i [] j ws h = refl
sets-before l i (u ∷ us) j ws h = ap (λ m. sets m (suc i) us) (set-sets l i u j ws (omega arith)) ∙ sets-before (set l i u) (suc i) us j ws (omega arith)

set_twice : (l : List ℕ) (i x : ℕ) → set (set l i x) i x ≡ set l i x
set_twice [] i x = refl
set_twice (y ∷ l) ℕ.zero x = refl
set_twice (y ∷ l) (suc i) x = ap (λ m. y ∷ m) (set_twice l i x)

sets-twice : (l : List ℕ) (i : ℕ) (us : List ℕ) → sets (sets l i us) i us ≡ sets l i us
sets-twice l i [] = refl
sets-twice l i (u ∷ us) =
    ap (λ m. sets m (suc i) us) (set-sets (set l i u) i u (suc i) us (omega arith) ∙ ap (λ m. sets m (suc i) us) (set_twice l i u)) ∙ sets-twice (set l i u) (suc i) us

drop-sets : (k : ℕ) (l : List ℕ) (i : ℕ) (us : List ℕ) → i + length us ≤ k → drop k (sets l i us) ≡ drop k l
drop-sets k l i [] h = refl
drop-sets k l i (u ∷ us) h = drop-sets k (set l i u) (suc i) us (omega arith) ∙ drop-set-lt k l i u (omega arith)

pub two-words : (old : List ℕ) (i n : ℕ) (new : List ℕ) → new ≡ sets old i (bytes_of ((n % 65536) ∷ (n / 65536) ∷ [])) → new ≡ sets old i (bytes_of (doubled (n ∷ [])))
unfolding doubled
two-words old i n new e = e

pub word-then : (old mid new : List ℕ) (at w : ℕ) (ws : List ℕ) → mid ≡ sets old (2 * at) (bytes_of (w ∷ [])) → new ≡ sets mid (2 * (at + 1)) (bytes_of ws) → new ≡ sets old (2 * at) (bytes_of (w ∷ ws))
word-then old mid new at w ws e f =
    f ∙ ap (λ l. sets l (2 * (at + 1)) (bytes_of ws)) e
    ∙ ap (λ m. sets (sets old (2 * at) (bytes_of (w ∷ []))) m (bytes_of ws)) (let z : 2 * (at + 1) ≡ 2 * at + length (bytes_of (w ∷ [])) = omega (arith, length-bytes_of (w ∷ [])) in z)
    ∙ sym (sets-append (bytes_of (w ∷ [])) (bytes_of ws) old (2 * at)) ∙ ap (sets old (2 * at)) (sym (bytes-append (w ∷ []) ws))

pub placed-with : (old mid new : List ℕ) (i at w : ℕ) (ws : List ℕ) → mid ≡ sets old (2 * at) (bytes_of (w ∷ ws)) → new ≡ sets mid (2 * (2 * (i + 1) + 1)) (bytes_of (doubled ((at + 1 + length ws) ∷ [])))
    → new ≡ sets (sets old (2 * at) (bytes_of (w ∷ ws))) (2 * (2 * (i + 1) + 1)) (bytes_of (doubled ((at + length (w ∷ ws)) ∷ [])))
placed-with old mid new i at w ws f g =
    g ∙ ap (λ l. sets l (2 * (2 * (i + 1) + 1)) (bytes_of (doubled ((at + 1 + length ws) ∷ [])))) f
    ∙ ap (λ k. sets (sets old (2 * at) (bytes_of (w ∷ ws))) (2 * (2 * (i + 1) + 1)) (bytes_of (doubled (k ∷ [])))) (let z : at + 1 + length ws ≡ at + suc (length ws) = omega arith in z)

-- ---- the head of the room

module _ (n : ℕ) (old : List ℕ) where
  abbrev head : List (List ℕ) → List ℕ
  head ps = n ∷ doubled (offsets_of (parts_at n) ps)

  length-head : (ps : List (List ℕ)) → length (bytes_of (head ps)) ≡ 4 * length ps + 6
  length-head ps = omega (arith, length-bytes_of (head ps), length-doubled (offsets_of (parts_at n) ps), length-offsets (parts_at n) ps)

  pub begun : (mid new : List ℕ) (m : ℕ) → m ≡ n → mid ≡ sets old 0 (bytes_of (n ∷ [])) → new ≡ sets mid 2 (bytes_of (doubled ((2 * m + 3) ∷ []))) → new ≡ written n old []
  unfolding written bytes_of doubled
  begun mid new m e f g =
      g ∙ ap (λ l. sets l 2 (bytes_of (doubled ((2 * m + 3) ∷ [])))) f ∙ ap (λ k. sets (sets old 0 (bytes_of (n ∷ []))) 2 (bytes_of (doubled ((2 * k + 3) ∷ [])))) e

  -- it may be begun again
  pub begun-again : written n (written n old []) [] ≡ written n old []
  unfolding written bytes_of
  begun-again = sets-twice old 0 (bytes_of (head []))

  pub one_more : (ps : List (List ℕ)) (p new : List ℕ) (i at next : ℕ) → length ps ≡ i → i < n → at ≡ parts_at n + length (joined ps) → next ≡ at + length p
      → new ≡ sets (sets (written n old ps) (2 * at) (bytes_of p)) (2 * (2 * (i + 1) + 1)) (bytes_of (doubled (next ∷ []))) → new ≡ written n old (ps ++ (p ∷ []))
  unfolding written
  one_more ps p new i at next size below e d f =
      let b = 2 * parts_at n in
      let x : List ℕ = sets old 0 (bytes_of (head ps)) in
      let o : List ℕ = bytes_of (doubled (next ∷ [])) in
      let y : List ℕ = bytes_of (joined (ps ++ (p ∷ []))) in
      let lo : length o ≡ 4 = omega (arith, length-bytes_of (doubled (next ∷ [])), length-doubled (next ∷ [])) in
      let lh = length-head ps in
      let lj = length-bytes_of (joined ps) in
      let body : sets (sets x (2 * parts_at n) (bytes_of (joined ps))) (2 * at) (bytes_of p) ≡ sets x (2 * parts_at n) y =
      ap (λ m. sets (sets x (2 * parts_at n) (bytes_of (joined ps))) m (bytes_of p)) (let z : 2 * at ≡ 2 * parts_at n + length (bytes_of (joined ps)) = omega arith in z)
      ∙ sym (sets-append (bytes_of (joined ps)) (bytes_of p) x (2 * parts_at n))
      ∙ ap (sets x (2 * parts_at n)) (sym (bytes-append (joined ps) p) ∙ ap bytes_of (sym (joined-more ps p))) in
      let place : 2 * (2 * (i + 1) + 1) ≡ 0 + length (bytes_of (head ps)) = omega arith in
      let more : bytes_of (head ps) ++ o ≡ bytes_of (head (ps ++ (p ∷ []))) =
      sym (bytes-append (head ps) (doubled (next ∷ [])))
      ∙ ap (λ l. bytes_of (n ∷ l)) (sym (doubled-append (offsets_of (parts_at n) ps) (next ∷ [])) ∙ ap doubled (ap (λ m. offsets_of (parts_at n) ps ++ (m ∷ [])) (let z : next ≡ parts_at n + length (joined ps) + length p = omega arith in z) ∙ sym (offsets-more (parts_at n) ps p))) in
      f ∙ ap (λ l. sets l (2 * (2 * (i + 1) + 1)) o) body
      ∙ sets-before x (2 * (2 * (i + 1) + 1)) o (2 * parts_at n) y (omega arith)
      ∙ ap (λ l. sets l (2 * parts_at n) y) (ap (λ m. sets x m o) place ∙ sym (sets-append (bytes_of (head ps)) o old 0) ∙ ap (sets old 0) more)

  pub length-written : (ps : List (List ℕ)) → length (written n old ps) ≡ length old
  unfolding written
  length-written ps = length-sets (sets old 0 (bytes_of (head ps))) (2 * parts_at n) (bytes_of (joined ps)) ∙ length-sets old 0 (bytes_of (head ps))

  -- past what is written, the room is as it was
  pub past-written : (ps : List (List ℕ)) (k : ℕ) → length ps ≤ n → 2 * (parts_at n + length (joined ps)) ≤ k → drop k (written n old ps) ≡ drop k old
  unfolding written
  past-written ps k few h =
      drop-sets k (sets old 0 (bytes_of (head ps))) (2 * parts_at n) (bytes_of (joined ps)) (omega (arith, length-bytes_of (joined ps)))
      ∙ drop-sets k old 0 (bytes_of (head ps)) (omega (arith, length-head ps))

  row : (ps : List (List ℕ)) → length ps ≡ n → head ps ++ joined ps ≡ sheet_words ps
  unfolding sheet_words
  row ps size = ap (λ m. m ∷ (doubled (offsets_of (parts_at m) ps) ++ joined ps)) (sym size)

  pub all_there : (ps : List (List ℕ)) → length ps ≡ n → 2 * length (sheet_words ps) ≤ length old → written n old ps ≡ bytes_of (sheet_words ps) ++ drop (2 * length (sheet_words ps)) old
  unfolding written
  all_there ps size h =
      ap (λ m. sets (sets old 0 (bytes_of (head ps))) m (bytes_of (joined ps))) (let z : 2 * parts_at n ≡ 0 + length (bytes_of (head ps)) = omega (arith, length-head ps) in z)
      ∙ sym (sets-append (bytes_of (head ps)) (bytes_of (joined ps)) old 0) ∙ ap (sets old 0) (sym (bytes-append (head ps) (joined ps)) ∙ ap bytes_of (row ps size)) ∙ pairs.written old (sheet_words ps) h

-- ---- turn by turn

joined-up : (i : ℕ) (ps : List (List ℕ)) → length (joined (take i ps)) ≤ length (joined ps)
joined-up ℕ.zero ps = omega arith
joined-up (suc i) [] = omega arith
joined-up (suc i) (p ∷ ps) = omega (arith, length-append p (joined (take i ps)), length-append p (joined ps), joined-up i ps)

module _ (n : ℕ) (ps : List (List ℕ)) (size : length ps ≡ n) (old : List ℕ) where
  pub placed-none : 2 * parts_at n ≤ length old → old ≡ written n old [] → (at : ℕ) → at ≡ parts_at n → Placed n ps old 0 at old
  placed-none h e at d = record { end = omega arith; low = omega arith; fits = omega arith; list = e }

  pub placed-long : (i at : ℕ) (new : List ℕ) → Placed n ps old i at new → length new ≡ length old
  placed-long i at new h = ap length h.list ∙ length-written n old (take i ps)

  module _ (i at : ℕ) (room : List ℕ) (h : Placed n ps old i at room) (below : i < n) (p : List ℕ) (is : p ≡ get_or ps i []) (short : length p ≤ most) where
    more-taken : take (i + 1) ps ≡ take i ps ++ (p ∷ [])
    more-taken = ap (λ j. take j ps) (let z : i + 1 ≡ suc i = omega arith in z) ∙ take-suc ps i [] (omega arith) ∙ ap (λ q. take i ps ++ (q ∷ [])) (sym is)

    more-joined : length (joined (take (i + 1) ps)) ≡ length (joined (take i ps)) + length p
    more-joined = ap (λ l. length (joined l)) more-taken ∙ ap length (joined-more (take i ps) p) ∙ length-append (joined (take i ps)) p

    pub placed-more : (next : ℕ) → next ≡ at + length p → 2 * next ≤ length old → (new : List ℕ)
        → new ≡ sets (sets room (2 * at) (bytes_of p)) (2 * (2 * (i + 1) + 1)) (bytes_of (doubled (next ∷ []))) → Placed n ps old (i + 1) next new
    placed-more next e f new d =
        let a = h.end in
        let b = h.low in
        let m = more-joined in
        record {
          end = omega arith;
          low = omega arith;
          fits = f;
          list =
              one_more n old (take i ps) p new i at next (length-take-le i ps (omega arith)) below h.end e
              (d ∙ ap (λ l. sets (sets l (2 * at) (bytes_of p)) (2 * (2 * (i + 1) + 1)) (bytes_of (doubled (next ∷ [])))) h.list)
              ∙ ap (written n old) (sym more-taken);
        }

    -- no room for the part: there is none for all
    pub placed-full : (next : ℕ) → next ≡ at + length p → length old / 2 < next → Ended ps old false room
    placed-full next e f =
        let a = h.end in
        let m = more-joined in
        let k = joined-up (i + 1) ps in
        let s = length-sheet ps in
        let fit = h.fits in
        record {
          fits = sym (lt-leb (length (sheet_words ps)) (length old / 2) (omega arith));
          long = ap length h.list ∙ length-written n old (take i ps);
          whole = λ z. absurd (no z);
          last = ap (drop (word_bytes old)) h.list ∙ past-written n old (take i ps) (word_bytes old) (omega (arith, length-take-le i ps (omega arith))) (omega arith);
        }

  -- no room for the table
  pub none-placed : length old / 2 < parts_at n → Ended ps old false old
  none-placed f =
      let s = length-sheet ps in
      record { fits = sym (lt-leb (length (sheet_words ps)) (length old / 2) (omega arith)); long = refl; whole = λ z. absurd (no z); last = refl }

  pub placed-all : (i at : ℕ) (room : List ℕ) → Placed n ps old i at room → i ≡ n → Ended ps old true room
  placed-all i at room h e =
      let all : take i ps ≡ ps = take_all i ps (omega arith) in
      let a : at ≡ parts_at n + length (joined ps) = h.end ∙ ap (λ l. parts_at n + length (joined l)) all in
      let s = length-sheet ps in
      let fit = h.fits in
      let list : room ≡ written n old ps = h.list ∙ ap (written n old) all in
      record {
        fits = sym (le-leb (length (sheet_words ps)) (length old / 2) (omega arith));
        long = ap length list ∙ length-written n old ps;
        whole = λ z. list ∙ all_there n old ps size (omega arith);
        last = ap (drop (word_bytes old)) list ∙ past-written n old ps (word_bytes old) (omega arith) (omega arith);
      }

  -- from a room that was begun
  pub ended-begun : 2 * parts_at n ≤ length old → (mid new : List ℕ) (r : Bool) → mid ≡ written n old [] → Ended ps mid r new → Ended ps old r new
  ended-begun h mid new r e d =
      let size-mid : length mid ≡ length old = ap length e ∙ length-written n old [] in
      let past : (k : ℕ) → 2 * parts_at n ≤ k → drop k mid ≡ drop k old = λ k g. ap (drop k) e ∙ past-written n old [] k (omega arith) (omega arith) in
      let s = length-sheet ps in
      let bytes : word_bytes mid ≡ word_bytes old = ap (λ m. 2 * (m / 2)) size-mid in
      record {
        fits = d.fits ∙ ap (λ m. leb (length (sheet_words ps)) (m / 2)) size-mid;
        long = d.long ∙ size-mid;
        whole = λ z. d.whole z ∙ ap (λ l. bytes_of (sheet_words ps) ++ l) (past (2 * length (sheet_words ps)) (omega arith));
        last = ap (λ m. drop m new) (sym bytes) ∙ d.last ∙ ap (λ m. drop m mid) bytes ∙ past (word_bytes old) (omega arith);
      }

-- ---- as many answers as questions

questions-count : (ws : List ℕ) → length (sheet_parts ws) ≡ count_of ws
unfolding sheet_parts sheet_offsets undoubled
questions-count ws = parts-length (parts_at (count_of ws)) (drop 1 (sheet_offsets (count_of ws) ws)) (drop (parts_at (count_of ws)) ws) ∙ length-undoubled (count_of ws) (drop 2 (drop 1 ws))

pub answers-count : (work answer : ℕ) (ws : List ℕ) → length (answers_of desk work answer (sheet_parts ws)) ≡ count_of ws
unfolding answers_of
answers-count work answer ws = length-map (sheet_parts ws) (λ (q : List ℕ). answer_part desk (solving desk work answer q)) ∙ questions-count ws

answer_at : (work answer : ℕ) (qs : List (List ℕ)) (i : ℕ) → i < length qs → answer_part desk (solving desk work answer (get_or qs i [])) ≡ get_or (answers_of desk work answer qs) i []
unfolding answers_of
answer_at work answer [] i h = absurd (omega arith)
answer_at work answer (q ∷ qs) ℕ.zero h = refl
answer_at work answer (q ∷ qs) (suc i) h = answer_at work answer qs i (omega arith)

pub answer-of : (work answer : ℕ) (ws : List ℕ) (i : ℕ) → i < count_of ws → answer_part desk (solving desk work answer (get_or (sheet_parts ws) i [])) ≡ get_or (answers_of desk work answer (sheet_parts ws)) i []
answer-of work answer ws i h = answer_at work answer (sheet_parts ws) i (omega (arith, questions-count ws))
