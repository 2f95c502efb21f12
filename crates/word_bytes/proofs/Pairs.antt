-- Laws of words as bytes: their lengths, each turn of reading and writing, and that the two undo each other.
use Prim.Native.Nat.{ℕ, zero, suc, ◌+◌, ◌*◌, ◌/◌, ◌%◌, ◌≤◌, ◌<◌}
use mathlib.Core.Path.{◌≡◌, refl, ap, ◌∙◌, sym}
use mathlib.Core.Bool.{true, false}
use mathlib.Core.List.{List, [], ◌∷◌, ◌++◌}
use native.Mathlib.Omega.{arith}
use native.Mathlib.Nat.{zero-add, not-suc-le-zero, le_of_suc-le-suc}
use native.Mathlib.Numerals.{add-one}
use lib.ListN.{length, get_or, set, take, drop, length-drop}
use borrow.Author.Tests.{eq-eqb, ne_eqb, le-leb, lt-leb}
use lib.Seq.{sets, drop-cons, drop-length, sets-eq, take_at, take-nil, drop-nil, get_or-drop}
use Rattle.word_bytes.specs.Bytes.{word_of, words_of, half_word, bytes_of, words_in, fitting}

-- ---- lengths

pub length-words_of : (bs : List ℕ) → length (words_of bs) ≡ length bs / 2
unfolding words_of
length-words_of [] = refl
length-words_of (low ∷ []) = refl
length-words_of (low ∷ (high ∷ bs)) = let h : length (words_of bs) ≡ length bs / 2 = length-words_of bs in omega arith

pub length-bytes_of : (ws : List ℕ) → length (bytes_of ws) ≡ 2 * length ws
unfolding bytes_of
length-bytes_of [] = refl
length-bytes_of (w ∷ ws) = let h : length (bytes_of ws) ≡ 2 * length ws = length-bytes_of ws in omega arith

-- by whether the count is odd
pub half-left : (bs : List ℕ) (n : ℕ) → length bs ≡ 2 * n + 1 → half_word bs ≡ true
unfolding half_word
half-left bs n e = eq-eqb (length bs % 2) 1 (omega arith)

pub none-half : (bs : List ℕ) (n : ℕ) → length bs ≡ 2 * n → half_word bs ≡ false
unfolding half_word
none-half bs n e = ne_eqb (length bs % 2) 1 (λ d. omega arith)

-- ---- a turn of reading

-- the bytes from j on, where two more stand
pair-at : (bs : List ℕ) (j : ℕ) → suc j < length bs → drop j bs ≡ get_or bs j 0 ∷ (get_or bs (suc j) 0 ∷ drop (suc (suc j)) bs)
pair-at bs j h = drop-cons bs j 0 (omega arith) ∙ ap (λ (l : List ℕ). get_or bs j 0 ∷ l) (drop-cons bs (suc j) 0 h)

pub read_more : (bs words : List ℕ) (i w : ℕ) → i < length bs / 2 → w ≡ word_of (get_or bs (2 * i) 0) (get_or bs (2 * i + 1) 0)
    → sets (set words i w) (i + 1) (words_of (drop (2 * (i + 1)) bs)) ≡ sets words i (words_of (drop (2 * i) bs))
unfolding words_of
read_more bs words i w h e =
    let f : 2 * (i + 1) ≡ suc (suc (2 * i)) = omega arith in
    rw (e, f, add-one (2 * i), add-one i, pair-at bs (2 * i) (omega arith))

pub none_left : (bs : List ℕ) → length bs < 2 → words_of bs ≡ []
unfolding words_of
none_left [] h = refl
none_left (low ∷ []) h = refl
none_left (low ∷ (high ∷ bs)) h = absurd (not-suc-le-zero (le_of_suc-le-suc (le_of_suc-le-suc h)))

pub all_read : (bs words : List ℕ) (i : ℕ) → i ≡ length bs / 2 → sets words i (words_of (drop (2 * i) bs)) ≡ words
all_read bs words i e = rw (none_left (drop (2 * i) bs) (simp length-drop (omega arith)))

-- the words of the bytes from a word's place on
pub words-from : (bs : List ℕ) (i : ℕ) → words_of (drop (2 * i) bs) ≡ drop i (words_of bs)
unfolding words_of
words-from bs zero = refl
words-from [] (suc i) = ap words_of (drop-nil (2 * suc i))
words-from (low ∷ []) (suc i) = ap (λ n. words_of (drop n (low ∷ []))) (let z : 2 * suc i ≡ suc (suc (2 * i)) = omega arith in z)
words-from (low ∷ (high ∷ bs)) (suc i) = ap (λ n. words_of (drop n (low ∷ (high ∷ bs)))) (let z : 2 * suc i ≡ suc (suc (2 * i)) = omega arith in z) ∙ words-from bs i

word_in : (bs : List ℕ) (i : ℕ) → suc (2 * i) < length bs → get_or (words_of bs) i 0 ≡ word_of (get_or bs (2 * i) 0) (get_or bs (suc (2 * i)) 0)
unfolding words_of
word_in bs i h =
    ap (λ j. get_or (words_of bs) j 0) (let z : i ≡ i + 0 = omega arith in z) ∙ sym (get_or-drop i (words_of bs) 0 0) ∙ ap (λ ws. get_or ws 0 0) (sym (words-from bs i))
    ∙ ap (λ l. get_or (words_of l) 0 0) (pair-at bs (2 * i) h)

-- the words of so many pairs of bytes
pub words-up-to : (bs : List ℕ) (i : ℕ) → words_of (take (2 * i) bs) ≡ take i (words_of bs)
unfolding words_of
words-up-to bs zero = refl
words-up-to [] (suc i) = ap words_of (take-nil (2 * suc i))
words-up-to (low ∷ []) (suc i) = ap (λ n. words_of (take n (low ∷ []))) (let z : 2 * suc i ≡ suc (suc (2 * i)) = omega arith in z)
words-up-to (low ∷ (high ∷ bs)) (suc i) =
    ap (λ n. words_of (take n (low ∷ (high ∷ bs)))) (let z : 2 * suc i ≡ suc (suc (2 * i)) = omega arith in z) ∙ ap (λ ws. word_of low high ∷ ws) (words-up-to bs i)

-- ---- a turn of writing

pub write-more : (ws bytes : List ℕ) (at i a b : ℕ) → i < length ws → a ≡ get_or ws i 0 % 256 → b ≡ get_or ws i 0 / 256
    → sets (set (set bytes (2 * (at + i)) a) (2 * (at + i) + 1) b) (2 * (at + (i + 1))) (bytes_of (drop (i + 1) ws)) ≡ sets bytes (2 * (at + i)) (bytes_of (drop i ws))
unfolding bytes_of
write-more ws bytes at i a b h ea eb =
    let f : 2 * (at + (i + 1)) ≡ suc (suc (2 * (at + i))) = omega arith in
    rw (ea, eb, f, add-one (2 * (at + i)), add-one i, drop-cons ws i 0 h)

pub none_written : (ws bytes : List ℕ) (at : ℕ) → sets bytes (2 * (at + 0)) (bytes_of (drop 0 ws)) ≡ sets bytes (2 * at) (bytes_of ws)
none_written ws bytes at = ap (λ n. sets bytes (2 * n) (bytes_of ws)) (let z : at + 0 ≡ at = omega arith in z)

pub all-written : (ws bytes : List ℕ) (at i : ℕ) → i ≡ length ws → sets bytes (2 * (at + i)) (bytes_of (drop i ws)) ≡ bytes
unfolding bytes_of
all-written ws bytes at i e = rw (e, drop-length ws)

-- ---- one word

pub word-is : (bs : List ℕ) (i w : ℕ) → suc (2 * i) < length bs → w ≡ word_of (get_or bs (2 * i) 0) (get_or bs (2 * i + 1) 0) → w ≡ get_or (words_of bs) i 0
word-is bs i w h e = e ∙ ap (word_of (get_or bs (2 * i) 0)) (ap (λ j. get_or bs j 0) (add-one (2 * i))) ∙ sym (word_in bs i h)

-- ---- there and back

pub words-of-bytes : (ws : List ℕ) → words_of (bytes_of ws) ≡ ws
unfolding words_of bytes_of
words-of-bytes [] = refl
words-of-bytes (w ∷ ws) =
    let e : w % 256 + 256 * (w / 256) ≡ w = omega arith in
    ap (λ (v : ℕ). v ∷ words_of (bytes_of ws)) e ∙ ap (λ (l : List ℕ). w ∷ l) (words-of-bytes ws)

-- each is a byte
pub data Bytes : List ℕ → Type 0 where
  none : Bytes []
  more : {b : ℕ} {bs : List ℕ} → b < 256 → Bytes bs → Bytes (b ∷ bs)

pub bytes-of-words : (bs : List ℕ) → Bytes bs → length bs % 2 ≡ 0 → bytes_of (words_of bs) ≡ bs
unfolding words_of bytes_of
bytes-of-words [] none h = refl
bytes-of-words (low ∷ []) ok h = let z : ◌≡◌ {A = ℕ} 1 0 = h in absurd (omega arith)
bytes-of-words (low ∷ (high ∷ bs)) (more a (more b ok)) h =
    let e : (low + 256 * high) % 256 ≡ low = omega arith in
    let f : (low + 256 * high) / 256 ≡ high = omega arith in
    rw (e, f) (ap (λ (l : List ℕ). low ∷ (high ∷ l)) (bytes-of-words bs ok (omega arith)))

-- ---- what reading and writing leave

pub written : (bytes ws : List ℕ) → 2 * length ws ≤ length bytes → sets bytes 0 (bytes_of ws) ≡ bytes_of ws ++ drop (2 * length ws) bytes
written bytes ws h =
    let e : length (bytes_of ws) ≡ 2 * length ws = length-bytes_of ws in
    sets-eq (bytes_of ws) bytes 0 (omega arith) ∙ ap (λ (n : ℕ). bytes_of ws ++ drop n bytes) (zero-add (length (bytes_of ws)) ∙ e)

-- ---- the words that bytes from outside hold

module _ (bs : List ℕ) where
  pub odd-holds-none : (length bs % 2 ≡ 0 → ⊥) → words_in bs ≡ []
  unfolding words_in
  odd-holds-none h = simp (ne_eqb _ _ h)

  pub even-holds : length bs % 2 ≡ 0 → words_in bs ≡ words_of bs
  unfolding words_in
  even-holds h = simp (eq-eqb _ _ h)

module _ (room : ℕ) (ws : List ℕ) where
  pub fitting-all : length ws ≤ room → fitting room ws ≡ ws
  unfolding fitting
  fitting-all h = simp (le-leb _ _ h)

  pub fitting-none : room < length ws → fitting room ws ≡ []
  unfolding fitting
  fitting-none h = simp (lt-leb _ _ h)

pub none-fits : (room : ℕ) → fitting room [] ≡ []
none-fits room = fitting-all room [] (omega arith)

module _ (bs : List ℕ) (room : ℕ) where
  -- where none is taken, the words lent stay
  abbrev TakesNone : List ℕ → Type 0
  TakesNone words = ([] ≡ fitting room (words_in bs)) × (words ≡ sets words 0 (fitting room (words_in bs)))

  takes_none : (words : List ℕ) → [] ≡ fitting room (words_in bs) → TakesNone words
  takes_none words e = (e, ap (sets words 0) e)

  pub takes-none-of-odd : (words : List ℕ) → (length bs % 2 ≡ 0 → ⊥) → TakesNone words
  takes-none-of-odd words h = takes_none words (sym (ap (fitting room) (odd-holds-none bs h) ∙ none-fits room))

  module _ (even : length bs % 2 ≡ 0) where
    pub takes-none-of-long : (words : List ℕ) → room < length bs / 2 → TakesNone words
    takes-none-of-long words h =
        let e : length (words_of bs) ≡ length bs / 2 = length-words_of bs in
        takes_none words (sym (ap (fitting room) (even-holds bs even) ∙ fitting-none room (words_of bs) (omega arith)))

    pub takes_all : (words words' : List ℕ) → length words ≡ room → length bs / 2 ≤ room → words' ≡ sets words 0 (words_of bs)
        → (take (length bs / 2) words' ≡ fitting room (words_in bs)) × (words' ≡ sets words 0 (fitting room (words_in bs)))
    takes_all words words' n h e =
        let f : length (words_of bs) ≡ length bs / 2 = length-words_of bs in
        let all : words_of bs ≡ fitting room (words_in bs) = sym (ap (fitting room) (even-holds bs even) ∙ fitting-all room (words_of bs) (omega arith)) in (
          ap (take (length bs / 2)) (e ∙ sets-eq (words_of bs) words 0 (omega arith)) ∙ take_at (words_of bs) _ (length bs / 2) f ∙ all,
          e ∙ ap (sets words 0) all,
        )
