-- What reading on words gives, told of the bytes.
use Prim.Native.Nat.{ℕ, ◌/◌, ◌≤◌, min}
use mathlib.Core.Path.{◌≡◌, refl, sym, ap, ap₂, ◌∙◌}
use mathlib.Core.Bool.{Bool, true, false, ◌&&◌}
use mathlib.Core.List.{List}
use mathlib.Core.Option.{Option, none, some}
use native.Mathlib.Omega.{arith}
use lib.Dec.{leb}
use lib.ListN.{length, take}
use lib.Seq.{sets, sets-eq, length-sets, take_at}
use borrow.Author.Tests.{leb-true, leb-false, le-leb, lt-leb}
use Rattle.std.specs.Prelude.{Result, Err}
use Rattle.language.specs.declared.Refusal.{Refusal}
use Rattle.language.specs.declared.Refusal.TheVariants.{NotText, ManyNames, LongText}
use Rattle.language.specs.Limits.{desk}
use Rattle.language.specs.Kinds.{pick}
use Rattle.language.specs.Trees.{Conj}
use Rattle.language.specs.Question.{counts_fit}
use Rattle.texts.specs.Texts.{parse}
use Rattle.texts.specs.Numbering.{numbered, counts_in}
use Rattle.texts.specs.Outcomes.{Outcome, gives, denies, question_words, fitted, counted, reads_text}
use Rattle.word_bytes.specs.Bytes.{bytes_of}
use Rattle.read_text.specs.Reads.{reading_of, left_by}
use Rattle.text_host.specs.Texts.{reading_bytes, text_number, words_left, given_number, given_words}

-- ---- how long a question can be that is read

abbrev Fits : ℕ → Outcome → Type 0
Fits room (gives ws) = (length ws ≤ desk.question) × (length ws ≤ room)
Fits room (denies r) = Unit {0}

fits-fitted : (room : ℕ) (ws : List ℕ) → Fits room (fitted desk.question room ws)
unfolding fitted
fits-fitted room ws = go (leb (length ws) desk.question) (leb (length ws) room) refl refl where
  go : (a b : Bool) → leb (length ws) desk.question ≡ a → leb (length ws) room ≡ b → Fits room (pick (a && b) (gives ws) (denies LongText))
  go true true e f = (leb-true _ _ e, leb-true _ _ f)
  go true false e f = tt
  go false b e f = tt

fits-counted : (room : ℕ) (b : Bool) (ws : List ℕ) → Fits room (pick b (fitted desk.question room ws) (denies ManyNames))
fits-counted room true ws = fits-fitted room ws
fits-counted room false ws = tt

fits : (room : ℕ) (text : List ℕ) → Fits room (reads_text desk room text)
unfolding reads_text counted
fits room text = go (parse text) where
  go : (o : Option (List Conj)) → Fits room (elim o [ none ↦ denies NotText | some ks ↦ counted desk room ks ])
  go none = tt
  go (some ks) = fits-counted room (counts_fit desk (counts_in ks) (length ks)) (question_words (counts_in ks) (numbered ks))

-- ---- of the room as many words as a question ever has

both-least : (n most room : ℕ) → (leb n most && leb n (min most room)) ≡ (leb n most && leb n room)
both-least n most room = go (leb n most) (leb n room) refl refl where
  go : (a b : Bool) → leb n most ≡ a → leb n room ≡ b → (leb n most && leb n (min most room)) ≡ (leb n most && leb n room)
  go true true e f = let x = leb-true n most e in let y = leb-true n room f in ap₂ ◌&&◌ e (le-leb n (min most room) (omega arith)) ∙ sym (ap₂ ◌&&◌ e f)
  go true false e f = let x = leb-true n most e in let y = leb-false n room f in ap₂ ◌&&◌ e (lt-leb n (min most room) (omega arith)) ∙ sym (ap₂ ◌&&◌ e f)
  go false b e f = ap (λ a. a && leb n (min most room)) e ∙ sym (ap (λ a. a && leb n room) e)

fitted-same : (room : ℕ) (ws : List ℕ) → fitted desk.question (min desk.question room) ws ≡ fitted desk.question room ws
unfolding fitted
fitted-same room ws = ap (λ b. pick b (gives ws) (denies LongText)) (both-least (length ws) desk.question room)

counted_same : (room : ℕ) (b : Bool) (ws : List ℕ) → pick b (fitted desk.question (min desk.question room) ws) (denies ManyNames) ≡ pick b (fitted desk.question room ws) (denies ManyNames)
counted_same room b ws = ap (λ o. pick b o (denies ManyNames)) (fitted-same room ws)

same : (room : ℕ) (text : List ℕ) → reads_text desk (min desk.question room) text ≡ reads_text desk room text
unfolding reads_text counted
same room text = go (parse text) where
  go : (o : Option (List Conj)) → ◌≡◌ {A = Outcome} (elim o [ none ↦ denies NotText | some ks ↦ counted desk (min desk.question room) ks ]) (elim o [ none ↦ denies NotText | some ks ↦ counted desk room ks ])
  go none = refl
  go (some ks) = counted_same room (counts_fit desk (counts_in ks) (length ks)) (question_words (counts_in ks) (numbered ks))

-- ---- reading in the desk's own room

numbers : (o : Outcome) → given_number (reading_of o) ≡ text_number o
numbers (gives ws) = refl
numbers (denies r) = refl

short : (room : ℕ) (o : Outcome) → Fits room o → (given_words (reading_of o) ≤ desk.question) × (given_words (reading_of o) ≤ room)
short room (gives ws) h = h
short room (denies r) h = (omega arith, omega arith)

none_written : (own bytes : List ℕ) → sets bytes 0 (bytes_of (take 0 own)) ≡ bytes
unfolding bytes_of
none_written own bytes = refl

-- a refusal has no words to write
writes : (o : Outcome) (own bytes : List ℕ) → Fits (length own) o → sets bytes 0 (bytes_of (take (given_words (reading_of o)) (left_by o own))) ≡ words_left o bytes
writes (gives ws) own bytes h = let m = h.1 in ap (λ l. sets bytes 0 (bytes_of l)) (ap (take (length ws)) (sets-eq ws own 0 (omega arith)) ∙ take_at ws _ (length ws) refl)
writes (denies r) own bytes h = none_written own bytes

-- what `give` leaves of a refusal
pub none-given : (own bytes : List ℕ) {r : Result ℕ Refusal} {x : Refusal} → r ≡ Err x → bytes ≡ sets bytes 0 (bytes_of (take (given_words r) own))
none-given own bytes e = sym (ap (λ s. sets bytes 0 (bytes_of (take (given_words s) own))) e ∙ none_written own bytes)

module _ (text own : List ℕ) where
  length-left : (o : Outcome) → length (left_by o own) ≡ length own
  length-left (gives ws) = length-sets own 0 ws
  length-left (denies r) = refl

  abbrev comes : Outcome
  comes = reads_text desk (length own) text

  pub read_short : {r : Result ℕ Refusal} → r ≡ reading_of comes → (given_words r ≤ desk.question) × (given_words r ≤ length own)
  read_short e = let s = short (length own) comes (fits (length own) text) in let f = ap given_words e in (omega arith, omega arith)

  -- reading changes no length
  pub read_left : {own' : List ℕ} → own' ≡ left_by comes own → length own' ≡ length own
  read_left e = ap length e ∙ length-left comes

  pub read_done : {r : Result ℕ Refusal} {own' : List ℕ} (bytes : List ℕ) {bytes' : List ℕ} {n : ℕ} → r ≡ reading_of comes → own' ≡ left_by comes own → n ≡ given_number r
      → bytes' ≡ sets bytes 0 (bytes_of (take (given_words r) own')) → (n ≡ text_number comes) × (bytes' ≡ words_left comes bytes)
  read_done bytes e f g h = (
    g ∙ ap given_number e ∙ numbers comes,
    h ∙ ap₂ (λ s o. sets bytes 0 (bytes_of (take (given_words s) o))) e f ∙ writes comes own bytes (fits (length own) text),
  )

-- ---- and in the bytes lent

pub read-bytes : (text bytes : List ℕ) (room : ℕ) → room ≡ min desk.question (length bytes / 2) → reads_text desk room text ≡ reading_bytes desk (length bytes) text
unfolding reading_bytes
read-bytes text bytes room e = ap (λ n. reads_text desk n text) e ∙ same (length bytes / 2) text
