-- When each number comes back: 17, 18, 19 from the reader, and 2 to 6, 20, 19 from the writer, in this order.
use Prim.Native.Nat.{ℕ, ◌<◌, ◌≤◌}
use mathlib.Core.Path.{◌≡◌, refl, ap, ◌∙◌}
use mathlib.Core.Bool.{Bool, true, false, ◌&&◌}
use mathlib.Core.List.{List}
use lib.Dec.{leb}
use lib.ListN.{length}
use borrow.Author.Tests.{leb-true, le-leb, lt-leb}
use Rattle.language.specs.declared.Refusal.{Refusal}
use Rattle.language.specs.declared.Refusal.TheVariants.{ManyNames, LongText, OtherNumbers}
use Rattle.language.specs.Limits.{Limits}
use Rattle.language.specs.Kinds.{pick}
use Rattle.language.specs.Trees.{Conj, Question}
use Rattle.language.specs.Question.{counts_fit, Asked, asks, refuses, read_question}
use Rattle.grammar.specs.Grammar.{TextOf}
use Rattle.texts.specs.Numbering.{numbered, counts_in}
use Rattle.texts.specs.Writer.{all_text}
use Rattle.texts.specs.Outcomes.{Outcome, gives, denies, question_words, fitted, counted, reads_text, as_read, lent, writes_text}
use Rattle.texts.proofs.Accepted.{not-seventeen}

-- ---- the reader, on a text of the grammar

module _ (L : Limits) (room : ℕ) (text : List ℕ) (ks : List Conj) (d : TextOf ks text) where
  abbrev words : List ℕ
  words = question_words (counts_in ks) (numbered ks)

  -- 18: more names or lines than a header can count, however long it is
  pub eighteen : counts_fit L (counts_in ks) (length ks) ≡ false → reads_text L room text ≡ denies ManyNames
  unfolding counted
  eighteen e = not-seventeen L room text ks d ∙ ap (λ b. pick b (fitted L.question room (question_words (counts_in ks) (numbered ks))) (denies ManyNames)) e

  module _ (e : counts_fit L (counts_in ks) (length ks) ≡ true) where
    within : reads_text L room text ≡ pick (leb (length words) L.question && leb (length words) room) (gives words) (denies LongText)
    unfolding counted fitted
    within = not-seventeen L room text ks d ∙ ap (λ b. pick b (pick (leb (length words) L.question && leb (length words) room) (gives words) (denies LongText)) (denies ManyNames)) e

    -- 19: more words than a question may have, or than the room
    pub nineteen : (length (question_words (counts_in ks) (numbered ks)) ≤ L.question → length (question_words (counts_in ks) (numbered ks)) ≤ room → ⊥) → reads_text L room text ≡ denies LongText
    nineteen n = within ∙ on (leb (length words) L.question) refl (leb (length words) room) refl
      where
        on : (a : Bool) → leb (length words) L.question ≡ a → (b : Bool) → leb (length words) room ≡ b → pick (a && b) (gives words) (denies LongText) ≡ denies LongText
        on true p true q = absurd (n (leb-true (length words) L.question p) (leb-true (length words) room q))
        on true p false q = refl
        on false p b q = refl

    -- and else the words
    pub read : length (question_words (counts_in ks) (numbered ks)) ≤ L.question → length (question_words (counts_in ks) (numbered ks)) ≤ room → reads_text L room text ≡ gives (question_words (counts_in ks) (numbered ks))
    read p q =
        within ∙ ap (λ a. pick (a && leb (length words) room) (gives words) (denies LongText)) (le-leb (length words) L.question p)
        ∙ ap (λ b. pick b (gives words) (denies LongText)) (le-leb (length words) room q)

-- ---- the writer

module _ (L : Limits) (room : ℕ) (ws : List ℕ) where
  abbrev by : Asked → Outcome
  by o = elim o [ refuses r ↦ denies r | asks q ↦ pick (as_read q) (lent room (all_text q.alternatives)) (denies OtherNumbers) ]

  asked : (o : Asked) → read_question L ws ≡ o → writes_text L room ws ≡ by o
  unfolding writes_text
  asked o e = ap by e

  -- 2 to 6 as before
  pub as_before : (r : Refusal) → read_question L ws ≡ refuses r → writes_text L room ws ≡ denies r
  as_before r e = asked (refuses r) e

  module _ (q : Question) (e : read_question L ws ≡ asks q) where
    -- 20: numbered or counted otherwise
    pub twenty : as_read q ≡ false → writes_text L room ws ≡ denies OtherNumbers
    twenty f = asked (asks q) e ∙ ap (λ b. pick b (lent room (all_text q.alternatives)) (denies OtherNumbers)) f

    module _ (f : as_read q ≡ true) where
      to-lend : writes_text L room ws ≡ lent room (all_text q.alternatives)
      to-lend = asked (asks q) e ∙ ap (λ b. pick b (lent room (all_text q.alternatives)) (denies OtherNumbers)) f

      -- 19: longer than the room
      pub too_long : room < length (all_text q.alternatives) → writes_text L room ws ≡ denies LongText
      unfolding lent
      too_long p = to-lend ∙ ap (λ b. pick b (gives (all_text q.alternatives)) (denies LongText)) (lt-leb (length (all_text q.alternatives)) room p)

      -- and else the text
      pub text_of : length (all_text q.alternatives) ≤ room → writes_text L room ws ≡ gives (all_text q.alternatives)
      unfolding lent
      text_of p = to-lend ∙ ap (λ b. pick b (gives (all_text q.alternatives)) (denies LongText)) (le-leb (length (all_text q.alternatives)) room p)
