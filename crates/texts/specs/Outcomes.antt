-- What reading and writing a text come to, with the numbers 17 to 20 and 2 to 6.
use Rattle.std.specs.Prelude.{ℕ, ◌+◌, ◌*◌, Bool, false, ◌&&◌, List, ◌∷◌, ◌++◌, map, leb, eqb, length}
use Rattle.std.proofs.Math.Option.{Option, none, some}
use Rattle.language.specs.declared.Refusal.{Refusal}
use Rattle.language.specs.declared.Refusal.TheVariants.{NotText, ManyNames, LongText, OtherNumbers}
use Rattle.language.specs.Limits.{Limits}
use Rattle.language.specs.Kinds.{pick}
use Rattle.language.specs.Trees.{Conj, Counts, Question}
use Rattle.language.specs.Writing.{conj_words}
use Rattle.language.specs.Question.{counts_fit, asks, refuses, read_question}
use Rattle.meaning.specs.Values.{joined, offsets_of}
use Rattle.texts.specs.Texts.{parse}
use Rattle.texts.specs.Numbering.{symbols, terms, hedges, functions, in_all, in_order, at_least_one, numbered, counts_in}
use Rattle.texts.specs.Writer.{all_text}

pub data Outcome : Type 0 where
  -- words, or bytes
  gives : List ℕ → Outcome
  denies : Refusal → Outcome

-- ---- a question's words

unfoldable pub question_words : Counts → List Conj → List ℕ
question_words n ks =
    (n.symbols + 256 * n.unordered) ∷ n.terms ∷ n.hedges ∷ n.functions ∷ length ks ∷ (offsets_of (6 + length ks) (map conj_words ks) ++ joined (map conj_words ks))

-- ---- reading a text: 17, 18, 19, in this order

unfoldable pub fitted : ℕ → ℕ → List ℕ → Outcome
fitted most room ws = pick (leb (length ws) most && leb (length ws) room) (gives ws) (denies LongText)

unfoldable pub counted : Limits → ℕ → List Conj → Outcome
counted L room ks = pick (counts_fit L (counts_in ks) (length ks)) (fitted L.question room (question_words (counts_in ks) (numbered ks))) (denies ManyNames)

unfoldable pub reads_text : Limits → ℕ → List ℕ → Outcome
reads_text L room text = elim (parse text) [ none ↦ denies NotText | some ks ↦ counted L room ks ]

-- ---- writing one: 2 to 6, then 20, then 19

abbrev pub count_is : Option ℕ → ℕ → Bool
count_is none n = false
count_is (some m) n = eqb m n

abbrev pub symbols_are : Option ℕ → ℕ → Bool
symbols_are none n = false
symbols_are (some m) n = eqb (at_least_one m) n

-- numbered in order of first appearance, counted as they appear, and no symbol unordered
unfoldable pub as_read : Question → Bool
as_read q =
    eqb q.counts.unordered 0
    && (symbols_are (in_order 0 (in_all symbols q.alternatives)) q.counts.symbols
    && (count_is (in_order 0 (in_all terms q.alternatives)) q.counts.terms
    && (count_is (in_order 0 (in_all hedges q.alternatives)) q.counts.hedges
    && count_is (in_order 0 (in_all functions q.alternatives)) q.counts.functions)))

unfoldable pub lent : ℕ → List ℕ → Outcome
lent room text = pick (leb (length text) room) (gives text) (denies LongText)

unfoldable pub writes_text : Limits → ℕ → List ℕ → Outcome
writes_text L room ws =
    elim (read_question L ws) [
      | refuses r ↦ denies r
      | asks q ↦ pick (as_read q) (lent room (all_text q.alternatives)) (denies OtherNumbers)
    ]
