-- What writing on words gives, told of the bytes.
use Prim.Native.Nat.{ℕ, ◌+◌, ◌≤◌}
use mathlib.Core.Path.{◌≡◌, refl, sym, ap, ◌∙◌}
use mathlib.Core.List.{List}
use native.Mathlib.Omega.{arith}
use lib.ListN.{length}
use Rattle.std.specs.Prelude.{Result}
use Rattle.language.specs.declared.Refusal.{Refusal}
use Rattle.language.specs.Limits.{desk}
use Rattle.language.specs.Question.{Asked, asks, refuses, read_question}
use Rattle.language.proofs.Numbering.{each_number}
use Rattle.texts.specs.Outcomes.{Outcome, gives, denies, writes_text}
use Rattle.word_bytes.specs.Bytes.{words_in, fitting}
use Rattle.word_bytes.proofs.Fitting.{fitting-question}
use Rattle.write_text.specs.Writes.{written_by, left_by}
use Rattle.write_text.proofs.Verdicts.{denied, wrote}
use Rattle.write_text.proofs.Bounds.{text-short}
use Rattle.text_host.specs.Texts.{writing_bytes, text_number, given_number}

pub told-short : (room : ℕ) (ws : List ℕ) (w : Result ℕ Refusal) → w ≡ written_by (writes_text desk room ws) → given_number w ≤ 100 + 65535
told-short room ws w e = on (writes_text desk room ws) refl (ap given_number e)
  where
    on : (o : Outcome) → writes_text desk room ws ≡ o → given_number w ≡ given_number (written_by (writes_text desk room ws)) → given_number w ≤ 100 + 65535
    on (gives text) i f = let t = text-short room ws text i in let z = f ∙ ap (λ o. given_number (written_by o)) i in omega arith
    on (denies r) i f = let t = each_number r in let z = f ∙ ap (λ o. given_number (written_by o)) i in omega arith

numbers : (o : Outcome) → given_number (written_by o) ≡ text_number o
numbers (gives text) = refl
numbers (denies r) = refl

module _ (q room ws : List ℕ) (e : ws ≡ fitting desk.question (words_in q)) where
  asked : read_question desk ws ≡ read_question desk (words_in q)
  asked = ap (read_question desk) e ∙ fitting-question (words_in q)

  same : writes_text desk (length room) ws ≡ writing_bytes desk (length room) q
  unfolding writing_bytes
  same = on (read_question desk ws) refl
    where
      on : (a : Asked) → read_question desk ws ≡ a → writes_text desk (length room) ws ≡ writes_text desk (length room) (words_in q)
      on (refuses r) i = denied ws (length room) r i ∙ sym (denied (words_in q) (length room) r (sym asked ∙ i))
      on (asks k) i = wrote ws (length room) k i ∙ sym (wrote (words_in q) (length room) k (sym asked ∙ i))

  pub told-number : {n : ℕ} {w : Result ℕ Refusal} → w ≡ written_by (writes_text desk (length room) ws) → n ≡ given_number w → n ≡ text_number (writing_bytes desk (length room) q)
  told-number p f = f ∙ ap given_number p ∙ numbers (writes_text desk (length room) ws) ∙ ap text_number same

  pub told-left : {new : List ℕ} → new ≡ left_by (writes_text desk (length room) ws) room → new ≡ left_by (writing_bytes desk (length room) q) room
  told-left p = p ∙ ap (λ o. left_by o room) same
