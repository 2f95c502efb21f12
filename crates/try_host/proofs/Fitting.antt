-- What does not fit is refused for its length, and so is nothing at all: trying the words that fit comes to what trying all words comes to.
use Prim.Native.Nat.{ℕ, suc, ◌+◌, ◌<◌}
use mathlib.Core.Path.{◌≡◌, refl, ap, ◌∙◌, sym}
use mathlib.Core.Bool.{Bool, true, false, ◌&&◌, and-false}
use mathlib.Core.List.{List, []}
use native.Mathlib.Omega.{arith}
use lib.Dec.{leb, ltb, eqb}
use lib.ListN.{length, get_or}
use borrow.Author.Tests.{leb-false, lt-leb}
use Rattle.language.specs.declared.Refusal.TheVariants.{ShortSlice, FillingLayout}
use Rattle.language.specs.Kinds.{pick}
use Rattle.language.specs.Limits.{desk}
use Rattle.language.specs.Trees.{Counts}
use Rattle.language.specs.Question.{Asked, asks, refuses, read_question, laid_out, rises, offsets}
use Rattle.meaning.specs.Values.{Given, read_filling, variables}
use Rattle.meaning.specs.Values as values
use Rattle.rules.specs.Calls.{Trying, trying_with, trying_of, trying}
use Rattle.rules.specs.Calls as calls
use Rattle.word_bytes.specs.Bytes.{fitting}
use Rattle.word_bytes.proofs.Fitting.{fitting-question}

at-layout : (b : Bool) (x : Given) → b ≡ false → elim b [ false ↦ values.refuses FillingLayout | true ↦ x ] ≡ values.refuses FillingLayout
at-layout b x e = ap (λ (t : Bool). elim t [ false ↦ values.refuses FillingLayout | true ↦ x ]) e

module _ (n : Counts) where
  pub long-filling : (fs : List ℕ) → desk.filling < length fs → read_filling desk n fs ≡ values.refuses FillingLayout
  unfolding read_filling
  long-filling fs h =
      at-layout _ _ (ap (λ (b : Bool). b && eqb (get_or fs 0 0) (variables n) && laid_out 1 (variables n) fs) (lt-leb (length fs) desk.filling h))

  pub no-filling : read_filling desk n [] ≡ values.refuses FillingLayout
  unfolding read_filling laid_out
  no-filling =
      let e : leb (1 + suc (variables n)) 0 ≡ false = lt-leb (1 + suc (variables n)) 0 (omega arith) in
      let f : laid_out 1 (variables n) [] ≡ false = ap (λ (b : Bool). b && rises (1 + suc (variables n)) (offsets 1 (variables n) []) 0) e in
      at-layout _ _ (ap (λ (b : Bool). true && eqb 0 (variables n) && b) f ∙ and-false (eqb 0 (variables n)))

  pub fitting-filling : (fs : List ℕ) → read_filling desk n (fitting desk.filling fs) ≡ read_filling desk n fs
  unfolding fitting
  fitting-filling fs = go (leb (length fs) desk.filling) refl where
    go : (b : Bool) → leb (length fs) desk.filling ≡ b → read_filling desk n (pick b fs []) ≡ read_filling desk n fs
    go true e = refl
    go false e = no-filling ∙ sym (long-filling fs (leb-false _ _ e))

pub fitting-trying : (work : ℕ) (ws fs : List ℕ) → trying desk work (fitting desk.question ws) (fitting desk.filling fs) ≡ trying desk work ws fs
unfolding trying
fitting-trying work ws fs =
    ap (λ (a : Asked). elim (ltb work desk.room) [ true ↦ calls.unread ShortSlice | false ↦ trying_of desk a (fitting desk.filling fs) ]) (fitting-question ws)
    ∙ ap (λ (t : Trying). elim (ltb work desk.room) [ true ↦ calls.unread ShortSlice | false ↦ t ]) (each (read_question desk ws))
  where
    each : (a : Asked) → trying_of desk a (fitting desk.filling fs) ≡ trying_of desk a fs
    each (asks q) = ap (trying_with desk q) (fitting-filling q.counts fs)
    each (refuses r) = refl
