-- What is shown of any call of try_filling that came back.
use Prim.Native.Nat.{ℕ, ◌≤◌}
use mathlib.Core.Path.{◌≡◌, refl, ap, subst, ◌∙◌}
use mathlib.Core.Logic.{◌⊎◌, inl, inr}
use mathlib.Core.Bool.{Bool, true, false}
use mathlib.Core.List.{List, [], ◌∷◌}
use mathlib.Core.Option.{some}
use native.Mathlib.Omega.{arith}
use borrow.Author.Tests.{le-ltb}
use lib.Dec.{ltb}
use lib.ListN.{length, take}
use Rattle.std.specs.Prelude.{Result, Ok, Err}
use Rattle.language.specs.declared.Refusal.{Refusal}
use Rattle.language.specs.declared.Refusal.TheVariants.{ShortSlice, LongLiteral}
use Rattle.language.specs.declared.Signature.{Signature}
use Rattle.language.specs.Limits.{desk}
use Rattle.language.specs.Trees.{signature, Question}
use Rattle.language.specs.Question.{asks, read_question}
use Rattle.meaning.specs.Meaning.{Filling, MeetsQuestion}
use Rattle.meaning.specs.Values.{Given, gives, read_filling}
use Rattle.meaning.specs.Values as values
use Rattle.rules.specs.Calls.{Trying, decides, too_long, trying_with, trying_of, trying}
use Rattle.rules.specs.Calls as calls
use Rattle.trying.specs.Outcome.{Answers, Outcome}
use Rattle.demands.specs.Tries.{Try}
use Rattle.demands.specs.Examples.{Example}
use Rattle.demands.specs.Answers.{Line, MeetsLine, MeetsLines, nth_line}
use Rattle.demands.specs.Promises.{Promised}
use Rattle.demands.specs.Tells.{TryAgrees}
use Rattle.demands.proofs.Said.{try-said}
use Rattle.demands.proofs.Showing.{shows-so}

abbrev pub Decided : Result Bool Refusal → Type 0
Decided r = (r ≡ Ok true) ⊎ (r ≡ Ok false)

not-refused : {A : Type 0} {r : Result Bool Refusal} {e : Refusal} → Decided r → r ≡ Err e → A
not-refused (inl d) f = absurd (let z : ◌≡◌ {A = ℕ} 0 1 = cc in omega arith)
not-refused (inr d) f = absurd (let z : ◌≡◌ {A = ℕ} 0 1 = cc in omega arith)

-- ---- yes and no

module _ (q : Question) (fs w w' : List ℕ) (r : Result Bool Refusal) (d : Decided r) where
  -- the words are read as a filling, and the answer is what the meaning says of it
  abbrev pub Decides : Type 0
  Decides = (ρ : Filling) × (read_filling desk q.counts fs ≡ gives ρ) × Answers (MeetsQuestion ρ q) r

  by_size : (ρ : Filling) → read_filling desk q.counts fs ≡ gives ρ → (b : Bool) → Outcome (elim b [ true ↦ calls.given-up LongLiteral | false ↦ decides q ρ ]) r w w' → Decides
  by_size ρ g true o = not-refused d o.0
  by_size ρ g false o = (ρ, g, o.0)

  by-given : (g : Given) → read_filling desk q.counts fs ≡ g → Outcome (trying_with desk q g) r w w' → Decides
  by-given (gives ρ) e o = by_size ρ e (too_long desk ρ q.alternatives) o
  by-given (values.refuses x) e o = not-refused d o.0

  pub decided-so : (ws : List ℕ) (work : ℕ) → read_question desk ws ≡ asks q → Outcome (trying desk work ws fs) r w w' → Decides
  unfolding trying
  decided-so ws work asked o = go (ltb work desk.room) o
    where
      go : (b : Bool) → Outcome (elim b [ true ↦ calls.unread ShortSlice | false ↦ trying_of desk (read_question desk ws) fs ]) r w w' → Decides
      go true x = not-refused d x.0
      go false x = by-given (read_filling desk q.counts fs) refl (subst (λ a. Outcome (trying_of desk a fs) r w w') asked x)

pub yes-meets : {P : Type 0} {r : Result Bool Refusal} → r ≡ Ok true → Answers P r → P
yes-meets e (inl a) = a.1
yes-meets e (inr a) = absurd (let d = a.0 in let z : ◌≡◌ {A = ℕ} 0 1 = cc in omega arith)

pub no-meets : {P : Type 0} {r : Result Bool Refusal} → r ≡ Ok false → Answers P r → P → ⊥
no-meets e (inl a) = absurd (let d = a.0 in let z : ◌≡◌ {A = ℕ} 0 1 = cc in omega arith)
no-meets e (inr a) = a.1

-- yes and no are what the lines say that any call of solve left
pub agrees : (t : Try) {q answer : List ℕ} → t.question ≡ q → (p : Promised q answer) → TryAgrees p t.filling t.returned
agrees t same p =
    let found : (d : Decided t.returned) → Decides p.asked t.filling t.work t.work_left t.returned d =
    λ d. decided-so p.asked t.filling t.work t.work_left t.returned d t.question (length t.work) (ap (read_question desk) same ∙ p.question-read) (try-said t) in
    record {
      yes = λ e. let (ρ, read, a) = found (inl e) in (ρ, read, (p.exact.same ρ).0 (yes-meets e a));
      no = λ e. let (ρ, read, a) = found (inr e) in (ρ, read, λ m. no-meets e a ((p.exact.same ρ).1 m));
    }

-- ---- what an example showed

-- what meets the line of a number meets one of the lines
pub line-met : (σ : Signature) (ρ : Filling) (i : ℕ) (ls : List Line) (l : Line) → nth_line i ls ≡ some l → MeetsLine σ ρ l → MeetsLines σ ρ ls
line-met σ ρ i [] l e m = absurd (let z : ◌≡◌ {A = ℕ} 0 1 = cc in omega arith)
line-met σ ρ ℕ.zero (k ∷ ls) l e m = let d : k ≡ l = cc in inl (rw d m)
line-met σ ρ (ℕ.suc i) (k ∷ ls) l e m = inr (line-met σ ρ i ls l e m)

module _ (t : Try) where
  abbrev TriedAs : Trying → Type 0
  TriedAs x = Outcome x t.returned t.work t.work_left

  pub shown-tried : (c : Example) (m : ℕ) → c.returned ≡ Ok m → t.question ≡ c.question → t.filling ≡ take m c.room_left → desk.room ≤ length t.work
      → (t.returned ≡ Ok true) ⊎ (t.returned ≡ Err LongLiteral)
  unfolding trying
  shown-tried c m e same words long =
      let (p, k, there, _, s) = shows-so c m e in
      let ρ = s.filling in
      let met = (p.exact.same ρ).1 (line-met (signature p.asked.counts) ρ c.line p.lines k there s.meets) in
      let asked = ap (read_question desk) same ∙ p.question-read in
      let read = ap (read_filling desk p.asked.counts) words ∙ s.read in
      by p.asked ρ met (too_long desk ρ p.asked.alternatives)
      (subst (λ g. TriedAs (trying_with desk p.asked g)) read
      (subst (λ a. TriedAs (trying_of desk a t.filling)) asked
      (subst (λ b. TriedAs (elim b as (λ _. Trying) [ true ↦ calls.unread ShortSlice | false ↦ trying_of desk (read_question desk t.question) t.filling ]))
      (le-ltb (length t.work) desk.room long) (try-said t))))
    where
      by : (q : Question) (ρ : Filling) → MeetsQuestion ρ q → (b : Bool) → TriedAs (elim b [ true ↦ calls.given-up LongLiteral | false ↦ decides q ρ ])
          → (t.returned ≡ Ok true) ⊎ (t.returned ≡ Err LongLiteral)
      by q ρ met true o = inr o.0
      by q ρ met false o = elim o.0 [ inl y ↦ inl y.0 | inr n ↦ absurd (n.1 met) ]
