-- What the return of desk_try cites: the words lent come to what the bytes come to.
use Prim.Native.Nat.{ℕ}
use mathlib.Core.Path.{◌≡◌, ap, ◌∙◌}
use mathlib.Core.Logic.{⊎_elim, inl, inr}
use mathlib.Core.List.{List}
use lib.ListN.{length}
use Rattle.std.specs.Prelude.{Result, Bool}
use Rattle.language.specs.declared.Refusal.{Refusal}
use Rattle.language.specs.Limits.{desk}
use Rattle.rules.specs.Calls.{Trying, trying}
use Rattle.rules.specs.Calls as calls
use Rattle.outcomes.specs.Numbers.{tried_numbers}
use Rattle.trying.specs.Outcome.{ToldOutcome}
use Rattle.word_bytes.specs.Bytes.{words_in, fitting}
use Rattle.handing.specs.Handed.{number_or}
use Rattle.try_host.specs.Host.{trying_bytes, TryNumber}
use Rattle.try_host.proofs.Fitting.{fitting-trying}
use Rattle.handing.proofs.Handed.{number-refused}

abbrev tried_told : ℕ × ℕ × ℕ → ℕ
tried_told n = number_or n.0 n.2

tell : (t : Trying) (r : Result Bool Refusal) (k : ℕ) (w w' : List ℕ) → ToldOutcome t r w w' → k ≡ tried_told (tried_numbers r) → TryNumber t k
unfolding TryNumber number_or
tell (calls.decides q ρ) r k w w' (c, z) e =
    ⊎_elim (λ (y : (tried_numbers r ≡ _) × _). inl (e ∙ ap tried_told y.0, y.1)) (λ (y : (tried_numbers r ≡ _) × _). inr (e ∙ ap tried_told y.0, y.1)) c
tell (calls.unread x) r k w w' c e = e ∙ ap tried_told c.0 ∙ number-refused x 0
tell (calls.given-up x) r k w w' c e = e ∙ ap tried_told c.0 ∙ number-refused x 0

pub tried : (q f ws fs w w' : List ℕ) (r : Result Bool Refusal) (k : ℕ) → ws ≡ fitting desk.question (words_in q) → fs ≡ fitting desk.filling (words_in f) → length w ≡ desk.room
    → ToldOutcome (trying desk (length w) ws fs) r w w' → k ≡ tried_told (tried_numbers r) → TryNumber (trying_bytes desk q f) k
unfolding trying_bytes
tried q f ws fs w w' r k ew ef n o e =
    let same : trying desk (length w) ws fs ≡ trying desk desk.room (words_in q) (words_in f) = rw (n, ew, ef) (fitting-trying desk.room (words_in q) (words_in f)) in
    tell _ r k w w' (rw same at o) e
