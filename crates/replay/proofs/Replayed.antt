-- What is promised of a trail and its replay, over the definitions.
use Prim.Native.Nat.{ℕ, ◌+◌}
use mathlib.Core.Path.{◌≡◌}
use mathlib.Core.Logic.Iff
use mathlib.Core.Logic.{◌↔◌}
use mathlib.Core.Bool.{Bool, false}
use mathlib.Core.List.{List, [], ◌∷◌, ◌++◌, append_assoc, append-nil}
use native.Mathlib.Nat.{zero-add}
use lib.ListN.{length}
use Rattle.language.specs.declared.Signature.{Signature}
use Rattle.language.specs.Limits.{Limits}
use Rattle.language.specs.Trees.{Conj}
use Rattle.meaning.specs.Meaning.{Filling, MeetsOne}
use Rattle.rules.specs.Reply.{nothing}
use Rattle.rules.specs.Step.{step}
use Rattle.rules.specs.Run.{Numbered, unnumbered, EachLine, finished, run}
use Rattle.rules.proofs.Each.{each-++}
use Rattle.exact.specs.Numbers.{MeetsAt, MeetsNumbered}
use Rattle.exact.proofs.Exact.{named-step-exact}
use Rattle.exact.proofs.Run.{in_place, numbered-at, whatever-number}
use Rattle.replay.specs.Trail.{trail, trail_words}
use Rattle.replay.specs.Replay.{replay}
use Rattle.replay.proofs.Along.{along}
use Rattle.replay.proofs.Accepted.{trail-accepted, trail-long}

-- "What it accepts fulfils demand 3, whoever wrote the trail": a filling meets alternative n exactly when it meets a line numbered n,
pub replay-numbered : (σ : Signature) (L : Limits) (half : Bool) (trail : List ℕ) (w : List Conj) (ls : List Numbered) (s : ℕ) → replay L σ half trail w ≡ finished ls s
    → (ρ : Filling) (n : ℕ) → MeetsAt σ ρ n w ↔ MeetsNumbered σ ρ n ls
replay-numbered σ L half trail w ls s e ρ n =
    rw append-nil at
    (along σ (λ ms v. MeetsAt σ ρ n w ↔ MeetsNumbered σ ρ n (ms ++ v))
    (λ ms k v at ks p d. Iff.trans p (in_place σ ρ n ms ks v k (named-step-exact σ at k.literals ks d ρ)))
    (λ ms k v p d. rw append_assoc p)
    L half trail w ls s e (rw zero-add at (numbered-at σ ρ n 0 w)))

-- so it meets the question exactly when it meets a line;
pub replay-exact : (σ : Signature) (L : Limits) (half : Bool) (trail : List ℕ) (w : List Conj) (ls : List Numbered) (s : ℕ) → replay L σ half trail w ≡ finished ls s
    → (ρ : Filling) → MeetsOne σ ρ w ↔ MeetsOne σ ρ (unnumbered ls)
replay-exact σ L half trail w ls s e ρ = whatever-number σ ρ w ls (replay-numbered σ L half trail w ls s e ρ)

-- "and a trail only when no rule applies any more": none applies to a line.
pub replay-rests : (σ : Signature) (L : Limits) (half : Bool) (trail : List ℕ) (w : List Conj) (ls : List Numbered) (s : ℕ) → replay L σ half trail w ≡ finished ls s
    → EachLine (λ k. step σ k ≡ nothing) ls
replay-rests σ L half trail w ls s e =
    along σ (λ ms v. EachLine (λ k. step σ k ≡ nothing) ms) (λ ms k v at ks p d. p) (λ ms k v p d. each-++ _ ms (k ∷ []) p (d, tt)) L half trail w ls s e tt

-- "The trail of every answered solve is accepted and gives the same lines", in the same steps, three words each.
pub own-trail : (L : Limits) (σ : Signature) (w : List Conj) (ls : List Numbered) (n : ℕ) → run L σ w ≡ finished ls n
    → (replay L σ false (trail_words (trail L σ w)) w ≡ finished ls n) × (length (trail L σ w) ≡ n)
own-trail L σ w ls n e = (trail-accepted L σ w ls n e, trail-long L σ w ls n e)
