-- The lines of a replay are as those of an answered question: they fit, they are declared, and no rule applies to them.
use Prim.Native.Nat.{ℕ}
use mathlib.Core.Path.{◌≡◌, refl}
use mathlib.Core.Bool.{Bool}
use mathlib.Core.List.{List}
use Rattle.language.specs.Limits.{desk}
use Rattle.language.specs.Trees.{signature}
use Rattle.rules.specs.Run.{Numbered}
use Rattle.rules.specs.Answer.{answered}
use Rattle.exact.proofs.Declared.{read-declared, named-declared}
use Rattle.example.proofs.Finished.{Ends, ends_of}
use Rattle.replay.specs.Calls.{replaying}
use Rattle.replay.proofs.Along.{replay-keeps}
use Rattle.replay.proofs.Replayed.{replay-rests}
use Rattle.replay.proofs.Told.{replayed-run}
use Rattle.trail_example.proofs.Fitting.{replay-fits}

pub retraced-end : (work answer : ℕ) (half : Bool) (trail question : List ℕ) (ls : List Numbered) (n : ℕ) → replaying desk work answer half trail question ≡ answered ls n → Ends question ls
retraced-end work answer half trail question ls n e =
    let (q, asked, ran) = replayed-run desk work answer half trail question ls n e in
    let σ = signature q.counts in
    ends_of question q asked ls (replay-fits desk σ refl half trail q.alternatives ls n ran)
    (replay-keeps σ _ (named-declared q.counts) desk half trail q.alternatives ls n ran (read-declared desk question q asked).1)
    (replay-rests σ desk half trail q.alternatives ls n ran)
