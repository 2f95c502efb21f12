-- Which numbers a named step can give: 1 to 6 before it, and 7 or more from it.
use Prim.Native.Nat.{ℕ, ◌≤◌}
use mathlib.Core.Path.{sym, subst}
use mathlib.Core.Bool.{Bool, true, false}
use mathlib.Core.List.{List, [], ◌∷◌}
use mathlib.Core.Option.{Option, none, some}
use lib.Dec.{lit≤, ltb}
use Rattle.language.specs.declared.Refusal.{Refusal}
use Rattle.language.specs.declared.Refusal.TheVariants.{ShortSlice, LongResult, LongWaiting}
use Rattle.language.specs.declared.Signature.{Signature}
use Rattle.language.specs.Limits.{Limits}
use Rattle.language.specs.Numbers.{number_of}
use Rattle.language.specs.Trees.{Conj, signature}
use Rattle.language.specs.Question.{Asked, asks, refuses, read_question}
use Rattle.rules.specs.Reply.{Reply, nothing, results, stops}
use Rattle.rules.specs.Run.{all_of, any_long, waiting_size}
use Rattle.rules.specs.Step.{Spot, step_at}
use Rattle.rules.proofs.Stopping.{StopsBy, IsLongWalk, named-stops}
use Rattle.host.proofs.Refusals.{Between, Early, early}
use Rattle.replay.specs.Replay.{Triple, spot_of}
use Rattle.telling.specs.Telling.{named_reply}
use Rattle.named_steps.specs.Naming.{Naming, made, unread, given-up, checked, replied, of_one, naming_of, naming}

abbrev Late : Refusal → Type 0
Late r = 7 ≤ number_of r

abbrev pub InOrder : Naming → Type 0
InOrder (made ks) = Unit {0}
InOrder (unread r) = Between 1 6 r
InOrder (given-up r) = Late r

late-tested : (b : Bool) (r : Refusal) (v : Naming) → Late r → InOrder v → InOrder (elim b [ true ↦ given-up r | false ↦ v ])
late-tested true r v h o = h
late-tested false r v h o = o

module _ (L : Limits) (number : ℕ) where
  order-checked : (ks : List Conj) → InOrder (checked L number ks)
  order-checked ks = late-tested (any_long L ks) LongResult _ (lit≤ tt) (late-tested (ltb L.room (waiting_size (all_of number ks))) LongWaiting _ (lit≤ tt) tt)

  order-replied : (m : Reply (List Conj)) → StopsBy IsLongWalk m → InOrder (replied L number m)
  order-replied nothing s = lit≤ tt
  order-replied (results ks) s = order-checked ks
  order-replied (stops r) s = subst Late (sym s) (lit≤ tt)

  module _ (t : Triple) where
    named-reply-stops : (σ : Signature) (k : Conj) → StopsBy IsLongWalk (named_reply σ t k)
    named-reply-stops σ k = go (spot_of t)
      where
        go : (o : Option Spot) → StopsBy IsLongWalk {A = List Conj} (elim o [ none ↦ nothing | some s ↦ step_at σ s k ])
        go none = tt
        go (some s) = named-stops σ s k

    order-of-one : (σ : Signature) (ks : List Conj) → InOrder (of_one L number σ t ks)
    order-of-one σ [] = (lit≤ tt, lit≤ tt)
    order-of-one σ (k ∷ []) = order-replied (named_reply σ t k) (named-reply-stops σ k)
    order-of-one σ (k ∷ j ∷ ks) = (lit≤ tt, lit≤ tt)

    order-asked : (a : Asked) → Early a → InOrder (naming_of L number t a)
    order-asked (asks q) e = order-of-one (signature q.counts) q.alternatives
    order-asked (refuses r) e = e

    unless-short : (b : Bool) (v : Naming) → InOrder v → InOrder (elim b [ true ↦ unread ShortSlice | false ↦ v ])
    unless-short true v o = (lit≤ tt, lit≤ tt)
    unless-short false v o = o

    pub in_order : (work : ℕ) (ws : List ℕ) → InOrder (naming L work number t ws)
    unfolding naming
    in_order work ws = unless-short (ltb work L.room) _ (order-asked (read_question L ws) (early L ws))
