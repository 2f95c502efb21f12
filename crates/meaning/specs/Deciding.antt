-- A test of "same", one tree of the left after another: under an unordered symbol each takes out the first tree of the right that is the same.
use Rattle.std.specs.Prelude.{Bool, true, false, ◌&&◌}
use Rattle.std.proofs.Math.Option.{Option, none, some, map}
use Rattle.language.specs.declared.Sym.{Sym}
use Rattle.language.specs.Kinds.{pick}
use Rattle.language.specs.declared.Signature.{Signature}
use Rattle.language.specs.Trees.{is_unordered, eq_s}
use Rattle.meaning.specs.Complete.{Complete, nil, tree}

abbrev pub is_nil : Complete → Bool
is_nil nil = true
is_nil (tree f c r) = false

-- without its first tree that fits; where order counts, only the first tree of all may fit
abbrev pub take_out : Bool → (Sym → Complete → Bool) → Complete → Option Complete
take_out b fits nil = none
take_out true fits (tree f c r) = pick (fits f c) (some r) (map (tree f c) (take_out true fits r))
take_out false fits (tree f c r) = pick (fits f c) (some r) none

-- the second, in any order or as it stands, against the first
abbrev pub same_up_to : Signature → Complete → Bool → Complete → Bool
same_up_to σ nil b h = is_nil h
same_up_to σ (tree f c r) b h =
    elim (take_out b (λ g d. eq_s f g && same_up_to σ c (is_unordered σ f) d) h) [ none ↦ false | some k ↦ same_up_to σ r b k ]

unfoldable pub same_test : Signature → Complete → Complete → Bool
same_test σ g h = same_up_to σ g false h
