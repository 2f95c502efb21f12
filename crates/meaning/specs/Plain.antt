-- Membership as the paper has it before "same": "f(R) is one term f over a member of R", and no other.
use Rattle.std.specs.Prelude.{◌≡◌, ◌⊎◌}
use Rattle.language.specs.Trees.{Expr, eps, cat, alt, star, over}
use Rattle.meaning.specs.Complete.{Complete, nil, tree, ◌·◌}
use Rattle.meaning.specs.Meaning.{Many}

abbrev pub PlainMember : Expr → Complete → Type 0
PlainMember eps g = g ≡ nil
PlainMember (cat a b) g = (u : Complete) × (v : Complete) × (g ≡ u · v) × PlainMember a u × PlainMember b v
PlainMember (alt a b) g = PlainMember a g ⊎ PlainMember b g
PlainMember (star a) g = Many (PlainMember a) g
PlainMember (over f a) g = (c : Complete) × (g ≡ tree f c nil) × PlainMember a c
