-- `find_clash`: by where the first clash is.
use native.Mathlib.Omega.{arith}
use mathlib.Core.Path.{sym, ap, ◌∙◌}
use lib.ListN.{length}
use Rattle.clashes.proofs.Firsts.{clash-within}
use Rattle.search.proofs.Finding.{clash-of}
use Rattle.search.proofs.find_clash.Goals as goal

pub returns-in-Nowhere : goal.returns-in-Nowhere
returns-in-Nowhere c = (λ h. absurd (omega arith), λ x f e. clash-of _ x _ (sym c.in-Nowhere.is ∙ c.first_clash.ensures x f e))

pub returns-in-At : goal.returns-in-At
returns-in-At c = let x = c.requires.conjunction in
    let told = c.in-At.is in (
      λ h.
          let z = clash-within _ 0 x.conj _ (sym told ∙ c.first_clash.ensures x.conj x.fine x.words) in
          let y = ap length x.words in
          omega arith,
      λ x f e. clash-of _ x _ (sym told ∙ c.first_clash.ensures x f e),
    )

pub returns-in-Stopped : goal.returns-in-Stopped
returns-in-Stopped c = (λ h. absurd (omega arith), λ x f e. clash-of _ x _ (sym c.in-Stopped.is ∙ c.first_clash.ensures x f e))
