-- A step of a fine conjunction has fine results.
use Prim.Native.Nat.{◌≤◌}
use mathlib.Core.Path.{◌≡◌}
use mathlib.Core.List.{List, ◌∷◌, ◌++◌}
use mathlib.Core.Option.{none, some}
use Rattle.language.specs.Limits.{Limits}
use Rattle.language.specs.declared.Signature.{Signature}
use Rattle.language.specs.Trees.{Literal, eqn, mem, Conj}
use Rattle.language.specs.Fine.{fine_literal, fine_conj}
use Rattle.rules.specs.Substitution.{put_c}
use Rattle.rules.specs.Reply.{results}
use Rattle.rules.specs.Rules.{Branch, plain, elims, Answer, Rule, on_eqn, on_mem, on_pair, rules}
use Rattle.rules.specs.Step.{place, placed, Spot, step_at, step}
use Rattle.rules.specs.Each.{Each}
use Rattle.rules.specs.Sides.{AtSides}
use Rattle.rules.proofs.Each.{each-imp, each_map}
use Rattle.rules.proofs.Steps.{Gives, OnSides, Kept, kept-at-sides, gives-behind, named-at-sides, step-at-sides}
use Rattle.rules.proofs.FineParts.{fine-append, fine-split, fine-put_c}
use Rattle.rules.proofs.FineRules.{FineBranch, FineAnswer, RuleFine, each-rule-fine}

module _ (L : Limits) where
  fine-place : (before behind : Conj) (b : Branch) → fine_conj L before → fine_conj L behind → FineBranch L b → fine_conj L (place before behind b)
  fine-place before behind (plain ls) p q f = fine-append L before _ p (fine-append L ls behind f q)
  fine-place before behind (elims es ls s) p q f =
      fine-append L (put_c s before) _ (fine-put_c L s f.2 before p)
      (fine-append L es _ f.0 (fine-append L (put_c s ls) _ (fine-put_c L s f.2 ls f.1) (fine-put_c L s f.2 behind q)))

  fine-results : (before behind : Conj) (w : Answer) → fine_conj L before → fine_conj L behind → FineAnswer L w → Gives (Each (fine_conj L)) (placed before behind w)
  fine-results before behind none p q f = tt
  fine-results before behind (some bs) p q f =
      each_map (FineBranch L) (fine_conj L) (place before behind) (λ b g. fine-place before behind b p q g) bs f.given

  fine-sides : (rule : Rule) → RuleFine L rule → (before : Conj) (l : Literal) (behind : Conj) → fine_conj L before → fine_literal L l → fine_conj L behind
      → OnSides (Each (fine_conj L)) before behind rule l
  fine-sides (on_eqn rule) f before (eqn l r) behind p (x, y) q = (
    fine-results before behind (rule (before ++ behind) l r) p q (f (before ++ behind) l r x y),
    fine-results before behind (rule (before ++ behind) r l) p q (f (before ++ behind) r l y x),
  )
  fine-sides (on_eqn rule) f before (mem h R) behind p x q = tt
  fine-sides (on_mem rule) f before (eqn l r) behind p x q = tt
  fine-sides (on_mem rule) f before (mem h R) behind p x q = fine-results before behind (rule (before ++ behind) h R) p q (f (before ++ behind) h R x.0 x.1)
  fine-sides (on_pair rule) f before l behind p x q =
      gives-behind (fine_conj L) (fine_conj L) before (rule l behind) (λ k r. fine-append L before k p r) (f l behind x q)

  fine-rule : (rule : Rule) → RuleFine L rule → AtSides (Kept (fine_conj L)) rule
  fine-rule rule f = kept-at-sides (fine_conj L) rule λ before l behind p.
      let (q, r) = fine-split L before (l ∷ behind) p in fine-sides rule f before l behind q r.0 r.1

  each-fine : (σ : Signature) → σ.symbols ≤ L.each → Each (AtSides (Kept (fine_conj L))) (rules σ)
  each-fine σ few = each-imp (RuleFine L) (AtSides (Kept (fine_conj L))) fine-rule (rules σ) (each-rule-fine L σ few)

  pub step-fine : (σ : Signature) → σ.symbols ≤ L.each → (k : Conj) (ks : List Conj) → fine_conj L k → step σ k ≡ results ks → Each (fine_conj L) ks
  step-fine σ few k ks p e = step-at-sides σ (Kept (fine_conj L)) (each-fine σ few) k ks e p

  -- and so at any named place
  pub named-fine : (σ : Signature) → σ.symbols ≤ L.each → (s : Spot) (k : Conj) (ks : List Conj) → fine_conj L k → step_at σ s k ≡ results ks → Each (fine_conj L) ks
  named-fine σ few s k ks p e = named-at-sides (Kept (fine_conj L)) σ (each-fine σ few) s k ks e p
