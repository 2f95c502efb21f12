-- One token of an expression, as the code takes it; and the loop.
use Prim.Native.Nat.{ℕ, zero, suc, ◌+◌, ◌-◌, ◌%◌}
use native.Mathlib.Omega.{arith}
use native.Mathlib.Numerals.{add-one}
use mathlib.Core.Path.{◌≡◌, refl, sym, ap, ◌∙◌}
use mathlib.Core.Bool.{true, false}
use mathlib.Core.Option.{none, some}
use lib.Dec.{leb, eqb}
use borrow.Author.Tests.{eqb-true}
use Rattle.language.proofs.Bools.{both_true}
use Rattle.grammar.specs.Tokens.{Tokens}
use Rattle.texts.specs.Parsing.{Res, got, stop}
use Rattle.lexing.specs.declared.Mark.{Mark}
use Rattle.lexing.specs.declared.Mark.TheVariants.{End, Bad, Symbol, One, Run, Function, Equals, Comma, Opens, Closes, Plus, Times}
use Rattle.lexing.specs.Bytes.{sort_of}
use Rattle.lexing.specs.Pieces.{front}
use Rattle.flat.specs.declared.State.{State}
use Rattle.flat.specs.declared.State.TheVariants.{Opened, Wanted, Named, Ready}
use Rattle.flat.specs.Flat.{add, scan}
use Rattle.walking.specs.Walking.{reads, got_at}
use Rattle.shapes.specs.Shapes.{action_of, state_behind, ends, refused, depth_by, end_words}

pub no : {A : Type 0} → false ≡ true → A
no e = absurd (let z : ◌≡◌ {A = ℕ} 0 1 = cc in omega arith)

pub yes : {A : Type 0} → true ≡ false → A
yes e = absurd (let z : ◌≡◌ {A = ℕ} 0 1 = cc in omega arith)

pub add-nil : (r : Res ℕ) → r ≡ add 0 r
add-nil (got n ts) = ap (λ k. got k ts) (let z : n ≡ 0 + n = omega arith in z)
add-nil stop = refl

no-end-deep : {A : Type 0} (a d : ℕ) → ends a (suc d) ≡ true → A
unfolding ends
no-end-deep a d e = absurd (let z = eqb-true (suc d) 0 (both_true (leb 30 a) (eqb (suc d) 0) e).1 in omega arith)

module _ (x : ℕ) where
  -- the expression ends before this token
  pub token-ends : (d : ℕ) (s : State) (m : Mark) (o : Tokens) → ends (action_of s m) d ≡ true → reads (scan s d) (front m x o) ≡ got_at (end_words s) (front m x o)
  unfolding ends
  token-ends d Opened End o e = no e
  token-ends d Opened Bad o e = no e
  token-ends d Opened Symbol o e = no e
  token-ends d Opened One o e = no e
  token-ends d Opened Run o e = no e
  token-ends d Opened Function o e = no e
  token-ends d Opened Equals o e = no e
  token-ends d Opened Comma o e = no e
  token-ends d Opened Opens o e = no e
  token-ends d Opened Closes o e = no e
  token-ends d Opened Plus o e = no e
  token-ends d Opened Times o e = no e
  token-ends d Wanted End o e = no e
  token-ends d Wanted Bad o e = no e
  token-ends d Wanted Symbol o e = no e
  token-ends d Wanted One o e = no e
  token-ends d Wanted Run o e = no e
  token-ends d Wanted Function o e = no e
  token-ends d Wanted Equals o e = no e
  token-ends d Wanted Comma o e = no e
  token-ends d Wanted Opens o e = no e
  token-ends d Wanted Closes o e = no e
  token-ends d Wanted Plus o e = no e
  token-ends d Wanted Times o e = no e
  token-ends (suc d) Named End o e = no-end-deep (action_of Named End) d e
  token-ends zero Named End o e = refl
  token-ends (suc d) Named Bad o e = no-end-deep (action_of Named Bad) d e
  token-ends zero Named Bad o e = refl
  token-ends (suc d) Named Symbol o e = no-end-deep (action_of Named Symbol) d e
  token-ends zero Named Symbol none e = refl
  token-ends zero Named Symbol (some ts) e = refl
  token-ends (suc d) Named One o e = no-end-deep (action_of Named One) d e
  token-ends zero Named One none e = refl
  token-ends zero Named One (some ts) e = refl
  token-ends (suc d) Named Run o e = no-end-deep (action_of Named Run) d e
  token-ends zero Named Run none e = refl
  token-ends zero Named Run (some ts) e = refl
  token-ends (suc d) Named Function o e = no-end-deep (action_of Named Function) d e
  token-ends zero Named Function none e = refl
  token-ends zero Named Function (some ts) e = refl
  token-ends (suc d) Named Equals o e = no-end-deep (action_of Named Equals) d e
  token-ends zero Named Equals none e = refl
  token-ends zero Named Equals (some ts) e = refl
  token-ends (suc d) Named Comma o e = no-end-deep (action_of Named Comma) d e
  token-ends zero Named Comma none e = refl
  token-ends zero Named Comma (some ts) e = refl
  token-ends d Named Opens o e = no e
  token-ends (suc d) Named Closes o e = no-end-deep (action_of Named Closes) d e
  token-ends zero Named Closes none e = refl
  token-ends zero Named Closes (some ts) e = refl
  token-ends d Named Plus o e = no e
  token-ends d Named Times o e = no e
  token-ends (suc d) Ready End o e = no-end-deep (action_of Ready End) d e
  token-ends zero Ready End o e = refl
  token-ends (suc d) Ready Bad o e = no-end-deep (action_of Ready Bad) d e
  token-ends zero Ready Bad o e = refl
  token-ends (suc d) Ready Symbol o e = no-end-deep (action_of Ready Symbol) d e
  token-ends zero Ready Symbol none e = refl
  token-ends zero Ready Symbol (some ts) e = refl
  token-ends (suc d) Ready One o e = no-end-deep (action_of Ready One) d e
  token-ends zero Ready One none e = refl
  token-ends zero Ready One (some ts) e = refl
  token-ends (suc d) Ready Run o e = no-end-deep (action_of Ready Run) d e
  token-ends zero Ready Run none e = refl
  token-ends zero Ready Run (some ts) e = refl
  token-ends (suc d) Ready Function o e = no-end-deep (action_of Ready Function) d e
  token-ends zero Ready Function none e = refl
  token-ends zero Ready Function (some ts) e = refl
  token-ends (suc d) Ready Equals o e = no-end-deep (action_of Ready Equals) d e
  token-ends zero Ready Equals none e = refl
  token-ends zero Ready Equals (some ts) e = refl
  token-ends (suc d) Ready Comma o e = no-end-deep (action_of Ready Comma) d e
  token-ends zero Ready Comma none e = refl
  token-ends zero Ready Comma (some ts) e = refl
  token-ends (suc d) Ready Opens o e = no-end-deep (action_of Ready Opens) d e
  token-ends zero Ready Opens none e = refl
  token-ends zero Ready Opens (some ts) e = refl
  token-ends (suc d) Ready Closes o e = no-end-deep (action_of Ready Closes) d e
  token-ends zero Ready Closes none e = refl
  token-ends zero Ready Closes (some ts) e = refl
  token-ends d Ready Plus o e = no e
  token-ends d Ready Times o e = no e

  -- it cannot stand there
  pub token-refused : (d : ℕ) (s : State) (m : Mark) (o : Tokens) → ends (action_of s m) d ≡ false → refused (action_of s m) ≡ true → reads (scan s d) (front m x o) ≡ stop
  unfolding ends refused
  token-refused d Opened End o e f = refl
  token-refused d Opened Bad o e f = refl
  token-refused d Opened Symbol o e f = no f
  token-refused d Opened One none e f = refl
  token-refused d Opened One (some ts) e f = refl
  token-refused d Opened Run none e f = refl
  token-refused d Opened Run (some ts) e f = refl
  token-refused d Opened Function none e f = refl
  token-refused d Opened Function (some ts) e f = refl
  token-refused d Opened Equals none e f = refl
  token-refused d Opened Equals (some ts) e f = refl
  token-refused d Opened Comma none e f = refl
  token-refused d Opened Comma (some ts) e f = refl
  token-refused d Opened Opens o e f = no f
  token-refused d Opened Closes o e f = no f
  token-refused d Opened Plus none e f = refl
  token-refused d Opened Plus (some ts) e f = refl
  token-refused d Opened Times none e f = refl
  token-refused d Opened Times (some ts) e f = refl
  token-refused d Wanted End o e f = refl
  token-refused d Wanted Bad o e f = refl
  token-refused d Wanted Symbol o e f = no f
  token-refused d Wanted One none e f = refl
  token-refused d Wanted One (some ts) e f = refl
  token-refused d Wanted Run none e f = refl
  token-refused d Wanted Run (some ts) e f = refl
  token-refused d Wanted Function none e f = refl
  token-refused d Wanted Function (some ts) e f = refl
  token-refused d Wanted Equals none e f = refl
  token-refused d Wanted Equals (some ts) e f = refl
  token-refused d Wanted Comma none e f = refl
  token-refused d Wanted Comma (some ts) e f = refl
  token-refused d Wanted Opens o e f = no f
  token-refused d Wanted Closes none e f = refl
  token-refused d Wanted Closes (some ts) e f = refl
  token-refused d Wanted Plus none e f = refl
  token-refused d Wanted Plus (some ts) e f = refl
  token-refused d Wanted Times none e f = refl
  token-refused d Wanted Times (some ts) e f = refl
  token-refused zero Named End o e f = yes e
  token-refused (suc d) Named End o e f = refl
  token-refused zero Named Bad o e f = yes e
  token-refused (suc d) Named Bad o e f = refl
  token-refused zero Named Symbol o e f = yes e
  token-refused (suc d) Named Symbol none e f = refl
  token-refused (suc d) Named Symbol (some ts) e f = refl
  token-refused zero Named One o e f = yes e
  token-refused (suc d) Named One none e f = refl
  token-refused (suc d) Named One (some ts) e f = refl
  token-refused zero Named Run o e f = yes e
  token-refused (suc d) Named Run none e f = refl
  token-refused (suc d) Named Run (some ts) e f = refl
  token-refused zero Named Function o e f = yes e
  token-refused (suc d) Named Function none e f = refl
  token-refused (suc d) Named Function (some ts) e f = refl
  token-refused zero Named Equals o e f = yes e
  token-refused (suc d) Named Equals none e f = refl
  token-refused (suc d) Named Equals (some ts) e f = refl
  token-refused d Named Comma o e f = no f
  token-refused d Named Opens o e f = no f
  token-refused d Named Closes o e f = no f
  token-refused d Named Plus o e f = no f
  token-refused d Named Times o e f = no f
  token-refused zero Ready End o e f = yes e
  token-refused (suc d) Ready End o e f = refl
  token-refused zero Ready Bad o e f = yes e
  token-refused (suc d) Ready Bad o e f = refl
  token-refused zero Ready Symbol o e f = yes e
  token-refused (suc d) Ready Symbol none e f = refl
  token-refused (suc d) Ready Symbol (some ts) e f = refl
  token-refused zero Ready One o e f = yes e
  token-refused (suc d) Ready One none e f = refl
  token-refused (suc d) Ready One (some ts) e f = refl
  token-refused zero Ready Run o e f = yes e
  token-refused (suc d) Ready Run none e f = refl
  token-refused (suc d) Ready Run (some ts) e f = refl
  token-refused zero Ready Function o e f = yes e
  token-refused (suc d) Ready Function none e f = refl
  token-refused (suc d) Ready Function (some ts) e f = refl
  token-refused zero Ready Equals o e f = yes e
  token-refused (suc d) Ready Equals none e f = refl
  token-refused (suc d) Ready Equals (some ts) e f = refl
  token-refused d Ready Comma o e f = no f
  token-refused zero Ready Opens o e f = yes e
  token-refused (suc d) Ready Opens none e f = refl
  token-refused (suc d) Ready Opens (some ts) e f = refl
  token-refused d Ready Closes o e f = no f
  token-refused d Ready Plus o e f = no f
  token-refused d Ready Times o e f = no f

  -- it goes on
  pub token-on : (d : ℕ) (s : State) (m : Mark) (o : Tokens) → ends (action_of s m) d ≡ false → refused (action_of s m) ≡ false
      → reads (scan s d) (front m x o) ≡ add (action_of s m % 10) (reads (scan (state_behind m) (depth_by (action_of s m) d)) o)
  unfolding ends refused depth_by
  token-on d Opened End o e f = yes f
  token-on d Opened Bad o e f = yes f
  token-on d Opened Symbol none e f = refl
  token-on d Opened Symbol (some ts) e f = ap (λ k. add 1 (scan Named k ts)) (sym (add-one d))
  token-on d Opened One o e f = yes f
  token-on d Opened Run o e f = yes f
  token-on d Opened Function o e f = yes f
  token-on d Opened Equals o e f = yes f
  token-on d Opened Comma o e f = yes f
  token-on d Opened Opens none e f = refl
  token-on d Opened Opens (some ts) e f = add-nil (scan Opened (suc d) ts) ∙ ap (λ k. add 0 (scan Opened k ts)) (sym (add-one d))
  token-on d Opened Closes none e f = refl
  token-on d Opened Closes (some ts) e f = refl
  token-on d Opened Plus o e f = yes f
  token-on d Opened Times o e f = yes f
  token-on d Wanted End o e f = yes f
  token-on d Wanted Bad o e f = yes f
  token-on d Wanted Symbol none e f = refl
  token-on d Wanted Symbol (some ts) e f = refl
  token-on d Wanted One o e f = yes f
  token-on d Wanted Run o e f = yes f
  token-on d Wanted Function o e f = yes f
  token-on d Wanted Equals o e f = yes f
  token-on d Wanted Comma o e f = yes f
  token-on d Wanted Opens none e f = refl
  token-on d Wanted Opens (some ts) e f = add-nil (scan Opened d ts)
  token-on d Wanted Closes o e f = yes f
  token-on d Wanted Plus o e f = yes f
  token-on d Wanted Times o e f = yes f
  token-on d Named End o e f = yes f
  token-on d Named Bad o e f = yes f
  token-on d Named Symbol o e f = yes f
  token-on d Named One o e f = yes f
  token-on d Named Run o e f = yes f
  token-on d Named Function o e f = yes f
  token-on d Named Equals o e f = yes f
  token-on zero Named Comma o e f = yes e
  token-on (suc d) Named Comma none e f = refl
  token-on (suc d) Named Comma (some ts) e f = refl
  token-on d Named Opens none e f = refl
  token-on d Named Opens (some ts) e f = add-nil (scan Opened d ts)
  token-on zero Named Closes o e f = yes e
  token-on (suc d) Named Closes none e f = refl
  token-on (suc d) Named Closes (some ts) e f = ap (λ k. add 1 (scan Ready k ts)) (let z : d ≡ suc d - 1 = omega arith in z)
  token-on d Named Plus none e f = refl
  token-on d Named Plus (some ts) e f = refl
  token-on d Named Times none e f = refl
  token-on d Named Times (some ts) e f = refl
  token-on d Ready End o e f = yes f
  token-on d Ready Bad o e f = yes f
  token-on d Ready Symbol o e f = yes f
  token-on d Ready One o e f = yes f
  token-on d Ready Run o e f = yes f
  token-on d Ready Function o e f = yes f
  token-on d Ready Equals o e f = yes f
  token-on zero Ready Comma o e f = yes e
  token-on (suc d) Ready Comma none e f = refl
  token-on (suc d) Ready Comma (some ts) e f = refl
  token-on d Ready Opens o e f = yes f
  token-on zero Ready Closes o e f = yes e
  token-on (suc d) Ready Closes none e f = refl
  token-on (suc d) Ready Closes (some ts) e f = add-nil (scan Ready d ts) ∙ ap (λ k. add 0 (scan Ready k ts)) (let z : d ≡ suc d - 1 = omega arith in z)
  token-on d Ready Plus none e f = refl
  token-on d Ready Plus (some ts) e f = refl
  token-on d Ready Times none e f = refl
  token-on d Ready Times (some ts) e f = refl

  -- a token that the loop passes has bytes
  pub passed : (s : State) (m : Mark) → sort_of m ≡ 0 → refused (action_of s m) ≡ true
  unfolding refused
  passed Opened End z = refl
  passed Opened Bad z = refl
  passed Opened Symbol z = absurd (omega arith)
  passed Opened One z = absurd (omega arith)
  passed Opened Run z = absurd (omega arith)
  passed Opened Function z = absurd (omega arith)
  passed Opened Equals z = absurd (omega arith)
  passed Opened Comma z = absurd (omega arith)
  passed Opened Opens z = absurd (omega arith)
  passed Opened Closes z = absurd (omega arith)
  passed Opened Plus z = absurd (omega arith)
  passed Opened Times z = absurd (omega arith)
  passed Wanted End z = refl
  passed Wanted Bad z = refl
  passed Wanted Symbol z = absurd (omega arith)
  passed Wanted One z = absurd (omega arith)
  passed Wanted Run z = absurd (omega arith)
  passed Wanted Function z = absurd (omega arith)
  passed Wanted Equals z = absurd (omega arith)
  passed Wanted Comma z = absurd (omega arith)
  passed Wanted Opens z = absurd (omega arith)
  passed Wanted Closes z = absurd (omega arith)
  passed Wanted Plus z = absurd (omega arith)
  passed Wanted Times z = absurd (omega arith)
  passed Named End z = refl
  passed Named Bad z = refl
  passed Named Symbol z = absurd (omega arith)
  passed Named One z = absurd (omega arith)
  passed Named Run z = absurd (omega arith)
  passed Named Function z = absurd (omega arith)
  passed Named Equals z = absurd (omega arith)
  passed Named Comma z = absurd (omega arith)
  passed Named Opens z = absurd (omega arith)
  passed Named Closes z = absurd (omega arith)
  passed Named Plus z = absurd (omega arith)
  passed Named Times z = absurd (omega arith)
  passed Ready End z = refl
  passed Ready Bad z = refl
  passed Ready Symbol z = absurd (omega arith)
  passed Ready One z = absurd (omega arith)
  passed Ready Run z = absurd (omega arith)
  passed Ready Function z = absurd (omega arith)
  passed Ready Equals z = absurd (omega arith)
  passed Ready Comma z = absurd (omega arith)
  passed Ready Opens z = absurd (omega arith)
  passed Ready Closes z = absurd (omega arith)
  passed Ready Plus z = absurd (omega arith)
  passed Ready Times z = absurd (omega arith)
