-- One token in brackets, as the code takes it.
use Prim.Native.Nat.{ℕ, zero, suc, ◌<◌, ◌≤◌}
use native.Mathlib.Omega.{arith}
use mathlib.Core.Path.{◌≡◌, refl}
use mathlib.Core.Bool.{true, false, not}
use mathlib.Core.List.{List, []}
use mathlib.Core.Option.{none, some}
use lib.Dec.{leb, ltb, eqb}
use borrow.Author.Tests.{lt-ltb, le-ltb, eq-eqb, ne_eqb}
use Rattle.grammar.specs.Tokens.{Tokens}
use Rattle.texts.specs.Parsing.{Res, got, stop}
use Rattle.texts.specs.Numbering.{Naming}
use Rattle.lexing.specs.declared.Mark.{Mark}
use Rattle.lexing.specs.declared.Mark.TheVariants.{End, Bad, Symbol, One, Run, Function, Equals, Comma, Opens, Closes, Plus, Times}
use Rattle.lexing.specs.Pieces.{front}
use Rattle.flat.specs.declared.State.{State}
use Rattle.flat.specs.declared.State.TheVariants.{Opened, Wanted, Named, Ready}
use Rattle.flat.specs.Flat.{lay, in_brackets}
use Rattle.walking.specs.Walking.{reads, role_of, stage_of, allows, owes, writes, token_words, goes_on}

lay-nil : (r : Res (List ℕ)) → r ≡ lay [] r
lay-nil (got ws ts) = refl
lay-nil stop = refl

no : {A : Type 0} → false ≡ true → A
no e = absurd (let z : ◌≡◌ {A = ℕ} 0 1 = cc in omega arith)

yes : {A : Type 0} → true ≡ false → A
yes e = absurd (let z : ◌≡◌ {A = ℕ} 0 1 = cc in omega arith)

module _ (ρ : Naming) (n : ℕ) where
  -- A token that can stand there writes its words, and the loop goes on.
  pub token-read : (d : ℕ) (s : State) (m : Mark) (o : Tokens) → allows (role_of m) (stage_of s) ≡ true → reads (in_brackets ρ s d) (front m n o) ≡ lay (token_words ρ (stage_of s) m n) (goes_on ρ d m o)
  unfolding allows owes writes
  token-read d Opened End o e = no e
  token-read d Opened Bad o e = no e
  token-read d Opened Symbol none e = refl
  token-read d Opened Symbol (some ts) e = refl
  token-read d Opened One none e = refl
  token-read d Opened One (some ts) e = refl
  token-read d Opened Run none e = refl
  token-read d Opened Run (some ts) e = refl
  token-read d Opened Function none e = refl
  token-read d Opened Function (some ts) e = refl
  token-read d Opened Equals o e = no e
  token-read d Opened Comma o e = no e
  token-read d Opened Opens o e = no e
  token-read zero Opened Closes none e = refl
  token-read zero Opened Closes (some ts) e = refl
  token-read (suc d) Opened Closes none e = refl
  token-read (suc d) Opened Closes (some ts) e = refl
  token-read d Opened Plus o e = no e
  token-read d Opened Times o e = no e
  token-read d Wanted End o e = no e
  token-read d Wanted Bad o e = no e
  token-read d Wanted Symbol none e = refl
  token-read d Wanted Symbol (some ts) e = refl
  token-read d Wanted One none e = refl
  token-read d Wanted One (some ts) e = refl
  token-read d Wanted Run none e = refl
  token-read d Wanted Run (some ts) e = refl
  token-read d Wanted Function none e = refl
  token-read d Wanted Function (some ts) e = refl
  token-read d Wanted Equals o e = no e
  token-read d Wanted Comma o e = no e
  token-read d Wanted Opens o e = no e
  token-read d Wanted Closes o e = no e
  token-read d Wanted Plus o e = no e
  token-read d Wanted Times o e = no e
  token-read d Named End o e = no e
  token-read d Named Bad o e = no e
  token-read d Named Symbol o e = no e
  token-read d Named One o e = no e
  token-read d Named Run o e = no e
  token-read d Named Function o e = no e
  token-read d Named Equals o e = no e
  token-read d Named Comma none e = refl
  token-read d Named Comma (some ts) e = refl
  token-read d Named Opens none e = refl
  token-read d Named Opens (some ts) e = lay-nil (in_brackets ρ Opened (suc d) ts)
  token-read zero Named Closes none e = refl
  token-read zero Named Closes (some ts) e = refl
  token-read (suc d) Named Closes none e = refl
  token-read (suc d) Named Closes (some ts) e = refl
  token-read d Named Plus o e = no e
  token-read d Named Times o e = no e
  token-read d Ready End o e = no e
  token-read d Ready Bad o e = no e
  token-read d Ready Symbol o e = no e
  token-read d Ready One o e = no e
  token-read d Ready Run o e = no e
  token-read d Ready Function o e = no e
  token-read d Ready Equals o e = no e
  token-read d Ready Comma none e = refl
  token-read d Ready Comma (some ts) e = lay-nil (in_brackets ρ Wanted d ts)
  token-read d Ready Opens o e = no e
  token-read zero Ready Closes none e = refl
  token-read zero Ready Closes (some ts) e = refl
  token-read (suc d) Ready Closes none e = refl
  token-read (suc d) Ready Closes (some ts) e = refl
  token-read d Ready Plus o e = no e
  token-read d Ready Times o e = no e

  -- One that cannot ends it.
  pub token-refused : (d : ℕ) (s : State) (m : Mark) (o : Tokens) → allows (role_of m) (stage_of s) ≡ false → reads (in_brackets ρ s d) (front m n o) ≡ stop
  unfolding allows
  token-refused d Opened End o e = refl
  token-refused d Opened Bad o e = refl
  token-refused d Opened Symbol o e = yes e
  token-refused d Opened One o e = yes e
  token-refused d Opened Run o e = yes e
  token-refused d Opened Function o e = yes e
  token-refused d Opened Equals none e = refl
  token-refused d Opened Equals (some ts) e = refl
  token-refused d Opened Comma none e = refl
  token-refused d Opened Comma (some ts) e = refl
  token-refused d Opened Opens none e = refl
  token-refused d Opened Opens (some ts) e = refl
  token-refused d Opened Closes o e = yes e
  token-refused d Opened Plus none e = refl
  token-refused d Opened Plus (some ts) e = refl
  token-refused d Opened Times none e = refl
  token-refused d Opened Times (some ts) e = refl
  token-refused d Wanted End o e = refl
  token-refused d Wanted Bad o e = refl
  token-refused d Wanted Symbol o e = yes e
  token-refused d Wanted One o e = yes e
  token-refused d Wanted Run o e = yes e
  token-refused d Wanted Function o e = yes e
  token-refused d Wanted Equals none e = refl
  token-refused d Wanted Equals (some ts) e = refl
  token-refused d Wanted Comma none e = refl
  token-refused d Wanted Comma (some ts) e = refl
  token-refused d Wanted Opens none e = refl
  token-refused d Wanted Opens (some ts) e = refl
  token-refused d Wanted Closes none e = refl
  token-refused d Wanted Closes (some ts) e = refl
  token-refused d Wanted Plus none e = refl
  token-refused d Wanted Plus (some ts) e = refl
  token-refused d Wanted Times none e = refl
  token-refused d Wanted Times (some ts) e = refl
  token-refused d Named End o e = refl
  token-refused d Named Bad o e = refl
  token-refused d Named Symbol none e = refl
  token-refused d Named Symbol (some ts) e = refl
  token-refused d Named One none e = refl
  token-refused d Named One (some ts) e = refl
  token-refused d Named Run none e = refl
  token-refused d Named Run (some ts) e = refl
  token-refused d Named Function none e = refl
  token-refused d Named Function (some ts) e = refl
  token-refused d Named Equals none e = refl
  token-refused d Named Equals (some ts) e = refl
  token-refused d Named Comma o e = yes e
  token-refused d Named Opens o e = yes e
  token-refused d Named Closes o e = yes e
  token-refused d Named Plus none e = refl
  token-refused d Named Plus (some ts) e = refl
  token-refused d Named Times none e = refl
  token-refused d Named Times (some ts) e = refl
  token-refused d Ready End o e = refl
  token-refused d Ready Bad o e = refl
  token-refused d Ready Symbol none e = refl
  token-refused d Ready Symbol (some ts) e = refl
  token-refused d Ready One none e = refl
  token-refused d Ready One (some ts) e = refl
  token-refused d Ready Run none e = refl
  token-refused d Ready Run (some ts) e = refl
  token-refused d Ready Function none e = refl
  token-refused d Ready Function (some ts) e = refl
  token-refused d Ready Equals none e = refl
  token-refused d Ready Equals (some ts) e = refl
  token-refused d Ready Comma o e = yes e
  token-refused d Ready Opens none e = refl
  token-refused d Ready Opens (some ts) e = refl
  token-refused d Ready Closes o e = yes e
  token-refused d Ready Plus none e = refl
  token-refused d Ready Plus (some ts) e = refl
  token-refused d Ready Times none e = refl
  token-refused d Ready Times (some ts) e = refl

-- ---- the tests, as the code makes them

module _ (role stage : ℕ) where
  pub none_allowed : role ≡ 0 → false ≡ allows role stage
  unfolding allows
  none_allowed e = rw (eq-eqb role 0 e)

  module _ (p : role ≡ 0 → ⊥) where
    pub element-allowed : role < 3 → ltb stage 2 ≡ allows role stage
    unfolding allows
    element-allowed q = rw (ne_eqb role 0 p, lt-ltb role 3 q)

    module _ (q : 3 ≤ role) where
      pub comma-allowed : role ≡ 3 → leb 2 stage ≡ allows role stage
      unfolding allows
      comma-allowed e = rw (ne_eqb role 0 p, le-ltb role 3 q, eq-eqb role 3 e)

      module _ (r : role ≡ 3 → ⊥) where
        pub opens-allowed : role ≡ 4 → eqb stage 2 ≡ allows role stage
        unfolding allows
        opens-allowed e = rw (ne_eqb role 0 p, le-ltb role 3 q, ne_eqb role 3 r, eq-eqb role 4 e)

        pub closes-allowed : (role ≡ 4 → ⊥) → not (eqb stage 1) ≡ allows role stage
        unfolding allows
        closes-allowed e = rw (ne_eqb role 0 p, le-ltb role 3 q, ne_eqb role 3 r, ne_eqb role 4 e)

  pub owed-behind : stage ≡ 2 → not (eqb role 4) ≡ owes role stage
  unfolding owes
  owed-behind e = rw (eq-eqb stage 2 e)

  pub owed-nowhere : (stage ≡ 2 → ⊥) → false ≡ owes role stage
  unfolding owes
  owed-nowhere e = rw (ne_eqb stage 2 e)

pub word-early : (role : ℕ) → role < 3 → true ≡ writes role
unfolding writes
word-early role p = rw (lt-ltb role 3 p)

pub word-late : (role : ℕ) → 3 ≤ role → eqb role 5 ≡ writes role
unfolding writes
word-late role p = rw (le-ltb role 3 p)
