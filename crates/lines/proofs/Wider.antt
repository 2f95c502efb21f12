-- An example that is shown under some limits is shown, with the same words, under wider ones.
use Prim.Native.Nat.{ℕ, ◌≤◌}
use mathlib.Core.Path.{◌≡◌, sym, ap}
use mathlib.Core.Bool.{Bool, true, false}
use mathlib.Core.List.{List}
use mathlib.Core.Option.{some}
use native.Mathlib.Omega.{arith}
use borrow.Author.Tests.{le-ltb}
use lib.Dec.{ltb}
use lib.ListN.{length}
use Rattle.language.specs.Limits.{Limits, desk, first_desk, Within}
use Rattle.language.proofs.Wider.{first-within}
use Rattle.language.specs.Trees.{Counts}
use Rattle.language.specs.Question.{counts_of}
use Rattle.meaning.specs.Values.{filling_words}
use Rattle.rules.specs.Solved.{solved}
use Rattle.rules.specs.Run.{Numbered}
use Rattle.rules.specs.Example.{default_symbol, example}
use Rattle.rules.specs.Calls.{shows, fitted, shown, showing}
use Rattle.exact.proofs.Wider.{solving-wider}
use Rattle.lines.proofs.Shown.{shown-is}

fits : (M : Limits) (old : Bool) (n : Counts) (room : ℕ) (k : Numbered) (fs : List ℕ) → solved k.literals ≡ true → fs ≡ filling_words n (example (default_symbol old n) k.literals)
    → ltb M.filling (length fs) ≡ false → ltb room (length fs) ≡ false → shown M old n room (some k) ≡ shows fs
fits M old n room k fs s w f g = rw (shown, s, ← w, fitted, f, g) (ap shows (sym w))

pub showing-wider : (L M : Limits) → Within L M → (old : Bool) (work answer work' answer' room line : ℕ) (ws fs : List ℕ) → showing L old work answer room line ws ≡ shows fs
    → M.room ≤ work' → M.room ≤ answer' → showing M old work' answer' room line ws ≡ shows fs
unfolding showing
showing-wider L M i old work answer work' answer' room line ws fs e p q =
    let s = shown-is L old work answer room line ws fs e in
    let more = solving-wider L M i work answer work' answer' ws s.lines s.steps s.was-answered p q in
    let a = s.fits in
    let b = i.filling in
    let f = le-ltb M.filling (length fs) (omega arith) in
    let g = le-ltb room (length fs) s.fits-room in
    rw (showing, more, s.there) (fits M old (counts_of ws) room (record { number = s.number; literals = s.literals }) fs s.is-solved s.written f g)

-- ---- the first desk and the one of "Bigger sheets"

pub shown-still : (old : Bool) (work answer work' answer' room line : ℕ) (ws fs : List ℕ) → showing first_desk old work answer room line ws ≡ shows fs
    → desk.room ≤ work' → desk.room ≤ answer' → showing desk old work' answer' room line ws ≡ shows fs
shown-still = showing-wider first_desk desk first-within
