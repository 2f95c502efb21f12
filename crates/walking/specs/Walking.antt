-- What the loop over a side does with each token: whether it can stand there, what it writes, and how it goes on.
use Rattle.std.specs.Prelude.{ℕ, zero, suc, ◌+◌, ◌-◌, ◌≤◌, min, ◌≡◌, Bool, true, false, ◌&&◌, ◌||◌, not, List, [], ◌∷◌, ◌++◌, leb, ltb, eqb, length, drop}
use Rattle.std.proofs.Math.Option.{none, some}
use Rattle.std.proofs.lemmas.List.Edits.{sets}
use Rattle.language.specs.Kinds.{pick}
use Rattle.grammar.specs.Tokens.{Token, one, run, functor, equals, comma, opens, closes, plus, times, Tokens}
use Rattle.texts.specs.Parsing.{Res, got, stop}
use Rattle.texts.specs.Numbering.{Naming}
use Rattle.lexing.specs.declared.Mark.{Mark}
use Rattle.lexing.specs.declared.Mark.TheVariants.{End, Bad, Symbol, One, Run, Function, Equals, Comma, Opens, Closes, Plus, Times}
use Rattle.lexing.specs.Bytes.{others}
use Rattle.lexing.specs.declared.Piece.{Piece}
use Rattle.lexing.specs.Pieces.{here, next_of}
use Rattle.room_words.specs.Rooms.{word_if, Put, Wrote}
use Rattle.text_names.specs.Shelves.{name_at}
use Rattle.text_names.specs.Words.{own_word}
use Rattle.flat.specs.declared.State.{State}
use Rattle.flat.specs.declared.State.TheVariants.{Opened, Wanted, Named, Ready}
use Rattle.flat.specs.Flat.{in_brackets, closed}
use Rattle.walking.specs.declared.Way.{Way}

-- ---- tokens that may break off

abbrev pub reads : {A : Type 0} → (List Token → Res A) → Tokens → Res A
reads f none = stop
reads f (some ts) = f ts

-- read so far, and these tokens behind
abbrev pub got_at : {A : Type 0} → A → Tokens → Res A
got_at a none = stop
got_at a (some ts) = got a ts

-- ---- a token in brackets

-- what a token is here: a blank, a functor, a comma, a bracket that opens, one that closes; or nothing that can stand in a side
abbrev pub role_of : Mark → ℕ
role_of End = 0
role_of Bad = 0
role_of Symbol = 2
role_of One = 1
role_of Run = 1
role_of Function = 2
role_of Equals = 0
role_of Comma = 3
role_of Opens = 4
role_of Closes = 5
role_of Plus = 0
role_of Times = 0

abbrev pub stage_of : State → ℕ
stage_of Opened = 0
stage_of Wanted = 1
stage_of Named = 2
stage_of Ready = 3

-- whether it can stand there
unfoldable pub allows : ℕ → ℕ → Bool
allows role stage =
    pick (eqb role 0) false
    (pick (ltb role 3) (ltb stage 2)
    (pick (eqb role 3) (leb 2 stage)
    (pick (eqb role 4) (eqb stage 2) (not (eqb stage 1)))))

abbrev pub state_after : Mark → State
state_after End = Ready
state_after Bad = Ready
state_after Symbol = Named
state_after One = Ready
state_after Run = Ready
state_after Function = Named
state_after Equals = Ready
state_after Comma = Wanted
state_after Opens = Opened
state_after Closes = Ready
state_after Plus = Ready
state_after Times = Ready

-- whether the end of a functor without brackets stands before it
unfoldable pub owes : ℕ → ℕ → Bool
owes role stage = eqb stage 2 && not (eqb role 4)

-- whether it has a word of its own
unfoldable pub writes : ℕ → Bool
writes role = ltb role 3 || eqb role 5

unfoldable pub depth_after : ℕ → ℕ → ℕ
depth_after role d = pick (eqb role 4) (d + 1) (pick (eqb role 5) (d - 1) d)

-- the bracket that closes is the first that opened
unfoldable pub last_of : ℕ → ℕ → Bool
last_of role d = eqb role 5 && eqb d 0

-- what it writes, where it can stand
abbrev pub token_words : Naming → ℕ → Mark → ℕ → List ℕ
token_words ρ stage m n = word_if (owes (role_of m) stage) 0 ++ word_if (writes (role_of m)) (own_word ρ m n)

-- how the loop goes on behind it
abbrev pub closing : Naming → ℕ → Tokens → Res (List ℕ)
closing ρ zero o = got_at [] o
closing ρ (suc d) o = reads (in_brackets ρ Ready d) o

abbrev pub goes_on : Naming → ℕ → Mark → Tokens → Res (List ℕ)
goes_on ρ d End o = reads (in_brackets ρ Ready d) o
goes_on ρ d Bad o = reads (in_brackets ρ Ready d) o
goes_on ρ d Symbol o = reads (in_brackets ρ Named d) o
goes_on ρ d One o = reads (in_brackets ρ Ready d) o
goes_on ρ d Run o = reads (in_brackets ρ Ready d) o
goes_on ρ d Function o = reads (in_brackets ρ Named d) o
goes_on ρ d Equals o = reads (in_brackets ρ Ready d) o
goes_on ρ d Comma o = reads (in_brackets ρ Wanted d) o
goes_on ρ d Opens o = reads (in_brackets ρ Opened (suc d)) o
goes_on ρ d Closes o = closing ρ d o
goes_on ρ d Plus o = reads (in_brackets ρ Ready d) o
goes_on ρ d Times o = reads (in_brackets ρ Ready d) o

-- ---- what a walk leaves, token by token: what comes back, and the room

abbrev pub Left : Type 0
Left = Way × List ℕ

abbrev pub leaves : Bool → ℕ → ℕ → List ℕ → Left
leaves b i k room = (record { ok = b; at = i; n = k }, room)

-- the place behind words that are put
abbrev pub behind_words : List ℕ → ℕ → List ℕ → ℕ
behind_words room k ws = min (length room) (k + length ws)

-- a token that cannot stand there, the last one, or one behind which it goes on
abbrev pub token_on : (ℕ → ℕ → ℕ → ℕ → List ℕ → Left) → ℕ → ℕ → ℕ → ℕ → List ℕ → Piece → List ℕ → Left
token_on rec stage d i k room p ws =
    pick (allows (role_of p.mark) stage)
    (pick (last_of (role_of p.mark) d) (leaves true p.to (behind_words room k ws) (sets room k ws))
    (rec (stage_of (state_after p.mark)) (depth_after (role_of p.mark) d) p.to (behind_words room k ws) (sets room k ws)))
    (leaves false i k room)

abbrev pub piece_on : Naming → List ℕ → (ℕ → ℕ → ℕ → ℕ → List ℕ → Left) → ℕ → ℕ → ℕ → ℕ → List ℕ → Piece → Left
piece_on ρ text rec stage d i k room p = token_on rec stage d i k room p (token_words ρ stage p.mark (name_at text p.from))

-- at most so many tokens
unfoldable pub brackets_from : Naming → List ℕ → ℕ → ℕ → ℕ → ℕ → ℕ → List ℕ → Left
brackets_from ρ text zero stage d i k room = leaves false i k room
brackets_from ρ text (suc most) stage d i k room = piece_on ρ text (brackets_from ρ text most) stage d i k room (next_of text i)

abbrev pub brackets_on : Naming → List ℕ → ℕ → ℕ → List ℕ → Left
brackets_on ρ text at n room = brackets_from ρ text (suc (length text)) 0 0 at n room

-- with the end of the side behind it
abbrev pub closed_on : Left → Left
closed_on l = pick l.0.ok (leaves true l.0.at (behind_words l.1 l.0.n (0 ∷ [])) (sets l.1 l.0.n (0 ∷ []))) l

abbrev pub behind_by : Naming → List ℕ → ℕ → ℕ → List ℕ → Piece → Left
behind_by ρ text at n room p =
    pick (eqb (role_of p.mark) 4) (closed_on (brackets_on ρ text p.to n room))
    (leaves true at (behind_words room n (0 ∷ 0 ∷ [])) (sets room n (0 ∷ 0 ∷ [])))

abbrev pub behind_on : Naming → List ℕ → ℕ → ℕ → List ℕ → Left
behind_on ρ text at n room = behind_by ρ text at n room (next_of text at)

-- an element by itself
abbrev pub element_on : Naming → List ℕ → ℕ → List ℕ → Piece → ℕ → Left
element_on ρ text n room p w =
    pick (eqb (role_of p.mark) 1) (leaves true p.to (behind_words room n (w ∷ 0 ∷ [])) (sets room n (w ∷ 0 ∷ [])))
    (behind_on ρ text p.to (behind_words room n (w ∷ [])) (sets room n (w ∷ [])))

abbrev pub side_by : Naming → List ℕ → ℕ → ℕ → List ℕ → Piece → Left
side_by ρ text at n room p =
    pick (eqb (role_of p.mark) 4) (brackets_on ρ text p.to n room)
    (pick (allows (role_of p.mark) 1) (element_on ρ text n room p (own_word ρ p.mark (name_at text p.from))) (leaves false at n room))

abbrev pub side_on : Naming → List ℕ → ℕ → ℕ → List ℕ → Left
side_on ρ text at n room = side_by ρ text at n room (next_of text at)

-- ---- what that comes to: the words of what was read, and where it ended; or that nothing can be read

pub record Walked (text : List ℕ) (f : List Token → Res (List ℕ)) (left : Left) (room : List ℕ) (at n : ℕ) (r : Way) (room' : List ℕ) : Type 0 where
  pub low : at ≤ r.at
  pub high : r.at ≤ length text
  pub same : others (drop at text) ≡ others (drop r.at text)
  pub fits : r.n ≤ length room
  pub len : length room' ≡ length room
  pub good : r.ok ≡ true → (ws : List ℕ) × (reads f (here text at) ≡ got_at ws (here text r.at)) × Wrote room n ws r.n room'
  pub bad : r.ok ≡ false → reads f (here text at) ≡ stop
  pub tells : ◌≡◌ {A = Left} (r, room') left

-- ---- a side

-- what a functor that is a side by itself has behind its word
abbrev pub behind_functor : Naming → List Token → Res (List ℕ)
behind_functor ρ [] = got (0 ∷ 0 ∷ []) []
behind_functor ρ (one x ∷ ts) = got (0 ∷ 0 ∷ []) (one x ∷ ts)
behind_functor ρ (run p ∷ ts) = got (0 ∷ 0 ∷ []) (run p ∷ ts)
behind_functor ρ (functor g ∷ ts) = got (0 ∷ 0 ∷ []) (functor g ∷ ts)
behind_functor ρ (equals ∷ ts) = got (0 ∷ 0 ∷ []) (equals ∷ ts)
behind_functor ρ (comma ∷ ts) = got (0 ∷ 0 ∷ []) (comma ∷ ts)
behind_functor ρ (opens ∷ ts) = closed (in_brackets ρ Opened 0 ts)
behind_functor ρ (closes ∷ ts) = got (0 ∷ 0 ∷ []) (closes ∷ ts)
behind_functor ρ (plus ∷ ts) = got (0 ∷ 0 ∷ []) (plus ∷ ts)
behind_functor ρ (times ∷ ts) = got (0 ∷ 0 ∷ []) (times ∷ ts)

pub record Closed (room : List ℕ) (w r : Way) (room' : List ℕ) : Type 0 where
  pub len : length room' ≡ length room
  pub fits : r.n ≤ length room
  pub at : r.at ≡ w.at
  pub ok : r.ok ≡ w.ok
  pub good : w.ok ≡ true → Put room w.n (0 ∷ []) r.n room'
  pub tells : ◌≡◌ {A = Left} (r, room') (closed_on (w, room))
