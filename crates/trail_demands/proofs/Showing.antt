-- What is shown of any call of desk_example_trail that came back.
use Prim.Native.Nat.{ℕ, ◌+◌, ◌*◌, ◌/◌}
use mathlib.Core.Path.{◌≡◌, refl, sym, ap, subst, ◌∙◌}
use native.Mathlib.Omega.{arith}
use lib.ListN.{length, take, drop}
use lib.Seq.{take_at}
use Rattle.language.specs.Limits.{desk}
use Rattle.language.specs.Trees.{Question}
use Rattle.language.specs.Question.{asks, read_question}
use Rattle.rules.specs.Calls.{Showing, shows, denied}
use Rattle.lines.specs.Fillings.{WordsMeet}
use Rattle.word_bytes.specs.Bytes.{words_of, words_in, half_word}
use Rattle.host.specs.Host as host
use Rattle.host.specs.Numbers.{asks_old}
use Rattle.replay.specs.Calls.{showing_trail}
use Rattle.replay.proofs.Told.{shown-trail-meets}
use Rattle.trail_host.specs.Host.{showing_trail_bytes}
use Rattle.demands.proofs.Hosting.{words-before}
use Rattle.trail_demands.specs.Calls.{DeskExampleTrail}
use Rattle.trail_demands.proofs.Noting.{not-refused}

module _ (c : DeskExampleTrail) (m : ℕ) (z : c.number ≡ 100 + m) where
  abbrev comes : Showing
  comes = showing_trail desk (asks_old c.old) desk.room desk.room (length c.room / 2) c.line (half_word c.trail) (words_of c.trail) (words_in c.question)

  -- the room's first m words are a filling of the question, which it meets
  pub shows-meets : (q : Question) × (read_question desk (words_in c.question) ≡ asks q) × WordsMeet desk q.counts (take m (words_of c.room_left)) q.alternatives
  unfolding showing_trail_bytes host.show_number host.show_leaves
  shows-meets = by comes refl c.said.0 c.said.1
    where
      by : (s : Showing) → comes ≡ s → c.number ≡ host.show_number s → c.room_left ≡ host.show_leaves s c.room
          → (q : Question) × (read_question desk (words_in c.question) ≡ asks q) × WordsMeet desk q.counts (take m (words_of c.room_left)) q.alternatives
      by (shows fs) d e f =
          let size : length fs ≡ m = omega arith in
          let words : take m (words_of c.room_left) ≡ fs =
          ap (λ b. take m (words_of b)) f ∙ ap (take m) (words-before fs (drop (2 * length fs) c.room)) ∙ take_at fs (words_of (drop (2 * length fs) c.room)) m size in
          let (q, asked, meets) = shown-trail-meets desk (asks_old c.old) desk.room desk.room (length c.room / 2) c.line (half_word c.trail) (words_of c.trail) (words_in c.question) fs d in
          (q, asked, subst (λ ws. WordsMeet desk q.counts ws q.alternatives) (sym words) meets)
      by (denied r) d e f = not-refused r c.number m z e
