-- A turn by what was found, chosen and left: a line, a refusal, or a step.
use Prim.Native.Nat.{ℕ, suc, ◌+◌, ◌*◌, ◌-◌, ◌<◌, ◌≤◌}
use native.Mathlib.Omega.{arith}
use mathlib.Core.Path.{◌≡◌, refl, sym, ap, ◌∙◌, subst}
use mathlib.Core.Bool.{Bool, true, false, true≢false}
use mathlib.Core.List.{List, [], ◌∷◌, ◌++◌, map}
use lib.Dec.{ltb}
use lib.ListN.{length, length-append}
use borrow.Author.Tests.{lt-ltb, le-ltb}
use Rattle.std.specs.Prelude.{Result, Ok, Err}
use Rattle.language.specs.declared.Refusal.{Refusal}
use Rattle.language.specs.declared.Refusal.TheVariants.{LongResult, LongWaiting, LineRoom, LongWalk, TrailRoom}
use Rattle.language.specs.declared.Signature.{Signature}
use Rattle.language.specs.Limits.{desk}
use Rattle.language.specs.Trees.{Literal, Conj}
use Rattle.language.specs.Writing.{literal_words, conj_words}
use Rattle.language.specs.Fine.{fine_conj}
use Rattle.rules.specs.Each.{Each}
use Rattle.rules.specs.Reply.{nothing, results, stops}
use Rattle.rules.specs.Step.{Spot, step}
use Rattle.rules.specs.Places.{no_rule}
use Rattle.rules.specs.Run.{Numbered, all_of, any_long, waiting_size, lines_fit, refused}
use Rattle.frames.specs.Frames.{frame}
use Rattle.views.specs.Standing.{LiteralAt}
use Rattle.views.proofs.LiteralWalks.{stands_here, literal-some}
use Rattle.search.specs.declared.Best.{Best}
use Rattle.search.specs.Ranking.{Found, nowhere, halted, somewhere, side_results}
use Rattle.search.proofs.Pass.{searched}
use Rattle.steps.specs.Asking.{RuleAt}
use Rattle.taking.specs.Taking.{Took}
use Rattle.telling.specs.Telling.{Applies}
use Rattle.noting.specs.Noting.{there, roomless}
use Rattle.noting.specs.Noting as noting
use Rattle.running.specs.declared.moves.State.{State}
use Rattle.running.specs.Running.{Running, Kept, stepped, Lines, more, full, Made}
use Rattle.running.specs.Running as moves
use Rattle.running.proofs.Going.{waiting_kept, lined-kept, took-made}
use Rattle.courses.specs.declared.Course.{Course}
use Rattle.courses.specs.declared.Course.TheVariants.{First, Noted, Told}
use Rattle.running.specs.Courses.{left, goes, Guided, Below, Traces, Roomy, NotedStep, Chooses, refuses, makes}
use Rattle.running.proofs.Left.{left-line, left-stops, goes-long, goes-full, first_on, told-on, noted-short, noted-on}
use Rattle.running.specs.Turning.{Guide, guide, left_of, goes_of, Noting, Trailed, Under, bound, Turns, on, stop}
use Rattle.running.proofs.Trails.{trailed-line, noting-step, noting-length}

-- ---- a line

module _ (g : Guide) (old_work old_answer : List ℕ) (ls : List Numbered) (c : Numbered) (w : List Numbered) (s : State) (work answer out : List ℕ)
    (u : Under g old_work old_answer ls (c ∷ w) s work answer out) (e : step s.signature c.literals ≡ nothing) where
  line-left : (b : Bool) → lines_fit desk (ls ++ (c ∷ [])) ≡ b → (t : State) → t.steps ≡ s.steps → t.signature ≡ s.signature
      → left_of g s ls (c ∷ w) ≡ elim b [ true ↦ left_of g t (ls ++ (c ∷ [])) w | false ↦ refused LineRoom ]
  unfolding left_of
  line-left b f t a d =
      left-line g.told (length g.old) s.signature s.steps ls c w e b f g.course
      ∙ ap (λ n. elim b [ true ↦ left g.course g.told (length g.old) s.signature n (ls ++ (c ∷ [])) w | false ↦ refused LineRoom ]) (sym a)
      ∙ ap (λ σ. elim b [ true ↦ left g.course g.told (length g.old) σ t.steps (ls ++ (c ∷ [])) w | false ↦ refused LineRoom ]) (sym d)

  pub lined-turns : (r : Result State Refusal) (new : List ℕ) → Lines old_work old_answer ls c w s r work new → Turns g old_work old_answer ls (c ∷ w) s r work new out
  lined-turns r new (full er f k l) = stop LineRoom er (sym (line-left false f s refl refl)) k l
  lined-turns r new (more t er p a d h f) =
      on t (ls ++ (c ∷ [])) w er
      (record {
        running = p;
        trailed = subst (λ σ. Trailed g.course g.whole g.old σ t.steps w out) (sym d)
            (subst (λ n. Trailed g.course g.whole g.old s.signature n w out) (sym a)
            (trailed-line s.signature c w g.course g.whole g.old s.steps out e u.trailed));
        guided = subst (Guided g.course g.told) (sym a) u.guided;
      })
      (sym (line-left true f t a d))
      (let y = place-below in let z = ap (λ n. (bound g.course g.told - n) * (desk.room + 1)) a in let x : desk.room - t.at < desk.room - s.at = omega arith in omega arith)
    where
      place-below : t.at ≤ desk.room
      place-below = let z = p.waiting.place in omega arith

-- ---- a refusal

pub refused-turns : (g : Guide) (old_work old_answer : List ℕ) (ls w : List Numbered) (s : State) (work answer out : List ℕ) (x : Refusal)
    → left_of g s ls w ≡ refused x → Kept old_work work → Kept old_answer answer → Turns g old_work old_answer ls w s (Err x) work answer out
refused-turns g old_work old_answer ls w s work answer out x e k l = stop x refl (sym e) k l

-- ---- a step

-- it is noted where it is to be, or has no room
data Settled (course : Course) (told old : List ℕ) (whole : List Spot) (σ : Signature) (n m : ℕ) (ls : List Numbered) (c : Numbered) (w : List Numbered) (ks : List Conj) (noted : Bool) (out : List ℕ) : Type 0 where
  went : noted ≡ true → Trailed course whole old σ m (all_of c.number ks ++ w) out → Guided course told m
      → goes course told (length old) σ n ls ks (all_of c.number ks ++ w) ≡ left course told (length old) σ m ls (all_of c.number ks ++ w)
      → bound course told - m < bound course told - n → Settled course told old whole σ n m ls c w ks noted out
  unnoted : noted ≡ false → goes course told (length old) σ n ls ks (all_of c.number ks ++ w) ≡ refused TrailRoom → Settled course told old whole σ n m ls c w ks noted out

settles : (course : Course) (told old : List ℕ) (whole : List Spot) (σ : Signature) (n m : ℕ) (ls : List Numbered) (c : Numbered) (w : List Numbered) (k : List ℕ) (b : Best) (ks : List Conj)
    (before : Conj) (l : Literal) (behind : Conj) (out : List ℕ) (noted : Bool) (out' : List ℕ) → m ≡ n + 1 → LiteralAt k b.at before l behind
    → any_long desk ks ≡ false → ltb desk.room (waiting_size (all_of c.number ks ++ w)) ≡ false → Trailed course whole old σ n (c ∷ w) out → Below course told n → Traces course σ c.literals b ks before
    → NotedStep k b n course out noted out' → Settled course told old whole σ n m ls c w ks noted out'
settles First told old whole σ n m ls c w k b ks before l behind out noted out' em here a d t h x p =
    went p.0 (p.1 ∙ t) tt
    (first_on told (length old) σ n ls ks (all_of c.number ks ++ w) a d ∙ ap (λ i. left First told (length old) σ i ls (all_of c.number ks ++ w)) (let z : suc n ≡ m = omega arith in z))
    (omega arith)
settles Told told old whole σ n m ls c w k b ks before l behind out noted out' em here a d t h x p =
    went p.0 (p.1 ∙ t) (omega arith)
    (told-on told (length old) σ n ls ks (all_of c.number ks ++ w) a d ∙ ap (λ i. left Told told (length old) σ i ls (all_of c.number ks ++ w)) (let z : suc n ≡ m = omega arith in z))
    (omega arith)
settles Noted told old whole σ n m ls c w k b ks before l behind out noted out' em here a d t h x p = go (p before l behind here)
  where
    lengths : length out ≡ length old
    lengths = noting-length whole old σ n (c ∷ w) out t

    go : noting.Noted out n b.rank (length before) b.swap noted out' → Settled Noted told old whole σ n m ls c w ks noted out'
    go (there e g f) =
        went e
        (subst (λ z. Noting whole old σ m (all_of c.number ks ++ w) z) (sym f)
        (noting-step σ c w whole old n out (record { rule = b.rank; literal = length before; swapped = b.swap }) ks h x.1 t (let y = lengths in omega arith) m em)) tt
        (noted-on told (length old) σ n ls ks (all_of c.number ks ++ w) a d (le-ltb (length old) (3 * suc n) (let y = lengths in omega arith))
        ∙ ap (λ i. left Noted told (length old) σ i ls (all_of c.number ks ++ w)) (let z : suc n ≡ m = omega arith in z))
        (omega arith)
    go (roomless e g f) = unnoted e (noted-short told (length old) σ n ls ks (all_of c.number ks ++ w) a d (lt-ltb (length old) (3 * suc n) (let y = lengths in omega arith)))

module _ (course : Course) (told old : List ℕ) (whole : List Spot) (old_work old_answer : List ℕ) (ls : List Numbered) (c : Numbered) (w : List Numbered) (s : State) (work answer out : List ℕ)
    (u : Under (guide course told old whole) old_work old_answer ls (c ∷ w) s work answer out) (k : List ℕ) (ek : k ≡ conj_words c.literals) (number : ℕ) (eu : number ≡ c.number) (next : ℕ) (en : next ≡ s.at + frame + length k)
    (b : Best) (ks : List Conj) (a : Applies s.signature c.literals b ks)
    (goes_on : left_of (guide course told old whole) s ls (c ∷ w) ≡ goes_of (guide course told old whole) s ls ks (all_of c.number ks ++ w))
    (below : Below course told s.steps) (fine : Each (fine_conj desk) ks) (traces : Traces course s.signature c.literals b ks a.before)
    (r : Result ℕ Refusal) (new : List ℕ)
    (f : (before : Conj) (l : Literal) (behind : Conj) (ks : List Conj) → LiteralAt k b.at before l behind → side_results s.signature b.swap b.rank before l behind ≡ results ks
    → Took number (map conj_words ks) work next r new) where
  abbrev g : Guide
  g = guide course told old whole

  pub here : LiteralAt k b.at a.before a.l a.behind
  here = stands_here k c.literals u.running.fine.0 ek b.at a.before a.l a.behind a.whole a.place

  made : Made old_work old_answer ls c w s ks r new answer
  made =
      took-made old_work old_answer ls c w s work answer u.running k ek next en ks fine (map conj_words ks) refl r new
      (subst (λ m. Took m (map conj_words ks) work next r new) eu (f a.before a.l a.behind ks here a.makes))

  -- 7 or 8
  pub not-taken : (x : Refusal) → r ≡ Err x → Turns g old_work old_answer ls (c ∷ w) s (Err x) new answer out
  unfolding goes_of
  not-taken x er = go made
    where
      go : Made old_work old_answer ls c w s ks r new answer → Turns g old_work old_answer ls (c ∷ w) s (Err x) new answer out
      go (moves.long e y z v) =
          let i : LongResult ≡ x = cc in
          stop x refl (sym (goes_on ∙ goes-long told (length old) s.signature s.steps ls ks (all_of c.number ks ++ w) course y ∙ ap refused i)) z v
      go (moves.room e y z v t) =
          let i : LongWaiting ≡ x = cc in
          stop x refl (sym (goes_on ∙ goes-full told (length old) s.signature s.steps ls ks (all_of c.number ks ++ w) course y z ∙ ap refused i)) v t
      go (moves.on at e p y z h) = absurd (let z : ◌≡◌ {A = ℕ} 0 1 = cc in omega arith)

  module _ (to : ℕ) (er : r ≡ Ok to) where
    -- what is known of the results in place
    record Placed : Type 0 where
      runs : (n : ℕ) → Running old_work old_answer ls (all_of c.number ks ++ w) (stepped s to n) new answer
      short : any_long desk ks ≡ false
      fits : ltb desk.room (waiting_size (all_of c.number ks ++ w)) ≡ false
      place : to ≤ desk.room

    placed : Placed
    placed = go made
      where
        go : Made old_work old_answer ls c w s ks r new answer → Placed
        go (moves.long e x y z) = absurd (let z : ◌≡◌ {A = ℕ} 0 1 = cc in omega arith)
        go (moves.room e x y z v) = absurd (let z : ◌≡◌ {A = ℕ} 0 1 = cc in omega arith)
        go (moves.on at e p x y h) =
            let z : at ≡ to = cc in
            record { runs = λ n. subst (λ i. Running old_work old_answer ls (all_of c.number ks ++ w) (stepped s i n) new answer) z (p n); short = x; fits = y; place = omega arith }

    module _ (m : ℕ) (em : m ≡ s.steps + 1) (noted : Bool) (out' : List ℕ) (p : NotedStep k b s.steps course out noted out') where
      settled : Settled course told old whole s.signature s.steps m ls c w ks noted out'
      settled = settles course told old whole s.signature s.steps m ls c w k b ks a.before a.l a.behind out noted out' em here placed.short placed.fits u.trailed below traces p

      pub step-turns : noted ≡ true → Turns g old_work old_answer ls (c ∷ w) s (Ok (stepped s to m)) new answer out'
      unfolding left_of goes_of
      step-turns e = go settled
        where
          go : Settled course told old whole s.signature s.steps m ls c w ks noted out' → Turns g old_work old_answer ls (c ∷ w) s (Ok (stepped s to m)) new answer out'
          go (went x t q f h) =
              on (stepped s to m) ls (all_of c.number ks ++ w) refl (record { running = placed.runs m; trailed = t; guided = q }) (sym (goes_on ∙ f))
              (let y = placed.place in omega arith)
          go (unnoted x f) = absurd (true≢false (sym e ∙ x))

      pub unnoted-turns : noted ≡ false → Turns g old_work old_answer ls (c ∷ w) s (Err TrailRoom) new answer out'
      unfolding goes_of
      unnoted-turns e = go settled
        where
          go : Settled course told old whole s.signature s.steps m ls c w ks noted out' → Turns g old_work old_answer ls (c ∷ w) s (Err TrailRoom) new answer out'
          go (went x t q f h) = absurd (true≢false (sym x ∙ e))
          go (unnoted x f) =
              stop TrailRoom refl (sym (goes_on ∙ f)) (waiting_kept old_work to _ new (placed.runs m).waiting) (lined-kept old_answer ls s.tally answer (placed.runs m).lined)

-- ---- what was found

-- where nothing was found, no rule applies
pub none_found : (σ : Signature) (c : Conj) (n at : ℕ) (swap : Bool) → Found σ c n at swap → n ≡ no_rule → step σ c ≡ nothing
none_found σ c n at swap (nowhere e d) h = searched σ c _ d
none_found σ c n at swap (halted e d) h = absurd (omega arith)
none_found σ c n at swap (somewhere before l behind ks e q m a d) h = absurd (omega arith)

-- where it could not be told, the step says why
pub halt-found : (σ : Signature) (c : Conj) (n at : ℕ) (swap : Bool) → Found σ c n at swap → no_rule < n → step σ c ≡ stops LongWalk
halt-found σ c n at swap (nowhere e d) h = absurd (omega arith)
halt-found σ c n at swap (halted e d) h = searched σ c _ d
halt-found σ c n at swap (somewhere before l behind ks e q m a d) h = absurd (omega arith)

-- and else something was found
pub below_all : {n : ℕ} → (n ≡ no_rule → ⊥) → n ≤ no_rule → n < no_rule
below_all {n} a b = omega (arith, a)

-- a rule that applies in the whole applies in its words
pub rule-at : (σ : Signature) (k : List ℕ) (c : Conj) → fine_conj desk c → k ≡ conj_words c → (b : Best) (ks : List Conj) → Applies σ c b ks → RuleAt σ k b × (b.at < length k)
rule-at σ k c fine words b ks a =
    let here = stands_here k c fine words b.at a.before a.l a.behind a.whole a.place in (
      record { before = a.before; l = a.l; behind = a.behind; made = ks; stands = here; applies = a.makes },
      let x = ap length here.words in
          let y = length-append (conj_words a.before) (literal_words a.l ++ conj_words a.behind) in
          let z = length-append (literal_words a.l) (conj_words a.behind) in
          let v = literal-some a.l in
          let p = a.place in
          omega arith,
    )

-- ---- what was chosen

-- the step b is made
pub record ChosenStep (course : Course) (told : List ℕ) (room : ℕ) (σ : Signature) (n : ℕ) (c : Numbered) (b : Best) : Type 0 where
  pub ks : List Conj
  pub applies : Applies σ c.literals b ks
  pub goes_on : (ls w : List Numbered) → left course told room σ n ls (c ∷ w) ≡ goes course told room σ n ls ks (all_of c.number ks ++ w)
  pub below : Below course told n
  pub fine : Each (fine_conj desk) ks
  pub traces : Traces course σ c.literals b ks applies.before

pub chosen-step : (course : Course) (told : List ℕ) (room : ℕ) (σ : Signature) (n : ℕ) (c : Numbered) (r : Result Best Refusal) (b : Best) → r ≡ Ok b → Chooses course told room σ n c r
    → ChosenStep course told room σ n c b
chosen-step course told room σ n c r b e (refuses x d f) = absurd (let z : ◌≡◌ {A = ℕ} 0 1 = cc in omega arith)
chosen-step course told room σ n c r b e (makes x ks d a f h i t) =
    let z : x ≡ b = cc in subst (ChosenStep course told room σ n c) z (record { ks = ks; applies = a; goes_on = f; below = h; fine = i; traces = t })

pub chosen-not : (course : Course) (told : List ℕ) (room : ℕ) (σ : Signature) (n : ℕ) (c : Numbered) (r : Result Best Refusal) (x : Refusal) → r ≡ Err x → Chooses course told room σ n c r
    → (ls w : List Numbered) → left course told room σ n ls (c ∷ w) ≡ refused x
chosen-not course told room σ n c r x e (refuses y d f) = λ ls w. let z : y ≡ x = cc in f ls w ∙ ap refused z
chosen-not course told room σ n c r x e (makes b ks d a f h i t) = absurd (let z : ◌≡◌ {A = ℕ} 0 1 = cc in omega arith)

-- there is room for the steps that are noted
pub roomy : (course : Course) (whole : List Spot) (old : List ℕ) (σ : Signature) (n : ℕ) (w : List Numbered) (out : List ℕ) (c : Conj) (b : Best) (ks : List Conj) (before : Conj)
    → Trailed course whole old σ n w out → Traces course σ c b ks before → Roomy course b n out
roomy First whole old σ n w out c b ks before t x = tt
roomy Told whole old σ n w out c b ks before t x = tt
roomy Noted whole old σ n w out c b ks before t x = (let z = noting-length whole old σ n w out t in let y = t.fits in omega arith, x.0)

module _ (g : Guide) (old_work old_answer : List ℕ) (ls : List Numbered) (c : Numbered) (w : List Numbered) (s : State) (work answer out : List ℕ)
    (u : Under g old_work old_answer ls (c ∷ w) s work answer out) where
  -- it cannot be told whether a rule applies
  pub not-told : (x : Refusal) → step s.signature c.literals ≡ stops x → Turns g old_work old_answer ls (c ∷ w) s (Err x) work answer out
  unfolding left_of
  not-told x e =
      stop x refl (sym (left-stops g.told (length g.old) s.signature s.steps ls c w x e g.course)) (waiting_kept old_work s.at _ work u.running.waiting)
      (lined-kept old_answer ls s.tally answer u.running.lined)

  pub not_chosen : (x : Refusal) → ((ls w : List Numbered) → left g.course g.told (length g.old) s.signature s.steps ls (c ∷ w) ≡ refused x)
      → Turns g old_work old_answer ls (c ∷ w) s (Err x) work answer out
  unfolding left_of
  not_chosen x f = stop x refl (sym (f ls w)) (waiting_kept old_work s.at _ work u.running.waiting) (lined-kept old_answer ls s.tally answer u.running.lined)

pub goes-here : (g : Guide) (s : State) (ls : List Numbered) (c : Numbered) (w : List Numbered) (ks : List Conj)
    → ((ls w : List Numbered) → left g.course g.told (length g.old) s.signature s.steps ls (c ∷ w) ≡ goes g.course g.told (length g.old) s.signature s.steps ls ks (all_of c.number ks ++ w))
    → left_of g s ls (c ∷ w) ≡ goes_of g s ls ks (all_of c.number ks ++ w)
unfolding left_of goes_of
goes-here g s ls c w ks f = f ls w
