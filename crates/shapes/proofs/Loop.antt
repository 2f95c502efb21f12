-- The loop over the tokens.
use Prim.Native.Nat.{ℕ, suc, ◌+◌, ◌-◌, ◌%◌, ◌<◌, ◌≤◌, min}
use native.Mathlib.Omega.{arith}
use mathlib.Core.Path.{◌≡◌, refl, sym, ap, ap₂, ◌∙◌, subst}
use mathlib.Core.Bool.{Bool, true, false}
use mathlib.Core.List.{List}
use mathlib.Core.Option.{none, some}
use lib.ListN.{length, drop}
use Rattle.language.specs.Limits.{Limits}
use Rattle.grammar.specs.Tokens.{Tokens}
use Rattle.texts.specs.Parsing.{Res, got, stop}
use Rattle.lexing.specs.declared.Piece.{Piece}
use Rattle.lexing.specs.Bytes.{others, name_from}
use Rattle.lexing.specs.Pieces.{here, front, next_of, Next}
use Rattle.lexing.proofs.Pieces.{next-law}
use Rattle.flat.specs.declared.State.{State}
use Rattle.flat.specs.declared.State.TheVariants.{Wanted}
use Rattle.flat.specs.Flat.{add, scan, flat_expr}
use Rattle.walking.specs.Walking.{reads, got_at, stage_of}
use Rattle.shapes.specs.Shapes.{action_of, state_behind, ends, refused, depth_by, end_words}
use Rattle.shapes.specs.Scanned.{count_on, piece_on, shape_from, shape_on, Scanned}
use Rattle.shapes.specs.Actions.{action_at, end_at}
use Rattle.shapes.proofs.Scanning.{add-nil, no, passed, token-ends, token-on, token-refused, yes}
use Rattle.shapes.proofs.Actions.{at-state, deep, end-state, positive}

add-add : (n m : ℕ) (r : Res ℕ) → add n (add m r) ≡ add (n + m) r
add-add n m (got k us) = ap (λ z. got z us) (omega arith)
add-add n m stop = refl

add-got : (n m : ℕ) (o : Tokens) → add n (got_at m o) ≡ got_at (n + m) o
add-got n m none = refl
add-got n m (some ts) = refl

-- ---- token by token

module _ (L : Limits) (text : List ℕ) where
  same_args : (i : ℕ) {m m' s s' d d' n n' : ℕ} → m ≡ m' → s ≡ s' → d ≡ d' → n ≡ n' → shape_from L text m s d i n ≡ shape_from L text m' s' d' i n'
  same_args i a b c e = cc

  module _ (m stage d i n : ℕ) {p : Piece} (e : p ≡ next_of text i) where
    step-piece : shape_from L text (suc m) stage d i n ≡ piece_on L (shape_from L text m) stage d i n p
    unfolding shape_from
    step-piece = ap (piece_on L (shape_from L text m) stage d i n) (sym e)

    step-ends : ends (action_at stage p.mark) d ≡ true → shape_from L text (suc m) stage d i n ≡ record { ok = true; at = i; n = count_on L n (end_at stage) }
    step-ends a = step-piece ∙ rw (a)

    step-refused : ends (action_at stage p.mark) d ≡ false → refused (action_at stage p.mark) ≡ true → shape_from L text (suc m) stage d i n ≡ record { ok = false; at = i; n = n }
    step-refused a b = step-piece ∙ rw (a, b)

    step-on : ends (action_at stage p.mark) d ≡ false → refused (action_at stage p.mark) ≡ false
        → shape_from L text (suc m) stage d i n ≡ shape_from L text m (stage_of (state_behind p.mark)) (depth_by (action_at stage p.mark) d) p.to (count_on L n (action_at stage p.mark % 10))
    step-on a b = step-piece ∙ rw (a, b)

module _ (L : Limits) (text : List ℕ) (at : ℕ) where
  pub record Going (stage d i n : ℕ) : Type 0 where
    pub low : at ≤ i
    pub high : i ≤ length text
    pub shallow : d ≤ i
    pub few : n ≤ L.question + 1
    pub same : others (drop at text) ≡ others (drop i text)
    pub state : State
    pub stage_is : stage ≡ stage_of state
    pub done : ℕ
    pub counted : n ≡ min (L.question + 1) done
    pub so_far : reads flat_expr (here text at) ≡ add done (reads (scan state d) (here text i))
    pub most : ℕ
    pub enough : length text ≤ i + most
    pub tells : shape_from L text (suc most) stage d i n ≡ shape_on L text at

  pub going-starts : at ≤ length text → Going 1 0 at 0
  going-starts p = record {
    low = omega arith;
    high = p;
    shallow = omega arith;
    few = omega arith;
    same = refl;
    state = Wanted;
    stage_is = refl;
    done = 0;
    counted = omega arith;
    so_far = add-nil (reads flat_expr (here text at));
    most = length text;
    enough = omega arith;
    tells = refl;
  }

  module _ {stage d i n : ℕ} (g : Going stage d i n) {p : Piece} (e₀ : p ≡ next_of text i) {a : ℕ} (r : a ≡ action_at stage p.mark) where
    n' : Next text i p
    n' = subst (Next text i) (sym e₀) (next-law text i g.high)

    act : a ≡ action_of g.state p.mark
    act = r ∙ ap (λ s. action_at s p.mark) g.stage_is ∙ at-state g.state p.mark

    abbrev x : ℕ
    x = name_from (drop p.from text)

    here-is : reads flat_expr (here text at) ≡ add g.done (reads (scan g.state d) (front p.mark x (here text p.to)))
    here-is = g.so_far ∙ ap (λ o. add g.done (reads (scan g.state d) o)) n'.reads

    pub ends-here : {c : Bool} → c ≡ ends a d → c ≡ true → {w : ℕ} → w ≡ end_at stage → {k : ℕ} → k ≡ min (L.question + 1) (n + w) → Scanned L text at (record { ok = true; at = i; n = k })
    ends-here e t {w} v {k} y = record {
      low = g.low;
      high = g.high;
      same = g.same;
      good = λ z. (
        g.done + end_words g.state,
        here-is ∙ ap (add g.done) (token-ends x d g.state p.mark (here text p.to) (ap (λ b. ends b d) (sym act) ∙ sym e ∙ t) ∙ ap (got_at (end_words g.state)) (sym n'.reads)) ∙ add-got g.done (end_words g.state) (here text i),
        (let q : w ≡ end_words g.state = v ∙ ap end_at g.stage_is ∙ end-state g.state in let u = g.counted in omega arith),
      );
      bad = λ z. yes z;
      tells = ap (λ b. record { ok = true; at = i; n = b }) (y ∙ ap (λ b. count_on L n b) v) ∙ sym (step-ends L text g.most stage d i n e₀ (ap (λ b. ends b d) (sym r) ∙ sym e ∙ t)) ∙ g.tells;
    }

    module _ {c : Bool} (e : c ≡ ends a d) (t : c ≡ false) where
      not-ends : ends (action_of g.state p.mark) d ≡ false
      not-ends = ap (λ b. ends b d) (sym act) ∙ sym e ∙ t

      pub refuses : {b : Bool} → b ≡ refused a → b ≡ true → Scanned L text at (record { ok = false; at = i; n = n })
      refuses f u = record {
        low = g.low;
        high = g.high;
        same = g.same;
        good = λ z. no z;
        bad = λ z. here-is ∙ ap (add g.done) (token-refused x d g.state p.mark (here text p.to) not-ends (ap refused (sym act) ∙ sym f ∙ u));
        tells = sym (step-refused L text g.most stage d i n e₀ (ap (λ b. ends b d) (sym r) ∙ sym e ∙ t) (ap refused (sym r) ∙ sym f ∙ u)) ∙ g.tells;
      }

      module _ {b : Bool} (f : b ≡ refused a) (u : b ≡ false) where
        not-refused : refused (action_of g.state p.mark) ≡ false
        not-refused = ap refused (sym act) ∙ sym f ∙ u

        moved : i < p.to
        moved = n'.moves (λ z. yes (sym (passed x g.state p.mark z) ∙ not-refused))

        pub less : length text - p.to < length text - i
        less = let m = moved in let h = n'.high in omega arith

        pub deep-less : d < length text
        deep-less = let m = moved in let h = n'.high in let s = g.shallow in omega arith

        pub deep-enough : 30 ≤ a → 0 < d
        deep-enough = positive a d e t

        pub goes_on : {k : ℕ} → k ≡ min (L.question + 1) (n + a % 10) → {d'' : ℕ} → d'' ≡ depth_by a d → {s : ℕ} → s ≡ stage_of (state_behind p.mark) → Going s d'' p.to k
        goes_on {k} y {d''} h {s} v = record {
          low = let q = g.low in let m = moved in omega arith;
          high = n'.high;
          shallow = let m = moved in let q = g.shallow in let w = deep a d in omega arith;
          few = omega arith;
          same = g.same ∙ n'.same;
          state = state_behind p.mark;
          stage_is = v;
          done = g.done + a % 10;
          counted = let q = g.counted in omega arith;
          so_far =
              here-is ∙ ap (add g.done) (token-on x d g.state p.mark (here text p.to) not-ends not-refused)
              ∙ add-add g.done (action_of g.state p.mark % 10) (reads (scan (state_behind p.mark) (depth_by (action_of g.state p.mark) d)) (here text p.to))
              ∙ ap₂ (λ w k. add (g.done + w) (reads (scan (state_behind p.mark) k) (here text p.to))) (ap (λ b. b % 10) (sym act)) (ap (λ b. depth_by b d) (sym act) ∙ sym h);
          most = g.most - 1;
          enough = let m = moved in let en = g.enough in let hh = n'.high in omega arith;
          tells =
              same_args L text p.to (let m = moved in let en = g.enough in let hh = n'.high in let q : suc (g.most - 1) ≡ g.most = omega arith in q) v (h ∙ ap (λ b. depth_by b d) r) (y ∙ ap (λ b. count_on L n (b % 10)) r)
              ∙ sym (step-on L text g.most stage d i n e₀ (ap (λ b. ends b d) (sym r) ∙ sym e ∙ t) (ap refused (sym r) ∙ sym f ∙ u)) ∙ g.tells;
        }
