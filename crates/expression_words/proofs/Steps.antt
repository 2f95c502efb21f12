-- The loop over the bytes of an expression, from the last to the first.
use Prim.Native.Nat.{ℕ, zero, suc, ◌+◌, ◌-◌, ◌*◌, ◌<◌, ◌≤◌}
use native.Mathlib.Omega.{arith}
use mathlib.Core.Path.{◌≡◌, refl, sym, ap, ap₂, ◌∙◌, subst}
use mathlib.Core.Bool.{Bool, true, false, not}
use mathlib.Core.List.{List, [], ◌∷◌}
use lib.ListN.{length, take, drop, get_or, length-drop, drop_of_length-le}
use lib.Seq.{drop-cons}
use borrow.Author.Tests.{not-true, not-false}
use Rattle.language.specs.Limits.{Limits}
use Rattle.language.specs.Kinds.{pick}
use Rattle.language.specs.Between.{between}
use Rattle.language.proofs.Offsets.{between_cons}
use Rattle.grammar.specs.Tokens.{name_byte, begins_name, name_token}
use Rattle.texts.specs.Numbering.{Naming}
use Rattle.lexing.specs.declared.Mark.{Mark}
use Rattle.lexing.specs.declared.Mark.TheVariants.{Opens}
use Rattle.lexing.specs.Bytes.{name_from, mark_of}
use Rattle.text_names.specs.Shelves.{numbering, Shelves}
use Rattle.flat.specs.Filling.{operand_on, item_on, released, turn}
use Rattle.backwards.specs.Backward.{one-if, owed_in, taken, marked, weight}
use Rattle.backwards.proofs.Weight.{Tidy, Heavy, few-frames, released-weight, length-item}
use Rattle.expression_words.specs.declared.Fill.{Fill}
use Rattle.expression_words.specs.Seen.{code_of, frames_in, seen, owing, inside_owed, operand_in, Laid, Space, Marked, Named, NameSpace, NameTaken, part, whole, Expression}
use Rattle.expression_words.proofs.Laying.{laid-place}
use Rattle.expression_words.proofs.Parts.{part-name, part-mark, part_end, part-tidy, part-whole, depth-taken, good-taken, good-marked}

-- ---- what the weight of a state says of its places

length-frames : (ds cs : List ℕ) (k : ℕ) → length (frames_in ds cs k) ≡ k
length-frames ds cs zero = refl
length-frames ds cs (suc k) = ap suc (length-frames ds cs k)

owing-fits : (s : Fill) (room ds cs : List ℕ) → s.at ≤ length room → weight (seen s room ds cs) ≤ length room → (owing s + owed_in (frames_in ds cs s.frames) ≤ s.at)
unfolding seen weight
owing-fits s room ds cs h w = let d = length-drop s.at room in omega arith

opens-fits : (ρ : Naming) (s : Fill) (room ds cs : List ℕ) → s.at ≤ length room → weight (marked ρ Opens (seen s room ds cs)) ≤ length room → inside_owed s ≤ s.at
unfolding seen
opens-fits ρ s room ds cs h w = on s.bare refl
  where
    on : (b : Bool) → s.bare ≡ b → pick b 1 (owing s) ≤ s.at
    on true e =
        let z = released-weight (7000 ∷ drop s.at room) (s.depth - 1) (frames_in ds cs s.frames) in
        let y = subst (λ b. weight (released (pick b (7000 ∷ drop s.at room) (item_on (seen s room ds cs))) (s.depth - 1) (frames_in ds cs s.frames)) ≤ length room) e w in
        let d = length-drop s.at room in
        omega arith
    on false e =
        let z = released-weight (item_on (seen s room ds cs)) (s.depth - 1) (frames_in ds cs s.frames) in
        let y = subst (λ b. weight (released (pick b (7000 ∷ drop s.at room) (item_on (seen s room ds cs))) (s.depth - 1) (frames_in ds cs s.frames)) ≤ length room) e w in
        let l = length-item (seen s room ds cs) in
        let d = length-drop s.at room in
        omega arith

name-fits : (ρ : Naming) (n : ℕ) (s : Fill) (room ds cs : List ℕ) → s.at ≤ length room → weight (turn ρ (name_token n) (seen s room ds cs)) ≤ length room → one-if (not s.functor) + 1 ≤ s.at
unfolding seen weight
name-fits ρ n s room ds cs h w = on s.functor refl
  where
    on : (b : Bool) → s.functor ≡ b → one-if (not b) + 1 ≤ s.at
    on true e = let d = length-drop s.at room in let z = ap (λ b. length (pick b (drop s.at room) (7000 ∷ drop s.at room))) e in omega arith
    on false e = let d = length-drop s.at room in let z = ap (λ b. length (pick b (drop s.at room) (7000 ∷ drop s.at room))) e in omega arith

code-owing : (s : Fill) → (code_of s.stars s.operand s.item ≡ 0 → ⊥) → 1 ≤ owing s
code-owing s n = on s.stars s.operand s.item n
  where
    on : (k : ℕ) (o i : Bool) → (code_of k o i ≡ 0 → ⊥) → 1 ≤ k + one-if o + one-if i
    on k true i n = omega arith
    on k false true n = omega arith
    on (suc k) false false n = omega arith
    on zero false false n = absurd (n refl)

-- ---- the name that stands first

name-in-part : (text : List ℕ) (to : ℕ) → to ≤ length text → begins_name (drop to text) ≡ false → (k at : ℕ) → at + k ≡ to → name_from (between at to text) ≡ name_from (drop at text)
unfolding name_from
name-in-part text to h e zero at p =
    ap (λ n. name_from (take n (drop at text))) (let z : to - at ≡ 0 = omega arith in z)
    ∙ sym (ap (λ n. name_from (drop n text)) (let z : at ≡ to = omega arith in z) ∙ none (drop to text) e)
  where
    none : (bs : List ℕ) → begins_name bs ≡ false → name_from bs ≡ 0
    none [] e = refl
    none (b ∷ bs) e = rw e
name-in-part text to h e (suc k) at p =
    ap name_from (between_cons at to text (omega arith) h)
    ∙ ap (λ n. pick (name_byte (get_or text at 0)) (get_or text at 0 + 256 * n) 0) (name-in-part text to h e k (at + 1) (omega arith))
    ∙ ap (λ n. pick (name_byte (get_or text at 0)) (get_or text at 0 + 256 * name_from (drop n text)) 0) (let z : at + 1 ≡ suc at = omega arith in z)
    ∙ sym (ap name_from (drop-cons text at 0 (omega arith)))

begins-here : (text : List ℕ) (at to : ℕ) → at < to → to ≤ length text → begins_name (between at to text) ≡ name_byte (get_or text at 0)
begins-here text at to p h = ap begins_name (between_cons at to text p h)

begins-none : (text : List ℕ) (at to : ℕ) → at ≡ to → begins_name (between at to text) ≡ false
begins-none text at to e = ap (λ n. begins_name (take n (drop at text))) (let z : to - at ≡ 0 = omega arith in z)

module _ {L : Limits} {text names : List ℕ} {at to : ℕ} {s : Fill} {room : List ℕ} (n : NameSpace L text names at to s room) where
  pub none-taken : at ≡ to → NameTaken L text names at to s room s room
  none-taken e = record {
    high = n.place;
    len = refl;
    frames = refl;
    same = λ ds cs. sym (ap (λ b. pick b (turn (numbering L text names) (name_token (name_from (between at to text))) (seen s room ds cs)) (seen s room ds cs)) (begins-none text at to e));
  }

  pub other-taken : (at ≡ to → ⊥) → {b : Bool} → b ≡ name_byte (get_or text at 0) → b ≡ false → NameTaken L text names at to s room s room
  other-taken z {b} e f = record {
    high = n.place;
    len = refl;
    frames = refl;
    same = λ ds cs.
        let l = n.low in
        sym (ap (λ b. pick b (turn (numbering L text names) (name_token (name_from (between at to text))) (seen s room ds cs)) (seen s room ds cs)) (begins-here text at to (omega arith) n.high ∙ sym e ∙ f));
  }

  pub within : (at ≡ to → ⊥) → at < length text
  within z = let l = n.low in let h = n.high in omega arith

  pub name-space : (at ≡ to → ⊥) → {b : Bool} → b ≡ name_byte (get_or text at 0) → b ≡ true → one-if (not s.functor) + 1 ≤ s.at
  name-space z {b} e f = let l = n.low in n.enough (begins-here text at to (omega arith) n.high ∙ sym e ∙ f)

  pub name-taken : (at ≡ to → ⊥) → {b : Bool} → b ≡ name_byte (get_or text at 0) → b ≡ true → {r : Fill} {room' : List ℕ} → Named L text names at s room r room' → NameTaken L text names at to s room r room'
  name-taken z {b} e f {r} {room'} d = record {
    high = d.high;
    len = d.len;
    frames = d.frames;
    same = λ ds cs.
        let l = n.low in
        d.same ds cs
        ∙ ap (λ k. turn (numbering L text names) (name_token k) (seen s room ds cs)) (sym (name-in-part text to n.high n.ends (to - at) at (omega arith)))
        ∙ sym (ap (λ b. pick b (turn (numbering L text names) (name_token (name_from (between at to text))) (seen s room ds cs)) (seen s room ds cs)) (begins-here text at to (omega arith) n.high ∙ sym e ∙ f));
  }

-- ---- the loop

module _ (L : Limits) (text names : List ℕ) (at to : ℕ) (room₀ ds₀ cs₀ : List ℕ) where
  abbrev ρ : Naming
  ρ = numbering L text names

  pub record Going (i : ℕ) (s : Fill) (room ds cs : List ℕ) : Type 0 where
    pub shelves : Shelves L names
    pub expression : Expression (numbering L text names) text at to room₀
    pub short : length room₀ ≤ L.question + 1
    pub deep : length room₀ ≤ length ds₀
    pub wide : length room₀ ≤ length cs₀
    pub low : at ≤ i
    pub high : i ≤ to
    pub place : s.at ≤ length room
    pub len : length room ≡ length room₀
    pub len-ds : length ds ≡ length ds₀
    pub len-cs : length cs ≡ length cs₀
    pub same : seen s room ds cs ≡ part (numbering L text names) text i to

  abbrev empty : ℕ → Fill
  empty n = record { at = n; stars = 0; operand = false; item = false; functor = false; bare = false; depth = 0; frames = 0 }

  pub going-starts : Shelves L names × Expression (numbering L text names) text at to room₀ × (length room₀ ≤ L.question + 1) × (length room₀ ≤ length ds₀) × (length room₀ ≤ length cs₀)
      → Going to (record { at = length room₀; stars = 0; operand = false; item = false; functor = false; bare = false; depth = 0; frames = 0 }) room₀ ds₀ cs₀
  unfolding seen
  going-starts p = record {
    shelves = p.0;
    expression = p.1;
    short = p.2;
    deep = p.3;
    wide = p.4;
    low = p.1.low;
    high = omega arith;
    place = omega arith;
    len = refl;
    len-ds = refl;
    len-cs = refl;
    same =
        ap (λ ws. record { words = ws; stars = 0; operand = false; item = false; functor = false; bare = false; depth = 0; owed = [] }) (drop_of_length-le room₀ (let z : length room₀ ≤ length room₀ = omega arith in z))
        ∙ sym (part_end ρ text to p.1.high);
  }

  module _ {i : ℕ} {s : Fill} {room ds cs : List ℕ} (g : Going i s room ds cs) where
    e : Expression ρ text at to room₀
    e = g.expression

    weight-here : weight (part ρ text i to) ≤ length room
    weight-here = let a = part-whole ρ text to e.high at i g.low g.high in let b = e.fits in let l = g.len in omega arith

    -- a name at the place where the loop stands
    weight-taken : (j : ℕ) → at ≤ j → j < i → i ≡ j + 1 → name_byte (get_or text j 0) ≡ false → weight (taken ρ (between i to text) (part ρ text i to)) ≤ length room
    weight-taken j p q z f =
        let h = g.high in
        let w = part-whole ρ text to e.high at j p (omega arith) in
        let t = part-tidy ρ text to e.high i h in
        let m = part-mark ρ text to e.high j (omega arith) f in
        let a = good-taken ρ (between i to text) (part ρ text i to) in
        let b = good-marked ρ (mark_of (get_or text j 0)) (taken ρ (between (j + 1) to text) (part ρ text (j + 1) to)) in
        let c = subst (λ k. Tidy (taken ρ (between k to text) (part ρ text k to))) z (a.tidied t.0) in
        let d = b.grows c in
        let x = ap weight m in
        let y = e.fits in
        let l = g.len in
        let v : weight (taken ρ (between i to text) (part ρ text i to)) ≡ weight (taken ρ (between (j + 1) to text) (part ρ text (j + 1) to)) = ap (λ k. weight (taken ρ (between k to text) (part ρ text k to))) z in
        omega arith

    name-at : weight (taken ρ (between i to text) (part ρ text i to)) ≤ length room → NameSpace L text names i to s room
    name-at w = record {
      low = g.high;
      high = e.high;
      ends = e.ends;
      shelves = g.shelves;
      place = g.place;
      enough = λ b. name-fits ρ (name_from (between i to text)) s room ds cs g.place
          (subst (λ f. weight (turn ρ (name_token (name_from (between i to text))) f) ≤ length room) (sym g.same)
          (subst (λ b. weight (pick b (turn ρ (name_token (name_from (between i to text))) (part ρ text i to)) (part ρ text i to)) ≤ length room) b w));
    }

    -- behind the loop: the name that stands first
    pub last_name : i ≤ at → NameSpace L text names at to s room
    last_name p = let l = g.low in let z : i ≡ at = omega arith in subst (λ k. NameSpace L text names k to s room) z (name-at (subst (λ k. weight (taken ρ (between k to text) (part ρ text k to)) ≤ length room) (sym z) (let y = e.fits in let n = g.len in omega arith)))

    module _ {r : Fill} {room' : List ℕ} (p : i ≤ at) (t : NameTaken L text names at to s room r room') where
      all_seen : seen r room' ds cs ≡ whole ρ text at to
      all_seen = t.same ds cs ∙ ap (taken ρ (between at to text)) (g.same ∙ ap (λ k. part ρ text k to) (let l = g.low in let z : i ≡ at = omega arith in z))

      operand-seen : (x : Fill) (rm : List ℕ) → operand_in x rm ≡ operand_on (seen x rm ds cs)
      unfolding seen
      operand-seen x rm = refl

      pub last-operand : (r.stars + one-if r.operand ≤ r.at) × (r.at ≤ length room')
      last-operand =
          let h = t.high in
          let n = t.len in
          let w = ap weight all_seen in
          let y = e.fits in
          let l = g.len in
          let o = owing-fits r room' ds cs (omega arith) (omega arith) in
          (omega arith, omega arith)

      pub all_laid : {k : ℕ} {room'' : List ℕ} → Laid room' (operand_in r room') k room'' → (room'' ≡ operand_on (whole (numbering L text names) text at to)) × (length ds ≡ length ds₀) × (length cs ≡ length cs₀)
      all_laid {k} {room''} l =
          let o = operand-seen r room' ∙ ap operand_on all_seen in
          let q = laid-place l in
          let a = ap length o in
          let b = e.long in
          let n = t.len in
          let m = g.len in
          let z : k ≡ 0 = omega arith in
          (ap (λ j. drop j room'') (sym z) ∙ l.words ∙ o, g.len-ds, g.len-cs)

    -- ---- one byte

    module _ (p : at < i) where
      pub byte-within : i - 1 < length text
      byte-within = let h = g.high in let x = e.high in omega arith

      abbrev j : ℕ
      j = i - 1

      back_one : i ≡ i - 1 + 1
      back_one = omega arith

      pub name-byte : {b : Bool} → b ≡ name_byte (get_or text (i - 1) 0) → not b ≡ false → Going (i - 1) s room ds cs
      name-byte {b} q f = record {
        shelves = g.shelves;
        expression = g.expression;
        short = g.short;
        deep = g.deep;
        wide = g.wide;
        low = omega arith;
        high = let h = g.high in omega arith;
        place = g.place;
        len = g.len;
        len-ds = g.len-ds;
        len-cs = g.len-cs;
        same = g.same ∙ ap (λ k. part ρ text k to) back_one ∙ sym (part-name ρ text to e.high (i - 1) (let h = g.high in omega arith) (sym q ∙ not-false b f));
      }

      module _ {b : Bool} (q : b ≡ name_byte (get_or text (i - 1) 0)) (f : not b ≡ true) where
        no_name : name_byte (get_or text (i - 1) 0) ≡ false
        no_name = sym q ∙ not-true b f

        pub name-behind : NameSpace L text names i to s room
        name-behind = name-at (weight-taken (i - 1) (omega arith) (omega arith) back_one no_name)

        module _ {r : Fill} {room' : List ℕ} (t : NameTaken L text names i to s room r room') where
          seen-behind : seen r room' ds cs ≡ taken ρ (between i to text) (part ρ text i to)
          seen-behind = t.same ds cs ∙ ap (taken ρ (between i to text)) g.same

          step : part ρ text (i - 1) to ≡ marked ρ (mark_of (get_or text (i - 1) 0)) (taken ρ (between i to text) (part ρ text i to))
          step = part-mark ρ text to e.high (i - 1) (let h = g.high in omega arith) no_name ∙ ap (λ k. marked ρ (mark_of (get_or text (i - 1) 0)) (taken ρ (between k to text) (part ρ text k to))) (sym back_one)

          pub mark-space : {m : Mark} → m ≡ mark_of (get_or text (i - 1) 0) → Space L m r room' ds cs (length text)
          unfolding seen
          mark-space {m} d =
              let h = t.high in
              let n = t.len in
              let wt : weight (seen r room' ds cs) ≤ length room' = let x = ap weight seen-behind in let y = weight-taken (i - 1) (omega arith) (omega arith) back_one no_name in omega arith in
              let o = owing-fits r room' ds cs (omega arith) wt in
              let hv : Heavy (frames_in ds cs r.frames) = frames-heavy in
              let ff = few-frames (frames_in ds cs r.frames) hv in
              let lf = length-frames ds cs r.frames in
              let lr = g.len in
              let l₁ = g.len-ds in
              let l₂ = g.len-cs in
              let d₁ = g.deep in
              let d₂ = g.wide in
              let sh = g.short in
              record {
                high = omega arith;
                short = omega arith;
                enough = omega arith;
                inside = λ z. opens-fits ρ r room' ds cs (omega arith) (opened (d) z);
                depth = deep-enough;
                few = (omega arith, omega arith);
                another = λ c. let w = code-owing r c in (omega arith, omega arith);
              }
            where
              frames-heavy : Heavy (frames_in ds cs r.frames)
              frames-heavy = subst (λ x. Heavy x.owed) (sym seen-behind) ((good-taken ρ (between i to text) (part ρ text i to)).heavies (part-tidy ρ text to e.high i g.high).1)

              opened : m ≡ mark_of (get_or text (i - 1) 0) → m ≡ Opens → weight (marked ρ Opens (seen r room' ds cs)) ≤ length room'
              opened d z =
                  let a = part-whole ρ text to e.high at (i - 1) (omega arith) (let h = g.high in omega arith) in
                  let x = ap weight (step ∙ ap₂ (λ k y. marked ρ k y) (sym d ∙ z) (sym seen-behind)) in
                  let y = e.fits in
                  let n = t.len in
                  let l = g.len in
                  omega arith

              deep-enough : r.depth < length text
              deep-enough =
                  let x = ap (λ y. y.depth) seen-behind in
                  let c = depth-taken ρ (between i to text) (part ρ text i to) in
                  let v = (part-tidy ρ text to e.high i g.high).2 in
                  let h = e.high in
                  omega arith

          pub mark-byte : {m : Mark} → m ≡ mark_of (get_or text (i - 1) 0) → {r' : Fill} {room'' ds' cs' : List ℕ} → Marked m r room' ds cs r' room'' ds' cs' → Going (i - 1) r' room'' ds' cs'
          mark-byte {m} d {r'} {room''} {ds'} {cs'} k = record {
            shelves = g.shelves;
            expression = g.expression;
            short = g.short;
            deep = g.deep;
            wide = g.wide;
            low = omega arith;
            high = let h = g.high in omega arith;
            place = let h = k.high in let l = k.len in omega arith;
            len = k.len ∙ t.len ∙ g.len;
            len-ds = k.len-depths ∙ g.len-ds;
            len-cs = k.len-owed ∙ g.len-cs;
            same = k.same ρ ∙ ap₂ (marked ρ) d seen-behind ∙ sym step;
          }
