-- Places among chunks: what a search among the chunks finds, what lies from a place on, and what a change of chunks leaves.
use Rattle.std.proofs.Common.{◌≡◌, ⊎_elim, ℕ, suc, ◌+◌, ◌<◌, ◌≤◌, Bool, true, false, List, [], ◌∷◌, ◌++◌, length, get_or, set, take, drop, refl, sym, ap, ◌∙◌, subst, arith}
use Rattle.std.specs.List.{AllWithin, HoldsAt, insert}
use Rattle.std.specs.List.Sorted.{IsPartitionedBy}
use Rattle.std.specs.declared.vec.Vec.{Vec}
use Rattle.std.proofs.Math.Seq.{drop-cons}
use Rattle.std.proofs.lemmas.List.{drop_all, length-append, length-drop, length-take-le, take-append-drop}
use Rattle.std.proofs.lemmas.List.Elements.{at_read}
use Rattle.std.proofs.Math.IntN.{ℤ}
use Rattle.std.specs.Prelude.{◌<ℤ◌, int_le, pos}
use Rattle.geom.proofs.Integers.{linear}
use Rattle.geom.proofs.Tests.{le_yes}
use Rattle.std.proofs.lemmas.Bool.{cases_lt}
use Rattle.label_sweep.specs.declared.status.Place.{Place}
use Rattle.label_sweep.specs.Chunks.{AreChunks, IsPlace, LiesWithin, joined, number_of, opens}
use Rattle.label_sweep.proofs.Chunks.{all_after, all_before, before_more, before_order, behind, cut_filled, cut_joined, cut_some, drop_joined, exchanged, exchanged_filled, exchanged_some, filled_at, inside, none_after, passed_before}
use Rattle.label_sweep.proofs.Members.{some_item}

-- what a search finds
pub record IsFound {X A : Type 0} (p : X → Bool) (chunks : List (Vec X A)) (at : Place) : Type 0 where
  pub place : IsPlace chunks at
  pub within : number_of chunks at ≤ length (joined chunks)
  pub before : AllWithin (λ s. p s ≡ true) (joined chunks) 0 (number_of chunks at)
  pub rest : AllWithin (λ s. p s ≡ false) (joined chunks) (number_of chunks at) (length (joined chunks))

pub below_level : (b : ℤ) → pos 0 <ℤ b → int_le (pos 0) b ≡ true
below_level b h = le_yes (pos 0) b (omega (arith, linear))

module _ {X A : Type 0} where
  -- the chunks whose first edges pass are those up to number k, and of its edges the first w pass
  pub found : (p : X → Bool) (chunks : List (Vec X A)) → IsPartitionedBy p (joined chunks) → AreChunks chunks → (k w : ℕ) (c : Vec X A) → k < length chunks → c ≡ get_or chunks k c
      → AllWithin (λ c. opens p c.items ≡ true) (drop 1 chunks) 0 k → AllWithin (λ c. opens p c.items ≡ false) (drop 1 chunks) k (length (drop 1 chunks))
      → w ≤ length c.items → AllWithin (λ s. p s ≡ true) c.items 0 w → AllWithin (λ s. p s ≡ false) c.items w (length c.items)
      → IsFound p chunks (record { chunk = k; within = w })
  found p chunks parted are k w c h is low high l steep flat = let r = inside (λ (c : Vec X A). c.items) p chunks parted are.filled k c h is in record {
    place = record {
      chunk = h;
      within = at_read chunks (λ (c : Vec X A). w ≤ length c.items) k c h is l;
      behind_first = behind (λ (c : Vec X A). c.items) p chunks parted are.filled k c h is low high w l steep flat;
    };
    within = omega (arith, r, l);
    before = all_before (λ (c : Vec X A). c.items) p chunks parted are.filled k c h is low high w l steep flat;
    rest = all_after (λ (c : Vec X A). c.items) p chunks parted are.filled k c h is low high w l steep flat;
  }

  -- from a place before which all pass, the chunk's edges pass up to number w
  pub found_from : (p : X → Bool) (chunks : List (Vec X A)) → IsPartitionedBy p (joined chunks) → AreChunks chunks → (low : Place) → IsPlace chunks low → AllWithin (λ s. p s ≡ true) (joined chunks) 0 (number_of chunks low)
      → (c : Vec X A) → c ≡ get_or chunks low.chunk c → (w : ℕ) → low.within ≤ w → w < length c.items → AllWithin (λ s. p s ≡ true) c.items low.within w → HoldsAt (λ s. p s ≡ false) c.items w
      → IsFound p chunks (record { chunk = low.chunk; within = w })
  found_from p chunks parted are low l all c is w o n here past = let r = inside (λ (c : Vec X A). c.items) p chunks parted are.filled low.chunk c l.chunk is in record {
    place = record {
      chunk = l.chunk;
      within = at_read chunks (λ (c : Vec X A). w ≤ length c.items) low.chunk c l.chunk is (omega (arith, n));
      behind_first = λ m. let a = l.behind_first m in omega (arith, a, o);
    };
    within = omega (arith, r, n);
    before = passed_before (λ (c : Vec X A). c.items) p chunks parted are.filled low.chunk c l.chunk is low.within w all (omega (arith, n)) here;
    rest = none_after (λ (c : Vec X A). c.items) p chunks parted are.filled low.chunk c l.chunk is w n past;
  }

  pub chunk_inside : (chunks : List (Vec X A)) (k : ℕ) → 0 < length chunks → k ≤ length (drop 1 chunks) → k < length chunks
  chunk_inside [] k h l = absurd (omega arith)
  chunk_inside (c ∷ chunks) k h l = omega arith

  -- ---- what lies from a place on
  -- from an item of a chunk on
  pub from_here : (chunks : List (Vec X A)) (k n : ℕ) (c : Vec X A) (x : X) → k < length chunks → c ≡ get_or chunks k c → n < length c.items → x ≡ get_or c.items n x
      → drop (length (joined (take k chunks)) + n) (joined chunks) ≡ x ∷ (drop (suc n) c.items ++ joined (drop (suc k) chunks))
  from_here chunks k n c x h is l e =
      let rest : List X = joined (drop (suc k) chunks) in
      let P : Vec X A → Type 0 = λ y. n ≤ length y.items in
      let there : n ≤ length (get_or chunks k c).items = subst P is (omega (arith, l)) in
      drop_joined (λ (c : Vec X A). c.items) chunks k n c h there ∙ ap (λ (y : Vec X A). drop n y.items ++ rest) (sym is) ∙ ap (λ t. t ++ rest) (drop-cons c.items n x l)
      ∙ ap (λ (y : X). y ∷ (drop (suc n) c.items ++ rest)) (sym e)

  -- from the end of a chunk on
  pub from_next : (chunks : List (Vec X A)) (k n : ℕ) (c b : Vec X A) → suc k < length chunks → c ≡ get_or chunks k c → n ≤ length c.items → length c.items ≤ n
      → b ≡ get_or chunks (k + 1) b → drop (length (joined (take k chunks)) + n) (joined chunks) ≡ b.items ++ joined (drop (suc (suc k)) chunks)
  from_next chunks k n c b h is l m at =
      let one : k + 1 ≡ suc k = omega arith in
      let e : b ≡ get_or chunks (suc k) b = at ∙ ap (λ i. get_or chunks i b) one in
      let rest : List X = joined (drop (suc (suc k)) chunks) in
      let P : Vec X A → Type 0 = λ y. n ≤ length y.items in
      let there : n ≤ length (get_or chunks k c).items = subst P is l in
      drop_joined (λ (c : Vec X A). c.items) chunks k n c (omega (arith, h)) there ∙ ap (λ (y : Vec X A). drop n y.items ++ joined (drop (suc k) chunks)) (sym is)
      ∙ ap (λ t. t ++ joined (drop (suc k) chunks)) (drop_all n c.items m) ∙ ap joined (drop-cons chunks (suc k) b h) ∙ ap (λ (y : Vec X A). y.items ++ rest) (sym e)

  -- a chunk after another one is not empty
  pub next_filled : (chunks : List (Vec X A)) → AreChunks chunks → (k : ℕ) (b : Vec X A) → suc k < length chunks → b ≡ get_or chunks (k + 1) b → 0 < length b.items
  next_filled chunks are k b h at =
      let one : k + 1 ≡ suc k = omega arith in
      let Q : Vec X A → Type 0 = λ y. 0 < length y.items in
      subst Q (sym (at ∙ ap (λ i. get_or chunks i b) one)) (filled_at (λ (c : Vec X A). c.items) chunks are.filled k b h)

  -- ---- places by their numbers
  pub places_in_order : (chunks : List (Vec X A)) → AreChunks chunks → (low high : Place) → IsPlace chunks low → IsPlace chunks high → number_of chunks low ≤ number_of chunks high → low.chunk ≤ high.chunk
  places_in_order chunks are low high l h o = ⊎_elim (λ m. absurd (clash m)) (λ m. m) (cases_lt high.chunk low.chunk)
    where
      clash : high.chunk < low.chunk → ⊥
      clash m =
          let d = some_item chunks 0 are.some in
          let a = l.behind_first (omega (arith, m)) in
          let b = h.within d in
          let e = before_more (λ (c : Vec X A). c.items) chunks high.chunk d h.chunk in
          let f = before_order (λ (c : Vec X A). c.items) chunks (suc high.chunk) low.chunk (omega (arith, m)) in
          omega (arith, a, b, e, f, o)

  -- ---- changes
  pub replaced : (chunks : List (Vec X A)) (low high : Place) (b c y : Vec X A) (fresh rest : List X) → low.chunk ≤ high.chunk → LiesWithin chunks low → LiesWithin chunks high
      → b ≡ get_or chunks low.chunk b → c ≡ get_or chunks high.chunk c → y.items ≡ take low.within b.items ++ fresh ++ rest → rest ≡ drop high.within c.items
      → joined (take (low.chunk + 1) (set chunks low.chunk y) ++ drop (high.chunk + 1) (set chunks low.chunk y)) ≡ take (number_of chunks low) (joined chunks) ++ fresh ++ drop (number_of chunks high) (joined chunks)
  replaced chunks low high b c y fresh rest o l h e g made left =
      let to : y.items ≡ take low.within (get_or chunks low.chunk b).items ++ fresh ++ drop high.within (get_or chunks high.chunk c).items =
      made ∙ ap (λ t. take low.within b.items ++ fresh ++ t) left ∙ ap (λ (v : Vec X A). take low.within v.items ++ fresh ++ drop high.within c.items) e
      ∙ ap (λ (v : Vec X A). take low.within (get_or chunks low.chunk b).items ++ fresh ++ drop high.within v.items) g in
      let p : low.chunk + 1 ≡ suc low.chunk = omega arith in
      let q : high.chunk + 1 ≡ suc high.chunk = omega arith in
      ap (λ i. joined (take i (set chunks low.chunk y) ++ drop (high.chunk + 1) (set chunks low.chunk y))) p ∙ ap (λ i. joined (take (suc low.chunk) (set chunks low.chunk y) ++ drop i (set chunks low.chunk y))) q
      ∙ exchanged (λ (c : Vec X A). c.items) chunks low.chunk high.chunk low.within high.within y b c fresh o h.chunk (l.within b) (h.within c) to

  pub replaced_chunks : (chunks : List (Vec X A)) (low high : Place) (b y : Vec X A) (fresh rest : List X) → AreChunks chunks → low.chunk ≤ high.chunk → IsPlace chunks low
      → b ≡ get_or chunks low.chunk b → y.items ≡ take low.within b.items ++ fresh ++ rest → AreChunks (take (low.chunk + 1) (set chunks low.chunk y) ++ drop (high.chunk + 1) (set chunks low.chunk y))
  replaced_chunks chunks low high b y fresh rest are o l e made =
      let p : suc low.chunk ≡ low.chunk + 1 = omega arith in
      let q : suc high.chunk ≡ high.chunk + 1 = omega arith in
      subst (λ i. AreChunks (take i (set chunks low.chunk y) ++ drop (high.chunk + 1) (set chunks low.chunk y))) p (subst (λ i. AreChunks (take (suc low.chunk) (set chunks low.chunk y) ++ drop i (set chunks low.chunk y))) q
      (record {
        some = exchanged_some (λ (c : Vec X A). c.items) chunks low.chunk high.chunk y are.some;
        filled = exchanged_filled (λ (c : Vec X A). c.items) (λ (c : Vec X A). 0 < length c.items) chunks low.chunk high.chunk y o some are.filled;
      }))
    where
      some : 0 < low.chunk → 0 < length y.items
      some m =
          let P : Vec X A → Type 0 = λ v. low.within ≤ length v.items in
          let a = l.behind_first m in
          let w : low.within ≤ length b.items = subst P (sym e) (l.within b) in
          let long = length-append (take low.within b.items) fresh in
          let longer = length-append (take low.within b.items ++ fresh) rest in
          let taken = length-take-le low.within b.items w in
          let all = ap length made in
          omega (arith, a, w, long, longer, taken, all)

  pub overwritten : (chunks : List (Vec X A)) (low high : Place) (b y : Vec X A) (fresh : List X) → low.chunk ≡ high.chunk → LiesWithin chunks low → LiesWithin chunks high
      → b ≡ get_or chunks low.chunk b → y.items ≡ take low.within b.items ++ fresh ++ drop high.within b.items → joined (set chunks low.chunk y) ≡ take (number_of chunks low) (joined chunks) ++ fresh ++ drop (number_of chunks high) (joined chunks)
  overwritten chunks low high b y fresh s l h e made =
      let all : List (Vec X A) = set chunks low.chunk y in
      let there : b ≡ get_or chunks high.chunk b = let P : ℕ → Type 0 = λ i. b ≡ get_or chunks i b in subst P s e in
      let P : ℕ → Type 0 = λ i. joined (take (low.chunk + 1) all ++ drop (i + 1) all) ≡ take (number_of chunks low) (joined chunks) ++ fresh ++ drop (number_of chunks high) (joined chunks) in
      ap joined (sym (take-append-drop (low.chunk + 1) all)) ∙ subst P (sym s) (replaced chunks low high b b y fresh (drop high.within b.items) (omega (arith, s)) l h e there made refl)

  pub overwritten_chunks : (chunks : List (Vec X A)) (low high : Place) (b y : Vec X A) (fresh : List X) → AreChunks chunks → low.chunk ≡ high.chunk → IsPlace chunks low
      → b ≡ get_or chunks low.chunk b → y.items ≡ take low.within b.items ++ fresh ++ drop high.within b.items → AreChunks (set chunks low.chunk y)
  overwritten_chunks chunks low high b y fresh are s l e made =
      let all : List (Vec X A) = set chunks low.chunk y in
      let P : ℕ → Type 0 = λ i. AreChunks (take (low.chunk + 1) all ++ drop (i + 1) all) in
      let Q : List (Vec X A) → Type 0 = AreChunks in
      subst Q (take-append-drop (low.chunk + 1) all) (subst P (sym s) (replaced_chunks chunks low high b y fresh (drop high.within b.items) are (omega (arith, s)) l e made))

  pub split_joined : (chunks : List (Vec X A)) (at keep : ℕ) (c y z : Vec X A) → at < length chunks → c ≡ get_or chunks at c → y.items ≡ take keep c.items → z.items ≡ drop keep c.items
      → joined (insert (set chunks at y) (at + 1) z) ≡ joined chunks
  split_joined chunks at keep c y z h is e g =
      let p : at + 1 ≡ suc at = omega arith in
      let whole : y.items ++ z.items ≡ (get_or chunks at c).items = ap (λ t. t ++ z.items) e ∙ ap (λ t. take keep c.items ++ t) g ∙ take-append-drop keep c.items ∙ ap (λ (v : Vec X A). v.items) is in
      ap (λ i. joined (insert (set chunks at y) i z)) p ∙ cut_joined (λ (c : Vec X A). c.items) chunks at y z c h whole

  pub split_chunks : (chunks : List (Vec X A)) (at keep : ℕ) (c y z : Vec X A) → AreChunks chunks → at < length chunks → c ≡ get_or chunks at c → 0 < keep → keep < length c.items
      → y.items ≡ take keep c.items → z.items ≡ drop keep c.items → AreChunks (insert (set chunks at y) (at + 1) z)
  split_chunks chunks at keep c y z are h is k l e g =
      let p : suc at ≡ at + 1 = omega arith in
      let taken = length-take-le keep c.items (omega (arith, l)) in
      let left = length-drop keep c.items in
      let a = ap length e in
      let b = ap length g in
      subst (λ i. AreChunks (insert (set chunks at y) i z)) p (record {
        some = cut_some (λ (c : Vec X A). c.items) chunks at y z are.some;
        filled = cut_filled (λ (c : Vec X A). c.items) (λ (c : Vec X A). 0 < length c.items) chunks at y z h (omega (arith, taken, a, k)) (omega (arith, left, b, l)) are.filled;
      })
