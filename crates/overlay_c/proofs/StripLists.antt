-- What is in place: each item, and all pairs of items; and what the items of a list tell of what was told.
use Rattle.std.proofs.Common.{◌≡◌, ◌<◌, ◌+◌, ◌-◌, ℕ, suc, zero, List, arith, get_or, length, map, subst, sym}
use Rattle.std.proofs.Math.IntN.{ℤ}
use Rattle.std.specs.Prelude.{◌≤ℤ◌, All, AllPairs}
use Rattle.std.proofs.lemmas.List.{get_or-map, length-map}
use Rattle.geom.proofs.Integers.{linear}
use Rattle.geom.specs.Limit.{AreInLimit}
use Rattle.strips_law.specs.declared.line.Line.{Line}
use Rattle.strips_law.specs.Strips.{AreOrdered}
use Rattle.overlay_c.specs.declared.strip_items.OverlayLine.{OverlayLine}
use Rattle.overlay_c.specs.Strips.{AreInPlace, AreStripLines, IsCut, IsCutBefore, IsLine, IsLineBefore, IsStripLine, told_line}

-- ---- in place
module _ {X : Type 0} (IsItem : X → Type 0) (Before : X → X → Type 0) (items : List X) (h : AreInPlace IsItem Before items) where
  pub each_item : All IsItem items
  each_item k d inside = (h k inside).is_item d

  module _ (trans : (x y z : X) → Before x y → Before y z → Before x z) where
    next : (j : ℕ) (d : X) → j + 1 < length items → Before (get_or items j d) (get_or items (j + 1) d)
    next j d inside =
        let e : j + 1 - 1 ≡ j = omega arith in
        subst (λ (k : ℕ). Before (get_or items k d) (get_or items (j + 1) d)) e ((h (j + 1) inside).behind d (omega arith))

    further : (n i : ℕ) (d : X) → i + 1 + n < length items → Before (get_or items i d) (get_or items (i + 1 + n) d)
    further zero i d inside =
        let e : i + 1 ≡ i + 1 + 0 = omega arith in
        subst (λ (k : ℕ). Before (get_or items i d) (get_or items k d)) e (next i d (omega (arith, inside)))
    further (suc n) i d inside =
        let e : i + 1 + n + 1 ≡ i + 1 + suc n = omega arith in
        subst (λ (k : ℕ). Before (get_or items i d) (get_or items k d)) e (trans _ _ _ (further n i d (omega (arith, inside))) (next (i + 1 + n) d (omega (arith, inside))))

    pub all_pairs : AllPairs Before items
    all_pairs i j d less inside =
        let e : i + 1 + (j - (i + 1)) ≡ j = omega (arith, less) in
        subst (λ (k : ℕ). Before (get_or items i d) (get_or items k d)) e (further (j - (i + 1)) i d (omega (arith, less, inside)))

-- ---- what was told
module _ {X Y : Type 0} (f : X → Y) (xs : List X) where
  pub unmapped : (P : Y → Type 0) → All P (map f xs) → All (λ x. P (f x)) xs
  unmapped P h k d inside = subst P (get_or-map f xs k d (f d) inside) (h k (f d) (subst (λ (n : ℕ). k < n) (sym (length-map xs f)) inside))

  pub unmapped_pairs : (R : Y → Y → Type 0) → AllPairs R (map f xs) → AllPairs (λ x y. R (f x) (f y)) xs
  unmapped_pairs R h i j d less inside =
      subst (λ (y : Y). R y (f (get_or xs j d))) (get_or-map f xs i d (f d) (omega (arith, less, inside)))
      (subst (λ (y : Y). R (get_or (map f xs) i (f d)) y) (get_or-map f xs j d (f d) inside) (h i j (f d) less (subst (λ (n : ℕ). j < n) (sym (length-map xs f)) inside)))

-- ---- the lines of a strip
cut_trans : (x y z : ℤ) → x ≤ℤ y → y ≤ℤ z → x ≤ℤ z
cut_trans x y z a b = omega (arith, linear)

module _ (cuts : List ℤ) (strip : ℕ) (items : List OverlayLine) (sound : AreStripLines cuts strip items) where
  strip_lines : All (IsStripLine cuts strip) items
  strip_lines = each_item (IsStripLine cuts strip) IsLineBefore items sound.in_place

  pub are_lines : All IsLine items
  are_lines k d inside = (strip_lines k d inside).is_line

  pub cuts_ascend : AllPairs (λ c d. c ≤ℤ d) cuts
  cuts_ascend = all_pairs IsCut IsCutBefore cuts sound.ascending cut_trans

  module _ (lines : List Line) (told : items ≡ map told_line lines) where
    told_lines : All (λ (l : Line). IsStripLine cuts strip (told_line l)) lines
    told_lines = unmapped told_line lines (IsStripLine cuts strip) (subst (λ (ls : List OverlayLine). All (IsStripLine cuts strip) ls) told strip_lines)

    pub lines_ordered : AreOrdered lines
    lines_ordered = record {
      oriented = λ k d inside. (told_lines k d inside).is_line.ordered;
      ascending = unmapped_pairs told_line lines IsLineBefore (subst (λ (ls : List OverlayLine). AllPairs IsLineBefore ls) told (all_pairs (IsStripLine cuts strip) IsLineBefore items sound.in_place (λ x y z a b. omega (arith, a, b))));
    }

    pub lines_limited : All (λ (l : Line). AreInLimit l.segment.a l.segment.b) lines
    lines_limited k d inside = (told_lines k d inside).in_limit
