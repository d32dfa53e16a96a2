-- Areas, edge by edge, and by edges in another order.
use Rattle.std.proofs.Common.{◌≡◌, ◌<◌, ◌^◌, ◌*◌, ◌+◌, FitsSigned, suc, get_or, drop, length, add-one, w64, ℕ, List, flat_map, Bool, true, false, refl, sym, ap, ◌∙◌, arith, subst}
use Rattle.std.specs.Int.{w128}
use Rattle.std.specs.List.{AllPairs, count_by}
use Rattle.std.proofs.Math.IntN.{ℤ, pos, ◌+ℤ◌, ◌-ℤ◌, ◌*ℤ◌}
use Rattle.std.proofs.Math.Seq.{drop-cons}
use Rattle.std.proofs.lemmas.Int.{ints}
use Rattle.geom.specs.declared.directed.DirectedEdge.{DirectedEdge}
use Rattle.geom.specs.Canonical.{HaveEachEdge, Shape, written_rings}
use Rattle.geom.specs.Limit.{IsWithin}
use Rattle.geom.specs.Determinant.{determinant}
use Rattle.geom.specs.Directed.{IsDirectedBefore}
use Rattle.geom.specs.Rings.{ring_edges}
use Rattle.geom.proofs.Lists.{Distinct, In, counts_some, some_passes}
use Rattle.points_law.proofs.Even.{not_true}
use Rattle.points_law.proofs.TextParity.{each_once, goes, goes_is, goes_of}
use Rattle.cover_law.specs.Areas.{area_of, side_area, sum_of, twice_area}
use Rattle.cover_law.proofs.IntegerSums.{exchange, sum_cong, sum_counts, sum_single, when}

-- the determinant of the vectors from the origin
pub from_origin : (a b c d p q r s n : ℤ) → n ≡ determinant p q r s → p ≡ a -ℤ pos 0 → q ≡ b -ℤ pos 0 → r ≡ c -ℤ pos 0 → s ≡ d -ℤ pos 0 → n ≡ (a *ℤ d) -ℤ (b *ℤ c)
from_origin a b c d p q r s n e h i j k = e ∙ (λ t. (same p a h t *ℤ same s d k t) -ℤ (same q b i t *ℤ same r c j t))
  where
    same : (x y : ℤ) → x ≡ y -ℤ pos 0 → x ≡ y
    same x y h = omega (arith, ints)

one_area_more : (a b c s t : ℤ) → c ≡ a +ℤ b → a +ℤ (b +ℤ s) ≡ t → c +ℤ s ≡ t
one_area_more a b c s t h k = omega (arith, ints)

-- sums of small terms have room
pub sum_fits : (a b : ℤ) (k : ℕ) → k < 2 ^ 64 → IsWithin (2 ^ 59 * k) a → IsWithin (2 ^ 59) b → FitsSigned w128 (a +ℤ b)
sum_fits a b k l h i = omega (arith, ints, l, h, i)

pub term_fits : (b : ℤ) → IsWithin (2 ^ 59) b → FitsSigned w128 b
term_fits b i = omega (arith, ints, i)

pub sum_within : (a b : ℤ) (k : ℕ) → IsWithin (2 ^ 59 * k) a → IsWithin (2 ^ 59) b → IsWithin (2 ^ 59 * (k + 1)) (a +ℤ b)
sum_within a b k h i = record { low = omega (arith, ints, h, i); high = omega (arith, ints, h, i) }

pub narrow_fits : (b : ℤ) → IsWithin (2 ^ 59) b → FitsSigned w64 b
narrow_fits b i = omega (arith, ints, i)

-- one edge more of those whose areas are summed
pub next_area : (ds : List DirectedEdge) (k : ℕ) (d : DirectedEdge) (a b : ℤ) → k < length ds → b ≡ side_area (get_or ds k d) → a +ℤ twice_area (drop k ds) ≡ twice_area ds → (a +ℤ b) +ℤ twice_area (drop (k + 1) ds) ≡ twice_area ds
next_area ds k d a b h e i = rw add-one (one_area_more a b (a +ℤ b) (twice_area (drop (suc k) ds)) (twice_area ds) refl
    (ap (λ (z : ℤ). a +ℤ (z +ℤ twice_area (drop (suc k) ds))) e ∙ ap (λ (xs : List DirectedEdge). a +ℤ twice_area xs) (sym (drop-cons ds k d h)) ∙ i))

-- ---- in another order
when_no : (t : Bool) (c : ℤ) → t ≡ false → when t c ≡ pos 0
when_no true c h = absurd (let k = h in cc)
when_no false c h = refl

when_yes : (t : Bool) (c : ℤ) → t ≡ true → when t c ≡ c
when_yes true c h = refl
when_yes false c h = absurd (let k = h in cc)

module _ (directed : List DirectedEdge) (once : Distinct directed) where
  -- what d adds, told by the edges
  abbrev term : DirectedEdge → DirectedEdge → ℤ
  term d c = when (goes c.from c.to d) (side_area c)

  by_edges : (d : DirectedEdge) → In d directed → side_area d ≡ sum_of (term d) directed
  by_edges d i = sym (sum_single (term d) directed once d i (λ c j n. when_no (goes c.from c.to d) (side_area c) (not_true (goes c.from c.to d) (λ k. n (sym (goes_is c.from c.to d k)))))
      ∙ when_yes (goes d.from d.to d) (side_area d) (goes_of d.from d.to d refl))

  total : (sides : List DirectedEdge) → ((d : DirectedEdge) → In d sides → In d directed) → twice_area sides ≡ sum_of (λ c. sum_of (λ d. term d c) sides) directed
  total sides h = sum_cong side_area (λ d. sum_of (term d) directed) sides (λ d i. by_edges d (h d i)) ∙ exchange term sides directed

  pub same_area : (sides : List DirectedEdge) → ((test : DirectedEdge → Bool) → count_by test sides ≡ count_by test directed) → twice_area sides ≡ twice_area directed
  same_area sides each = total sides there
      ∙ sum_cong (λ c. sum_of (λ d. term d c) sides) (λ c. sum_of (λ d. term d c) directed) directed (λ c i. sum_counts (goes c.from c.to) (side_area c) sides directed (each (goes c.from c.to)))
      ∙ sym (total directed (λ d i. i))
    where
      there : (d : DirectedEdge) → In d sides → In d directed
      there d i =
          let s = some_passes (goes d.from d.to) directed (subst (λ (n : ℕ). 0 < n) (each (goes d.from d.to)) (counts_some (goes d.from d.to) sides d i (goes_of d.from d.to d refl))) in
          subst (λ (x : DirectedEdge). In x directed) (goes_is d.from d.to s.0 s.2) s.1

pub polygons_area : (directed : List DirectedEdge) (polygons : List Shape) → AllPairs IsDirectedBefore directed → HaveEachEdge directed polygons → area_of polygons ≡ twice_area directed
polygons_area directed polygons up each = same_area directed (each_once directed up) (flat_map ring_edges (written_rings polygons)) each
