-- Which points have tiles.
use Rattle.std.proofs.Common.{Option, Some, None, List, arith}
use Rattle.std.proofs.Math.IntN.{ℤ}
use Rattle.std.specs.Prelude.{◌≤ℤ◌}
use Rattle.std.specs.Int.{int_min, int_max}
use Rattle.std.proofs.lemmas.Int.{int_min_is, int_max_is}
use Rattle.geom.specs.declared.point.Pt.{Pt}
use Rattle.geom.specs.declared.rect.Rect.{Rect}
use Rattle.geom.specs.declared.segment.Seg.{Seg}
use Rattle.geom.specs.Box.{IsInBox, greatest_corner, least_corner}
use Rattle.geom.proofs.Integers.{linear}
use Rattle.geom.proofs.Meaning.{met_pixels_are_in_bounds}
use Rattle.grid.specs.Tiles.{BoundsHold, CoversBounds, Tiling}
use Rattle.linking.specs.Gathered.{HaveTiles}
use Rattle.linking.proofs.Gathering.{AreCovered}

within : (lo hi a b p : ℤ) → lo ≤ℤ a → a ≤ℤ hi → lo ≤ℤ b → b ≤ℤ hi → int_min a b ≤ℤ p → p ≤ℤ int_max a b → (lo ≤ℤ p) × (p ≤ℤ hi)
within lo hi a b p h k l m u v = (omega (arith, linear, int_min_is a b), omega (arith, linear, int_max_is a b))

pub inside : (r : Rect) (a b p : Pt) → IsInBox r.lo r.hi a → IsInBox r.lo r.hi b → IsInBox (least_corner a b) (greatest_corner a b) p → IsInBox r.lo r.hi p
inside r a b p h k l =
    let x = within r.lo.x r.hi.x a.x b.x p.x h.left h.right k.left k.right l.left l.right in
    let y = within r.lo.y r.hi.y a.y b.y p.y h.bottom h.top k.bottom k.top l.bottom l.top in
    record { left = x.0; right = x.1; bottom = y.0; top = y.1 }

-- a grid over bounds that hold the ends of all segments has a tile for each point of their boxes
pub have_tiles : (bounds : Option Rect) (g : Tiling) (segments : List Seg) → CoversBounds bounds g → BoundsHold bounds segments → HaveTiles g segments
have_tiles None g segments h b = λ s p i inside. absurd (b s i)
have_tiles (Some r) g segments h b = λ s p i l. let e = b s i in h p (inside r s.a s.b p e.0 e.1 l)

-- and so for each pixel that one meets
pub are_covered : (g : Tiling) (segments : List Seg) → HaveTiles g segments → AreCovered g segments
are_covered g segments h = record { tile = λ s c i met. h s c i (met_pixels_are_in_bounds s c met) }
