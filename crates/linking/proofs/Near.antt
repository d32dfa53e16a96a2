-- The segments near a tile, from the bins.
use Rattle.std.proofs.Common.{ℕ, ◌+◌, List, arith, get_or}
use Rattle.std.proofs.lemmas.List.Elements.{Contains-get_or}
use Rattle.geom.specs.declared.rect.Rect.{Rect}
use Rattle.geom.specs.declared.segment.Seg.{Seg}
use Rattle.geom.specs.Box.{IsInBox}
use Rattle.geom.proofs.Meaning.{met_pixels_are_in_bounds}
use Rattle.geom.proofs.Numbers.{itself}
use Rattle.grid.specs.Tiles.{Tiling, Owns}
use Rattle.grid.specs.Bins.{IsBin}
use Rattle.hot_region.specs.Candidates.{AreCandidates}
use Rattle.linking.specs.Gathered.{AreBoxesOf, box_corners}
use Rattle.linking.proofs.Boxes.{below_bin, into_bin}

-- ---- a bin has the numbers of the segments near its tile
pub bin_candidates : (g : Tiling) (segments : List Seg) (boxes : List Rect) (k : ℕ) (numbers : List ℕ) → AreBoxesOf segments boxes → IsBin g k boxes numbers → AreCandidates (Owns g k) segments numbers
bin_candidates g segments boxes k numbers are bin = record {
  ascending = λ i l. bin.ascending i (i + 1) 0 (omega arith) l;
  below = λ i d l. below_bin box_corners g segments boxes k numbers are bin (get_or numbers i d) (Contains-get_or numbers i d l);
  complete = λ n s c at met owned. into_bin box_corners g segments boxes k numbers are bin n s c at (met_pixels_are_in_bounds s c met) owned;
}

-- ---- a rectangle has its corners
pub has_lo : (r : Rect) → IsInBox r.lo r.hi r.lo
has_lo r = record { left = itself r.lo.x; right = r.wide; bottom = itself r.lo.y; top = r.high }

pub has_hi : (r : Rect) → IsInBox r.lo r.hi r.hi
has_hi r = record { left = r.wide; right = itself r.hi.x; bottom = r.high; top = itself r.hi.y }
