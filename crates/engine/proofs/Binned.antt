-- The bins of cells: segment by segment, and as candidates.
use Rattle.std.proofs.Common.{◌≡◌, ◌+◌, ◌*◌, ◌<◌, ◌∙◌, ℕ, List, [], ◌∷◌, ◌++◌, arith, get_or, length, map, take, refl, sym, ap, subst, ⊎_elim}
use Rattle.std.proofs.Math.Logic.{∥∥₁_elim}
use Rattle.std.proofs.Props.{props}
use Rattle.std.proofs.lemmas.List.{length-map, map-append, map_more}
use Rattle.std.proofs.lemmas.List.Elements.{Contains-get_or}
use Rattle.std.proofs.lemmas.Option.{slice_get_within}
use Rattle.std.specs.Prelude.{Contains}
use Rattle.geom.specs.Box.{greatest_corner, least_corner}
use Rattle.geom.specs.declared.point.Pt.{Pt}
use Rattle.geom.specs.declared.rect.Rect.{Rect}
use Rattle.geom.specs.declared.segment.Seg.{Seg}
use Rattle.geom.proofs.Lists.{contains_in, in_contains}
use Rattle.grid.specs.Bins.{AreBins, AreRowBins, IsBin, TileBins, TileRows}
use Rattle.grid.specs.Tiles.{HasTile, Owns, Tiling, tile_count}
use Rattle.hot_region.specs.Candidates.{AreCandidates}
use Rattle.linking.specs.Gathered.{AreBoxesOf, HaveTiles, box_corners, corners}
use Rattle.linking.proofs.Boxes.{in_same_box, into_bin, member, out_of_bin}
use Rattle.linking.proofs.Near.{bin_candidates, has_hi, has_lo}
use Rattle.engine.specs.Rounds.{AreCellBins, AreCellRows}

-- ---- segment by segment

pub bins_of_none : (g : Tiling) (segments : List Seg) (bins : TileBins) → bins.grid ≡ g → AreBins [] bins → AreCellBins g (take 0 segments) bins
bins_of_none g segments bins same are = record { grid_is = same; boxes = []; are_boxes = refl; are_bins = are }

pub rows_of_none : (g : Tiling) (from past : ℕ) (segments : List Seg) (bins : TileRows) → bins.grid ≡ g → bins.from ≡ from → bins.past ≡ past → AreRowBins [] bins → AreCellRows g from past (take 0 segments) bins
rows_of_none g from past segments bins grid low high are = record { grid_is = grid; from_is = low; past_is = high; boxes = []; are_boxes = refl; are_bins = are }

module _ (g : Tiling) (segments : List Seg) (i : ℕ) (s : Seg) (box : Rect) (l : i < length segments) (is : s ≡ get_or segments i s) (lo : box.lo ≡ least_corner s.a s.b) (hi : box.hi ≡ greatest_corner s.a s.b) where
  boxes_of_more : (boxes : List Rect) → AreBoxesOf (take i segments) boxes → AreBoxesOf (take (i + 1) segments) (boxes ++ box ∷ [])
  boxes_of_more boxes are =
      map-append corners boxes (box ∷ [])
      ∙ (λ j. are j ++ (lo j, hi j) ∷ [])
      ∙ ap (λ (t : Seg). map box_corners (take i segments) ++ box_corners t ∷ []) is
      ∙ sym (map_more box_corners segments i s l)

  pub bins_of_more : (old : TileBins) → AreCellBins g (take i segments) old → (new : TileBins) → new.grid ≡ old.grid → ((boxes : List Rect) → AreBins boxes old → AreBins (boxes ++ box ∷ []) new) → AreCellBins g (take (i + 1) segments) new
  bins_of_more old h new same more = record { grid_is = same ∙ h.grid_is; boxes = h.boxes ++ box ∷ []; are_boxes = boxes_of_more h.boxes h.are_boxes; are_bins = more h.boxes h.are_bins }

  pub rows_of_more : (from past : ℕ) (old : TileRows) → AreCellRows g from past (take i segments) old → (new : TileRows) → new.grid ≡ old.grid → new.from ≡ old.from → new.past ≡ old.past → ((boxes : List Rect) → AreRowBins boxes old → AreRowBins (boxes ++ box ∷ []) new)
      → AreCellRows g from past (take (i + 1) segments) new
  rows_of_more from past old h new grid low high more = record {
    grid_is = grid ∙ h.grid_is;
    from_is = low ∙ h.from_is;
    past_is = high ∙ h.past_is;
    boxes = h.boxes ++ box ∷ [];
    are_boxes = boxes_of_more h.boxes h.are_boxes;
    are_bins = more h.boxes h.are_bins;
  }

  segment_in : Contains segments s
  segment_in = subst (λ (t : Seg). Contains segments t) (sym is) (Contains-get_or segments i s l)

  pub least_has_tile : (grid : Tiling) → grid ≡ g → HaveTiles g segments → HasTile grid box.lo
  least_has_tile grid same have = subst (λ (t : Tiling). HasTile t box.lo) (sym same) (have s box.lo segment_in (in_same_box box.lo box.hi _ _ box.lo lo hi (has_lo box)))

  pub greatest_has_tile : (grid : Tiling) → grid ≡ g → HaveTiles g segments → HasTile grid box.hi
  greatest_has_tile grid same have = subst (λ (t : Tiling). HasTile t box.hi) (sym same) (have s box.hi segment_in (in_same_box box.lo box.hi _ _ box.hi lo hi (has_hi box)))

-- ---- rows behind rows

-- bins know boxes by their corners
same_bin : (g : Tiling) (k : ℕ) (boxes others : List Rect) (bin : List ℕ) → map corners boxes ≡ map corners others → IsBin g k boxes bin → IsBin g k others bin
same_bin g k boxes others bin e h = record {
  ascending = h.ascending;
  exact = λ n. (λ i. out_of_bin corners g others boxes k bin e h n i, λ (b, at, (p, inside, owned)). into_bin corners g others boxes k bin e h n b p at inside owned);
}

same_boxes : (boxes others : List Rect) (kept : TileRows) → map corners boxes ≡ map corners others → AreRowBins boxes kept → AreRowBins others kept
same_boxes boxes others kept e h = record {
  count_is = h.count_is ∙ sym (length-map boxes corners) ∙ ap length e ∙ length-map others corners;
  each = λ k l. same_bin kept.grid (kept.from * kept.grid.columns + k) boxes others (get_or kept.bins k []) e (h.each k l);
}

pub rows_behind : (g : Tiling) (from middle past : ℕ) (segments : List Seg) (front back all : TileRows) → AreCellRows g from middle segments front → AreCellRows g middle past segments back → all.grid ≡ front.grid → all.from ≡ front.from → all.past ≡ back.past
    → ((boxes : List Rect) → AreRowBins boxes front → AreRowBins boxes back → AreRowBins boxes all) → AreCellRows g from past segments all
rows_behind g from middle past segments front back all a b grid low high both = record {
  grid_is = grid ∙ a.grid_is;
  from_is = low ∙ a.from_is;
  past_is = high ∙ b.past_is;
  boxes = a.boxes;
  are_boxes = a.are_boxes;
  are_bins = both a.boxes a.are_bins (same_boxes b.boxes a.boxes back (b.are_boxes ∙ sym a.are_boxes) b.are_bins);
}

pub bins_of_all : (g : Tiling) (from past : ℕ) (segments : List Seg) (all : TileRows) (bins : TileBins) → AreCellRows g from past segments all → bins.grid ≡ all.grid → ((boxes : List Rect) → AreRowBins boxes all → AreBins boxes bins) → AreCellBins g segments bins
bins_of_all g from past segments all bins a grid are = record { grid_is = grid ∙ a.grid_is; boxes = a.boxes; are_boxes = a.are_boxes; are_bins = are a.boxes a.are_bins }

-- ---- as candidates

-- the numbers of all segments
pub cell_candidates : (g : Tiling) (segments : List Seg) (bins : TileBins) (k : ℕ) (list : List ℕ) → ∥ AreCellBins g segments bins ∥₁ → k < tile_count g → list ≡ get_or bins.bins k [] → AreCandidates (Owns g k) segments list
cell_candidates g segments bins k list are within e = record {
  ascending = ∥∥₁_elim are (hlevel props) (λ h. (at h).ascending);
  below = ∥∥₁_elim are (hlevel props) (λ h. (at h).below);
  complete = λ n s c is met owned. ⊎_elim
      (λ i. in_contains list n i)
      (λ no. absurd (∥∥₁_elim are (hlevel props) (λ h. no (contains_in list n ((at h).complete n s c is met owned)))))
      (member n list);
}
  where
    at : AreCellBins g segments bins → AreCandidates (Owns g k) segments list
    at h =
        let within_bins : k < tile_count bins.grid = subst (λ (t : Tiling). k < tile_count t) (sym h.grid_is) within in
        let bin : IsBin g k h.boxes (get_or bins.bins k []) = subst (λ (t : Tiling). IsBin t k h.boxes (get_or bins.bins k [])) h.grid_is (h.are_bins.each k within_bins) in
        rw e (bin_candidates g segments h.boxes k (get_or bins.bins k []) h.are_boxes bin)
