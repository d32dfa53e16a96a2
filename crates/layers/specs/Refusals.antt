-- What two layer texts and a plan are refused for, and what is known where they aren't (own).
use Rattle.std.specs.Prelude.{◌≡◌, ◌≤◌, ◌<◌, ◌+◌, ◌*◌, ℕ, IfOk, IfSome, List, Result, length, max, min, MatchResult}
use Rattle.geom.specs.declared.fault.Fault.{Fault}
use Rattle.geom.specs.declared.fault.Fault.TheVariants.{TooManySegments, BadTile, BadWorkers, TooManyTiles}
use Rattle.geom.specs.declared.fault.Part.{Part}
use Rattle.geom.specs.declared.fault.Part.TheVariants.{A, B, Run}
use Rattle.geom.specs.Segments.{layer_steps}
use Rattle.geom.specs.declared.segment.Source.{Source}
use Rattle.geom.specs.declared.segment.Source.TheVariants.{A as FromA, B as FromB}
use Rattle.grid.specs.Tiles.{AreBounds, IsSide, Tiling, most_tiles, tile_count}
use Rattle.wkt.specs.LayerText.{Ring}
use Rattle.wkt.specs.Outlines.{IsOutline}
use Rattle.wkt.specs.declared.outline.Outline.{Outline}
use Rattle.wkt.specs.Refusals.{IsAccepted, IsAcceptedWithin, IsRefusedWithin, StandsFor, length_limit, plain}
use Rattle.wkt.specs.declared.read.OutlinedLayer.{OutlinedLayer}
use Rattle.layers.specs.Segments.{AreRingsInLimit}
use Rattle.layers.specs.Grids.{IsGridOver}
use Rattle.layers.specs.declared.plan.TheConstants.{BYTES_A_SEGMENT, SEGMENT_LIMIT}
use Rattle.tile_book.specs.declared.draw.TheConstants.{MOST_HANDS}
use Rattle.layers.specs.declared.plan.Plan.{Plan}

-- the number of workers is within its limits
pub record IsCrew (workers : ℕ) : Type 0 where
  pub low : 1 ≤ workers
  pub high : workers ≤ MOST_HANDS

-- the plan is within its limits
pub record IsPlan (plan : Plan) : Type 0 where
  pub side : IsSide plan.side
  pub workers : IsCrew plan.workers

-- what is wrong with a plan, the side of a tile before the number of workers
abbrev pub IsPlanFault : Plan → Fault → Type 0
IsPlanFault plan BadTile = ¬ IsSide plan.side
IsPlanFault plan BadWorkers = IsSide plan.side × ¬ IsCrew plan.workers
IsPlanFault plan _ = ⊥

-- the greatest number of segments in both layers, where no limit is given
abbrev pub segment_limit : ℕ
segment_limit = SEGMENT_LIMIT

-- the most bytes of a layer text within any limit
abbrev pub greatest_text : ℕ
greatest_text = 4294967295

-- the most bytes of a layer text, by the most segments: so many for each, but no fewer than where no limit is given
abbrev pub text_limit : ℕ → ℕ
text_limit segments = max (min (segments * BYTES_A_SEGMENT) greatest_text) length_limit

-- the number of segments of a layer with these rings as they are written
abbrev pub segment_count : List Ring → ℕ
segment_count rings = length (layer_steps (plain rings))

-- the plan is within its limits, and so are the layers, which have these rings and together at most so many segments, and the grid over them
pub record IsReadyWithin (limit : ℕ) (plan : Plan) (a b : List ℕ) (rings_a rings_b : List Ring) (grid : Tiling) : Type 0 where
  pub planned : IsPlan plan
  pub accepted_a : IsAcceptedWithin (text_limit limit) a rings_a
  pub accepted_b : IsAcceptedWithin (text_limit limit) b rings_b
  pub few : segment_count rings_a + segment_count rings_b ≤ limit
  pub is_grid : IsGridOver rings_a rings_b plan.side grid
  pub few_tiles : tile_count grid ≤ most_tiles

-- what is refused before anything is made, and where: the first of these that is at fault
pub data IsRefusedAtWithin (limit : ℕ) (plan : Plan) (a b : List ℕ) : Part → Fault → Type 0 where
  bad_tile : ¬ IsSide plan.side → IsRefusedAtWithin limit plan a b Run BadTile
  bad_workers : IsSide plan.side → ¬ IsCrew plan.workers → IsRefusedAtWithin limit plan a b Run BadWorkers
  bad_a : {f : Fault} → IsPlan plan → IsRefusedWithin (text_limit limit) a f → IsRefusedAtWithin limit plan a b A f
  bad_b : {f : Fault} → IsPlan plan → (rings : List Ring) → IsAcceptedWithin (text_limit limit) a rings → IsRefusedWithin (text_limit limit) b f → IsRefusedAtWithin limit plan a b B f
  too_many : IsPlan plan → (rings_a rings_b : List Ring) → IsAcceptedWithin (text_limit limit) a rings_a → IsAcceptedWithin (text_limit limit) b rings_b
      → limit < segment_count rings_a + segment_count rings_b → IsRefusedAtWithin limit plan a b Run (TooManySegments (segment_count rings_a + segment_count rings_b))
  too_many_tiles : IsPlan plan → (rings_a rings_b : List Ring) → IsAcceptedWithin (text_limit limit) a rings_a → IsAcceptedWithin (text_limit limit) b rings_b
      → segment_count rings_a + segment_count rings_b ≤ limit → (grid : Tiling) → IsGridOver rings_a rings_b plan.side grid → most_tiles < tile_count grid → IsRefusedAtWithin limit plan a b Run (TooManyTiles (tile_count grid))

-- the plan is refused, whatever the limit and the layers are
abbrev pub IsRefusedPlan : Plan → Part → Fault → Type 0
IsRefusedPlan plan part fault = (limit : ℕ) (a b : List ℕ) → IsRefusedAtWithin limit plan a b part fault

-- the layer that a fault is told of
abbrev pub part_of : Source → Part
part_of FromA = A
part_of FromB = B

-- the text of a layer is accepted, and has this outline
abbrev pub HasOutline : List ℕ → Outline → Type 0
HasOutline text outline = (rings : List Ring) × IsAccepted text rings × IsOutline (plain rings) outline

-- and it has no more bytes than the limit
abbrev pub HasOutlineWithin : ℕ → List ℕ → Outline → Type 0
HasOutlineWithin limit text outline = (rings : List Ring) × IsAcceptedWithin limit text rings × IsOutline (plain rings) outline

-- what was read of a layer text within a limit of bytes: its outline, or why it is refused
abbrev pub IsReading : {M : Type 0} → ℕ → List ℕ → Result (OutlinedLayer M) Fault → Type 0
IsReading limit text reading = MatchResult reading (λ read. HasOutlineWithin limit text read.outline × AreBounds read.outline.bounds) (λ fault. IsRefusedWithin limit text fault)

-- where the rings of a layer text were kept, they are its own
abbrev pub HasOwnRings : {M : Type 0} → List ℕ → Result (OutlinedLayer M) Fault → Type 0
HasOwnRings text reading = IfOk reading (λ read. IfSome read.layer (λ layer. StandsFor text layer × AreRingsInLimit layer))

-- the plan, the layers and this grid over them are within their limits; the layers have these numbers of segments
pub record IsCheckedWithin (limit : ℕ) (plan : Plan) (a b : List ℕ) (segments_a segments_b : ℕ) (grid : Tiling) : Type 0 where
  pub rings_a : List Ring
  pub rings_b : List Ring
  pub ready : IsReadyWithin limit plan a b rings_a rings_b grid
  pub count_a : segments_a ≡ segment_count rings_a
  pub count_b : segments_b ≡ segment_count rings_b

-- nothing is refused before anything is made
abbrev pub MayRunWithin : ℕ → Plan → List ℕ → List ℕ → Type 0
MayRunWithin limit plan a b = (rings_a : List Ring) × (rings_b : List Ring) × (grid : Tiling) × IsReadyWithin limit plan a b rings_a rings_b grid

-- ---- the same where no limit is given

abbrev pub IsRefusedAt : Plan → List ℕ → List ℕ → Part → Fault → Type 0
IsRefusedAt plan a b part fault = IsRefusedAtWithin segment_limit plan a b part fault

abbrev pub MayRun : Plan → List ℕ → List ℕ → Type 0
MayRun plan a b = MayRunWithin segment_limit plan a b
