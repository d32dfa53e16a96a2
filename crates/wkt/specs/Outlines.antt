-- The outline of a layer (own): how many segments it has, and their box.
use Rattle.std.specs.Prelude.{◌≡◌, ℕ, List, [], Vec, length, MatchOption}
use Rattle.geom.specs.declared.point.Pt.{Pt}
use Rattle.geom.specs.Segments.{layer_steps}
use Rattle.geom.specs.Bounds.{IsBox}
use Rattle.wkt.specs.declared.outline.Outline.{Outline}
use Rattle.wkt.specs.Refusals.{StandsFor}

-- the outline of the layer with these rings
pub record IsOutline (rings : List (List Pt)) (o : Outline) : Type 0 where
  pub count : o.segments ≡ length (layer_steps rings)
  pub box : MatchOption o.bounds (layer_steps rings ≡ []) (IsBox (layer_steps rings))

-- an outline stands before the rings that it is of
abbrev pub IsOutlined : {A : Type 0} → Outline × Vec (List Pt) A → Type 0
IsOutlined found = IsOutline found.1.items found.0

-- the text is accepted, and stands for the rings, whose outline stands before them
abbrev pub IsGathered : {A : Type 0} → List ℕ → Outline × Vec (List Pt) A → Type 0
IsGathered text found = StandsFor text found.1.items × IsOutlined found
