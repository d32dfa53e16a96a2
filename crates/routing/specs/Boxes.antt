-- Pixels as boxes (own).
use Rattle.std.specs.Prelude.{List, map}
use Rattle.geom.specs.declared.point.Pt.{Pt}
use Rattle.box_lanes.specs.Sides.{Corners}

-- the box that is a pixel's centre alone
abbrev pub box_of : Pt → Corners
box_of c = (c, c)

-- the boxes of pixels, in their order
abbrev pub boxes_of : List Pt → List Corners
boxes_of pixels = map box_of pixels
