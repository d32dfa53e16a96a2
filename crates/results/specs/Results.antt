-- The polygons of a set operation, and their text (OGC 06-103r4 for the text; the rest is own).
use Rattle.std.specs.Prelude.{◌≡◌, ℕ, List, [], ◌∷◌, ◌++◌, All, map}
use Rattle.geom.specs.declared.op.Op.{Op}
use Rattle.geom.specs.declared.edge.Counted.{Counted}
use Rattle.geom.specs.declared.directed.DirectedEdge.{DirectedEdge}
use Rattle.geom.specs.Canonical.{ArePolygons, HaveEachEdge, Shape, written_rings}
use Rattle.geom.specs.Directed.{AreResultEdges}
use Rattle.geom.specs.ListOrder.{IsLeastRotation}
use Rattle.geom.specs.Pixel.{Point}
use Rattle.geom.specs.ResultEdges.{holds_at}
use Rattle.geom.specs.RingParity.{ring_parity}
use Rattle.polygonize.specs.Written.{AreSimple}
use Rattle.wkt.specs.Canonical.{closed, multi_text}
use Rattle.wkt.specs.Refusals.{IsLayerOf}
use Rattle.results.specs.declared.operation.Wanted.{Wanted}
use Rattle.results.specs.declared.operation.Wanted.TheVariants.{Apply, Edges}
use Rattle.results.specs.Texts.{edges_text_of}

-- The polygons are those of the result's directed edges: each shell with its holes, in order. Their rings together have each of these
-- edges once, none visits a point twice, and each is read from its least rotation. Any point lies in the polygons, by the even-odd rule
-- over all their rings, exactly where the operation holds of its parities in the two rounded layers.
pub record IsResult (op : Op) (counted : List Counted) (polygons : List Shape) : Type 0 where
  pub directed : List DirectedEdge
  pub bound : AreResultEdges op counted directed
  pub are_polygons : ArePolygons directed polygons
  pub each_edge : HaveEachEdge directed polygons
  pub simple : AreSimple (written_rings polygons)
  pub least : All (λ ring. IsLeastRotation ring ring) (written_rings polygons)
  pub points : (z : Point) → ring_parity (written_rings polygons) z ≡ holds_at op counted z

-- The text is the canonical line of the result's polygons. Without its line feed it reads back, by the grammar of layer texts, as exactly
-- their rings, each closed.
pub record IsResultText (op : Op) (counted : List Counted) (text : List ℕ) : Type 0 where
  pub polygons : List Shape
  pub result : IsResult op counted polygons
  pub written : text ≡ multi_text polygons
  pub reads : (line : List ℕ) × (text ≡ line ++ 10 ∷ []) × IsLayerOf line (map closed (written_rings polygons))

-- the text that is wanted of two rounded layers
abbrev pub IsWantedText : Wanted → List Counted → List ℕ → Type 0
IsWantedText Edges counted text = text ≡ edges_text_of counted
IsWantedText (Apply op) counted text = IsResultText op counted text
