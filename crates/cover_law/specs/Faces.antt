-- Faces (own): the rows over the rounded edges of all features.
use Rattle.std.specs.Prelude.{◌≡◌, ◌≢◌, ℕ, List, [], All, Contains, length}
use Rattle.geom.specs.declared.point.Pt.{Pt}
use Rattle.geom.specs.declared.segment.Seg.{Seg}
use Rattle.geom.specs.Canonical.{written_rings}
use Rattle.geom.specs.Limit.{AreInLimit}
use Rattle.geom.specs.Pixel.{Point}
use Rattle.geom.specs.RingParity.{ring_parity}
use Rattle.cover_law.specs.Borders.{AreBordered, AreFeatureSegments}
use Rattle.cover_law.specs.Cover.{AreBorders, Bordered, cover}
use Rattle.cover_law.specs.Rows.{AreRows, Row, is_covered_by}

-- the faces of features with these rings, those of all layers one after another
pub record AreFaces (features : List (List (List Pt))) (rows : List Row) : Type 0 where
  pub segments : List Seg
  pub owners : List ℕ
  pub are_segments : AreFeatureSegments features segments owners
  pub edges : List Bordered
  pub are_bordered : AreBordered (length features) segments owners edges
  pub are_rows : AreRows (length features) edges rows

-- features have one list of faces
abbrev pub FacesAreOne : Type 0
FacesAreOne = (features : List (List (List Pt))) (rows others : List Row) → AreFaces features rows → AreFaces features others → rows ≡ others

-- the rows tell of every rational point what covers it: it lies in the polygons of just the row of its cover set, and in one of them where something
-- covers it
pub record Tell (count : ℕ) (edges : List Bordered) (rows : List Row) : Type 0 where
  pub borders : AreBorders edges
  pub inside : (row : Row) → Contains rows row → (z : Point) → ring_parity (written_rings row.polygons) z ≡ is_covered_by count edges row.set z
  pub somewhere : (z : Point) → cover count edges z ≢ [] → (row : Row) × Contains rows row × (row.set ≡ cover count edges z)

abbrev pub FacesTell : Type 0
FacesTell = (features : List (List (List Pt))) (rows : List Row) → (faces : AreFaces features rows) → All (λ s. AreInLimit s.a s.b) faces.segments → Tell (length features) faces.edges rows
