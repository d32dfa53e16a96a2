-- Layers as columns of coordinates and offsets (GeoArrow 0.1, MultiPolygon): features, their polygons, their rings, their points. An
-- offset says where a list begins in the next level; there is one more of them than there are lists.
use Rattle.std.specs.Prelude.{ℕ, ℤ, ◌-◌, List, [], ◌∷◌, length, map, slice_range, take}
use Rattle.std.specs.List.{flat_map}
use Rattle.geom.specs.declared.point.Pt.{Pt}
use Rattle.columns.specs.declared.layout.Points.{Points}
use Rattle.columns.specs.declared.layout.Points.TheVariants.{Interleaved, Separate}
use Rattle.columns.specs.declared.layout.Columns.{Columns}

-- ---- points

-- the points of coordinates x y x y ..
abbrev pub pairs : List ℤ → List Pt
pairs [] = []
pairs (x ∷ []) = []
pairs (x ∷ y ∷ rest) = record { x = x; y = y } ∷ pairs rest

-- the points of a column of x and one of y
abbrev pub paired : List ℤ → List ℤ → List Pt
paired [] ys = []
paired (x ∷ xs) [] = []
paired (x ∷ xs) (y ∷ ys) = record { x = x; y = y } ∷ paired xs ys

abbrev pub points_of : Points → List Pt
points_of (Interleaved coordinates) = pairs coordinates.now
points_of (Separate x y) = paired x.now y.now

-- ---- lists of lists

-- the lists that offsets cut items into: from each offset to the next one
abbrev pub cut : {X : Type 0} → List ℕ → List X → List (List X)
cut [] items = []
cut (o ∷ []) items = []
cut (o ∷ p ∷ os) items = slice_range items o p ∷ cut (p ∷ os) items

-- lists behind one another
abbrev pub joined : {X : Type 0} → List (List X) → List X
joined lists = flat_map (λ list. list) lists

-- the features that the columns have, each a list of polygons, each a list of rings, each a list of points as they are written
abbrev pub features_in : Columns → List (List (List (List Pt)))
features_in c = cut c.features.now (cut c.polygons.now (cut c.rings.now (points_of c.points)))

-- the rings of each feature
abbrev pub feature_rings_in : Columns → List (List (List Pt))
feature_rings_in c = map joined (features_in c)

-- the rings of all features
abbrev pub rings_in : Columns → List (List Pt)
rings_in c = joined (feature_rings_in c)

-- ---- rings

-- a ring without its last point, which is its first again
abbrev pub plain_ring : List Pt → List Pt
plain_ring ring = take (length ring - 1) ring

abbrev pub plain : List (List Pt) → List (List Pt)
plain rings = map plain_ring rings
