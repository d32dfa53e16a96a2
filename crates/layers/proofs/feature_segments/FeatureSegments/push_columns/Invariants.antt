use Rattle.std.proofs.Common.{◌≡◌, ◌++◌, ◌≤◌, List, length, take}
use Rattle.geom.specs.declared.point.Pt.{Pt}
use Rattle.layers.specs.ColumnLayers.{features_of}
use Rattle.layers.specs.FeatureSegments.{AreOwned, AreSegmentsFrom}
use Rattle.layers.proofs.feature_segments.FeatureSegments.push_columns.Given as goal

abbrev pub invariant-loop-number : goal.invariant-loop-number
invariant-loop-number g l = record {
  owned : AreOwned l.self;
  sizes : l.self.sizes ≡ l.fn.self.sizes;
  longer : length l.fn.self.segments.items ≤ length l.self.segments.items;
  more : l.fn.self.features ≤ l.self.features;
  added : (features : List (List (List Pt))) → AreSegmentsFrom features l.fn.self → AreSegmentsFrom (features ++ take l.number (features_of l.layer)) l.self;
}
