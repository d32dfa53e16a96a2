-- The refusals of columns (own): their numbers, which go on behind those of texts and runs, and the words that are printed.
use Rattle.std.specs.Prelude.{ℕ, List, ◌++◌, codes}
use Rattle.std.specs.Fmt.{decimal}
use Rattle.columns.specs.declared.fault.ColumnsFault.{ColumnsFault}
use Rattle.columns.specs.declared.fault.ColumnsFault.TheVariants.{PointRange, RingShort, RingOpen, PointsUneven, FeatureOffset, PolygonOffset, RingOffset}

abbrev pub number_of : ColumnsFault → ℕ
number_of (PointRange at) = 2
number_of (RingShort at) = 3
number_of (RingOpen at) = 4
number_of PointsUneven = 13
number_of (FeatureOffset at) = 14
number_of (PolygonOffset at) = 15
number_of (RingOffset at) = 16

abbrev pub fault_words : ColumnsFault → List ℕ
fault_words (PointRange at) = codes "2 number out of range at point " ++ decimal at
fault_words (RingShort at) = codes "3 short ring " ++ decimal at
fault_words (RingOpen at) = codes "4 open ring " ++ decimal at
fault_words PointsUneven = codes "13 coordinate missing"
fault_words (FeatureOffset at) = codes "14 bad offset of features at " ++ decimal at
fault_words (PolygonOffset at) = codes "15 bad offset of polygons at " ++ decimal at
fault_words (RingOffset at) = codes "16 bad offset of rings at " ++ decimal at
