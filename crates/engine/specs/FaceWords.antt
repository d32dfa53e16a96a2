-- The report of faces (own).
use Rattle.std.specs.Prelude.{◌+◌, ℕ, List, [], ◌∷◌, ◌++◌, codes, length}
use Rattle.std.specs.List.{flat_map}
use Rattle.std.specs.Fmt.{decimal}
use Rattle.engine.specs.declared.faces_report.FacesReport.{FacesReport}
use Rattle.layers.specs.declared.feature_segments.LayerSize.{LayerSize}
use Rattle.results.specs.Texts.{named, tile_lines}

abbrev pub segments_line : List LayerSize → List ℕ
segments_line layers = codes "segments" ++ (flat_map (λ l. 32 ∷ decimal l.segments) layers ++ 10 ∷ [])

abbrev pub features_line : List LayerSize → List ℕ
features_line layers = codes "features" ++ (flat_map (λ l. 32 ∷ decimal l.features) layers ++ 10 ∷ [])

abbrev pub faces_sums_of : {A : Type 0} → FacesReport A → List ℕ
faces_sums_of r = named (codes "hot") r.hot ++ (named (codes "records") r.records ++ (named (codes "edges") r.edges ++ (named (codes "rows") r.rows ++ named (codes "ids") r.ids)))

-- the lines above those of the tiles
abbrev pub faces_totals_of : {A : Type 0} → FacesReport A → List ℕ
faces_totals_of r = segments_line r.layers.items ++ (features_line r.layers.items ++ (faces_sums_of r ++ (named (codes "tiles") (length r.tiles.items) ++ named (codes "remade") r.remade)))

abbrev pub faces_report_of : {A : Type 0} → FacesReport A → List ℕ
faces_report_of r = faces_totals_of r ++ tile_lines 0 r.tiles.items
