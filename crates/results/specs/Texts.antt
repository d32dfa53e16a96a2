-- The texts of rounded edges and of the report (own).
use Rattle.std.specs.Prelude.{ℕ, suc, List, [], ◌∷◌, ◌++◌, codes, length}
use Rattle.std.specs.List.{flat_map}
use Rattle.std.specs.Fmt.{decimal}
use Rattle.geom.specs.Words.{edge_words}
use Rattle.geom.specs.declared.edge.Counted.{Counted}
use Rattle.results.specs.declared.text.Report.{Report}

-- the line of a rounded edge: its ends and both counts
abbrev pub edge_line : Counted → List ℕ
edge_line e = edge_words e.edge ++ 32 ∷ (decimal e.in_a ++ 32 ∷ (decimal e.in_b ++ 10 ∷ []))

-- a line for each, in order
abbrev pub edges_text_of : List Counted → List ℕ
edges_text_of edges = flat_map edge_line edges

-- ---- the report

-- the line of a number with a name
abbrev pub named : List ℕ → ℕ → List ℕ
named name n = name ++ 32 ∷ (decimal n ++ 10 ∷ [])

-- the lines of the segments of both layers, the hot pixels and the records
abbrev pub sizes_of : {A : Type 0} → Report A → List ℕ
sizes_of r = codes "segments " ++ (decimal r.segments_a ++ 32 ∷ (decimal r.segments_b ++ 10 ∷ (
    named (codes "hot") r.hot ++ named (codes "records") r.records)))

-- those of the edges, the tiles and the pieces that were made anew
abbrev pub counts_of : {A : Type 0} → Report A → List ℕ
counts_of r = named (codes "edges") r.edges ++ (named (codes "tiles") (length r.tiles.items) ++ named (codes "remade") r.remade)

-- the lines above those of the tiles
abbrev pub totals_of : {A : Type 0} → Report A → List ℕ
totals_of r = sizes_of r ++ counts_of r

-- the line of the tile of this number: its own hot pixels and its records
abbrev pub tile_line : ℕ → ℕ × ℕ → List ℕ
tile_line k t = codes "tile " ++ (decimal k ++ 32 ∷ (decimal t.0 ++ 32 ∷ (decimal t.1 ++ 10 ∷ [])))

-- a line for each tile, numbered from k
abbrev pub tile_lines : ℕ → List (ℕ × ℕ) → List ℕ
tile_lines k [] = []
tile_lines k (t ∷ ts) = tile_line k t ++ tile_lines (suc k) ts

-- the whole report
abbrev pub report_of : {A : Type 0} → Report A → List ℕ
report_of r = totals_of r ++ tile_lines 0 r.tiles.items
