-- What a text of edges is told (own).
use Rattle.std.specs.Prelude.{ℕ, ◌<◌, ◌≤◌, List, Result, Ok, Err, length}
use Rattle.geom.specs.Noded.{IsLeastBad, IsNoded}
use Rattle.geom.specs.declared.edge.Edge.{Edge}
use Rattle.tile_book.specs.declared.draw.TheConstants.{MOST_HANDS}
use Rattle.edge_lines.specs.Lines.{AreEdges, IsFirstBad, lines_of}
use Rattle.edge_test.specs.declared.fault.TextFault.{TextFault}
use Rattle.edge_test.specs.declared.fault.TextFault.TheVariants.{BadWorkers, TooLong, Line, NotNoded, Memory}
use Rattle.edge_test.specs.declared.text.TheConstants.{LONGEST_TEXT}

-- the least bad pair of these edges, or want of memory
abbrev pub IsEdgesFault : List Edge → TextFault → Type 0
IsEdgesFault edges BadWorkers = ⊥
IsEdgesFault edges TooLong = ⊥
IsEdgesFault edges (Line number fault) = ⊥
IsEdgesFault edges (NotNoded e f) = IsLeastBad edges e f
IsEdgesFault edges Memory = Unit {0}

-- these edges are the text's
abbrev pub HasEdges : List ℕ → List Edge → Type 0
HasEdges text edges = AreEdges (lines_of text) edges

abbrev pub AreWorkers : ℕ → Type 0
AreWorkers workers = (0 < workers) × (workers ≤ MOST_HANDS)

-- by this number of workers a text of this length is tested
abbrev pub IsLooked : ℕ → List ℕ → Type 0
IsLooked workers text = AreWorkers workers × (length text ≤ LONGEST_TEXT)

-- what is told of a text by so many workers: its edges are noded; or there is the least bad pair of them; or why it isn't looked at; or the first line
-- without an edge; or memory is wanted
abbrev pub IsTextTested : ℕ → List ℕ → Result (Unit {0}) TextFault → Type 0
IsTextTested workers text (Ok _) = IsLooked workers text × ((edges : List Edge) × HasEdges text edges × IsNoded edges)
IsTextTested workers text (Err BadWorkers) = ¬ AreWorkers workers
IsTextTested workers text (Err TooLong) = AreWorkers workers × (LONGEST_TEXT < length text)
IsTextTested workers text (Err (Line number fault)) = IsLooked workers text × IsFirstBad (lines_of text) number fault
IsTextTested workers text (Err (NotNoded e f)) = IsLooked workers text × ((edges : List Edge) × HasEdges text edges × IsLeastBad edges e f)
IsTextTested workers text (Err Memory) = IsLooked workers text
