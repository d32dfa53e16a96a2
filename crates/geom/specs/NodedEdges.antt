-- Directed edges that meet only at ends (own).
use Rattle.std.specs.Prelude.{◌≢◌, List, Contains}
use Rattle.geom.specs.declared.edge.Edge.{Edge}
use Rattle.geom.specs.declared.directed.DirectedEdge.{DirectedEdge}
use Rattle.geom.specs.Noded.{MeetOnlyAtEnds}
use Rattle.geom.specs.Directed.{RunsAlong}

-- two edges that different directed edges run along share no point but a common end
abbrev pub AreNodedEdges : List DirectedEdge → Type 0
AreNodedEdges directed = (c d : DirectedEdge) (e f : Edge) → Contains directed c → Contains directed d → RunsAlong c e → RunsAlong d f → e ≢ f → MeetOnlyAtEnds e f
