-- The owner of a ring is one, and the directed edges of a result are noded.
use Rattle.std.proofs.Common.{inl, inr, List, sym, ap, subst}
use Rattle.std.specs.Prelude.{Contains}
use Rattle.geom.specs.declared.op.Op.{Op}
use Rattle.geom.specs.declared.point.Pt.{Pt}
use Rattle.geom.specs.declared.edge.Edge.{Edge}
use Rattle.geom.specs.declared.edge.Counted.{Counted}
use Rattle.geom.specs.declared.directed.DirectedEdge.{DirectedEdge}
use Rattle.geom.specs.Directed.{RunsAlong, AreDirected, AreResultEdges}
use Rattle.geom.specs.NodedEdges.{AreNodedEdges}
use Rattle.geom.specs.Rings.{AreRings}
use Rattle.geom.specs.Rounded.{edges_of}
use Rattle.geom.specs.Holes.{AreGrounded}
use Rattle.geom.proofs.OneOwner.{one_owner}
use Rattle.geom.proofs.Owners.{has_owner, owner_inside}
use Rattle.points_law.specs.Law.{AreLayers}
use Rattle.points_law.specs.Polygons.{HasOneOwner}
use Rattle.points_law.proofs.Spokes.{Joins, one_edge}

pub has_one_owner : (directed : List DirectedEdge) (rings : List (List Pt)) → AreDirected directed → AreNodedEdges directed → AreRings directed rings → AreGrounded directed rings → (ring : List Pt) → Contains rings ring → HasOneOwner directed rings ring
has_one_owner directed rings a noded are grounded ring i =
    let o = has_owner directed rings are grounded ring i in
    let s = owner_inside directed rings ring o.0 o.1 in
    record { shell = o.0; inside = s.0; is_shell = s.1; owner = o.1; one = λ other p. one_owner directed rings a noded are ring other o.0 p o.1 }

-- a directed edge runs along one edge
joins_along : (d : DirectedEdge) (e : Edge) → RunsAlong d e → Joins d.to d.from e
joins_along d e (inl k) = inr (sym (ap (λ (x : DirectedEdge). x.to) k), sym (ap (λ (x : DirectedEdge). x.from) k))
joins_along d e (inr k) = inl (sym (ap (λ (x : DirectedEdge). x.to) k), sym (ap (λ (x : DirectedEdge). x.from) k))

rounded_along : (op : Op) (counted : List Counted) (directed : List DirectedEdge) → AreResultEdges op counted directed → (d : DirectedEdge) (e : Edge) → Contains directed d → RunsAlong d e → Contains (edges_of counted) e
rounded_along op counted directed r d e i k = let b = (r.exact d).0 i in
    subst (Contains (edges_of counted)) (one_edge d.to d.from b.edge e (joins_along d b.edge b.runs) (joins_along d e k)) b.rounded

pub noded_result : (op : Op) (counted : List Counted) (directed : List DirectedEdge) → AreLayers counted → AreResultEdges op counted directed → AreNodedEdges directed
noded_result op counted directed h r c d e f i j k l = h.noded e f (rounded_along op counted directed r c e i k) (rounded_along op counted directed r d f j l)
