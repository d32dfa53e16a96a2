-- Directed edges of layers that are read as covered are those of a result on a layer, and so is their text.
use Rattle.std.proofs.Common.{ℕ, List, ap, ◌∙◌}
use Rattle.std.specs.List.{All}
use Rattle.geom.specs.declared.op.Op.{Op}
use Rattle.geom.specs.declared.op.Op.TheVariants.{Union}
use Rattle.geom.specs.declared.edge.Counted.{Counted}
use Rattle.geom.specs.declared.directed.DirectedEdge.{DirectedEdge}
use Rattle.geom.specs.Directed.{AreDirected, AreResultEdges}
use Rattle.geom.specs.Limit.{AreInLimit}
use Rattle.geom.specs.Rings.{Closes}
use Rattle.geom.proofs.Listing.{are_directed}
use Rattle.points_law.specs.Law.{AreLayers}
use Rattle.points_law.proofs.RoundVertex.{closes}
use Rattle.cover_law.specs.Changing.{changing}
use Rattle.cover_law.specs.Cover.{AreBorders, Bordered}
use Rattle.cover_law.proofs.ChangingEdges.{changing_have_same_rows}
use Rattle.covered.specs.Covered.{AreCoveredEdges}
use Rattle.covered.specs.Laws.{IsLayerOf}
use Rattle.covered.specs.Sides.{holds_of}
use Rattle.covered.proofs.CoveredEdges.{changing_have_same_edges}
use Rattle.covered.proofs.CoveredLayers.{covered_is_layer}
use Rattle.engine.specs.CoveredResults.{IsCoveredText}
use Rattle.results.specs.Results.{IsResultText}
use Rattle.results.proofs.Results.{directed_in}

module _ (op : Op) (split count : ℕ) (edges : List Bordered) (h : AreBorders edges) (directed : List DirectedEdge) (are : AreCoveredEdges op split count edges directed) where
  layer : (counted : List Counted) × IsLayerOf op split count edges counted
  layer = covered_is_layer op split count edges h

  bound : AreResultEdges Union layer.0 directed
  bound = (layer.1.directed directed).0 are

  pub covered_directed : AreDirected directed
  covered_directed = are_directed Union layer.0 directed bound

  pub covered_closes : Closes directed
  covered_closes = closes Union layer.0 layer.1.layers directed bound

  pub covered_in_limit : All (λ d. AreInLimit d.from d.to) directed
  covered_in_limit = directed_in Union layer.0 directed layer.1.layers.in_limit bound

  -- the text that is that of a result on whichever layer has these edges
  pub covered_text : (text : List ℕ) → ((o : Op) (counted : List Counted) → AreLayers counted → AreResultEdges o counted directed → IsResultText o counted text) → IsCoveredText op split count edges text
  covered_text text f =
      let r = f Union layer.0 layer.1.layers bound in
      let result = r.result in
      record {
        directed = result.directed;
        bound = (layer.1.directed result.directed).1 result.bound;
        polygons = r.polygons;
        are_polygons = result.are_polygons;
        each_edge = result.each_edge;
        simple = result.simple;
        least = result.least;
        points = λ z. result.points z ∙ layer.1.points z;
        written = r.written;
        reads = r.reads;
      }

-- ---- edges that are no feature's border may be left out
pub whole_text : (op : Op) (split count : ℕ) (edges : List Bordered) → AreBorders edges → (text : List ℕ) → IsCoveredText op split count (changing edges) text → IsCoveredText op split count edges text
whole_text op split count edges h text r = record {
  directed = r.directed;
  bound = (changing_have_same_edges op split count edges h r.directed).1 r.bound;
  polygons = r.polygons;
  are_polygons = r.are_polygons;
  each_edge = r.each_edge;
  simple = r.simple;
  least = r.least;
  points = λ z. r.points z ∙ ap (holds_of op split) ((changing_have_same_rows edges h).covers count z);
  written = r.written;
  reads = r.reads;
}
