-- From the test of directed edges, and the polygons along them, to what the call tells; and what it tells of those of a result.
use Rattle.std.proofs.Common.{◌≡◌, ◌<◌, ◌∙◌, ◌-◌, inl, inr, ℕ, List, arith, get_or, length, refl, subst, sym}
use Rattle.std.specs.Prelude.{All, AllPairs, Contains, Err, IfOk, Ok, Result}
use Rattle.std.proofs.lemmas.List.{get_or-map, length-map}
use Rattle.std.proofs.lemmas.List.Elements.{All-map, Contains-get_or}
use Rattle.geom.specs.declared.edge.Counted.{Counted}
use Rattle.geom.specs.declared.directed.DirectedEdge.{DirectedEdge}
use Rattle.geom.specs.declared.op.Op.{Op}
use Rattle.geom.specs.declared.point.Pt.{Pt}
use Rattle.columns.specs.declared.answer.OwnedColumns.{OwnedColumns}
use Rattle.columns.specs.Answers.{AreColumnsOf}
use Rattle.geom.specs.Canonical.{ArePolygons, HaveEachEdge, Shape, written_rings}
use Rattle.geom.specs.Holes.{HasGroundedRings}
use Rattle.geom.specs.ListOrder.{IsLeastRotation}
use Rattle.geom.specs.NodedEdges.{AreNodedEdges}
use Rattle.polygonize.specs.Written.{AreSimple}
use Rattle.geom.specs.Directed.{AreResultEdges, IsDirectedBefore, from_to}
use Rattle.geom.specs.Limit.{AreInLimit}
use Rattle.geom.specs.Order.{IsBefore}
use Rattle.geom.proofs.Orders.{before_trans}
use Rattle.points_law.specs.Law.{AreLayers}
use Rattle.geom.specs.Rings.{Closes}
use Rattle.points_law.proofs.RoundVertex.{closes, grounded}
use Rattle.points_law.proofs.TextParity.{text_has_parity}
use Rattle.polygonize.proofs.ClosedVertices.Found.{never_open}
use Rattle.results.specs.Results.{IsResult}
use Rattle.results.proofs.Results.{directed_in, noded_edges}
use Rattle.overlay_c.specs.declared.columns_answer.OverlayColumnsAnswer.{OverlayColumnsAnswer}
use Rattle.overlay_c.specs.declared.strip_items.OverlayDirected.{OverlayDirected}
use Rattle.overlay_c.specs.Columns.{AreListsOf, Lists, lists_of, refused_answer}
use Rattle.overlay_c.specs.Polygons.{AreDirectedItems, ArePolygonColumns, ArePolygonsAlong, FailsPolygons, IsDirectedItem, IsDirectedItemBefore, IsProper, ResultsHavePolygons, directed_edge, directed_edges}
use Rattle.overlay_c.specs.Polygons.FailsPolygons.{bad_edge, no_memory, open_edge}
use Rattle.overlay_c.proofs.StripLists.{all_pairs, each_item}

-- ---- what is in place
directed_trans : (x y z : DirectedEdge) → IsDirectedBefore x y → IsDirectedBefore y z → IsDirectedBefore x z
directed_trans x y z (inl h) (inl k) = inl (before_trans x.from y.from z.from h k)
directed_trans x y z (inl h) (inr k) = inl (subst (λ (p : Pt). IsBefore x.from p) k.0 h)
directed_trans x y z (inr h) (inl k) = inl (subst (λ (p : Pt). IsBefore p z.from) (sym h.0) k)
directed_trans x y z (inr h) (inr k) = inr (h.0 ∙ k.0, before_trans x.to y.to z.to h.1 k.1)

module _ (items : List OverlayDirected) (h : AreDirectedItems items) where
  pub edges_limited : All (λ d. AreInLimit d.from d.to) (directed_edges items)
  edges_limited = All-map (λ (d : DirectedEdge). AreInLimit d.from d.to) directed_edge items (λ k d l. (each_item IsDirectedItem IsDirectedItemBefore items h k d l).in_limit)

  pub edges_ascend : AllPairs IsDirectedBefore (directed_edges items)
  edges_ascend i j d l m = let n : j < length items = subst (λ (n : ℕ). j < n) (length-map items directed_edge) m in let o : OverlayDirected = back d in
      subst (λ (e : DirectedEdge). IsDirectedBefore e (get_or (directed_edges items) j d)) (sym (get_or-map directed_edge items i o d (omega (arith, l, n))))
      (subst (λ (e : DirectedEdge). IsDirectedBefore (directed_edge (get_or items i o)) e) (sym (get_or-map directed_edge items j o d n))
      (all_pairs IsDirectedItem IsDirectedItemBefore items h (λ x y z. directed_trans (directed_edge x) (directed_edge y) (directed_edge z)) i j o l n))
    where
      back : DirectedEdge → OverlayDirected
      back d = record { ax = d.from.x; ay = d.from.y; bx = d.to.x; by = d.to.y }

-- ---- the polygons along edges
pub told_along : {M E : Type 0} (ds edges : List DirectedEdge) (passed shapes : List Shape) (made : Result (OwnedColumns M) E) → ds ≡ edges → passed ≡ shapes → Closes edges
    → (AreNodedEdges ds → HasGroundedRings ds → ArePolygons ds shapes) → HaveEachEdge ds shapes → AreSimple (written_rings shapes) → All (λ ring. IsLeastRotation ring ring) (written_rings shapes)
    → IfOk made (λ c. AreColumnsOf passed c) → IfOk made (λ c. ArePolygonsAlong edges (lists_of c))
told_along ds edges passed shapes (Ok c) same is close polygons each simple least columns = subst (λ (es : List DirectedEdge). ArePolygonsAlong es (lists_of c)) same (record {
  closes = subst Closes (sym same) close;
  shapes = shapes;
  columns = (let h : AreColumnsOf shapes c = subst (λ (p : List Shape). AreColumnsOf p c) is columns in record { points = h.have.points; rings = h.have.offsets; polygons = h.offsets });
  each_edge = each;
  simple = simple;
  least = least;
  are_polygons = polygons;
})
told_along ds edges passed shapes (Err e) same is close polygons each simple least columns = tt

-- ---- the edges of a result
module _ (op : Op) (counted : List Counted) (items : List OverlayDirected) (layers : AreLayers counted) (are : AreResultEdges op counted (directed_edges items)) (close : Closes (directed_edges items)) where
  abbrev edges : List DirectedEdge
  edges = directed_edges items

  at : (k : ℕ) (o : OverlayDirected) → k < length items → get_or edges k (directed_edge o) ≡ directed_edge (get_or items k o)
  at k o h = get_or-map directed_edge items k o (directed_edge o) h

  inside : (k : ℕ) → k < length items → k < length edges
  inside k h = subst (λ (n : ℕ). k < n) (sym (length-map items directed_edge)) h

  proper : (k : ℕ) (o : OverlayDirected) → k < length items → IsDirectedItem (get_or items k o)
  proper k o h = subst IsProper (at k o h) (record {
    in_limit = directed_in op counted edges layers.in_limit are k (directed_edge o) (inside k h);
    apart = λ e. loops (get_or edges k (directed_edge o)) (Contains-get_or edges k (directed_edge o) (inside k h)) e;
  })
    where
      loops : (d : DirectedEdge) → Contains edges d → d.from ≡ d.to → ⊥
      loops d c e = let h : Contains edges (from_to d.to d.to) = subst (λ (p : Pt). Contains edges (from_to p d.to)) e c in close.are_directed.one_way d.to d.to h h

  in_place : AreDirectedItems items
  in_place k h = record {
    is_item = λ o. proper k o h;
    behind = λ o some. subst (λ (e : DirectedEdge). IsDirectedBefore (directed_edge (get_or items (k - 1) o)) e) (at k o h)
        (subst (λ (e : DirectedEdge). IsDirectedBefore e (get_or edges k (directed_edge o))) (at (k - 1) o (omega (arith, h))) (are.ascending (k - 1) k (directed_edge o) (omega (arith, some)) (inside k h)));
  }

  -- the item at a place is in place, whatever is told of a bad one
  pub only_memory : (answer : OverlayColumnsAnswer) → FailsPolygons items answer → answer ≡ refused_answer 1 10 2 0
  only_memory answer (bad_edge place b) = absurd (b.bad (in_place place b.within))
  only_memory answer (open_edge i place o) = absurd (never_open edges place close o)
  only_memory answer (no_memory i) = refl

  pub result_told : (lists : Lists) → ArePolygonColumns items lists → (shapes : List Shape) × IsResult op counted shapes × AreListsOf shapes lists
  result_told lists h = (
    h.along.shapes,
    record {
      directed = edges;
      bound = are;
      are_polygons = h.along.are_polygons (noded_edges op counted edges layers.noded are) (λ rings r. grounded op counted layers edges are rings r);
      each_edge = h.along.each_edge;
      simple = h.along.simple;
      least = h.along.least;
      points = text_has_parity op counted layers edges are h.along.shapes h.along.each_edge;
    },
    h.along.columns,
  )

pub results_told : ResultsHavePolygons
results_told op counted items layers are = let c = closes op counted layers (directed_edges items) are in (result_told op counted items layers are c, only_memory op counted items layers are c)
