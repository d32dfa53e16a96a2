-- The segments, the rounded edges and the result edges of two layers are one list each.
use Rattle.std.proofs.Common.{◌≡◌, ◌+◌, ◌<◌, List, [], ◌∷◌, map, refl, sym, ◌∙◌, ap, subst}
use Rattle.std.proofs.Props.{props}
use Rattle.std.specs.Prelude.{◌≢◌, Contains}
use mathlib.Core.HLevel.{is_prop→PathP}
use Rattle.geom.specs.declared.op.Op.{Op}
use Rattle.geom.specs.declared.point.Pt.{Pt}
use Rattle.geom.specs.declared.segment.Seg.{Seg}
use Rattle.geom.specs.declared.segment.Source.{Source}
use Rattle.geom.specs.declared.segment.Source.TheVariants.{A, B}
use Rattle.geom.specs.declared.edge.Counted.{Counted}
use Rattle.geom.specs.declared.directed.DirectedEdge.{DirectedEdge}
use Rattle.geom.specs.Directed.{IsDirectedBefore, AreResultEdges}
use Rattle.geom.specs.EdgeOrder.{IsEdgeBefore}
use Rattle.geom.specs.Route.{IsRoute, AreRoutes}
use Rattle.geom.specs.Route.AreRoutes.{none, next}
use Rattle.geom.specs.Rounded.{count, AreRounded}
use Rattle.geom.specs.Segments.{parts, AreSegments}
use Rattle.geom.specs.Canonical.{Shape, ArePolygons}
use Rattle.geom.proofs.ListOrder.{same_ascending}
use Rattle.geom.proofs.Orders.{directed_before_itself, directed_before_trans, edge_before_itself, edge_before_trans}
use Rattle.geom.proofs.RouteLaws.{one_route}
use Rattle.geom.proofs.SamePolygons.{same_polygons}
use Rattle.points_law.specs.Polygons.{AreResultPolygons}

-- ---- segments
pub apart_prop : (a b : Pt) → IsProp (a ≢ b)
apart_prop a b = hlevel props

-- a segment is told by its ends and its layer
pub segment_path : (s t : Seg) → s.a ≡ t.a → s.b ≡ t.b → s.layer ≡ t.layer → s ≡ t
segment_path s t a b l = λ i. record { a = a i; b = b i; layer = l i; proper = is_prop→PathP (λ j. a j ≢ b j) (λ j. apart_prop (a j) (b j)) s.proper t.proper i }

pub same_segments : (ss ts : List Seg) → map parts ss ≡ map parts ts → ss ≡ ts
same_segments [] [] e = refl
same_segments [] (t ∷ ts) e = absurd (cc)
same_segments (s ∷ ss) [] e = absurd (cc)
same_segments (s ∷ ss) (t ∷ ts) e =
    let h : parts s ≡ parts t = cc in
    let r : map parts ss ≡ map parts ts = cc in
    ap (λ z. z ∷ ss) (segment_path s t (ap (λ (p : Pt × Pt × Source). p.0) h) (ap (λ (p : Pt × Pt × Source). p.1) h) (ap (λ (p : Pt × Pt × Source). p.2) h)) ∙ ap (λ zs. t ∷ zs) (same_segments ss ts r)

pub one_segments : (a b : List (List Pt)) (ss ts : List Seg) → AreSegments a b ss → AreSegments a b ts → ss ≡ ts
one_segments a b ss ts h k = same_segments ss ts (h ∙ sym k)

-- ---- rounded edges
pub same_routes : {segments ss ts : List Seg} {rs us : List (List Pt)} → AreRoutes segments ss rs → AreRoutes segments ts us → ss ≡ ts → rs ≡ us
same_routes none none e = refl
same_routes none (next h r) e = absurd (cc)
same_routes (next h r) none e = absurd (cc)
same_routes {segments} (next {s = s} {route = r} {ss = ss} {routes = rs} h m) (next {s = t} {route = u} {ss = ts} {routes = us} k n) e = joined (same_routes m n (cc))
  where
    first : s ≡ t
    first = cc

    one : r ≡ u
    one = one_route segments s r u h (subst (λ (x : Seg). IsRoute segments x u) (sym first) k)

    joined : rs ≡ us → r ∷ rs ≡ u ∷ us
    joined q = ap (λ z. z ∷ rs) one ∙ ap (λ zs. u ∷ zs) q

abbrev IsCounted : List Seg → Counted → List (List Pt) → Type 0
IsCounted segments c routes = (count A c.edge segments routes ≡ c.in_a) × (count B c.edge segments routes ≡ c.in_b) × (0 < c.in_a + c.in_b)

pub one_rounded : (segments : List Seg) (cs ds : List Counted) → AreRounded segments cs → AreRounded segments ds → cs ≡ ds
one_rounded segments cs ds h k = same_ascending (λ (c d : Counted). IsEdgeBefore c.edge d.edge) (λ c. edge_before_itself c.edge) (λ c d e. edge_before_trans c.edge d.edge e.edge) cs ds h.ascending k.ascending there back
  where
    routes : h.routes ≡ k.routes
    routes = same_routes h.are_routes k.are_routes refl

    there : (c : Counted) → Contains cs c → Contains ds c
    there c i = (k.exact c).1 (subst (IsCounted segments c) routes ((h.exact c).0 i))

    back : (c : Counted) → Contains ds c → Contains cs c
    back c i = (h.exact c).1 (subst (IsCounted segments c) (sym routes) ((k.exact c).0 i))

-- ---- result edges
pub one_directed : (op : Op) (counted : List Counted) (ds es : List DirectedEdge) → AreResultEdges op counted ds → AreResultEdges op counted es → ds ≡ es
one_directed op counted ds es h k = same_ascending IsDirectedBefore directed_before_itself directed_before_trans ds es h.ascending k.ascending
    (λ d i. (k.exact d).1 ((h.exact d).0 i)) (λ d i. (h.exact d).1 ((k.exact d).0 i))

-- ---- polygons
pub one_result : (op : Op) (a b : List (List Pt)) (ps qs : List Shape) → AreResultPolygons op a b ps → AreResultPolygons op a b qs → ps ≡ qs
one_result op a b ps qs h k = same_polygons k.directed k.are_edges.ascending ps qs (subst (λ (ds : List DirectedEdge). ArePolygons ds ps) edges h.are_polygons) k.are_polygons
  where
    segments : h.segments ≡ k.segments
    segments = one_segments a b h.segments k.segments h.are_segments k.are_segments

    rounded : h.counted ≡ k.counted
    rounded = one_rounded k.segments h.counted k.counted (subst (λ (ss : List Seg). AreRounded ss h.counted) segments h.are_rounded) k.are_rounded

    edges : h.directed ≡ k.directed
    edges = one_directed op k.counted h.directed k.directed (subst (λ (cs : List Counted). AreResultEdges op cs h.directed) rounded h.are_edges) k.are_edges
