-- Hobby's theorem for the lists of rounded edges.
use Rattle.std.proofs.Common.{◌≡◌, ◌⊎◌, inl, inr, ℕ, zero, suc, ◌+◌, ◌<◌, List, arith, subst, ⊎_elim}
use Rattle.std.specs.List.{Contains}
use Rattle.geom.specs.declared.point.Pt.{Pt}
use Rattle.geom.specs.declared.segment.Source.TheVariants.{A, B}
use Rattle.geom.specs.declared.segment.Seg.{Seg}
use Rattle.geom.specs.declared.edge.Edge.{Edge}
use Rattle.geom.specs.declared.edge.Counted.{Counted}
use Rattle.geom.specs.Pixel.{Point, Coincides}
use Rattle.geom.specs.Rounded.{AreRounded, edges_of, count}
use Rattle.geom.specs.Noded.{IsEnd, IsNoded}
use Rattle.geom.proofs.Pixels.{piece}
use Rattle.geom.proofs.RouteLaws.{Among, among, all_proper, route_in}
use Rattle.geom.proofs.Edges.{edge_path, not_turned}
use Rattle.geom.proofs.Lists.{contains_in, in_contains, in_map}
use Rattle.geom.proofs.RouteLists.{IsRoundedEdge}
use Rattle.noding_law.proofs.Routes.{rounded_edges_noded}
use Rattle.geom.proofs.Steps.{FromRoute, from_count}

pub rounded_from : (segments : List Seg) (e : Edge) → FromRoute segments segments e → IsRoundedEdge (Among segments) e.p e.q
rounded_from segments e h = (piece h.s, h.route, among segments h.s (in_contains segments h.s h.inside), route_in segments h.s h.route h.is_route, h.next)

counted_once : (m n a b : ℕ) → m ≡ a → n ≡ b → 0 < a + b → (0 < m) ⊎ (0 < n)
counted_once zero n a b h k l = inr (omega arith)
counted_once (suc m) n a b h k l = inl (omega arith)

-- a rounded edge joins neighbours in the route of a segment
rounded : (segments : List Seg) (counted : List Counted) → AreRounded segments counted → (e : Edge) → Contains (edges_of counted) e → IsRoundedEdge (Among segments) e.p e.q
rounded segments counted R e i =
    let m = in_map (λ (c : Counted). c.edge) counted e (contains_in (edges_of counted) e i) in
    let c = m.0 in
    let t = (R.exact c).0 (in_contains counted c m.1) in
    subst (λ (f : Edge). IsRoundedEdge (Among segments) f.p f.q) m.2
    (⊎_elim
    (λ l. rounded_from segments c.edge (from_count segments A c.edge R.routes R.are_routes l))
    (λ l. rounded_from segments c.edge (from_count segments B c.edge R.routes R.are_routes l))
    (counted_once (count A c.edge segments R.routes) (count B c.edge segments R.routes) c.in_a c.in_b t.0 t.1 t.2))

pub end_of : (e : Edge) (z : Point) (o : Pt) → (o ≡ e.p) ⊎ (o ≡ e.q) → Coincides o z → IsEnd e z
end_of e z o (inl h) k = ∣ inl (subst (λ v. Coincides v z) h k) ∣₁
end_of e z o (inr h) k = ∣ inr (subst (λ v. Coincides v z) h k) ∣₁

pub rounded_noded : (segments : List Seg) (counted : List Counted) → AreRounded segments counted → IsNoded (edges_of counted)
rounded_noded segments counted R e f i j d z o o' =
    let h = rounded_edges_noded (Among segments) (all_proper segments) e.p e.q f.p f.q z (rounded segments counted R e i) (rounded segments counted R f j)
    (λ (p, q). d (edge_path e f p q)) (λ (p, q). not_turned e f p q) o o' in
    (end_of e z h.o h.end_of_first h.is, end_of f z h.o h.end_of_second h.is)
