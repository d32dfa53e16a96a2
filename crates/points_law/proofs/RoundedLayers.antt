-- The rounded edges of closed segments within the limit are layers to which the theorem applies, once they are noded.
use Rattle.std.proofs.Common.{◌≡◌, ◌⊎◌, inl, inr, ℕ, zero, suc, ◌+◌, ◌<◌, List, arith, subst, ⊎_elim}
use Rattle.std.proofs.Math.IntN.{ℤ}
use Rattle.std.proofs.lemmas.Int.{ints}
use Rattle.std.proofs.lemmas.List.Elements.{All-contains}
use Rattle.std.specs.List.{All, Contains}
use Rattle.geom.specs.declared.point.Pt.{Pt}
use Rattle.geom.specs.declared.segment.Source.TheVariants.{A, B}
use Rattle.geom.specs.declared.segment.Seg.{Seg}
use Rattle.geom.specs.declared.edge.Edge.{Edge}
use Rattle.geom.specs.declared.edge.Counted.{Counted}
use Rattle.geom.specs.Limit.{IsWithin, InLimit, AreInLimit, coordinate_limit}
use Rattle.geom.specs.Noded.{IsNoded}
use Rattle.geom.specs.Route.{IsRoute}
use Rattle.geom.specs.Rounded.{AreRounded, count, edges_of}
use Rattle.geom.specs.Segments.{AreClosed}
use Rattle.geom.proofs.Along.{Between, meets_box}
use Rattle.geom.proofs.Lists.{In, in_contains, in_map}
use Rattle.geom.proofs.Pixels.{piece, meets_in}
use Rattle.geom.proofs.RouteLists.{AreNext}
use Rattle.geom.proofs.Steps.{FromRoute, from_count}
use Rattle.geom.proofs.Owners.{all_in}
use Rattle.points_law.specs.Law.{AreLayers}
use Rattle.points_law.proofs.Degrees.{closed_even}

-- what is from one end to the other is within the limit, as they are
pub between_within : (n : ℕ) (a b c : ℤ) → IsWithin n a → IsWithin n b → Between a b c → IsWithin n c
between_within n a b c h k (inl m) = record { low = omega (arith, ints); high = omega (arith, ints) }
between_within n a b c h k (inr m) = record { low = omega (arith, ints); high = omega (arith, ints) }

module _ (segments : List Seg) (counted : List Counted) (R : AreRounded segments counted) (limits : All (λ (s : Seg). AreInLimit s.a s.b) segments) where
  met_in_limit : (s : Seg) (route : List Pt) (c : Pt) → In s segments → IsRoute segments s route → Contains route c → InLimit c
  met_in_limit s route c i r k =
      let l : AreInLimit s.a s.b = All-contains (λ (t : Seg). AreInLimit t.a t.b) segments s limits (in_contains segments s i) in
      let box = meets_box (piece s) c (meets_in s c ((r.exact c).0 k).1) in
      record { x_in = between_within coordinate_limit s.a.x s.b.x c.x l.a_in.x_in l.b_in.x_in box.0; y_in = between_within coordinate_limit s.a.y s.b.y c.y l.a_in.y_in l.b_in.y_in box.1 }

  first_of : (route : List Pt) (c e : Pt) → AreNext route c e → Contains route c
  first_of route c e n = (n.k, (let l = n.inside in omega arith), n.c_is)

  second_of : (route : List Pt) (c e : Pt) → AreNext route c e → Contains route e
  second_of route c e n = (suc n.k, n.inside, n.e_is)

  ends_in_limit : (e : Edge) → FromRoute segments segments e → AreInLimit e.p e.q
  ends_in_limit e h = ⊎_elim
      (λ n. record { a_in = met_in_limit h.s h.route e.p h.inside h.is_route (first_of h.route e.p e.q n); b_in = met_in_limit h.s h.route e.q h.inside h.is_route (second_of h.route e.p e.q n) })
      (λ n. record { a_in = met_in_limit h.s h.route e.p h.inside h.is_route (second_of h.route e.q e.p n); b_in = met_in_limit h.s h.route e.q h.inside h.is_route (first_of h.route e.q e.p n) })
      h.next

  counted_once : (m n a b : ℕ) → m ≡ a → n ≡ b → 0 < a + b → (0 < m) ⊎ (0 < n)
  counted_once zero n a b h k l = inr (omega arith)
  counted_once (suc m) n a b h k l = inl (omega arith)

  edge_in_limit : (e : Edge) → In e (edges_of counted) → AreInLimit e.p e.q
  edge_in_limit e i =
      let m = in_map (λ (c : Counted). c.edge) counted e i in
      let c = m.0 in
      let t = (R.exact c).0 (in_contains counted c m.1) in
      subst (λ (f : Edge). AreInLimit f.p f.q) m.2
      (⊎_elim
      (λ l. ends_in_limit c.edge (from_count segments A c.edge R.routes R.are_routes l))
      (λ l. ends_in_limit c.edge (from_count segments B c.edge R.routes R.are_routes l))
      (counted_once (count A c.edge segments R.routes) (count B c.edge segments R.routes) c.in_a c.in_b t.0 t.1 t.2))

  pub rounded_layers : AreClosed A segments → AreClosed B segments → IsNoded (edges_of counted) → AreLayers counted
  rounded_layers a b n = record {
    ascending = R.ascending;
    in_limit = all_in (λ (e : Edge). AreInLimit e.p e.q) (edges_of counted) edge_in_limit;
    noded = n;
    even_a = closed_even segments counted R A a;
    even_b = closed_even segments counted R B b;
  }
