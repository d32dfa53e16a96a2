-- Edges have one list of directed edges of a result, and those that are no feature's border may be left out.
use Rattle.std.proofs.Common.{◌≡◌, inl, inr, ℕ, List, [], ◌∷◌, Bool, true, false, not, refl, sym, ap, ◌∙◌, arith, subst}
use Rattle.std.specs.Prelude.{◌&&◌, if◌then◌else◌}
use Rattle.std.proofs.lemmas.List.Elements.{filter_agree}
use Rattle.geom.specs.declared.point.Pt.{Pt}
use Rattle.geom.specs.declared.op.Op.{Op}
use Rattle.geom.specs.declared.edge.Edge.{Edge}
use Rattle.geom.specs.declared.directed.DirectedEdge.{DirectedEdge}
use Rattle.geom.specs.Directed.{IsDirectedBefore, RunsAlong}
use Rattle.geom.specs.Operations.{holds}
use Rattle.geom.specs.Parity as geom
use Rattle.geom.specs.Pixel.{Point}
use Rattle.geom.specs.ResultEdges.{left_side, right_side}
use Rattle.geom.proofs.Doubling.{right_is_left}
use Rattle.geom.proofs.Lists.{In, contains_in, in_contains, in_map, map_in}
use Rattle.geom.proofs.ListOrder.{same_ascending}
use Rattle.geom.proofs.Orders.{directed_before_itself, directed_before_trans}
use Rattle.points_law.proofs.Even.{by_test}
use Rattle.cover_law.specs.Changing.{changing, has_some}
use Rattle.cover_law.specs.Cover.{AreBorders, Bordered, border, cover, edge_in, edges_in, has, numbers_from}
use Rattle.cover_law.proofs.AreasAdd.{in_filter}
use Rattle.cover_law.proofs.ChangingEdges.{changing_have_same_rows, filter_in}
use Rattle.cover_law.proofs.Covers.{right_is_across}
use Rattle.covered.specs.Covered.{IsCoveredEdge, bounds_covered, has_of_a, has_of_b, holds_covered}
use Rattle.covered.specs.Laws.{ChangingHaveSameEdges, CoveredEdgesAreOne}

pub covered_edges_are_one : CoveredEdgesAreOne
covered_edges_are_one op split count edges ds es h k = same_ascending IsDirectedBefore directed_before_itself directed_before_trans ds es h.ascending k.ascending
    (λ d i. (k.exact d).1 ((h.exact d).0 i)) (λ d i. (h.exact d).1 ((k.exact d).0 i))

-- ---- an edge without features has one cover set on both sides
none_has : (f : ℕ) (fs : List ℕ) → has_some fs ≡ false → has f fs ≡ false
none_has f [] h = refl
none_has f (g ∷ gs) h = absurd (let k = h in cc)

not_turned : (t a : Bool) → t ≡ false → (if t then not a else a) ≡ a
not_turned true a h = absurd (let k = h in cc)
not_turned false a h = refl

never_both : (a b : Bool) → a ≡ b → a && not b ≡ true → ⊥
never_both a b h k = absurd (grind arith)

same_sides : (count : ℕ) (bs : List Bordered) → AreBorders bs → (b : Bordered) → In b bs → has_some b.features ≡ false → cover count bs (right_side b.edge.p b.edge.q) ≡ cover count bs (left_side b.edge.p b.edge.q)
same_sides count bs h b i n = filter_agree
    (λ f. geom.parity (border f bs) (right_side b.edge.p b.edge.q)) (λ f. geom.parity (border f bs) (left_side b.edge.p b.edge.q))
    (λ f. right_is_across bs h b (in_contains bs b i) f ∙ not_turned (has f b.features) (geom.parity (border f bs) (left_side b.edge.p b.edge.q)) (none_has f b.features n)) (numbers_from 0 count)

module _ (op : Op) (split count : ℕ) (bs : List Bordered) (h : AreBorders bs) where
  abbrev held : List ℕ → Bool
  held set = holds op (has_of_a split set) (has_of_b split set)

  no_bound : (d : DirectedEdge) (b : Bordered) → In b bs → has_some b.features ≡ false → RunsAlong d b.edge → bounds_covered op split count bs d.from d.to ≡ true → ⊥
  no_bound d b i n (inl r) t = never_both (holds_covered op split count bs (left_side b.edge.p b.edge.q)) (holds_covered op split count bs (right_side b.edge.p b.edge.q))
      (ap held (sym (same_sides count bs h b i n)))
      (subst (λ (x : DirectedEdge). bounds_covered op split count bs x.from x.to ≡ true) r t)
  no_bound d b i n (inr r) t = never_both (holds_covered op split count bs (left_side b.edge.q b.edge.p)) (holds_covered op split count bs (right_side b.edge.q b.edge.p))
      (ap held (ap (cover count bs) (sym (right_is_left b.edge.p b.edge.q)) ∙ same_sides count bs h b i n ∙ ap (cover count bs) (sym (right_is_left b.edge.q b.edge.p))))
      (subst (λ (x : DirectedEdge). bounds_covered op split count bs x.from x.to ≡ true) r t)

  same_points : (z : Point) → holds_covered op split count (changing bs) z ≡ holds_covered op split count bs z
  same_points z = ap held ((changing_have_same_rows bs h).covers count z)

  same_bounds : (u v : Pt) → bounds_covered op split count (changing bs) u v ≡ bounds_covered op split count bs u v
  same_bounds u v = ap (λ (t : Bool). t && not (holds_covered op split count (changing bs) (right_side u v))) (same_points (left_side u v))
      ∙ ap (λ (t : Bool). holds_covered op split count bs (left_side u v) && not t) (same_points (right_side u v))

  edge_to : (d : DirectedEdge) → IsCoveredEdge op split count bs d → IsCoveredEdge op split count (changing bs) d
  edge_to d r =
      let m = in_map edge_in bs r.edge (contains_in (edges_in bs) r.edge r.rounded) in
      let some : has_some (m.0).features ≡ true = by_test (has_some (m.0).features) (has_some (m.0).features ≡ true) (λ t. t) (λ n. absurd (no_bound d m.0 m.1 n (subst (λ (e : Edge). RunsAlong d e) (sym m.2) r.runs) r.bounds)) in
      record {
        edge = r.edge;
        rounded = in_contains (edges_in (changing bs)) r.edge (subst (λ (e : Edge). In e (edges_in (changing bs))) m.2 (map_in edge_in (changing bs) m.0 (filter_in (λ b. has_some b.features) bs m.0 m.1 some)));
        runs = r.runs;
        bounds = same_bounds d.from d.to ∙ r.bounds;
      }

  edge_back : (d : DirectedEdge) → IsCoveredEdge op split count (changing bs) d → IsCoveredEdge op split count bs d
  edge_back d r =
      let m = in_map edge_in (changing bs) r.edge (contains_in (edges_in (changing bs)) r.edge r.rounded) in
      record {
        edge = r.edge;
        rounded = in_contains (edges_in bs) r.edge (subst (λ (e : Edge). In e (edges_in bs)) m.2 (map_in edge_in bs m.0 (in_filter (λ b. has_some b.features) bs m.0 m.1)));
        runs = r.runs;
        bounds = sym (same_bounds d.from d.to) ∙ r.bounds;
      }

pub changing_have_same_edges : ChangingHaveSameEdges
changing_have_same_edges op split count bs h ds = (
  (λ o. record { ascending = o.ascending; exact = λ d. ((λ c. edge_to op split count bs h d ((o.exact d).0 c)), (λ k. (o.exact d).1 (edge_back op split count bs h d k))) }),
  (λ o. record { ascending = o.ascending; exact = λ d. ((λ c. edge_back op split count bs h d ((o.exact d).0 c)), (λ k. (o.exact d).1 (edge_to op split count bs h d k))) }),
)
