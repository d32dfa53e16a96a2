-- Two parts of directed edges that are apart: all edges at a vertex of a part are edges of that part.
use Rattle.std.proofs.Common.{◌≡◌, inl, inr, List, refl, sym, subst, ⊎_elim}
use Rattle.std.specs.Prelude.{Contains}
use Rattle.geom.specs.declared.point.Pt.{Pt}
use Rattle.geom.specs.declared.directed.DirectedEdge.{DirectedEdge}
use Rattle.geom.specs.Directed.{AreDirected, from_to}
use Rattle.geom.specs.Rings.{IsNeighbour, IsNext}
use Rattle.parts_law.specs.Apart.{AreApart, HaveOtherEnds}
use Rattle.parts_law.specs.Ties.{AreOthers}

-- no edge ends where it begins
pub two_ends : (directed : List DirectedEdge) → AreDirected directed → (u v : Pt) → Contains directed (from_to u v) → ¬ (u ≡ v)
two_ends directed a u v i e = let j = subst (λ (x : Pt). Contains directed (from_to x v)) e i in a.one_way v v j j

-- ---- edges of a part are edges of all
pub among : (directed these others : List DirectedEdge) → AreOthers directed these others → (d : DirectedEdge) → Contains these d
    → Contains directed d
among directed these others o d i = (o.either d).1 (inl i)

-- an edge that is not one of the others is one of these
not_other : (directed these others : List DirectedEdge) → AreOthers directed these others → (d : DirectedEdge) → Contains directed d
    → ¬ (Contains others d) → Contains these d
not_other directed these others o d i n = ⊎_elim (λ j. j) (λ j. absurd (n j)) ((o.either d).0 i)

-- ---- the parts in the other order
pub others_are_apart : (directed these others : List DirectedEdge) → AreApart directed these others → AreApart directed others these
others_are_apart directed these others apart = record {
  ascending = apart.are_others.ascending;
  are_others = turned;
  vertices = λ d e i j. other_ends e d (apart.vertices e d j i);
  holes = λ u v w c d n. let h = apart.holes u v w c d n in (
    (λ i. not_other directed others these turned d n.inside (λ j. turned.not_both (from_to v w) i (h.1 j))),
    (λ i. not_other directed others these turned (from_to v w) c.goes (λ j. turned.not_both d i (h.0 j))),
  );
}
  where
    turned : AreOthers directed others these
    turned = record {
      ascending = apart.ascending;
      either = λ d. ((λ i. ⊎_elim inr inl ((apart.are_others.either d).0 i)), (λ o. (apart.are_others.either d).1 (⊎_elim inr inl o)));
      not_both = λ d i j. apart.are_others.not_both d j i;
    }

    other_ends : (d e : DirectedEdge) → HaveOtherEnds d e → HaveOtherEnds e d
    other_ends d e h = record {
      starts = λ q. h.starts (sym q);
      start_end = λ q. h.end_start (sym q);
      end_start = λ q. h.start_end (sym q);
      ends = λ q. h.ends (sym q);
    }

-- ---- what is at a vertex of a part
module _ (directed these others : List DirectedEdge) (apart : AreApart directed these others) where
  -- an edge to the start of one of these is one of these
  pub comes_in_part : (u v w : Pt) → Contains these (from_to v w) → Contains directed (from_to u v) → Contains these (from_to u v)
  comes_in_part u v w c i = not_other directed these others apart.are_others (from_to u v) i
      (λ j. (apart.vertices (from_to v w) (from_to u v) c j).start_end refl)

  -- so is one from its end
  pub goes_in_part : (u v w : Pt) → Contains these (from_to u v) → Contains directed (from_to v w) → Contains these (from_to v w)
  goes_in_part u v w c i = not_other directed these others apart.are_others (from_to v w) i
      (λ j. (apart.vertices (from_to u v) (from_to v w) c j).end_start refl)

  -- and so is any that joins another vertex to its end
  neighbour_in_part : (u v a : Pt) → Contains these (from_to u v) → IsNeighbour directed v a → IsNeighbour these v a
  neighbour_in_part u v a c (inl i) = inl (goes_in_part u v a c i)
  neighbour_in_part u v a c (inr i) = inr (not_other directed these others apart.are_others (from_to a v) i
      (λ j. (apart.vertices (from_to u v) (from_to a v) c j).ends refl))

  pub neighbour_of_part : (v a : Pt) → IsNeighbour these v a → IsNeighbour directed v a
  neighbour_of_part v a (inl i) = inl (among directed these others apart.are_others (from_to v a) i)
  neighbour_of_part v a (inr i) = inr (among directed these others apart.are_others (from_to a v) i)

  -- so what comes next among all edges comes next in the part, and the other way round
  pub next_in_part : (u v w : Pt) → Contains these (from_to u v) → IsNext directed u v w → IsNext these u v w
  next_in_part u v w c n = record {
    near = neighbour_in_part u v w c n.near;
    other = n.other;
    first = λ a h. n.first a (neighbour_of_part v a h);
  }

  pub next_of_part : (u v w : Pt) → Contains these (from_to u v) → IsNext these u v w → IsNext directed u v w
  next_of_part u v w c n = record {
    near = neighbour_of_part v w n.near;
    other = n.other;
    first = λ a h. n.first a (neighbour_in_part u v a c h);
  }
