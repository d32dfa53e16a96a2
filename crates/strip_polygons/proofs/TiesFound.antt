-- The links of three kinds are the ties of all edges.
use Rattle.std.proofs.Common.{◌<◌, List, [], length, ⊎_elim, arith}
use Rattle.std.specs.Prelude.{All, AllPairs, Contains}
use Rattle.std.proofs.lemmas.List.Elements.{All-contains_itself, All-weaker}
use Rattle.geom.specs.declared.directed.DirectedEdge.{DirectedEdge}
use Rattle.geom.specs.Directed.{AreDirected, IsDirectedBefore}
use Rattle.geom.specs.NodedEdges.{AreNodedEdges}
use Rattle.parts_law.specs.Ties.{AreTied}
use Rattle.polygonize.specs.Next.{edge_at}
use Rattle.strip_polygons.specs.declared.classes.Link.{Link}
use Rattle.strip_polygons.specs.Classes.{AreLinksBelow}
use Rattle.strip_polygons.specs.Parting.{AddsTies, AreTies, IsTie, LinkFollowing, LinkLeaving, LinkUnder}
use Rattle.strip_polygons.proofs.TiesLinks.{both_added}
use Rattle.strip_polygons.proofs.TiesRuns.{tied_chained}

module _ (directed : List DirectedEdge) (leaving following under : List Link) (first : AddsTies directed [] leaving)
    (second : AddsTies directed leaving following) (third : AddsTies directed following under) where
  each_tie : (l : Link) → Contains under l → IsTie directed l
  each_tie l h = ⊎_elim (λ (c : Contains [] l). absurd (let b = c.1 in omega arith)) (λ (t : IsTie directed l). t)
      ((both_added directed [] following under (both_added directed [] leaving following first second) third).sound l h)

  pub links_inside : AreLinksBelow (length directed) under
  links_inside = All-weaker (Contains under) (λ l. (l.first < length directed) × (l.second < length directed))
      (λ l h. let t = each_tie l h in (t.first_inside, t.second_inside)) under (All-contains_itself under)

  links_sound : All (λ l. AreTied directed (edge_at directed l.first) (edge_at directed l.second)) under
  links_sound = All-weaker (Contains under) (λ l. AreTied directed (edge_at directed l.first) (edge_at directed l.second))
      (λ l h. (each_tie l h).tied) under (All-contains_itself under)

  -- what was linked stays linked
  leaving_kept : LinkLeaving directed (length directed) leaving → LinkLeaving directed (length directed) under
  leaving_kept h i below e = third.kept _ (second.kept _ (h i below e))

  following_kept : LinkFollowing directed (length directed) following → LinkFollowing directed (length directed) under
  following_kept h i j low high e = let k = h i j low high e in record {
    place = k.place;
    up_to = k.up_to;
    one_start = k.one_start;
    linked = third.kept _ k.linked;
  }

  pub links_are_ties : AllPairs IsDirectedBefore directed → LinkLeaving directed (length directed) leaving
      → LinkFollowing directed (length directed) following → LinkUnder directed under
      → AreDirected directed → AreNodedEdges directed → AreTies directed under
  links_are_ties ascending l f u are noded = record {
    inside = links_inside;
    sound = links_sound;
    complete = tied_chained directed ascending under (leaving_kept l) (following_kept f) u are noded;
  }
