-- Borders are layers in which no edge counts; and all numbers of cover sets are numbers of sets.
use Rattle.std.proofs.Common.{◌≡◌, ℕ, ◌<◌, List, [], ◌∷◌, map, refl, sym, ap, arith, subst, length, get_or}
use Rattle.std.specs.List.{All, AllPairs, filter}
use Rattle.std.proofs.lemmas.List.{get_or-map, length-map}
use Rattle.std.proofs.lemmas.Option.{slice_get-get_or}
use Rattle.geom.specs.declared.edge.Edge.{Edge}
use Rattle.geom.specs.declared.edge.Counted.{Counted}
use Rattle.geom.specs.declared.point.Pt.{Pt}
use Rattle.geom.specs.EdgeOrder.{IsEdgeBefore}
use Rattle.geom.specs.Limit.{AreInLimit}
use Rattle.geom.specs.Noded.{IsNoded}
use Rattle.geom.specs.Pixel.{Point}
use Rattle.geom.specs.ResultEdges.{left_side, right_side}
use Rattle.geom.specs.Rounded.{HasEvenDegrees, edges_of, is_odd}
use Rattle.points_law.specs.Law.{AreLayers}
use Rattle.label_sweep.specs.declared.swept.SweptEdge.{SweptEdge}
use Rattle.label_sweep.specs.Swept.{AreSwept}
use Rattle.cover_law.specs.declared.border.Border.{Border}
use Rattle.cover_law.specs.Cover.{AreBorders, Bordered, bordered, edges_in}
use Rattle.cover_sets.specs.Covers.{AreCovers, AreCoversOf}
use Rattle.cover_sets.specs.Sets.{IsNumber}
use Rattle.cover_sets.proofs.BorderLists.{ascending, some_border}
use Rattle.cover_sets_tests.specs.Deciding.{uncounted}

module _ (fs : List ℕ) (bs : List Border) where
  same_edges : (cs : List Border) → edges_in (map (bordered fs) cs) ≡ edges_of (map uncounted cs)
  same_edges [] = refl
  same_edges (c ∷ cs) = ap (λ (es : List Edge). c.edge ∷ es) (same_edges cs)

  pairs : AllPairs (λ b c. IsEdgeBefore b.edge c.edge) bs → AllPairs (λ c d. IsEdgeBefore c.edge d.edge) (map uncounted bs)
  pairs h i j d l m =
      let k : j < length bs = (let e = length-map bs uncounted in omega arith) in
      let c = some_border bs j k in
      subst (λ (x : Counted). IsEdgeBefore x.edge (get_or (map uncounted bs) j d).edge) (sym (get_or-map uncounted bs i c d (omega arith)))
      (subst (λ (x : Counted). IsEdgeBefore (get_or bs i c).edge x.edge) (sym (get_or-map uncounted bs j c d k)) (h i j c l k))

  none_in_a : (cs : List Border) → filter (λ (c : Counted). is_odd c.in_a) (map uncounted cs) ≡ []
  none_in_a [] = refl
  none_in_a (c ∷ cs) = none_in_a cs

  none_in_b : (cs : List Border) → filter (λ (c : Counted). is_odd c.in_b) (map uncounted cs) ≡ []
  none_in_b [] = refl
  none_in_b (c ∷ cs) = none_in_b cs

  none_even : (cs : List Counted) → cs ≡ [] → HasEvenDegrees (edges_of cs)
  none_even cs e = subst (λ (ds : List Counted). HasEvenDegrees (edges_of ds)) (sym e) (λ v. refl)

  layers : AreBorders (map (bordered fs) bs) → AreLayers (map uncounted bs)
  layers h = record {
    ascending = pairs (ascending fs bs h.ascending);
    in_limit = subst (λ (es : List Edge). All (λ (e : Edge). AreInLimit e.p e.q) es) (same_edges bs) h.in_limit;
    noded = subst (λ (es : List Edge). IsNoded es) (same_edges bs) h.noded;
    even_a = none_even (filter (λ (c : Counted). is_odd c.in_a) (map uncounted bs)) (none_in_a bs);
    even_b = none_even (filter (λ (c : Counted). is_odd c.in_b) (map uncounted bs)) (none_in_b bs);
  }

  pub are_layers : (counted : List Counted) → counted ≡ map uncounted bs → AreBorders (map (bordered fs) bs) → AreLayers counted
  are_layers counted e h = subst AreLayers (sym e) (layers h)

  pub are_swept : (counted : List Counted) → counted ≡ map uncounted bs → (swept : List SweptEdge) → AreSwept (edges_of counted) swept → AreSwept (edges_in (map (bordered fs) bs)) swept
  are_swept counted e swept h = subst (λ (es : List Edge). AreSwept es swept) (sym (same_edges bs)) (subst (λ (cs : List Counted). AreSwept (edges_of cs) swept) e h)

-- ---- numbers of sets
some_edge : (edges : List Bordered) (k : ℕ) → k < length edges → Bordered
some_edge [] k l = absurd (omega arith)
some_edge (b ∷ bs) k l = b

are_numbers : (side : Pt → Pt → Point) (count : ℕ) (edges : List Bordered) (sets : List (List ℕ)) (numbers : List ℕ) → AreCoversOf side count edges sets numbers → All (IsNumber sets) numbers
are_numbers side count edges sets numbers h k d l =
    let m : k < length edges = (let e = h.one_each in omega arith) in
    let b = some_edge edges k m in
    (h.each k (get_or edges k b) (get_or numbers k d) (slice_get-get_or edges k b m) (slice_get-get_or numbers k d l)).0

pub left_numbers : (count : ℕ) (edges : List Bordered) (sets : List (List ℕ)) (left right : List ℕ) → AreCovers count edges sets left right → All (IsNumber sets) left
left_numbers count edges sets left right h = are_numbers left_side count edges sets left h.left_is

pub right_numbers : (count : ℕ) (edges : List Bordered) (sets : List (List ℕ)) (left right : List ℕ) → AreCovers count edges sets left right → All (IsNumber sets) right
right_numbers count edges sets left right h = are_numbers right_side count edges sets right h.right_is
