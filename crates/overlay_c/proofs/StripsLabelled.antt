-- The calls for all strips, from the first one to the last, tell the directed edges of a result.
use Rattle.std.proofs.Common.{◌≡◌, ◌⊎◌, inl, inr, ⊎_elim, ◌+◌, ◌≤◌, ◌++◌, ◌∷◌, ◌∙◌, [], ℕ, List, ap, arith, length, map, refl, subst, sym}
use Rattle.std.proofs.Math.IntN.{ℤ}
use Rattle.std.specs.Prelude.{◌↔◌, AllPairs, Contains, Some, true}
use Rattle.std.proofs.lemmas.Bool.{cases_eq}
use Rattle.geom.specs.declared.op.Op.{Op}
use Rattle.geom.specs.declared.edge.Edge.{Edge}
use Rattle.geom.specs.declared.edge.Counted.{Counted}
use Rattle.geom.specs.declared.directed.DirectedEdge.{DirectedEdge}
use Rattle.geom.specs.Directed.{RunsAlong}
use Rattle.geom.specs.ResultEdges.{is_result_edge}
use Rattle.geom.specs.Rounded.{edges_of}
use Rattle.geom.proofs.Lists.{In, contains_in, in_append, in_back, in_contains, in_front, in_map, map_in, some_same}
use Rattle.points_law.specs.Law.{AreLayers}
use Rattle.label_sweep.specs.StripLabels.{AreResultEdgesAlong, IsResultEdgeAlong}
use Rattle.label_sweep.proofs.Members.{in_of_all}
use Rattle.strips_law.specs.Strips.{strip_at}
use Rattle.strips_law.proofs.Columns.{within_cuts}
use Rattle.phases.specs.Labels.{AreOfStrip, ComeInto, TellLabels}
use Rattle.phases.proofs.StripLabels.{none_come}
use Rattle.overlay_c.specs.declared.strip_items.OverlayCounted.{OverlayCounted}
use Rattle.overlay_c.specs.declared.strip_items.OverlayDirected.{OverlayDirected}
use Rattle.overlay_c.specs.Columns.{op_from}
use Rattle.overlay_c.specs.Strips.{IsCountedBefore, counted_start, one_list, told_counted}
use Rattle.overlay_c.specs.StripLabels.{AreGoingOn, AreLabelsTold, AreStripsLabelled, IsOwn, StripsAreLabelled, told_directed}
use Rattle.overlay_c.specs.StripLabels.AreStripsLabelled.{none_labelled, one_labelled}
use Rattle.overlay_c.proofs.StripLists.{all_pairs, each_item, unmapped_pairs}
use Rattle.overlay_c.proofs.StripOnce.{counted_once}
use Rattle.overlay_c.proofs.StripSearch.{counted_trans}

-- ---- lists that are told in two parts
abbrev first_or : {Y : Type 0} → Y → List Y → Y
first_or d [] = d
first_or d (y ∷ ys) = y

abbrev others : {Y : Type 0} → List Y → List Y
others [] = []
others (y ∷ ys) = ys

record InParts {X Y : Type 0} (f : X → Y) (xs : List X) (ys zs : List Y) : Type 0 where
  front : List X
  back : List X
  both : xs ≡ front ++ back
  front_is : ys ≡ map f front
  back_is : zs ≡ map f back

in_parts : {X Y : Type 0} (f : X → Y) (xs : List X) (ys zs : List Y) → map f xs ≡ ys ++ zs → InParts f xs ys zs
in_parts f xs [] zs e = record { front = []; back = xs; both = refl; front_is = refl; back_is = sym e }
in_parts f [] (y ∷ ys) zs e = absurd (cc)
in_parts f (x ∷ xs) (y ∷ ys) zs e =
    let head : f x ≡ y = ap (first_or (f x)) e in
    let r = in_parts f xs ys zs (ap others e) in
    let same = sym r.front_is in
    record { front = x ∷ r.front; back = r.back; both = ap (λ t. x ∷ t) r.both; front_is = sym (λ i. head i ∷ same i); back_is = r.back_is }

-- ---- directed edges, as they are told
one_directed : (d e : DirectedEdge) → told_directed d ≡ told_directed e → d ≡ e
one_directed d e h = λ i. record { from = record { x = (h i).ax; y = (h i).ay }; to = record { x = (h i).bx; y = (h i).by } }

told_in : (edges : List DirectedEdge) (d : DirectedEdge) → In (told_directed d) (map told_directed edges) → In d edges
told_in edges d i = let e = in_map told_directed edges (told_directed d) i in
    let P : DirectedEdge → Type 0 = λ t. In t edges in subst P (one_directed e.0 d e.2) e.1

-- ---- the strips from one on
-- d runs along an edge whose lesser end lies in the strip or a later one, and is an edge of the result
record IsResultEdgeFrom (op : Op) (cuts : List ℤ) (strip : ℕ) (counted : List Counted) (d : DirectedEdge) : Type 0 where
  edge : Edge
  rounded : Contains (edges_of counted) edge
  from : strip ≤ strip_at cuts edge.p
  runs : RunsAlong d edge
  bounds : is_result_edge op counted d.from d.to ≡ true

own_begins : (cuts : List ℤ) (strip : ℕ) (crossing own next : List OverlayCounted) → AreGoingOn cuts strip crossing own (one_list next) → (c : OverlayCounted) → In c own → strip_at cuts (counted_start c) ≡ strip
own_begins cuts strip crossing own next g c i = (in_of_all (IsOwn cuts strip) own (each_item (IsOwn cuts strip) IsCountedBefore own g.sound.own_in) c i).begins

-- their own edges begin there
begin_from : (call : ℕ) (cuts : List ℤ) {strip : ℕ} {crossing list : List OverlayCounted} {told : List OverlayDirected} → AreStripsLabelled call cuts strip crossing list told
    → (c : OverlayCounted) → In c list → strip ≤ strip_at cuts (counted_start c)
begin_from call cuts none_labelled c i = absurd i
begin_from call cuts (one_labelled {strip} {crossing} {own} {next} {behind} l g rest) c i = ⊎_elim
    (λ j. let e = own_begins cuts strip crossing own next g c j in omega (arith, e))
    (λ j. let m = begin_from call cuts rest c j in omega (arith, m))
    (in_append own behind c i)

module _ (call : ℕ) (op : Op) (asked : op_from call ≡ Some op) (cuts : List ℤ) (counted : List Counted) (layers : AreLayers counted) where
  -- the edges that begin in the strip or a later one
  abbrev AreFrom : ℕ → List Counted → Type 0
  AreFrom strip list = (c : Counted) → In c list ↔ (In c counted × (strip ≤ strip_at cuts c.edge.p))

  module _ (strip : ℕ) (crossing own next behind : List OverlayCounted) (along : List OverlayDirected) (told : AreLabelsTold call crossing own (one_list along)) (going : AreGoingOn cuts strip crossing own (one_list next))
      (later : (c : OverlayCounted) → In c behind → strip + 1 ≤ strip_at cuts (counted_start c)) (list : List Counted) (from : AreFrom strip list) (parts : InParts told_counted list own behind)
      (coming : List Counted) (come : ComeInto cuts strip counted coming) (coming_is : crossing ≡ map told_counted coming) where
    abbrev mine : List Counted
    mine = parts.front

    mine_begins : (c : Counted) → In c mine → strip_at cuts c.edge.p ≡ strip
    mine_begins c i = let P : List OverlayCounted → Type 0 = λ t. In (told_counted c) t in
        own_begins cuts strip crossing own next going (told_counted c) (subst P (sym parts.front_is) (map_in told_counted mine c i))

    back_begins : (c : Counted) → In c parts.back → strip + 1 ≤ strip_at cuts c.edge.p
    back_begins c i = let P : List OverlayCounted → Type 0 = λ t. In (told_counted c) t in
        later (told_counted c) (subst P (sym parts.back_is) (map_in told_counted parts.back c i))

    of_list : (c : Counted) → In c list → In c mine ⊎ In c parts.back
    of_list c i = let P : List Counted → Type 0 = λ t. In c t in in_append mine parts.back c (subst P parts.both i)

    in_list : (c : Counted) → In c (mine ++ parts.back) → In c list
    in_list c i = let P : List Counted → Type 0 = λ t. In c t in subst P (sym parts.both) i

    mine_found : (c : Counted) → In c counted → strip_at cuts c.edge.p ≡ strip → In c mine
    mine_found c i e = ⊎_elim (λ j. j) (λ j. let l = back_begins c j in absurd (omega (arith, l, e))) (of_list c ((from c).1 (i, omega (arith, e))))

    mine_are : AreOfStrip cuts strip counted mine
    mine_are = record {
      ascending = let P : List OverlayCounted → Type 0 = λ t. AllPairs IsCountedBefore t in
          unmapped_pairs told_counted mine IsCountedBefore (subst P parts.front_is (all_pairs (IsOwn cuts strip) IsCountedBefore own going.sound.own_in counted_trans));
      exact = λ c. (
        (λ i. let j = contains_in mine c i in (in_contains counted c ((from c).0 (in_list c (in_front mine parts.back c j))).0, mine_begins c j)),
        (λ i. in_contains mine c (mine_found c (contains_in counted c i.0) i.1)),
      );
    }

    tell : TellLabels counted cuts strip coming mine
    tell = record { layers = layers; own_are = mine_are; crossing_are = come }

    -- to the next strip
    next_from : AreFrom (strip + 1) parts.back
    next_from c = (
      (λ i. (((from c).0 (in_list c (in_back mine parts.back c i))).0, back_begins c i)),
      (λ i. let l = i.1 in ⊎_elim (λ j. let e = mine_begins c j in absurd (omega (arith, l, e))) (λ j. j) (of_list c ((from c).1 (i.0, omega (arith, l))))),
    )

    next_come : ComeInto cuts (strip + 1) counted going.going
    next_come = going.go counted (let P : List Counted → List Counted → Type 0 = TellLabels counted cuts strip in
        subst (λ (os : List Counted). P going.crossing os) (counted_once mine going.own (sym parts.front_is ∙ going.own_is))
        (subst (λ (cs : List Counted). P cs mine) (counted_once coming going.crossing (sym coming_is ∙ going.crossing_is)) tell))

    -- what was told of this one
    here : AreResultEdgesAlong op counted mine told.2.edges
    here = let labels = told.2 in
        let P : List Counted → List Counted → Type 0 = TellLabels counted cuts strip in
        let t = subst (λ (os : List Counted). P labels.crossing os) (counted_once mine labels.own (sym parts.front_is ∙ labels.own_is))
        (subst (λ (cs : List Counted). P cs mine) (counted_once coming labels.crossing (sym coming_is ∙ labels.crossing_is)) tell) in
        subst (λ (o : Op). AreResultEdgesAlong o counted mine labels.edges) (some_same told.1 asked)
        (subst (λ (os : List Counted). AreResultEdgesAlong told.0 counted os labels.edges) (sym (counted_once mine labels.own (sym parts.front_is ∙ labels.own_is))) (labels.along counted cuts strip t))

    module _ (rest : List OverlayDirected) (d : DirectedEdge) (behind_told : Contains rest (told_directed d) ↔ IsResultEdgeFrom op cuts (strip + 1) counted d) where
      of_mine : IsResultEdgeAlong op counted mine d → IsResultEdgeFrom op cuts strip counted d
      of_mine r = let c = in_map (λ (c : Counted). c.edge) mine r.edge (contains_in (edges_of mine) r.edge r.inside) in
          let n = (mine_are.exact c.0).0 (in_contains mine c.0 c.1) in
          let P : Edge → Type 0 = λ e. Contains (edges_of counted) e × (strip_at cuts e.p ≡ strip) in
          let k = subst P c.2 (in_contains (edges_of counted) c.0.edge (map_in (λ (c : Counted). c.edge) counted c.0 (contains_in counted c.0 n.0)), n.1) in
          let e = k.1 in
          record { edge = r.edge; rounded = k.0; from = omega (arith, e); runs = r.runs; bounds = r.bounds }

      is_mine : (r : IsResultEdgeFrom op cuts strip counted d) → strip_at cuts r.edge.p ≡ strip → IsResultEdgeAlong op counted mine d
      is_mine r e = let c = in_map (λ (c : Counted). c.edge) counted r.edge (contains_in (edges_of counted) r.edge r.rounded) in
          let P : Edge → Type 0 = λ g. strip_at cuts g.p ≡ strip in
          let i = mine_found c.0 c.1 (subst P (sym c.2) e) in
          record {
            edge = r.edge;
            inside = subst (λ (g : Edge). Contains (edges_of mine) g) c.2 (in_contains (edges_of mine) c.0.edge (map_in (λ (c : Counted). c.edge) mine c.0 i));
            runs = r.runs;
            bounds = r.bounds;
          }

      along_of : In (told_directed d) along → IsResultEdgeFrom op cuts strip counted d
      along_of i = let P : List OverlayDirected → Type 0 = λ t. In (told_directed d) t in
          of_mine ((here.exact d).0 (in_contains told.2.edges d (told_in told.2.edges d (subst P told.2.edges_are i))))

      rest_of : In (told_directed d) rest → IsResultEdgeFrom op cuts strip counted d
      rest_of i = let r = behind_told.0 (in_contains rest (told_directed d) i) in let l = r.from in
          record { edge = r.edge; rounded = r.rounded; from = omega (arith, l); runs = r.runs; bounds = r.bounds }

      told_of : IsResultEdgeFrom op cuts strip counted d → In (told_directed d) (along ++ rest)
      told_of r = let l = r.from in elim (cases_eq (strip_at cuts r.edge.p) strip) [
        | inl e ↦ let P : List OverlayDirected → Type 0 = λ t. In (told_directed d) t in
            in_front along rest (told_directed d) (subst P (sym told.2.edges_are) (map_in told_directed told.2.edges d (contains_in told.2.edges d ((here.exact d).1 (is_mine r e)))))
        | inr e ↦ in_back along rest (told_directed d) (contains_in rest (told_directed d)
            (behind_told.1 (record { edge = r.edge; rounded = r.rounded; from = omega (arith, l, e); runs = r.runs; bounds = r.bounds })))
      ]

      one_more : Contains (along ++ rest) (told_directed d) ↔ IsResultEdgeFrom op cuts strip counted d
      one_more = (
        (λ i. ⊎_elim along_of rest_of (in_append along rest (told_directed d) (contains_in (along ++ rest) (told_directed d) i))),
        (λ r. in_contains (along ++ rest) (told_directed d) (told_of r)),
      )

  none_more : (d : DirectedEdge) → Contains [] (told_directed d) ↔ IsResultEdgeFrom op cuts (length cuts + 1) counted d
  none_more d = ((λ i. absurd (contains_in [] (told_directed d) i)), (λ r. let l = r.from in let m = within_cuts cuts r.edge.p in absurd (omega (arith, l, m))))

  all_from : {strip : ℕ} {crossing own : List OverlayCounted} {told : List OverlayDirected} → AreStripsLabelled call cuts strip crossing own told → (list : List Counted) → AreFrom strip list → map told_counted list ≡ own
      → (coming : List Counted) → ComeInto cuts strip counted coming → crossing ≡ map told_counted coming → (d : DirectedEdge) → Contains told (told_directed d) ↔ IsResultEdgeFrom op cuts strip counted d
  all_from none_labelled list from is coming come coming_is d = none_more d
  all_from (one_labelled {strip} {crossing} {own} {next} {behind} {along} {rest} labels going labelled) list from is coming come coming_is d =
      let parts = in_parts told_counted list own behind is in
      let later = begin_from call cuts labelled in
      one_more strip crossing own next behind along labels going later list from parts coming come coming_is rest d
      (all_from labelled parts.back (next_from strip crossing own next behind along labels going later list from parts coming come coming_is) (sym parts.back_is)
      going.going (next_come strip crossing own next behind along labels going later list from parts coming come coming_is) going.going_is d)

pub strips_are_labelled : StripsAreLabelled
strips_are_labelled call op asked cuts counted layers told labelled d =
    let all = all_from call op asked cuts counted layers labelled counted (λ c. ((λ i. (i, omega arith)), (λ i. i.0))) refl [] (none_come cuts counted) refl d in (
      (λ i. let r = all.0 i in record { edge = r.edge; rounded = r.rounded; runs = r.runs; bounds = r.bounds }),
      (λ r. all.1 (record { edge = r.edge; rounded = r.rounded; from = omega arith; runs = r.runs; bounds = r.bounds })),
    )
