-- The directed edges by labels are those of the result.
use Rattle.std.proofs.Common.{◌≡◌, ◌⊎◌, inl, inr, ⊎_elim, Bool, true, false, cond, List, [], ◌∷◌, flat_map, map, refl, sym, ap, ◌∙◌, subst}
use Rattle.std.specs.List.{AllPairs, AllZip, Contains}
use Rattle.std.specs.Prelude.{◌&&◌, ◌↔◌, not}
use Rattle.geom.specs.declared.op.Op.{Op}
use Rattle.geom.specs.declared.edge.Edge.{Edge}
use Rattle.geom.specs.declared.edge.Counted.{Counted}
use Rattle.geom.specs.declared.directed.DirectedEdge.{DirectedEdge}
use Rattle.geom.specs.Directed.{IsDirectedBefore, RunsAlong, from_to}
use Rattle.geom.specs.ResultEdges.{is_result_edge}
use Rattle.geom.specs.Rounded.{edges_of}
use Rattle.geom.proofs.Lists.{In, in_contains, contains_in, in_append, in_front, in_back, in_map, map_in}
use Rattle.geom.specs.Label.{both_ways, bounds, holds_in, ways}
use Rattle.geom.proofs.Doubling.{both, right_is_left}
use Rattle.geom.proofs.Listing.{is_way, layers_of}
use Rattle.label_sweep.specs.declared.standing.LabelledEdge.{LabelledEdge}
use Rattle.label_sweep.specs.Labels.{AreLabels, IsLabelled, directed_of, directions_of, holds_of}
use Rattle.label_sweep.specs.StripLabels.{AreResultEdgesAlong, IsResultEdgeAlong, StripsMakeResult}
use Rattle.label_sweep.proofs.Members.{in_of_all}

module _ (op : Op) (cs : List Counted) where
  pub way_of : (l : LabelledEdge) → IsLabelled cs l → directions_of op l ≡ both_ways op (layers_of cs) l.edge
  way_of l h = both op (layers_of cs) l.edge (holds_of op l.left) (holds_of op l.right) (holds_of op l.left && not (holds_of op l.right)) (holds_of op l.right && not (holds_of op l.left))
      (ap (holds_of op) h.left) (ap (holds_of op) h.right ∙ ap (holds_in op (layers_of cs)) (right_is_left l.edge.p l.edge.q)) refl refl

  is_listed : (ls : List LabelledEdge) → ((l : LabelledEdge) → In l ls → IsLabelled cs l) → (e : Edge) (d : DirectedEdge) → In e (map (λ (l : LabelledEdge). l.edge) ls)
      → (d ≡ from_to e.p e.q) ⊎ (d ≡ from_to e.q e.p) → is_result_edge op cs d.from d.to ≡ true → In d (directed_of op ls)
  is_listed [] h e d i r b = absurd i
  is_listed (l ∷ ls) h e d (inl q) r b = in_front (ways l.edge (directions_of op l)) (directed_of op ls) d
      (let P : Bool × Bool → Type 0 = λ w. In d (ways l.edge w) in let Q : Edge → Type 0 = λ t. (d ≡ from_to t.p t.q) ⊎ (d ≡ from_to t.q t.p) in
      subst P (sym (way_of l (h l (inl refl)))) (is_way op cs l.edge d (subst Q (sym q) r) b))
  is_listed (l ∷ ls) h e d (inr i) r b = in_back (ways l.edge (directions_of op l)) (directed_of op ls) d (is_listed ls (λ m k. h m (inr k)) e d i r b)

  -- ---- along some of the edges
  in_if : (b : Bool) (d e : DirectedEdge) → In d (cond b (e ∷ []) []) → (b ≡ true) × (d ≡ e)
  in_if true d e (inl q) = (refl, sym q)
  in_if true d e (inr i) = absurd i
  in_if false d e i = absurd i

  one_along : (e : Edge) (d : DirectedEdge) → In d (ways e (both_ways op (layers_of cs) e)) → RunsAlong d e × (is_result_edge op cs d.from d.to ≡ true)
  one_along e d i = let P : DirectedEdge → Type 0 = λ t. is_result_edge op cs t.from t.to ≡ true in ⊎_elim
      (λ j. let h = in_if (bounds op (layers_of cs) e.p e.q) d (from_to e.p e.q) j in (inl h.1, subst P (sym h.1) h.0))
      (λ j. let h = in_if (bounds op (layers_of cs) e.q e.p) d (from_to e.q e.p) j in (inr h.1, subst P (sym h.1) h.0))
      (in_append (cond (bounds op (layers_of cs) e.p e.q) (from_to e.p e.q ∷ []) []) (cond (bounds op (layers_of cs) e.q e.p) (from_to e.q e.p ∷ []) []) d i)

  listed_along : (ls : List LabelledEdge) → ((l : LabelledEdge) → In l ls → IsLabelled cs l) → (d : DirectedEdge) → In d (directed_of op ls)
      → (l : LabelledEdge) × In l ls × RunsAlong d l.edge × (is_result_edge op cs d.from d.to ≡ true)
  listed_along [] h d i = absurd i
  listed_along (l ∷ ls) h d i = ⊎_elim
      (λ j. let P : Bool × Bool → Type 0 = λ w. In d (ways l.edge w) in let r = one_along l.edge d (subst P (way_of l (h l (inl refl))) j) in (l, inl refl, r.0, r.1))
      (λ j. let r = listed_along ls (λ m k. h m (inr k)) d j in (r.0, inr r.1, r.2, r.3))
      (in_append (ways l.edge (directions_of op l)) (directed_of op ls) d i)

  pub edges_along : (own : List Counted) (ls : List LabelledEdge) → AreLabels cs own ls → (es : List DirectedEdge) → AllPairs IsDirectedBefore es
      → ((d : DirectedEdge) → Contains es d ↔ Contains (directed_of op ls) d) → AreResultEdgesAlong op cs own es
  edges_along own ls a es ascending along = let each = in_of_all (IsLabelled cs) ls a.each in record {
    ascending = ascending;
    exact = λ d. (
      (λ h. let r = listed_along ls each d (contains_in (directed_of op ls) d ((along d).0 h)) in
          record { edge = r.0.edge; inside = (a.exact r.0.edge).0 (in_contains (map (λ (l : LabelledEdge). l.edge) ls) r.0.edge (map_in (λ (l : LabelledEdge). l.edge) ls r.0 r.1)); runs = r.2; bounds = r.3 }),
      (λ r. (along d).1 (in_contains (directed_of op ls) d (is_listed ls each r.edge d
          (contains_in (map (λ (l : LabelledEdge). l.edge) ls) r.edge ((a.exact r.edge).1 r.inside)) r.runs r.bounds))),
    );
  }

-- ---- the lists of all strips
in_lists : {X : Type 0} (xs : List (List X)) (x : X) → In x (flat_map (λ t. t) xs) → (t : List X) × In t xs × In x t
in_lists [] x i = absurd i
in_lists (t ∷ xs) x i = ⊎_elim (λ j. (t, inl refl, j)) (λ j. let r = in_lists xs x j in (r.0, inr r.1, r.2)) (in_append t (flat_map (λ t. t) xs) x i)

lists_in : {X : Type 0} (xs : List (List X)) (t : List X) (x : X) → In t xs → In x t → In x (flat_map (λ t. t) xs)
lists_in {X} (u ∷ xs) t x (inl e) i = in_front u (flat_map (λ t. t) xs) x (let P : List X → Type 0 = λ t. In x t in subst P (sym e) i)
lists_in (u ∷ xs) t x (inr j) i = in_back u (flat_map (λ t. t) xs) x (lists_in xs t x j i)
lists_in [] t x j i = absurd j

module _ (op : Op) (cs : List Counted) (d : DirectedEdge) where
  some_own : (owns : List (List Counted)) (lists : List (List DirectedEdge)) → AllZip (AreResultEdgesAlong op cs) owns lists → In d (flat_map (λ t. t) lists)
      → (own : List Counted) × In own owns × IsResultEdgeAlong op cs own d
  some_own [] [] z i = absurd i
  some_own [] (list ∷ lists) z i = absurd z
  some_own (own ∷ owns) [] z i = absurd i
  some_own (own ∷ owns) (list ∷ lists) z i = ⊎_elim
      (λ j. (own, inl refl, (z.0.exact d).0 (in_contains list d j)))
      (λ j. let r = some_own owns lists z.1 j in (r.0, inr r.1, r.2))
      (in_append list (flat_map (λ t. t) lists) d i)

  in_some : (owns : List (List Counted)) (lists : List (List DirectedEdge)) → AllZip (AreResultEdgesAlong op cs) owns lists → (own : List Counted) → In own owns
      → IsResultEdgeAlong op cs own d → In d (flat_map (λ t. t) lists)
  in_some [] lists z own i r = absurd i
  in_some (o ∷ owns) [] z own i r = absurd z
  in_some (o ∷ owns) (list ∷ lists) z own (inl e) r = in_front list (flat_map (λ t. t) lists) d
      (contains_in list d ((z.0.exact d).1 (let P : List Counted → Type 0 = λ t. IsResultEdgeAlong op cs t d in subst P (sym e) r)))
  in_some (o ∷ owns) (list ∷ lists) z own (inr i) r = in_back list (flat_map (λ t. t) lists) d (in_some owns lists z.1 own i r)

pub strips_make_result : StripsMakeResult
strips_make_result op cs owns lists all z es ascending same = record {
  ascending = ascending;
  exact = λ d. (
    (λ h. let r = some_own op cs d owns lists z (contains_in (flat_map (λ t. t) lists) d ((same d).0 h)) in
        let c = in_map (λ (c : Counted). c.edge) r.0 r.2.edge (contains_in (edges_of r.0) r.2.edge r.2.inside) in
        let n = (all c.0).1 (in_contains (flat_map (λ t. t) owns) c.0 (lists_in owns r.0 c.0 r.1 c.1)) in
        record {
          edge = r.2.edge;
          rounded = subst (λ (e : Edge). Contains (edges_of cs) e) c.2 (in_contains (edges_of cs) c.0.edge (map_in (λ (c : Counted). c.edge) cs c.0 (contains_in cs c.0 n)));
          runs = r.2.runs;
          bounds = r.2.bounds;
        }),
    (λ r. let c = in_map (λ (c : Counted). c.edge) cs r.edge (contains_in (edges_of cs) r.edge r.rounded) in
        let o = in_lists owns c.0 (contains_in (flat_map (λ t. t) owns) c.0 ((all c.0).0 (in_contains cs c.0 c.1))) in
        (same d).1 (in_contains (flat_map (λ t. t) lists) d (in_some op cs d owns lists z o.0 o.1 (record {
          edge = r.edge;
          inside = subst (λ (e : Edge). Contains (edges_of o.0) e) c.2 (in_contains (edges_of o.0) c.0.edge (map_in (λ (c : Counted). c.edge) o.0 c.0 o.2));
          runs = r.runs;
          bounds = r.bounds;
        })))),
  );
}
