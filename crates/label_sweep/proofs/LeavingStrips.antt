-- The directed edges of a result that leave the vertices in strips of columns: those of strips behind one another, and those of all columns.
use Rattle.std.proofs.Common.{◌≡◌, ◌⊎◌, inl, inr, ⊎_elim, ℕ, ◌≤◌, List, [], ◌++◌, flat_map, length, ap, arith}
use Rattle.std.specs.List.{All, AllZip}
use Rattle.std.proofs.lemmas.List.Elements.{Contains-append_cases, Contains-append_left, Contains-append_right}
use Rattle.geom.specs.declared.op.Op.{Op}
use Rattle.geom.specs.declared.edge.Counted.{Counted}
use Rattle.geom.specs.declared.directed.DirectedEdge.{DirectedEdge}
use Rattle.geom.specs.Directed.{AreResultEdges, IsDirectedBefore, IsResultEdge}
use Rattle.geom.proofs.Edges.{before_by_cases}
use Rattle.geom.proofs.Lists.{In, in_contains}
use Rattle.hands.specs.declared.part.Part.{Part}
use Rattle.hands.specs.Consecutive.{ArePartsOf}
use Rattle.points_law.specs.Law.{AreLayers}
use Rattle.label_sweep.specs.Column.{IsStrip, LiesBetween, OpensColumn}
use Rattle.label_sweep.specs.Leaving.{AreLeavingBetween}
use Rattle.label_sweep.proofs.Between.{all_between, between_behind, between_cases, between_front, front_is_left, none_between, of_strips}
use Rattle.label_sweep.proofs.Members.{pairs_joined}

module _ (op : Op) (cs : List Counted) where
  -- ---- strips behind one another
  -- none leaves a point in no columns
  pub none_leave : (a : ℕ) → AreLeavingBetween op cs a a []
  none_leave a = record {
    ascending = λ i j d l m. absurd (omega (arith, m));
    exact = λ d. ((λ i. absurd (omega (arith, i.1))), (λ r. absurd (none_between cs a d.from r.1)));
  }

  -- those that leave points in the front, and then those that leave points in the back, leave points in both
  both_leave : (a b c : ℕ) (xs ys : List DirectedEdge) → a ≤ b → b ≤ c → OpensColumn cs b → OpensColumn cs c → AreLeavingBetween op cs a b xs → AreLeavingBetween op cs b c ys → AreLeavingBetween op cs a c (xs ++ ys)
  both_leave a b c xs ys low high opens next_opens front back = record {
    ascending = pairs_joined IsDirectedBefore xs ys front.ascending back.ascending
        (λ d e i j. inl (before_by_cases d.from e.from (inl (front_is_left cs a b c d.from e.from (leaves a b xs front d i) (leaves b c ys back e j)))));
    exact = λ d. (
      (λ i. ⊎_elim
          (λ j. let r = (front.exact d).0 j in (r.0, between_front cs a b c low high d.from next_opens r.1))
          (λ j. let r = (back.exact d).0 j in (r.0, between_behind cs a b c low high d.from opens r.1))
          (Contains-append_cases xs ys d i)),
      (λ r. ⊎_elim
          (λ h. Contains-append_left xs ys d ((front.exact d).1 (r.0, h)))
          (λ h. Contains-append_right xs ys d ((back.exact d).1 (r.0, h)))
          (between_cases cs a b c low high d.from r.1)),
    );
  }
    where
      leaves : (a b : ℕ) (ds : List DirectedEdge) → AreLeavingBetween op cs a b ds → (d : DirectedEdge) → In d ds → LiesBetween cs a b d.from
      leaves a b ds h d i = ((h.exact d).0 (in_contains ds d i)).1

  -- those of all strips
  pub leaving_strips : {V : Type 0} (items : V → List DirectedEdge) (ps : List Part) (lists : List V) → ArePartsOf 0 (length cs) ps → All (IsStrip cs) ps
      → AllZip (λ (p : Part) v. AreLeavingBetween op cs p.from p.past (items v)) ps lists → AreLeavingBetween op cs 0 (length cs) (flat_map items lists)
  leaving_strips items = of_strips items cs (AreLeavingBetween op cs) none_leave both_leave

  -- ---- those that leave points in all columns are all
  pub all_leaving : AreLayers cs → (ds : List DirectedEdge) → AreLeavingBetween op cs 0 (length cs) ds → AreResultEdges op cs ds
  all_leaving layers ds h = record {
    ascending = h.ascending;
    exact = λ d. (
      (λ i. ((h.exact d).0 i).0),
      (λ r. (h.exact d).1 (r, all_between cs layers.ascending d.from (record { edge = r.edge; inside = r.rounded; ends = starts d r }))),
    );
  }
    where
      starts : (d : DirectedEdge) (r : IsResultEdge op cs d) → (d.from ≡ r.edge.p) ⊎ (d.from ≡ r.edge.q)
      starts d r = ⊎_elim (λ e. inl (ap (λ (t : DirectedEdge). t.from) e)) (λ e. inr (ap (λ (t : DirectedEdge). t.from) e)) r.runs
