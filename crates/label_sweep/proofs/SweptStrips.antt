-- Edges with the edge beside each, by strips of columns: those that begin in strips behind one another, and those that begin in all columns.
use Rattle.std.proofs.Common.{inl, inr, ⊎_elim, refl, ℕ, ◌≤◌, List, [], ◌++◌, map, length, flat_map, sym, subst, arith}
use Rattle.std.specs.List.{All, AllPairs, AllZip, Contains}
use Rattle.std.specs.Prelude.{◌<ℤ◌, None}
use Rattle.std.proofs.lemmas.Int.{ints}
use Rattle.std.proofs.lemmas.List.{map-append}
use Rattle.std.proofs.lemmas.List.Elements.{All-append, All-nil, All-weaker, Contains-append_left, Contains-append_right}
use Rattle.geom.specs.declared.point.Pt.{Pt}
use Rattle.geom.specs.declared.edge.Edge.{Edge}
use Rattle.geom.specs.declared.edge.Counted.{Counted}
use Rattle.geom.specs.EdgeOrder.{IsEdgeBefore}
use Rattle.geom.specs.Order.{IsBefore, IsUpTo}
use Rattle.geom.specs.Rounded.{edges_of}
use Rattle.hands.specs.Consecutive.{ArePartsOf}
use Rattle.hands.specs.declared.part.Part.{Part}
use Rattle.label_sweep.specs.declared.swept.SweptEdge.{SweptEdge}
use Rattle.label_sweep.specs.Column.{IsStrip, LiesBetween, OpensColumn}
use Rattle.label_sweep.specs.Swept.{AreSwept, AreSweptBetween, IsBeside}
use Rattle.label_sweep.proofs.Beside.{behind_joined}
use Rattle.label_sweep.proofs.Between.{all_between, between_behind, between_cases, between_front, front_is_left, none_between, of_strips}
use Rattle.label_sweep.proofs.Members.{in_of_all, pairs_joined}

-- what lies on the left comes before
left_is_before : (p q : Pt) → p.x <ℤ q.x → IsBefore p q
left_is_before p q l = record { column = omega (arith, ints, l); row = λ e. absurd (omega (arith, ints, l, e)) }

module _ (cs : List Counted) where
  -- an edge begins in the columns of a strip
  abbrev Begins : ℕ → ℕ → SweptEdge → Type 0
  Begins from past s = LiesBetween cs from past s.edge.p

  -- none begin in no columns
  none_swept : (a : ℕ) → AreSweptBetween cs a a []
  none_swept a = record {
    each = All-nil (IsBeside (edges_of cs));
    all = λ e i l. absurd (none_between cs a e.p l);
    only = All-nil (Begins a a);
    upward = λ i j d l m. absurd (omega (arith, m));
    behind = tt;
  }

  -- those of two strips behind one another: what begins in the one lies on the left of what begins in the other
  both_swept : (a b c : ℕ) (xs ys : List SweptEdge) → a ≤ b → b ≤ c → OpensColumn cs b → OpensColumn cs c → AreSweptBetween cs a b xs → AreSweptBetween cs b c ys → AreSweptBetween cs a c (xs ++ ys)
  both_swept a b c xs ys low high opens next h k = record {
    each = All-append (IsBeside (edges_of cs)) xs ys h.each k.each;
    all = λ e i l. subst (λ (t : List Edge). Contains t e) (sym (map-append edge_in xs ys)) (⊎_elim
        (λ m. Contains-append_left (map edge_in xs) (map edge_in ys) e (h.all e i m))
        (λ m. Contains-append_right (map edge_in xs) (map edge_in ys) e (k.all e i m))
        (between_cases cs a b c low high e.p l));
    only = All-append (Begins a c) xs ys
        (All-weaker (Begins a b) (Begins a c) (λ s l. between_front cs a b c low high s.edge.p next l) xs h.only)
        (All-weaker (Begins b c) (Begins a c) (λ s l. between_behind cs a b c low high s.edge.p opens l) ys k.only);
    upward = pairs_joined (λ (s t : SweptEdge). IsUpTo s.edge.p t.edge.p) xs ys h.upward k.upward
        (λ s t i j. inr (left_is_before s.edge.p t.edge.p (front_is_left cs a b c s.edge.p t.edge.p (in_of_all (Begins a b) xs h.only s i) (in_of_all (Begins b c) ys k.only t j))));
    behind = behind_joined (edges_of cs) None xs ys h.behind k.behind;
  }
    where
      edge_in : SweptEdge → Edge
      edge_in s = s.edge

  -- those of all strips
  pub swept_strips : {V : Type 0} (items : V → List SweptEdge) (ps : List Part) (vs : List V) → ArePartsOf 0 (length cs) ps → All (IsStrip cs) ps
      → AllZip (λ (p : Part) v. AreSweptBetween cs p.from p.past (items v)) ps vs → AreSweptBetween cs 0 (length cs) (flat_map items vs)
  swept_strips items = of_strips items cs (AreSweptBetween cs) none_swept both_swept

  -- those that begin in all columns are all
  pub all_swept : AllPairs (λ c d. IsEdgeBefore c.edge d.edge) cs → (ss : List SweptEdge) → AreSweptBetween cs 0 (length cs) ss → AreSwept (edges_of cs) ss
  all_swept ascending ss h = record {
    each = h.each;
    all = λ e i. h.all e i (all_between cs ascending e.p (record { edge = e; inside = i; ends = inl refl }));
    upward = h.upward;
    behind = h.behind;
  }
