-- Each point that some feature covers lies in a row: its cover set has an edge.
use Rattle.std.proofs.Common.{◌≡◌, inl, inr, ℕ, List, [], ◌∷◌, Bool, true, false, not, refl, sym, ap, ◌∙◌, arith, eq-eqb}
use Rattle.std.specs.Prelude.{◌≢◌, ◌&&◌, ◌==◌}
use Rattle.geom.specs.declared.point.Pt.{Pt}
use Rattle.geom.specs.declared.edge.Edge.{Edge}
use Rattle.geom.specs.declared.directed.DirectedEdge.{DirectedEdge}
use Rattle.geom.specs.Directed.{from_to}
use Rattle.geom.specs.Pixel.{Point}
use Rattle.geom.specs.ResultEdges.{left_side, right_side}
use Rattle.geom.proofs.Lists.{In, in_contains}
use Rattle.points_law.proofs.Choices.{◌⊕◌, ◌∧∧◌, par, counted, parity, left, right}
use Rattle.points_law.proofs.ResultOfChoices.{Edges}
use Rattle.points_law.proofs.Even.{and_left, by_test}
use Rattle.points_law.proofs.Counts.{left_turned}
use Rattle.points_law.proofs.Turn.{crossing}
use Rattle.cover_law.specs.Cover.{AreBorders, Bordered, cover, edges_in, numbers_from}
use Rattle.cover_law.specs.Rows.{IsRowEdge, is_covered_by, same_list}
use Rattle.cover_law.specs.Laws.{CoveredIsInRow}
use Rattle.cover_law.proofs.Projected.{all_edges}
use Rattle.cover_law.proofs.Told.{Told, are_just}

-- ---- where a sum is odd something is chosen
pub some_odd : {X : Type 0} (p : X → Bool) (xs : List X) → par p xs ≡ true → (x : X) × In x xs × (p x ≡ true)
some_odd p [] h = absurd (let k = h in cc)
some_odd p (x ∷ xs) h = by_test (p x) _ (λ t. (x, inl refl, t)) (λ f. let r = some_odd p xs (sym (ap (λ (t : Bool). t ⊕ par p xs) f) ∙ h) in (r.0, inr r.1, r.2))

-- ---- a list is itself
both : (a b : Bool) → a ≡ true → b ≡ true → a && b ≡ true
both a b h k = grind arith

pub same_itself : (fs : List ℕ) → same_list fs fs ≡ true
same_itself [] = refl
same_itself (f ∷ fs) = both (f == f) (same_list fs fs) (eq-eqb f f refl) (same_itself fs)

-- ---- across a chosen edge the value changes
opposite : (v l r c i j : Bool) → r ≡ l ⊕ c → c ≡ true → i ≡ v ⊕ l → j ≡ v ⊕ r → j ≡ not i
opposite v l r c i j a b d e = grind arith

bounds_left : (i j : Bool) → j ≡ not i → i ≡ true → i && not j ≡ true
bounds_left i j h k = grind arith

bounds_back : (i j k l : Bool) → j ≡ not i → i ≡ false → k ≡ j → l ≡ i → k && not l ≡ true
bounds_back i j k l h f m n = grind arith

chosen_where : (v p i : Bool) → i ≡ v ⊕ p → v ≡ false → i ≡ true → p ≡ true
chosen_where v p i h f t = grind arith

not_empty : (set : List ℕ) → set ≢ [] → same_list [] set ≡ false
not_empty [] h = absurd (h refl)
not_empty (g ∷ gs) h = refl

module _ (count : ℕ) (bs : List Bordered) (h : AreBorders bs) (set : List ℕ) where
  row : Told (edges_in bs) (same_list [] set) (is_covered_by count bs set)
  row = are_just bs h (numbers_from 0 count) set

  all : Edges (edges_in bs)
  all = all_edges bs h

  pub turned : (u v : Pt) → is_covered_by count bs set (left_side v u) ≡ is_covered_by count bs set (right_side u v)
  turned u v = row.told (left_side v u) ∙ ap (λ (t : Bool). same_list [] set ⊕ t) (left_turned row.choice (edges_in bs) u v) ∙ sym (row.told (right_side u v))

  changes : (e : Edge) → In e (edges_in bs) → row.choice e ≡ true → is_covered_by count bs set (right_side e.p e.q) ≡ not (is_covered_by count bs set (left_side e.p e.q))
  changes e i c = opposite (same_list [] set) (parity row.choice (edges_in bs) (left e)) (parity row.choice (edges_in bs) (right e)) (row.choice e)
      (is_covered_by count bs set (left_side e.p e.q)) (is_covered_by count bs set (right_side e.p e.q))
      (crossing (edges_in bs) all row.choice row.even e i) c (row.told (left e)) (row.told (right e))

  edge_of_row : (e : Edge) → In e (edges_in bs) → row.choice e ≡ true → (d : DirectedEdge) × IsRowEdge count bs set d
  edge_of_row e i c = by_test (is_covered_by count bs set (left_side e.p e.q)) ((d : DirectedEdge) × IsRowEdge count bs set d)
      (λ t. (
        from_to e.p e.q,
        record {
          edge = e;
          rounded = in_contains (edges_in bs) e i;
          runs = inl refl;
          bounds = bounds_left (is_covered_by count bs set (left_side e.p e.q)) (is_covered_by count bs set (right_side e.p e.q)) (changes e i c) t;
        },
      ))
      (λ f. (
        from_to e.q e.p,
        record {
          edge = e;
          rounded = in_contains (edges_in bs) e i;
          runs = inr refl;
          bounds = bounds_back (is_covered_by count bs set (left_side e.p e.q)) (is_covered_by count bs set (right_side e.p e.q))
              (is_covered_by count bs set (left_side e.q e.p)) (is_covered_by count bs set (right_side e.q e.p)) (changes e i c) f (turned e.p e.q) (sym (turned e.q e.p));
        },
      ))

  pub has_edge : set ≢ [] → (z : Point) → is_covered_by count bs set z ≡ true → (d : DirectedEdge) × IsRowEdge count bs set d
  has_edge n z t =
      let o = some_odd (λ e. row.choice e ∧∧ counted e z) (edges_in bs) (chosen_where (same_list [] set) (parity row.choice (edges_in bs) z) (is_covered_by count bs set z) (row.told z) (not_empty set n) t) in
      edge_of_row o.0 o.1 (and_left (row.choice o.0) (counted o.0 z) o.2)

pub covered_is_in_row : CoveredIsInRow
covered_is_in_row count bs h rows k z n =
    let e = has_edge count bs h (cover count bs z) n z (same_itself (cover count bs z)) in
    k.each (cover count bs z) e.0 n e.1
