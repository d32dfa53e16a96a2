-- The left of the highest edge that ends at a vertex, and where an upright edge begins.
use Rattle.std.proofs.Common.{◌≡◌, inl, ⊎_elim, Bool, true, false, List, ◌∷◌, refl, sym, ap, ◌∙◌, subst, arith}
use Rattle.std.specs.List.{Contains}
use Rattle.std.specs.Prelude.{pos, ◌<ℤ◌}
use Rattle.std.proofs.Math.IntN.{ℤ, ◌-ℤ◌}
use Rattle.std.proofs.lemmas.Int.{ints}
use lib.Signed.{lt_z}
use Rattle.geom.specs.declared.point.Pt.{Pt}
use Rattle.geom.specs.declared.segment.Source.{Source}
use Rattle.geom.specs.declared.segment.Source.TheVariants.{A, B}
use Rattle.geom.specs.declared.edge.Edge.{Edge}
use Rattle.geom.specs.declared.edge.Counted.{Counted}
use Rattle.geom.specs.Order.{IsBefore}
use Rattle.geom.specs.Parity as geom
use Rattle.geom.specs.ResultEdges.{left_side}
use Rattle.geom.specs.Rounded.{edges_of, odd_edges}
use Rattle.geom.proofs.Edges.{PtOrder, pt_order}
use Rattle.geom.proofs.Lists.{In, contains_in, in_contains}
use Rattle.geom.proofs.Numbers.{both_ways, from_same, le_le, lt_lt, weak}
use Rattle.geom.proofs.Orders.{before_itself}
use Rattle.geom.proofs.Tests.{lt_z_told}
use Rattle.points_law.specs.Law.{AreLayers}
use Rattle.points_law.proofs.Choices.{◌∧∧◌, Even, Noded, is, left, par, parity}
use Rattle.points_law.proofs.Column.{ab, cv, differ, not_above_itself}
use Rattle.points_law.proofs.Even.{and_left, and_right, is_same, same, same_is}
use Rattle.points_law.proofs.Layers.{edges_in}
use Rattle.points_law.proofs.ResultOfChoices.{Edges}
use Rattle.points_law.proofs.Sums.{par_cong, par_none}
use Rattle.points_law.proofs.Turn.{sloping_left}
use Rattle.points_law.proofs.Vertex.{above_stop, cover_q, on_upright, slopes, stops, vertex_end, west}
use Rattle.label_sweep.specs.Laws.{LeftOfEnd, UprightIsNext}
use Rattle.label_sweep.specs.Status.{AreSpokes, IsUnder, IsVertexOf}
use Rattle.label_sweep.proofs.Around.{first_left}
use Rattle.label_sweep.proofs.West.{ab_of, none_term, not_above, not_both, stay}
use Rattle.label_sweep.proofs.Words.{choice, even, layer, spokes_of, vertex_of}

-- ---- of the edges that end where e does, e is the highest
module _ (es : List Edge) (h : Edges es) (e : Edge) (i : In e es) (s : slopes e ≡ true) (highest : (f : Edge) → In f es → f.p.x <ℤ f.q.x → f.q ≡ e.q → IsUnder f e) where
  reaches : cv e (e.q.x -ℤ pos 1) ≡ true
  reaches = cover_q e.p.x e.q.x s

  -- none of them is above it
  not_over : (f : Edge) → In f es → stops f e.q ≡ true → (t : Bool) → same e f ≡ t → ab f e (e.q.x -ℤ pos 1) ≡ false
  not_over f j t true d = subst (λ (g : Edge). ab g e (e.q.x -ℤ pos 1) ≡ false) (same_is e f d) (not_above_itself e (e.q.x -ℤ pos 1))
  not_over f j t false d = not_above es h.noded (e.q.x -ℤ pos 1) e f i j reaches comes
      (ab_of f e e.q (h.noded f e j i (λ q. differ e f d (sym q))) comes reaches (highest f j (lt_z_told f.p.x f.q.x sloped) (sym here)))
    where
      sloped : slopes f ≡ true
      sloped = and_right (is e.q f.q) (slopes f) t

      here : e.q ≡ f.q
      here = is_same e.q f.q (and_left (is e.q f.q) (slopes f) t)

      comes : cv f (e.q.x -ℤ pos 1) ≡ true
      comes = subst (λ (w : Pt). cv f (w.x -ℤ pos 1) ≡ true) (sym here) (cover_q f.p.x f.q.x sloped)

  -- the parity on its left is that just left of its end
  left_at_end : (a : Edge → Bool) → Even a es → parity a es (left e) ≡ west a es e.q
  left_at_end a ev = sloping_left es h a ev e i (e.q.x -ℤ pos 1) reaches
      ∙ above_stop es h.noded a e i s
      ∙ stay (west a es e.q) (par (λ f. a f ∧∧ (stops f e.q ∧∧ ab f e (e.q.x -ℤ pos 1))) es)
      (par_cong (λ f. a f ∧∧ (stops f e.q ∧∧ ab f e (e.q.x -ℤ pos 1))) (λ f. false) es
      (λ f j. none_term (a f) (stops f e.q) (ab f e (e.q.x -ℤ pos 1)) (λ t u. not_both (ab f e (e.q.x -ℤ pos 1)) u (not_over f j t (same e f) refl)))
      ∙ par_none es)

slopes_yes : (p q : ℤ) → p <ℤ q → lt_z p q ≡ true
slopes_yes p q h = grind (arith, ints)

module _ (cs : List Counted) (h : AreLayers cs) (v : Pt) (e : Edge) (i : Contains (edges_of cs) e) (s : e.p.x <ℤ e.q.x) (q : e.q ≡ v)
    (highest : (f : Edge) → Contains (edges_of cs) f → f.p.x <ℤ f.q.x → f.q ≡ v → IsUnder f e) (k : Edge) (rest : List Edge) (a : AreSpokes (edges_of cs) v (k ∷ rest)) where
  same_left : (l : Source) → geom.parity (odd_edges l cs) (left_side k.p k.q) ≡ geom.parity (odd_edges l cs) (left_side e.p e.q)
  same_left l = layer cs h l (left_side k.p k.q)
      ∙ first_left (edges_of cs) (edges_in cs h) (choice cs h l) (even cs h l) v k rest (spokes_of (edges_of cs) v (k ∷ rest) a)
      ∙ ap (λ (w : Pt). west (choice cs h l) (edges_of cs) w) (sym q)
      ∙ sym (left_at_end (edges_of cs) (edges_in cs h) e (contains_in (edges_of cs) e i) (slopes_yes e.p.x e.q.x s)
      (λ f j t b. highest f (in_contains (edges_of cs) f j) t (b ∙ q)) (choice cs h l) (even cs h l))
      ∙ sym (layer cs h l (left_side e.p e.q))

pub left_of_end : LeftOfEnd
left_of_end cs h v e i s q highest k rest a = λ j. record { a = same_left cs h v e i s q highest k rest a A j; b = same_left cs h v e i s q highest k rest a B j }

-- ---- an upright edge
module _ (es : List Edge) (n : Noded es) (v : Pt) (x : IsVertexOf es v) (e : Edge) (i : In e es) (flat : e.p.x ≡ e.q.x) where
  -- no vertex lies strictly within it
  none_within : IsBefore e.p v → IsBefore v e.q → ⊥
  none_within b c = ⊎_elim (λ k. before_itself v (subst (λ (w : Pt). IsBefore w v) (sym k) b)) (λ k. before_itself v (subst (λ (w : Pt). IsBefore v w) (sym k) c))
      (vertex_end es n v (vertex_of es v x) e i (on_upright e v flat here (weak e.p.y v.y up) (weak v.y e.q.y down) (lt_lt e.p.y v.y e.q.y up down)))
    where
      here : v.x ≡ e.p.x
      here = both_ways v.x e.p.x (le_le v.x e.q.x e.p.x c.column (from_same e.q.x e.p.x (sym flat))) b.column

      up : e.p.y <ℤ v.y
      up = b.row (sym here)

      down : v.y <ℤ e.q.y
      down = c.row (here ∙ flat)

pub upright_is_next : UprightIsNext
upright_is_next cs h v w x b none e i flat q = of (pt_order e.p v)
  where
    before_w : IsBefore e.p w
    before_w = subst (λ (u : Pt). IsBefore e.p u) q e.ordered

    of : PtOrder e.p v → e.p ≡ v
    of (PtOrder.before c) = absurd (none_within (edges_of cs) (edges_in cs h).noded v x e (contains_in (edges_of cs) e i) flat c (subst (λ (u : Pt). IsBefore v u) (sym q) b))
    of (PtOrder.equal c) = c
    of (PtOrder.after c) = absurd (none e.p (record { edge = e; inside = i; ends = inl refl }) c before_w)
