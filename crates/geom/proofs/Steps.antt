-- The steps between neighbours in routes, and the edges that they make.
use Rattle.std.proofs.Common.{◌≡◌, ◌⊎◌, inl, inr, suc, ◌<◌, List, [], ◌∷◌, Bool, true, false, cond, refl, sym, ap, ◌∙◌, arith, subst, ⊎_elim}
use Rattle.geom.specs.declared.point.Pt.{Pt}
use Rattle.geom.specs.declared.segment.Source.{Source}
use Rattle.geom.specs.declared.segment.Seg.{Seg}
use Rattle.geom.specs.declared.edge.Edge.{Edge}
use Rattle.geom.specs.Segments.{neighbours}
use Rattle.geom.specs.Route.{IsRoute, IsEarlier, AreRoutes}
use Rattle.geom.specs.Route.AreRoutes.{none, next}
use Rattle.geom.specs.Rounded.{joins, route_steps, count}
use Rattle.geom.specs.Segments.{same_source}
use Rattle.geom.proofs.Lists.{In, in_append, some_passes}
use Rattle.geom.proofs.Points.{same_point_true, and_both, or_either}
use Rattle.std.specs.List.{Contains, slice_index_or}
use Rattle.std.proofs.lemmas.List.{get_or_default}
use Rattle.geom.proofs.Plane.{IsBefore}
use Rattle.geom.proofs.Along.{before_irrefl}
use Rattle.geom.proofs.Pixels.{piece}
use Rattle.geom.proofs.RouteLaws.{order_by_earlier}
use Rattle.geom.proofs.RouteLists.{AreNext}

next_after : (a : Pt) (r : List Pt) (c e : Pt) → AreNext r c e → AreNext (a ∷ r) c e
next_after a r c e h = record { k = suc h.k; inside = (let l = h.inside in omega arith); c_is = h.c_is; e_is = h.e_is }

-- the pairs of neighbours stand next to each other
pub next_of_neighbours : (r : List Pt) (step : Pt × Pt) → In step (neighbours r) → AreNext r step.0 step.1
next_of_neighbours [] step i = absurd i
next_of_neighbours (a ∷ []) step i = absurd i
next_of_neighbours (a ∷ b ∷ ps) step (inl e) = record { k = 0; inside = omega arith; c_is = ap (λ (s : Pt × Pt). s.0) e; e_is = ap (λ (s : Pt × Pt). s.1) e }
next_of_neighbours (a ∷ b ∷ ps) step (inr i) = next_after a (b ∷ ps) step.0 step.1 (next_of_neighbours (b ∷ ps) step i)

-- the step joins the two ends, one way or the other
pub joined : (e : Edge) (step : Pt × Pt) → joins e step ≡ true → ((step.0 ≡ e.p) × (step.1 ≡ e.q)) ⊎ ((step.0 ≡ e.q) × (step.1 ≡ e.p))
joined e step h = ⊎_elim
    (λ t. let u = and_both _ _ t in inl (sym (same_point_true _ _ u.0), sym (same_point_true _ _ u.1)))
    (λ t. let u = and_both _ _ t in inr (sym (same_point_true _ _ u.1), sym (same_point_true _ _ u.0)))
    (or_either _ _ h)

pub record FromRoute (segments ss : List Seg) (e : Edge) : Type 0 where
  pub s : Seg
  pub inside : In s ss
  pub route : List Pt
  pub is_route : IsRoute segments s route
  pub next : AreNext route e.p e.q ⊎ AreNext route e.q e.p

from_step : (segments ss : List Seg) (e : Edge) (s : Seg) (route : List Pt) → In s ss → IsRoute segments s route → (step : Pt × Pt) → In step (neighbours route) → joins e step ≡ true → FromRoute segments ss e
from_step segments ss e s route i r step j h = record {
  s = s;
  inside = i;
  route = route;
  is_route = r;
  next = let n = next_of_neighbours route step j in ⊎_elim
      (λ (p, q). inl (subst (λ w. AreNext route w e.q) p (subst (λ w. AreNext route step.0 w) q n)))
      (λ (p, q). inr (subst (λ w. AreNext route w e.p) p (subst (λ w. AreNext route step.0 w) q n)))
      (joined e step h);
}

more : (segments ss : List Seg) (s : Seg) (e : Edge) → FromRoute segments ss e → FromRoute segments (s ∷ ss) e
more segments ss s e h = record { s = h.s; inside = inr h.inside; route = h.route; is_route = h.is_route; next = h.next }

in_if : (t : Bool) (xs : List (Pt × Pt)) (step : Pt × Pt) → In step (cond t xs []) → In step xs
in_if true xs step i = i
in_if false xs step i = absurd i

pub from_steps : (segments : List Seg) (layer : Source) (e : Edge) {ss : List Seg} {routes : List (List Pt)} → AreRoutes segments ss routes → (step : Pt × Pt) → In step (route_steps layer ss routes) → joins e step ≡ true → FromRoute segments ss e
from_steps segments layer e none step i h = absurd i
from_steps segments layer e (next {s} {route} {ss} {routes} r rs) step i h = ⊎_elim
    (λ j. from_step segments (s ∷ ss) e s route (inl refl) r step (in_if (same_source s.layer layer) (neighbours route) step j) h)
    (λ j. more segments ss s e (from_steps segments layer e rs step j h))
    (in_append (cond (same_source s.layer layer) (neighbours route) []) (route_steps layer ss routes) step i)

pub from_count : (segments : List Seg) (layer : Source) (e : Edge) (routes : List (List Pt)) → AreRoutes segments segments routes → 0 < count layer e segments routes → FromRoute segments segments e
from_count segments layer e routes r h = let p = some_passes (joins e) (route_steps layer segments routes) h in from_steps segments layer e r p.0 p.1 p.2

-- every step is one of neighbours in the route of some segment
pub record StepOf (segments ss : List Seg) (step : Pt × Pt) : Type 0 where
  pub s : Seg
  pub inside : In s ss
  pub route : List Pt
  pub is_route : IsRoute segments s route
  pub next : AreNext route step.0 step.1

more_steps : (segments ss : List Seg) (s : Seg) (step : Pt × Pt) → StepOf segments ss step → StepOf segments (s ∷ ss) step
more_steps segments ss s step h = record { s = h.s; inside = inr h.inside; route = h.route; is_route = h.is_route; next = h.next }

pub step_of : (segments : List Seg) (layer : Source) {ss : List Seg} {routes : List (List Pt)} → AreRoutes segments ss routes → (step : Pt × Pt) → In step (route_steps layer ss routes) → StepOf segments ss step
step_of segments layer none step i = absurd i
step_of segments layer (next {s} {route} {ss} {routes} r rs) step i = ⊎_elim
    (λ j. record { s = s; inside = inl refl; route = route; is_route = r; next = next_of_neighbours route step (in_if (same_source s.layer layer) (neighbours route) step j) })
    (λ j. more_steps segments ss s step (step_of segments layer rs step j))
    (in_append (cond (same_source s.layer layer) (neighbours route) []) (route_steps layer ss routes) step i)

-- neighbours in a route differ
pub step_apart : (segments ss : List Seg) (step : Pt × Pt) → StepOf segments ss step → step.0 ≡ step.1 → ⊥
step_apart segments ss step h e =
    let r = h.is_route in
    let n = h.next in
    let c : Contains h.route step.0 = (n.k, (let l = n.inside in omega arith), n.c_is) in
    let d : Contains h.route step.1 = (suc n.k, n.inside, n.e_is) in
    let o : IsEarlier h.s step.0 step.1 = subst (λ w. IsEarlier h.s w step.1) n.c_is (subst (λ w. IsEarlier h.s (slice_index_or h.route n.k step.0) w) (get_or_default h.route (suc n.k) step.0 step.1 n.inside ∙ n.e_is) (r.ordered n.k (suc n.k) step.0 (omega arith) n.inside)) in
    let b = order_by_earlier h.s step.0 step.1 ((r.exact step.0).0 c).1 ((r.exact step.1).0 d).1 o in
    before_irrefl (piece h.s) step.1 (subst (λ w. IsBefore (piece h.s) w step.1) e b)
