use Rattle.std.proofs.Common.{◌≡◌, ℕ, ◌<◌, ◌+◌, ◌∙◌, List, [], ◌∷◌, ◌++◌, ap, get_or, length, sym, take}
use Rattle.std.specs.List.{flat_map}
use Rattle.std.proofs.lemmas.List.{flat_map_more, take_all, take_more}
use Rattle.geom.specs.declared.point.Pt.{Pt}
use Rattle.geom.specs.Segments.{ring_steps}
use Rattle.layers.proofs.RingSteps.{more_steps}
use Rattle.layers.proofs.segments.push_rings.Goals as goal

one_ring : (rings : List (List Pt)) (i : ℕ) (x : List Pt) → i < length rings → x ≡ get_or rings i x → flat_map ring_steps (take (i + 1) rings) ≡ flat_map ring_steps (take i rings) ++ ring_steps x
one_ring rings i x h is = ap (flat_map ring_steps) (take_more rings i x h ∙ ap (λ (t : List Pt). take i rings ++ t ∷ []) (sym is)) ∙ sym (flat_map_more ring_steps [] (take i rings) x)

pub loop-ring-preserved : goal.loop-ring-preserved
loop-ring-preserved g c =
    let rings = c.args.rings.now in
    let i = c.loop-ring.ring-index in
    let x = c.ring-item.result in
    record {
      added = rw (one_ring rings i x c.loop-ring-test.true c.ring-item.is)
          (more_steps c.args.layer (flat_map ring_steps (take i rings)) (ring_steps x) _ _ _ c.loop-ring.invariant.added (rw c.points.ensures.points at c.in_ok-push_ring.ensures.added));
      in_limit = c.in_ok-push_ring.ensures.in_limit;
    }

pub returns-clause-added : goal.returns-clause-added
returns-clause-added g c = rw (take_all c.loop-ring.ring-index c.args.rings.now c.loop-ring-test.false) at c.loop-ring.invariant.added
