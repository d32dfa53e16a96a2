use Rattle.std.proofs.Common.{◌≡◌, ℕ, ◌<◌, ◌+◌, ◌∙◌, List, [], ◌∷◌, ◌++◌, ap, get_or, length, map, take}
use Rattle.std.proofs.lemmas.List.{map_more, take_all}
use Rattle.label_sweep.specs.declared.column.CrossingEdge.{CrossingEdge}
use Rattle.label_sweep.specs.declared.standing.Spoke.{Spoke}
use Rattle.label_sweep.proofs.column.spokes_of.Goals as goal

one_pushed : (all : List CrossingEdge) (i : ℕ) (x : CrossingEdge) (old new : List Spoke) → i < length all → x ≡ get_or all i x → old ≡ map (λ c. c.spoke) (take i all) → new ≡ old ++ x.spoke ∷ [] → new ≡ map (λ c. c.spoke) (take (i + 1) all)
one_pushed all i x old new h at is now = rw (now, is, map_more (λ (c : CrossingEdge). c.spoke) all i x h) (ap (λ (t : CrossingEdge). map (λ (c : CrossingEdge). c.spoke) (take i all) ++ t.spoke ∷ []) at)

pub loop-crossing-preserved : goal.loop-crossing-preserved
loop-crossing-preserved g c = one_pushed c.args.crossings.now c.loop-crossing.crossing-index c.crossing-item.result _ _ c.loop-crossing-test.true c.crossing-item.is c.loop-crossing.invariant c.in_ok-push.ensures.items

pub returns : goal.returns
returns g c = c.loop-crossing.invariant ∙ ap (map (λ (t : CrossingEdge). t.spoke)) (take_all c.loop-crossing.crossing-index c.args.crossings.now c.loop-crossing-test.false)
