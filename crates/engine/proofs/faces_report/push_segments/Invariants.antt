use Rattle.std.proofs.Common.{◌≡◌, ◌++◌, ◌∷◌, codes, take}
use Rattle.std.specs.List.{flat_map}
use Rattle.std.specs.Fmt.{decimal}
use Rattle.layers.specs.declared.feature_segments.LayerSize.{LayerSize}
use Rattle.engine.proofs.faces_report.push_segments.Given as goal

abbrev pub invariant-loop-layer : goal.invariant-loop-layer
invariant-loop-layer g l = l.text.items ≡ l.fn.text.items ++ (codes "segments" ++ flat_map (λ (z : LayerSize). 32 ∷ decimal z.segments) (take l.layer-index l.layers))
