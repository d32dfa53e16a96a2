use Rattle.std.proofs.Common.{◌≡◌, map, take}
use Rattle.layers.specs.declared.feature_segments.LayerSize.{LayerSize}
use Rattle.engine.proofs.face_text.feature_counts.Given as goal

abbrev pub invariant-loop-size : goal.invariant-loop-size
invariant-loop-size g l = l.counts.items ≡ map (λ (s : LayerSize). s.features) (take l.size-index l.sizes)
