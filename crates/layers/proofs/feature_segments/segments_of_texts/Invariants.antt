use Rattle.std.proofs.Common.{map}
use Rattle.layers.proofs.InLayers.{IsListedTo}
use Rattle.layers.proofs.feature_segments.segments_of_texts.Given as goal

abbrev pub invariant-loop-text : goal.invariant-loop-text
invariant-loop-text g l = IsListedTo (map (λ t. t.now) l.checked.layers.now) l.text-index l.kept.rest.items l.all
