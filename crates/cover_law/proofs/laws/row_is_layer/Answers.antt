-- The law is a lemma of its own.
use Rattle.cover_law.proofs.RowLayers.{row_is_layer}
use Rattle.cover_law.proofs.laws.row_is_layer.Goals as goal

pub returns : goal.returns
returns c = row_is_layer
