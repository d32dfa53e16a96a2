use Rattle.std.proofs.Common.{◌∙◌, length}
use Rattle.results.proofs.EdgeLines.{edges_in_parts}
use Rattle.results.proofs.Folds.{inside}
use Rattle.results.proofs.text_parts.edges_text_in_parts.Goals as goal

pub map_parts-requires-after_bounds : goal.map_parts-requires-after_bounds
map_parts-requires-after_bounds g c κs within = rw c.deref.ensures.value (inside (length c.args.edges.now) c.in_ok-parts.parts.items c.in_ok-parts.ensures)

pub returns : goal.returns
returns g c = c.of.ensures ∙ edges_in_parts c.args.edges.now c.deref.result.now c.in_ok-texts.texts.items (rw c.deref.ensures.value c.in_ok-parts.ensures) c.in_ok-texts.ensures
