use Rattle.std.proofs.Common.{◌≤◌, ◌∙◌, length}
use Rattle.std.specs.Prelude.{All}
use Rattle.hands.specs.declared.part.Part.{Part}
use Rattle.results.proofs.Folds.{inside}
use Rattle.engine.proofs.RowLines.{rows_in_parts}
use Rattle.engine.proofs.face_text.rows_text_in_parts.Goals as goal

pub map_parts-requires-after_bounds : goal.map_parts-requires-after_bounds
map_parts-requires-after_bounds g c κs within =
    let count = length c.args.rows.now in
    let each : All (λ (p : Part). (p.from ≤ p.past) × (p.past ≤ count)) c.deref.result.now = rw c.deref.ensures.value (inside count c.in_ok-parts.parts.items c.in_ok-parts.ensures) in
    λ k d below. let e = each k d below in (e.0, e.1, c.requires.counts, c.requires.ascending, c.requires.areas)

pub returns : goal.returns
returns g c =
    c.of.ensures ∙ rows_in_parts c.args.counts.now c.args.rows.now c.deref.result.now c.in_ok-texts.texts.items (rw c.deref.ensures.value c.in_ok-parts.ensures) c.in_ok-texts.ensures
