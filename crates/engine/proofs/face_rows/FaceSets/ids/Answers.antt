use Rattle.engine.proofs.RowIds.{number_is}
use Rattle.engine.proofs.face_rows.FaceSets.ids.Goals as goal

pub returns-clause-number : goal.returns-clause-number
returns-clause-number g c = λ count edges e.
    let self = c.args.self.now in
    number_is count edges self.sets self.edges.edges.items self.edges.sets.items c.requires.are_sets e c.requires.are_row_sets c.count_ids.result c.count_ids.ensures.sets
