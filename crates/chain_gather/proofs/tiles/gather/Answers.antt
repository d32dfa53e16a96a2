use Rattle.std.proofs.Math.Logic.{∥∥₁_map}
use Rattle.linking.proofs.Covering.{are_covered}
use Rattle.linking.proofs.Gathering.{tiles_have}
use Rattle.chain_gather.proofs.tiles.gather.Goals as goal

pub rounded_by_records-requires : goal.rounded_by_records-requires
rounded_by_records-requires g c =
    let grid = c.args.grid.now in
    let segments = c.args.segments.now in
    ∥∥₁_map c.in_ok-records.ensures.records_are (λ all. tiles_have grid segments c.in_ok-records.field-0.records.items (are_covered grid segments c.requires.covered) all)
