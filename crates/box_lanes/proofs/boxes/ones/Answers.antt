use Rattle.box_lanes.proofs.PlaceLaws.{ones_places}
use Rattle.box_lanes.proofs.boxes.ones.Goals as goal

pub returns : goal.returns
returns c = ones_places c.args.count c.requires
