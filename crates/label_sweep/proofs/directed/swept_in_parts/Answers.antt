use Rattle.geom.proofs.Listing.{are_directed}
use Rattle.label_sweep.proofs.LeavingStrips.{all_leaving}
use Rattle.label_sweep.proofs.directed.swept_in_parts.Goals as goal

pub new-requires : goal.new-requires
new-requires g c =
    let cs = c.args.counted.now in
    let es = c.in_ok-edges.edges.items in
    are_directed c.args.op cs es (all_leaving c.args.op cs c.requires es c.in_ok-edges.ensures)

pub returns : goal.returns
returns g c =
    let cs = c.args.counted.now in
    let es = c.in_ok-edges.edges.items in
    rw c.new.ensures (all_leaving c.args.op cs c.requires es c.in_ok-edges.ensures)
