use Rattle.std.proofs.Common.{refl}
use Rattle.geom.proofs.Listing.{are_directed}
use Rattle.label_sweep.proofs.Between.{whole}
use Rattle.label_sweep.proofs.LeavingStrips.{all_leaving}
use Rattle.label_sweep.proofs.directed.swept.Goals as goal

pub strip_edges-requires-clause-strip : goal.strip_edges-requires-clause-strip
strip_edges-requires-clause-strip g c = whole c.args.counted.now _ refl refl

pub new-requires : goal.new-requires
new-requires g c =
    let cs = c.args.counted.now in
    let es = c.in_ok-edges.edges.items in
    are_directed c.args.op cs es (all_leaving c.args.op cs c.requires es c.in_ok-edges.ensures)

pub returns : goal.returns
returns g c =
    let cs = c.args.counted.now in
    let es = c.in_ok-edges.edges.items in
    rw c.new.ensures (all_leaving c.args.op cs c.requires es c.in_ok-edges.ensures)
