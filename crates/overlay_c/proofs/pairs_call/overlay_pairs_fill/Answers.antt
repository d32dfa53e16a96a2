use Rattle.overlay_c.specs.Columns.{columns_in}
use Rattle.overlay_c.proofs.PairsTelling.{pairs_fill}
use Rattle.overlay_c.proofs.pairs_call.overlay_pairs_fill.Goals as goal

pub returns : goal.returns
returns c = pairs_fill c.args.segments c.args.call (columns_in c.args.a.now) (columns_in c.args.b.now) c.pairs_result-made.result
    (record { lists = record { coordinates = c.args.coordinates.now; rings = c.args.rings.now; polygons = c.args.polygons.now }; features = c.args.features.now })
    (record { lists = record { coordinates = c.fill_pairs.new.coordinates; rings = c.fill_pairs.new.rings; polygons = c.fill_pairs.new.polygons }; features = c.fill_pairs.new.features })
    c.fill_pairs.result c.pairs_result-made.ensures c.fill_pairs.ensures.put
