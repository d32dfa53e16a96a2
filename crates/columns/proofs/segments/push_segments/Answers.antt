use Rattle.std.proofs.Common.{List, sym, subst, arith}
use Rattle.std.specs.List.{flat_map}
use Rattle.std.proofs.lemmas.Result.{on_ok_weaker}
use Rattle.geom.specs.Segments.{ring_steps}
use Rattle.geom.specs.declared.point.Pt.{Pt}
use Rattle.columns.specs.Layout.{plain}
use Rattle.columns.specs.Segments.{HasSteps}
use Rattle.columns.proofs.Reached.{range_order, range_rings}
use Rattle.columns.proofs.Sound.{checked, sound_rings}
use Rattle.columns.proofs.segments.push_segments.Goals as goal

pub push_rings-requires-clause-order : goal.push_rings-requires-clause-order
push_rings-requires-clause-order g c = range_order c.args.columns.now (checked c.args.columns.now c.requires.accepted).well c.reached_rings.result c.reached_rings.ensures

pub push_rings-requires-clause-sound : goal.push_rings-requires-clause-sound
push_rings-requires-clause-sound g c = λ ring low high.
    let first = c.reached_rings.ensures.first in
    let past = c.reached_rings.ensures.past in
    sound_rings c.args.columns.now c.requires.accepted ring (omega (arith, low, first)) (omega (arith, high, past))

pub returns-clause-added : goal.returns-clause-added
returns-clause-added g c =
    let all = range_rings c.args.columns.now (checked c.args.columns.now c.requires.accepted).well c.reached_rings.result c.reached_rings.ensures in
    on_ok_weaker c.push_rings.result (λ h. subst (λ (rs : List (List Pt)). HasSteps c.args.layer (flat_map ring_steps (plain rs)) c.args.segments.now.items c.push_rings.new.segments.items) (sym all) h) c.push_rings.ensures.added
