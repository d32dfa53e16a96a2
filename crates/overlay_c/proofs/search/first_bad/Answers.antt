use Rattle.overlay_c.proofs.StripSearch.{more_in_place}
use Rattle.overlay_c.proofs.search.first_bad.Goals as goal

pub loop-place-preserved : goal.loop-place-preserved
loop-place-preserved g c = more_in_place _ _ c.args.items.now c.loop-place.place c.loop-place.invariant c.if-not-is_in_place.ensures
