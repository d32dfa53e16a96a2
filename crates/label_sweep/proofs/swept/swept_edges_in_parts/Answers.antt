use Rattle.std.proofs.Common.{List, sym, subst}
use Rattle.std.specs.Prelude.{All}
use Rattle.geom.specs.Rounded.{edges_of}
use Rattle.label_sweep.specs.declared.swept.SweptEdge.{SweptEdge}
use Rattle.label_sweep.specs.Column.{IsStrip}
use Rattle.label_sweep.specs.Swept.{AreSwept}
use Rattle.label_sweep.proofs.SweptStrips.{all_swept, swept_strips}
use Rattle.label_sweep.proofs.swept.swept_edges_in_parts.Goals as goal

pub map_parts-requires-after_bounds : goal.map_parts-requires-after_bounds
map_parts-requires-after_bounds g c κs within =
    let strips : All (IsStrip c.args.counted.now) c.deref.result.now = rw c.deref.ensures.value c.in_ok-strips.ensures.strips in
    λ k d l. (c.requires, strips k d l)

pub returns : goal.returns
returns g c =
    let cs = c.args.counted.now in
    let P : List SweptEdge → Type 0 = λ ss. AreSwept (edges_of cs) ss in
    subst P (sym c.in_ok-joined.ensures) (all_swept cs c.requires.ascending _ (swept_strips cs (λ l. l.items) c.in_ok-strips.strips.items c.in_ok-lists.lists.items c.in_ok-strips.ensures.parts c.in_ok-strips.ensures.strips (rw c.deref.ensures.value at c.in_ok-lists.ensures)))
