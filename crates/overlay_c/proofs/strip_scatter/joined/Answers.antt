use Rattle.std.proofs.Common.{◌≡◌, ◌++◌, ◌∙◌, List, ap, map}
use Rattle.strips_law.specs.declared.line.Line.{Line}
use Rattle.overlay_c.specs.Strips.{told_line}
use Rattle.overlay_c.proofs.StripParts.{lines_more, strips_more}
use Rattle.overlay_c.proofs.strip_scatter.joined.Goals as goal

pub loop-lines-preserved : goal.loop-lines-preserved
loop-lines-preserved c =
    let vecs = c.args.lists.now in
    let i = c.loop-lines.lines-index in
    let v = c.lines-item.result in
    let old = c.loop-lines.all.lines.items in
    let new = c.push_strip.new.all.lines.items in
    let new_is : new ≡ old ++ map told_line v.items = c.in_ok-push_strip.ensures.lines ∙ ap (λ (l : List Line). old ++ map told_line l) c.deref.ensures.value in (
      lines_more vecs i v c.loop-lines-test.true c.lines-item.is old new c.loop-lines.invariant.0 new_is,
      c.in_ok-push_strip.ensures.strips ∙ strips_more vecs i v c.loop-lines-test.true c.lines-item.is old new c.loop-lines.invariant.0 new_is c.loop-lines.all.strips.items c.loop-lines.invariant.1,
    )
