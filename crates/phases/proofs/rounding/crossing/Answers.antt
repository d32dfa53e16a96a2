use Rattle.std.proofs.Common.{get_or, arith}
use Rattle.std.specs.Prelude.{None}
use Rattle.std.proofs.lemmas.List.{get_or_default}
use Rattle.phases.proofs.Crossing.{crossed, passed_by}
use Rattle.phases.proofs.rounding.crossing.Goals as goal
use Rattle.phases.proofs.rounding.crossing.Goals.{then-crosses+in_ok-push, else-crosses}

pub loop-i-preserved : goal.loop-i-preserved
loop-i-preserved g c =
    let cuts = c.args.cuts.now in
    let lines = c.args.lines.now in
    let nears = c.args.nears.now in
    let i = c.loop-i.i in
    let line = c.index-lines-i.result in
    let near = get_or nears i None in
    let inside = c.loop-i-test.true in
    let near_is = get_or_default nears i None near (let s = c.requires.one_each in omega (arith, s, inside)) in
    elim c.if-crosses.branch [
      | then-crosses+in_ok-push w ↦ rw (w.list-is, w.in_ok-push.ensures.items, w.pixel_of.ensures) (crossed cuts c.args.strip lines nears i line near c.requires.one_each inside c.index-lines-i.is near_is c.loop-i.list.items c.loop-i.invariant w.if-crosses.ensures)
      | else-crosses w ↦ rw w.list-is (passed_by cuts c.args.strip lines nears i line near c.requires.one_each inside c.index-lines-i.is near_is c.loop-i.list.items c.loop-i.invariant w.if-crosses.ensures)
    ]
