use Rattle.std.proofs.Common.{◌++◌, ◌∷◌, [], List, ap, arith, length, subst, sym, take, ◌∙◌}
use Rattle.std.proofs.lemmas.List.{length-take, with_items_is}
use Rattle.geom.specs.declared.segment.Seg.{Seg}
use Rattle.strips_law.specs.declared.line.Line.{Line}
use Rattle.strips_law.specs.Strips.{AreLinesFrom}
use Rattle.phases.specs.Scattered.{lists_of}
use Rattle.phases.proofs.Keeping.{read_more}
use Rattle.phases.proofs.Scattering.{lines_push, scattered_more}
use Rattle.phases.proofs.lines.scatter.Goals as goal

pub loop-s-preserved : goal.loop-s-preserved
loop-s-preserved g c =
    let segments = c.args.segments.now in
    let i = c.loop-s.s-index in
    let s = c.s-item.result in
    let line : Line = record { number = c.loop-s.number; segment = c.oriented-segment.result } in
    let inside = c.loop-s-test.true in
    let t = length-take i segments in
    let n = c.loop-s.invariant.0 in
    let (lines, are, by_strip) = c.loop-s.invariant.1 in
    let same = c.add_line.auto.lists ∙ ap length c.deref_mut.ensures.value in
    let back = with_items_is c.loop-s.lists c.add_line.new.lists (same ∙ sym c.loop-s.lists.ok.0) in (
      omega (arith, n),
      (
        lines ++ line ∷ [],
        subst (λ (ss : List Seg). AreLinesFrom c.args.first_number ss (lines ++ line ∷ [])) (sym (read_more segments i s inside c.s-item.is)) (lines_push c.args.first_number (take i segments) lines s line are (omega (arith, n, t, inside)) c.oriented-segment.ensures),
        rw back (scattered_more c.args.cuts.now lines line (lists_of c.loop-s.lists.items) (lists_of c.add_line.new.lists) by_strip (rw (← c.deref_mut.ensures.value) c.in_ok-add_line.ensures)),
      ),
    )
