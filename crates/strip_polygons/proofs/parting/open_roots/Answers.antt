use Rattle.std.proofs.Common.{arith, sym, ◌∙◌}
use Rattle.std.proofs.lemmas.Bool.{false≢true}
use Rattle.strip_polygons.proofs.OpenRoots.{root_left, root_opened}
use Rattle.strip_polygons.proofs.parting.open_roots.Goals as goal
use Rattle.strip_polygons.proofs.parting.open_roots.Goals.{then-goes_over, else-goes_over}

pub loop-place-preserved : goal.loop-place-preserved
loop-place-preserved g c =
    let known = c.args.known.now in
    let roots = c.args.roots.now in
    let n = c.loop-place.place in
    let some = c.loop-place-test.true in
    elim c.if-goes_over.branch [
      | then-goes_over w ↦ rw w.flags-is (root_opened c.args.cuts.now c.args.from c.args.past known roots n c.loop-place.flags.items
          (c.requires.inside n 0 (omega (arith, some, c.requires.same_length)))
          (c.goes_over.ensures.0 w.if-goes_over.true) c.loop-place.invariant)
      | else-goes_over w ↦ rw w.flags-is (root_left c.args.cuts.now c.args.from c.args.past known roots n c.loop-place.flags.items
          (λ o. false≢true (sym w.if-goes_over.false ∙ c.goes_over.ensures.1 o)) c.loop-place.invariant)
    ]
