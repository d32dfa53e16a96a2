use Rattle.std.proofs.Common.{List, subst, sym}
use Rattle.polygonize.specs.declared.closing.EdgeEnd.{EdgeEnd}
use Rattle.polygonize.specs.Closing.{AreSortedEnds}
use Rattle.polygonize.proofs.closing.first_open.Goals as goal

pub returns : goal.returns
returns g c = c.first_found.ensures c.args.edges.now c.requires.ascending (subst (λ (xs : List EdgeEnd). AreSortedEnds c.args.edges.now xs) (sym c.deref.ensures.value) c.in_ok-ends.ensures)
