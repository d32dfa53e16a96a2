use Rattle.std.proofs.Common.{List, subst, sym}
use Rattle.std.specs.Prelude.{◌≢◌, AllPairs}
use Rattle.geom.specs.declared.point.Pt.{Pt}
use Rattle.wkt_tests.proofs.Apart.{square_apart}
use Rattle.wkt_tests.proofs.squares.quadrangle.Goals as goal

pub new-requires-clause-distinct : goal.new-requires-clause-distinct
new-requires-clause-distinct g c =
    subst (λ (ps : List Pt). AllPairs (λ p q. p ≢ q) ps) (sym c.in_ok-from_slice.ensures.items)
    (square_apart c.args.a c.args.b c.args.c c.args.d c.requires.ab c.requires.ac c.requires.ad c.requires.bc c.requires.db c.requires.dc)
