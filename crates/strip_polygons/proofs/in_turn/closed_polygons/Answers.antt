use Rattle.std.proofs.Common.{ℕ, subst}
use Rattle.std.specs.Prelude.{MatchOption, Option}
use Rattle.geom.specs.Rings.{Closes}
use Rattle.parts_law.proofs.Bounds.{bounds_are_grounded}
use Rattle.polygonize.specs.Closing.{IsFirstOpen}
use Rattle.strip_polygons.proofs.InTurn.{none_open}
use Rattle.strip_polygons.proofs.in_turn.closed_polygons.Goals as goal

pub returns-in-Some : goal.returns-in-Some
returns-in-Some g c = λ bounds.
    let found = subst (λ (o : Option ℕ). MatchOption o (Closes c.args.closed.now) (IsFirstOpen c.args.closed.now)) c.in-Some.is c.in_ok-first_open.ensures in
    none_open c.args.closed.now c.in-Some.field-0 bounds.closes found

pub returns-in_ok-polygons_along-in-None : goal.returns-in_ok-polygons_along-in-None
returns-in_ok-polygons_along-in-None g c = λ bounds.
    c.in_ok-polygons_along-in-None.ensures.polygons bounds.noded (bounds_are_grounded c.args.closed.now bounds)
