use Rattle.std.proofs.Common.{List, subst, sym}
use Rattle.std.specs.Prelude.{IfSome}
use Rattle.hot_region.specs.declared.lines.Line.{Line}
use Rattle.hot_region.specs.Halving.{AreReaching}
use Rattle.hot_region.specs.Walls.{IsInside}
use Rattle.routing.proofs.halved.left_of.Goals as goal

pub returns-in-Some : goal.returns-in-Some
returns-in-Some g c = λ rect walls are. subst (λ (ls : List Line). AreReaching (IsInside rect walls) c.args.lines.now ls) (sym c.deref.ensures.value) (subst (λ f. IfSome f (λ some. AreReaching (IsInside rect walls) c.args.lines.now some.items)) c.in-Some.is are)

pub returns-in-None : goal.returns-in-None
returns-in-None g c = λ rect walls are. record { among = λ l listed. listed; complete = λ l pixel listed _ _. listed }
