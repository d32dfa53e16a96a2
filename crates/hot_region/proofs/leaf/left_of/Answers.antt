use Rattle.std.proofs.Common.{List, subst, sym}
use Rattle.std.specs.Prelude.{IfSome}
use Rattle.hot_region.specs.Carriers.{KeepsCrossings}
use Rattle.hot_region.specs.declared.lines.Line.{Line}
use Rattle.hot_region.proofs.leaf.left_of.Goals as goal

pub returns-in-Some : goal.returns-in-Some
returns-in-Some g c = λ rect keeps. subst (λ (ls : List Line). KeepsCrossings rect c.args.lines.now ls) (sym c.deref.ensures.value) (subst (λ o. IfSome o (λ part. KeepsCrossings rect c.args.lines.now part.items)) c.in-Some.is keeps)

pub returns-in-None : goal.returns-in-None
returns-in-None g c = λ rect keeps. record { among = λ l listed. listed; crossings = λ p t x. x }
