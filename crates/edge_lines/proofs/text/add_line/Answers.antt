use Rattle.std.proofs.Common.{inr}
use Rattle.edge_lines.proofs.text.add_line.Goals as goal

pub returns-in_ok-push-in-Ok-Some : goal.returns-in_ok-push-in-Ok-Some
returns-in_ok-push-in-Ok-Some g c =
    inr (
      c.in-Ok-Some.edge,
      rw (c.in-Ok-Some.is, c.in-Ok-Some.field-0-is) at c.in_ok-edge.ensures,
      c.in_ok-push-in-Ok-Some.ensures.items,
    )
