use Rattle.std.proofs.Common.{sym, ◌∙◌}
use Rattle.geom.proofs.Orders.{same_edge_true}
use Rattle.cover_sets_tests.proofs.deciding.meet_at_ends.Goals as goal

pub returns-then-eq : goal.returns-then-eq
returns-then-eq c t = record { apart = λ n. absurd (n (same_edge_true c.args.e c.args.f (sym c.eq.ensures ∙ c.if-eq.true))) }
