use Rattle.std.proofs.Common.{arith, sym, ◌∙◌, ap}
use mathlib.Core.Option.{none}
use Rattle.atomic_table.specs.Table.{step}
use Rattle.tile_book.proofs.Draws.{ends}
use Rattle.tile_book.proofs.draw.Draw.ended.Goals as goal

pub load-requires : goal.load-requires
load-requires g c = (
  c.requires.own ∙ sym (ap (λ d. d.table) c.self.view_is),
  rw c.self.invariant.0 (omega arith),
  ends _ _ _ _ _ (step c.self.inside.table.shared.table_id.slots 0 0 0 none),
)
