use Rattle.std.proofs.Common.{rules}
use Rattle.std.specs.Prelude.{int_le}
use Rattle.std.proofs.lemmas.Fn.{filter_same}
use Rattle.geom.specs.declared.edge.Edge.{Edge}
use Rattle.hot_pixel.proofs.tile_sweep.still_active.Goals as goal

pub returns : goal.returns
returns g c = filter_same _ (λ (e : Edge). int_le c.args.next.now.p.x e.q.x) _ (λ x b f' k. search rules) _ _ c.retain.ensures.filtered
