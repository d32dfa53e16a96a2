use Rattle.std.proofs.Common.{map, ap, ◌∙◌}
use Rattle.rayon.proofs.ToStd.{slice-map}
use Rattle.geom.specs.Label.{both_ways}
use Rattle.face_label.specs.Strip.{layers_at}
use Rattle.face_label.proofs.label.by_strips.Goals as goal

pub returns-in-Ok : goal.returns-in-Ok
returns-in-Ok g c =
    let slice = ap (λ it. it.slice.now) c.map.ensures.base ∙ c.par_iter.ensures in
    let h = c.in-Ok.ensures in
    let chain = h.1 in
    let f = c.map.result.f in
    h.2
    ∙ slice-map chain.0 c.args.counted.now (chain.1 ∙ slice) (λ e. both_ways f.1.now (layers_at f.0.now.a f.0.now.b e.edge) e.edge) h.0 chain.2
    ∙ ap (λ t. map (λ e. both_ways t.1.now (layers_at t.0.now.a t.0.now.b e.edge) e.edge) c.args.counted.now) c.map.ensures.f
