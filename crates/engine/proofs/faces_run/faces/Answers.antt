use Rattle.std.proofs.Common.{map, subst}
use Rattle.layers.specs.declared.faces_limits.FacesLimits.{FacesLimits}
use Rattle.engine.specs.Faces.{RunsFaces}
use Rattle.engine.proofs.faces_run.faces.Goals as goal

pub returns : goal.returns
returns g c =
    subst (λ (limits : FacesLimits). RunsFaces limits g.S.Sink.state c.args.sink.now c.faces_within.new.sink c.args.plan (map (λ t. t.now) c.args.layers.now) c.faces_within.result)
    c.default.ensures c.faces_within.ensures
