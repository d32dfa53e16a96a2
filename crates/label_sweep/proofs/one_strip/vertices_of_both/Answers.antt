use Rattle.std.proofs.Common.{◌++◌, List, ap, subst, sym, ◌∙◌}
use Rattle.std.proofs.lemmas.Result.{IfOk-weaker}
use Rattle.geom.specs.declared.edge.Edge.{Edge}
use Rattle.geom.specs.declared.point.Pt.{Pt}
use Rattle.geom.specs.Rounded.{edges_of}
use Rattle.label_sweep.specs.Status.{AreEnds, AreVertices}
use Rattle.label_sweep.proofs.Parts.{more_ends}
use Rattle.label_sweep.proofs.one_strip.vertices_of_both.Goals as goal

pub returns : goal.returns
returns g c =
    let crossing = c.args.crossing.now in
    let own = c.args.own.now in
    let ends = c.in_ok-ends.ends.items in
    let all = c.extend_from_slice.new.self.items in
    let P : List Pt → Type 0 = AreEnds (edges_of (crossing ++ own)) in
    let both = subst P (sym (c.in_ok-extend_from_slice.ensures.items ∙ ap (λ t. ends ++ t) c.deref.ensures.value)) (more_ends crossing own ends c.in_ok-more.more.items c.in_ok-ends.ensures c.in_ok-more.ensures) in
    IfOk-weaker c.each_once.result (λ v. (es : List Edge) → AreEnds es all → AreVertices es v.items) (λ v. AreVertices (edges_of (crossing ++ own)) v.items) (λ v h. h (edges_of (crossing ++ own)) both) c.each_once.ensures
