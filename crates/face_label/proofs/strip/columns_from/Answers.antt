use Rattle.std.proofs.Common.{refl, subst, sym}
use Rattle.geom.specs.declared.edge.Counted.{Counted}
use Rattle.geom.specs.Limit.{AreInLimit}
use Rattle.geom.proofs.Doubling.{back}
use Rattle.face_label.proofs.Striping.{columns_are, first_columns, more_columns}
use Rattle.face_label.proofs.strip.columns_from.Goals as goal

pub loop-one-init : goal.loop-one-init
loop-one-init c = first_columns c.args.first c.requires.first_in

pub loop-one-preserved : goal.loop-one-preserved
loop-one-preserved c =
    let P : Counted → Type 0 = λ t. AreInLimit t.edge.p t.edge.q in
    let limit : AreInLimit c.one-item.result.edge.p c.one-item.result.edge.q = subst P (sym c.one-item.is) (c.requires.in_limit c.loop-one.one-index c.one-item.result c.loop-one-test.true) in
    let m = more_columns c.args.first c.args.counted.now c.loop-one.one-index c.one-item.result _ _ _ _ _ _ c.min-low.result c.max-high.result refl refl
    (back c.one-item.result.edge.p.x limit.a_in.x_in) (back c.one-item.result.edge.q.x limit.b_in.x_in) c.loop-one-test.true (sym c.one-item.is) limit c.min-low.ensures.value c.max-high.ensures.value c.loop-one.invariant in
    columns_are c.args.first _ c.min-low.result c.max-high.result _ _ (back c.min-low.result m.low_in) (back c.max-high.result m.high_in) m
