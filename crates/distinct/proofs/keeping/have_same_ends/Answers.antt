use Rattle.std.proofs.Common.{◌∙◌, inl, inr, sym}
use Rattle.geom.proofs.Points.{same_point_true}
use Rattle.distinct.proofs.keeping.have_same_ends.Goals as goal

pub returns-then-eq-2 : goal.returns-then-eq-2
returns-then-eq-2 c = λ is.
    let s = c.args.s.now in
    let t = c.args.t.now in
    inl (same_point_true s.a t.a (sym c.eq.ensures ∙ c.if-eq.true), same_point_true s.b t.b (sym c.eq-then-eq.ensures ∙ c.if-eq-2.true))

pub returns-then-eq-3 : goal.returns-then-eq-3
returns-then-eq-3 c = λ is.
    let s = c.args.s.now in
    let t = c.args.t.now in
    inr (same_point_true s.a t.b (sym c.eq-2.ensures ∙ c.if-eq-3.true), same_point_true s.b t.a (sym c.eq-then-eq-3.ensures ∙ is))
