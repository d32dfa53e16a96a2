use Rattle.std.proofs.Common.{◌∙◌, ◌-◌, get_or, true, false, sym, ap, arith}
use Rattle.std.specs.Prelude.{slice_range}
use Rattle.geom.specs.Segments.{same_point}
use Rattle.geom.specs.declared.point.Pt.{Pt}
use Rattle.columns.specs.Layout.{points_of}
use Rattle.columns.proofs.Lists.{length_slice}
use Rattle.columns.proofs.RingWalks.{closed_by_ends}
use Rattle.columns.proofs.Sound.{closed_fault}
use Rattle.columns.proofs.surveying.ring_fault.Goals as goal

pub returns-then-not-are_same : goal.returns-then-not-are_same
returns-then-not-are_same c =
    let ps = points_of c.args.points.now in
    let from = c.args.from in
    let past = c.args.past in
    let closed = closed_by_ends ps from past (past - 1) c.at.result (omega arith) c.requires.inside (omega arith)
    ∙ ap (λ (p : Pt). same_point p (get_or ps (past - 1) c.at.result)) (sym (c.at.ensures c.at.result)) ∙ ap (λ (p : Pt). same_point c.at.result p) (sym (c.at-2.ensures c.at.result)) ∙ sym c.are_same.ensures ∙ c.if-not-are_same.true in
    sym (closed_fault c.args.number (past - from) (slice_range ps from past) false (length_slice ps from past c.requires.inside) (omega arith) closed)

pub returns : goal.returns
returns c =
    let ps = points_of c.args.points.now in
    let from = c.args.from in
    let past = c.args.past in
    let closed = closed_by_ends ps from past (past - 1) c.at.result (omega arith) c.requires.inside (omega arith)
    ∙ ap (λ (p : Pt). same_point p (get_or ps (past - 1) c.at.result)) (sym (c.at.ensures c.at.result)) ∙ ap (λ (p : Pt). same_point c.at.result p) (sym (c.at-2.ensures c.at.result)) ∙ sym c.are_same.ensures ∙ c.if-not-are_same.false in
    sym (closed_fault c.args.number (past - from) (slice_range ps from past) true (length_slice ps from past c.requires.inside) (omega arith) closed)
