use Rattle.std.proofs.Common.{sym, ◌∙◌, rules, to_z-of_z, FitsSigned, w32}
use Rattle.lane_tests.specs.Above.{is_less, is_at_most, is_leaning, is_covering}
use Rattle.lane_tests.proofs.Masks.{none_above, all_above, no_ties}
use Rattle.lane_tests.proofs.edges.eight_above.Goals as goal

pub returns-then-cover-eq0 : goal.returns-then-cover-eq0
returns-then-cover-eq0 c =
    let a = c.args in let z = c.args.probe in
    let fc = c.ranges.column in
    none_above (is_covering a.px.now a.qx.now a.column) (is_less a.px.now a.py.now a.qx.now a.qy.now z.x2 z.y2) (is_at_most a.px.now a.py.now a.qx.now a.qy.now z.x2 z.y2) (is_leaning a.px.now a.py.now a.qx.now a.qy.now z.dx z.dy) a.at
    (sym c.if-cover-eq0.true ∙ (simp to_z-of_z at c.covering-cover.ensures))

pub returns-then-cover-at_most : goal.returns-then-cover-at_most
returns-then-cover-at_most c =
    let a = c.args in let z = c.args.probe in
    let fc = c.ranges.column in
    let fx : FitsSigned w32 z.x2 = search rules in
    let fy : FitsSigned w32 z.y2 = search rules in
    no_ties (is_covering a.px.now a.qx.now a.column) (is_less a.px.now a.py.now a.qx.now a.qy.now z.x2 z.y2) (is_at_most a.px.now a.py.now a.qx.now a.qy.now z.x2 z.y2) (is_leaning a.px.now a.py.now a.qx.now a.qy.now z.dx z.dy) a.at
    _ _ _ (simp to_z-of_z at c.covering-cover.ensures) (simp to_z-of_z at c.rising-less.ensures.less) (simp to_z-of_z at c.rising-less.ensures.at_most) c.if-cover-at_most.true

pub returns-else-cover-at_most : goal.returns-else-cover-at_most
returns-else-cover-at_most c =
    let a = c.args in let z = c.args.probe in
    let fc = c.ranges.column in
    let fx : FitsSigned w32 z.x2 = search rules in
    let fy : FitsSigned w32 z.y2 = search rules in
    let gx : FitsSigned w32 z.dx = search rules in
    let gy : FitsSigned w32 z.dy = search rules in
    all_above (is_covering a.px.now a.qx.now a.column) (is_less a.px.now a.py.now a.qx.now a.qy.now z.x2 z.y2) (is_at_most a.px.now a.py.now a.qx.now a.qy.now z.x2 z.y2) (is_leaning a.px.now a.py.now a.qx.now a.qy.now z.dx z.dy) a.at
    _ _ _ _ (simp to_z-of_z at c.covering-cover.ensures) (simp to_z-of_z at c.rising-less.ensures.less) (simp to_z-of_z at c.rising-less.ensures.at_most) (simp to_z-of_z at c.leaning-lean.ensures)
