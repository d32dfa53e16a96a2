use Rattle.std.proofs.Common.{◌/◌, refl, sym, ap, subst}
use Rattle.lane_tests.specs.Boxes.{AreRects, rects_of}
use Rattle.lane_tests.specs.Columns.{corners}
use Rattle.lane_tests.specs.Hulls.{AreHulls}
use Rattle.lane_tests.proofs.RunHulls.{hulls_grown, hulls_kept, run_begins}
use Rattle.lane_tests.proofs.Pairs.{either_way, list_grown, list_kept, on_err, on_err_all, on_ok, still}
use Rattle.lane_tests.proofs.Rects.{corners-rects_of, corners_tell, rects_grown}
use Rattle.lane_tests.proofs.boxes.Boxes.push.Goals as goal

pub hold-requires : goal.hold-requires
hold-requires g c = run_begins _ _ c.len.result c.self.inside.are_hulls c.len.ensures.value

pub invariant_of-self-inside : goal.invariant_of-self-inside
invariant_of-self-inside g c = (c.self.inside.are_rects, (subst (λ hulls. AreHulls hulls c.self.inside.columns) (sym c.in_err-hold.ensures.err) c.self.inside.are_hulls, tt))

pub returns-in_err-hold-clause-err : goal.returns-in_err-hold-clause-err
returns-in_err-hold-clause-err g c = on_err_all c.from_residual.result (list_kept corners corners_tell AreRects rects_of corners-rects_of _ _ c.self.inside.are_rects _ _ c.self.view_is refl)

pub invariant_of-self-inside-2 : goal.invariant_of-self-inside-2
invariant_of-self-inside-2 g c =
    let h = c.self.inside.are_rects in
    let k = c.self.inside.are_hulls in
    let held = c.in_ok-hold.ensures.ok in (
      either_way c.push.result (λ e. rects_grown _ _ c.args.rect h e) (λ e. still AreRects _ _ h e) c.push.ensures.ok c.push.ensures.err,
      (
        either_way c.push.result (λ e. hulls_grown _ _ _ c.args.rect _ _ k held (ap (λ n. n / 256) c.len.ensures.value) e) (λ e. hulls_kept _ _ _ c.args.rect _ _ k held e) c.push.ensures.ok c.push.ensures.err,
        tt,
      ),
    )

pub returns-clause-ok : goal.returns-clause-ok
returns-clause-ok g c = on_ok c.push.result (λ e. list_grown corners corners_tell AreRects rects_of corners-rects_of _ _ c.self.inside.are_rects _ _ c.args.rect c.self.view_is e) c.push.ensures.ok

pub returns-clause-err : goal.returns-clause-err
returns-clause-err g c = on_err c.push.result (λ e. list_kept corners corners_tell AreRects rects_of corners-rects_of _ _ c.self.inside.are_rects _ _ c.self.view_is e) c.push.ensures.err
