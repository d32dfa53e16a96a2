use Rattle.std.proofs.Common.{arith}
use Rattle.lane_tests.proofs.Hits.{found_all, found_none, found_nothing, found_until}
use Rattle.lane_tests.proofs.PairLists.{length-pairs_of}
use Rattle.lane_tests.proofs.RunHulls.{is_hull, is_missed, run_missed}
use Rattle.lane_tests.proofs.boxes.push_runs.Goals as goal

pub loop-at-init : goal.loop-at-init
loop-at-init g c = found_none _ _ _ _ c.requires.in_order

pub bounds-hulls-run : goal.bounds-hulls-run
bounds-hulls-run g c =
    let h = c.requires.columns in
    c.requires.hulls.inside c.loop-at.at (omega (arith, c.loop-at-test.true, c.requires.in_range, length-pairs_of _ _ _ _ h.bottom_len h.right_len h.top_len))

pub loop-at-preserved-in_ok-push_touching : goal.loop-at-preserved-in_ok-push_touching
loop-at-preserved-in_ok-push_touching g c = found_until _ _ c.loop-at.at c.min-next.result _ _ _ _ c.loop-at.invariant (omega (arith, c.min-next.ensures, c.loop-at-test.true)) (omega (arith, c.min-next.ensures)) c.in_ok-push_touching.ensures

pub loop-at-preserved : goal.loop-at-preserved
loop-at-preserved g c =
    let h = c.requires.columns in
    let run = c.requires.hulls.inside c.loop-at.at (omega (arith, c.loop-at-test.true, c.requires.in_range, length-pairs_of _ _ _ _ h.bottom_len h.right_len h.top_len)) in
    found_nothing _ _ c.loop-at.at c.min-next.result _ _ _ c.loop-at.invariant (omega (arith, c.min-next.ensures, c.loop-at-test.true)) (omega (arith, c.min-next.ensures))
    (run_missed _ _ _ _ _ h c.requires.hulls c.loop-at.at c.min-next.result c.index-hulls-run.result c.args.rect (is_hull _ _ c.index-hulls-run.result run c.index-hulls-run.is)
    (is_missed _ c.shares_point.ensures c.if-shares_point.false) (omega (arith, c.min-next.ensures)) (omega (arith, c.min-next.ensures, c.requires.in_range)))

pub returns : goal.returns
returns g c = found_all _ _ _ _ _ _ c.loop-at.invariant (omega arith)
