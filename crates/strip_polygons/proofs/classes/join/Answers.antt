use Rattle.std.proofs.Common.{max, min, arith}
use Rattle.strip_polygons.proofs.Roots.{root_not_greater}
use Rattle.strip_polygons.proofs.RootsInLoops.{greater_and_lesser, roots_joined}
use Rattle.strip_polygons.proofs.classes.join.Goals as goal

pub offset_bounds-above-max : goal.offset_bounds-above-max
offset_bounds-above-max c =
    let f = root_not_greater c.args.above.now c.args.link.first c.root_of-first.result c.root_of-first.ensures.root in
    let s = root_not_greater c.root_of-first.new.above c.args.link.second c.root_of-second.result c.root_of-second.ensures.root in
    omega (arith, f, s)

pub bounds-above-max : goal.bounds-above-max
bounds-above-max c =
    let f = root_not_greater c.args.above.now c.args.link.first c.root_of-first.result c.root_of-first.ensures.root in
    let s = root_not_greater c.root_of-first.new.above c.args.link.second c.root_of-second.result c.root_of-second.ensures.root in
    omega (arith, f, s)

pub returns-clause-joined : goal.returns-clause-joined
returns-clause-joined c =
    let f = root_not_greater c.args.above.now c.args.link.first c.root_of-first.result c.root_of-first.ensures.root in
    let s = root_not_greater c.root_of-first.new.above c.args.link.second c.root_of-second.result c.root_of-second.ensures.root in
    rw (c.max.ensures, c.min.ensures)
    (roots_joined c.args.above.now c.root_of-first.new.above c.root_of-second.new.above c.args.link.first c.args.link.second
    c.root_of-first.result c.root_of-second.result (max c.root_of-first.result c.root_of-second.result) (min c.root_of-first.result c.root_of-second.result)
    c.requires.forest c.root_of-first.ensures.same_roots c.root_of-second.ensures.same_roots c.root_of-first.ensures.root c.root_of-second.ensures.root
    (greater_and_lesser c.root_of-first.result c.root_of-second.result) (omega arith) (omega (arith, f, s)))
