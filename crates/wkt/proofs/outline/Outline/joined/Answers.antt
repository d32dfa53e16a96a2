use Rattle.std.proofs.Common.{arith, refl}
use Rattle.wkt.proofs.Outlines.{outline_joined}
use Rattle.wkt.proofs.outline.Outline.joined.Goals as goal

pub returns-in-Some-Some : goal.returns-in-Some-Some
returns-in-Some-Some c = λ rings more h k. outline_joined rings more c.args.self c.args.other _ (let n = c.in_ok-segments.ensures in omega (arith, n))
    (rw (c.in-Some-Some.is-0, c.in-Some-Some.is-1) (c.bounds_of_both.result, refl, c.bounds_of_both.ensures)) h k
