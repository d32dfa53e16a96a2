use Rattle.std.proofs.Common.{arith, sym, ap}
use Rattle.std.proofs.lemmas.Int.{ints}
use Rattle.geom.specs.declared.point.Pt.{Pt}
use Rattle.crossing.proofs.Ends.{start_pixel, end_pixel}
use Rattle.crossing.proofs.common_point.pixel_at.Goals as goal

pub returns-then-e-eq0-clause-x : goal.returns-then-e-eq0-clause-x
returns-then-e-eq0-clause-x c = sym (ap (λ (u : Pt). u.x) (start_pixel c.args.s.now.a c.args.s.now.b c.args.det c.args.e c.requires.positive (omega (arith, ints))))

pub returns-then-e-eq0-clause-y : goal.returns-then-e-eq0-clause-y
returns-then-e-eq0-clause-y c = sym (ap (λ (u : Pt). u.y) (start_pixel c.args.s.now.a c.args.s.now.b c.args.det c.args.e c.requires.positive (omega (arith, ints))))

pub returns-then-e-det-clause-x : goal.returns-then-e-det-clause-x
returns-then-e-det-clause-x c = sym (ap (λ (u : Pt). u.x) (end_pixel c.args.s.now.a c.args.s.now.b c.args.det c.args.e c.requires.positive (omega (arith, ints))))

pub returns-then-e-det-clause-y : goal.returns-then-e-det-clause-y
returns-then-e-det-clause-y c = sym (ap (λ (u : Pt). u.y) (end_pixel c.args.s.now.a c.args.s.now.b c.args.det c.args.e c.requires.positive (omega (arith, ints))))
