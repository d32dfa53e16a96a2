use Rattle.std.proofs.Common.{arith, refl}
use Rattle.std.proofs.lemmas.Bool.{false≢true}
use Rattle.polygonize.proofs.ClosedVertices.Going.{not_apart}
use Rattle.polygonize.proofs.closing.goes_on.Goals as goal

pub returns-then-not-is_apart : goal.returns-then-not-is_apart
returns-then-not-is_apart c =
    let before = c.requires.before in
    let inside = c.requires.inside in
    (λ h. absurd (false≢true h), λ g. absurd (not_apart c.args.ends.now c.args.from c.args.past c.args.place (omega (arith, before, inside)) _ c.if-not-is_apart.ensures refl c.if-place-past.true g))
