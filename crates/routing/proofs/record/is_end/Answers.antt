use Rattle.std.proofs.Common.{◌∙◌, inr, sym, ⊎_elim}
use Rattle.geom.proofs.Points.{same_point_of, same_point_true}
use Rattle.routing.proofs.record.is_end.Goals as goal

pub returns-else-eq : goal.returns-else-eq
returns-else-eq c =
    let s = c.args.s.now in
    let pixel = c.args.pixel in (
      (λ t. inr (same_point_true s.b pixel (sym c.eq-else-eq.ensures ∙ t))),
      (λ e. ⊎_elim (λ a. absurd (let f = c.if-eq.false in let g = c.eq.ensures ∙ same_point_of s.a pixel a in cc)) (λ b. c.eq-else-eq.ensures ∙ same_point_of s.b pixel b) e),
    )
