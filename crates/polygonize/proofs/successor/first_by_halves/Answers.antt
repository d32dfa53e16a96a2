use Rattle.std.proofs.Common.{◌≡◌, ◌∙◌, ap, sym, arith, rules}
use Rattle.std.proofs.lemmas.List.{get_or_default}
use Rattle.polygonize.specs.declared.leaving.LeavingEdge.{LeavingEdge}
use Rattle.polygonize.proofs.NextEdge.RoundVertex.{first_at, first_past}
use Rattle.polygonize.proofs.successor.first_by_halves.Goals as goal
use Rattle.polygonize.proofs.successor.first_by_halves.Goals.{else-past-leaving-via-then-past-leaving+else-is_at, else-past-leaving-via-else-past-leaving}

pub returns-then-is_at : goal.returns-then-is_at
returns-then-is_at c = let same : c.index-leaving-past-then-is_at.result ≡ c.index-leaving-past.result = c.index-leaving-past-then-is_at.is ∙ get_or_default c.args.leaving.now c.first_past-past.result c.index-leaving-past-then-is_at.result c.index-leaving-past.result c.if-past-leaving.true ∙ sym c.index-leaving-past.is in
    first_past c.args.leaving.now c.args.back c.index-leaving-past-then-is_at.result c.first_past-past.result c.requires.sorted c.first_past-past.ensures c.if-past-leaving.true c.index-leaving-past-then-is_at.is
    (ap (λ (s : LeavingEdge). s.at) same ∙ c.is_at.ensures.0 (search rules))

pub returns-else-past-leaving : goal.returns-else-past-leaving
returns-else-past-leaving c = first_at c.args.leaving.now c.args.back c.index-leaving-first.result c.first_past-past.result c.first_listed-first.result c.requires.sorted c.first_past-past.ensures
    (λ t h is. elim c.else-past-leaving.branch [
      | else-past-leaving-via-then-past-leaving+else-is_at w ↦ λ e. (let same : w.index-leaving-past.result ≡ t = w.index-leaving-past.is ∙ get_or_default c.args.leaving.now c.first_past-past.result w.index-leaving-past.result t h ∙ sym is in
          let k = w.is_at.ensures.1 (ap (λ (s : LeavingEdge). s.at) same ∙ e) in let f = w.if-is_at.false in absurd (cc))
      | else-past-leaving-via-else-past-leaving w ↦ absurd (omega (arith, h, w.if-past-leaving.false))
    ])
    c.first_listed-first.ensures c.requires.some.0 c.requires.some.1 c.requires.some.2 c.index-leaving-first.is
