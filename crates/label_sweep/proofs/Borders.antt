-- Coordinates, and the columns where edges begin.
use Rattle.std.proofs.Common.{inl, inr, subst, arith, FitsSigned, w32}
use Rattle.std.specs.Prelude.{◌<ℤ◌, ◌≤ℤ◌}
use Rattle.std.proofs.Math.IntN.{ℤ}
use Rattle.std.proofs.lemmas.Int.{ints}
use Rattle.geom.specs.declared.point.Pt.{Pt}
use Rattle.geom.specs.declared.edge.Edge.{Edge}
use Rattle.geom.specs.EdgeOrder.{IsEdgeBefore}
use Rattle.geom.specs.Limit.{IsWithin, coordinate_limit}

-- a coordinate fits an `i32`
pub fits : (x : ℤ) → IsWithin coordinate_limit x → FitsSigned w32 x
fits x h = omega (arith, ints, h.low, h.high)

-- no column lies both on the left of another one and at it or on its right
pub clash : {x y : ℤ} → x <ℤ y → y ≤ℤ x → ⊥
clash l m = omega (arith, ints, l, m)

-- an edge before another one begins in its column or on the left of that
pub edge_not_right : (e f : Edge) → IsEdgeBefore e f → e.p.x ≤ℤ f.p.x
edge_not_right e f (inl b) = b.column
edge_not_right e f (inr b) = subst (λ (p : Pt). e.p.x ≤ℤ p.x) b.0 (omega (arith, ints))
