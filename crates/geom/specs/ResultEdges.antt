-- The edges of the result (own), directed so that the result lies on their left.
use Rattle.std.specs.Prelude.{◌&&◌, ◌||◌, ◌^◌, pos, ◌+ℤ◌, ◌-ℤ◌, ◌*ℤ◌, Bool, not, List, filter}
use lib.Signed.{lt_z_yes}
use Rattle.geom.specs.declared.point.Pt.{Pt}
use Rattle.geom.specs.declared.op.Op.{Op}
use Rattle.geom.specs.declared.segment.Source.TheVariants.{A, B}
use Rattle.geom.specs.declared.edge.Edge.{Edge}
use Rattle.geom.specs.declared.edge.Counted.{Counted}
use Rattle.geom.specs.Pixel.{Point}
use Rattle.geom.specs.Operations.{holds}
use Rattle.geom.specs.Rounded.{edges_of, odd_edges}
use Rattle.geom.specs.Parity.{parity}

-- the side point on the left of the edge directed from u to v: their midpoint plus (- dy, dx) / 2 ^ 64
abbrev pub left_side : Pt → Pt → Point
left_side u v = record {
  x = (pos (2 ^ 64) *ℤ (u.x +ℤ v.x)) -ℤ (pos 2 *ℤ (v.y -ℤ u.y));
  y = (pos (2 ^ 64) *ℤ (u.y +ℤ v.y)) +ℤ (pos 2 *ℤ (v.x -ℤ u.x));
  n = pos (2 ^ 65);
  positive = lt_z_yes tt;
}

-- the side point on the right: their midpoint plus (dy, - dx) / 2 ^ 64
abbrev pub right_side : Pt → Pt → Point
right_side u v = record {
  x = (pos (2 ^ 64) *ℤ (u.x +ℤ v.x)) +ℤ (pos 2 *ℤ (v.y -ℤ u.y));
  y = (pos (2 ^ 64) *ℤ (u.y +ℤ v.y)) -ℤ (pos 2 *ℤ (v.x -ℤ u.x));
  n = pos (2 ^ 65);
  positive = lt_z_yes tt;
}

-- whether the operation holds of the parities of z in the two rounded layers
abbrev pub holds_at : Op → List Counted → Point → Bool
holds_at op counted z = holds op (parity (odd_edges A counted) z) (parity (odd_edges B counted) z)

-- whether the edge directed from u to v is one of the result: the operation holds on its left and not on its right
abbrev pub is_result_edge : Op → List Counted → Pt → Pt → Bool
is_result_edge op counted u v = holds_at op counted (left_side u v) && not (holds_at op counted (right_side u v))

-- the rounded edges that are edges of the result in one direction or the other
abbrev pub result_edges : Op → List Counted → List Edge
result_edges op counted = filter (λ e. is_result_edge op counted e.p e.q || is_result_edge op counted e.q e.p) (edges_of counted)
