-- The segments of two texts, by the rings that were read of them.
use Rattle.std.proofs.Common.{ℕ, List, subst, sym}
use Rattle.geom.specs.Segments.{AreSegments}
use Rattle.geom.specs.declared.point.Pt.{Pt}
use Rattle.geom.specs.declared.segment.Seg.{Seg}
use Rattle.wkt.specs.Refusals.{StandsFor, plain}
use Rattle.layers.specs.Segments.{AreSegmentsOf}

pub segments_read : (a b : List ℕ) (rings_a rings_b : List (List Pt)) (segments : List Seg) → StandsFor a rings_a → StandsFor b rings_b → AreSegments rings_a rings_b segments → AreSegmentsOf a b segments
segments_read a b rings_a rings_b segments h k are = record {
  rings_a = h.0;
  rings_b = k.0;
  accepted_a = h.1;
  accepted_b = k.1;
  are_segments = subst (λ (p : List (List Pt)). AreSegments p (plain k.0) segments) (sym h.2) (subst (λ (p : List (List Pt)). AreSegments rings_a p segments) (sym k.2) are);
}
