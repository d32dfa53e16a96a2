-- Segments on a line.
use Rattle.std.proofs.Common.{inl, inr, refl, sym, ◌∙◌, subst}
use Rattle.geom.specs.declared.point.Pt.{Pt}
use Rattle.geom.specs.declared.segment.Seg.{Seg}
use Rattle.geom.specs.declared.segment.Source.TheVariants.{A}
use Rattle.geom.specs.declared.edge.Edge.{Edge}
use Rattle.geom.specs.Hot.{CrossIn}
use Rattle.geom.specs.Order.{IsBefore}
use Rattle.geom.proofs.Orders.{before_itself}
use Rattle.hot_region.specs.Lines.{IsLine, CrossAt}
use Rattle.hot_region.proofs.HotLaws.{HasEndsOf, cross_lines}

pub same_line : (e : Edge) (s t : Seg) → IsLine e s → IsLine e t → HasEndsOf s t
same_line e s t (inl (a, b)) (inl (c, d)) = inl (sym a ∙ c, sym b ∙ d)
same_line e s t (inl (a, b)) (inr (c, d)) = inr (sym a ∙ c, sym b ∙ d)
same_line e s t (inr (a, b)) (inl (c, d)) = inr (sym b ∙ d, sym a ∙ c)
same_line e s t (inr (a, b)) (inr (c, d)) = inl (sym b ∙ d, sym a ∙ c)

-- a segment on a line
unfoldable pub segment_of : Edge → Seg
segment_of e = record { a = e.p; b = e.q; layer = A; proper = λ h. before_itself e.q (subst (λ (p : Pt). IsBefore p e.q) h e.ordered) }

pub segment_line : (e : Edge) → IsLine e (segment_of e)
unfolding segment_of
segment_line e = inl (refl, refl)

pub cross_at : (e f : Edge) (s t : Seg) (c : Pt) → IsLine e s → IsLine f t → CrossIn s t c → CrossAt e f c
cross_at e f s t c h k x = record { cross = λ s' t' h' k'. cross_lines s t s' t' c (same_line e s s' h h') (same_line f t t' k k') x }
