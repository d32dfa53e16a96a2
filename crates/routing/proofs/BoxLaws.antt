-- Pixels outside the box of a line: the line meets none of them.
use Rattle.std.proofs.Common.{◌≡◌, ◌≢◌, ◌⊎◌, inl, inr, ℕ, ◌+◌, ◌<◌, ◌≤◌, List, [], ◌∷◌, ◌++◌, sym, ◌∙◌, ap, arith, subst, length, get_or, take, ◌↔◌, ⊎_elim}
use Rattle.std.specs.Prelude.{Contains, slice_range}
use Rattle.std.proofs.Math.IntN.{pos}
use Rattle.std.proofs.lemmas.Bool.{cases_eq}
use Rattle.std.proofs.lemmas.List.{get_or-map, get_or_default, length-map, length-take, take_more, map-append}
use Rattle.std.proofs.lemmas.List.Elements.{Contains-append_left, Contains-append_right, Contains-append_cases}
use Rattle.std.proofs.lemmas.Nat.Bits.{bit_at-zero}
use Rattle.geom.specs.declared.point.Pt.{Pt}
use Rattle.geom.specs.declared.rect.Rect.{Rect}
use Rattle.geom.specs.declared.segment.Seg.{Seg}
use Rattle.geom.specs.Box.{IsInBox, LiesInBox, ShareAPoint, greatest_corner, least_corner}
use Rattle.geom.proofs.Integers.{linear}
use Rattle.geom.proofs.Numbers.{once_from, once_to}
use Rattle.box_lanes.specs.Places.{IsPlace}
use Rattle.box_lanes.specs.Sides.{Corners, SharesAt}
use Rattle.hot_region.specs.declared.lines.Line.{Line}
use Rattle.hot_region.specs.Halving.{IsMetOn}
use Rattle.hot_region.proofs.ListLaws.{take_parts}
use Rattle.hot_region.proofs.NearLaws.{in_bounds}
use Rattle.routing.specs.declared.on_line.OnLine.{OnLine}
use Rattle.routing.specs.declared.record.Record.{Record}
use Rattle.routing.specs.Boxes.{box_of, boxes_of}
use Rattle.routing.specs.Recording.{AddsAlong, AddsAt, AddsRecordsAt, IsRecordAlong}

lies : (lo hi c : Pt) → IsInBox lo hi c → LiesInBox lo hi (record { x = c.x; y = c.y; n = pos 1; positive = omega (arith, linear) })
lies lo hi c h = record { left = once_from lo.x c.x h.left; right = once_to hi.x c.x h.right; bottom = once_from lo.y c.y h.bottom; top = once_to hi.y c.y h.top }

-- a pixel in a box shares a point with it
shares : (lo hi c : Pt) → IsInBox lo hi c → ShareAPoint c c lo hi
shares lo hi c h = (record { x = c.x; y = c.y; n = pos 1; positive = omega (arith, linear) }, lies c c c (record { left = omega (arith, linear); right = omega (arith, linear); bottom = omega (arith, linear); top = omega (arith, linear) }), lies lo hi c h)

-- new has the records of old, and those of the line at the pixels, but perhaps not those at the places left
pub record AddsAlongBut (segments : List Seg) (table : List OnLine) (line : Line) (pixels : List Pt) (left : ℕ) (old new : List Record) : Type 0 where
  pub within : (k : ℕ) → IsPlace left k → k < length pixels
  pub kept : (r : Record) → Contains old r → Contains new r
  pub only : (r : Record) → Contains new r → Contains old r ⊎ (IsRecordAlong segments table line r × Contains pixels r.pixel)
  pub all : (k : ℕ) (r : Record) → k < length pixels → r.pixel ≡ get_or pixels k r.pixel → (IsPlace left k → ⊥) → IsRecordAlong segments table line r → Contains new r

module _ (segments : List Seg) (table : List OnLine) (line : Line) (pixels : List Pt) (old : List Record) where
  -- a pixel that the line meets lies in its box
  pub but_near : (bounds : Rect) (near : ℕ) → bounds.lo ≡ least_corner line.edge.p line.edge.q → bounds.hi ≡ greatest_corner line.edge.p line.edge.q → ((k : ℕ) → IsPlace near k ↔ SharesAt (boxes_of pixels) bounds k)
      → AddsAlongBut segments table line pixels near old old
  but_near bounds near lo hi places = record {
    within = λ k h. let b = ((places k).0 h).below in let l = length-map pixels box_of in omega arith;
    kept = λ r h. h;
    only = λ r h. inl h;
    all = λ k r l is apart along. absurd (apart ((places k).1 (record {
      below = (let m = length-map pixels box_of in omega arith);
      shares = λ d. subst (λ (b : Corners). ShareAPoint b.0 b.1 bounds.lo bounds.hi) (ap box_of is ∙ sym (get_or-map box_of pixels k r.pixel d l))
          (shares bounds.lo bounds.hi r.pixel (subst (λ (b : Corners). IsInBox b.0 b.1 r.pixel) (λ i. (sym lo i, sym hi i)) (in_bounds line.edge r.pixel along.met)));
    })));
  }

  module _ (left rest k : ℕ) (c : Pt) (list : List Record) (is : c ≡ get_or pixels k c) (place : IsPlace left k) (others : (j : ℕ) → IsPlace rest j ↔ (IsPlace left j × (j ≢ k))) (h : AddsAlongBut segments table line pixels left old list) where
    same : (r : Record) (j : ℕ) → j ≡ k → r.pixel ≡ get_or pixels j r.pixel → c ≡ r.pixel
    same r j m at = is ∙ get_or_default pixels k c r.pixel (h.within k place) ∙ ap (λ n. get_or pixels n r.pixel) (sym m) ∙ sym at

    -- the line doesn't meet one of those left
    pub but_missed : ¬ (IsMetOn line.edge c) → AddsAlongBut segments table line pixels rest old list
    but_missed misses = record {
      within = λ j m. h.within j ((others j).0 m).0;
      kept = h.kept;
      only = h.only;
      all = λ j r l at gone along. elim (cases_eq j k) [
        | inl m ↦ absurd (misses (subst (λ (p : Pt). IsMetOn line.edge p) (sym (same r j m at)) along.met))
        | inr m ↦ h.all j r l at (λ n. gone ((others j).1 (n, m))) along
      ];
    }

    -- or it has its records
    pub but_met : (new : List Record) → IsMetOn line.edge c → AddsAt segments table line.first line.past c list new → AddsAlongBut segments table line pixels rest old new
    but_met new met g = record {
      within = λ j m. h.within j ((others j).0 m).0;
      kept = λ r m. (g.same r).1 (inl (h.kept r m));
      only = λ r m. ⊎_elim
          (λ n. h.only r n)
          (λ n. inr (record { copy = n.0; met = subst (λ (p : Pt). IsMetOn line.edge p) n.1 met }, (k, h.within k place, sym (is ∙ get_or_default pixels k c _ (h.within k place)) ∙ n.1)))
          ((g.same r).0 m);
      all = λ j r l at gone along. elim (cases_eq j k) [
        | inl m ↦ (g.same r).1 (inr (along.copy, same r j m at))
        | inr m ↦ (g.same r).1 (inl (h.all j r l at (λ n. gone ((others j).1 (n, m))) along))
      ];
    }

    -- or the list has them already
    pub but_added : AddsAt segments table line.first line.past c list list → AddsAlongBut segments table line pixels rest old list
    but_added g = record {
      within = λ j m. h.within j ((others j).0 m).0;
      kept = h.kept;
      only = h.only;
      all = λ j r l at gone along. elim (cases_eq j k) [
        | inl m ↦ (g.same r).1 (inr (along.copy, same r j m at))
        | inr m ↦ h.all j r l at (λ n. gone ((others j).1 (n, m))) along
      ];
    }

  -- none is left
  pub but_none : (new : List Record) → AddsAlongBut segments table line pixels 0 old new → AddsAlong segments table line pixels old new
  but_none new h = record {
    same = λ r. (h.only r, λ m. ⊎_elim (λ n. h.kept r n) (λ n. h.all n.1.0 r n.1.1 (sym n.1.2) (λ p. absurd (let b = p.bit in let z = bit_at-zero n.1.0 in omega arith)) n.0) m);
  }

-- one more pixel, with its box
pub boxes_more : (pixels : List Pt) (i : ℕ) (c : Pt) (boxes : List Corners) → i < length pixels → c ≡ get_or pixels i c → boxes ≡ boxes_of (take i pixels) → boxes ++ (c, c) ∷ [] ≡ boxes_of (take (i + 1) pixels)
boxes_more pixels i c boxes l is h =
    ap (λ (b : List Corners). b ++ (c, c) ∷ []) h ∙ sym (map-append box_of (take i pixels) (c ∷ [])) ∙ ap boxes_of (sym (take_more pixels i c l ∙ ap (λ (x : Pt). take i pixels ++ x ∷ []) (sym is)))

-- fewer pixels than lanes have fewer boxes
pub boxes_few : (pixels : List Pt) (i : ℕ) (boxes : List Corners) → i < length pixels → length pixels ≤ 32 → boxes ≡ boxes_of (take i pixels) → length boxes < 32
boxes_few pixels i boxes l few is = let a = ap length is in let b = length-map (take i pixels) box_of in let d = length-take i pixels in omega arith

-- records at the first pixels, and then at those behind them
pub records_behind : (segments : List Seg) (table : List OnLine) (lines : List Line) (pixels : List Pt) (from past : ℕ) (old list new : List Record) → from ≤ past → from ≤ length pixels
    → AddsRecordsAt segments table lines (take from pixels) old list → AddsRecordsAt segments table lines (slice_range pixels from past) list new → AddsRecordsAt segments table lines (take past pixels) old new
records_behind segments table lines pixels from past old list new l within h g = record {
  same = λ r. (
    (λ m. ⊎_elim
        (λ n. ⊎_elim (λ p. inl p) (λ p. inr (p.0, subst (λ (cs : List Pt). Contains cs r.pixel) (sym parts) (Contains-append_left (take from pixels) (slice_range pixels from past) r.pixel p.1))) ((h.same r).0 n))
        (λ n. inr (n.0, subst (λ (cs : List Pt). Contains cs r.pixel) (sym parts) (Contains-append_right (take from pixels) (slice_range pixels from past) r.pixel n.1)))
        ((g.same r).0 m)),
    (λ m. ⊎_elim
        (λ n. (g.same r).1 (inl ((h.same r).1 (inl n))))
        (λ n. ⊎_elim
        (λ p. (g.same r).1 (inl ((h.same r).1 (inr (n.0, p)))))
        (λ p. (g.same r).1 (inr (n.0, p)))
        (Contains-append_cases (take from pixels) (slice_range pixels from past) r.pixel (subst (λ (cs : List Pt). Contains cs r.pixel) parts n.1)))
        m),
  );
}
  where
    parts : take past pixels ≡ take from pixels ++ slice_range pixels from past
    parts = take_parts pixels from past l within

-- records at no pixel
pub records_none : (segments : List Seg) (table : List OnLine) (lines : List Line) (old : List Record) → AddsRecordsAt segments table lines [] old old
records_none segments table lines old = record { same = λ r. (λ h. inl h, λ h. ⊎_elim (λ k. k) (λ k. absurd (omega (arith, k.1.1))) h) }
