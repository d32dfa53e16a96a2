-- Lines whose boxes share a point: only these cross.
use Rattle.std.proofs.Common.{◌≡◌, ◌≢◌, ◌⊎◌, inl, inr, ℕ, ◌+◌, ◌<◌, ◌≤◌, List, [], ◌∷◌, ◌++◌, sym, ◌∙◌, ap, arith, subst, length, get_or, take, ◌↔◌, ⊎_elim}
use Rattle.std.specs.Prelude.{Contains}
use Rattle.std.proofs.lemmas.Bool.{cases_eq}
use Rattle.std.proofs.lemmas.List.{get_or-map, get_or_default, length-map, length-take, take_more, map-append}
use Rattle.std.proofs.lemmas.Nat.Bits.{bit_at-zero}
use Rattle.geom.specs.declared.point.Pt.{Pt}
use Rattle.geom.specs.declared.rect.Rect.{Rect}
use Rattle.geom.specs.declared.edge.Edge.{Edge}
use Rattle.geom.specs.Box.{IsInBox, ShareAPoint, least_corner, greatest_corner}
use Rattle.box_lanes.specs.Places.{IsPlace}
use Rattle.box_lanes.specs.Sides.{Corners, SharesAt}
use Rattle.hot_region.specs.declared.lines.Line.{Line}
use Rattle.hot_region.specs.Halving.{edges_of}
use Rattle.hot_region.specs.Boxes.{box_of, boxes_of}
use Rattle.hot_region.specs.Lines.{CrossAt, HasCrossed}
use Rattle.hot_region.specs.Rects.{IsIn}
use Rattle.hot_region.proofs.ListLaws.{from_cons, none_in, here}
use Rattle.hot_region.proofs.HalvingLaws.{first_met, second_met}
use Rattle.hot_region.proofs.NearLaws.{in_bounds, met_shares}

-- new has the points of old, and the crossings of e with the lines that lie in the tile, but perhaps not with those at the places left
pub record HasCrossedBut (tile : Rect) (e : Edge) (lines : List Edge) (left : ℕ) (old new : List Pt) : Type 0 where
  pub within : (k : ℕ) → IsPlace left k → k < length lines
  pub kept : (c : Pt) → Contains old c → Contains new c
  pub only : (c : Pt) → Contains new c → Contains old c ⊎ (((f : Edge) × Contains lines f × CrossAt f e c) × IsIn tile c)
  pub all : (k : ℕ) (f : Edge) (c : Pt) → k < length lines → f ≡ get_or lines k f → (IsPlace left k → ⊥) → CrossAt f e c → IsIn tile c → Contains new c

module _ (tile : Rect) (e : Edge) (lines : List Edge) (old : List Pt) where
  -- a line that crosses e has a box that shares a point with that of e
  pub but_near : (bounds : Rect) (near : ℕ) → bounds.lo ≡ least_corner e.p e.q → bounds.hi ≡ greatest_corner e.p e.q → ((k : ℕ) → IsPlace near k ↔ SharesAt (boxes_of lines) bounds k) → HasCrossedBut tile e lines near old old
  but_near bounds near lo hi places = record {
    within = λ k h. let b = ((places k).0 h).below in let l = length-map lines box_of in omega arith;
    kept = λ c h. h;
    only = λ c h. inl h;
    all = λ k f c l is apart x t. absurd (apart ((places k).1 (record {
      below = (let m = length-map lines box_of in omega arith);
      shares = λ d. subst (λ (b : Corners). ShareAPoint b.0 b.1 bounds.lo bounds.hi) (ap box_of is ∙ sym (get_or-map box_of lines k f d l))
          (met_shares bounds f c (subst (λ (b : Corners). IsInBox b.0 b.1 c) (λ i. (sym lo i, sym hi i)) (in_bounds e c (second_met f e c x))) (first_met f e c x));
    })));
  }

  -- one of those left was crossed
  pub but_fewer : (left rest k : ℕ) (f : Edge) (found new : List Pt) → f ≡ get_or lines k f → IsPlace left k → ((j : ℕ) → IsPlace rest j ↔ (IsPlace left j × (j ≢ k)))
      → HasCrossedBut tile e lines left old found → HasCrossed tile e (f ∷ []) found new → HasCrossedBut tile e lines rest old new
  but_fewer left rest k f found new is place others h g = record {
    within = λ j m. h.within j ((others j).0 m).0;
    kept = λ c m. g.kept c (h.kept c m);
    only = λ c m. ⊎_elim
        (λ n. h.only c n)
        (λ n. inr ((f, (k, h.within k place, sym is), subst (λ (y : Edge). CrossAt y e c) (sym (single n.0.0 n.0.1)) n.0.2), n.1))
        (g.only c m);
    all = λ j x c l at gone a t. elim (cases_eq j k) [
      | inl m ↦ g.all x c (subst (λ (y : Edge). Contains (f ∷ []) y) (same x j m at) (here f [])) a t
      | inr m ↦ g.kept c (h.all j x c l at (λ n. gone ((others j).1 (n, m))) a t)
    ];
  }
    where
      single : (x : Edge) → Contains (f ∷ []) x → f ≡ x
      single x m = ⊎_elim (λ n. n) (λ n. absurd (none_in x n)) (from_cons f [] x m)

      same : (x : Edge) (j : ℕ) → j ≡ k → x ≡ get_or lines j x → f ≡ x
      same x j m at = is ∙ get_or_default lines k f x (h.within k place) ∙ ap (λ n. get_or lines n x) (sym m) ∙ sym at

  -- none is left
  pub but_none : (found : List Pt) → HasCrossedBut tile e lines 0 old found → HasCrossed tile e lines old found
  but_none found h = record {
    kept = h.kept;
    only = h.only;
    all = λ f c k a t. h.all k.0 f c k.1 (sym k.2) (λ m. absurd (let b = m.bit in let z = bit_at-zero k.0 in omega arith)) a t;
  }

-- one more line, with its box
pub boxes_more : (lines : List Edge) (i : ℕ) (e : Edge) (boxes : List Corners) (lo hi : Pt) → i < length lines → e ≡ get_or lines i e → boxes ≡ boxes_of (take i lines) → lo ≡ least_corner e.p e.q → hi ≡ greatest_corner e.p e.q
    → boxes ++ (lo, hi) ∷ [] ≡ boxes_of (take (i + 1) lines)
boxes_more lines i e boxes lo hi l is h f g =
    (λ j. h j ++ (f j, g j) ∷ []) ∙ sym (map-append box_of (take i lines) (e ∷ [])) ∙ ap boxes_of (sym (take_more lines i e l ∙ ap (λ (x : Edge). take i lines ++ x ∷ []) (sym is)))

-- fewer lines than lanes have fewer boxes
pub boxes_few : (lines : List Line) (i : ℕ) (boxes : List Corners) → i < length lines → length lines ≤ 32 → boxes ≡ boxes_of (take i (edges_of lines)) → length boxes < 32
boxes_few lines i boxes l few is =
    let a = ap length is in
    let b = length-map (take i (edges_of lines)) box_of in
    let d = length-take i (edges_of lines) in
    let e = length-map lines (λ (x : Line). x.edge) in
    omega arith
