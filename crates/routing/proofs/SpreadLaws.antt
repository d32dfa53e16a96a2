-- The records of lines at pixels, found by halves of these.
use Rattle.std.proofs.Common.{◌≡◌, ◌⊎◌, inl, inr, ℕ, ◌+◌, ◌<◌, ℤ, List, [], ◌∷◌, ◌++◌, refl, sym, subst, arith, length, get_or, take, ◌↔◌, ⊎_elim}
use Rattle.std.specs.Prelude.{◌≤ℤ◌, All, Contains, Result, Ok, Err, OnOk}
use Rattle.std.specs.Int.{int_max, int_min}
use Rattle.std.proofs.lemmas.Int.{ints, clamps}
use Rattle.std.proofs.lemmas.List.Elements.{All-contains, Contains-get_or, Contains-push, Contains-push_cases}
use Rattle.geom.specs.Box.{greatest_corner, least_corner}
use Rattle.geom.specs.Limit.{AreInLimit, InLimit, IsWithin, coordinate_limit}
use Rattle.geom.specs.declared.point.Pt.{Pt}
use Rattle.geom.specs.declared.rect.Rect.{Rect}
use Rattle.hot_region.specs.declared.lines.Line.{Line}
use Rattle.hot_region.specs.declared.wall.Wall.{Wall}
use Rattle.hot_region.specs.Halving.{AreHalves, AreReaching}
use Rattle.hot_region.specs.Rects.{IsIn}
use Rattle.hot_region.specs.Walls.{IsInside}
use Rattle.hot_region.proofs.ListLaws.{in_push, in_take_more, none_in}
use Rattle.geom.specs.declared.segment.Seg.{Seg}
use Rattle.routing.specs.declared.on_line.OnLine.{OnLine}
use Rattle.routing.specs.declared.record.Record.{Record}
use Rattle.routing.specs.Recording.{AddsRecordsAt, IsRecordOnOne}
use Rattle.routing.specs.Spread.{AreThoseIn}

-- what follows from what a call ensures where it has room
pub on_ok : {T E : Type 0} (r : Result T E) {P Q : Type 0} → (P → Q) → OnOk r P → OnOk r Q
on_ok (Ok v) f h = f h
on_ok (Err e) f h = tt

-- ---- a box
-- q is r with a point
pub record IsWith (r : Rect) (p : Pt) (q : Rect) : Type 0 where
  pub left : q.lo.x ≡ int_min r.lo.x p.x
  pub below : q.lo.y ≡ int_min r.lo.y p.y
  pub right : q.hi.x ≡ int_max r.hi.x p.x
  pub above : q.hi.y ≡ int_max r.hi.y p.y

-- the rectangle is within the coordinate limit, and has the pixels
pub record HoldsAll (pixels : List Pt) (r : Rect) : Type 0 where
  pub limited : AreInLimit r.lo r.hi
  pub all : (c : Pt) → Contains pixels c → IsIn r c

lower : (q a b z : ℤ) → q ≡ int_min a b → a ≤ℤ z → q ≤ℤ z
lower q a b z e h = omega (arith, ints, clamps)

lower_too : (q a b : ℤ) → q ≡ int_min a b → q ≤ℤ b
lower_too q a b e = omega (arith, ints, clamps)

higher : (q a b z : ℤ) → q ≡ int_max a b → z ≤ℤ a → z ≤ℤ q
higher q a b z e h = omega (arith, ints, clamps)

higher_too : (q a b : ℤ) → q ≡ int_max a b → b ≤ℤ q
higher_too q a b e = omega (arith, ints, clamps)

not_below : (q a b z : ℤ) → q ≡ int_min a b → z ≤ℤ a → z ≤ℤ b → z ≤ℤ q
not_below q a b z e h k = omega (arith, ints, clamps)

not_above : (q a b z : ℤ) → q ≡ int_max a b → a ≤ℤ z → b ≤ℤ z → q ≤ℤ z
not_above q a b z e h k = omega (arith, ints, clamps)

least_in : (q a b : ℤ) → q ≡ int_min a b → IsWithin coordinate_limit a → IsWithin coordinate_limit b → IsWithin coordinate_limit q
least_in q a b e h k = record { low = not_below q a b _ e h.low k.low; high = lower q a b _ e h.high }

greatest_in : (q a b : ℤ) → q ≡ int_max a b → IsWithin coordinate_limit a → IsWithin coordinate_limit b → IsWithin coordinate_limit q
greatest_in q a b e h k = record { low = higher q a b _ e h.low; high = not_above q a b _ e h.high k.high }

-- the box of one point, and maybe of others
pub holds_none : (p : Pt) (r : Rect) → InLimit p → r.lo ≡ least_corner p p → r.hi ≡ greatest_corner p p → HoldsAll [] r
holds_none p r h lo hi = record {
  limited = subst (λ (x : Pt × Pt). AreInLimit x.0 x.1) (λ i. (sym lo i, sym hi i)) (record {
    a_in = record { x_in = least_in _ _ _ refl h.x_in h.x_in; y_in = least_in _ _ _ refl h.y_in h.y_in };
    b_in = record { x_in = greatest_in _ _ _ refl h.x_in h.x_in; y_in = greatest_in _ _ _ refl h.y_in h.y_in };
  });
  all = λ c k. absurd (none_in c k);
}

pub holds_more : (pixels : List Pt) (i : ℕ) (p : Pt) (r q : Rect) → i < length pixels → p ≡ get_or pixels i p → InLimit p → IsWith r p q → HoldsAll (take i pixels) r → HoldsAll (take (i + 1) pixels) q
holds_more pixels i p r q below is k w h = record {
  limited = record {
    a_in = record { x_in = least_in _ _ _ w.left h.limited.a_in.x_in k.x_in; y_in = least_in _ _ _ w.below h.limited.a_in.y_in k.y_in };
    b_in = record { x_in = greatest_in _ _ _ w.right h.limited.b_in.x_in k.x_in; y_in = greatest_in _ _ _ w.above h.limited.b_in.y_in k.y_in };
  };
  all = λ c m. ⊎_elim (λ n. still_in c (h.all c n)) (λ e. subst (λ (x : Pt). IsIn q x) e now_in) ((in_take_more pixels i p below is c).0 m);
}
  where
    still_in : (c : Pt) → IsIn r c → IsIn q c
    still_in c n = record {
      left = lower q.lo.x r.lo.x p.x c.x w.left n.left;
      right = higher q.hi.x r.hi.x p.x c.x w.right n.right;
      bottom = lower q.lo.y r.lo.y p.y c.y w.below n.bottom;
      top = higher q.hi.y r.hi.y p.y c.y w.above n.top;
    }

    now_in : IsIn q p
    now_in = record {
      left = lower_too q.lo.x r.lo.x p.x w.left;
      right = higher_too q.hi.x r.hi.x p.x w.right;
      bottom = lower_too q.lo.y r.lo.y p.y w.below;
      top = higher_too q.hi.y r.hi.y p.y w.above;
    }

-- ---- the pixels of a rectangle
pub those_none : (rect : Rect) → AreThoseIn rect [] []
those_none rect = record { same = λ c. (λ h. absurd (none_in c h), λ h. absurd (none_in c h.0)) }

module _ (rect : Rect) (pixels : List Pt) (i : ℕ) (p : Pt) (list : List Pt) (below : i < length pixels) (is : p ≡ get_or pixels i p) (h : AreThoseIn rect (take i pixels) list) where
  more : (c : Pt) → Contains (take (i + 1) pixels) c ↔ (Contains (take i pixels) c ⊎ (p ≡ c))
  more c = in_take_more pixels i p below is c

  pub those_push : IsIn rect p → AreThoseIn rect (take (i + 1) pixels) (list ++ p ∷ [])
  those_push b = record {
    same = λ c. (
      (λ k. ⊎_elim
          (λ m. let r = (h.same c).0 m in ((more c).1 (inl r.0), r.1))
          (λ m. ((more c).1 (inr m), subst (λ (x : Pt). IsIn rect x) m b))
          (Contains-push_cases list p c k)),
      (λ k. ⊎_elim
          (λ m. in_push list c p ((h.same c).1 (m, k.1)))
          (λ m. subst (λ (x : Pt). Contains (list ++ p ∷ []) x) m (Contains-push list p))
          ((more c).0 k.0)),
    );
  }

  pub those_skip : (IsIn rect p → ⊥) → AreThoseIn rect (take (i + 1) pixels) list
  those_skip n = record {
    same = λ c. (
      (λ k. let r = (h.same c).0 k in ((more c).1 (inl r.0), r.1)),
      (λ k. ⊎_elim
          (λ m. (h.same c).1 (m, k.1))
          (λ m. absurd (n (subst (λ (x : Pt). IsIn rect x) (sym m) k.1)))
          ((more c).0 k.0)),
    );
  }

pub those_limited : (rect : Rect) (pixels some : List Pt) → AreThoseIn rect pixels some → All InLimit pixels → All InLimit some
those_limited rect pixels some h all = λ k d l. All-contains InLimit pixels (get_or some k d) all ((h.same (get_or some k d)).0 (Contains-get_or some k d l)).0

-- ---- the records of lines that may meet a pixel of a rectangle
module _ (segments : List Seg) (table : List OnLine) (rect : Rect) (walls : List Wall) (lines left : List Line) (pixels : List Pt) (in_rect : (c : Pt) → Contains pixels c → IsIn rect c) (none : walls ≡ []) (are : AreReaching (IsInside rect walls) lines left) where
  wide : (r : Record) → IsRecordOnOne segments table left r → IsRecordOnOne segments table lines r
  wide r k = record { line = k.line; listed = are.among k.line k.listed; along = k.along }

  inside : (c : Pt) → Contains pixels c → IsInside rect walls c
  inside c k = record { in_rect = in_rect c k; behind = λ w m. absurd (none_in w (subst (λ (ws : List Wall). Contains ws w) none m)) }

  narrow : (r : Record) → Contains pixels r.pixel → IsRecordOnOne segments table lines r → IsRecordOnOne segments table left r
  narrow r at k = record { line = k.line; listed = are.complete k.line r.pixel k.listed (inside r.pixel at) k.along.met; along = k.along }

  -- the pixels aren't parted
  pub spread_whole : (old new : List Record) → AddsRecordsAt segments table left pixels old new → AddsRecordsAt segments table lines pixels old new
  spread_whole old new h = record {
    same = λ r. (
      (λ k. ⊎_elim (λ m. inl m) (λ m. inr (wide r m.0, m.1)) ((h.same r).0 k)),
      (λ k. (h.same r).1 (⊎_elim (λ m. inl m) (λ m. inr (narrow r m.1 m.0, m.1)) k)),
    );
  }

  -- they are, by halves
  pub spread_unite : (first second : Rect) (some rest : List Pt) (old mid new : List Record) → AreHalves rect first second → AreThoseIn first pixels some → AreThoseIn second pixels rest → AddsRecordsAt segments table left some old mid → AddsRecordsAt segments table left rest mid new → AddsRecordsAt segments table lines pixels old new
  spread_unite first second some rest old mid new halves in_first in_second h g = record { same = λ r. (to r, from r) }
    where
      to : (r : Record) → Contains new r → Contains old r ⊎ (IsRecordOnOne segments table lines r × Contains pixels r.pixel)
      to r k = ⊎_elim
          (λ m. ⊎_elim (λ n. inl n) (λ n. inr (wide r n.0, ((in_first.same r.pixel).0 n.1).0)) ((h.same r).0 m))
          (λ n. inr (wide r n.0, ((in_second.same r.pixel).0 n.1).0))
          ((g.same r).0 k)

      from : (r : Record) → Contains old r ⊎ (IsRecordOnOne segments table lines r × Contains pixels r.pixel) → Contains new r
      from r (inl k) = (g.same r).1 (inl ((h.same r).1 (inl k)))
      from r (inr (k, at)) = ⊎_elim
          (λ t. (g.same r).1 (inl ((h.same r).1 (inr (narrow r at k, (in_first.same r.pixel).1 (at, t))))))
          (λ t. (g.same r).1 (inr (narrow r at k, (in_second.same r.pixel).1 (at, t))))
          ((halves.same r.pixel).0 (in_rect r.pixel at))
