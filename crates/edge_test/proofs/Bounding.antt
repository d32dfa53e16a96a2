-- The box of all edges.
use Rattle.std.proofs.Common.{◌≡◌, inl, inr, ℕ, zero, suc, false, ℤ, ◌+◌, ◌<◌, List, length, get_or, refl, sym, subst, arith}
use Rattle.std.specs.Prelude.{◌≤ℤ◌, ◌==◌, All}
use Rattle.std.specs.Int.{int_max, int_min}
use Rattle.std.proofs.lemmas.Bool.{cases_lt}
use Rattle.std.proofs.lemmas.Int.{ints, clamps}
use Rattle.std.proofs.lemmas.Option.{slice_get-get_or}
use Rattle.geom.specs.Box.{IsInBox, greatest_corner, least_corner}
use Rattle.geom.specs.Limit.{AreInLimit, InLimit, IsWithin, coordinate_limit}
use Rattle.geom.specs.declared.point.Pt.{Pt}
use Rattle.geom.specs.declared.rect.Rect.{Rect}
use Rattle.geom.specs.declared.edge.Edge.{Edge}
use Rattle.geom.proofs.Numbers.{itself}
use Rattle.geom.proofs.Lists.{some_same}

-- q is r with a point
pub record IsWith (r : Rect) (p : Pt) (q : Rect) : Type 0 where
  pub left : q.lo.x ≡ int_min r.lo.x p.x
  pub below : q.lo.y ≡ int_min r.lo.y p.y
  pub right : q.hi.x ≡ int_max r.hi.x p.x
  pub above : q.hi.y ≡ int_max r.hi.y p.y

lower : (q a b z : ℤ) → q ≡ int_min a b → a ≤ℤ z → q ≤ℤ z
lower q a b z e h = omega (arith, ints, clamps)

lower_too : (q a b z : ℤ) → q ≡ int_min a b → b ≤ℤ z → q ≤ℤ z
lower_too q a b z e h = omega (arith, ints, clamps)

higher : (q a b z : ℤ) → q ≡ int_max a b → z ≤ℤ a → z ≤ℤ q
higher q a b z e h = omega (arith, ints, clamps)

higher_too : (q a b z : ℤ) → q ≡ int_max a b → z ≤ℤ b → z ≤ℤ q
higher_too q a b z e h = omega (arith, ints, clamps)

not_below : (q a b z : ℤ) → q ≡ int_min a b → z ≤ℤ a → z ≤ℤ b → z ≤ℤ q
not_below q a b z e h k = omega (arith, ints, clamps)

not_above : (q a b z : ℤ) → q ≡ int_max a b → a ≤ℤ z → b ≤ℤ z → q ≤ℤ z
not_above q a b z e h k = omega (arith, ints, clamps)

least_in : (q a b : ℤ) → q ≡ int_min a b → IsWithin coordinate_limit a → IsWithin coordinate_limit b → IsWithin coordinate_limit q
least_in q a b e h k = record { low = not_below q a b _ e h.low k.low; high = lower q a b _ e h.high }

greatest_in : (q a b : ℤ) → q ≡ int_max a b → IsWithin coordinate_limit a → IsWithin coordinate_limit b → IsWithin coordinate_limit q
greatest_in q a b e h k = record { low = higher q a b _ e h.low; high = not_above q a b _ e h.high k.high }

module _ (r : Rect) (p : Pt) (q : Rect) (w : IsWith r p q) where
  still_in : (c : Pt) → IsInBox r.lo r.hi c → IsInBox q.lo q.hi c
  still_in c h = record {
    left = lower q.lo.x r.lo.x p.x c.x w.left h.left;
    right = higher q.hi.x r.hi.x p.x c.x w.right h.right;
    bottom = lower q.lo.y r.lo.y p.y c.y w.below h.bottom;
    top = higher q.hi.y r.hi.y p.y c.y w.above h.top;
  }

  now_in : IsInBox q.lo q.hi p
  now_in = record {
    left = lower_too q.lo.x r.lo.x p.x p.x w.left (itself p.x);
    right = higher_too q.hi.x r.hi.x p.x p.x w.right (itself p.x);
    bottom = lower_too q.lo.y r.lo.y p.y p.y w.below (itself p.y);
    top = higher_too q.hi.y r.hi.y p.y p.y w.above (itself p.y);
  }

  in_limit : AreInLimit r.lo r.hi → InLimit p → AreInLimit q.lo q.hi
  in_limit h k = record {
    a_in = record { x_in = least_in _ _ _ w.left h.a_in.x_in k.x_in; y_in = least_in _ _ _ w.below h.a_in.y_in k.y_in };
    b_in = record { x_in = greatest_in _ _ _ w.right h.b_in.x_in k.x_in; y_in = greatest_in _ _ _ w.above h.b_in.y_in k.y_in };
  }

-- the box of the first edges, and maybe of others
pub record HoldsFirst (edges : List Edge) (count : ℕ) (r : Rect) : Type 0 where
  pub limited : AreInLimit r.lo r.hi
  pub holds : (k : ℕ) (d : Edge) → k < count → IsInBox r.lo r.hi (get_or edges k d).p × IsInBox r.lo r.hi (get_or edges k d).q

pub some_are : (n : ℕ) → false ≡ (n == 0) → 0 < n
some_are zero e = absurd (cc)
some_are (suc n) e = omega arith

pub holds_none : (edges : List Edge) (s : Edge) (r : Rect) → s ≡ get_or edges 0 s → 0 < length edges → All (λ (e : Edge). AreInLimit e.p e.q) edges → r.lo ≡ least_corner s.p s.q → r.hi ≡ greatest_corner s.p s.q → HoldsFirst edges 0 r
holds_none edges s r is l all lo hi = record {
  limited = subst (λ (x : Pt × Pt). AreInLimit x.0 x.1) (λ i. (sym lo i, sym hi i)) (corners (subst (λ (t : Edge). AreInLimit t.p t.q) (sym is) (all 0 s l)));
  holds = λ k d m. absurd (omega (arith, m));
}
  where
    corners : AreInLimit s.p s.q → AreInLimit (least_corner s.p s.q) (greatest_corner s.p s.q)
    corners h = record {
      a_in = record { x_in = least_in _ _ _ refl h.a_in.x_in h.b_in.x_in; y_in = least_in _ _ _ refl h.a_in.y_in h.b_in.y_in };
      b_in = record { x_in = greatest_in _ _ _ refl h.a_in.x_in h.b_in.x_in; y_in = greatest_in _ _ _ refl h.a_in.y_in h.b_in.y_in };
    }

pub holds_more : (edges : List Edge) (i : ℕ) (old mid new : Rect) (s : Edge) → s ≡ get_or edges i s → i < length edges → All (λ (e : Edge). AreInLimit e.p e.q) edges → IsWith old s.p mid → IsWith mid s.q new → HoldsFirst edges i old → HoldsFirst edges (i + 1) new
holds_more edges i old mid new s is l all first second h = record {
  limited = let ends = subst (λ (t : Edge). AreInLimit t.p t.q) (sym is) (all i s l) in in_limit mid s.q new second (in_limit old s.p mid first h.limited ends.a_in) ends.b_in;
  holds = λ k d m. elim (cases_lt k i) [
    | inl less ↦ let p = h.holds k d less in (both (get_or edges k d).p p.0, both (get_or edges k d).q p.1)
    | inr more ↦ let e : k ≡ i = omega (arith, m, more) in subst (λ (n : ℕ). IsInBox new.lo new.hi (get_or edges n d).p × IsInBox new.lo new.hi (get_or edges n d).q) (sym e) (last d)
  ];
}
  where
    both : (c : Pt) → IsInBox old.lo old.hi c → IsInBox new.lo new.hi c
    both c b = still_in mid s.q new second c (still_in old s.p mid first c b)

    last : (d : Edge) → IsInBox new.lo new.hi (get_or edges i d).p × IsInBox new.lo new.hi (get_or edges i d).q
    last d =
        let e : get_or edges i s ≡ get_or edges i d = some_same (slice_get-get_or edges i s l) (slice_get-get_or edges i d l) in
        let t : IsInBox new.lo new.hi s.p × IsInBox new.lo new.hi s.q = (still_in mid s.q new second s.p (now_in old s.p mid first), now_in mid s.q new second) in
        subst (λ (t : Edge). IsInBox new.lo new.hi t.p × IsInBox new.lo new.hi t.q) e (subst (λ (t : Edge). IsInBox new.lo new.hi t.p × IsInBox new.lo new.hi t.q) is t)
