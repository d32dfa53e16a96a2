-- The bounds of two layers together.
use Rattle.std.proofs.Common.{◌≡◌, ◌⊎◌, inl, inr, List, [], ◌∷◌, ◌++◌, arith, ⊎_elim}
use Rattle.std.proofs.Math.IntN.{ℤ}
use Rattle.std.specs.Prelude.{◌≤ℤ◌, Option, Some, None, IfSome}
use Rattle.std.specs.Int.{int_min, int_max}
use Rattle.std.proofs.lemmas.Int.{ints, clamps}
use Rattle.geom.specs.Bounds.{HoldsSteps, IsBox}
use Rattle.geom.specs.Box.{IsInBox}
use Rattle.geom.specs.Limit.{AreInLimit, IsWithin, coordinate_limit}
use Rattle.geom.specs.declared.point.Pt.{Pt}
use Rattle.geom.specs.declared.rect.Rect.{Rect}
use Rattle.geom.proofs.Lists.{In, contains_in, in_contains, in_append}
use Rattle.geom.specs.declared.segment.Seg.{Seg}
use Rattle.std.proofs.lemmas.List.Elements.{Contains-append_cases}
use Rattle.grid.specs.Tiles.{AreBounds, BoundsHold}
use Rattle.layers.specs.Grids.{AreJointBounds}

append_in : {X : Type 0} (xs ys : List X) (x : X) → In x xs ⊎ In x ys → In x (xs ++ ys)
append_in [] ys x (inl i) = absurd i
append_in [] ys x (inr i) = i
append_in (y ∷ xs) ys x (inl (inl e)) = inl e
append_in (y ∷ xs) ys x (inl (inr i)) = inr (append_in xs ys x (inl i))
append_in (y ∷ xs) ys x (inr i) = inr (append_in xs ys x (inr i))

-- q is r with the corners of s
pub record IsJoined (r s q : Rect) : Type 0 where
  pub left : q.lo.x ≡ int_min (int_min r.lo.x s.lo.x) s.hi.x
  pub bottom : q.lo.y ≡ int_min (int_min r.lo.y s.lo.y) s.hi.y
  pub right : q.hi.x ≡ int_max (int_max r.hi.x s.lo.x) s.hi.x
  pub top : q.hi.y ≡ int_max (int_max r.hi.y s.lo.y) s.hi.y

min_first : (q a b c z : ℤ) → q ≡ int_min (int_min a b) c → a ≤ℤ z → q ≤ℤ z
min_first q a b c z e h = omega (arith, ints, clamps)

min_second : (q a b c z : ℤ) → q ≡ int_min (int_min a b) c → b ≤ℤ z → q ≤ℤ z
min_second q a b c z e h = omega (arith, ints, clamps)

max_first : (q a b c z : ℤ) → q ≡ int_max (int_max a b) c → z ≤ℤ a → z ≤ℤ q
max_first q a b c z e h = omega (arith, ints, clamps)

max_third : (q a b c z : ℤ) → q ≡ int_max (int_max a b) c → z ≤ℤ c → z ≤ℤ q
max_third q a b c z e h = omega (arith, ints, clamps)

min_above : (q a b c z : ℤ) → q ≡ int_min (int_min a b) c → z ≤ℤ a → z ≤ℤ b → z ≤ℤ c → z ≤ℤ q
min_above q a b c z e h k l = omega (arith, ints, clamps)

min_below : (q a b c z : ℤ) → q ≡ int_min (int_min a b) c → a ≤ℤ z → q ≤ℤ z
min_below q a b c z e h = omega (arith, ints, clamps)

max_below : (q a b c z : ℤ) → q ≡ int_max (int_max a b) c → a ≤ℤ z → b ≤ℤ z → c ≤ℤ z → q ≤ℤ z
max_below q a b c z e h k l = omega (arith, ints, clamps)

max_above : (q a b c z : ℤ) → q ≡ int_max (int_max a b) c → z ≤ℤ a → z ≤ℤ q
max_above q a b c z e h = omega (arith, ints, clamps)

module _ (r s q : Rect) (j : IsJoined r s q) where
  pub from_first : (p : Pt) → IsInBox r.lo r.hi p → IsInBox q.lo q.hi p
  from_first p h = record {
    left = min_first _ _ _ _ _ j.left h.left;
    right = max_first _ _ _ _ _ j.right h.right;
    bottom = min_first _ _ _ _ _ j.bottom h.bottom;
    top = max_first _ _ _ _ _ j.top h.top;
  }

  pub from_second : (p : Pt) → IsInBox s.lo s.hi p → IsInBox q.lo q.hi p
  from_second p h = record {
    left = min_second _ _ _ _ _ j.left h.left;
    right = max_third q.hi.x r.hi.x s.lo.x s.hi.x p.x j.right h.right;
    bottom = min_second _ _ _ _ _ j.bottom h.bottom;
    top = max_third q.hi.y r.hi.y s.lo.y s.hi.y p.y j.top h.top;
  }

  least_joined : (o : Rect) → IsInBox o.lo o.hi r.lo × IsInBox o.lo o.hi r.hi → IsInBox o.lo o.hi s.lo × IsInBox o.lo o.hi s.hi → IsInBox o.lo o.hi q.lo × IsInBox o.lo o.hi q.hi
  least_joined o h k = (
    record {
      left = min_above _ _ _ _ _ j.left h.0.left k.0.left k.1.left;
      right = min_below _ _ _ _ _ j.left h.0.right;
      bottom = min_above _ _ _ _ _ j.bottom h.0.bottom k.0.bottom k.1.bottom;
      top = min_below _ _ _ _ _ j.bottom h.0.top;
    },
    record {
      left = max_above _ _ _ _ _ j.right h.1.left;
      right = max_below _ _ _ _ _ j.right h.1.right k.0.right k.1.right;
      bottom = max_above _ _ _ _ _ j.top h.1.bottom;
      top = max_below _ _ _ _ _ j.top h.1.top k.0.top k.1.top;
    },
  )

  holds_left : (o : Rect) (xs ys : List (Pt × Pt)) → HoldsSteps o (xs ++ ys) → HoldsSteps o xs
  holds_left o xs ys h = λ t i. h t (in_contains (xs ++ ys) t (append_in xs ys t (inl (contains_in xs t i))))

  holds_right : (o : Rect) (xs ys : List (Pt × Pt)) → HoldsSteps o (xs ++ ys) → HoldsSteps o ys
  holds_right o xs ys h = λ t i. h t (in_contains (xs ++ ys) t (append_in xs ys t (inr (contains_in ys t i))))

  joined_box : (xs ys : List (Pt × Pt)) → IsBox xs r → IsBox ys s → IsBox (xs ++ ys) q
  joined_box xs ys h k = record {
    holds = λ t i. ⊎_elim
        (λ l. let e = h.holds t (in_contains xs t l) in (from_first t.0 e.0, from_first t.1 e.1))
        (λ l. let e = k.holds t (in_contains ys t l) in (from_second t.0 e.0, from_second t.1 e.1))
        (in_append xs ys t (contains_in (xs ++ ys) t i));
    least = λ o l. least_joined o (h.least o (holds_left o xs ys l)) (k.least o (holds_right o xs ys l));
  }

  pub both_bounds : AreJointBounds (Some r) (Some s) (Some q)
  both_bounds = joined_box

-- ---- in the coordinate limit

min_within : (q a b c : ℤ) → q ≡ int_min (int_min a b) c → IsWithin coordinate_limit a → IsWithin coordinate_limit b → IsWithin coordinate_limit c → IsWithin coordinate_limit q
min_within q a b c e h k l = record { low = min_above q a b c _ e h.low k.low l.low; high = min_below q a b c _ e h.high }

max_within : (q a b c : ℤ) → q ≡ int_max (int_max a b) c → IsWithin coordinate_limit a → IsWithin coordinate_limit b → IsWithin coordinate_limit c → IsWithin coordinate_limit q
max_within q a b c e h k l = record { low = max_above q a b c _ e h.low; high = max_below q a b c _ e h.high k.high l.high }

pub joined_in_limit : (r s q : Rect) → IsJoined r s q → AreInLimit r.lo r.hi → AreInLimit s.lo s.hi → AreInLimit q.lo q.hi
joined_in_limit r s q j h k = record {
  a_in = record { x_in = min_within _ _ _ _ j.left h.a_in.x_in k.a_in.x_in k.b_in.x_in; y_in = min_within _ _ _ _ j.bottom h.a_in.y_in k.a_in.y_in k.b_in.y_in };
  b_in = record { x_in = max_within _ _ _ _ j.right h.b_in.x_in k.a_in.x_in k.b_in.x_in; y_in = max_within _ _ _ _ j.top h.b_in.y_in k.a_in.y_in k.b_in.y_in };
}

pub bounds_from_some : (o : Option Rect) → IfSome o (λ r. AreInLimit r.lo r.hi) → AreBounds o
bounds_from_some None h = tt
bounds_from_some (Some r) h = h

-- ---- segments that boxes hold
pub joined_holds : (r s q : Rect) → IsJoined r s q → (front back : List Seg) → BoundsHold (Some r) front → BoundsHold (Some s) back → BoundsHold (Some q) (front ++ back)
joined_holds r s q j front back h k = λ t c. ⊎_elim
    (λ i. let ends = h t i in (from_first r s q j t.a ends.0, from_first r s q j t.b ends.1))
    (λ i. let ends = k t i in (from_second r s q j t.a ends.0, from_second r s q j t.b ends.1))
    (Contains-append_cases front back t c)

pub first_holds : (r : Rect) (front back : List Seg) → BoundsHold (Some r) front → BoundsHold None back → BoundsHold (Some r) (front ++ back)
first_holds r front back h k = λ t c. ⊎_elim (λ i. h t i) (λ i. absurd (k t i)) (Contains-append_cases front back t c)

pub second_holds : (o : Option Rect) (front back : List Seg) → BoundsHold None front → BoundsHold o back → BoundsHold o (front ++ back)
second_holds None front back h k = λ t c. ⊎_elim (λ i. h t i) (λ i. k t i) (Contains-append_cases front back t c)
second_holds (Some s) front back h k = λ t c. ⊎_elim (λ i. absurd (h t i)) (λ i. k t i) (Contains-append_cases front back t c)
