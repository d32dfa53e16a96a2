-- The survey's corners are those of the box.
use Rattle.std.proofs.Common.{◌≡◌, inl, inr, ℤ, List, [], ◌∷◌, ◌++◌, Option, Some, None, refl, sym, subst, append_assoc, arith}
use Rattle.std.specs.Prelude.{◌≤ℤ◌, Contains, MatchOption, fold, option_map}
use Rattle.std.specs.Int.{int_min, int_max}
use Rattle.std.proofs.lemmas.Int.{int_min_is, int_max_is}
use Rattle.std.proofs.lemmas.List.{append-nil}
use Rattle.std.proofs.lemmas.List.Elements.{Contains-append_left, Contains-append_right, Contains-append_cases}
use Rattle.geom.specs.declared.point.Pt.{Pt}
use Rattle.geom.specs.declared.rect.Rect.{Rect}
use Rattle.geom.specs.Box.{IsInBox}
use Rattle.geom.specs.Bounds.{HoldsSteps, IsBox}
use Rattle.geom.proofs.Integers.{linear}
use Rattle.geom.proofs.Lists.{In, contains_in, in_contains}
use Rattle.geom.proofs.Numbers.{max_left, max_right, itself}
use Rattle.wkt.specs.Surveying.{Corners, corners, grown, grown_by}

min_left : (x y : ℤ) → int_min x y ≤ℤ x
min_left x y = omega (arith, linear, int_min_is x y)

min_right : (x y : ℤ) → int_min x y ≤ℤ y
min_right x y = omega (arith, linear, int_min_is x y)

le_min : (q x y : ℤ) → q ≤ℤ x → q ≤ℤ y → q ≤ℤ int_min x y
le_min q x y h k = omega (arith, linear, int_min_is x y, h, k)

max_le : (q x y : ℤ) → x ≤ℤ q → y ≤ℤ q → int_max x y ≤ℤ q
max_le q x y h k = omega (arith, linear, int_max_is x y, h, k)

le_trans : {x y z : ℤ} → x ≤ℤ y → y ≤ℤ z → x ≤ℤ z
le_trans h k = omega (arith, linear)

-- p lies between the corners
record Spans (c : Corners) (p : Pt) : Type 0 where
  left : c.lo.x ≤ℤ p.x
  right : p.x ≤ℤ c.hi.x
  bottom : c.lo.y ≤ℤ p.y
  top : p.y ≤ℤ c.hi.y

-- q holds both corners
abbrev Within : Rect → Corners → Type 0
Within q c = IsInBox q.lo q.hi c.lo × IsInBox q.lo q.hi c.hi

spans_new : (c : Corners) (p : Pt) → Spans (grown c p) p
spans_new c p = record { left = min_right c.lo.x p.x; right = max_right c.hi.x p.x; bottom = min_right c.lo.y p.y; top = max_right c.hi.y p.y }

spans_old : (c : Corners) (p q : Pt) → Spans c q → Spans (grown c p) q
spans_old c p q s = record {
  left = le_trans (min_left c.lo.x p.x) s.left;
  right = le_trans s.right (max_left c.hi.x p.x);
  bottom = le_trans (min_left c.lo.y p.y) s.bottom;
  top = le_trans s.top (max_left c.hi.y p.y);
}

within_grown : (q : Rect) (c : Corners) (p : Pt) → Within q c → IsInBox q.lo q.hi p → Within q (grown c p)
within_grown q c p (l, h) k = (
  record {
    left = le_min q.lo.x c.lo.x p.x l.left k.left;
    right = le_trans (min_left c.lo.x p.x) l.right;
    bottom = le_min q.lo.y c.lo.y p.y l.bottom k.bottom;
    top = le_trans (min_left c.lo.y p.y) l.top;
  },
  record {
    left = le_trans h.left (max_left c.hi.x p.x);
    right = max_le q.hi.x c.hi.x p.x h.right k.right;
    bottom = le_trans h.bottom (max_left c.hi.y p.y);
    top = max_le q.hi.y c.hi.y p.y h.top k.top;
  },
)

-- c are the corners of the box of the steps
record IsHull (steps : List (Pt × Pt)) (c : Corners) : Type 0 where
  spans : (s : Pt × Pt) → Contains steps s → Spans c s.0 × Spans c s.1
  least : (q : Rect) → HoldsSteps q steps → Within q c

abbrev Hull : List (Pt × Pt) → Option Corners → Type 0
Hull steps o = MatchOption o (steps ≡ []) (IsHull steps)

only : (s t : Pt × Pt) → Contains (s ∷ []) t → s ≡ t
only s t h = first (contains_in (s ∷ []) t h)
  where
    first : In t (s ∷ []) → s ≡ t
    first (inl e) = e
    first (inr i) = absurd i

here : (steps : List (Pt × Pt)) (s : Pt × Pt) → Contains (steps ++ s ∷ []) s
here steps s = Contains-append_right steps (s ∷ []) s (in_contains (s ∷ []) s (inl refl))

abbrev one : Pt → Corners
one p = record { lo = p; hi = p }

spans_one : (p : Pt) → Spans (one p) p
spans_one p = record { left = itself p.x; right = itself p.x; bottom = itself p.y; top = itself p.y }

hull_more : (done : List (Pt × Pt)) (o : Option Corners) (s : Pt × Pt) → Hull done o → Hull (done ++ s ∷ []) (grown_by o s)
hull_more done None s e = record {
  spans = λ t h. subst (λ (u : Pt × Pt). Spans (grown (one s.0) s.1) u.0 × Spans (grown (one s.0) s.1) u.1)
      (only s t (subst (λ (x : List (Pt × Pt)). Contains (x ++ s ∷ []) t) e h))
      (spans_old (one s.0) s.1 s.0 (spans_one s.0), spans_new (one s.0) s.1);
  least = λ q h. let k = h s (here done s) in within_grown q (one s.0) s.1 (k.0, k.0) k.1;
}
hull_more done (Some c) s h = record {
  spans = λ t i. elim (Contains-append_cases done (s ∷ []) t i) [
    | inl j ↦ let k = h.spans t j in
        (spans_old (grown c s.0) s.1 t.0 (spans_old c s.0 t.0 k.0), spans_old (grown c s.0) s.1 t.1 (spans_old c s.0 t.1 k.1))
    | inr j ↦ subst (λ (u : Pt × Pt). Spans (grown (grown c s.0) s.1) u.0 × Spans (grown (grown c s.0) s.1) u.1) (only s t j)
        (spans_old (grown c s.0) s.1 s.0 (spans_new c s.0), spans_new (grown c s.0) s.1)
  ];
  least = λ q i. let k = i s (here done s) in
      within_grown q (grown c s.0) s.1 (within_grown q c s.0 (h.least q (λ t j. i t (Contains-append_left done (s ∷ []) t j))) k.0) k.1;
}

hull_rest : (done steps : List (Pt × Pt)) (o : Option Corners) → Hull done o → Hull (done ++ steps) (fold grown_by o steps)
hull_rest done [] o h = subst (λ (x : List (Pt × Pt)). Hull x o) (sym (append-nil done)) h
hull_rest done (s ∷ steps) o h =
    subst (λ (x : List (Pt × Pt)). Hull x (fold grown_by (grown_by o s) steps)) (append_assoc done (s ∷ []) steps)
    (hull_rest (done ++ s ∷ []) steps (grown_by o s) (hull_more done o s h))

box_at : (steps : List (Pt × Pt)) (b : Option Rect) → Hull steps (option_map corners b) → MatchOption b (steps ≡ []) (IsBox steps)
box_at steps None h = h
box_at steps (Some r) h = record {
  holds = λ s i. let k = h.spans s i in (record { left = k.0.left; right = k.0.right; bottom = k.0.bottom; top = k.0.top }, record { left = k.1.left; right = k.1.right; bottom = k.1.bottom; top = k.1.top });
  least = h.least;
}

-- a rectangle with the surveyed corners is the box
pub box_is : (steps : List (Pt × Pt)) (b : Option Rect) → option_map corners b ≡ fold grown_by None steps → MatchOption b (steps ≡ []) (IsBox steps)
box_is steps b e = box_at steps b (subst (Hull steps) (sym e) (hull_rest [] steps None refl))

-- ---- the box of two lists of steps

hull_of : (steps : List (Pt × Pt)) (r : Rect) → IsBox steps r → IsHull steps (corners r)
hull_of steps r b = record {
  spans = λ s i. let k = b.holds s i in (record { left = k.0.left; right = k.0.right; bottom = k.0.bottom; top = k.0.top }, record { left = k.1.left; right = k.1.right; bottom = k.1.bottom; top = k.1.top });
  least = b.least;
}

spans_wider : (c d : Corners) (p : Pt) → Spans d p → Spans (grown (grown c d.lo) d.hi) p
spans_wider c d p s = record {
  left = le_trans (spans_old (grown c d.lo) d.hi d.lo (spans_new c d.lo)).left s.left;
  right = le_trans s.right (spans_new (grown c d.lo) d.hi).right;
  bottom = le_trans (spans_old (grown c d.lo) d.hi d.lo (spans_new c d.lo)).bottom s.bottom;
  top = le_trans s.top (spans_new (grown c d.lo) d.hi).top;
}

hull_joined : (steps more : List (Pt × Pt)) (c d : Corners) → IsHull steps c → IsHull more d → IsHull (steps ++ more) (grown (grown c d.lo) d.hi)
hull_joined steps more c d h k = record {
  spans = λ t i. elim (Contains-append_cases steps more t i) [
    | inl j ↦ let s = h.spans t j in (spans_old (grown c d.lo) d.hi t.0 (spans_old c d.lo t.0 s.0), spans_old (grown c d.lo) d.hi t.1 (spans_old c d.lo t.1 s.1))
    | inr j ↦ let s = k.spans t j in (spans_wider c d t.0 s.0, spans_wider c d t.1 s.1)
  ];
  least = λ q i. let w = k.least q (λ t j. i t (Contains-append_right steps more t j)) in
      within_grown q (grown c d.lo) d.hi (within_grown q c d.lo (h.least q (λ t j. i t (Contains-append_left steps more t j))) w.0) w.1;
}

-- a rectangle with the corners of both boxes, joined, is the box of both
pub box_joined : (steps more : List (Pt × Pt)) (q r s : Rect) → IsBox steps q → IsBox more r → corners s ≡ grown (grown (corners q) r.lo) r.hi → IsBox (steps ++ more) s
box_joined steps more q r s h k e = box_at (steps ++ more) (Some s) (subst (λ (c : Corners). IsHull (steps ++ more) c) (sym e) (hull_joined steps more (corners q) (corners r) (hull_of steps q h) (hull_of more r k)))
