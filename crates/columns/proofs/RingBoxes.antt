-- The box of a ring is that of its points, where some of them differ.
use Rattle.std.proofs.Common.{◌≡◌, ◌∙◌, ◌⊎◌, inl, inr, ◌<◌, Bool, true, false, cond, List, [], ◌∷◌, ◌++◌, length, refl, sym, ap, subst, arith, ℤ}
use Rattle.std.specs.Prelude.{◌≤ℤ◌, Contains, filter, not}
use Rattle.std.specs.Int.{int_max, int_min}
use Rattle.std.specs.List.{AllByRecursion}
use Rattle.std.proofs.lemmas.Int.{int_max_is, int_min_is}
use Rattle.geom.specs.declared.point.Pt.{Pt}
use Rattle.geom.specs.declared.rect.Rect.{Rect}
use Rattle.geom.specs.Bounds.{IsBox}
use Rattle.geom.specs.Box.{IsInBox, greatest_corner, least_corner}
use Rattle.geom.specs.Segments.{neighbours, same_point}
use Rattle.geom.proofs.Integers.{linear}
use Rattle.geom.proofs.Lists.{In, contains_in, in_contains}
use Rattle.geom.proofs.Points.{same_point_true}
use Rattle.wkt.proofs.Inside.{both_all}
use Rattle.columns.specs.Reach.{IsPointBox}
use Rattle.columns.proofs.Sound.{front_of}

-- ---- boxes of points

min_low : (a b z : ℤ) → a ≤ℤ z → int_min a b ≤ℤ z
min_low a b z h = omega (arith, linear, int_min_is a b, h)

min_new : (a b : ℤ) → int_min a b ≤ℤ b
min_new a b = omega (arith, linear, int_min_is a b)

max_high : (a b z : ℤ) → z ≤ℤ a → z ≤ℤ int_max a b
max_high a b z h = omega (arith, linear, int_max_is a b, h)

max_new : (a b : ℤ) → b ≤ℤ int_max a b
max_new a b = omega (arith, linear, int_max_is a b)

min_held : (q a b : ℤ) → q ≤ℤ a → q ≤ℤ b → q ≤ℤ int_min a b
min_held q a b h k = omega (arith, linear, int_min_is a b, h, k)

max_held : (q a b : ℤ) → a ≤ℤ q → b ≤ℤ q → int_max a b ≤ℤ q
max_held q a b h k = omega (arith, linear, int_max_is a b, h, k)

between : (a b c : ℤ) → a ≤ℤ b → b ≤ℤ c → a ≤ℤ c
between a b c h k = omega (arith, linear, h, k)

-- the box grows by a point
pub record IsGrown (r : Rect) (p : Pt) (s : Rect) : Type 0 where
  pub left : s.lo.x ≡ int_min r.lo.x p.x
  pub below : s.lo.y ≡ int_min r.lo.y p.y
  pub right : s.hi.x ≡ int_max r.hi.x p.x
  pub above : s.hi.y ≡ int_max r.hi.y p.y

abbrev grown_lo : Rect → Pt → Pt
grown_lo r p = record { x = int_min r.lo.x p.x; y = int_min r.lo.y p.y }

abbrev grown_hi : Rect → Pt → Pt
grown_hi r p = record { x = int_max r.hi.x p.x; y = int_max r.hi.y p.y }

lo_is : (r s : Rect) (p : Pt) → IsGrown r p s → s.lo ≡ grown_lo r p
lo_is r s p g = ap (λ x. let q : Pt = record { x = x; y = s.lo.y } in q) g.left ∙ ap (λ y. let q : Pt = record { x = int_min r.lo.x p.x; y = y } in q) g.below

hi_is : (r s : Rect) (p : Pt) → IsGrown r p s → s.hi ≡ grown_hi r p
hi_is r s p g = ap (λ x. let q : Pt = record { x = x; y = s.hi.y } in q) g.right ∙ ap (λ y. let q : Pt = record { x = int_max r.hi.x p.x; y = y } in q) g.above

still_held : (r : Rect) (p q : Pt) → IsInBox r.lo r.hi q → IsInBox (grown_lo r p) (grown_hi r p) q
still_held r p q h = record {
  left = min_low r.lo.x p.x q.x h.left;
  right = max_high r.hi.x p.x q.x h.right;
  bottom = min_low r.lo.y p.y q.y h.bottom;
  top = max_high r.hi.y p.y q.y h.top;
}

newly_held : (r : Rect) (p : Pt) → IsInBox (grown_lo r p) (grown_hi r p) p
newly_held r p = record { left = min_new r.lo.x p.x; right = max_new r.hi.x p.x; bottom = min_new r.lo.y p.y; top = max_new r.hi.y p.y }

all_held : (r : Rect) (p : Pt) (ps : List Pt) → AllByRecursion (IsInBox r.lo r.hi) ps → AllByRecursion (IsInBox (grown_lo r p) (grown_hi r p)) ps
all_held r p [] h = tt
all_held r p (q ∷ ps) h = (still_held r p q h.0, all_held r p ps h.1)

lower_held : (q r : Rect) (p : Pt) → r.lo.x ≤ℤ r.hi.x → r.lo.y ≤ℤ r.hi.y → IsInBox q.lo q.hi r.lo → IsInBox q.lo q.hi p → IsInBox q.lo q.hi (grown_lo r p)
lower_held q r p w t h k = record {
  left = min_held q.lo.x r.lo.x p.x h.left k.left;
  right = min_low r.lo.x p.x q.hi.x h.right;
  bottom = min_held q.lo.y r.lo.y p.y h.bottom k.bottom;
  top = min_low r.lo.y p.y q.hi.y h.top;
}

upper_held : (q r : Rect) (p : Pt) → IsInBox q.lo q.hi r.hi → IsInBox q.lo q.hi p → IsInBox q.lo q.hi (grown_hi r p)
upper_held q r p h k = record {
  left = max_high r.hi.x p.x q.lo.x h.left;
  right = max_held q.hi.x r.hi.x p.x h.right k.right;
  bottom = max_high r.hi.y p.y q.lo.y h.bottom;
  top = max_held q.hi.y r.hi.y p.y h.top k.top;
}

pub one_more : (ps : List Pt) (r s : Rect) (p : Pt) → IsPointBox ps r → IsGrown r p s → IsPointBox (ps ++ p ∷ []) s
one_more ps r s p b g = record {
  holds = subst (λ lo. AllByRecursion (IsInBox lo s.hi) (ps ++ p ∷ [])) (sym (lo_is r s p g))
      (subst (λ hi. AllByRecursion (IsInBox (grown_lo r p) hi) (ps ++ p ∷ [])) (sym (hi_is r s p g))
      (both_all (IsInBox (grown_lo r p) (grown_hi r p)) ps (p ∷ []) (all_held r p ps b.holds) (newly_held r p, tt)));
  least = λ q h.
      let k = front_of (IsInBox q.lo q.hi) ps (p ∷ []) h in
      let old = b.least q k.0 in
      (subst (IsInBox q.lo q.hi) (sym (lo_is r s p g)) (lower_held q r p r.wide r.high old.0 k.1.0), subst (IsInBox q.lo q.hi) (sym (hi_is r s p g)) (upper_held q r p old.1 k.1.0));
}

same_min : (a : ℤ) → int_min a a ≡ a
same_min a = omega (arith, linear, int_min_is a a)

same_max : (a : ℤ) → int_max a a ≡ a
same_max a = omega (arith, linear, int_max_is a a)

itself : (p : Pt) → IsInBox p p p
itself p = record { left = omega (arith, linear); right = omega (arith, linear); bottom = omega (arith, linear); top = omega (arith, linear) }

low_corner : (p : Pt) → least_corner p p ≡ p
low_corner p = ap (λ x. let q : Pt = record { x = x; y = int_min p.y p.y } in q) (same_min p.x) ∙ ap (λ y. let q : Pt = record { x = p.x; y = y } in q) (same_min p.y)

high_corner : (p : Pt) → greatest_corner p p ≡ p
high_corner p = ap (λ x. let q : Pt = record { x = x; y = int_max p.y p.y } in q) (same_max p.x) ∙ ap (λ y. let q : Pt = record { x = p.x; y = y } in q) (same_max p.y)

pub one_point : (p : Pt) (r : Rect) → r.lo ≡ least_corner p p → r.hi ≡ greatest_corner p p → IsPointBox (p ∷ []) r
one_point p r e f =
    let lo = e ∙ low_corner p in
    let hi = f ∙ high_corner p in
    record {
      holds = (subst (λ a. IsInBox a r.hi p) (sym lo) (subst (λ b. IsInBox p b p) (sym hi) (itself p)), tt);
      least = λ q h. (subst (IsInBox q.lo q.hi) (sym lo) h.0, subst (IsInBox q.lo q.hi) (sym hi) h.0);
    }

-- ---- boxes of steps

abbrev pub differ : Pt × Pt → Bool
differ step = not (same_point step.0 step.1)

abbrev Both : (Pt → Type 0) → Pt × Pt → Type 0
Both P step = P step.0 × P step.1

kept : (P : Pt × Pt → Type 0) (b : Bool) (s : Pt × Pt) (ss : List (Pt × Pt)) → P s → AllByRecursion P ss → AllByRecursion P (cond b (s ∷ ss) ss)
kept P true s ss h k = (h, k)
kept P false s ss h k = k

steps_of : (P : Pt → Type 0) (ps : List Pt) → AllByRecursion P ps → AllByRecursion (Both P) (filter differ (neighbours ps))
steps_of P [] h = tt
steps_of P (a ∷ []) h = tt
steps_of P (a ∷ b ∷ ps) h = kept (Both P) (differ (a, b)) (a, b) (filter differ (neighbours (b ∷ ps))) (h.0, h.1.0) (steps_of P (b ∷ ps) h.1)

-- no step of a list moves, and all its points are this one
record IsStill (a : Pt) (ps : List Pt) : Type 0 where
  none : filter differ (neighbours ps) ≡ []
  all : AllByRecursion (λ p. p ≡ a) ps

moved : (P : Pt → Type 0) (b : Pt) (ps : List Pt) → P b → AllByRecursion (λ p. p ≡ b) ps → AllByRecursion P ps
moved P b [] h all = tt
moved P b (p ∷ ps) h all = (subst P (sym all.0) h, moved P b ps h all.1)

alike : (a b : Pt) (ps : List Pt) → b ≡ a → AllByRecursion (λ p. p ≡ b) ps → AllByRecursion (λ p. p ≡ a) ps
alike a b ps e all = moved (λ p. p ≡ a) b ps e all

abbrev Ends : (Pt → Type 0) → Pt → List Pt → Type 0
Ends P a ps = IsStill a ps ⊎ AllByRecursion P ps

still : (P : Pt → Type 0) (a b : Pt) (ps : List Pt) → same_point a b ≡ true → Ends P b (b ∷ ps) → Ends P a (a ∷ b ∷ ps)
still P a b ps e (inl s) =
    inl (record {
      none = ap (λ t. cond (not t) ((a, b) ∷ filter differ (neighbours (b ∷ ps))) (filter differ (neighbours (b ∷ ps)))) e ∙ s.none;
      all = (refl, alike a b (b ∷ ps) (sym (same_point_true a b e)) s.all);
    })
still P a b ps e (inr k) = inr (subst P (sym (same_point_true a b e)) k.0, k)

moves : (P : Pt → Type 0) (a b : Pt) (ps : List Pt) → P a → P b → Ends P b (b ∷ ps) → Ends P a (a ∷ b ∷ ps)
moves P a b ps ha hb (inl s) = inr (ha, moved P b (b ∷ ps) hb s.all)
moves P a b ps ha hb (inr k) = inr (ha, k)

step_ends : (P : Pt → Type 0) (a b : Pt) (ps : List Pt) (t : Bool) → same_point a b ≡ t → (AllByRecursion (Both P) (filter differ (neighbours (b ∷ ps))) → Ends P b (b ∷ ps))
    → AllByRecursion (Both P) (cond (not t) ((a, b) ∷ filter differ (neighbours (b ∷ ps))) (filter differ (neighbours (b ∷ ps)))) → Ends P a (a ∷ b ∷ ps)
step_ends P a b ps true e f k = still P a b ps e (f k)
step_ends P a b ps false e f k = moves P a b ps k.0.0 k.0.1 (f k.1)

-- each point is an end of a step, or no step moves
ends : (P : Pt → Type 0) (a : Pt) (ps : List Pt) → AllByRecursion (Both P) (filter differ (neighbours (a ∷ ps))) → Ends P a (a ∷ ps)
ends P a [] h = inl (record { none = refl; all = (refl, tt) })
ends P a (b ∷ ps) h = step_ends P a b ps (same_point a b) refl (ends P b ps) h

each : {X : Type 0} (P : X → Type 0) (xs : List X) → ((x : X) → Contains xs x → P x) → AllByRecursion P xs
each P [] f = tt
each P (x ∷ xs) f = (f x (in_contains (x ∷ xs) x (inl refl)), each P xs (λ y h. f y (in_contains (x ∷ xs) y (inr (contains_in xs y h)))))

among : {X : Type 0} (P : X → Type 0) (xs : List X) (x : X) → AllByRecursion P xs → In x xs → P x
among P [] x h i = absurd i
among P (y ∷ ys) x h (inl e) = subst P e h.0
among P (y ∷ ys) x h (inr i) = among P ys x h.1 i

pub box_of_steps : (ps : List Pt) (r : Rect) → IsPointBox ps r → 0 < length (filter differ (neighbours ps)) → IsBox (filter differ (neighbours ps)) r
box_of_steps [] r b some = absurd (omega (arith, some))
box_of_steps (a ∷ ps) r b some = record {
  holds = λ s i. among (Both (IsInBox r.lo r.hi)) (filter differ (neighbours (a ∷ ps))) s (steps_of (IsInBox r.lo r.hi) (a ∷ ps) b.holds) (contains_in (filter differ (neighbours (a ∷ ps))) s i);
  least = λ q h. b.least q (held q (ends (IsInBox q.lo q.hi) a ps (each (Both (IsInBox q.lo q.hi)) (filter differ (neighbours (a ∷ ps))) h)));
}
  where
    held : (q : Rect) → IsStill a (a ∷ ps) ⊎ AllByRecursion (IsInBox q.lo q.hi) (a ∷ ps) → AllByRecursion (IsInBox q.lo q.hi) (a ∷ ps)
    held q (inl s) = let e = ap length s.none in absurd (omega (arith, e, some))
    held q (inr k) = k
