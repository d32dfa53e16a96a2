-- Rings whose numbers are inside the limit have points in the limit, and so has their box.
use Rattle.std.proofs.Common.{◌≡◌, inl, inr, ℕ, zero, suc, ◌-◌, ◌≤◌, Bool, true, false, cond, List, [], ◌∷◌, ◌++◌, length, None, subst, arith, ℤ, pos, negsuc}
use Rattle.std.specs.Prelude.{neg_ℤ, All, filter, map, not, nat_lt, unsigned_abs}
use Rattle.std.specs.List.{AllByRecursion, flat_map}
use Rattle.std.specs.Int.Signed.{le_z_yes}
use Rattle.std.proofs.lemmas.Bool.Decides.{nat_tests}
use Rattle.std.proofs.lemmas.List.Elements.{All-take}
use Rattle.geom.specs.declared.point.Pt.{Pt}
use Rattle.geom.specs.declared.rect.Rect.{Rect}
use Rattle.geom.specs.Limit.{coordinate_limit, IsWithin, InLimit, AreInLimit}
use Rattle.geom.specs.Segments.{same_point, neighbours, ring_steps, layer_steps}
use Rattle.geom.specs.Box.{IsInBox}
use Rattle.geom.specs.Bounds.{IsBox}
use Rattle.geom.proofs.Integers.{linear}
use Rattle.geom.proofs.Lists.{In, contains_in}
use Rattle.wkt.specs.LayerText.{Point, Ring}
use Rattle.wkt.specs.Refusals.{place_of, numbers, all_numbers, first_outside, plain, StandsFor}
use Rattle.wkt.proofs.Collections.{front_inside, inside_head}

-- ---- both ways of saying that something holds of each element

pub all_of : {X : Type 0} (P : X → Type 0) (xs : List X) → AllByRecursion P xs → All P xs
all_of P [] h k d lt = absurd (omega (arith, lt))
all_of P (x ∷ xs) h zero d lt = h.0
all_of P (x ∷ xs) h (suc k) d lt = all_of P xs h.1 k d (omega (arith, lt))

pub of_all : {X : Type 0} (P : X → Type 0) (xs : List X) → All P xs → AllByRecursion P xs
of_all P [] h = tt
of_all P (x ∷ xs) h = (h 0 x (omega arith), of_all P xs (λ k d lt. h (suc k) d (omega (arith, lt))))

all_in : {X : Type 0} (P : X → Type 0) (xs : List X) (x : X) → AllByRecursion P xs → In x xs → P x
all_in P [] x h i = absurd i
all_in P (y ∷ ys) x h (inl e) = subst P e h.0
all_in P (y ∷ ys) x h (inr i) = all_in P ys x h.1 i

pub both_all : {X : Type 0} (P : X → Type 0) (xs ys : List X) → AllByRecursion P xs → AllByRecursion P ys → AllByRecursion P (xs ++ ys)
both_all P [] ys h k = k
both_all P (x ∷ xs) ys h k = (h.0, both_all P xs ys h.1 k)

-- ---- numbers

small : (k : ℕ) → nat_lt coordinate_limit k ≡ false → k ≤ coordinate_limit
small k e = grind (arith, nat_tests)

pub within_of : (z : ℤ) → nat_lt coordinate_limit (unsigned_abs z) ≡ false → IsWithin coordinate_limit z
within_of (pos k) e = let h = small k e in record { low = omega (arith, linear, h); high = omega (arith, linear, h) }
within_of (negsuc k) e = let h = small (suc k) e in record { low = omega (arith, linear, h); high = omega (arith, linear, h) }

not_lt : (k : ℕ) → k ≤ coordinate_limit → nat_lt coordinate_limit k ≡ false
not_lt k h = grind (arith, nat_tests)

pub of_within : (z : ℤ) → IsWithin coordinate_limit z → nat_lt coordinate_limit (unsigned_abs z) ≡ false
of_within (pos k) h = let l = h.high in not_lt k (omega (arith, linear, l))
of_within (negsuc k) h = let l = h.low in not_lt (suc k) (omega (arith, linear, l))

pub points_in : (ps : List Point) → first_outside (numbers ps) ≡ None → AllByRecursion InLimit (map place_of ps)
points_in [] e = tt
points_in (p ∷ ps) e =
    let a = inside_head (nat_lt coordinate_limit (unsigned_abs p.x.value)) p.x.at (first_outside (p.y ∷ numbers ps)) e in
    let b = inside_head (nat_lt coordinate_limit (unsigned_abs p.y.value)) p.y.at (first_outside (numbers ps)) a.1 in
    (record { x_in = within_of p.x.value a.0; y_in = within_of p.y.value b.0 }, points_in ps b.1)

plain_in : (written : List Ring) → first_outside (all_numbers written) ≡ None → AllByRecursion (λ ring. All InLimit ring) (plain written)
plain_in [] e = tt
plain_in (r ∷ rest) e =
    let h = front_inside (numbers r.points) (all_numbers rest) e in
    (All-take InLimit (length r.points - 1) (map place_of r.points) (all_of InLimit (map place_of r.points) (points_in r.points h.0)), plain_in rest h.1)

-- the points of an accepted text are in the limit
pub stands_in : (text : List ℕ) (rings : List (List Pt)) → StandsFor text rings → All (λ ring. All InLimit ring) rings
stands_in text rings (written, h, e) = subst (All (λ ring. All InLimit ring)) e (all_of (λ ring. All InLimit ring) (plain written) (plain_in written h.inside))

-- ---- the box

abbrev StepIn : Pt × Pt → Type 0
StepIn s = InLimit s.0 × InLimit s.1

neighbours_in : (ps : List Pt) → AllByRecursion InLimit ps → AllByRecursion StepIn (neighbours ps)
neighbours_in [] h = tt
neighbours_in (a ∷ []) h = tt
neighbours_in (a ∷ b ∷ ps) h = ((h.0, h.1.0), neighbours_in (b ∷ ps) h.1)

ring_in : (ps : List Pt) → AllByRecursion InLimit ps → AllByRecursion StepIn (ring_steps ps)
ring_in [] h = tt
ring_in (a ∷ ps) h = neighbours_in (a ∷ ps ++ a ∷ []) (h.0, both_all InLimit ps (a ∷ []) h.1 (h.0, tt))

rings_in : (rings : List (List Pt)) → AllByRecursion (λ ring. All InLimit ring) rings → AllByRecursion StepIn (flat_map ring_steps rings)
rings_in [] h = tt
rings_in (r ∷ rings) h = both_all StepIn (ring_steps r) (flat_map ring_steps rings) (ring_in r (of_all InLimit r h.0)) (rings_in rings h.1)

kept_in : (b : Bool) (s : Pt × Pt) (xs : List (Pt × Pt)) → StepIn s → AllByRecursion StepIn xs → AllByRecursion StepIn (cond b (s ∷ xs) xs)
kept_in true s xs h k = (h, k)
kept_in false s xs h k = k

filter_in : (f : Pt × Pt → Bool) (steps : List (Pt × Pt)) → AllByRecursion StepIn steps → AllByRecursion StepIn (filter f steps)
filter_in f [] h = tt
filter_in f (s ∷ steps) h = kept_in (f s) s (filter f steps) h.0 (filter_in f steps h.1)

-- the square of the points in the limit
abbrev whole : Rect
whole = record {
  lo = record { x = neg_ℤ (pos coordinate_limit); y = neg_ℤ (pos coordinate_limit) };
  hi = record { x = pos coordinate_limit; y = pos coordinate_limit };
  wide = le_z_yes tt;
  high = le_z_yes tt;
}

held : (p : Pt) → InLimit p → IsInBox whole.lo whole.hi p
held p h = record { left = h.x_in.low; right = h.x_in.high; bottom = h.y_in.low; top = h.y_in.high }

limited : (p : Pt) → IsInBox whole.lo whole.hi p → InLimit p
limited p h = record { x_in = record { low = h.left; high = h.right }; y_in = record { low = h.bottom; high = h.top } }

pub box_in : (rings : List (List Pt)) (r : Rect) → All (λ ring. All InLimit ring) rings → IsBox (layer_steps rings) r → AreInLimit r.lo r.hi
box_in rings r h box =
    let steps = filter_in (λ s. not (same_point s.0 s.1)) (flat_map ring_steps rings) (rings_in rings (of_all (λ ring. All InLimit ring) rings h)) in
    let within = box.least whole (λ s i. let k = all_in StepIn (layer_steps rings) s steps (contains_in (layer_steps rings) s i) in (held s.0 k.0, held s.1 k.1)) in
    record { a_in = limited r.lo within.0; b_in = limited r.hi within.1 }
