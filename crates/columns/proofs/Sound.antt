-- What is known of rings in which no fault is found.
use Rattle.std.proofs.Common.{◌≡◌, ◌∙◌, ℕ, zero, suc, ◌+◌, ◌-◌, ◌≤◌, ◌<◌, Bool, true, false, cond, List, [], ◌∷◌, ◌++◌, length, get_or, drop, take, Option, Some, None, refl, sym, ap, subst, arith}
use Rattle.std.specs.Prelude.{◌||◌, ◌↔◌, nat_lt, All, IfSome, MatchOption, option_map, slice_range, unsigned_abs}
use Rattle.std.specs.List.{AllByRecursion}
use Rattle.std.proofs.lemmas.Bool.Decides.{nat_tests}
use Rattle.std.proofs.lemmas.List.{get_or-drop, length-drop}
use Rattle.std.proofs.lemmas.List.Elements.{All-take}
use Rattle.geom.specs.declared.point.Pt.{Pt}
use Rattle.geom.specs.Limit.{AreInLimit, InLimit, coordinate_limit}
use Rattle.geom.specs.Bounds.{IsBox}
use Rattle.geom.specs.Segments.{layer_steps}
use Rattle.geom.specs.declared.rect.Rect.{Rect}
use Rattle.wkt.specs.declared.outline.Outline.{Outline}
use Rattle.wkt.specs.Outlines.{IsOutline}
use Rattle.wkt.specs.Refusals.{is_closed}
use Rattle.wkt.proofs.Inside.{all_of, box_in, of_within, within_of}
use Rattle.columns.specs.declared.layout.Columns.{Columns}
use Rattle.columns.specs.declared.fault.ColumnsFault.{ColumnsFault}
use Rattle.columns.specs.declared.fault.ColumnsFault.TheVariants.{PointRange, RingShort, RingOpen}
use Rattle.columns.specs.declared.reach.RingRange.{RingRange}
use Rattle.columns.specs.Layout.{joined, plain, points_of, rings_in}
use Rattle.columns.specs.Reach.{AreCutWell, AreReached, AreSoundRings, IsSoundRing, cut_from, past_ring, first_point_of, ring_at, rings_between}
use Rattle.columns.specs.Refusals.{AreAccepted, fault_of, features_fault, first_outside, first_point, first_ring, first_ring_fault, is_outside, or_else, points_fault, polygons_fault, range_fault, ring_fault, rings_fault}
use Rattle.columns.proofs.Lists.{point_first}
use Rattle.columns.proofs.Reached.{none_of, points_are, rings_are, rings_first}

-- ---- two faults

pub neither : {X : Type 0} (a b : Option X) → or_else a b ≡ None → (a ≡ None) × (b ≡ None)
neither None b e = (refl, e)
neither (Some x) b e = absurd cc

-- ---- the coordinate limit

both_inside : (a b : Bool) → (a || b) ≡ false → (a ≡ false) × (b ≡ false)
both_inside true b e = absurd cc
both_inside false b e = (refl, e)

pub in_limit : (p : Pt) → is_outside p ≡ false → InLimit p
in_limit p e =
    let h = both_inside (nat_lt coordinate_limit (unsigned_abs p.x)) (nat_lt coordinate_limit (unsigned_abs p.y)) e in
    record { x_in = within_of p.x h.0; y_in = within_of p.y h.1 }

neither_outside : (a b : Bool) → a ≡ false → b ≡ false → (a || b) ≡ false
neither_outside a b e f = ap (λ c. c || b) e ∙ f

pub not_outside : (p : Pt) → InLimit p → is_outside p ≡ false
not_outside p h = neither_outside (nat_lt coordinate_limit (unsigned_abs p.x)) (nat_lt coordinate_limit (unsigned_abs p.y)) (of_within p.x h.x_in) (of_within p.y h.y_in)

inside_first : (b : Bool) (k : ℕ) (rest : Option ℕ) → cond b (Some k) rest ≡ None → (b ≡ false) × (rest ≡ None)
inside_first true k rest e = absurd cc
inside_first false k rest e = (refl, e)

pub all_inside : (k : ℕ) (ps : List Pt) → first_outside k ps ≡ None → AllByRecursion InLimit ps
all_inside k [] e = tt
all_inside k (p ∷ ps) e = let h = inside_first (is_outside p) k (first_outside (k + 1) ps) e in (in_limit p h.0, all_inside (k + 1) ps h.1)

pub front_of : {X : Type 0} (P : X → Type 0) (xs ys : List X) → AllByRecursion P (xs ++ ys) → AllByRecursion P xs × AllByRecursion P ys
front_of P [] ys h = (tt, h)
front_of P (x ∷ xs) ys h = let r = front_of P xs ys h.1 in ((h.0, r.0), r.1)

pub each_inside : (os : List ℕ) (ps : List Pt) (k n i : ℕ) → AllByRecursion InLimit (joined (cut_from os ps k n)) → i < n → AllByRecursion InLimit (slice_range ps (get_or os (k + i) 0) (get_or os (suc (k + i)) 0))
each_inside os ps k zero i h lt = absurd (omega (arith, lt))
each_inside os ps k (suc n) zero h lt =
    let e : k ≡ k + zero = omega arith in
    subst (λ j. AllByRecursion InLimit (slice_range ps (get_or os j 0) (get_or os (suc j) 0))) e (front_of InLimit (slice_range ps (get_or os k 0) (get_or os (suc k) 0)) (joined (cut_from os ps (suc k) n)) h).0
each_inside os ps k (suc n) (suc i) h lt =
    let e : suc k + i ≡ k + suc i = omega arith in
    subst (λ j. AllByRecursion InLimit (slice_range ps (get_or os j 0) (get_or os (suc j) 0))) e
    (each_inside os ps (suc k) n i (front_of InLimit (slice_range ps (get_or os k 0) (get_or os (suc k) 0)) (joined (cut_from os ps (suc k) n)) h).1 (omega (arith, lt)))

-- the points of each ring that is reached
pub ring_inside : (c : Columns) → AreCutWell c → range_fault c ≡ None → (ring : ℕ) → first_ring c ≤ ring → ring < past_ring c → AllByRecursion InLimit (ring_at c ring)
ring_inside c well none ring low high =
    let first = first_ring c in
    let e : first + (ring - first) ≡ ring = omega (arith, low) in
    let inside = all_inside (first_point c) (joined (rings_in c)) (none_of _ (first_outside (first_point c) (joined (rings_in c))) none) in
    subst (λ j. AllByRecursion InLimit (slice_range (points_of c.points) (get_or c.rings.now j 0) (get_or c.rings.now (suc j) 0))) e
    (each_inside c.rings.now (points_of c.points) first (past_ring c - first) (ring - first)
    (subst (λ rings. AllByRecursion InLimit (joined rings)) (rings_are c well) inside) (omega (arith, low, high)))

-- the first point of those from one number to another decides
pub outside_at : (ps : List Pt) (number past next : ℕ) (p : Pt) → number < past → past ≤ length ps → next ≡ number + 1 → ((d : Pt) → p ≡ get_or ps number d)
    → first_outside number (slice_range ps number past) ≡ cond (is_outside p) (Some number) (first_outside next (slice_range ps next past))
outside_at ps number past next p low high after is =
    ap (first_outside number) (point_first ps number past next p low (omega (arith, low, high)) after)
    ∙ ap (λ q. first_outside number (q ∷ slice_range ps next past)) (sym (is p))
    ∙ ap (λ k. cond (is_outside p) (Some number) (first_outside k (slice_range ps next past))) (sym after)

not_inside : (t : Bool) (p : Pt) → is_outside p ≡ t → (InLimit p → ⊥) → t ≡ true
not_inside true p e f = refl
not_inside false p e f = absurd (f (in_limit p e))

pub told_outside : (b : Bool) (p : Pt) → b ≡ false → (b ≡ true ↔ InLimit p) → is_outside p ≡ true
told_outside true p e h = absurd cc
told_outside false p e h = not_inside (is_outside p) p refl (λ k. let t = h.1 k in absurd cc)

pub told_inside : (b : Bool) (p : Pt) → b ≡ true → (b ≡ true ↔ InLimit p) → is_outside p ≡ false
told_inside b p e h = not_outside p (h.0 e)

in_front : (P : Pt → Type 0) (n i : ℕ) (xs : List Pt) (d : Pt) → AllByRecursion P (take n xs) → i < n → i < length xs → P (get_or xs i d)
in_front P zero i xs d h lt fits = absurd (omega (arith, lt))
in_front P (suc n) i [] d h lt fits = absurd (omega (arith, fits))
in_front P (suc n) zero (x ∷ xs) d h lt fits = h.0
in_front P (suc n) (suc i) (x ∷ xs) d h lt fits = in_front P n i xs d h.1 (omega (arith, lt)) (omega (arith, fits))

-- a point of those from one number to another
pub inside_at : (P : Pt → Type 0) (ps : List Pt) (from past number : ℕ) (d : Pt) → AllByRecursion P (slice_range ps from past) → from ≤ number → number < past → past ≤ length ps → P (get_or ps number d)
inside_at P ps from past number d h low high fits =
    let i = number - from in
    let e : from + i ≡ number = omega (arith, low) in
    let long : length (drop from ps) ≡ length ps - from = length-drop from ps in
    subst P (get_or-drop from ps i d ∙ ap (λ n. get_or ps n d) e) (in_front P (past - from) i (drop from ps) d h (omega (arith, low, high)) (omega (arith, long, low, high, fits)))

-- the fault of a point is that of the first point outside from the first one that is reached
pub range_is : (c : Columns) → AreCutWell c → (r : RingRange) → AreReached c r → (from past : ℕ) → from ≡ first_point_of c r.first → past ≡ first_point_of c r.past → (found : Option ℕ) → found ≡ first_outside from (slice_range (points_of c.points) from past)
    → range_fault c ≡ option_map (λ at. PointRange at) found
range_is c well r reached from past e f found is =
    let first : first_point c ≡ from = ap (first_point_of c) (sym reached.first) ∙ sym e in
    let last : first_point_of c (past_ring c) ≡ past = ap (first_point_of c) (sym reached.past) ∙ sym f in
    ap (λ ps. option_map (λ at. PointRange at) (first_outside (first_point c) ps)) (points_are c well)
    ∙ ap (λ k. option_map (λ at. PointRange at) (first_outside k (slice_range (points_of c.points) k (first_point_of c (past_ring c))))) first
    ∙ ap (λ k. option_map (λ at. PointRange at) (first_outside from (slice_range (points_of c.points) from k))) last
    ∙ ap (option_map (λ at. PointRange at)) (sym is)

-- ---- faults of rings

-- the fault of a ring, by its length and its ends
pub fault_is : (k n : ℕ) (ring : List Pt) (t : Bool) → length ring ≡ n → is_closed ring ≡ t → ring_fault k ring ≡ (let o : Option ColumnsFault = cond (nat_lt n 4) (Some (RingShort k)) (cond t None (Some (RingOpen k))) in o)
fault_is k n ring t e f =
    ap (λ m. let o : Option ColumnsFault = cond (nat_lt m 4) (Some (RingShort k)) (cond (is_closed ring) None (Some (RingOpen k))) in o) e
    ∙ ap (λ b. let o : Option ColumnsFault = cond (nat_lt n 4) (Some (RingShort k)) (cond b None (Some (RingOpen k))) in o) f

many : (n : ℕ) → 4 ≤ n → nat_lt n 4 ≡ false
many n h = grind (arith, nat_tests)

few : (n : ℕ) → n < 4 → nat_lt n 4 ≡ true
few n h = grind (arith, nat_tests)

pub closed_fault : (k n : ℕ) (ring : List Pt) (t : Bool) → length ring ≡ n → 4 ≤ n → is_closed ring ≡ t → ring_fault k ring ≡ (let o : Option ColumnsFault = cond t None (Some (RingOpen k)) in o)
closed_fault k n ring t e long f =
    fault_is k n ring t e f
    ∙ ap (λ b. let o : Option ColumnsFault = cond b (Some (RingShort k)) (cond t None (Some (RingOpen k))) in o) (many n long)

long_closed : (short closed : Bool) (k : ℕ) → (let o : Option ColumnsFault = cond short (Some (RingShort k)) (cond closed None (Some (RingOpen k))) in o) ≡ None → (short ≡ false) × (closed ≡ true)
long_closed true closed k e = absurd cc
long_closed false true k e = (refl, refl)
long_closed false false k e = absurd cc

not_few : (n : ℕ) → nat_lt n 4 ≡ false → 4 ≤ n
not_few n e = grind (arith, nat_tests)

pub sound_ring : (k : ℕ) (ring : List Pt) → ring_fault k ring ≡ None → AllByRecursion InLimit ring → IsSoundRing ring
sound_ring k ring e inside =
    let h = long_closed (nat_lt (length ring) 4) (is_closed ring) k e in
    record { enough = not_few (length ring) h.0; closed = h.1; inside = inside }

pub each_sound : (os : List ℕ) (ps : List Pt) (m k n i : ℕ) → first_ring_fault m (cut_from os ps k n) ≡ None → i < n → (l : ℕ) × (ring_fault l (slice_range ps (get_or os (k + i) 0) (get_or os (suc (k + i)) 0)) ≡ None)
each_sound os ps m k zero i h lt = absurd (omega (arith, lt))
each_sound os ps m k (suc n) zero h lt =
    let e : k ≡ k + zero = omega arith in
    (m, subst (λ j. ring_fault m (slice_range ps (get_or os j 0) (get_or os (suc j) 0)) ≡ None) e (neither (ring_fault m (slice_range ps (get_or os k 0) (get_or os (suc k) 0))) (first_ring_fault (m + 1) (cut_from os ps (suc k) n)) h).0)
each_sound os ps m k (suc n) (suc i) h lt =
    let e : suc k + i ≡ k + suc i = omega arith in
    subst (λ j. (l : ℕ) × (ring_fault l (slice_range ps (get_or os j 0) (get_or os (suc j) 0)) ≡ None)) e
    (each_sound os ps (m + 1) (suc k) n i (neither (ring_fault m (slice_range ps (get_or os k 0) (get_or os (suc k) 0))) (first_ring_fault (m + 1) (cut_from os ps (suc k) n)) h).1 (omega (arith, lt)))

-- ---- columns that are accepted

pub record IsChecked (c : Columns) : Type 0 where
  pub well : AreCutWell c
  pub in_range : range_fault c ≡ None
  pub sound : first_ring_fault (first_ring c) (rings_in c) ≡ None

pub checked : (c : Columns) → AreAccepted c → IsChecked c
checked c h =
    let rings = first_ring_fault (first_ring c) (rings_in c) in
    let a = neither (points_fault c.points) (or_else (features_fault c) (or_else (polygons_fault c) (or_else (rings_fault c) (or_else (range_fault c) rings)))) h in
    let b = neither (features_fault c) (or_else (polygons_fault c) (or_else (rings_fault c) (or_else (range_fault c) rings))) a.1 in
    let d = neither (polygons_fault c) (or_else (rings_fault c) (or_else (range_fault c) rings)) b.1 in
    let e = neither (rings_fault c) (or_else (range_fault c) rings) d.1 in
    let f = neither (range_fault c) rings e.1 in
    record { well = record { points = a.0; features = b.0; polygons = d.0; rings = e.0 }; in_range = f.0; sound = f.1 }

behind : {X : Type 0} (a b : Option X) (r : Option X) → a ≡ None → b ≡ r → or_else a b ≡ r
behind a b r e f = ap (λ o. or_else o b) e ∙ f

-- where points and offsets are right, what is found behind them decides
pub decided : (c : Columns) (found : Option ColumnsFault) → AreCutWell c → or_else (range_fault c) (first_ring_fault (first_ring c) (rings_in c)) ≡ found → fault_of c ≡ found
decided c found well e =
    let last = or_else (range_fault c) (first_ring_fault (first_ring c) (rings_in c)) in
    behind (points_fault c.points) (or_else (features_fault c) (or_else (polygons_fault c) (or_else (rings_fault c) last))) found well.points
    (behind (features_fault c) (or_else (polygons_fault c) (or_else (rings_fault c) last)) found well.features
    (behind (polygons_fault c) (or_else (rings_fault c) last) found well.polygons (behind (rings_fault c) last found well.rings e)))

pub sound_rings : (c : Columns) → AreAccepted c → AreSoundRings c (first_ring c) (past_ring c)
sound_rings c h = λ ring low high.
    let k = checked c h in
    let first = first_ring c in
    let e : first + (ring - first) ≡ ring = omega (arith, low) in
    let f = each_sound c.rings.now (points_of c.points) first first (past_ring c - first) (ring - first) (subst (λ rings. first_ring_fault first rings ≡ None) (rings_are c k.well) k.sound) (omega (arith, low, high)) in
    let g = subst (λ j. ring_fault f.0 (slice_range (points_of c.points) (get_or c.rings.now j 0) (get_or c.rings.now (suc j) 0)) ≡ None) e f.1 in
    sound_ring f.0 (ring_at c ring) g (ring_inside c k.well k.in_range ring low high)

pub sound_between : (c : Columns) (from past ring : ℕ) → from ≡ first_point_of c ring → past ≡ first_point_of c (ring + 1) → IsSoundRing (ring_at c ring) → IsSoundRing (slice_range (points_of c.points) from past)
sound_between c from past ring e f h =
    let next : suc ring ≡ ring + 1 = omega arith in
    subst (λ k. IsSoundRing (slice_range (points_of c.points) k past)) (sym e) (subst (λ k. IsSoundRing (slice_range (points_of c.points) (first_point_of c ring) k)) (ap (first_point_of c) next ∙ sym f) h)

-- ---- ring by ring

-- the fault of the first ring, or of those behind it
pub here_fault : (c : Columns) (ring next past from end : ℕ) (found : Option ColumnsFault) → ring < past → next ≡ ring + 1 → from ≡ first_point_of c ring → end ≡ first_point_of c (ring + 1) → found ≡ ring_fault ring (slice_range (points_of c.points) from end)
    → first_ring_fault ring (rings_between c ring past) ≡ or_else found (first_ring_fault next (rings_between c next past))
here_fault c ring next past from end found low after e f is =
    ap (first_ring_fault ring) (rings_first c ring next past from end low after e f)
    ∙ ap (λ o. or_else o (first_ring_fault (ring + 1) (rings_between c next past))) (sym is)
    ∙ ap (λ k. or_else found (first_ring_fault k (rings_between c next past))) (sym after)

-- a ring of those that are reached, in which no fault is found
pub ring_sound : (c : Columns) → AreCutWell c → range_fault c ≡ None → (r : RingRange) → AreReached c r → (ring from past : ℕ) → r.first ≤ ring → ring < r.past → from ≡ first_point_of c ring → past ≡ first_point_of c (ring + 1)
    → ring_fault ring (slice_range (points_of c.points) from past) ≡ None → IsSoundRing (slice_range (points_of c.points) from past)
ring_sound c well range r reached ring from past low high e f none =
    let first = reached.first in
    let last = reached.past in
    let next : suc ring ≡ ring + 1 = omega arith in
    let inside = ring_inside c well range ring (omega (arith, low, first)) (omega (arith, high, last)) in
    sound_ring ring (slice_range (points_of c.points) from past) none
    (subst (λ k. AllByRecursion InLimit (slice_range (points_of c.points) k past)) (sym e)
    (subst (λ k. AllByRecursion InLimit (slice_range (points_of c.points) (first_point_of c ring) k)) (ap (first_point_of c) next ∙ sym f) inside))

-- the rings without their last points are in the limit
plain_inside : (rings : List (List Pt)) → AllByRecursion InLimit (joined rings) → AllByRecursion (λ ring. All InLimit ring) (plain rings)
plain_inside [] h = tt
plain_inside (r ∷ rs) h =
    let k = front_of InLimit r (joined rs) h in
    (All-take InLimit (length r - 1) r (all_of InLimit r k.0), plain_inside rs k.1)

pub rings_inside : (c : Columns) → range_fault c ≡ None → All (λ ring. All InLimit ring) (plain (rings_in c))
rings_inside c none =
    all_of (λ ring. All InLimit ring) (plain (rings_in c))
    (plain_inside (rings_in c) (all_inside (first_point c) (joined (rings_in c)) (none_of _ (first_outside (first_point c) (joined (rings_in c))) none)))

pub outline_inside : (rings : List (List Pt)) (o : Outline) → All (λ ring. All InLimit ring) rings → IsOutline rings o → IfSome o.bounds (λ r. AreInLimit r.lo r.hi)
outline_inside rings o h k = bounds_inside o.bounds k.box
  where
    bounds_inside : (b : Option Rect) → MatchOption b (layer_steps rings ≡ []) (IsBox (layer_steps rings)) → IfSome b (λ r. AreInLimit r.lo r.hi)
    bounds_inside None e = tt
    bounds_inside (Some r) e = box_in rings r h e
