-- The rings that the features of columns reach, by their numbers.
use Rattle.std.proofs.Common.{◌≡◌, ◌∙◌, ℕ, zero, suc, ◌+◌, ◌-◌, ◌≤◌, ◌<◌, List, [], ◌∷◌, ◌++◌, length, get_or, map, Option, Some, None, refl, sym, ap, subst, arith}
use Rattle.std.specs.Prelude.{option_map, slice_range}
use Rattle.std.proofs.lemmas.Grind.{flat_map-append}
use Rattle.std.proofs.lemmas.List.{length-map}
use Rattle.geom.specs.declared.point.Pt.{Pt}
use Rattle.columns.specs.declared.layout.Columns.{Columns}
use Rattle.columns.specs.Layout.{cut, feature_rings_in, features_in, joined, points_of, rings_in}
use Rattle.columns.specs.declared.reach.RingRange.{RingRange}
use Rattle.columns.specs.Reach.{AreCutWell, AreReached, cut_from, past_ring, first_point_of, first_ring_of, rings_between}
use Rattle.columns.specs.Refusals.{first_point, first_ring, first_wrong, list_count}
use Rattle.columns.proofs.Cuts.{Rising, bounded, cut_is, cut_more, cut_next, get_cut_from, joined_cut, length_cut_from, ordered, rising_of, slice_cut}

-- ---- offsets of columns that are cut well

pub none_of : {X Y : Type 0} (f : X → Y) (o : Option X) → option_map f o ≡ None → o ≡ None
none_of f None e = refl
none_of f (Some x) e = absurd cc

pub features_rise : (c : Columns) → AreCutWell c → Rising (list_count c.polygons.now) 0 c.features.now
features_rise c well = rising_of (list_count c.polygons.now) 0 0 c.features.now (none_of _ (first_wrong (list_count c.polygons.now) c.features.now) well.features)

pub polygons_rise : (c : Columns) → AreCutWell c → Rising (list_count c.rings.now) 0 c.polygons.now
polygons_rise c well = rising_of (list_count c.rings.now) 0 0 c.polygons.now (none_of _ (first_wrong (list_count c.rings.now) c.polygons.now) well.polygons)

pub rings_rise : (c : Columns) → AreCutWell c → Rising (length (points_of c.points)) 0 c.rings.now
rings_rise c well = rising_of (length (points_of c.points)) 0 0 c.rings.now (none_of _ (first_wrong (length (points_of c.points)) c.rings.now) well.rings)

-- the rings from one feature to another are in order, and none is behind the last ring
pub rings_in_order : (c : Columns) → AreCutWell c → (j k : ℕ) → j ≤ k → k ≤ list_count c.features.now → first_ring_of c j ≤ first_ring_of c k
rings_in_order c well j k le last =
    ordered (list_count c.rings.now) 0 c.polygons.now (polygons_rise c well) (get_or c.features.now j 0) (get_or c.features.now k 0)
    (ordered (list_count c.polygons.now) 0 c.features.now (features_rise c well) j k le last)
    (bounded (list_count c.polygons.now) 0 c.features.now (features_rise c well) k)

pub rings_known : (c : Columns) → AreCutWell c → (k : ℕ) → first_ring_of c k ≤ list_count c.rings.now
rings_known c well k = bounded (list_count c.rings.now) 0 c.polygons.now (polygons_rise c well) (get_or c.features.now k 0)

pub points_known : (c : Columns) → AreCutWell c → (ring : ℕ) → first_point_of c ring ≤ length (points_of c.points)
points_known c well ring = bounded (length (points_of c.points)) 0 c.rings.now (rings_rise c well) ring

pub points_in_order : (c : Columns) → AreCutWell c → (j k : ℕ) → j ≤ k → k ≤ list_count c.rings.now → first_point_of c j ≤ first_point_of c k
points_in_order c well j k le last = ordered (length (points_of c.points)) 0 c.rings.now (rings_rise c well) j k le last

-- ---- rings of polygons next to one another

abbrev polygons_in : Columns → List (List (List Pt))
polygons_in c = cut c.polygons.now (cut c.rings.now (points_of c.points))

abbrev all_in : Columns → List (List Pt)
all_in c = cut c.rings.now (points_of c.points)

joined_polygons : (c : Columns) → AreCutWell c → (j k : ℕ) → j ≤ k → k ≤ list_count c.features.now
    → joined (slice_range (polygons_in c) (get_or c.features.now j 0) (get_or c.features.now k 0)) ≡ rings_between c (first_ring_of c j) (first_ring_of c k)
joined_polygons c well j k le last =
    let a = get_or c.features.now j 0 in
    let b = get_or c.features.now k 0 in
    let order : a ≤ b = ordered (list_count c.polygons.now) 0 c.features.now (features_rise c well) j k le last in
    let known : b ≤ list_count c.polygons.now = bounded (list_count c.polygons.now) 0 c.features.now (features_rise c well) k in
    ap joined (slice_cut c.polygons.now (all_in c) a b order known)
    ∙ joined_cut c.polygons.now (all_in c) (list_count c.rings.now) 0 a (b - a) b (polygons_rise c well) (omega (arith, order)) known
    ∙ slice_cut c.rings.now (points_of c.points) (first_ring_of c j) (first_ring_of c k) (rings_in_order c well j k le last) (rings_known c well k)

-- ---- features

joined_map : {X : Type 0} (xsss : List (List (List X))) → joined (map joined xsss) ≡ joined (joined xsss)
joined_map [] = refl
joined_map (xss ∷ xsss) = ap (λ t. joined xss ++ t) (joined_map xsss) ∙ sym (flat_map-append (λ xs. xs) xss (joined xsss))

-- all rings
pub rings_are : (c : Columns) → AreCutWell c → rings_in c ≡ rings_between c (first_ring c) (past_ring c)
rings_are c well =
    let n = list_count c.features.now in
    joined_map (features_in c)
    ∙ ap (λ t. joined (joined t)) (cut_is c.features.now (polygons_in c))
    ∙ ap joined (joined_cut c.features.now (polygons_in c) (list_count c.polygons.now) 0 0 n n (features_rise c well) (omega arith) (omega arith))
    ∙ joined_polygons c well 0 n (omega arith) (omega arith)

pub count_features : (c : Columns) → length (feature_rings_in c) ≡ list_count c.features.now
count_features c =
    length-map (features_in c) joined
    ∙ ap length (cut_is c.features.now (polygons_in c))
    ∙ length_cut_from c.features.now (polygons_in c) 0 (list_count c.features.now)

-- those of a feature
pub feature_rings_are : (c : Columns) → AreCutWell c → (k : ℕ) (d : List (List Pt)) → k < list_count c.features.now → get_or (feature_rings_in c) k d ≡ rings_between c (first_ring_of c k) (first_ring_of c (suc k))
feature_rings_are c well k d lt =
    let n = list_count c.features.now in
    get_or_mapped k d (features_in c) (subst (λ (m : ℕ). k < m) (sym (ap length (cut_is c.features.now (polygons_in c)) ∙ length_cut_from c.features.now (polygons_in c) 0 n)) lt)
    ∙ ap (λ t. joined (get_or t k [])) (cut_is c.features.now (polygons_in c))
    ∙ ap joined (get_cut_from c.features.now (polygons_in c) k 0 n k [] lt (omega arith))
    ∙ joined_polygons c well k (suc k) (omega arith) (omega (arith, lt))
  where
    get_or_mapped : (k : ℕ) (d : List (List Pt)) (fs : List (List (List (List Pt)))) → k < length fs → get_or (map joined fs) k d ≡ joined (get_or fs k [])
    get_or_mapped k d [] lt = absurd (omega (arith, lt))
    get_or_mapped zero d (f ∷ fs) lt = refl
    get_or_mapped (suc k) d (f ∷ fs) lt = get_or_mapped k d fs (omega (arith, lt))

-- all points
pub points_are : (c : Columns) → AreCutWell c → joined (rings_in c) ≡ slice_range (points_of c.points) (first_point c) (first_point_of c (past_ring c))
points_are c well =
    let first = first_ring c in
    let past = past_ring c in
    let order : first ≤ past = rings_in_order c well 0 (list_count c.features.now) (omega arith) (omega arith) in
    ap joined (rings_are c well)
    ∙ joined_cut c.rings.now (points_of c.points) (length (points_of c.points)) 0 first (past - first) past (rings_rise c well) (omega (arith, order)) (rings_known c well (list_count c.features.now))

-- ---- ring by ring

-- one ring more
pub rings_next : (c : Columns) (first ring next from past : ℕ) → first ≤ ring → next ≡ ring + 1 → from ≡ first_point_of c ring → past ≡ first_point_of c (ring + 1)
    → rings_between c first next ≡ rings_between c first ring ++ slice_range (points_of c.points) from past ∷ []
rings_next c first ring next from past low after e f =
    let n = ring - first in
    let a : next - first ≡ suc n = omega (arith, low, after) in
    let b : ring ≡ first + n = omega (arith, low) in
    let d : suc ring ≡ ring + 1 = omega arith in
    ap (λ m. cut_from c.rings.now (points_of c.points) first m) a
    ∙ cut_more c.rings.now (points_of c.points) first n ring b
    ∙ ap (λ k. rings_between c first ring ++ slice_range (points_of c.points) k (first_point_of c (suc ring)) ∷ []) (sym e)
    ∙ ap (λ k. rings_between c first ring ++ slice_range (points_of c.points) from k ∷ []) (ap (first_point_of c) d ∙ sym f)

-- the first ring, and those behind it
pub rings_first : (c : Columns) (ring next past from end : ℕ) → ring < past → next ≡ ring + 1 → from ≡ first_point_of c ring → end ≡ first_point_of c (ring + 1)
    → rings_between c ring past ≡ slice_range (points_of c.points) from end ∷ rings_between c next past
rings_first c ring next past from end low after e f =
    let n = past - next in
    let a : past - ring ≡ suc n = omega (arith, low, after) in
    let d : suc ring ≡ next = omega (arith, after) in
    let g : suc ring ≡ ring + 1 = omega arith in
    cut_next c.rings.now (points_of c.points) ring (past - ring) n a
    ∙ ap (λ k. slice_range (points_of c.points) k (first_point_of c (suc ring)) ∷ cut_from c.rings.now (points_of c.points) (suc ring) n) (sym e)
    ∙ ap (λ k. slice_range (points_of c.points) from k ∷ cut_from c.rings.now (points_of c.points) (suc ring) n) (ap (first_point_of c) g ∙ sym f)
    ∙ ap (λ k. slice_range (points_of c.points) from end ∷ cut_from c.rings.now (points_of c.points) k n) d

-- ---- the rings that a range has

pub range_order : (c : Columns) → AreCutWell c → (r : RingRange) → AreReached c r → r.first ≤ r.past
range_order c well r reached =
    let h = rings_in_order c well 0 (list_count c.features.now) (omega arith) (omega arith) in
    let first = reached.first in
    let past = reached.past in
    omega (arith, h, first, past)

pub range_known : (c : Columns) → AreCutWell c → (r : RingRange) → AreReached c r → r.past ≤ list_count c.rings.now
range_known c well r reached =
    let h = rings_known c well (list_count c.features.now) in
    let past = reached.past in
    omega (arith, h, past)

pub range_rings : (c : Columns) → AreCutWell c → (r : RingRange) → AreReached c r → rings_in c ≡ rings_between c r.first r.past
range_rings c well r reached = rings_are c well ∙ ap (λ n. rings_between c n (past_ring c)) (sym reached.first) ∙ ap (λ n. rings_between c r.first n) (sym reached.past)

-- the points of a ring are in order
pub ring_order : (c : Columns) → AreCutWell c → (ring from past : ℕ) → ring < list_count c.rings.now → from ≡ first_point_of c ring → past ≡ first_point_of c (ring + 1) → from ≤ past
ring_order c well ring from past lt e f =
    let h = points_in_order c well ring (ring + 1) (omega arith) (omega (arith, lt)) in
    omega (arith, h, e, f)
