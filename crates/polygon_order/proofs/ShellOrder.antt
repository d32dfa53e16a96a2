-- The shell of a polygon among the coordinates, and shells in order.
use Rattle.std.proofs.Common.{◌≡◌, ◌∙◌, ◌≢◌, ◌⊎◌, inl, inr, ℕ, zero, suc, ◌+◌, ◌-◌, ◌*◌, ◌≤◌, ◌<◌, List, [], ◌∷◌, ◌++◌, Bool, true, false, Ordering, Less, Equal, Greater, length, get_or, map, take, drop, refl, sym, ap, subst, ⊎_elim, arith, ℤ}
use Rattle.std.specs.Prelude.{◌==◌, All, AllPairs, slice_range}
use Rattle.std.specs.Cmp.{IsStrictWeakOrder}
use Rattle.std.specs.Cmp.Lexicographic.{slice_cmp}
use Rattle.std.specs.Fn.{Called, ComparesAs}
use Rattle.std.specs.List.{AllAdjacentBelow, range_with_len}
use Rattle.std.specs.List.Sorted.{IsPermutation, IsSortedBy}
use Rattle.std.specs.Ordering.{int_cmp, is_lt, ordering_index}
use Rattle.std.proofs.lemmas.Bool.{cases_lt}
use Rattle.std.proofs.lemmas.Bool.Decides.{Decides-eqb, nat_tests}
use Rattle.std.proofs.lemmas.Cmp.{int_cmp_total, lists_total}
use Rattle.std.proofs.lemmas.Fn.{always_returns_same}
use Rattle.std.proofs.lemmas.List.{get_or-map, get_or_default, length-map, map-append, take-take}
use Rattle.std.proofs.lemmas.List.FromFn.{get_or-range_with_len, length-range_with_len}
use Rattle.std.proofs.lemmas.List.Sorted.{All-permutation, IsPermutation-map, all_adjacent_more, ranks_by, sorted_far}
use Rattle.std.proofs.lemmas.Map.Keys.{IsDistinct-IsPermutation}
use Rattle.std.proofs.lemmas.Map.Made.{AllPairs-from_IsDistinct, IsDistinct-from_AllPairs}
use denote.Param.Members.{Mut}
use denote.Ref.{Bor}
use lib.Dec.{eqb}
use Rattle.geom.specs.declared.point.Pt.{Pt}
use Rattle.geom.specs.ListOrder.{IsListBefore}
use Rattle.geom.proofs.ListOrder.{list_before_trans}
use Rattle.columns.specs.Answers.{coordinates_of}
use Rattle.columns.specs.Layout.{pairs, plain_ring}
use Rattle.columns.proofs.Lists.{length_slice, point_first}
use Rattle.columns.proofs.PointColumns.{pairs_few}
use Rattle.polygon_order.specs.declared.given.PolygonColumns.{PolygonColumns}
use Rattle.polygon_order.specs.declared.shells.Shell.{Shell}
use Rattle.polygon_order.specs.Order.{AreWhole, IsShellTwice, polygons_of, rings_of, shell_in}
use Rattle.polygon_order.specs.Shells.{AreDistinct, AreShells, CompareShells, Compares, DoNotFall, IsShellOf, polygon_at}
use Rattle.polygon_order.proofs.Coordinates.{none_less}
use Rattle.polygon_order.proofs.Cuts.{cut_at, length_cut, offsets_next, slice_coordinates}

-- ---- the shell of a polygon

-- its ring is one of the rings, and has a point
pub record IsShellAt (coordinates : List ℤ) (rings polygons : List ℕ) (number : ℕ) : Type 0 where
  pub ring : get_or polygons number 0 < get_or polygons (number + 1) 0
  pub next : get_or polygons (number + 1) 0 ≤ length rings - 1
  pub point : get_or rings (get_or polygons number 0) 0 < get_or rings (get_or polygons number 0 + 1) 0
  pub inside : 2 * get_or rings (get_or polygons number 0 + 1) 0 ≤ length coordinates
  pub past : get_or rings (get_or polygons number 0 + 1) 0 ≤ length (pairs coordinates)

-- offsets that ascend give each polygon a ring, and each ring a point
pub shell_at : (coordinates : List ℤ) (rings polygons : List ℕ) (number : ℕ) → AreWhole coordinates rings polygons → number < length polygons - 1
    → IsShellAt coordinates rings polygons number
shell_at coordinates rings polygons number whole inside =
    let ring = get_or polygons number 0 in
    let a = offsets_next (length rings - 1) polygons number (number + 1) whole.polygons_are refl (omega arith) in
    let first = a.0 in
    let last = a.1 in
    let b = offsets_next (length (pairs coordinates)) rings ring (ring + 1) whole.rings_are refl (omega (arith, first, last)) in
    let few = (pairs_few coordinates).0 in
    let end = b.1 in
    record { ring = first; next = last; point = b.0; inside = omega (arith, few, end); past = end }

-- a slice without its last point
plain_slice : (points : List Pt) (from past : ℕ) → past ≤ length points → plain_ring (slice_range points from past) ≡ slice_range points from (past - 1)
plain_slice points from past inside =
    let long = length_slice points from past inside in
    let e : past - from - 1 ≡ past - 1 - from = omega arith in
    ap (λ n. take (n - 1) (slice_range points from past)) long
    ∙ take-take (past - from - 1) (past - from) (drop from points) (omega arith)
    ∙ ap (λ n. take n (drop from points)) e

-- the ring is the polygon's first
first_ring : (coordinates : List ℤ) (rings polygons : List ℕ) (number : ℕ) → number < length polygons - 1 → IsShellAt coordinates rings polygons number
    → shell_in (get_or (polygons_of coordinates rings polygons) number []) ≡ plain_ring (get_or (rings_of coordinates rings) (get_or polygons number 0) [])
first_ring coordinates rings polygons number inside h =
    let all = rings_of coordinates rings in
    let ring = get_or polygons number 0 in
    let next = get_or polygons (number + 1) 0 in
    let long = length_cut rings (pairs coordinates) in
    ap shell_in (cut_at polygons all number (number + 1) [] refl (omega arith) ∙ point_first all ring next (ring + 1) [] h.ring (omega (arith, long, h)) refl)

-- the coordinates of a shell's points
pub shell_points : (coordinates : List ℤ) (rings polygons : List ℕ) (number : ℕ) → AreWhole coordinates rings polygons → number < length polygons - 1
    → slice_range coordinates (2 * get_or rings (get_or polygons number 0) 0) (2 * (get_or rings (get_or polygons number 0 + 1) 0 - 1))
    ≡ coordinates_of (shell_in (get_or (polygons_of coordinates rings polygons) number []))
shell_points coordinates rings polygons number whole inside =
    let points = pairs coordinates in
    let ring = get_or polygons number 0 in
    let from = get_or rings ring 0 in
    let past = get_or rings (ring + 1) 0 in
    let h = shell_at coordinates rings polygons number whole inside in
    let shell = cut_at rings points ring (ring + 1) [] refl (omega (arith, h)) in
    slice_coordinates coordinates from (past - 1) (2 * from) (2 * (past - 1)) whole.points refl refl
    ∙ sym (ap coordinates_of (first_ring coordinates rings polygons number inside h ∙ ap plain_ring shell ∙ plain_slice points from past h.past))

-- ---- shells in order

-- the test that shells are sorted by
abbrev is_less : Shell → Shell → Bool
is_less s t = is_lt (slice_cmp int_cmp s.coordinates.now t.coordinates.now)

-- sorted by their coordinates, shells do not fall
pub sorted_shells : {F : Type 0} {g : Mut F (Bor Shell × (Bor Shell × Unit {0})) Ordering} {f : F} (shells : List Shell)
    → ((lt : Shell → Shell → Bool) → IsStrictWeakOrder lt → ComparesAs g lt f → IsSortedBy lt shells)
    → ((a : Bor Shell × (Bor Shell × Unit {0})) (r : Ordering) (f' : F) → Called g f a r f'
    → (r ≡ slice_cmp int_cmp a.0.now.coordinates.now a.1.0.now.coordinates.now) × (f' ≡ f))
    → DoNotFall shells
sorted_shells {g = g} {f = f} shells h compares =
    let order : IsStrictWeakOrder is_less = ranks_by (lists_total int_cmp_total) (λ (s : Shell). s.coordinates.now) in
    let returns = always_returns_same g (λ a r. is_lt r ≡ is_less a.0.now a.1.0.now) f (λ a r f' k. let c = compares a r f' k in (ap is_lt c.0, c.1)) in
    λ i j d a b ps qs e k.
    none_less (get_or shells j d).coordinates.now (get_or shells i d).coordinates.now qs ps
    (sorted_far is_less order shells (h is_less order returns) i j d (omega (arith, a)) b) k e

-- what holds of neighbours and of the first and last of three holds of any two
pub pairs_from_neighbours : {X : Type 0} (R : X → X → Type 0) (trans : (x y z : X) → R x y → R y z → R x z) (xs : List X)
    → AllAdjacentBelow R xs (length xs) → AllPairs R xs
pairs_from_neighbours R trans xs h i zero d less inside = absurd (omega (arith, less))
pairs_from_neighbours {X} R trans xs h i (suc j) d less inside = ⊎_elim
    (λ (e : i ≡ j). subst (λ n. R (get_or xs n d) (get_or xs (suc j) d)) (sym e) last)
    (λ (l : i < j). trans (get_or xs i d) (get_or xs j d) (get_or xs (suc j) d)
    (pairs_from_neighbours R trans xs h i j d l (omega (arith, inside))) last)
    (here i j less)
  where
    here : (i j : ℕ) → i < suc j → (i ≡ j) ⊎ (i < j)
    here i j l = ⊎_elim (λ h. inr h) (λ h. inl (omega (arith, l, h))) (cases_lt i j)

    last : R (get_or xs j d) (get_or xs (suc j) d)
    last = let e : j + 1 ≡ suc j = omega arith in subst (λ n. R (get_or xs j d) (get_or xs n d)) e (h j d (omega (arith, inside)))

-- one more number
range_more : (a n j : ℕ) → a + n ≡ j → range_with_len a (suc n) ≡ range_with_len a n ++ j ∷ []
range_more a zero j e = let f : a ≡ j = omega (arith, e) in ap (λ i. i ∷ []) f
range_more a (suc n) j e = ap (λ t. a ∷ t) (range_more (a + 1) n j (omega (arith, e)))

-- a shell with the next number behind those with all before it
pub numbers_more : (shells : List Shell) (s : Shell) (n next : ℕ) → map (λ t. t.number) shells ≡ range_with_len 0 n → s.number ≡ n → next ≡ n + 1
    → map (λ t. t.number) (shells ++ s ∷ []) ≡ range_with_len 0 next
numbers_more shells s n next e f g =
    let h : suc n ≡ next = omega (arith, g) in
    map-append (λ (t : Shell). t.number) shells (s ∷ []) ∙ ap (λ t. t ++ s.number ∷ []) e
    ∙ sym (range_more 0 n s.number (omega (arith, f))) ∙ ap (range_with_len 0) h

-- sorted by their points, the shells of all polygons are these still
pub shells_sorted : (columns : PolygonColumns) (found sorted : List Shell) (n : ℕ) → All (IsShellOf columns) found
    → map (λ s. s.number) found ≡ range_with_len 0 n → n ≡ length columns.polygons.now - 1 → IsPermutation found sorted → AreShells columns sorted
shells_sorted columns found sorted n are numbers all moved = record {
  are = All-permutation (IsShellOf columns) found sorted moved are;
  numbers = subst (λ (ns : List ℕ). IsPermutation ns (map (λ s. s.number) sorted)) (numbers ∙ ap (range_with_len 0) all)
      (IsPermutation-map (λ (s : Shell). s.number) found sorted moved);
}

-- the numbers of a range differ
range_apart : (n : ℕ) → AllPairs (λ x y. x ≢ y) (range_with_len 0 n)
range_apart n i j d less inside =
    let long = length-range_with_len 0 n in
    let a = get_or-range_with_len 0 n i d (omega arith) in
    let b = get_or-range_with_len 0 n j d (omega arith) in
    λ e. absurd (omega arith)

-- equal one way round is equal the other way round
eqb_flips : (x y : ℕ) → eqb x y ≡ eqb y x
eqb_flips x y = grind (arith, nat_tests)

-- nor does one of them come twice in another order
moved_apart : (n : ℕ) (numbers : List ℕ) → IsPermutation (range_with_len 0 n) numbers → AllPairs (λ x y. x ≢ y) numbers
moved_apart n numbers moved =
    let range = range_with_len 0 n in
    AllPairs-from_IsDistinct Decides-eqb numbers (IsDistinct-IsPermutation eqb eqb_flips range numbers moved (IsDistinct-from_AllPairs Decides-eqb range (range_apart n)))

-- no two shells have one number
pub apart_numbers : (n : ℕ) (shells : List Shell) → IsPermutation (range_with_len 0 n) (map (λ s. s.number) shells)
    → AllPairs (λ s t. s.number ≢ t.number) shells
apart_numbers n shells moved i j d less inside = λ e.
    let long = length-map shells (λ (s : Shell). s.number) in
    let one = get_or-map (λ (s : Shell). s.number) shells i d d.number (omega (arith, less, inside)) in
    let other = get_or-map (λ (s : Shell). s.number) shells j d d.number inside in
    moved_apart n (map (λ (s : Shell). s.number) shells) moved i j d.number less (omega (arith, long, inside)) (one ∙ e ∙ sym other)

-- ---- neighbours

-- the shell of the one's polygon is before that of the other's
abbrev pub IsShellBefore : PolygonColumns → Shell → Shell → Type 0
IsShellBefore columns s t = IsListBefore (shell_in (polygon_at columns s.number)) (shell_in (polygon_at columns t.number))

-- the answer is `Equal`
told_same : (ps qs : List Pt) (order : Ordering) → Compares ps qs order → true ≡ (ordering_index order == 1) → ps ≡ qs
told_same ps qs Less h e = absurd (cc)
told_same ps qs Equal h e = h
told_same ps qs Greater h e = absurd (cc)

-- it isn't, and they do not fall
told_before : (ps qs : List Pt) (order : Ordering) → Compares ps qs order → ¬ (IsListBefore qs ps) → false ≡ (ordering_index order == 1)
    → IsListBefore ps qs
told_before ps qs Less h k e = h
told_before ps qs Equal h k e = absurd (cc)
told_before ps qs Greater h k e = absurd (k h)

-- neighbours that are the same are the shells of two polygons
pub same_neighbours : (columns : PolygonColumns) (shells : List Shell) (place : ℕ) (blank : Shell) (order : Ordering)
    → AreShells columns shells → 1 ≤ place → place < length shells
    → CompareShells (get_or shells (place - 1) blank).coordinates.now (get_or shells place blank).coordinates.now order → true ≡ (ordering_index order == 1)
    → IsShellTwice columns.coordinates.now columns.rings.now columns.polygons.now (get_or shells place blank).number
same_neighbours columns shells place blank order h some inside compares e =
    let s = h.are (place - 1) blank (omega (arith, inside)) in
    let t = h.are place blank inside in
    let other = (get_or shells (place - 1) blank).number in
    let ps = shell_in (polygon_at columns other) in
    let qs = shell_in (polygon_at columns (get_or shells place blank).number) in
    record {
      inside = t.inside;
      other = other;
      other_inside = s.inside;
      apart = apart_numbers (length columns.polygons.now - 1) shells h.numbers (place - 1) place blank (omega (arith, some)) inside;
      same = told_same ps qs order (compares ps qs s.points t.points) e;
    }

-- others ascend
pub neighbours_more : (columns : PolygonColumns) (shells : List Shell) (place : ℕ) (blank : Shell) (order : Ordering)
    → AreShells columns shells → DoNotFall shells → 1 ≤ place → place < length shells
    → CompareShells (get_or shells (place - 1) blank).coordinates.now (get_or shells place blank).coordinates.now order → false ≡ (ordering_index order == 1)
    → AllAdjacentBelow (IsShellBefore columns) shells place → AllAdjacentBelow (IsShellBefore columns) shells (place + 1)
neighbours_more columns shells place blank order h up some inside compares e before =
    let s = h.are (place - 1) blank (omega (arith, inside)) in
    let t = h.are place blank inside in
    let ps = shell_in (polygon_at columns (get_or shells (place - 1) blank).number) in
    let qs = shell_in (polygon_at columns (get_or shells place blank).number) in
    let level = up (place - 1) place blank (omega (arith, some)) inside ps qs s.points t.points in
    let step = told_before ps qs order (compares ps qs s.points t.points) level e in
    all_adjacent_more shells (IsShellBefore columns) place some before
    (λ d. subst (λ (x : Shell). IsShellBefore columns x (get_or shells place d))
    (get_or_default shells (place - 1) blank d (omega (arith, inside)))
    (subst (λ (x : Shell). IsShellBefore columns (get_or shells (place - 1) blank) x) (get_or_default shells place blank d inside) step))

shell_before_trans : (columns : PolygonColumns) (s t u : Shell) → IsShellBefore columns s t → IsShellBefore columns t u → IsShellBefore columns s u
shell_before_trans columns s t u = list_before_trans (shell_in (polygon_at columns s.number)) (shell_in (polygon_at columns t.number)) (shell_in (polygon_at columns u.number))

-- where all neighbours ascend, all are distinct
pub all_distinct : (columns : PolygonColumns) (shells : List Shell) (place : ℕ) → length shells ≤ place
    → AllAdjacentBelow (IsShellBefore columns) shells place → AreDistinct columns shells
all_distinct columns shells place past before =
    pairs_from_neighbours (IsShellBefore columns) (λ s t u. shell_before_trans columns s t u) shells
    (λ k d inside. before k d (omega (arith, past, inside)))
