-- The floors of vertices: an edge that lies at or above a vertex, or at or below its floor, isn't nearer.
use Rattle.std.proofs.Common.{◌≡◌, ℕ, ◌+◌, ◌<◌, ◌^◌, inl, inr, refl, sym, ◌∙◌, ap, subst, Option, Some, None, List, [], ◌∷◌, length, set, replicate, arith, true, w32, to_z, of_z, to_z-of_z, FitsSigned}
use Rattle.std.specs.Int.{int_max, int_min}
use Rattle.std.specs.Prelude.{All, IfSome, ℤ, pos, ◌+ℤ◌, ◌-ℤ◌, ◌*ℤ◌, ◌<ℤ◌, ◌≤ℤ◌}
use Rattle.std.proofs.lemmas.Int.{ints, int_max_is, int_min_is}
use Rattle.std.proofs.lemmas.Bool.{cases_eq, cases_lt}
use Rattle.std.proofs.lemmas.List.{get_or-replicate, get_or_past, get_or-set_same, get_or-set_other, length-set, length-replicate}
use Rattle.box_lanes.specs.Sides.{IsColumn}
use Rattle.box_lanes.proofs.BoxLaws.{column_put}
use Rattle.geom.specs.declared.point.Pt.{Pt}
use Rattle.geom.specs.declared.edge.Edge.{Edge}
use Rattle.geom.specs.declared.directed.DirectedEdge.{DirectedEdge}
use Rattle.geom.specs.Determinant.{determinant}
use Rattle.geom.specs.Directed.{RunsAlong}
use Rattle.geom.specs.Holes.{height, left_of, run_of}
use Rattle.geom.specs.Limit.{AreInLimit, IsWithin, coordinate_limit}
use Rattle.geom.specs.Parity.{covers}
use Rattle.geom.proofs.Identity.{ring, var, ◌⊕◌, ◌⊖◌, ◌⊗◌}
use Rattle.geom.proofs.Integers.{linear, mul_comm, scale_le}
use Rattle.geom.proofs.Doubling.{back}
use Rattle.geom.proofs.Numbers.{from_same, gap_is, itself, weak}
use Rattle.polygonize.specs.Below.{AreFloors, AreKnown, IsAsNear, IsFloor, IsGapOf, best_at, floor_at, gap_height, highest_row, least_row, lowest_row, vertex_at}
use Rattle.polygonize.specs.Next.{edge_at, nothing}
use Rattle.polygonize.specs.Reaching.{IsLengthened}
use Rattle.polygonize.specs.declared.below.Gap.{Gap}
use Rattle.polygonize.proofs.EdgesBelow.GapsBelow.{over_is, run_right}
use Rattle.polygonize.proofs.EdgesBelow.Nearness.{nothing_below}
use Rattle.polygonize.proofs.EdgesBelow.Short.{greatest_within, least_within}

-- ---- the height over an edge lies between those over its highest and its lowest row

-- variables: 0 p.x, 1 p.y, 2 q.x, 3 q.y of the edge; 4 v.x times n less 1, 5 v.y, 6 n
by_ends : (px py qx qy x y n : ℤ) → determinant (qx -ℤ px) (qy -ℤ py) (x -ℤ (n *ℤ px)) ((n *ℤ y) -ℤ (n *ℤ py)) ≡ (((n *ℤ qx) -ℤ x) *ℤ (y -ℤ py)) +ℤ ((x -ℤ (n *ℤ px)) *ℤ (y -ℤ qy))
by_ends px py qx qy x y n = ring (px ∷ py ∷ qx ∷ qy ∷ x ∷ y ∷ n ∷ [])
    (((var 2 ⊖ var 0) ⊗ ((var 6 ⊗ var 5) ⊖ (var 6 ⊗ var 1))) ⊖ ((var 3 ⊖ var 1) ⊗ (var 4 ⊖ (var 6 ⊗ var 0))))
    ((((var 6 ⊗ var 2) ⊖ var 4) ⊗ (var 5 ⊖ var 1)) ⊕ ((var 4 ⊖ (var 6 ⊗ var 0)) ⊗ (var 5 ⊖ var 3))) refl

by_row : (px qx x n h : ℤ) → (((n *ℤ qx) -ℤ x) *ℤ h) +ℤ ((x -ℤ (n *ℤ px)) *ℤ h) ≡ (n *ℤ h) *ℤ (qx -ℤ px)
by_row px qx x n h = ring (px ∷ qx ∷ x ∷ n ∷ h ∷ []) ((((var 3 ⊗ var 1) ⊖ var 2) ⊗ var 4) ⊕ ((var 2 ⊖ (var 3 ⊗ var 0)) ⊗ var 4)) ((var 3 ⊗ var 4) ⊗ (var 1 ⊖ var 0)) refl

sums_le : (s t a b c d : ℤ) → s ≡ a +ℤ b → c +ℤ d ≡ t → a ≤ℤ c → b ≤ℤ d → s ≤ℤ t
sums_le s t a b c d e f h k = omega (arith, linear)

sums_ge : (s t a b c d : ℤ) → s ≡ a +ℤ b → c +ℤ d ≡ t → c ≤ℤ a → d ≤ℤ b → t ≤ℤ s
sums_ge s t a b c d e f h k = omega (arith, linear)

further : (y r s : ℤ) → r ≤ℤ s → (y -ℤ s) ≤ℤ (y -ℤ r)
further y r s h = omega (arith, linear)

-- n times the height over a row
abbrev over_row : Pt → ℤ → ℤ
over_row v row = pos (2 ^ 64) *ℤ (v.y -ℤ row)

module _ (e : Edge) (v : Pt) (over : covers e (left_of v) ≡ true) (row : ℤ) where
  abbrev n : ℤ
  n = pos (2 ^ 64)

  abbrev x : ℤ
  x = (n *ℤ v.x) -ℤ pos 1

  after : (p x : ℤ) → p <ℤ x → (pos (2 ^ 64) *ℤ p) ≤ℤ ((pos (2 ^ 64) *ℤ x) -ℤ pos 1)
  after p x h = omega (arith, ints)

  before : (q x : ℤ) → x ≤ℤ q → ((pos (2 ^ 64) *ℤ x) -ℤ pos 1) ≤ℤ (pos (2 ^ 64) *ℤ q)
  before q x h = omega (arith, ints)

  to_end : pos 0 ≤ℤ ((n *ℤ e.q.x) -ℤ x)
  to_end = gap_is _ _ (before e.q.x v.x (over_is e.p.x e.q.x v.x over).1)

  from_begin : pos 0 ≤ℤ (x -ℤ (n *ℤ e.p.x))
  from_begin = gap_is _ _ (after e.p.x v.x (over_is e.p.x e.q.x v.x over).0)

  at_most : (row ≤ℤ e.p.y) × (row ≤ℤ e.q.y) → height e (left_of v) ≤ℤ (over_row v row *ℤ run_of e)
  at_most h = sums_le _ _ _ _ _ _ (by_ends e.p.x e.p.y e.q.x e.q.y x v.y n) (by_row e.p.x e.q.x x n (v.y -ℤ row)) (scale_le _ _ _ (further v.y row e.p.y h.0) to_end) (scale_le _ _ _ (further v.y row e.q.y h.1) from_begin)

  at_least : (e.p.y ≤ℤ row) × (e.q.y ≤ℤ row) → (over_row v row *ℤ run_of e) ≤ℤ height e (left_of v)
  at_least h = sums_ge _ _ _ _ _ _ (by_ends e.p.x e.p.y e.q.x e.q.y x v.y n) (by_row e.p.x e.q.x x n (v.y -ℤ row)) (scale_le _ _ _ (further v.y e.p.y row h.0) to_end) (scale_le _ _ _ (further v.y e.q.y row h.1) from_begin)

-- ---- the rows of an edge are those of its ends

both_ends : (P : Pt → Type 0) (d : DirectedEdge) (e : Edge) → RunsAlong d e → P d.from → P d.to → P e.p × P e.q
both_ends P d e (inl r) h k = (subst P (ap (λ t. t.from) r) h, subst P (ap (λ t. t.to) r) k)
both_ends P d e (inr r) h k = (subst P (ap (λ t. t.to) r) k, subst P (ap (λ t. t.from) r) h)

from_lowest : (row a b : ℤ) → row ≤ℤ int_min a b → (row ≤ℤ a) × (row ≤ℤ b)
from_lowest row a b h = (omega (arith, linear, int_min_is a b), omega (arith, linear, int_min_is a b))

to_highest : (row a b : ℤ) → int_max a b ≤ℤ row → (a ≤ℤ row) × (b ≤ℤ row)
to_highest row a b h = (omega (arith, linear, int_max_is a b), omega (arith, linear, int_max_is a b))

from_row : (d : DirectedEdge) (e : Edge) (row : ℤ) → RunsAlong d e → row ≤ℤ lowest_row d → (row ≤ℤ e.p.y) × (row ≤ℤ e.q.y)
from_row d e row r h = let b = from_lowest row d.from.y d.to.y h in both_ends (λ t. row ≤ℤ t.y) d e r b.0 b.1

to_row : (d : DirectedEdge) (e : Edge) (row : ℤ) → RunsAlong d e → highest_row d ≤ℤ row → (e.p.y ≤ℤ row) × (e.q.y ≤ℤ row)
to_row d e row r h = let b = to_highest row d.from.y d.to.y h in both_ends (λ t. t.y ≤ℤ row) d e r b.0 b.1

-- ---- an edge at or above the vertex isn't below it

no_height : (a n y r : ℤ) → pos 0 <ℤ a → a ≤ℤ ((n *ℤ (y -ℤ y)) *ℤ r) → ⊥
no_height a n y r h k = omega (arith, linear, ring (n ∷ y ∷ r ∷ []) ((var 0 ⊗ (var 1 ⊖ var 1)) ⊗ var 2) (var 0 ⊖ var 0) refl)

pub near_above : (d : DirectedEdge) (v : Pt) (best : Option Gap) → v.y ≤ℤ lowest_row d → IsAsNear d v best
near_above d v best h = nothing_below d v best (λ f b. no_height (height f (left_of v)) (pos (2 ^ 64)) v.y (run_of f) b.below (at_most f v b.over v.y (from_row d f v.y b.runs h)))

-- ---- an edge at or below the floor isn't nearer

through_floor : (g f h r s : ℤ) → pos 0 ≤ℤ r → pos 0 ≤ℤ s → g ≤ℤ (f *ℤ r) → (f *ℤ s) ≤ℤ h → (g *ℤ s) ≤ℤ (h *ℤ r)
through_floor g f h r s m n low high =
    let a : (s *ℤ g) ≤ℤ (s *ℤ (f *ℤ r)) = scale_le g (f *ℤ r) s low n in
    let b : (r *ℤ (f *ℤ s)) ≤ℤ (r *ℤ h) = scale_le (f *ℤ s) h r high m in
    omega (arith, linear, mul_comm s g, mul_comm r h, ring (f ∷ r ∷ s ∷ []) (var 2 ⊗ (var 0 ⊗ var 1)) (var 1 ⊗ (var 0 ⊗ var 2)) refl)

beyond_limit : (y row : ℤ) → row ≡ least_row → IsWithin coordinate_limit y → y ≤ℤ row → ⊥
beyond_limit y row e h k = let low = h.low in omega (arith, ints, e, low, k)

pub near_below : (ds : List DirectedEdge) (d : DirectedEdge) (v : Pt) (best : Option Gap) (floor : ℤ) → AreInLimit d.from d.to → IfSome best (IsGapOf ds v) → IsFloor ds best floor → highest_row d ≤ℤ floor → IsAsNear d v best
near_below ds d v None floor l k is h = absurd (beyond_limit d.from.y floor is l.a_in.y_in (to_highest floor d.from.y d.to.y h).0)
near_below ds d v (Some g) floor l k is h = λ f b.
    let e = k.gap.edge in
    let low = at_most e v k.gap.below.over floor (from_row (edge_at ds g.number) e floor k.gap.below.runs is.1) in
    let high = at_least f v b.over floor (to_row d f floor b.runs h) in
    let P : ℤ → Type 0 = λ t. (gap_height g *ℤ run_of f) ≤ℤ (height f (left_of v) *ℤ t) in
    let Q : ℤ → Type 0 = λ t. (t *ℤ run_of f) ≤ℤ (height f (left_of v) *ℤ run_of e) in
    subst P k.gap.run_is (subst Q k.gap.height_is (through_floor (height e (left_of v)) (over_row v floor) (height f (left_of v)) (run_of e) (run_of f) (weak (pos 0) (run_of e) (run_right (edge_at ds g.number) v e k.gap.below.over)) (weak (pos 0) (run_of f) (run_right d v f b.over)) low high))

-- ---- the floors of many vertices

pub edges_within : (ds : List DirectedEdge) (k : ℕ) → All (λ d. AreInLimit d.from d.to) ds → k < length ds → AreInLimit (edge_at ds k).from (edge_at ds k).to
edges_within ds k l i = l k nothing i

kept_row : (row high : ℤ) → least_row ≤ℤ row → row ≤ℤ high → IsWithin coordinate_limit high → to_z w32 (of_z w32 row) ≡ row
kept_row row high h k l = let m = l.high in let f : FitsSigned w32 row = omega (arith, ints, h, k, m) in simp to_z-of_z

-- a floor is kept by 32 bits
pub floor_kept : (ds : List DirectedEdge) (best : Option Gap) (floor : ℤ) → All (λ d. AreInLimit d.from d.to) ds → IfSome best (λ g. g.number < length ds) → IsFloor ds best floor → to_z w32 (of_z w32 floor) ≡ floor
floor_kept ds None floor l i is = rw is refl
floor_kept ds (Some g) floor l i is = let e = edges_within ds g.number l i in kept_row floor (lowest_row (edge_at ds g.number)) is.0 is.1 (least_within _ _ _ refl e.a_in.y_in e.b_in.y_in)

from_least : (row : ℤ) → IsWithin coordinate_limit row → least_row ≤ℤ row
from_least row h = let low = h.low in omega (arith, ints, low)

-- the lowest row of its edge is a floor of a gap
pub lowest_is_floor : (ds : List DirectedEdge) (g : Gap) (floor : ℤ) → All (λ d. AreInLimit d.from d.to) ds → g.number < length ds → floor ≡ lowest_row (edge_at ds g.number) → IsFloor ds (Some g) floor
lowest_is_floor ds g floor l i e = let m = edges_within ds g.number l i in let w = least_within _ _ floor e m.a_in.y_in m.b_in.y_in in (from_least floor w, from_same floor _ e)

-- the rows of an edge are kept by 32 bits
pub lowest_kept : (ds : List DirectedEdge) (k : ℕ) (row : ℤ) → All (λ d. AreInLimit d.from d.to) ds → k < length ds → row ≡ lowest_row (edge_at ds k) → to_z w32 (of_z w32 row) ≡ lowest_row (edge_at ds k)
lowest_kept ds k row l i e = let m = edges_within ds k l i in back row (least_within _ _ row e m.a_in.y_in m.b_in.y_in) ∙ e

pub highest_kept : (ds : List DirectedEdge) (k : ℕ) (row : ℤ) → All (λ d. AreInLimit d.from d.to) ds → k < length ds → row ≡ highest_row (edge_at ds k) → to_z w32 (of_z w32 row) ≡ highest_row (edge_at ds k)
highest_kept ds k row l i e = let m = edges_within ds k l i in back row (greatest_within _ _ row e m.a_in.y_in m.b_in.y_in) ∙ e

pub inside_of : (ds : List DirectedEdge) (v : Pt) (best : Option Gap) → IfSome best (IsGapOf ds v) → IfSome best (λ g. g.number < length ds)
inside_of ds v None h = tt
inside_of ds v (Some g) h = h.inside

-- one gap is set, and a floor of it
pub floors_set : (ds : List DirectedEdge) (best : List (Option Gap)) (floors : List ℤ) (place : ℕ) (least : Option Gap) (floor : ℤ)
    → place < length best → FitsSigned w32 floor → IsFloor ds (best_at (set best place least) place) floor → AreFloors ds best floors
    → AreFloors ds (set best place least) (set floors place floor)
floors_set ds best floors place least floor within fits is f = record {
  room = length-set floors place floor ∙ f.room ∙ ap (λ n. n + 16) (sym (length-set best place least));
  column = rw (to_z-of_z fits) at (column_put floors place floor f.column fits);
  each = λ r h. elim (cases_eq r place) [
    | inl same ↦ subst (λ (t : ℕ). IsFloor ds (best_at (set best place least) t) (floor_at (set floors place floor) t)) (sym same)
        (subst (λ (z : ℤ). IsFloor ds (best_at (set best place least) place) z) (sym (get_or-set_same floors place floor (pos 0) (let e = f.room in omega (arith, e, within)))) is)
    | inr other ↦ subst (λ (g : Option Gap). IsFloor ds g (floor_at (set floors place floor) r)) (sym (get_or-set_other best place r least None other))
        (subst (λ (z : ℤ). IsFloor ds (best_at best r) z) (sym (get_or-set_other floors place r floor (pos 0) other)) (f.each r (let e = length-set best place least in omega (arith, e, h))))
  ];
}

pub inside_set : (ds : List DirectedEdge) (v : Pt) (best : List (Option Gap)) (place : ℕ) (least : Option Gap) → place < length best → IfSome least (IsGapOf ds v) → IfSome (best_at (set best place least) place) (λ g. g.number < length ds)
inside_set ds v best place least within k = subst (λ (t : Option Gap). IfSome t (λ g. g.number < length ds)) (sym (get_or-set_same best place least None within)) (inside_of ds v least k)

-- the least row is a floor of each gap
least_is_floor : (ds : List DirectedEdge) (best : Option Gap) → All (λ d. AreInLimit d.from d.to) ds → IfSome best (λ g. g.number < length ds) → IsFloor ds best least_row
least_is_floor ds None l i = refl
least_is_floor ds (Some g) l i = let m = edges_within ds g.number l i in let w = least_within _ _ (lowest_row (edge_at ds g.number)) refl m.a_in.y_in m.b_in.y_in in (itself least_row, from_least _ w)

fits_least : FitsSigned w32 least_row
fits_least = record { sfits = omega arith }

column_least : (n : ℕ) → IsColumn (replicate n least_row)
column_least n = record {
  fits = λ k. elim (cases_lt k n) [
    | inl l ↦ rw (get_or-replicate n k least_row (pos 0) l) fits_least
    | inr l ↦ rw (get_or_past (replicate n least_row) k (pos 0) (omega (arith, length-replicate n least_row))) (record { sfits = omega arith })
  ];
}

-- so many least rows, and numbers behind them
pub first_floors : (ds : List DirectedEdge) (vertices : List Pt) (best : List (Option Gap)) (n : ℕ) (floors : List ℤ) → n ≡ length best
    → All (λ d. AreInLimit d.from d.to) ds → AreKnown ds vertices best → IsLengthened (replicate n least_row) floors → AreFloors ds best floors
first_floors ds vertices best n floors e l k m = let many = length-replicate n least_row in record {
  room = m.room ∙ ap (λ n. n + 16) (many ∙ e);
  column = m.column (column_least n);
  each = λ r h. subst (λ (z : ℤ). IsFloor ds (best_at best r) z) (sym (m.kept r (omega (arith, e, h, many)) ∙ get_or-replicate n r least_row (pos 0) (omega (arith, e, h))))
      (least_is_floor ds (best_at best r) l (inside_of ds (vertex_at vertices r) (best_at best r) (k r)));
}
