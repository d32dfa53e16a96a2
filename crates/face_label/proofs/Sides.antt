-- The side points of an edge have over them only edges that have a whole x in the strip of its midpoint.
use Rattle.std.proofs.Common.{◌≡◌, ℕ, ◌+◌, ◌/◌, ◌^◌, ◌<◌, ◌≤◌, Bool, true, List, [], ◌∷◌, length, get_or, map, Some, refl, sym, ◌∙◌, ap, subst, arith, zero-add}
use Rattle.std.specs.Prelude.{ℤ, pos, negsuc, ◌+ℤ◌, ◌-ℤ◌, ◌*ℤ◌, neg_ℤ, ◌<ℤ◌, ◌≤ℤ◌, ◌&&◌, int_lt, int_le, nat_abs, slice_get, All, not}
use Rattle.std.specs.Int.{int_div_euclid}
use lib.Signed.{le_z_yes}
use Rattle.std.proofs.lemmas.Int.{ints}
use Rattle.std.proofs.lemmas.List.Elements.{All-head, All-tail}
use Rattle.std.proofs.lemmas.Nat.{le-div}
use Rattle.std.proofs.Math.Nat.{div-mul-le_self}
use Rattle.geom.specs.declared.point.Pt.{Pt}
use Rattle.geom.specs.declared.op.Op.{Op}
use Rattle.geom.specs.declared.edge.Edge.{Edge}
use Rattle.geom.specs.declared.edge.Counted.{Counted}
use Rattle.geom.specs.Limit.{AreInLimit, IsWithin, coordinate_limit}
use Rattle.geom.specs.Pixel.{Point}
use Rattle.geom.specs.Operations.{holds}
use Rattle.geom.specs.Parity.{covers, lies_above, parity}
use Rattle.geom.specs.ResultEdges.{left_side, right_side}
use Rattle.geom.specs.Rounded.{is_odd}
use Rattle.geom.proofs.Integers.{expand, linear, scale_le, unscale_lt}
use Rattle.geom.proofs.Lists.{In, contains_in}
use Rattle.geom.proofs.Points.{and_both}
use Rattle.geom.proofs.Tests.{le_told, lt_told}
use Rattle.geom.proofs.Numbers.{nonneg, past_predecessor, le_lt}
use Rattle.tiling.specs.Strips.{IsInStrip}
use Rattle.grid.specs.Tiles.{steps}
use Rattle.geom.specs.Label.{OddLayers, bounds, both_ways, holds_in}
use Rattle.face_label.specs.Strip.{AreInStrip, IsSpanned, IsStriped, StripedLayer, edges_at, layers_at, strip_at}
use Rattle.face_label.proofs.Chosen.{count_chosen, from_ascending}
use Rattle.geom.proofs.Doubling.{right_is_left}

-- ---- near a column
-- z is less than 1 from the column m, on either side
pub record IsNear (z : Point) (m : ℤ) : Type 0 where
  pub low : (z.n *ℤ (m -ℤ pos 1)) ≤ℤ z.x
  pub high : z.x <ℤ (z.n *ℤ (m +ℤ pos 1))

up_to : (a m : ℤ) → a <ℤ (m +ℤ pos 1) → a ≤ℤ m
up_to a m h = omega (arith, linear)

-- what covers z has the column
covers_near : (e : Edge) (z : Point) (m : ℤ) → IsNear z m → covers e z ≡ true → (e.p.x ≤ℤ m) × (m ≤ℤ e.q.x)
covers_near e z m near h = let t = and_both (int_le (z.n *ℤ e.p.x) z.x) (int_lt z.x (z.n *ℤ e.q.x)) h in (
  up_to e.p.x m (unscale_lt e.p.x (m +ℤ pos 1) z.n (le_lt _ _ _ (le_told (z.n *ℤ e.p.x) z.x t.0) near.high) (nonneg z.n z.positive)),
  past_predecessor m e.q.x (unscale_lt (m -ℤ pos 1) e.q.x z.n (le_lt _ _ _ near.low (lt_told z.x (z.n *ℤ e.q.x) t.1)) (nonneg z.n z.positive)),
)

near_low : (t s m k n x : ℤ) → n ≡ t +ℤ t → x ≡ (t *ℤ s) +ℤ k → pos 0 ≤ℤ t → neg_ℤ t ≤ℤ k → (m +ℤ m) ≤ℤ s → (n *ℤ (m -ℤ pos 1)) ≤ℤ x
near_low t s m k n x e f p h i = rw (e, f) (plain (simp expand at (scale_le (m +ℤ m) s t i p)))
  where
    plain : ((t *ℤ m) +ℤ (t *ℤ m)) ≤ℤ (t *ℤ s) → ((t +ℤ t) *ℤ (m -ℤ pos 1)) ≤ℤ ((t *ℤ s) +ℤ k)
    plain j = simp expand (omega (arith, linear))

near_high : (t s m k n x : ℤ) → n ≡ t +ℤ t → x ≡ (t *ℤ s) +ℤ k → pos 0 ≤ℤ t → k <ℤ t → s ≤ℤ ((m +ℤ m) +ℤ pos 1) → x <ℤ (n *ℤ (m +ℤ pos 1))
near_high t s m k n x e f p h i = rw (e, f) (plain (simp expand at (scale_le s ((m +ℤ m) +ℤ pos 1) t i p)))
  where
    plain : (t *ℤ s) ≤ℤ (((t *ℤ m) +ℤ (t *ℤ m)) +ℤ t) → ((t *ℤ s) +ℤ k) <ℤ ((t +ℤ t) *ℤ (m +ℤ pos 1))
    plain j = simp expand (omega (arith, linear))

minus_plus : (a b : ℤ) → a -ℤ b ≡ a +ℤ neg_ℤ b
minus_plus a b = omega (arith, linear)

small_low : (y w : ℤ) → IsWithin coordinate_limit y → IsWithin coordinate_limit w → neg_ℤ (pos (2 ^ 31)) ≤ℤ neg_ℤ (pos 2 *ℤ (w -ℤ y))
small_low y w h k = omega (arith, ints)

small_high : (y w : ℤ) → IsWithin coordinate_limit y → IsWithin coordinate_limit w → neg_ℤ (pos 2 *ℤ (w -ℤ y)) <ℤ pos (2 ^ 31)
small_high y w h k = omega (arith, ints)

wider_low : (a b k : ℤ) → a ≤ℤ b → neg_ℤ a ≤ℤ k → neg_ℤ b ≤ℤ k
wider_low a b k h i = omega (arith, linear)

wider_high : (a b k : ℤ) → a ≤ℤ b → k <ℤ a → k <ℤ b
wider_high a b k h i = omega (arith, linear)

-- the points beside an edge are near the column of its midpoint
near_side : (u v : Pt) (m : ℤ) → AreInLimit u v → (m +ℤ m) ≤ℤ (u.x +ℤ v.x) → (u.x +ℤ v.x) ≤ℤ ((m +ℤ m) +ℤ pos 1) → IsNear (left_side u v) m
near_side u v m h low high =
    let k : ℤ = neg_ℤ (pos 2 *ℤ (v.y -ℤ u.y)) in record {
      low = near_low (pos (2 ^ 64)) (u.x +ℤ v.x) m k (pos (2 ^ 65)) (left_side u v).x refl (minus_plus (pos (2 ^ 64) *ℤ (u.x +ℤ v.x)) (pos 2 *ℤ (v.y -ℤ u.y))) (le_z_yes tt) (wider_low (pos (2 ^ 31)) (pos (2 ^ 64)) k (le_z_yes tt) (small_low u.y v.y h.a_in.y_in h.b_in.y_in)) low;
      high = near_high (pos (2 ^ 64)) (u.x +ℤ v.x) m k (pos (2 ^ 65)) (left_side u v).x refl (minus_plus (pos (2 ^ 64) *ℤ (u.x +ℤ v.x)) (pos 2 *ℤ (v.y -ℤ u.y))) (le_z_yes tt) (wider_high (pos (2 ^ 31)) (pos (2 ^ 64)) k (le_z_yes tt) (small_high u.y v.y h.a_in.y_in h.b_in.y_in)) high;
    }

-- ---- the strip of a midpoint
half_low : (s : ℤ) → (int_div_euclid s (pos 2) +ℤ int_div_euclid s (pos 2)) ≤ℤ s
half_low (pos a) = omega (arith, ints)
half_low (negsuc a) = omega (arith, ints)

half_high : (s : ℤ) → s ≤ℤ ((int_div_euclid s (pos 2) +ℤ int_div_euclid s (pos 2)) +ℤ pos 1)
half_high (pos a) = omega (arith, ints)
half_high (negsuc a) = omega (arith, ints)

from_left : (low p q m : ℤ) → low ≤ℤ p → p ≤ℤ q → (p +ℤ q) ≤ℤ ((m +ℤ m) +ℤ pos 1) → low ≤ℤ m
from_left low p q m h o k = omega (arith, linear)

to_right : (high p q m : ℤ) → q ≤ℤ high → p ≤ℤ q → (m +ℤ m) ≤ℤ (p +ℤ q) → m ≤ℤ high
to_right high p q m h o k = omega (arith, linear)

natural : (low x : ℤ) → low ≤ℤ x → (n : ℕ) × (x -ℤ low ≡ pos n)
natural low x h = told (x -ℤ low) (at_least h)
  where
    at_least : low ≤ℤ x → pos 0 ≤ℤ (x -ℤ low)
    at_least h = omega (arith, linear)

    told : (z : ℤ) → pos 0 ≤ℤ z → (n : ℕ) × (z ≡ pos n)
    told (pos n) h = (n, refl)
    told (negsuc n) h = absurd (omega (arith, ints))

fewer : (a b w : ℕ) → 0 < w → a ≤ b → a / w < b / w + 1
fewer a b w p h = let l = div-mul-le_self a w in let d : a / w ≤ b / w = le-div (a / w) b w p (omega (arith, l, h)) in omega (arith, d)

-- a whole x from low to high is in one of the strips
in_a_strip : (low high x : ℤ) (w : ℕ) → 0 < w → low ≤ℤ x → x ≤ℤ high → (steps low w x ≡ pos (nat_abs (steps low w x))) × (nat_abs (steps low w x) < nat_abs (steps low w high) + 1)
in_a_strip low high x w p l h =
    let a = natural low x l in
    let b = natural low high (chain l h) in
    let e : steps low w x ≡ pos (a.0 / w) = ap (λ t. int_div_euclid t (pos w)) a.1 in
    let f : steps low w high ≡ pos (b.0 / w) = ap (λ t. int_div_euclid t (pos w)) b.1 in (
      e ∙ ap (λ t. pos (nat_abs t)) (sym e),
      (let P : ℤ → ℤ → Type 0 = λ s t. nat_abs s < nat_abs t + 1 in let Q : ℤ → Type 0 = P (pos (a.0 / w)) in let R : ℤ → Type 0 = λ t. P t (steps low w high) in subst R (sym e) (subst Q (sym f) (fewer a.0 b.0 w p (below a.0 b.0 a.1 b.1 h)))),
    )
  where
    chain : low ≤ℤ x → x ≤ℤ high → low ≤ℤ high
    chain l h = omega (arith, linear)

    below : (a b : ℕ) → x -ℤ low ≡ pos a → high -ℤ low ≡ pos b → x ≤ℤ high → a ≤ b
    below a b e f h = omega (arith, ints)

-- ---- parity
parity_in_strip : (all : List Edge) (s : StripedLayer) (z : Point) (m : ℤ) (j : ℕ) → IsStriped all s → j < length s.edges → IsInStrip s.strips j m → IsNear z m → parity (get_or s.edges j []) z ≡ parity all z
parity_in_strip all s z m j t h i near = ap is_odd (count_chosen over (slice_get all) 0 all strip.numbers (get_or s.edges j []) (from_ascending 0 strip.numbers (λ k g. least k) strip.ascending) (λ k. ap (slice_get all) (zero-add k)) strip.are has)
  where
    over : Edge → Bool
    over e = covers e z && lies_above e z

    least : (k : ℕ) → 0 ≤ k
    least k = omega arith

    strip : AreInStrip s.strips j all (get_or s.edges j [])
    strip = t.each j h

    has : (k : ℕ) (e : Edge) → slice_get all k ≡ Some e → over e ≡ true → In (0 + k) strip.numbers
    has k e f g = let c = covers_near e z m near (and_both (covers e z) (lies_above e z) g).0 in
        let P : ℕ → Type 0 = λ n. In n strip.numbers in subst P (sym (zero-add k)) (contains_in strip.numbers k ((strip.exact k).1 (e, f, (m, c.0, c.1, i))))

parity_at : (all : List Edge) (s : StripedLayer) (e : Edge) (z : Point) → IsStriped all s → s.strips.low ≤ℤ e.p.x → e.q.x ≤ℤ s.strips.high → IsNear z (int_div_euclid (e.p.x +ℤ e.q.x) (pos 2)) → parity (edges_at s e) z ≡ parity all z
parity_at all s e z t l r near =
    let m : ℤ = int_div_euclid (e.p.x +ℤ e.q.x) (pos 2) in
    let o : e.p.x ≤ℤ e.q.x = e.ordered.column in
    let n = in_a_strip s.strips.low s.strips.high m s.strips.width t.wide (from_left s.strips.low e.p.x e.q.x m l o (half_high (e.p.x +ℤ e.q.x))) (to_right s.strips.high e.p.x e.q.x m r o (half_low (e.p.x +ℤ e.q.x))) in
    parity_in_strip all s z m (strip_at s e) t (let P : ℕ → Type 0 = λ k. strip_at s e < k in subst P (sym t.count) n.1) n.0 near

-- ---- the directions
turned_limit : (u v : Pt) → AreInLimit u v → AreInLimit v u
turned_limit u v h = record { a_in = h.b_in; b_in = h.a_in }

plus_turned : (a b : ℤ) → a +ℤ b ≡ b +ℤ a
plus_turned a b = omega (arith, linear)

-- asked over the strips, an edge has the directions that it has over all edges
pub ways_in_strips : (op : Op) (odd : OddLayers) (a b : StripedLayer) (e : Edge) → IsStriped odd.a a → IsStriped odd.b b → IsSpanned a e × IsSpanned b e → AreInLimit e.p e.q → both_ways op (layers_at a b e) e ≡ both_ways op odd e
ways_in_strips op odd a b e ta tb r h = λ i. (bounds_at i, turned_at i)
  where
    m : ℤ
    m = int_div_euclid (e.p.x +ℤ e.q.x) (pos 2)

    low : (m +ℤ m) ≤ℤ (e.p.x +ℤ e.q.x)
    low = half_low (e.p.x +ℤ e.q.x)

    high : (e.p.x +ℤ e.q.x) ≤ℤ ((m +ℤ m) +ℤ pos 1)
    high = half_high (e.p.x +ℤ e.q.x)

    near : IsNear (left_side e.p e.q) m
    near = near_side e.p e.q m h low high

    near_back : IsNear (left_side e.q e.p) m
    near_back = near_side e.q e.p m (turned_limit e.p e.q h) (let P : ℤ → Type 0 = λ t. (m +ℤ m) ≤ℤ t in subst P (plus_turned e.p.x e.q.x) low) (let P : ℤ → Type 0 = λ t. t ≤ℤ ((m +ℤ m) +ℤ pos 1) in subst P (plus_turned e.p.x e.q.x) high)

    at : (z : Point) → IsNear z m → holds_in op (layers_at a b e) z ≡ holds_in op odd z
    at z n = λ i. holds op (parity_at odd.a a e z ta r.0.left r.0.right n i) (parity_at odd.b b e z tb r.1.left r.1.right n i)

    right : holds_in op (layers_at a b e) (right_side e.p e.q) ≡ holds_in op odd (right_side e.p e.q)
    right = at (right_side e.p e.q) (let P : Point → Type 0 = λ z. IsNear z m in subst P (sym (right_is_left e.p e.q)) near_back)

    right_back : holds_in op (layers_at a b e) (right_side e.q e.p) ≡ holds_in op odd (right_side e.q e.p)
    right_back = at (right_side e.q e.p) (let P : Point → Type 0 = λ z. IsNear z m in subst P (sym (right_is_left e.q e.p)) near)

    bounds_at : bounds op (layers_at a b e) e.p e.q ≡ bounds op odd e.p e.q
    bounds_at = λ i. at (left_side e.p e.q) near i && not (right i)

    turned_at : bounds op (layers_at a b e) e.q e.p ≡ bounds op odd e.q e.p
    turned_at = λ i. at (left_side e.q e.p) near_back i && not (right_back i)

pub all_ways : (op : Op) (odd : OddLayers) (a b : StripedLayer) (counted : List Counted) → IsStriped odd.a a → IsStriped odd.b b → All (λ c. IsSpanned a c.edge × IsSpanned b c.edge) counted → All (λ c. AreInLimit c.edge.p c.edge.q) counted
    → map (λ c. both_ways op (layers_at a b c.edge) c.edge) counted ≡ map (λ c. both_ways op odd c.edge) counted
all_ways op odd a b [] ta tb r h = refl
all_ways op odd a b (c ∷ cs) ta tb r h = λ i. ways_in_strips op odd a b c.edge ta tb (All-head (λ c. IsSpanned a c.edge × IsSpanned b c.edge) c cs r) (All-head (λ c. AreInLimit c.edge.p c.edge.q) c cs h) i
    ∷ all_ways op odd a b cs ta tb (All-tail (λ c. IsSpanned a c.edge × IsSpanned b c.edge) c cs r) (All-tail (λ c. AreInLimit c.edge.p c.edge.q) c cs h) i
