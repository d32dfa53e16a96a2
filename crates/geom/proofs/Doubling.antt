-- A point given with twice the numbers has the same parity; the right side of an edge is the left side of the edge turned round.
use Rattle.std.proofs.Common.{◌≡◌, Bool, List, ◌^◌, refl, sym, ◌∙◌, ap, arith, w32, FitsSigned, to_z, of_z, to_z-of_z}
use Rattle.std.specs.Prelude.{ℤ, pos, ◌+ℤ◌, ◌-ℤ◌, ◌*ℤ◌, ◌&&◌, int_lt, int_le, count_by, not}
use Rattle.std.proofs.lemmas.Int.{ints}
use Rattle.geom.specs.declared.point.Pt.{Pt}
use Rattle.geom.specs.declared.op.Op.{Op}
use Rattle.geom.specs.declared.edge.Edge.{Edge}
use Rattle.geom.specs.Limit.{IsWithin, coordinate_limit}
use Rattle.geom.specs.Pixel.{Point}
use Rattle.geom.specs.Operations.{holds}
use Rattle.geom.specs.Determinant.{determinant}
use Rattle.geom.specs.Parity.{covers, lies_above, parity}
use Rattle.geom.specs.ResultEdges.{left_side, right_side}
use Rattle.geom.specs.Rounded.{is_odd}
use Rattle.geom.proofs.Integers.{expand, linear, mul_assoc}
use Rattle.geom.specs.Double.{IsDouble}
use Rattle.geom.specs.Label.{OddLayers, holds_in, both_ways}

-- ---- tests
le_double : (a b c d : ℤ) → c ≡ pos 2 *ℤ a → d ≡ pos 2 *ℤ b → int_le c d ≡ int_le a b
le_double a b c d h k = grind (arith, ints)

lt_double : (a b c d : ℤ) → c ≡ pos 2 *ℤ a → d ≡ pos 2 *ℤ b → int_lt c d ≡ int_lt a b
lt_double a b c d h k = grind (arith, ints)

scaled : (n m p : ℤ) → m ≡ pos 2 *ℤ n → m *ℤ p ≡ pos 2 *ℤ (n *ℤ p)
scaled n m p h = ap (λ t. t *ℤ p) h ∙ mul_assoc (pos 2) n p

determinant_double : (rx ry x y n px py : ℤ) → determinant rx ry ((pos 2 *ℤ x) -ℤ (pos 2 *ℤ (n *ℤ px))) ((pos 2 *ℤ y) -ℤ (pos 2 *ℤ (n *ℤ py))) ≡ pos 2 *ℤ determinant rx ry (x -ℤ (n *ℤ px)) (y -ℤ (n *ℤ py))
determinant_double rx ry x y n px py = simp expand (omega (arith, linear))

covers_double : (e : Edge) (z w : Point) → IsDouble z w → covers e w ≡ covers e z
covers_double e z w d = (λ i. le_double (z.n *ℤ e.p.x) z.x (w.n *ℤ e.p.x) w.x (scaled z.n w.n e.p.x d.n_is) d.x_is i && lt_double z.x (z.n *ℤ e.q.x) w.x (w.n *ℤ e.q.x) d.x_is (scaled z.n w.n e.q.x d.n_is) i)

above_double : (e : Edge) (z w : Point) → IsDouble z w → lies_above e w ≡ lies_above e z
above_double e z w d = lt_double (determinant (e.q.x -ℤ e.p.x) (e.q.y -ℤ e.p.y) (z.x -ℤ (z.n *ℤ e.p.x)) (z.y -ℤ (z.n *ℤ e.p.y))) (pos 0) (determinant (e.q.x -ℤ e.p.x) (e.q.y -ℤ e.p.y) (w.x -ℤ (w.n *ℤ e.p.x)) (w.y -ℤ (w.n *ℤ e.p.y))) (pos 0)
    (ap (λ t. determinant (e.q.x -ℤ e.p.x) (e.q.y -ℤ e.p.y) (t -ℤ (w.n *ℤ e.p.x)) (w.y -ℤ (w.n *ℤ e.p.y))) d.x_is
    ∙ ap (λ t. determinant (e.q.x -ℤ e.p.x) (e.q.y -ℤ e.p.y) ((pos 2 *ℤ z.x) -ℤ t) (w.y -ℤ (w.n *ℤ e.p.y))) (scaled z.n w.n e.p.x d.n_is)
    ∙ ap (λ t. determinant (e.q.x -ℤ e.p.x) (e.q.y -ℤ e.p.y) ((pos 2 *ℤ z.x) -ℤ (pos 2 *ℤ (z.n *ℤ e.p.x))) (t -ℤ (w.n *ℤ e.p.y))) d.y_is
    ∙ ap (λ t. determinant (e.q.x -ℤ e.p.x) (e.q.y -ℤ e.p.y) ((pos 2 *ℤ z.x) -ℤ (pos 2 *ℤ (z.n *ℤ e.p.x))) ((pos 2 *ℤ z.y) -ℤ t)) (scaled z.n w.n e.p.y d.n_is)
    ∙ determinant_double (e.q.x -ℤ e.p.x) (e.q.y -ℤ e.p.y) z.x z.y z.n e.p.x e.p.y) refl

pub parity_double : (edges : List Edge) (z w : Point) → IsDouble z w → parity edges w ≡ parity edges z
parity_double edges z w d = ap is_odd (λ i. count_by (λ e. covers_double e z w d i && above_double e z w d i) edges)

pub holds_double : (op : Op) (odd : OddLayers) (z w : Point) → IsDouble z w → holds_in op odd w ≡ holds_in op odd z
holds_double op odd z w d = λ i. holds op (parity_double odd.a z w d i) (parity_double odd.b z w d i)

-- ---- sides
plus_minus : (s t u v k : ℤ) → (k *ℤ (s +ℤ t)) +ℤ (pos 2 *ℤ (v -ℤ u)) ≡ (k *ℤ (t +ℤ s)) -ℤ (pos 2 *ℤ (u -ℤ v))
plus_minus s t u v k = simp expand (omega (arith, linear))

minus_plus : (s t u v k : ℤ) → (k *ℤ (s +ℤ t)) -ℤ (pos 2 *ℤ (v -ℤ u)) ≡ (k *ℤ (t +ℤ s)) +ℤ (pos 2 *ℤ (u -ℤ v))
minus_plus s t u v k = simp expand (omega (arith, linear))

pub right_is_left : (u v : Pt) → right_side u v ≡ left_side v u
right_is_left u v i = record { x = plus_minus u.x v.x u.y v.y (pos (2 ^ 64)) i; y = minus_plus u.y v.y u.x v.x (pos (2 ^ 64)) i; n = (left_side v u).n; positive = (left_side v u).positive }

pub both : (op : Op) (odd : OddLayers) (e : Edge) (l r f b : Bool) → l ≡ holds_in op odd (left_side e.p e.q) → r ≡ holds_in op odd (left_side e.q e.p) → f ≡ l && not r → b ≡ r && not l → (f, b) ≡ both_ways op odd e
both op odd e l r f b h k m n i = ((m ∙ (λ j. h j && not ((k ∙ ap (holds_in op odd) (sym (right_is_left e.p e.q))) j))) i, (n ∙ (λ j. k j && not ((h ∙ ap (holds_in op odd) (sym (right_is_left e.q e.p))) j))) i)

-- ---- the probe
pub sum_back : (x y : ℤ) → IsWithin coordinate_limit x → IsWithin coordinate_limit y → to_z w32 (of_z w32 (to_z w32 (of_z w32 x) +ℤ to_z w32 (of_z w32 y))) ≡ x +ℤ y
sum_back x y h k =
    let a : FitsSigned w32 x = omega (arith, ints) in
    let b : FitsSigned w32 y = omega (arith, ints) in
    let c : FitsSigned w32 (x +ℤ y) = omega (arith, ints) in
    simp to_z-of_z

pub difference_back : (x y : ℤ) → IsWithin coordinate_limit x → IsWithin coordinate_limit y → to_z w32 (of_z w32 (to_z w32 (of_z w32 x) -ℤ to_z w32 (of_z w32 y))) ≡ x -ℤ y
difference_back x y h k =
    let a : FitsSigned w32 x = omega (arith, ints) in
    let b : FitsSigned w32 y = omega (arith, ints) in
    let c : FitsSigned w32 (x -ℤ y) = omega (arith, ints) in
    simp to_z-of_z

x_double : (k s u v : ℤ) → ((pos 2 *ℤ k) *ℤ s) -ℤ (pos 2 *ℤ (v -ℤ u)) ≡ pos 2 *ℤ ((k *ℤ s) +ℤ (u -ℤ v))
x_double k s u v = simp expand (omega (arith, linear))

y_double : (k s d : ℤ) → ((pos 2 *ℤ k) *ℤ s) +ℤ (pos 2 *ℤ d) ≡ pos 2 *ℤ ((k *ℤ s) +ℤ d)
y_double k s d = simp expand (omega (arith, linear))

pub left_is_double : (u v : Pt) (x2 y2 dx dy : ℤ) → x2 ≡ u.x +ℤ v.x → y2 ≡ u.y +ℤ v.y → dx ≡ u.y -ℤ v.y → dy ≡ v.x -ℤ u.x
    → ((left_side u v).x ≡ pos 2 *ℤ ((pos (2 ^ 63) *ℤ x2) +ℤ dx)) × ((left_side u v).y ≡ pos 2 *ℤ ((pos (2 ^ 63) *ℤ y2) +ℤ dy))
left_is_double u v x2 y2 dx dy a b c d = (
  x_double (pos (2 ^ 63)) (u.x +ℤ v.x) u.y v.y ∙ (λ i. pos 2 *ℤ ((pos (2 ^ 63) *ℤ sym a i) +ℤ sym c i)),
  y_double (pos (2 ^ 63)) (u.y +ℤ v.y) (v.x -ℤ u.x) ∙ (λ i. pos 2 *ℤ ((pos (2 ^ 63) *ℤ sym b i) +ℤ sym d i)),
)

-- a coordinate in its limit is what a signed word of it holds
pub back : (x : ℤ) → IsWithin coordinate_limit x → to_z w32 (of_z w32 x) ≡ x
back x h = let a : FitsSigned w32 x = omega (arith, ints) in simp to_z-of_z
