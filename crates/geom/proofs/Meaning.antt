-- The laws that show what the definitions mean.
use Rattle.std.proofs.Common.{◌≡◌, ◌≢◌, sym, ap, subst, ◌∙◌, arith, ◌-◌, ◌<◌, List, length, get_or, Some}
use Rattle.std.specs.Prelude.{slice_get}
use Rattle.std.proofs.lemmas.Option.{slice_get-get_or}
use lib.IntN.{ℤ, pos, ◌+ℤ◌, ◌-ℤ◌, ◌*ℤ◌, neg_ℤ}
use lib.Signed.{◌<ℤ◌}
use Rattle.geom.specs.declared.point.Pt.{Pt}
use Rattle.geom.specs.Pixel.{Point, pixel}
use Rattle.geom.specs.OnSegment.{IsOn}
use Rattle.geom.specs.Determinant.{turn}
use Rattle.geom.specs.Laws.{IsInSquare, PixelIsNearest, PixelOfAnyFraction, PixelOfGridPoint, MetPixelsAreInBounds, OrderIsAlongSegment, RouteIsOne, RouteRunsFromEndToEnd, CrossingIsSymmetric, CrossingHasNoDirection}
use Rattle.geom.proofs.Integers.{linear, expand}
use Rattle.geom.proofs.Plane.{RoundsTo, HasPixel}
use Rattle.geom.proofs.Along.{rounds_alike, meets_box}
use Rattle.geom.proofs.Boxes.{box_of_between}
use Rattle.geom.proofs.Pixels.{has_pixel, in_pixel, pixel_is, piece, meets_in}
use Rattle.geom.proofs.RouteLaws.{earlier_by_order, order_by_earlier, one_route, route_starts, route_ends}

-- a segment turned round
turned_on : (n m z d a b : ℤ) → n *ℤ z ≡ d *ℤ (n *ℤ a +ℤ m *ℤ (b -ℤ a)) → n *ℤ z ≡ d *ℤ (n *ℤ b +ℤ (n -ℤ m) *ℤ (a -ℤ b))
turned_on n m z d a b h = let u = simp expand at h in simp expand (omega (arith, linear))

pub on_turned : (a b : Pt) (z : Point) → IsOn a b z → IsOn b a z
on_turned a b z (m, n, t) = (
  n -ℤ m,
  n,
  record {
    ratio = record { positive = t.ratio.positive; from = (let h = t.ratio.to in omega (arith, linear)); to = (let h = t.ratio.from in omega (arith, linear)) };
    x_is = turned_on n m z.x z.n a.x b.x t.x_is;
    y_is = turned_on n m z.y z.n a.y b.y t.y_is;
  },
)

square_of : (z : Point) (c : Pt) → HasPixel z c → IsInSquare z c
square_of z c h = record { left = h.column.from; right = h.column.below; bottom = h.row.from; top = h.row.below }

of_square : (z : Point) (c : Pt) → IsInSquare z c → HasPixel z c
of_square z c h = record { column = record { from = h.left; below = h.right }; row = record { from = h.bottom; below = h.top } }

pub pixel_is_nearest : PixelIsNearest
pixel_is_nearest z c = ((λ e. square_of z c (in_pixel z c e)), (λ h. pixel_is z c (of_square z c h)))

pub pixel_of_any_fraction : PixelOfAnyFraction
pixel_of_any_fraction y z h =
    let k = has_pixel y in
    sym (pixel_is z (pixel y) (record { column = rounds_alike y.x z.x _ y.n z.n y.positive z.positive h.x_is k.column; row = rounds_alike y.y z.y _ y.n z.n y.positive z.positive h.y_is k.row }))

whole_rounds : (n x c : ℤ) → pos 0 <ℤ n → x ≡ n *ℤ c → RoundsTo x n c
whole_rounds n x c p e = record { from = rw e (simp expand (omega (arith, linear))); below = rw e (simp expand (omega (arith, linear))) }

pub pixel_of_grid_point : PixelOfGridPoint
pixel_of_grid_point v z h = pixel_is z v (record { column = whole_rounds z.n z.x v.x z.positive h.x_is; row = whole_rounds z.n z.y v.y z.positive h.y_is })

pub met_pixels_are_in_bounds : MetPixelsAreInBounds
met_pixels_are_in_bounds s c m =
    let b = meets_box (piece s) c (meets_in s c m) in
    box_of_between s.a s.b c b.0 b.1

pub order_is_along_segment : OrderIsAlongSegment
order_is_along_segment s c e m n = ((λ h. order_by_earlier s c e m n h), (λ h. earlier_by_order s c e h))

pub route_is_one : RouteIsOne
route_is_one segments s route other h k = one_route segments s route other h k

read_at : {X : Type 0} (xs : List X) (x : X) (i : _) → i < length xs → get_or xs i x ≡ x → slice_get xs i ≡ Some x
read_at xs x i h e = slice_get-get_or xs i x h ∙ ap (λ y. Some y) e

pub route_runs_from_end_to_end : RouteRunsFromEndToEnd
route_runs_from_end_to_end segments s route i h =
    let f = route_starts segments s route i h in
    (read_at route s.a 0 f.0 f.1, read_at route s.b (length route - 1) (let l = f.0 in omega arith) (route_ends segments s route i h))

turn_back : (a b c d : Pt) → turn c d a b ≡ neg_ℤ (turn a b c d)
turn_back a b c d = simp expand (omega (arith, linear))

turn_round : (a b c d : Pt) → turn b a c d ≡ neg_ℤ (turn a b c d)
turn_round a b c d = simp expand (omega (arith, linear))

not_zero : (x y : ℤ) → y ≡ neg_ℤ x → x ≢ pos 0 → y ≢ pos 0
not_zero x y e n h = n (omega (arith, linear))

pub crossing_is_symmetric : CrossingIsSymmetric
crossing_is_symmetric s t c h = record {
  not_parallel = not_zero (turn s.a s.b t.a t.b) (turn t.a t.b s.a s.b) (turn_back s.a s.b t.a t.b) h.not_parallel;
  z = h.z;
  on_first = h.on_second;
  on_second = h.on_first;
  in_pixel = h.in_pixel;
}

pub crossing_has_no_direction : CrossingHasNoDirection
crossing_has_no_direction s turned t c p q h = record {
  not_parallel = subst (λ (w : Pt). turn turned.a w t.a t.b ≢ pos 0) (sym q) (subst (λ (w : Pt). turn w s.a t.a t.b ≢ pos 0) (sym p) (not_zero (turn s.a s.b t.a t.b) (turn s.b s.a t.a t.b) (turn_round s.a s.b t.a t.b) h.not_parallel));
  z = h.z;
  on_first = subst (λ (w : Pt). IsOn turned.a w h.z) (sym q) (subst (λ (w : Pt). IsOn w s.a h.z) (sym p) (on_turned s.a s.b h.z h.on_first));
  on_second = h.on_second;
  in_pixel = h.in_pixel;
}
