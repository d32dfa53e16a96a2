use Rattle.std.proofs.Common.{◌≡◌, ◌<◌, ◌^◌, w32, w64, to_z, of_z, subst, arith, ◌∙◌, ap}
use Rattle.std.proofs.Math.IntN.{ℤ, pos, neg_ℤ, ◌+ℤ◌, ◌*ℤ◌}
use Rattle.std.specs.Prelude.{◌≤ℤ◌, int_le, int_lt, true, false}
use Rattle.std.proofs.lemmas.Int.{ints}
use lib.Signed.{mag}
use mir.Syntax.{w128}
use Rattle.geom.specs.Limit.{IsWithin, coordinate_limit}
use Rattle.geom.specs.Determinant.{determinant}
use Rattle.geom.proofs.Along.{size}
use Rattle.geom.proofs.Integers.{linear}
use Rattle.geom.proofs.Tests.{le_yes}
use Rattle.hot_region.proofs.NearLaws.{times_within}
use Rattle.hot_region.proofs.ReachLaws.{reach_in_columns}
use Rattle.hot_region.proofs.reach.may_come_behind.Goals as goal

back32 : (r : ℤ) → mag r < 2 ^ 31 → to_z w32 (of_z w32 r) ≡ r
back32 r h = omega (arith, ints)

back64 : (r : ℤ) → mag r < 2 ^ 63 → to_z w64 (of_z w64 r) ≡ r
back64 r h = omega (arith, ints)

back128 : (r : ℤ) → mag r < 2 ^ 127 → to_z w128 (of_z w128 r) ≡ r
back128 r h = omega (arith, ints)

small : (r : ℤ) → IsWithin (2 ^ 29) r → to_z w64 (of_z w64 r) ≡ r
small r h = let a = h.low in let b = h.high in omega (arith, ints)

bounded : (r : ℤ) → IsWithin (2 ^ 61) r → to_z w64 (of_z w64 r) ≡ r
bounded r h = let a = h.low in let b = h.high in omega (arith, ints)

off : (r : ℤ) → IsWithin (2 ^ 59) r → to_z w64 (of_z w64 r) ≡ r
off r h = let a = h.low in let b = h.high in omega (arith, ints)

from : (l x : ℤ) → IsWithin coordinate_limit l → l ≤ℤ x → to_z w32 (of_z w32 l) ≤ℤ x
from l x h k = let a = h.low in let b = h.high in omega (arith, ints)

to : (g x : ℤ) → IsWithin coordinate_limit g → x ≤ℤ g → x ≤ℤ to_z w32 (of_z w32 g)
to g x h k = let a = h.low in let b = h.high in omega (arith, ints)

not_back : (d e : ℤ) → e ≡ d → int_lt e (pos 0) ≡ false → pos 0 ≤ℤ d
not_back d e i h = omega (arith, ints)

told : (a b c d : ℤ) → a ≡ c → b ≡ d → c ≤ℤ d → int_le a b ≡ true
told a b c d e f h = le_yes a b (omega (arith, linear))

all_three : (m x y z a b c : ℤ) → m ≡ (x +ℤ y) +ℤ z → x ≡ a → y ≡ b → z ≡ c → m ≡ (a +ℤ b) +ℤ c
all_three m x y z a b c e f g h = omega (arith, linear)

wide29 : (r : ℤ) → IsWithin (2 ^ 29) r → IsWithin (2 ^ 60) r
wide29 r h = let a = h.low in let b = h.high in record { low = omega (arith, ints); high = omega (arith, ints) }

wide59 : (r e : ℤ) → r ≡ e → IsWithin (2 ^ 59) r → IsWithin (2 ^ 60) e
wide59 r e i h = let a = h.low in let b = h.high in record { low = omega (arith, ints); high = omega (arith, ints) }

wide32 : (r : ℤ) → mag r < 2 ^ 31 → IsWithin (2 ^ 60) r
wide32 r h = record { low = omega (arith, ints); high = omega (arith, ints) }

wide_size : (r : ℤ) → IsWithin (2 ^ 29) r → IsWithin (2 ^ 60) (size r)
wide_size r h = let a = h.low in let b = h.high in record { low = omega (arith, ints); high = omega (arith, ints) }

wide30 : (r : ℤ) → IsWithin (2 ^ 30) r → IsWithin (2 ^ 60) r
wide30 r h = let a = h.low in let b = h.high in record { low = omega (arith, ints); high = omega (arith, ints) }

product_in : (u v : ℤ) → IsWithin (2 ^ 60) u → IsWithin (2 ^ 60) v → IsWithin (2 ^ 120) (u *ℤ v)
product_in u v h k = let r = times_within u v (pos (2 ^ 60)) (pos (2 ^ 60)) h.low h.high k.low k.high in at (u *ℤ v) r.0 r.1
  where
    at : (w : ℤ) → neg_ℤ (pos (2 ^ 120)) ≤ℤ w → w ≤ℤ pos (2 ^ 120) → IsWithin (2 ^ 120) w
    at w a b = record { low = omega (arith, ints); high = omega (arith, ints) }

sum_back : (m a b c : ℤ) → m ≡ (a +ℤ b) +ℤ c → IsWithin (2 ^ 120) a → IsWithin (2 ^ 120) b → IsWithin (2 ^ 120) c → to_z w128 (of_z w128 m) ≡ m
sum_back m a b c e h k l =
    let hl = h.low in
    let hh = h.high in
    let kl = k.low in
    let kh = k.high in
    let ll = l.low in
    let lh = l.high in
    omega (arith, ints)

pub returns-in-Some : goal.returns-in-Some
returns-in-Some c = λ p inside behind met.
    let wall = c.args.wall.now in
    let line = c.args.line.now in
    let run = c.vector_to-run.result in
    let u = wall.run.dx in
    let d = run.dx in
    let f = run.dy in
    let x = c.greatest_times-x.result in
    let drift = determinant u wall.run.dy d f in
    let du = small u wall.run.dx_small in
    let dd = small d run.dx_small in
    let turned = off c.determinant-drift.result c.determinant-drift.ensures.small ∙ c.determinant-drift.ensures.value in
    let most = subst (λ (g : ℤ). (g *ℤ p.x) ≤ℤ (g *ℤ x)) turned (c.greatest_times-x.ensures.greatest p.x (from _ _ c.requires.rect_in.a_in.x_in inside.left) (to _ _ c.requires.rect_in.b_in.x_in inside.right)) in
    let h = c.half.result in
    let spans = back64 c.span.result c.span.type_inv ∙ c.span.ensures.value in
    let here = reach_in_columns line p met d f c.vector_to-run.ensures.dx c.vector_to-run.ensures.dy u wall.run.dy wall.bound x h (subst (λ (n : ℤ). n ≤ℤ ((h +ℤ h) +ℤ pos 1)) spans c.half.ensures.rounded) (not_back d _ dd c.if-run-lt0.false) behind.from most in
    let left = back128 c.wide_product.result c.wide_product.type_inv ∙ c.wide_product.ensures ∙ ap (λ (n : ℤ). n *ℤ to_z w64 (of_z w64 wall.bound)) dd ∙ ap (λ (n : ℤ). d *ℤ n) (bounded wall.bound wall.bound_small) in
    let level = back128 c.wide_product-level.result c.wide_product-level.type_inv ∙ c.wide_product-level.ensures ∙ ap (λ (n : ℤ). n *ℤ to_z w64 (of_z w64 c.offset.result)) du ∙ ap (λ (n : ℤ). u *ℤ n) (off c.offset.result c.offset.ensures.small ∙ c.offset.ensures.value) in
    let aside = back128 c.wide_product-aside.result c.wide_product-aside.type_inv ∙ c.wide_product-aside.ensures ∙ ap (λ (n : ℤ). n *ℤ to_z w64 (of_z w64 c.from.result)) turned ∙ ap (λ (n : ℤ). drift *ℤ n) (back64 c.from.result c.from.type_inv ∙ c.from.ensures ∙ back32 x c.greatest_times-x.type_inv) in
    let slack = back128 c.wide_product-slack.result c.wide_product-slack.type_inv ∙ c.wide_product-slack.ensures ∙ ap (λ (n : ℤ). n *ℤ to_z w64 (of_z w64 c.half.result)) (back64 c.abs.result c.abs.type_inv ∙ c.abs.ensures.value ∙ ap size du) ∙ ap (λ (n : ℤ). size u *ℤ n) (back64 h c.half.type_inv) in
    let sum = all_three _ _ _ _ _ _ _ c.in-Some.ensures level aside slack in
    let first = u *ℤ determinant d f line.p.x line.p.y in
    let second = drift *ℤ x in
    let third = size u *ℤ h in
    let room = sum_back c.in-Some.most first second third sum
    (product_in u (determinant d f line.p.x line.p.y) (wide29 u wall.run.dx_small) (wide59 c.offset.result (determinant d f line.p.x line.p.y) c.offset.ensures.value c.offset.ensures.small))
    (product_in drift x (wide59 c.determinant-drift.result drift c.determinant-drift.ensures.value c.determinant-drift.ensures.small) (wide32 x c.greatest_times-x.type_inv))
    (product_in (size u) h (wide_size u wall.run.dx_small) (wide30 h c.half.ensures.small)) in
    told _ _ _ _ left (room ∙ sum) here
