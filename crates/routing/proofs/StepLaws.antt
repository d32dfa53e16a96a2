-- Steps along a segment: they tell the order of the pixels that it meets, and fit.
use Rattle.std.proofs.Common.{◌≡◌, ℕ, ◌+◌, ◌<◌, ◌^◌, sym, ap, ◌∙◌, arith, ⊎_elim}
use Rattle.std.proofs.Math.IntN.{ℤ, pos, ◌+ℤ◌, ◌-ℤ◌, nat_abs}
use Rattle.std.specs.Prelude.{◌<ℤ◌, unsigned_abs}
use Rattle.std.proofs.lemmas.Int.{ints}
use Rattle.geom.specs.declared.point.Pt.{Pt}
use Rattle.geom.specs.declared.segment.Seg.{Seg}
use Rattle.geom.specs.Route.{Meets, IsEarlier}
use Rattle.geom.specs.Limit.{InLimit, AreInLimit, IsWithin, coordinate_limit}
use Rattle.geom.proofs.Pixels.{piece, meets_in}
use Rattle.geom.proofs.Same.{decide_same, whole_path}
use Rattle.geom.proofs.Along.{ordered, sized}
use Rattle.geom.proofs.Routes as routes
use Rattle.geom.proofs.RouteLaws.{earlier_by_steps}
use Rattle.geom.proofs.Orders.{clash_same}
use Rattle.routing.specs.Steps.{steps_to}

-- the number of steps, as a natural and as a whole number
same_steps : (s : Seg) (c : Pt) → pos (steps_to s c) ≡ routes.steps (piece s) c
same_steps s c = core (nat_abs (c.x -ℤ s.a.x)) (nat_abs (c.y -ℤ s.a.y))
  where
    core : (m n : ℕ) → pos (m + n) ≡ pos m +ℤ pos n
    core m n = omega (arith, ints)

pub earlier_from_steps : (s : Seg) (c e : Pt) → Meets s c → Meets s e → steps_to s c < steps_to s e → IsEarlier s c e
earlier_from_steps s c e h k l = earlier_by_steps s c e h k (below (steps_to s c) (steps_to s e) l (same_steps s c) (same_steps s e))
  where
    below : (m n : ℕ) {x y : ℤ} → m < n → pos m ≡ x → pos n ≡ y → x <ℤ y
    below m n {x} {y} l e f = omega (arith, ints)

pub same_from_steps : (s : Seg) (c e : Pt) → Meets s c → Meets s e → steps_to s c ≡ steps_to s e → c ≡ e
same_from_steps s c e h k l = ⊎_elim whole_path
    (λ n. absurd (⊎_elim
    (λ b. clash_same (routes.steps_grow (piece s) c e (meets_in s c h) (meets_in s e k) b) level)
    (λ b. clash_same (routes.steps_grow (piece s) e c (meets_in s e k) (meets_in s c h) b) (sym level))
    (ordered (piece s) c e n (meets_in s c h) (meets_in s e k))))
    (decide_same c e)
  where
    level : routes.steps (piece s) c ≡ routes.steps (piece s) e
    level = sym (same_steps s c) ∙ ap pos l ∙ same_steps s e

small : (a c : ℤ) → IsWithin coordinate_limit a → IsWithin coordinate_limit c → unsigned_abs (c -ℤ a) < 2 ^ 30
small a c h k = omega (arith, sized)

pub steps_small : (s : Seg) (c : Pt) → AreInLimit s.a s.b → InLimit c → (unsigned_abs (c.x -ℤ s.a.x) < 2 ^ 30) × (unsigned_abs (c.y -ℤ s.a.y) < 2 ^ 30)
steps_small s c l h = (small s.a.x c.x l.a_in.x_in h.x_in, small s.a.y c.y l.a_in.y_in h.y_in)
