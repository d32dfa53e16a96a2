-- The steps of a route turned round.
use Rattle.std.proofs.Common.{◌≡◌, ◌∙◌, ℕ, ◌+◌, List, [], ◌∷◌, ◌++◌, ◌&&◌, ◌||◌, Bool, true, false, cond, None, Some, Option, refl, ap, arith, reverse}
use Rattle.std.proofs.lemmas.List.{reverse-append}
use Rattle.std.specs.List.{last_or}
use Rattle.std.specs.Prelude.{count_by}
use Rattle.geom.specs.declared.edge.Edge.{Edge}
use Rattle.geom.specs.declared.point.Pt.{Pt}
use Rattle.geom.specs.Rounded.{joins}
use Rattle.geom.specs.Segments.{neighbours, same_point}
use Rattle.geom.proofs.Lists.{count-cons}
use Rattle.strips_law.specs.Strips.{step_over}
use Rattle.strips_law.proofs.Steps.{between, count_append, neighbours_append}

reverse_cons : (a : Pt) (ps : List Pt) → reverse (a ∷ ps) ≡ reverse ps ++ a ∷ []
reverse_cons a ps = reverse-append (a ∷ []) ps

last_is : (o : Option Pt) (b : Pt) (ps : List Pt) → last_or o (ps ++ b ∷ []) ≡ Some b
last_is o b [] = refl
last_is o b (p ∷ ps) = last_is (Some p) b ps

between_is : (a b : Pt) (ps : List Pt) → between (ps ++ b ∷ []) (a ∷ []) ≡ (b, a) ∷ []
between_is a b ps = ap (λ o. step_over o a) (last_is None b ps)

-- an edge is joined by a step in either order
either_order : (p q : Bool) → p || q ≡ q || p
either_order true true = refl
either_order true false = refl
either_order false true = refl
either_order false false = refl

joins_turned : (e : Edge) (a b : Pt) → joins e (b, a) ≡ joins e (a, b)
joins_turned e a b = either_order (same_point e.p b && same_point e.q a) (same_point e.p a && same_point e.q b)

-- turned round, a route has an edge as often
pub steps_turn : (e : Edge) (route : List Pt) → count_by (joins e) (neighbours (reverse route)) ≡ count_by (joins e) (neighbours route)
steps_turn e [] = refl
steps_turn e (a ∷ []) = refl
steps_turn e (a ∷ b ∷ ps) =
    ap (λ (r : List Pt). count_by (joins e) (neighbours r)) (reverse_cons a (b ∷ ps))
    ∙ ap (count_by (joins e)) (neighbours_append (reverse (b ∷ ps)) (a ∷ []))
    ∙ count_append (joins e) (neighbours (reverse (b ∷ ps))) (between (reverse (b ∷ ps)) (a ∷ []) ++ [])
    ∙ ap (λ (over : List (Pt × Pt)). count_by (joins e) (neighbours (reverse (b ∷ ps))) + count_by (joins e) (over ++ [])) over
    ∙ summed (count_by (joins e) (neighbours (reverse (b ∷ ps)))) (count_by (joins e) (neighbours (b ∷ ps))) (count_by (joins e) ((b, a) ∷ [])) (cond (joins e (a, b)) 1 0) (count_by (joins e) ((a, b) ∷ neighbours (b ∷ ps)))
    (steps_turn e (b ∷ ps)) one (count-cons (joins e) (a, b) (neighbours (b ∷ ps)))
  where
    over : between (reverse (b ∷ ps)) (a ∷ []) ≡ (b, a) ∷ []
    over = ap (λ (r : List Pt). between r (a ∷ [])) (reverse_cons b ps) ∙ between_is a b (reverse ps)

    one : count_by (joins e) ((b, a) ∷ []) ≡ cond (joins e (a, b)) 1 0
    one = count-cons (joins e) (b, a) [] ∙ plain (cond (joins e (b, a)) 1 0) ∙ ap (λ (t : Bool). cond t 1 0) (joins_turned e a b)
      where
        plain : (n : ℕ) → n + 0 ≡ n
        plain n = omega arith

    summed : (turned straight last first all : ℕ) → turned ≡ straight → last ≡ first → all ≡ first + straight → turned + last ≡ all
    summed turned straight last first all h k l = omega arith
