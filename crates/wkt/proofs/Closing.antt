-- The segments of closed rings, from point to point, are those of the rings without their last points.
use Rattle.std.proofs.Common.{◌≡◌, ℕ, ◌-◌, ◌≤◌, Bool, true, false, cond, List, [], ◌∷◌, ◌++◌, length, take, Option, Some, None, refl, sym, ap, ◌∙◌, arith}
use Rattle.std.specs.Prelude.{map, filter, not, nat_lt}
use Rattle.std.specs.List.{flat_map}
use Rattle.std.proofs.lemmas.List.{length-map}
use Rattle.std.proofs.lemmas.List.Elements.{filter-append}
use Rattle.std.proofs.lemmas.Bool.Decides.{nat_tests}
use Rattle.geom.specs.declared.point.Pt.{Pt}
use Rattle.geom.specs.declared.fault.Fault.{Fault}
use Rattle.geom.specs.declared.fault.Fault.TheVariants.{RingShort, RingOpen}
use Rattle.geom.specs.Segments.{same_point, neighbours, ring_steps, layer_steps}
use Rattle.geom.proofs.Points.{same_point_true}
use Rattle.wkt.specs.LayerText.{Ring}
use Rattle.wkt.specs.Refusals.{place_of, last_of, is_closed, fault_at, or_else, first_fault, plain}
use Rattle.wkt.proofs.Surveys.{segments_from, segments, all_segments}

abbrev differs : Pt × Pt → Bool
differs step = not (same_point step.0 step.1)

kept : (b : Bool) (x : Pt × Pt) (xs ys : List (Pt × Pt)) → xs ≡ ys → cond b xs (x ∷ xs) ≡ cond (not b) (x ∷ ys) ys
kept true x xs ys e = e
kept false x xs ys e = ap (λ (zs : List (Pt × Pt)). x ∷ zs) e

segments_from-are : (p : Pt) (ps : List Pt) → segments_from p ps ≡ filter differs (neighbours (p ∷ ps))
segments_from-are p [] = refl
segments_from-are p (q ∷ qs) = kept (same_point p q) (p, q) (segments_from q qs) (filter differs (neighbours (q ∷ qs))) (segments_from-are q qs)

segments-are : (ps : List Pt) → segments ps ≡ filter differs (neighbours ps)
segments-are [] = refl
segments-are (p ∷ ps) = segments_from-are p ps

-- the last point behind the others
rebuilt : (p : Pt) (ps : List Pt) → take (length ps) (p ∷ ps) ++ last_of p ps ∷ [] ≡ p ∷ ps
rebuilt p [] = refl
rebuilt p (q ∷ qs) = ap (λ (x : List Pt). p ∷ x) (rebuilt q qs)

closed_steps : (p q : Pt) (qs : List Pt) → same_point p (last_of q qs) ≡ true → ring_steps (take (length (q ∷ qs)) (p ∷ q ∷ qs)) ≡ neighbours (p ∷ q ∷ qs)
closed_steps p q qs e =
    ap (λ (z : Pt). neighbours (p ∷ (take (length qs) (q ∷ qs) ++ z ∷ []))) (same_point_true p (last_of q qs) e)
    ∙ ap (λ (x : List Pt). neighbours (p ∷ x)) (rebuilt q qs)

sound_ring : (b c : Bool) (at : ℕ) → cond b (Some (RingShort at)) (cond c None (Some (RingOpen at))) ≡ None → (b ≡ false) × (c ≡ true)
sound_ring true c at e = absurd cc
sound_ring false true at e = (refl, refl)
sound_ring false false at e = absurd cc

many : (k : ℕ) → nat_lt k 4 ≡ false → 4 ≤ k
many k e = grind (arith, nat_tests)

-- a ring without fault has four points or more
pub enough : (at : ℕ) (ps : List Pt) → fault_at at ps ≡ None → 4 ≤ length ps
enough at ps e = many (length ps) (sound_ring (nat_lt (length ps) 4) (is_closed ps) at e).0

ring_steps-are : (at : ℕ) (ps : List Pt) → fault_at at ps ≡ None → filter differs (ring_steps (take (length ps - 1) ps)) ≡ segments ps
ring_steps-are at [] e = absurd (few (enough at [] e))
  where
    few : 4 ≤ 0 → ⊥
    few h = omega arith
ring_steps-are at (p ∷ []) e = absurd (few (enough at (p ∷ []) e))
  where
    few : 4 ≤ 1 → ⊥
    few h = omega arith
ring_steps-are at (p ∷ q ∷ qs) e =
    let closed : same_point p (last_of q qs) ≡ true = (sound_ring (nat_lt (length (p ∷ q ∷ qs)) 4) (is_closed (p ∷ q ∷ qs)) at e).1 in
    let k : length (p ∷ q ∷ qs) - 1 ≡ length (q ∷ qs) = omega arith in
    ap (λ (n : ℕ). filter differs (ring_steps (take n (p ∷ q ∷ qs)))) k
    ∙ ap (filter differs) (closed_steps p q qs closed)
    ∙ sym (segments-are (p ∷ q ∷ qs))

pub none_first : (a b : Option Fault) → or_else a b ≡ None → (a ≡ None) × (b ≡ None)
none_first None b e = (refl, e)
none_first (Some f) b e = absurd cc

-- the segments of rings without fault
pub layer_steps-are : (rings : List Ring) → first_fault rings ≡ None → layer_steps (plain rings) ≡ all_segments rings
layer_steps-are [] e = refl
layer_steps-are (r ∷ rings) e =
    let ps : List Pt = map place_of r.points in
    let h = none_first (fault_at r.at ps) (first_fault rings) e in
    let n : length r.points ≡ length ps = sym (length-map r.points place_of) in
    filter-append differs (ring_steps (take (length r.points - 1) ps)) (flat_map ring_steps (plain rings))
    ∙ ap (λ (k : ℕ). filter differs (ring_steps (take (k - 1) ps)) ++ layer_steps (plain rings)) n
    ∙ ap (λ (x : List (Pt × Pt)). x ++ layer_steps (plain rings)) (ring_steps-are r.at ps h.0)
    ∙ ap (λ (x : List (Pt × Pt)). segments ps ++ x) (layer_steps-are rings h.1)
