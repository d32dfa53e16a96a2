-- The steps round rings, as a walk over the points adds them.
use Rattle.std.proofs.Common.{◌≡◌, ◌∙◌, ℕ, zero, suc, ◌+◌, ◌-◌, ◌<◌, ◌≤◌, List, [], ◌∷◌, ◌++◌, append_assoc, map, length, take, get_or, refl, sym, ap, arith}
use Rattle.std.specs.List.{filter, flat_map}
use Rattle.std.specs.Prelude.{not}
use Rattle.std.proofs.lemmas.List.{append-nil, take_more, map-append}
use Rattle.std.proofs.lemmas.List.Elements.{filter-append}
use Rattle.std.proofs.lemmas.Grind.{flat_map-append}
use Rattle.geom.specs.declared.point.Pt.{Pt}
use Rattle.geom.specs.declared.segment.Seg.{Seg}
use Rattle.geom.specs.declared.segment.Source.{Source}
use Rattle.geom.specs.Segments.{neighbours, parts, ring_steps, same_point, tagged}
use Rattle.layers.specs.Segments.{HasSteps, proper}

proper-append : (layer : Source) (xs ys : List (Pt × Pt)) → proper layer (xs ++ ys) ≡ proper layer xs ++ proper layer ys
proper-append layer xs ys =
    ap (map (tagged layer)) (filter-append (λ step. not (same_point step.0 step.1)) xs ys)
    ∙ map-append (tagged layer) (filter (λ step. not (same_point step.0 step.1)) xs) (filter (λ step. not (same_point step.0 step.1)) ys)

-- ---- steps that were added

pub no_steps : (layer : Source) (old : List Seg) → HasSteps layer [] old old
no_steps layer old = sym (append-nil (map parts old))

pub more_steps : (layer : Source) (xs ys : List (Pt × Pt)) (old mid new : List Seg) → HasSteps layer xs old mid → HasSteps layer ys mid new → HasSteps layer (xs ++ ys) old new
more_steps layer xs ys old mid new h k =
    k ∙ ap (λ t. t ++ proper layer ys) h ∙ append_assoc (map parts old) (proper layer xs) (proper layer ys) ∙ ap (λ t. map parts old ++ t) (sym (proper-append layer xs ys))

-- ---- neighbours

front_more : (ps : List Pt) (i : ℕ) (d : Pt) → suc i < length ps → neighbours (take (suc (suc i)) ps) ≡ neighbours (take (suc i) ps) ++ (get_or ps i d, get_or ps (suc i) d) ∷ []
front_more [] i d h = absurd (omega arith)
front_more (a ∷ []) i d h = absurd (omega arith)
front_more (a ∷ b ∷ ps) zero d h = refl
front_more (a ∷ b ∷ ps) (suc i) d h = ap (λ t. (a, b) ∷ t) (front_more (b ∷ ps) i d (omega arith))

-- one point more
pub next_step : (ps : List Pt) (i : ℕ) (d : Pt) → 1 ≤ i → i < length ps → neighbours (take (i + 1) ps) ≡ neighbours (take i ps) ++ (get_or ps (i - 1) d, get_or ps i d) ∷ []
next_step ps zero d h k = absurd (omega arith)
next_step ps (suc i) d h k =
    let e : suc i + 1 ≡ suc (suc i) = omega arith in
    let f : suc i - 1 ≡ i = omega arith in
    ap (λ n. neighbours (take n ps)) e ∙ front_more ps i d k ∙ ap (λ n. neighbours (take (suc i) ps) ++ (get_or ps n d, get_or ps (suc i) d) ∷ []) (sym f)

then_last : (a : Pt) (ps : List Pt) (z d : Pt) → neighbours (a ∷ ps ++ z ∷ []) ≡ neighbours (a ∷ ps) ++ (get_or (a ∷ ps) (length ps) d, z) ∷ []
then_last a [] z d = refl
then_last a (b ∷ ps) z d = ap (λ t. (a, b) ∷ t) (then_last b ps z d)

-- back to the first point
pub closing_step : (ps : List Pt) (d : Pt) → 1 ≤ length ps → ring_steps ps ≡ neighbours ps ++ (get_or ps (length ps - 1) d, get_or ps 0 d) ∷ []
closing_step [] d h = absurd (omega arith)
closing_step (a ∷ ps) d h =
    let e : suc (length ps) - 1 ≡ length ps = omega arith in
    then_last a ps a d ∙ ap (λ n. neighbours (a ∷ ps) ++ (get_or (a ∷ ps) n d, a) ∷ []) (sym e)

-- one ring more
pub rings_more : (rings : List (List Pt)) (i : ℕ) (d : List Pt) → i < length rings → flat_map ring_steps (take (i + 1) rings) ≡ flat_map ring_steps (take i rings) ++ ring_steps (get_or rings i d)
rings_more rings i d h =
    ap (flat_map ring_steps) (take_more rings i d h) ∙ flat_map-append ring_steps (take i rings) (get_or rings i d ∷ [])
    ∙ ap (λ t. flat_map ring_steps (take i rings) ++ t) (append-nil (ring_steps (get_or rings i d)))
