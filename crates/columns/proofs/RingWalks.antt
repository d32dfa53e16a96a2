-- Walks over the points of rings as they are written.
use Rattle.std.proofs.Common.{◌≡◌, ◌∙◌, ℕ, zero, suc, ◌+◌, ◌-◌, ◌≤◌, ◌<◌, Bool, true, false, cond, List, [], ◌∷◌, ◌++◌, append_assoc, length, get_or, map, take, drop, refl, sym, ap, subst, arith}
use Rattle.std.specs.Prelude.{filter, not, slice_range}
use Rattle.std.specs.List.{flat_map}
use Rattle.std.proofs.lemmas.Grind.{flat_map-append}
use Rattle.std.proofs.lemmas.List.{append-nil, get_or-drop, length-append, length-drop, map-append}
use Rattle.std.proofs.lemmas.List.Elements.{filter-append}
use Rattle.geom.specs.Segments.{layer_steps, neighbours, parts, ring_steps, same_point, tagged}
use Rattle.geom.specs.declared.point.Pt.{Pt}
use Rattle.geom.specs.declared.segment.Seg.{Seg}
use Rattle.geom.specs.declared.segment.Source.{Source}
use Rattle.geom.proofs.Points.{same_point_true}
use Rattle.wkt.specs.Refusals.{is_closed, last_of}
use Rattle.columns.specs.declared.layout.Columns.{Columns}
use Rattle.columns.specs.Layout.{plain, plain_ring, points_of}
use Rattle.columns.specs.Reach.{IsSoundRing, first_point_of, rings_between}
use Rattle.columns.specs.Segments.{HasSteps}
use Rattle.columns.proofs.Lists.{length_slice}
use Rattle.columns.proofs.Reached.{rings_next}

abbrev pub differ : Pt × Pt → Bool
differ step = not (same_point step.0 step.1)

-- ---- neighbours, from point to point

front_more : (ps : List Pt) (i : ℕ) (d : Pt) → suc i < length ps → neighbours (take (suc (suc i)) ps) ≡ neighbours (take (suc i) ps) ++ (get_or ps i d, get_or ps (suc i) d) ∷ []
front_more [] i d h = absurd (omega (arith, h))
front_more (a ∷ []) i d h = absurd (omega (arith, h))
front_more (a ∷ b ∷ ps) zero d h = refl
front_more (a ∷ b ∷ ps) (suc i) d h = ap (λ t. (a, b) ∷ t) (front_more (b ∷ ps) i d (omega (arith, h)))

-- one point more of those from one to another
pub step_more : (ps : List Pt) (from end next before : ℕ) (d : Pt) → from < end → end < length ps → next ≡ end + 1 → before + 1 ≡ end
    → neighbours (slice_range ps from next) ≡ neighbours (slice_range ps from end) ++ (get_or ps before d, get_or ps end d) ∷ []
step_more ps from end next before d low high after is =
    let i = before - from in
    let qs = drop from ps in
    let long : length qs ≡ length ps - from = length-drop from ps in
    let a : next - from ≡ suc (suc i) = omega (arith, low, after, is) in
    let b : end - from ≡ suc i = omega (arith, low, is) in
    let e : from + i ≡ before = omega (arith, low, is) in
    let f : from + suc i ≡ end = omega (arith, low, is) in
    ap (λ n. neighbours (take n qs)) a
    ∙ front_more qs i d (omega (arith, long, high, low, is))
    ∙ ap (λ n. neighbours (take n qs) ++ (get_or qs i d, get_or qs (suc i) d) ∷ []) (sym b)
    ∙ ap (λ p. neighbours (slice_range ps from end) ++ (p, get_or qs (suc i) d) ∷ []) (get_or-drop from ps i d ∙ ap (λ n. get_or ps n d) e)
    ∙ ap (λ p. neighbours (slice_range ps from end) ++ (get_or ps before d, p) ∷ []) (get_or-drop from ps (suc i) d ∙ ap (λ n. get_or ps n d) f)

short_front : (ps : List Pt) → neighbours (take 1 ps) ≡ []
short_front [] = refl
short_front (a ∷ ps) = refl

-- a single point has no neighbour
pub no_step : (ps : List Pt) (from : ℕ) → neighbours (slice_range ps from (from + 1)) ≡ []
no_step ps from =
    let e : from + 1 - from ≡ 1 = omega arith in
    ap (λ n. neighbours (take n (drop from ps))) e ∙ short_front (drop from ps)

-- ---- the ends of a ring

last_at : (p : Pt) (ps : List Pt) (d : Pt) → last_of p ps ≡ get_or (p ∷ ps) (length ps) d
last_at p [] d = refl
last_at p (q ∷ qs) d = last_at q qs d

-- whether a ring is closed, by its first and its last point
pub closed_by_ends : (ps : List Pt) (from past last : ℕ) (d : Pt) → from < past → past ≤ length ps → last + 1 ≡ past → is_closed (slice_range ps from past) ≡ same_point (get_or ps from d) (get_or ps last d)
closed_by_ends ps from past last d low high is = by_ends (slice_range ps from past) refl
  where
    at_end : (xs : List Pt) (n i : ℕ) → i < n → get_or (take n xs) i d ≡ get_or xs i d
    at_end xs zero i h = absurd (omega (arith, h))
    at_end [] (suc n) i h = refl
    at_end (x ∷ xs) (suc n) zero h = refl
    at_end (x ∷ xs) (suc n) (suc i) h = at_end xs n i (omega (arith, h))

    end_is : get_or (slice_range ps from past) (past - from - 1) d ≡ get_or ps last d
    end_is =
        let e : from + (past - from - 1) ≡ last = omega (arith, low, is) in
        at_end (drop from ps) (past - from) (past - from - 1) (omega (arith, low)) ∙ get_or-drop from ps (past - from - 1) d ∙ ap (λ n. get_or ps n d) e

    first_is : get_or (slice_range ps from past) 0 d ≡ get_or ps from d
    first_is =
        let e : from + 0 ≡ from = omega arith in
        at_end (drop from ps) (past - from) 0 (omega (arith, low)) ∙ get_or-drop from ps 0 d ∙ ap (λ n. get_or ps n d) e

    by_ends : (ring : List Pt) → slice_range ps from past ≡ ring → is_closed (slice_range ps from past) ≡ same_point (get_or ps from d) (get_or ps last d)
    by_ends [] e = let k = ap length e in let l = length_slice ps from past high in absurd (omega (arith, k, l, low))
    by_ends (p ∷ rest) e =
        let long = sym (ap length e) ∙ length_slice ps from past high in
        let k : length rest ≡ past - from - 1 = omega (arith, long) in
        let first : p ≡ get_or ps from d = sym (ap (λ t. get_or t 0 d) e) ∙ first_is in
        let end : last_of p rest ≡ get_or ps last d = last_at p rest d ∙ ap (λ n. get_or (p ∷ rest) n d) k ∙ sym (ap (λ t. get_or t (past - from - 1) d) e) ∙ end_is in
        ap is_closed e ∙ ap (λ q. same_point p q) end ∙ ap (λ q. same_point q (get_or ps last d)) first

-- ---- the steps of a ring

rebuilt : (p : Pt) (ps : List Pt) → take (length ps) (p ∷ ps) ++ last_of p ps ∷ [] ≡ p ∷ ps
rebuilt p [] = refl
rebuilt p (q ∷ qs) = ap (λ x. p ∷ x) (rebuilt q qs)

-- those of a closed ring without its last point are the neighbours in the ring
pub closed_steps : (ring : List Pt) → 4 ≤ length ring → is_closed ring ≡ true → ring_steps (plain_ring ring) ≡ neighbours ring
closed_steps [] h e = absurd (omega (arith, h))
closed_steps (p ∷ []) h e = absurd (omega (arith, h))
closed_steps (p ∷ q ∷ qs) h e =
    let n : suc (suc (length qs)) - 1 ≡ suc (length qs) = omega arith in
    ap (λ m. ring_steps (take m (p ∷ q ∷ qs))) n
    ∙ ap (λ z. neighbours (p ∷ (take (length qs) (q ∷ qs) ++ z ∷ []))) (same_point_true p (last_of q qs) e)
    ∙ ap (λ x. neighbours (p ∷ x)) (rebuilt q qs)

pub sound_steps : (ring : List Pt) → IsSoundRing ring → ring_steps (plain_ring ring) ≡ neighbours ring
sound_steps ring h = closed_steps ring h.enough h.closed

pub layer_of_ring : (ring : List Pt) → IsSoundRing ring → layer_steps (plain_ring ring ∷ []) ≡ filter differ (neighbours ring)
layer_of_ring ring h = ap (filter differ) (append-nil (ring_steps (plain_ring ring)) ∙ sound_steps ring h)

-- ---- segments that were added

proper-append : (layer : Source) (xs ys : List (Pt × Pt)) → map (tagged layer) (filter differ (xs ++ ys)) ≡ map (tagged layer) (filter differ xs) ++ map (tagged layer) (filter differ ys)
proper-append layer xs ys = ap (map (tagged layer)) (filter-append differ xs ys) ∙ map-append (tagged layer) (filter differ xs) (filter differ ys)

pub no_steps : (layer : Source) (old : List Seg) → HasSteps layer [] old old
no_steps layer old = sym (append-nil (map parts old))

pub more_steps : (layer : Source) (xs ys : List (Pt × Pt)) (old mid new : List Seg) → HasSteps layer xs old mid → HasSteps layer ys mid new → HasSteps layer (xs ++ ys) old new
more_steps layer xs ys old mid new h k =
    k ∙ ap (λ t. t ++ map (tagged layer) (filter differ ys)) h
    ∙ append_assoc (map parts old) (map (tagged layer) (filter differ xs)) (map (tagged layer) (filter differ ys))
    ∙ ap (λ t. map parts old ++ t) (sym (proper-append layer xs ys))

-- one ring more
pub ring_more : (rings more : List (List Pt)) (ring : List Pt) → more ≡ rings ++ ring ∷ [] → flat_map ring_steps (plain more) ≡ flat_map ring_steps (plain rings) ++ ring_steps (plain_ring ring)
ring_more rings more ring e =
    ap (λ t. flat_map ring_steps (plain t)) e
    ∙ ap (flat_map ring_steps) (map-append plain_ring rings (ring ∷ []))
    ∙ flat_map-append ring_steps (plain rings) (plain_ring ring ∷ [])
    ∙ ap (λ t. flat_map ring_steps (plain rings) ++ t) (append-nil (ring_steps (plain_ring ring)))

-- ---- steps that are counted

one_or_none : (b : Bool) (s : Pt × Pt) → length (cond (not b) (s ∷ []) []) ≡ cond b 0 1
one_or_none true s = refl
one_or_none false s = refl

pub one_at_most : (b : Bool) → cond b 0 1 ≤ 1
one_at_most true = omega arith
one_at_most false = omega arith

pub count_more : (ps : List Pt) (from end next n m : ℕ) (p q : Pt) → from < end → end < length ps → next ≡ end + 1 → ((d : Pt) → p ≡ get_or ps (end - 1) d) → ((d : Pt) → q ≡ get_or ps end d)
    → n ≡ length (filter differ (neighbours (slice_range ps from end))) → m ≡ cond (same_point p q) 0 1 → n + m ≡ length (filter differ (neighbours (slice_range ps from next)))
count_more ps from end next n m p q low high after f g e k =
    let steps = neighbours (slice_range ps from end) in
    let before : end - 1 + 1 ≡ end = omega (arith, low) in
    let all = step_more ps from end next (end - 1) p low high after before in
    let here : (get_or ps (end - 1) p, get_or ps end p) ∷ [] ≡ (p, q) ∷ [] = ap (λ r. (r, get_or ps end p) ∷ []) (sym (f p)) ∙ ap (λ r. (p, r) ∷ []) (sym (g p)) in
    let long : length (filter differ (neighbours (slice_range ps from next))) ≡ length (filter differ steps) + cond (same_point p q) 0 1 =
    ap (λ t. length (filter differ t)) (all ∙ ap (λ t. steps ++ t) here)
    ∙ ap length (filter-append differ steps ((p, q) ∷ []))
    ∙ length-append (filter differ steps) (filter differ ((p, q) ∷ []))
    ∙ ap (λ k. length (filter differ steps) + k) (one_or_none (same_point p q) (p, q)) in
    omega (arith, long, e, k)

-- ---- a walk that adds segments

-- one step more of a ring
pub walk_more : (layer : Source) (ps : List Pt) (from end next : ℕ) (p q : Pt) (old mid new : List Seg) → from < end → end < length ps → next ≡ end + 1 → ((d : Pt) → p ≡ get_or ps (end - 1) d) → ((d : Pt) → q ≡ get_or ps end d)
    → HasSteps layer (neighbours (slice_range ps from end)) old mid → HasSteps layer ((p, q) ∷ []) mid new → HasSteps layer (neighbours (slice_range ps from next)) old new
walk_more layer ps from end next p q old mid new low high after f g h k =
    let steps = neighbours (slice_range ps from end) in
    let before : end - 1 + 1 ≡ end = omega (arith, low) in
    let all = step_more ps from end next (end - 1) p low high after before in
    let here : (get_or ps (end - 1) p, get_or ps end p) ∷ [] ≡ (p, q) ∷ [] = ap (λ r. (r, get_or ps end p) ∷ []) (sym (f p)) ∙ ap (λ r. (p, r) ∷ []) (sym (g p)) in
    subst (λ s. HasSteps layer s old new) (sym (all ∙ ap (λ t. steps ++ t) here)) (more_steps layer steps ((p, q) ∷ []) old mid new h k)

-- none yet
pub walk_none : (layer : Source) (ps : List Pt) (from : ℕ) (old : List Seg) → HasSteps layer (neighbours (slice_range ps from (from + 1))) old old
walk_none layer ps from old = subst (λ s. HasSteps layer s old old) (sym (no_step ps from)) (no_steps layer old)

-- one ring more of those of columns
pub ring_walked : (layer : Source) (c : Columns) (first ring next : ℕ) (from past : ℕ) (old mid new : List Seg) → first ≤ ring → next ≡ ring + 1 → from ≡ first_point_of c ring → past ≡ first_point_of c (ring + 1)
    → IsSoundRing (slice_range (points_of c.points) from past) → HasSteps layer (flat_map ring_steps (plain (rings_between c first ring))) old mid → HasSteps layer (neighbours (slice_range (points_of c.points) from past)) mid new
    → HasSteps layer (flat_map ring_steps (plain (rings_between c first next))) old new
ring_walked layer c first ring next from past old mid new low after e f sound h k =
    let here = slice_range (points_of c.points) from past in
    let more = rings_next c first ring next from past low after e f in
    subst (λ s. HasSteps layer s old new) (sym (ring_more (rings_between c first ring) (rings_between c first next) here more))
    (more_steps layer (flat_map ring_steps (plain (rings_between c first ring))) (ring_steps (plain_ring here)) old mid new h (subst (λ s. HasSteps layer s mid new) (sym (sound_steps here sound)) k))
