-- The parts of features, one feature after another.
use Rattle.std.proofs.Common.{take, ◌≡◌, ◌∙◌, ℕ, suc, ◌+◌, ◌-◌, ◌≤◌, zero-add, List, [], ◌∷◌, ◌++◌, append_assoc, map, length, replicate, refl, sym, ap, arith}
use Rattle.std.specs.List.{filter, flat_map}
use Rattle.std.specs.Prelude.{not, Some, slice_get}
use Rattle.std.proofs.lemmas.List.{append-nil, length-append, length-map, map-append, take_more}
use Rattle.std.proofs.lemmas.Option.{get_or_from_slice_get, slice_get_within}
use Rattle.std.proofs.lemmas.List.Elements.{filter-append}
use Rattle.std.proofs.lemmas.Grind.{flat_map-append}
use Rattle.geom.specs.declared.point.Pt.{Pt}
use Rattle.geom.specs.declared.segment.Seg.{Seg}
use Rattle.geom.specs.declared.segment.Source.{Source}
use Rattle.geom.specs.declared.segment.Source.TheVariants.{A}
use Rattle.geom.specs.Segments.{layer_steps, parts, ring_steps, same_point, tagged}
use Rattle.cover_law.specs.Borders.{AreFeatureSegments, feature_parts, owner_of, part_of, segment_part}
use Rattle.wkt.specs.Features.{all_rings}
use Rattle.layers.specs.FeatureSegments.{HaveOwners, all_features, all_steps, feature_steps}
use Rattle.layers.specs.Segments.{HasSteps}
use Rattle.layers.specs.declared.feature_segments.LayerSize.{LayerSize}

-- ---- features behind others
pub parts_append : (k : ℕ) (fs gs : List (List (List Pt))) → feature_parts k (fs ++ gs) ≡ feature_parts k fs ++ feature_parts (length fs + k) gs
parts_append k [] gs = ap (λ (n : ℕ). feature_parts n gs) (sym (zero-add k))
parts_append k (f ∷ fs) gs =
    ap (λ (ps : List (Pt × Pt × ℕ)). map (part_of k) (layer_steps f) ++ ps) (parts_append (suc k) fs gs ∙ ap (λ (n : ℕ). feature_parts (suc k) fs ++ feature_parts n gs) (shift (length fs) k))
    ∙ sym (append_assoc (map (part_of k) (layer_steps f)) (feature_parts (suc k) fs) (feature_parts (suc (length fs) + k) gs))
  where
    shift : (m n : ℕ) → m + suc n ≡ suc m + n
    shift m n = omega arith

pub parts_snoc : (fs : List (List (List Pt))) (f : List (List Pt)) → feature_parts 0 (fs ++ f ∷ []) ≡ feature_parts 0 fs ++ map (part_of (length fs)) (layer_steps f)
parts_snoc fs f =
    let at : length fs + 0 ≡ length fs = omega arith in
    parts_append 0 fs (f ∷ [])
    ∙ ap (λ (n : ℕ). feature_parts 0 fs ++ feature_parts n (f ∷ [])) at
    ∙ ap (λ (ps : List (Pt × Pt × ℕ)). feature_parts 0 fs ++ ps) (append-nil (map (part_of (length fs)) (layer_steps f)))

-- ---- one feature
as_steps : (k : ℕ) (steps : List (Pt × Pt)) → map segment_part (map (part_of k) steps) ≡ map (tagged A) steps
as_steps k [] = refl
as_steps k (s ∷ ss) = ap (λ (ps : List (Pt × Pt × Source)). tagged A s ∷ ps) (as_steps k ss)

as_owners : (k : ℕ) (steps : List (Pt × Pt)) → map owner_of (map (part_of k) steps) ≡ replicate (length steps) k
as_owners k [] = refl
as_owners k (s ∷ ss) = ap (λ (ks : List ℕ). k ∷ ks) (as_owners k ss)

-- as many owners as segments
pub as_many : (fs : List (List (List Pt))) (segments : List Seg) (owners : List ℕ) → AreFeatureSegments fs segments owners → length owners ≡ length segments
as_many fs segments owners are =
    ap (λ (ks : List ℕ). length ks) are.owners_are
    ∙ length-map (feature_parts 0 fs) owner_of
    ∙ sym (length-map (feature_parts 0 fs) segment_part)
    ∙ ap (λ (ps : List (Pt × Pt × Source)). length ps) (sym are.parts_are)
    ∙ length-map segments parts

-- how many segments were added
pub steps_added : (steps : List (Pt × Pt)) (old new : List Seg) → HasSteps A steps old new → length new ≡ length old + length (filter (λ (step : Pt × Pt). not (same_point step.0 step.1)) steps)
steps_added steps old new h =
    sym (length-map new parts)
    ∙ ap (λ (ps : List (Pt × Pt × Source)). length ps) h
    ∙ length-append (map parts old) (map (tagged A) (filter (λ (step : Pt × Pt). not (same_point step.0 step.1)) steps))
    ∙ ap (λ (n : ℕ). n + length (map (tagged A) (filter (λ (step : Pt × Pt). not (same_point step.0 step.1)) steps))) (length-map old parts)
    ∙ ap (λ (n : ℕ). length old + n) (length-map (filter (λ (step : Pt × Pt). not (same_point step.0 step.1)) steps) (tagged A))

-- one more feature, whose owner is its number
pub one_more : (fs : List (List (List Pt))) (f : List (List Pt)) (old new : List Seg) (owners owned : List ℕ) (owner : ℕ) → AreFeatureSegments fs old owners → length owners ≡ length old
    → owner ≡ length fs → HasSteps A (flat_map ring_steps f) old new → HaveOwners owners (length new) owner owned → AreFeatureSegments (fs ++ f ∷ []) new owned
one_more fs f old new owners owned owner are each is steps own =
    let count = length (layer_steps f) in
    let grown : length new ≡ length old + count = steps_added (flat_map ring_steps f) old new steps in
    let more : length new - length owners ≡ count = omega (arith, grown, each) in
    record {
      parts_are =
          steps
          ∙ ap (λ (ps : List (Pt × Pt × Source)). ps ++ map (tagged A) (layer_steps f)) are.parts_are
          ∙ ap (λ (ps : List (Pt × Pt × Source)). map segment_part (feature_parts 0 fs) ++ ps) (sym (as_steps (length fs) (layer_steps f)))
          ∙ sym (map-append segment_part (feature_parts 0 fs) (map (part_of (length fs)) (layer_steps f)))
          ∙ ap (λ (ps : List (Pt × Pt × ℕ)). map segment_part ps) (sym (parts_snoc fs f));
      owners_are =
          own
          ∙ ap (λ (n : ℕ). owners ++ replicate n owner) more
          ∙ ap (λ (n : ℕ). owners ++ replicate count n) is
          ∙ ap (λ (ks : List ℕ). ks ++ replicate count (length fs)) are.owners_are
          ∙ ap (λ (ks : List ℕ). map owner_of (feature_parts 0 fs) ++ ks) (sym (as_owners (length fs) (layer_steps f)))
          ∙ sym (map-append owner_of (feature_parts 0 fs) (map (part_of (length fs)) (layer_steps f)))
          ∙ ap (λ (ps : List (Pt × Pt × ℕ)). map owner_of ps) (sym (parts_snoc fs f));
    }

pub count_more : (fs : List (List (List Pt))) (f : List (List Pt)) (n : ℕ) → n ≡ length fs → n + 1 ≡ length (fs ++ f ∷ [])
count_more fs f n e = ap (λ (m : ℕ). m + 1) e ∙ sym (length-append fs (f ∷ []))

pub not_fewer : (steps : List (Pt × Pt)) (old new : List Seg) → HasSteps A steps old new → length old ≤ length new
not_fewer steps old new h = let e = steps_added steps old new h in omega (arith, e)

-- ---- how many segments features have
pub rings_append : (fs gs : List (List Pt)) → layer_steps (fs ++ gs) ≡ layer_steps fs ++ layer_steps gs
rings_append fs gs =
    ap (λ (ss : List (Pt × Pt)). filter (λ (step : Pt × Pt). not (same_point step.0 step.1)) ss) (flat_map-append ring_steps fs gs)
    ∙ filter-append (λ (step : Pt × Pt). not (same_point step.0 step.1)) (flat_map ring_steps fs) (flat_map ring_steps gs)

parts_count : (k : ℕ) (fs : List (List (List Pt))) → length (feature_parts k fs) ≡ length (feature_steps fs)
parts_count k [] = refl
parts_count k (f ∷ fs) =
    length-append (map (part_of k) (layer_steps f)) (feature_parts (suc k) fs)
    ∙ ap (λ (n : ℕ). n + length (feature_parts (suc k) fs)) (length-map (layer_steps f) (part_of k))
    ∙ ap (λ (n : ℕ). length (layer_steps f) + n) (parts_count (suc k) fs)
    ∙ sym (length-append (layer_steps f) (feature_steps fs))
    ∙ ap (λ (ss : List (Pt × Pt)). length ss) (sym (rings_append f (all_rings fs)))

pub segments_count : (fs : List (List (List Pt))) (segments : List Seg) (owners : List ℕ) → AreFeatureSegments fs segments owners → length segments ≡ length (feature_steps fs)
segments_count fs segments owners are =
    sym (length-map segments parts)
    ∙ ap (λ (ps : List (Pt × Pt × Source)). length ps) are.parts_are
    ∙ length-map (feature_parts 0 fs) segment_part
    ∙ parts_count 0 fs

pub steps_append : (fs gs : List (List (List Pt))) → length (feature_steps (fs ++ gs)) ≡ length (feature_steps fs) + length (feature_steps gs)
steps_append fs gs =
    ap (λ (rs : List (List Pt)). length (layer_steps rs)) (flat_map-append (λ (rings : List (List Pt)). rings) fs gs)
    ∙ ap (λ (ss : List (Pt × Pt)). length ss) (rings_append (all_rings fs) (all_rings gs))
    ∙ length-append (feature_steps fs) (feature_steps gs)

-- the first features of a layer, and the next one behind others
pub with_next : (others layer : List (List (List Pt))) (i : ℕ) (f : List (List Pt)) → slice_get layer i ≡ Some f → (others ++ take i layer) ++ f ∷ [] ≡ others ++ take (i + 1) layer
with_next others layer i f h = append_assoc others (take i layer) (f ∷ []) ∙ ap (λ (fs : List (List (List Pt))). others ++ fs) (sym (next layer i h))
  where
    next : (fs : List (List (List Pt))) (k : ℕ) → slice_get fs k ≡ Some f → take (k + 1) fs ≡ take k fs ++ f ∷ []
    next fs k e = take_more fs k f (slice_get_within fs k f e) ∙ ap (λ (g : List (List Pt)). take k fs ++ g ∷ []) (get_or_from_slice_get fs k f f e)

-- ---- layers
pub features_snoc : (layers : List (List (List (List Pt)))) (layer : List (List (List Pt))) → all_features (layers ++ layer ∷ []) ≡ all_features layers ++ layer
features_snoc layers layer = flat_map-append (λ (fs : List (List (List Pt))). fs) layers (layer ∷ []) ∙ ap (λ (fs : List (List (List Pt))). all_features layers ++ fs) (append-nil layer)

-- the numbers of one more layer, by what all have with it and without it
pub own_count : (fs gs : List (List (List Pt))) (m n : ℕ) → m ≡ length fs → n ≡ length (fs ++ gs) → n - m ≡ length gs
own_count fs gs m n d e = let l = length-append fs gs in omega (arith, d, e, l)

pub own_steps : (fs gs : List (List (List Pt))) (before after : List Seg) (owners owned : List ℕ) → AreFeatureSegments fs before owners → AreFeatureSegments (fs ++ gs) after owned → length after - length before ≡ length (feature_steps gs)
own_steps fs gs before after owners owned h k =
    let d = segments_count fs before owners h in
    let e = segments_count (fs ++ gs) after owned k in
    let l = steps_append fs gs in
    omega (arith, d, e, l)

pub sizes_features : (layers : List (List (List (List Pt)))) (layer : List (List (List Pt))) (sizes new : List LayerSize) (size : LayerSize) → new ≡ sizes ++ size ∷ [] → size.features ≡ length layer
    → map (λ (z : LayerSize). z.features) sizes ≡ map (λ (fs : List (List (List Pt))). length fs) layers
    → map (λ (z : LayerSize). z.features) new ≡ map (λ (fs : List (List (List Pt))). length fs) (layers ++ layer ∷ [])
sizes_features layers layer sizes new size e is before =
    ap (λ (zs : List LayerSize). map (λ (z : LayerSize). z.features) zs) e
    ∙ map-append (λ (z : LayerSize). z.features) sizes (size ∷ [])
    ∙ ap (λ (ns : List ℕ). ns ++ size.features ∷ []) before
    ∙ ap (λ (n : ℕ). map (λ (fs : List (List (List Pt))). length fs) layers ++ n ∷ []) is
    ∙ sym (map-append (λ (fs : List (List (List Pt))). length fs) layers (layer ∷ []))

pub sizes_segments : (layers : List (List (List (List Pt)))) (layer : List (List (List Pt))) (sizes new : List LayerSize) (size : LayerSize) → new ≡ sizes ++ size ∷ [] → size.segments ≡ length (feature_steps layer)
    → map (λ (z : LayerSize). z.segments) sizes ≡ map (λ (fs : List (List (List Pt))). length (feature_steps fs)) layers
    → map (λ (z : LayerSize). z.segments) new ≡ map (λ (fs : List (List (List Pt))). length (feature_steps fs)) (layers ++ layer ∷ [])
sizes_segments layers layer sizes new size e is before =
    ap (λ (zs : List LayerSize). map (λ (z : LayerSize). z.segments) zs) e
    ∙ map-append (λ (z : LayerSize). z.segments) sizes (size ∷ [])
    ∙ ap (λ (ns : List ℕ). ns ++ size.segments ∷ []) before
    ∙ ap (λ (n : ℕ). map (λ (fs : List (List (List Pt))). length (feature_steps fs)) layers ++ n ∷ []) is
    ∙ sym (map-append (λ (fs : List (List (List Pt))). length (feature_steps fs)) layers (layer ∷ []))

-- the steps of all features are those of the layers, one after another
pub steps_of_all : (layers : List (List (List (List Pt)))) → feature_steps (all_features layers) ≡ all_steps layers
steps_of_all [] = refl
steps_of_all (layer ∷ layers) =
    ap layer_steps (flat_map-append (λ (rings : List (List Pt)). rings) layer (all_features layers))
    ∙ rings_append (all_rings layer) (all_rings (all_features layers))
    ∙ ap (λ (ss : List (Pt × Pt)). feature_steps layer ++ ss) (steps_of_all layers)
