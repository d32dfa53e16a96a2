-- Layers that are columns, one after another: what is surveyed and refused of them.
use Rattle.std.proofs.Common.{◌≡◌, ◌∙◌, ℕ, zero, suc, ◌+◌, ◌-◌, ◌<◌, ◌≤◌, List, [], ◌∷◌, ◌++◌, append_assoc, length, map, get_or, replicate, take, refl, sym, ap, arith, subst}
use Rattle.std.proofs.lemmas.List.{get_or-map, length-append, length-map, length-replicate, map-append, map_more, take_more}
use Rattle.geom.specs.declared.point.Pt.{Pt}
use Rattle.geom.specs.Segments.{layer_steps}
use Rattle.geom.specs.declared.fault.Fault.{Fault}
use Rattle.geom.specs.declared.fault.Fault.TheVariants.{BadTile, BadWorkers, TooManySegments}
use Rattle.grid.specs.Tiles.{AreBounds}
use Rattle.wkt.specs.Features.{all_rings}
use Rattle.wkt.specs.Outlines.{IsOutline}
use Rattle.wkt.specs.declared.outline.Outline.{Outline}
use Rattle.columns.specs.declared.layout.Columns.{Columns}
use Rattle.columns.specs.Layout.{feature_rings_in, joined, plain, plain_ring}
use Rattle.columns.specs.Refusals.{AreAccepted}
use Rattle.layers.specs.declared.column_layers.SurveyedLayers.{SurveyedLayers}
use Rattle.layers.specs.declared.plan.Plan.{Plan}
use Rattle.layers.specs.declared.columns_refused.FacesColumnsRefused.{FacesColumnsRefused}
use Rattle.layers.specs.declared.columns_refused.FacesColumnsRefused.TheVariants.{Run}
use Rattle.layers.specs.declared.faces_fault.FacesFault.{FacesFault}
use Rattle.layers.specs.declared.faces_fault.FacesRefusal.{FacesRefusal}
use Rattle.layers.specs.declared.faces_fault.FacesRefusal.TheVariants.{Usual}
use Rattle.layers.specs.declared.faces_limits.FacesLimits.{FacesLimits}
use Rattle.layers.specs.ColumnLayers.{AllAccepted, AreSurveyed, TellsBadColumns, features_in, features_of}
use Rattle.layers.specs.ColumnsRefusals.{rings_of}
use Rattle.layers.specs.FaceColumnsRefusals.{IsFaceColumnsRefused, bad_layer, bad_tile, bad_workers, too_many, too_many_tiles}
use Rattle.layers.specs.FeatureSegments.{HaveOwners, all_steps, feature_steps}
use Rattle.layers.specs.FeatureLayers.{TellsManyTiles}
use Rattle.layers.specs.Grids.{AreBoundsOf, AreJointBounds}
use Rattle.layers.specs.Refusals.{IsPlan, IsPlanFault}
use Rattle.layers.proofs.ReadLaws.{steps_snoc}

-- ---- the features of a layer have its rings
plain_joined : (features : List (List (List Pt))) → all_rings (map plain features) ≡ plain (joined features)
plain_joined [] = refl
plain_joined (f ∷ fs) = ap (λ (rs : List (List Pt)). plain f ++ rs) (plain_joined fs) ∙ sym (map-append plain_ring f (joined fs))

pub steps_of_columns : (c : Columns) → feature_steps (features_of c) ≡ layer_steps (rings_of c)
steps_of_columns c = ap layer_steps (plain_joined (feature_rings_in c))

-- ---- one feature more
pub features_count : (c : Columns) → length (features_of c) ≡ length (feature_rings_in c)
features_count c = length-map (feature_rings_in c) plain

pub next_of_columns : (others : List (List (List Pt))) (c : Columns) (i : ℕ) → i < length (feature_rings_in c)
    → (others ++ take i (features_of c)) ++ plain (get_or (feature_rings_in c) i []) ∷ [] ≡ others ++ take (i + 1) (features_of c)
next_of_columns others c i h =
    append_assoc others (take i (features_of c)) (plain (get_or (feature_rings_in c) i []) ∷ [])
    ∙ ap (λ (f : List (List Pt)). others ++ (take i (features_of c) ++ f ∷ [])) (sym (get_or-map plain (feature_rings_in c) i [] [] h))
    ∙ ap (λ (fs : List (List (List Pt))). others ++ fs) (sym (take_more (features_of c) i [] (subst (λ (n : ℕ). i < n) (sym (features_count c)) h)))

pub owners_each : (old new : List ℕ) (count owner : ℕ) → length old ≤ count → HaveOwners old count owner new → length new ≡ count
owners_each old new count owner few h =
    let all = ap (λ (os : List ℕ). length os) h ∙ length-append old (replicate (count - length old) owner) in
    let more = length-replicate (count - length old) owner in
    omega (arith, all, more, few)

-- ---- one layer more
pub accepted_more : (layers : List Columns) (layer : Columns) → AllAccepted layers → AreAccepted layer → AllAccepted (layers ++ layer ∷ [])
accepted_more [] layer h a = (a, tt)
accepted_more (l ∷ ls) layer h a = (h.0, accepted_more ls layer h.1 a)

pub accepted_at : (layers : List Columns) (i : ℕ) (d : Columns) → i < length layers → AllAccepted layers → AreAccepted (get_or layers i d)
accepted_at [] i d l a = absurd (omega (arith, l))
accepted_at (c ∷ cs) zero d l a = a.0
accepted_at (c ∷ cs) (suc i) d l a = accepted_at cs i d (omega (arith, l)) a.1

pub next_layer : (layers : List Columns) (i : ℕ) (d : Columns) → i < length layers → features_in (take i layers) ++ features_of (get_or layers i d) ∷ [] ≡ features_in (take (i + 1) layers)
next_layer layers i d below = sym (map_more features_of layers i d below)

pub surveyed_more : (layers : List Columns) (layer : Columns) (old new : SurveyedLayers) (outline : Outline) → AreSurveyed layers old → AreAccepted layer → IsOutline (rings_of layer) outline
    → new.segments ≡ old.segments + outline.segments → AreJointBounds old.bounds outline.bounds new.bounds → AreBounds new.bounds → AreSurveyed (layers ++ layer ∷ []) new
surveyed_more layers layer old new outline h accepted is sum joint inside =
    let steps = steps_of_columns layer in
    let lists : features_in (layers ++ layer ∷ []) ≡ features_in layers ++ features_of layer ∷ [] = map-append features_of layers (layer ∷ []) in
    let whole : all_steps (features_in (layers ++ layer ∷ [])) ≡ all_steps (features_in layers) ++ feature_steps (features_of layer) =
    ap all_steps lists ∙ steps_snoc (features_in layers) (features_of layer) in
    let own : outline.segments ≡ length (feature_steps (features_of layer)) = is.count ∙ ap (λ (ss : List (Pt × Pt)). length ss) (sym steps) in
    let box : AreBoundsOf (feature_steps (features_of layer)) outline.bounds = subst (λ (ss : List (Pt × Pt)). AreBoundsOf ss outline.bounds) (sym steps) is.box in
    record {
      accepted = accepted_more layers layer h.accepted accepted;
      segments =
          sum
          ∙ ap (λ (n : ℕ). n + outline.segments) h.segments
          ∙ ap (λ (n : ℕ). length (all_steps (features_in layers)) + n) own
          ∙ sym (length-append (all_steps (features_in layers)) (feature_steps (features_of layer)))
          ∙ ap (λ (ss : List (Pt × Pt)). length ss) (sym whole);
      bounds = subst (λ (ss : List (Pt × Pt)). AreBoundsOf ss new.bounds) (sym whole) (joint (all_steps (features_in layers)) (feature_steps (features_of layer)) h.bounds box);
      in_limit = inside;
    }

-- ---- what is refused
pub plan_refuses : (limits : FacesLimits) (plan : Plan) (layers : List Columns) (fault : Fault) → IsPlanFault plan fault → IsFaceColumnsRefused limits plan layers (Run (Usual fault))
plan_refuses limits plan layers BadTile h = bad_tile h
plan_refuses limits plan layers BadWorkers h = bad_workers h.0 h.1
plan_refuses limits plan layers fault h = absurd h

module _ (limits : FacesLimits) (plan : Plan) (layers : List Columns) (p : IsPlan plan) where
  pub layer_refuses : (r : FacesColumnsRefused) → TellsBadColumns layers r → IsFaceColumnsRefused limits plan layers r
  layer_refuses r h = subst (λ (x : FacesColumnsRefused). IsFaceColumnsRefused limits plan layers x) (sym h.2) (bad_layer p h.3)

  module _ (s : SurveyedLayers) (are : AreSurveyed layers s) where
    pub segments_refuse : (f : FacesRefusal) → f ≡ Usual (TooManySegments s.segments) → limits.segments < s.segments → IsFaceColumnsRefused limits plan layers (Run f)
    segments_refuse f is many = subst (λ (x : FacesRefusal). IsFaceColumnsRefused limits plan layers (Run x)) (sym (is ∙ ap (λ (n : ℕ). Usual (TooManySegments n)) are.segments))
        (too_many p are.accepted (subst (λ (n : ℕ). limits.segments < n) are.segments many))

    pub tiles_refuse : (f : FacesFault) → s.segments ≤ limits.segments → TellsManyTiles s.bounds plan.side f → IsFaceColumnsRefused limits plan layers (Run f.refusal)
    tiles_refuse f few h = subst (λ (x : FacesRefusal). IsFaceColumnsRefused limits plan layers (Run x)) (sym h.4)
        (too_many_tiles p are.accepted (subst (λ (n : ℕ). n ≤ limits.segments) are.segments few) h.0 (record { bounds = s.bounds; are_bounds = are.bounds; is_grid = h.1 }) h.2)
