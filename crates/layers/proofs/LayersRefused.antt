-- What is refused of layers, by what was read of them.
use Rattle.std.proofs.Common.{◌≡◌, ◌∙◌, ℕ, ◌<◌, ◌≤◌, List, length, sym, ap, subst}
use Rattle.geom.specs.declared.fault.Fault.TheVariants.{TooManySegments}
use Rattle.layers.specs.declared.plan.Plan.{Plan}
use Rattle.layers.specs.declared.faces_fault.FacesFault.{FacesFault}
use Rattle.layers.specs.declared.faces_fault.FacesPart.{FacesPart}
use Rattle.layers.specs.declared.faces_fault.FacesPart.TheVariants.{Run}
use Rattle.layers.specs.declared.faces_fault.FacesRefusal.{FacesRefusal}
use Rattle.layers.specs.declared.faces_fault.FacesRefusal.TheVariants.{Usual}
use Rattle.layers.specs.declared.faces_limits.FacesLimits.{FacesLimits}
use Rattle.layers.specs.declared.feature_reading.ReadLayers.{ReadLayers}
use Rattle.layers.specs.FacesRefusals.{IsFacesRefusedAt, bad_layer, too_many, too_many_tiles}
use Rattle.layers.specs.FeatureSegments.{all_steps}
use Rattle.layers.specs.FeatureLayers.{AreReadLayers, StandWithin, TellsBadLayer, TellsManyTiles}
use Rattle.layers.specs.Refusals.{IsPlan, text_limit}

-- a refusal, as a fault tells it
told_at : (limits : FacesLimits) (plan : Plan) (texts : List (List ℕ)) (f : FacesFault) (at : FacesPart) (refusal : FacesRefusal) → f.at ≡ at → f.refusal ≡ refusal → IsFacesRefusedAt limits plan texts at refusal → IsFacesRefusedAt limits plan texts f.at f.refusal
told_at limits plan texts f at refusal a r h = subst (λ (p : FacesPart). IsFacesRefusedAt limits plan texts p f.refusal) (sym a) (subst (λ (x : FacesRefusal). IsFacesRefusedAt limits plan texts at x) (sym r) h)

pub layer_refused : (limits : FacesLimits) (plan : Plan) (texts : List (List ℕ)) (f : FacesFault) → IsPlan plan → TellsBadLayer (text_limit limits.segments) texts f → IsFacesRefusedAt limits plan texts f.at f.refusal
layer_refused limits plan texts f p h = told_at limits plan texts f _ _ h.2 h.3 (bad_layer p h.4)

module _ {M : Type 0} (limits : FacesLimits) (plan : Plan) (texts : List (List ℕ)) (p : IsPlan plan) (read : ReadLayers M) (are : AreReadLayers (text_limit limits.segments) texts read) where
  stand : StandWithin (text_limit limits.segments) texts are.layers
  stand = record { short = are.short; stand = are.stand }

  pub segments_refused : (f : FacesFault) → f.at ≡ Run → f.refusal ≡ Usual (TooManySegments read.segments) → limits.segments < read.segments → IsFacesRefusedAt limits plan texts f.at f.refusal
  segments_refused f a r many = told_at limits plan texts f Run (Usual (TooManySegments (length (all_steps are.layers)))) a (r ∙ ap (λ (n : ℕ). Usual (TooManySegments n)) are.segments)
      (too_many p are.layers stand (subst (λ (n : ℕ). limits.segments < n) are.segments many))

  few_steps : read.segments ≤ limits.segments → length (all_steps are.layers) ≤ limits.segments
  few_steps few = subst (λ (n : ℕ). n ≤ limits.segments) are.segments few

  pub tiles_refused : (f : FacesFault) → read.segments ≤ limits.segments → TellsManyTiles read.bounds plan.side f → IsFacesRefusedAt limits plan texts f.at f.refusal
  tiles_refused f few h = told_at limits plan texts f _ _ h.3 h.4
      (too_many_tiles p are.layers stand (few_steps few) h.0 (record { bounds = read.bounds; are_bounds = are.bounds; is_grid = h.1 }) h.2)
