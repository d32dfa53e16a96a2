-- What was read of layers, one after another.
use Rattle.std.proofs.Common.{◌≡◌, ◌∙◌, ℕ, ◌+◌, List, [], ◌∷◌, ◌++◌, length, refl, sym, ap, subst}
use Rattle.std.specs.Prelude.{◌≤◌, Option}
use Rattle.std.proofs.lemmas.Grind.{flat_map-append}
use Rattle.std.proofs.lemmas.List.{append-nil, length-append}
use Rattle.std.proofs.lemmas.List.Elements.{All-push}
use Rattle.geom.specs.declared.point.Pt.{Pt}
use Rattle.geom.specs.declared.rect.Rect.{Rect}
use Rattle.geom.specs.Segments.{layer_steps}
use Rattle.grid.specs.Tiles.{AreBounds}
use Rattle.wkt.specs.Features.{StandsForFeatures}
use Rattle.wkt.specs.Refusals.{plain}
use Rattle.wkt.specs.declared.outline.Outline.{Outline}
use Rattle.wkt.proofs.Cuts.{stands_apart}
use Rattle.layers.specs.declared.feature_reading.ReadLayers.{ReadLayers}
use Rattle.layers.specs.FeatureSegments.{all_steps, feature_steps}
use Rattle.layers.specs.FeatureLayers.{AreKept, AreReadLayers, AreShort, HaveKept, StandForLayers}
use Rattle.layers.specs.Grids.{AreBoundsOf, AreJointBounds}
use Rattle.layers.specs.Refusals.{HasOutline, HasOutlineWithin}
use Rattle.layers.proofs.InLayers.{IsKept, zip_snoc}

pub steps_snoc : (layers : List (List (List (List Pt)))) (layer : List (List (List Pt))) → all_steps (layers ++ layer ∷ []) ≡ all_steps layers ++ feature_steps layer
steps_snoc layers layer = flat_map-append feature_steps layers (layer ∷ []) ∙ ap (λ (ss : List (Pt × Pt)). all_steps layers ++ ss) (append-nil (feature_steps layer))

pub kept_snoc : (texts : List (List ℕ)) (text : List ℕ) (kept : List (Option (List (List (List Pt))))) (f : Option (List (List (List Pt)))) → AreKept texts kept → IsKept text f → AreKept (texts ++ text ∷ []) (kept ++ f ∷ [])
kept_snoc texts text kept f h k = zip_snoc IsKept texts kept text f h k

-- a layer that a text stands for, with its segments as its outline tells them
pub record IsReadAs (text : List ℕ) (outline : Outline) : Type 0 where
  pub layer : List (List (List Pt))
  pub stands : StandsForFeatures text layer
  pub segments : outline.segments ≡ length (feature_steps layer)
  pub bounds : AreBoundsOf (feature_steps layer) outline.bounds

pub read_as : (text : List ℕ) (outline : Outline) → HasOutline text outline → IsReadAs text outline
read_as text outline own =
    let apart = stands_apart text (plain own.0) (own.0, own.1, refl) in
    let steps : feature_steps apart.0 ≡ layer_steps (plain own.0) = ap layer_steps apart.2 in
    record {
      layer = apart.0;
      stands = apart.1;
      segments = own.2.count ∙ ap (λ (ss : List (Pt × Pt)). length ss) (sym steps);
      bounds = subst (λ (ss : List (Pt × Pt)). AreBoundsOf ss outline.bounds) (sym steps) own.2.box;
    }

-- layers that are accepted within a limit of bytes, with the box of their segments
pub record AreBoxed (limit : ℕ) (texts : List (List ℕ)) (bounds : Option Rect) : Type 0 where
  pub layers : List (List (List (List Pt)))
  pub short : AreShort limit texts
  pub stand : StandForLayers texts layers
  pub bounds_of : AreBoundsOf (all_steps layers) bounds
  pub in_limit : AreBounds bounds

pub boxed_more : (limit : ℕ) (texts : List (List ℕ)) (text : List ℕ) (old new : Option Rect) (outline : Outline) → AreBoxed limit texts old → HasOutlineWithin limit text outline
    → AreJointBounds old outline.bounds new → AreBounds new → AreBoxed limit (texts ++ text ∷ []) new
boxed_more limit texts text old new outline h own joint inside =
    let next = read_as text outline (own.0, own.1.accepted, own.2) in
    record {
      layers = h.layers ++ next.layer ∷ [];
      short = All-push (λ (t : List ℕ). length t ≤ limit) texts text h.short own.1.short;
      stand = zip_snoc (λ (t : List ℕ) fs. StandsForFeatures t fs) texts h.layers text next.layer h.stand next.stands;
      bounds_of = subst (λ (ss : List (Pt × Pt)). AreBoundsOf ss new) (sym (steps_snoc h.layers next.layer)) (joint (all_steps h.layers) (feature_steps next.layer) h.bounds_of next.bounds);
      in_limit = inside;
    }

-- one more layer, which is accepted
pub read_more : {M : Type 0} (limit : ℕ) (texts : List (List ℕ)) (text : List ℕ) (old new : ReadLayers M) (outline : Outline) → AreReadLayers limit texts old → HasOutlineWithin limit text outline
    → new.segments ≡ old.segments + outline.segments → AreJointBounds old.bounds outline.bounds new.bounds → AreBounds new.bounds → HaveKept (texts ++ text ∷ []) new.kept → AreReadLayers limit (texts ++ text ∷ []) new
unfolding boxed_more
read_more limit texts text old new outline h own sum joint inside kept =
    let next = read_as text outline (own.0, own.1.accepted, own.2) in
    let boxed = boxed_more limit texts text old.bounds new.bounds outline (record { layers = h.layers; short = h.short; stand = h.stand; bounds_of = h.bounds; in_limit = h.in_limit }) own joint inside in
    record {
      layers = h.layers ++ next.layer ∷ [];
      short = boxed.short;
      stand = boxed.stand;
      segments =
          sum
          ∙ ap (λ (n : ℕ). n + outline.segments) h.segments
          ∙ ap (λ (n : ℕ). length (all_steps h.layers) + n) next.segments
          ∙ sym (length-append (all_steps h.layers) (feature_steps next.layer))
          ∙ ap (λ (ss : List (Pt × Pt)). length ss) (sym (steps_snoc h.layers next.layer));
      bounds = boxed.bounds_of;
      in_limit = inside;
      kept = kept;
    }
