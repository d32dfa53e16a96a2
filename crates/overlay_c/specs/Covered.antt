-- What the call for C answers for an operation on two layers that are read as covered (own).
use Rattle.std.specs.Prelude.{◌≡◌, ℕ, List, [], ◌∷◌, None, Some}
use Rattle.geom.specs.declared.op.Op.{Op}
use Rattle.geom.specs.declared.point.Pt.{Pt}
use Rattle.grid.specs.Tiles.{Tiling}
use Rattle.layers.specs.declared.faces_fault.FacesFault.{FacesFault}
use Rattle.layers.specs.FeatureLayers.{AreReady}
use Rattle.engine.specs.CoveredRuns.{DeclinesCovered, IsCoveredOf}
use Rattle.engine.specs.Runs.{alone}
use Rattle.overlay_c.specs.declared.answer.OverlayAnswer.{OverlayAnswer}
use Rattle.overlay_c.specs.Boundary.{plain}
use Rattle.overlay_c.specs.Columns.{op_from}
use Rattle.overlay_c.specs.Faces.{faces_answer}

-- the layers, with at most so many segments, and the tile side are within their limits, and this is the text of the result that is asked for
pub record IsCoveredMade (limit call side : ℕ) (a b text : List ℕ) : Type 0 where
  pub op : Op
  pub asked : op_from call ≡ Some op
  pub features_a : List (List (List Pt))
  pub features_b : List (List (List Pt))
  pub grid : Tiling
  pub ready : AreReady limit (alone side) (a ∷ b ∷ []) (features_a ∷ features_b ∷ []) grid
  pub result : ∥ IsCoveredOf op features_a features_b text ∥₁

-- why there is no text: no operation has the number, or the layers are refused
pub data FailsCovered (limit call side : ℕ) (a b : List ℕ) : OverlayAnswer → Type 0 where
  no_operation : op_from call ≡ None → FailsCovered limit call side a b (plain 2 0)
  declined : (op : Op) → op_from call ≡ Some op → (fault : FacesFault) → DeclinesCovered limit (alone side) a b fault.at fault.refusal → FailsCovered limit call side a b (faces_answer 2 fault)
