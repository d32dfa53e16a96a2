-- From what the engine says of faces to what a call for C says.
use Rattle.std.proofs.Common.{ℕ, ◌≤◌, List, subst}
use Rattle.std.proofs.Math.Logic.{∥∥₁_map}
use Rattle.layers.specs.declared.faces_limits.FacesLimits.{FacesLimits}
use Rattle.engine.specs.declared.faces_report.FacesReport.{FacesReport}
use Rattle.engine.specs.Faces.{AreFacesWritten}
use Rattle.engine.specs.Runs.{alone}
use Rattle.overlay_c.specs.Faces.{AreFacesMade}

-- the text of faces that was written, without its report
pub faces_made : {M : Type 0} (limits : FacesLimits) (side : ℕ) (texts : List (List ℕ)) (text : List ℕ) (report : FacesReport M) → AreFacesWritten limits (alone side) texts text report → AreFacesMade limits side texts text
faces_made limits side texts text report w = record {
  layers = w.layers;
  grid = w.grid;
  ready = w.ready;
  made = ∥∥₁_map w.faces (λ t. (t.is_text, subst (λ (n : ℕ). n ≤ limits.ids) t.ids w.few_ids));
}
