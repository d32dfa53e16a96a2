-- A text of faces tells of every point what covers it, and of every feature its area.
use Rattle.std.proofs.Common.{ℕ, List, length}
use Rattle.std.proofs.Math.Logic.{∥∥₁_map}
use Rattle.cover_law.proofs.AreasAdd.{areas_add_up}
use Rattle.cover_law.proofs.FaceLaws.{faces_tell}
use Rattle.layers.specs.declared.plan.Plan.{Plan}
use Rattle.layers.specs.declared.faces_limits.FacesLimits.{FacesLimits}
use Rattle.engine.specs.declared.faces_report.FacesReport.{FacesReport}
use Rattle.engine.specs.Faces.{AreFacesTold, AreFacesWritten, TellOfLayers, WrittenFacesTell}
use Rattle.layers.specs.FeatureSegments.{all_features}
use Rattle.engine.proofs.LayersInLimit.{layers_in_limit}

told : (M : Type 0) (limits : FacesLimits) (plan : Plan) (texts : List (List ℕ)) (text : List ℕ) (report : FacesReport M) (w : AreFacesWritten limits plan texts text report) → AreFacesTold w.layers w.grid text report → TellOfLayers w.layers text
told M limits plan texts text report w t =
    let faces = t.is_text.are_faces in
    let tell = faces_tell (all_features w.layers) t.is_text.rows faces (layers_in_limit limits.segments plan texts w.layers w.grid faces.segments faces.owners w.ready faces.are_segments) in
    record {
      is_text = t.is_text;
      tell = tell;
      areas = λ f l directed d. areas_add_up (length (all_features w.layers)) faces.edges tell.borders t.is_text.rows faces.are_rows f l directed d;
    }

pub written_faces_tell : (M : Type 0) → WrittenFacesTell M
written_faces_tell M limits plan texts text report w = (w.layers, w.ready.stand, ∥∥₁_map w.faces (told M limits plan texts text report w))
