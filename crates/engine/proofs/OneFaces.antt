-- Two calls on the same layers have one text of faces.
use Rattle.std.proofs.Common.{◌≡◌, ℕ, List, subst}
use Rattle.std.proofs.Math.Logic.{∥∥₁_elim}
use Rattle.geom.specs.declared.point.Pt.{Pt}
use Rattle.faces_text.specs.Text.{IsFacesText}
use Rattle.faces_text.proofs.OneText.{faces_text_is_one as one_text}
use Rattle.layers.specs.declared.plan.Plan.{Plan}
use Rattle.layers.specs.declared.faces_limits.FacesLimits.{FacesLimits}
use Rattle.engine.specs.declared.faces_report.FacesReport.{FacesReport}
use Rattle.engine.specs.Faces.{AreFacesWritten, FacesTextIsOneWithin}
use Rattle.engine.proofs.Determined.{text_prop}
use Rattle.engine.proofs.LayersKnown.{one_list}

same_text : (M N : Type 0) (limits other_limits : FacesLimits) (texts : List (List ℕ)) (plan other : Plan) (text text' : List ℕ) (report : FacesReport M) (report' : FacesReport N)
    → AreFacesWritten limits plan texts text report → AreFacesWritten other_limits other texts text' report' → text ≡ text'
same_text M N limits other_limits texts plan other text text' report report' h k =
    let e : h.layers ≡ k.layers = one_list texts h.layers k.layers h.ready.stand k.ready.stand in
    ∥∥₁_elim h.faces (text_prop text text') (λ a.
    ∥∥₁_elim k.faces (text_prop text text') (λ b.
    one_text k.layers text text' (subst (λ (ls : List (List (List (List Pt)))). IsFacesText ls text) e a.is_text) b.is_text))

pub faces_text_is_one : (M N : Type 0) → FacesTextIsOneWithin M N
faces_text_is_one M N = same_text M N
