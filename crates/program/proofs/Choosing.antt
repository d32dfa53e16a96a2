-- The side of a tile where none is given.
use Rattle.std.proofs.Common.{◌≡◌, ℕ, Bool, true, not, List, ◌∷◌, [], Option, Some, None, Result, Ok, Err, inr, is_some, subst, refl}
use Rattle.geom.specs.declared.fault.Fault.TheVariants.{TooManyTiles}
use Rattle.geom.specs.declared.fault.Part.{Part}
use Rattle.geom.specs.declared.fault.Part.TheVariants.{Run}
use Rattle.geom.specs.declared.fault.RunFault.{RunFault}
use Rattle.geom.specs.declared.op.Op.{Op}
use Rattle.layers.specs.FacesRefusals.{IsFacesRefusedAt}
use Rattle.layers.specs.Refusals.{IsRefusedAtWithin}
use Rattle.layers.specs.declared.faces_fault.FacesFault.{FacesFault}
use Rattle.layers.specs.declared.faces_fault.FacesPart.{FacesPart}
use Rattle.layers.specs.declared.faces_fault.FacesPart.TheVariants.{Run as AllLayers}
use Rattle.layers.specs.declared.faces_fault.FacesRefusal.TheVariants.{Usual}
use Rattle.layers.specs.declared.faces_limits.FacesLimits.{FacesLimits}
use Rattle.layers.specs.declared.plan.Plan.{Plan}
use Rattle.engine.specs.CoveredRuns.{covered_limits}
use Rattle.engine.specs.Fitting.{IsFittingSide, IsFittingSideOver}
use Rattle.engine.specs.Runs.{RunsWithin}
use Rattle.results.specs.Sinks.{SinkState}
use Rattle.results.specs.declared.text.Report.{Report}
use Rattle.engine.specs.declared.faces_report.FacesReport.{FacesReport}
use Rattle.program.specs.Program.{IsChosenSide, IsChosenSideOver, IsFitted, IsFittedOver, RunsCoveredFor, limit_of, plan_of}
use Rattle.program.specs.FacesProgram.{RunsFacesFor, faces_limits_of, faces_plan_of}
use Rattle.program.specs.declared.asked.FacesRequest.{FacesRequest}
use Rattle.program.specs.declared.asked.Request.{Request}

-- one that fits is taken
pub fitting_chosen : (given : Option ℕ) (a b : List ℕ) (side : ℕ) (without : Bool) → is_some given ≡ not without → without ≡ true → IsFittingSide a b side → IsChosenSide given a b side
fitting_chosen None a b side without e h fits = inr fits
fitting_chosen (Some s) a b side without e h fits = cc

pub fitting_chosen_over : (given : Option ℕ) (texts : List (List ℕ)) (side : ℕ) (without : Bool) → is_some given ≡ not without → without ≡ true → IsFittingSideOver texts side
    → IsChosenSideOver given texts side
fitting_chosen_over None texts side without e h fits = inr fits
fitting_chosen_over (Some s) texts side without e h fits = cc

-- with a side for which no layers have too many tiles, a run isn't refused for them
pub fitted : (given : Option ℕ) (request : Request) (side : ℕ) (a b : List ℕ) → ((limit : ℕ) (plan : Plan) → plan.side ≡ side → (count : ℕ) → ¬ IsRefusedAtWithin limit plan a b Run (TooManyTiles count))
    → {S R : Type 0} (state : S → SinkState) (old new : S) (IsAnswer : List ℕ → R → Type 0) (r : Result R RunFault)
    → RunsWithin (limit_of request.segments) state old new (plan_of request side) a b IsAnswer r → IsFitted given r
fitted None request side a b fits state old new IsAnswer (Ok report) h = tt
fitted None request side a b fits state old new IsAnswer (Err f) h = λ count at is.
    let refused = rw is at h in
    fits (limit_of request.segments) (plan_of request side) refl count (subst (λ (p : Part). IsRefusedAtWithin (limit_of request.segments) (plan_of request side) a b p (TooManyTiles count)) at refused.0)
fitted (Some s) request side a b fits state old new IsAnswer r h = tt

-- and the same of features
pub fitted_faces : (given : Option ℕ) (side : ℕ) (texts : List (List ℕ)) → ((limits : FacesLimits) (plan : Plan) → plan.side ≡ side → (count : ℕ) → ¬ IsFacesRefusedAt limits plan texts AllLayers (Usual (TooManyTiles count)))
    → (request : FacesRequest) → {S M : Type 0} (state : S → SinkState) (old new : S) (r : Result (FacesReport M) FacesFault) → RunsFacesFor state old new request side texts r → IsFittedOver given r
fitted_faces None side texts fits request state old new (Ok report) h = tt
fitted_faces None side texts fits request state old new (Err f) h = λ count at is.
    let refused = rw is at h in
    fits (faces_limits_of request.segments) (faces_plan_of request side) refl count (subst (λ (p : FacesPart). IsFacesRefusedAt (faces_limits_of request.segments) (faces_plan_of request side) texts p (Usual (TooManyTiles count))) at refused.0)
fitted_faces (Some s) side texts fits request state old new r h = tt

pub fitted_covered : (given : Option ℕ) (side : ℕ) (a b : List ℕ) → ((limits : FacesLimits) (plan : Plan) → plan.side ≡ side → (count : ℕ) → ¬ IsFacesRefusedAt limits plan (a ∷ b ∷ []) AllLayers (Usual (TooManyTiles count)))
    → (request : Request) (op : Op) → {S M : Type 0} (state : S → SinkState) (old new : S) (r : Result (Report M) FacesFault) → RunsCoveredFor state old new request op side a b r → IsFittedOver given r
fitted_covered None side a b fits request op state old new (Ok report) h = tt
fitted_covered None side a b fits request op state old new (Err f) h = λ count at is.
    let refused = rw is at h in
    fits (covered_limits (limit_of request.segments)) (plan_of request side) refl count (subst (λ (p : FacesPart). IsFacesRefusedAt (covered_limits (limit_of request.segments)) (plan_of request side) (a ∷ b ∷ []) p (Usual (TooManyTiles count))) at refused.0)
fitted_covered (Some s) side a b fits request op state old new r h = tt
