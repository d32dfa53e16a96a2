-- What is wrong with a plan is refused, whatever the layers are.
use Rattle.std.proofs.Common.{◌≡◌, ℕ, List, refl}
use Rattle.std.specs.Prelude.{true}
use Rattle.geom.specs.Fault.{belongs}
use Rattle.geom.specs.declared.fault.Fault.{Fault}
use Rattle.geom.specs.declared.fault.Fault.TheVariants.{BadTile, BadWorkers}
use Rattle.geom.specs.declared.fault.Part.TheVariants.{Run as OfRun}
use Rattle.layers.specs.declared.plan.Plan.{Plan}
use Rattle.layers.specs.declared.faces_fault.FacesPart.TheVariants.{Run}
use Rattle.layers.specs.declared.faces_fault.FacesRefusal.TheVariants.{Usual}
use Rattle.layers.specs.declared.faces_limits.FacesLimits.{FacesLimits}
use Rattle.layers.specs.FacesRefusals as faces
use Rattle.layers.specs.Refusals.{IsPlanFault, IsRefusedPlan, bad_tile, bad_workers}

pub plan_refused : (plan : Plan) (fault : Fault) → IsPlanFault plan fault → IsRefusedPlan plan OfRun fault
plan_refused plan BadTile h = λ limit a b. bad_tile h
plan_refused plan BadWorkers h = λ limit a b. bad_workers h.0 h.1
plan_refused plan fault h = absurd h

pub plan_belongs : (plan : Plan) (fault : Fault) → IsPlanFault plan fault → belongs OfRun fault ≡ true
plan_belongs plan BadTile h = refl
plan_belongs plan BadWorkers h = refl
plan_belongs plan fault h = absurd h

pub faces_plan_refused : (limits : FacesLimits) (plan : Plan) (texts : List (List ℕ)) (fault : Fault) → IsPlanFault plan fault → faces.IsFacesRefusedAt limits plan texts Run (Usual fault)
faces_plan_refused limits plan texts BadTile h = faces.bad_tile h
faces_plan_refused limits plan texts BadWorkers h = faces.bad_workers h.0 h.1
faces_plan_refused limits plan texts fault h = absurd h
