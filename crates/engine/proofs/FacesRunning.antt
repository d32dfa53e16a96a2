-- How a call for faces ends, from what was made and sent.
use Rattle.std.proofs.Common.{◌≡◌, ℕ, List, length, refl, subst, sym}
use Rattle.std.specs.Prelude.{◌≢◌, Result, Ok, Err, MatchResult}
use Rattle.geom.specs.declared.fault.Fault.{Fault}
use Rattle.geom.specs.declared.fault.Fault.TheVariants.{LayerLong, Syntax, NumberRange, RingShort, RingOpen, TooManySegments, BadTile, BadWorkers, TooManyTiles, NotNoded, Memory, Write}
use Rattle.grid.specs.Tiles.{tile_count}
use Rattle.wkt.specs.Refusals.{IsRefusedWithin}
use Rattle.layers.specs.declared.plan.Plan.{Plan}
use Rattle.layers.specs.declared.faces_fault.FacesFault.{FacesFault}
use Rattle.layers.specs.declared.faces_fault.FacesPart.{FacesPart}
use Rattle.layers.specs.declared.faces_fault.FacesPart.TheVariants.{Run}
use Rattle.layers.specs.declared.faces_fault.FacesRefusal.{FacesRefusal}
use Rattle.layers.specs.declared.faces_fault.FacesRefusal.TheVariants.{Usual, TooManyIds}
use Rattle.layers.specs.declared.faces_limits.FacesLimits.{FacesLimits}
use Rattle.engine.specs.declared.faces_report.FacesReport.{FacesReport}
use Rattle.engine.specs.declared.faces_run.MadeFaces.{MadeFaces}
use Rattle.engine.specs.Faces.{AreFacesWritten, DeclinesFaces, DeliversFaces, RunsFaces, StopsFaces}
use Rattle.layers.specs.FacesRefusals.{IsFacesRefusedAt, bad_layer, bad_tile, bad_workers, too_many, too_many_ids, too_many_tiles}
use Rattle.layers.specs.FeatureSegments.{all_steps}
use Rattle.layers.specs.FeatureLayers.{MayRound}
use Rattle.layers.specs.Refusals.{IsPlanFault, text_limit}
use Rattle.results.specs.Sinks.{SinkState}
use Rattle.layers.proofs.PlanFaults.{faces_plan_refused}

-- ---- how a call without a sink ends
-- a fault for which no text is refused
abbrev IsOwnFault : Fault → Type 0
IsOwnFault fault = (limit : ℕ) (text : List ℕ) → IsRefusedWithin limit text fault → ⊥

module _ (limits : FacesLimits) (plan : Plan) (texts : List (List ℕ)) where
  never : (fault : Fault) → IsOwnFault fault → fault ≢ BadTile → fault ≢ BadWorkers → ((n : ℕ) → fault ≢ TooManySegments n) → ((n : ℕ) → fault ≢ TooManyTiles n)
      → (part : FacesPart) (f : FacesRefusal) → IsFacesRefusedAt limits plan texts part f → f ≢ Usual fault
  never fault own t w s g part f (bad_tile n) e = t (let k : BadTile ≡ fault = cc in sym k)
  never fault own t w s g part f (bad_workers a n) e = w (let k : BadWorkers ≡ fault = cc in sym k)
  never fault own t w s g part f (bad_layer {fault = h} p b) e = own (text_limit limits.segments) b.text (subst (λ (x : Fault). IsRefusedWithin (text_limit limits.segments) b.text x) (let k : h ≡ fault = cc in k) b.refused)
  never fault own t w s g part f (too_many p layers h k) e = s (length (all_steps layers)) (let k : TooManySegments (length (all_steps layers)) ≡ fault = cc in sym k)
  never fault own t w s g part f (too_many_tiles p layers h k grid o m) e = g (tile_count grid) (let k : TooManyTiles (tile_count grid) ≡ fault = cc in sym k)
  never fault own t w s g part f (too_many_ids layers grid r h m) e = cc

  never_memory : (part : FacesPart) (f : FacesRefusal) → IsFacesRefusedAt limits plan texts part f → f ≢ Usual Memory
  never_memory = never Memory (λ limit text r. r) (λ e. cc) (λ e. cc) (λ n e. cc) (λ n e. cc)

  never_write : (part : FacesPart) (f : FacesRefusal) → IsFacesRefusedAt limits plan texts part f → f ≢ Usual Write
  never_write = never Write (λ limit text r. r) (λ e. cc) (λ e. cc) (λ n e. cc) (λ n e. cc)

  pub refused_declines : (part : FacesPart) (f : FacesRefusal) → IsFacesRefusedAt limits plan texts part f → DeclinesFaces limits plan texts part f
  refused_declines part (Usual Memory) r = absurd (never_memory part (Usual Memory) r refl)
  refused_declines part (Usual LayerLong) r = r
  refused_declines part (Usual (Syntax o)) r = r
  refused_declines part (Usual (NumberRange o)) r = r
  refused_declines part (Usual (RingShort o)) r = r
  refused_declines part (Usual (RingOpen o)) r = r
  refused_declines part (Usual (TooManySegments n)) r = r
  refused_declines part (Usual BadTile) r = r
  refused_declines part (Usual BadWorkers) r = r
  refused_declines part (Usual (TooManyTiles n)) r = r
  refused_declines part (Usual (NotNoded e f)) r = r
  refused_declines part (Usual Write) r = r
  refused_declines part (TooManyIds ids) r = r

  pub memory_declines : (part : FacesPart) (f : FacesRefusal) → MayRound limits.segments plan texts → (part ≡ Run) × (f ≡ Usual Memory) → DeclinesFaces limits plan texts part f
  memory_declines part f may is = subst (λ (x : FacesRefusal). DeclinesFaces limits plan texts part x) (sym is.1) (is.0, may)

  pub plan_declines : (f : FacesFault) (fault : Fault) → f.at ≡ Run → f.refusal ≡ Usual fault → IsPlanFault plan fault → DeclinesFaces limits plan texts f.at f.refusal
  plan_declines f fault at is h = refused_declines f.at f.refusal
      (subst (λ (p : FacesPart). IsFacesRefusedAt limits plan texts p f.refusal) (sym at) (subst (λ (x : FacesRefusal). IsFacesRefusedAt limits plan texts Run x) (sym is) (faces_plan_refused limits plan texts fault h)))

  -- ---- how a call with a sink ends
  pub stops : {S : Type 0} (M : Type 0) (state : S → SinkState) (old : S) (part : FacesPart) (f : FacesRefusal) → DeclinesFaces limits plan texts part f → StopsFaces M limits state old old plan texts part f
  stops M state old part (Usual Memory) r = (r, refl)
  stops M state old part (Usual LayerLong) r = (r, refl)
  stops M state old part (Usual (Syntax o)) r = (r, refl)
  stops M state old part (Usual (NumberRange o)) r = (r, refl)
  stops M state old part (Usual (RingShort o)) r = (r, refl)
  stops M state old part (Usual (RingOpen o)) r = (r, refl)
  stops M state old part (Usual (TooManySegments n)) r = (r, refl)
  stops M state old part (Usual BadTile) r = (r, refl)
  stops M state old part (Usual BadWorkers) r = (r, refl)
  stops M state old part (Usual (TooManyTiles n)) r = (r, refl)
  stops M state old part (Usual (NotNoded e f)) r = (r, refl)
  stops M state old part (Usual Write) r = absurd (never_write part (Usual Write) r refl)
  stops M state old part (TooManyIds ids) r = (r, refl)

  pub sent_runs : {S M : Type 0} (state : S → SinkState) (old new : S) (made : MadeFaces M) → AreFacesWritten limits plan texts made.text made.report
      → (r : Result (FacesReport M) FacesFault) → DeliversFaces (state old) (state new) made r → RunsFaces limits state old new plan texts r
  sent_runs state old new made is (Ok told) h =
      record { text = made.text; written = subst (λ (m : FacesReport _). AreFacesWritten limits plan texts made.text m) (sym h.0) is; sent = h.1 }
  sent_runs {M = M} state old new made is (Err f) h =
      subst (λ (x : FacesRefusal). StopsFaces M limits state old new plan texts f.at x) (sym h.1)
      (h.0, record { text = made.text; report = made.report; written = is; sent = h.2 })

-- ---- what was checked is what was given
module _ {X M : Type 0} (text_in : X → List ℕ) (report_in : X → FacesReport M) where
  abbrev Ends : FacesLimits → Plan → List (List ℕ) → Result X FacesFault → Type 0
  Ends limits plan texts r = MatchResult r (λ m. AreFacesWritten limits plan texts (text_in m) (report_in m)) (λ f. DeclinesFaces limits plan texts f.at f.refusal)

  pub checked_ends : (limits checked : FacesLimits) (plan other : Plan) (texts others : List (List ℕ)) (r : Result X FacesFault) → other ≡ plan → checked ≡ limits → others ≡ texts → Ends checked other others r → Ends limits plan texts r
  checked_ends limits checked plan other texts others r p l t h =
      subst (λ (x : Plan). Ends limits x texts r) p (subst (λ (x : FacesLimits). Ends x other texts r) l (subst (λ (x : List (List ℕ)). Ends checked other x r) t h))
